use Rattle.isp_sql.proofs.StatementLaws.{one_meaning}
use Rattle.isp_sql.proofs.laws.law_one_meaning.Goals as goal

pub returns : goal.returns
returns c = one_meaning
