use Rattle.isp_sql.proofs.StatementLaws.{read_as_written}
use Rattle.isp_sql.proofs.laws.law_read_as_written.Goals as goal

pub returns : goal.returns
returns c = read_as_written
