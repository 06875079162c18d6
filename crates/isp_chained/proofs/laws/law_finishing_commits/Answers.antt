use Rattle.isp_chained.proofs.DatabaseLaws.{finished_rows}
use Rattle.isp_chained.proofs.laws.law_finishing_commits.Goals as goal

pub returns : goal.returns
returns c = finished_rows
