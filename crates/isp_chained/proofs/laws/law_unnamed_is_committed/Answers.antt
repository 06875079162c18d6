use Rattle.isp_chained.proofs.DatabaseLaws.{unnamed_committed}
use Rattle.isp_chained.proofs.laws.law_unnamed_is_committed.Goals as goal

pub returns : goal.returns
returns c = unnamed_committed
