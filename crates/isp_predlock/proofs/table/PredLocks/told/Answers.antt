use Rattle.std.proofs.Common.{sym, ◌∙◌}
use Rattle.isp_predlock.proofs.CallLaws.{told_at}
use Rattle.isp_predlock.proofs.table.PredLocks.told.Goals as goal

pub returns : goal.returns
returns c = told_at c.args.self.now.searches c.args.id c.in_ok-sought.sought (sym c.in_ok-sought.was ∙ c.sought.ensures.sought)
