use Rattle.isp_trx.proofs.Makes.{makes_then}
use Rattle.isp_trx.proofs.ending.commit_for_good.Goals as goal

pub returns-in-Ok-clause-made : goal.returns-in-Ok-clause-made
returns-in-Ok-clause-made g c = makes_then g.P.Pages _ _ _ _ c.in-Ok.ensures.made c.flush.result c.flush.ensures.flushed.steps
