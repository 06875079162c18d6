use Rattle.isp_trx.proofs.RootLaws.{root_none, root_read}
use Rattle.isp_trx.proofs.roots.root_of.Goals as goal

pub returns-in-Some-clause-root : goal.returns-in-Some-clause-root
returns-in-Some-clause-root c = root_read c.args.roots.now c.args.table c.in-Some.root.now c.in-Some.ensures.lookup.0 c.in-Some.ensures.lookup.1

pub returns-in-None-clause-none : goal.returns-in-None-clause-none
returns-in-None-clause-none c root from is = absurd (root_none c.args.roots.now c.args.table root c.in-None.ensures.lookup.0 is)
