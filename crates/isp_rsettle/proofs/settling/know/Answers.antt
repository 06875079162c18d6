use Rattle.std.proofs.Common.{◌∙◌, ap, set}
use Rattle.isp_rplan.specs.Plans.{known}
use Rattle.isp_split.proofs.DivisionLaws.{fill_more}
use Rattle.isp_rsettle.proofs.settling.know.Goals as goal

pub loop-e-preserved : goal.loop-e-preserved
loop-e-preserved c =
    ap (set c.loop-e.e-items c.loop-e.e-index) c.known.ensures
    ∙ fill_more (known c.args.to) c.deref_mut-e-items.result.now c.loop-e.e-items c.loop-e.e-index _ c.loop-e-test.true c.loop-e.invariant
