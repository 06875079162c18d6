use Rattle.std.proofs.Common.{◌∙◌, ap, set}
use Rattle.isp_forest.specs.Steps.{reboxed}
use Rattle.isp_split.proofs.DivisionLaws.{fill_more}
use Rattle.isp_rplan.proofs.boxes.rebox.Goals as goal

pub loop-e-preserved : goal.loop-e-preserved
loop-e-preserved c =
    ap (set c.loop-e.e-items c.loop-e.e-index) c.reboxed.ensures
    ∙ fill_more (reboxed c.args.child.0 c.args.b.now) c.deref_mut-e-items.result.now c.loop-e.e-items c.loop-e.e-index _ c.loop-e-test.true c.loop-e.invariant
