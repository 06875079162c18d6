use Rattle.std.proofs.Common.{◌∙◌, ap, set, None}
use Rattle.isp_split.specs.Division.{with_rest}
use Rattle.isp_split.proofs.DivisionLaws.{fill_more}
use Rattle.isp_split.proofs.division.fill.Goals as goal

pub loop-entry-preserved : goal.loop-entry-preserved
loop-entry-preserved c =
    ap (set c.loop-entry.entry-items c.loop-entry.entry-index) c.with_rest.ensures
    ∙ fill_more (with_rest c.args.side) c.deref_mut-entry-items.result.now c.loop-entry.entry-items c.loop-entry.entry-index None c.loop-entry-test.true c.loop-entry.invariant
