use Rattle.std.proofs.Common.{ℕ, Option, IfOk, sym, subst}
use Rattle.isp_format.specs.Log.{log_of}
use Rattle.isp_redo.specs.Places.{LeadsOn}
use Rattle.isp_redo.specs.declared.ranges.LogPlace.{LogPlace}
use Rattle.isp_redo.proofs.ranges.onward.Goals as goal

pub returns-then-at-end-clause-leads : goal.returns-then-at-end-clause-leads
returns-then-at-end-clause-leads g c tells pages few =
    subst (λ (place : ℕ). IfOk c.next_batch.result (λ (next : Option LogPlace). LeadsOn pages (log_of (g.W.World.image c.args.world.now)) (record { at = place; left = 0; end = c.args.end }) next)) (sym c.if-at-end.true) (c.next_batch.ensures.leads tells pages few)
