use Rattle.std.proofs.Common.{◌≡◌, ℕ, ◌∙◌, ap, sym, subst, arith, length, take}
use Rattle.isp_disk.specs.InMemory.{Event, held_after}
use Rattle.isp_disk.specs.Kept.{IsInside, event_with}
use Rattle.isp_disk.specs.Moments.{slice}
use Rattle.isp_disk.proofs.Images.{slice_of}
use Rattle.isp_disk.proofs.Stopping.{inside_at}
use Rattle.isp_disk.proofs.stops.image_behind.Goals as goal

pub replay-requires : goal.replay-requires
replay-requires c =
    let at_size : ℕ → Type 0 = λ n. IsInside n (event_with c.call-kind.result.0 c.call-kind.result.1 c.call-kind.result.2.now) in
    let at_event : Event → Type 0 = λ e. IsInside (length c.args.first.now) e in
    subst at_size (sym c.loop-i.invariant.0) (subst at_event (sym c.call-kind.ensures) (inside_at (length c.args.first.now) c.args.log.now.calls c.loop-i.i c.requires.inside))

pub returns-clause-image : goal.returns-clause-image
returns-clause-image c =
    let all : c.loop-i.i ≡ c.args.made = omega arith in
    slice_of c.loop-i.image.items (held_after c.args.first.now (take c.loop-i.i c.args.log.now.calls)).image (length c.args.first.now) c.loop-i.invariant.0 c.loop-i.invariant.1
    ∙ ap (λ (n : ℕ). slice (held_after c.args.first.now (take n c.args.log.now.calls)).image 0 (length c.args.first.now)) all
