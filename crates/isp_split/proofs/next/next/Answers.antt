use Rattle.std.proofs.Common.{◌+◌, sym, ◌∙◌, ap, subst, arith, Option, ℕ, not}
use Rattle.std.proofs.lemmas.List.{get_or_read}
use Rattle.isp_split.specs.Next.{difference}
use Rattle.isp_split.specs.Seeds.{no_box}
use Rattle.isp_split.proofs.NextLaws.{BestBelow, passed_over, looked_at, left_there, not_left_there, found, nothing_left}
use Rattle.isp_split.proofs.next.next.Goals as goal
use Rattle.isp_split.proofs.next.next.Goals.{then-is_none, else-is_none}

pub loop-place-preserved : goal.loop-place-preserved
loop-place-preserved c =
    let first = c.args.first.now.cover in
    let second = c.args.second.now.cover in
    let P : Option (ℕ × ℕ) → Type 0 = λ b. BestBelow first second c.args.boxes.now c.args.sides.now (c.loop-place.place + 1) b in
    elim c.if-is_none.branch [
      | then-is_none w ↦ (let left = left_there c.args.sides.now c.loop-place.place c.loop-place-test.true (c.is_none.ensures ∙ ap not w.if-is_none.true) in
          let read = get_or_read c.args.boxes.now c.loop-place.place w.index-boxes-place.result (omega arith) w.index-boxes-place.is no_box in
          let number = w.difference-differing.ensures ∙ ap (difference first second) read in
          subst P (sym (w.best-is ∙ w.greater-best.ensures)) (looked_at first second c.args.boxes.now c.args.sides.now c.loop-place.place w.difference-differing.result c.loop-place.best left number c.loop-place.invariant))
      | else-is_none w ↦ subst P (sym w.best-is) (passed_over first second c.args.boxes.now c.args.sides.now c.loop-place.place c.loop-place.best (not_left_there c.args.sides.now c.loop-place.place (c.is_none.ensures ∙ ap not w.if-is_none.false)) c.loop-place.invariant)
    ]

pub unreachable-requires : goal.unreachable-requires
unreachable-requires c =
    let none = nothing_left c.args.first.now.cover c.args.second.now.cover c.args.boxes.now c.args.sides.now c.loop-place.place c.loop-place.best c.in-None.is c.loop-place-test.false c.loop-place.invariant in
    omega (arith, none, c.requires.some)

pub returns : goal.returns
returns c = found c.args.first.now.cover c.args.second.now.cover c.args.boxes.now c.args.sides.now c.loop-place.place c.loop-place.best c.in-Some.place c.in-Some.field-0-1 c.in-Some.is c.loop-place-test.false c.loop-place.invariant
