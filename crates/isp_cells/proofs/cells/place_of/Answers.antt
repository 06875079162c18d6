use Rattle.std.proofs.Common.{rules, ◌≡◌, ◌+◌, Some, None, true, false, refl, sym, ◌∙◌, ap, subst, arith, if◌then◌else◌}
use Rattle.std.specs.Prelude.{int_lt}
use Rattle.std.specs.Int.{cast_signed, w64}
use Rattle.std.specs.Ordering.{int_eq}
use Rattle.std.proofs.lemmas.Int.{to_z-of_z}
use Rattle.isp_disk.specs.Moments.{image_of}
use Rattle.isp_format.specs.Header.{number_in}
use Rattle.isp_cells.specs.Cells.{place_in}
use Rattle.isp_cells.proofs.CellLaws.{Walked, slot_in, walk_ends, walk_on, walk_some, walk_stops}
use Rattle.isp_cells.proofs.cells.place_of.Goals as goal

pub returns-in_default-clause-place : goal.returns-in_default-clause-place
returns-in_default-clause-place c rows st =
    absurd (walk_some (image_of c.args.p.now.bytes) c.args.key c.loop-at.at c.args.used (place_in c.args.key 64 rows) c.cell_at.result c.loop-at-test.true (subst (λ k. Walked (image_of c.args.p.now.bytes) k c.loop-at.at c.args.used (place_in k 64 rows)) (to_z-of_z w64 c.args.key c.ranges.key) (c.loop-at.invariant.2 rows st)) c.cell_at.ensures.stands (search rules))

pub returns-then-not-is_below-clause-place : goal.returns-then-not-is_below-clause-place
returns-then-not-is_below-clause-place c rows st =
    let key = to_z-of_z w64 c.args.key c.ranges.key in
    let number = number_in 8 c.args.p.now.bytes c.loop-at.at in
    let less : int_lt (cast_signed w64 number) c.args.key ≡ false = ap (int_lt (cast_signed w64 number)) (sym key) ∙ sym c.is_below.ensures ∙ c.if-not-is_below.true in
    let is : c.is_key.result ≡ int_eq (cast_signed w64 number) c.args.key = c.is_key.ensures ∙ ap (int_eq (cast_signed w64 number)) key in
    let stops = walk_stops (image_of c.args.p.now.bytes) c.args.key c.loop-at.at c.args.used (place_in c.args.key 64 rows) c.in-Some.cell c.loop-at-test.true (subst (λ k. Walked (image_of c.args.p.now.bytes) k c.loop-at.at c.args.used (place_in k 64 rows)) (to_z-of_z w64 c.args.key c.ranges.key) (c.loop-at.invariant.2 rows st)) less (λ s more there. sym c.in-Some.is ∙ c.cell_at.ensures.stands s more there) in
    ap Some ((λ i. record { at = c.loop-at.at; here = (c.only_if-here.ensures ∙ ap (λ b. if b then Some c.in-Some.cell else None) is) i }) ∙ stops)

pub loop-at-preserved : goal.loop-at-preserved
loop-at-preserved c =
    let key = to_z-of_z w64 c.args.key c.ranges.key in
    let number = number_in 8 c.args.p.now.bytes c.loop-at.at in
    let less : int_lt (cast_signed w64 number) c.args.key ≡ true = ap (int_lt (cast_signed w64 number)) (sym key) ∙ sym c.is_below.ensures ∙ c.if-not-is_below.false in
    let within = c.in-Some.ensures.within.slot in
    let slot = c.from.ensures in
    let from = c.loop-at.invariant.0 in (
      omega (arith, from),
      omega (arith, within, slot),
      λ rows st.
          subst (λ k. Walked (image_of c.args.p.now.bytes) k (c.loop-at.at + (13 + c.from.result)) c.args.used (place_in k 64 rows)) (sym key)
          (walk_on (image_of c.args.p.now.bytes) c.args.key c.loop-at.at c.args.used (c.loop-at.at + (13 + c.from.result)) c.from.result (place_in c.args.key 64 rows) c.loop-at-test.true (subst (λ k. Walked (image_of c.args.p.now.bytes) k c.loop-at.at c.args.used (place_in k 64 rows)) (to_z-of_z w64 c.args.key c.ranges.key) (c.loop-at.invariant.2 rows st)) less
          (λ s more there. slot ∙ ap slot_in (sym c.in-Some.is ∙ c.cell_at.ensures.stands s more there)) refl),
    )

pub returns-clause-place : goal.returns-clause-place
returns-clause-place c rows st =
    ap Some (walk_ends (image_of c.args.p.now.bytes) c.args.key c.loop-at.at c.args.used (place_in c.args.key 64 rows) c.loop-at-test.false (subst (λ k. Walked (image_of c.args.p.now.bytes) k c.loop-at.at c.args.used (place_in k 64 rows)) (to_z-of_z w64 c.args.key c.ranges.key) (c.loop-at.invariant.2 rows st)))
