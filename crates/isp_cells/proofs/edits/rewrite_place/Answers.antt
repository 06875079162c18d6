use Rattle.std.proofs.Common.{◌≡◌, ℤ, Option, Some, length, sym, ◌∙◌, ap, subst, arith}
use Rattle.std.specs.Prelude.{not}
use Rattle.std.specs.Option.{option_map}
use Rattle.std.specs.Int.{w64}
use Rattle.std.proofs.lemmas.Int.{to_z-of_z}
use Rattle.isp_format.specs.Leaf.{Stored}
use Rattle.isp_cells.specs.Cells.{place_in}
use Rattle.isp_cells.specs.Rows.{exchanged, find, rewritten, slot_holds}
use Rattle.isp_cells.specs.LeafPages.{IsLeaf}
use Rattle.isp_cells.proofs.EditLaws.{absent, found_there, holds_there, le_false, le_true}
use Rattle.isp_cells.proofs.edits.rewrite_place.Goals as goal

pub returns-then-row-from-clause-page : goal.returns-then-row-from-clause-page
returns-then-row-from-clause-page c table own next rows leaf used_is place_is =
    let key = to_z-of_z w64 c.args.key c.ranges.key in
    let row = c.args.row.now in
    let there = found_there c.args.key rows c.args.place c.in-Some.cell place_is c.in-Some.is in
    let s = there.0 in
    let whole : record { at = c.args.place.at; here = Some c.in-Some.cell } ≡ c.args.place = λ i. record { at = c.args.place.at; here = sym c.in-Some.is i } in
    let new = c.rewrite_at.ensures table own next rows s leaf used_is (whole ∙ place_is ∙ ap (λ (k : ℤ). place_in k 64 rows) (sym key)) (ap (λ (k : ℤ). find k rows) key ∙ there.1) in
    let here : IsLeaf c.rewrite_at.result.bytes table own next (exchanged c.args.key (Some (rewritten row c.args.marked s)) rows) = subst (λ (k : ℤ). IsLeaf c.rewrite_at.result.bytes table own next (exchanged k (Some (rewritten row c.args.marked s)) rows)) key new in
    subst (λ (o : Option Stored). IsLeaf c.rewrite_at.result.bytes table own next (exchanged c.args.key o rows)) (sym (ap (λ (o : Option Stored). option_map (rewritten row c.args.marked) o) there.1)) here

pub returns-then-row-from-clause-some : goal.returns-then-row-from-clause-some
returns-then-row-from-clause-some c rows place_is =
    let less = c.if-row-from.true in
    let slot = c.from.ensures in
    ap not (sym (le_true _ _ (omega (arith, less, slot))) ∙ holds_there c.args.key rows c.args.place c.in-Some.cell (length c.args.row.now) place_is c.in-Some.is)

pub returns-else-row-from-clause-some : goal.returns-else-row-from-clause-some
returns-else-row-from-clause-some c rows place_is =
    let over = c.if-row-from.false in
    let slot = c.from.ensures in
    ap not (sym (le_false _ _ (omega (arith, over, slot))) ∙ holds_there c.args.key rows c.args.place c.in-Some.cell (length c.args.row.now) place_is c.in-Some.is)

pub returns-in-None-clause-some : goal.returns-in-None-clause-some
returns-in-None-clause-some c rows place_is = ap (λ (o : Option Stored). not (slot_holds (length c.args.row.now) o)) (sym (absent c.args.key rows c.args.place place_is c.in-None.is))
