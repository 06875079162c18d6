use Rattle.std.proofs.Common.{◌≡◌, ℕ, ℤ, List, Option, Some, true, length, sym, ◌∙◌, ap, subst, arith}
use Rattle.std.specs.Prelude.{IfSome, not}
use Rattle.std.specs.Option.{option_map}
use Rattle.std.specs.Int.{w64}
use Rattle.std.proofs.lemmas.Int.{to_z-of_z}
use Rattle.isp_disk.specs.Moments.{image_of, slice}
use Rattle.isp_format.specs.Leaf.{Stored}
use Rattle.isp_format.proofs.Slices.{length-slice}
use Rattle.isp_cells.specs.Cells.{IsWithin, Stand, place_in}
use Rattle.isp_cells.specs.declared.cells.Cell.{Cell}
use Rattle.isp_cells.specs.Rows.{exchanged, find, rewritten, stands, with_mark}
use Rattle.isp_cells.specs.LeafPages.{IsLeaf}
use Rattle.isp_cells.proofs.EditLaws.{absent, found_there, marked_is, there}
use Rattle.isp_cells.proofs.CellLaws.{leaf_stands}
use Rattle.isp_cells.proofs.edits.mark_place.Goals as goal

pub returns-in-Some-clause-page : goal.returns-in-Some-clause-page
returns-in-Some-clause-page c table own next rows leaf used_is place_is =
    let old = c.args.old.now.bytes in
    let key = to_z-of_z w64 c.args.key c.ranges.key in
    let found = found_there c.args.key rows c.args.place c.in-Some.cell place_is c.in-Some.is in
    let s = found.0 in
    let stand : Stand (image_of old) 64 c.args.used rows = subst (λ (n : ℕ). Stand (image_of old) 64 n rows) (sym used_is) (leaf_stands old table own next rows leaf.page) in
    let is_there = there (image_of old) c.args.used c.args.key rows c.args.place c.in-Some.cell s stand place_is c.in-Some.is found.1 in
    let row = c.piece-row.ensures ∙ ap (slice (image_of old) _) c.from.ensures in
    let same = marked_is (image_of old) c.args.place.at c.args.used c.args.key c.in-Some.cell s c.piece-row.result.now is_there row in
    let whole : record { at = c.args.place.at; here = Some c.in-Some.cell } ≡ c.args.place = λ i. record { at = c.args.place.at; here = sym c.in-Some.is i } in
    let new = c.rewrite_at.ensures table own next rows s leaf used_is (whole ∙ place_is ∙ ap (λ (k : ℤ). place_in k 64 rows) (sym key)) (ap (λ (k : ℤ). find k rows) key ∙ found.1) in
    let moved : IsLeaf c.rewrite_at.result.bytes table own next (exchanged c.args.key (Some (rewritten c.piece-row.result.now true s)) rows) = subst (λ (k : ℤ). IsLeaf c.rewrite_at.result.bytes table own next (exchanged k (Some (rewritten c.piece-row.result.now true s)) rows)) key new in
    let here : IsLeaf c.rewrite_at.result.bytes table own next (exchanged c.args.key (Some (with_mark s)) rows) = subst (λ (r : Stored). IsLeaf c.rewrite_at.result.bytes table own next (exchanged c.args.key (Some r) rows)) same moved in
    subst (λ (o : Option Stored). IsLeaf c.rewrite_at.result.bytes table own next (exchanged c.args.key o rows)) (sym (ap (λ (o : Option Stored). option_map with_mark o) found.1)) here

pub returns-in-Some-clause-some : goal.returns-in-Some-clause-some
returns-in-Some-clause-some c rows place_is =
    let found = found_there c.args.key rows c.args.place c.in-Some.cell place_is c.in-Some.is in
    ap (λ (o : Option Stored). not (stands o)) (sym found.1)

pub returns-in-None-clause-some : goal.returns-in-None-clause-some
returns-in-None-clause-some c rows place_is = ap (λ (o : Option Stored). not (stands o)) (sym (absent c.args.key rows c.args.place place_is c.in-None.is))

pub rewrite_at-requires-clause-row : goal.rewrite_at-requires-clause-row
rewrite_at-requires-clause-row c =
    let within : IsWithin c.args.place.at c.args.used c.in-Some.cell = subst (λ (o : Option Cell). IfSome o (IsWithin c.args.place.at c.args.used)) c.in-Some.is c.requires.within.here in
    let long : length c.piece-row.result.now ≡ c.from.result = ap (λ (l : List ℕ). length l) c.piece-row.ensures ∙ length-slice (image_of c.args.old.now.bytes) _ c.from.result in
    let size = c.from.ensures in
    let row = within.row in
    omega (arith, long, size, row)
