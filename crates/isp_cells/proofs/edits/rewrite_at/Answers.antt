use Rattle.std.proofs.Common.{◌≡◌, ℕ, ◌+◌, ◌-◌, List, length, Some, refl, sym, ◌∙◌, ap, subst, arith}
use Rattle.std.specs.Int.{w64}
use Rattle.std.proofs.lemmas.Int.{to_z-of_z}
use Rattle.isp_disk.specs.Moments.{image_of, slice}
use Rattle.isp_format.specs.Leaf.{stored_bytes}
use Rattle.isp_format.proofs.Slices.{length-slice}
use Rattle.isp_cells.specs.Cells.{Stand}
use Rattle.isp_cells.specs.Rows.{rewritten}
use Rattle.isp_cells.specs.declared.cells.Place.{Place}
use Rattle.isp_cells.proofs.EditLaws.{place_parts, put_leaf, there, written_is}
use Rattle.isp_cells.proofs.CellLaws.{leaf_stands}
use Rattle.isp_cells.proofs.edits.rewrite_at.Goals as goal

pub returns : goal.returns
returns c table own next rows s leaf used_is place_is found =
    let old = c.args.old.now.bytes in
    let row = c.args.row.now in
    let slot = c.from-slot.ensures in
    let fits = c.requires.row in
    let place : Place = record { at = c.args.at; here = Some c.args.cell } in
    let stand : Stand (image_of old) 64 c.args.used rows = subst (λ (n : ℕ). Stand (image_of old) 64 n rows) (sym used_is) (leaf_stands old table own next rows leaf.page) in
    let parted = place_parts old table own next rows c.args.key c.args.used place leaf used_is place_is in
    let is_there = there (image_of old) c.args.used c.args.key rows place c.args.cell s stand place_is refl found in
    let left : ℕ = c.from-slot.result - length row in
    let whole : length row + left ≡ c.args.cell.slot = omega (arith, slot, fits) in
    let written = written_is (image_of old) c.args.at c.args.used c.args.key c.args.cell s row c.piece-rest.result.now c.args.marked left is_there whole c.piece-rest.ensures in
    let rest_long : length c.piece-rest.result.now ≡ left = ap (λ (l : List ℕ). length l) c.piece-rest.ensures ∙ length-slice (image_of old) _ left in
    let long : 13 + c.from-slot.result ≡ 13 + (length row + length c.piece-rest.result.now) = omega (arith, rest_long, whole, slot) in
    let key = to_z-of_z w64 c.args.key c.ranges.key in
    let piece_is : c.piece-put.result.now ≡ stored_bytes (rewritten row c.args.marked s) = c.piece-put.ensures ∙ ap (slice (image_of c.spelled-whole.result.bytes) 0) long ∙ c.spelled-whole.ensures ∙ (λ i. stored_bytes (record { key = key i; marked = c.args.marked; row = row; rest = c.piece-rest.result.now })) ∙ ap stored_bytes written.0 in
    let ends : c.args.at + 13 + c.from-slot.result ≡ c.args.at + 13 + c.args.cell.slot = omega (arith, slot) in
    put_leaf old c.spliced.result.bytes table own next rows c.args.key c.args.used place _ c.piece-put.result.now (rewritten row c.args.marked s) c.count_of.result parted (c.count_of.ensures ∙ parted.counted) ends piece_is written.1 c.spliced.ensures.leaf

pub spelled-whole-requires : goal.spelled-whole-requires
spelled-whole-requires c =
    let slot = c.from-slot.ensures in
    let fits = c.requires.row in
    let within = c.requires.within.slot in
    let from = c.requires.from in
    let most = c.requires.inside in
    let long : length c.piece-rest.result.now ≡ c.from-slot.result - length c.args.row.now = ap (λ (l : List ℕ). length l) c.piece-rest.ensures ∙ length-slice (image_of c.args.old.now.bytes) _ (c.from-slot.result - length c.args.row.now) in
    omega (arith, slot, fits, within, from, most, long)

pub spliced-requires-clause-fits : goal.spliced-requires-clause-fits
spliced-requires-clause-fits c =
    let slot = c.from-slot.ensures in
    let within = c.requires.within.slot in
    let most = c.requires.inside in
    let long : length c.piece-put.result.now ≡ 13 + c.from-slot.result = ap (λ (l : List ℕ). length l) c.piece-put.ensures ∙ length-slice (image_of c.spelled-whole.result.bytes) 0 (13 + c.from-slot.result) in
    omega (arith, slot, within, most, long)
