use Rattle.std.proofs.Common.{◌≡◌, ℕ, ◌+◌, List, [], false, length, ◌∙◌, ap, arith}
use Rattle.std.specs.Int.{w64}
use Rattle.std.proofs.lemmas.Int.{to_z-of_z}
use Rattle.isp_disk.specs.Moments.{image_of, slice}
use Rattle.isp_format.specs.Leaf.{IsStored, stored_bytes}
use Rattle.isp_cells.specs.Rows.{new_row}
use Rattle.isp_cells.proofs.EditLaws.{place_parts, put_leaf}
use Rattle.isp_cells.proofs.edits.put_at.Goals as goal

pub returns-clause-page : goal.returns-clause-page
returns-clause-page c table own next rows leaf used_is place_is =
    let parted = place_parts c.args.old.now.bytes table own next rows c.args.key c.args.used c.args.place leaf used_is place_is in
    let none : c.piece.result.now ≡ [] = c.piece.ensures in
    let none_long : length c.piece.result.now ≡ 0 = ap (λ (l : List ℕ). length l) none in
    let long : 13 + length c.args.row.now ≡ 13 + (length c.args.row.now + length c.piece.result.now) = omega (arith, none_long) in
    let key = to_z-of_z w64 c.args.key c.ranges.key in
    let few = c.requires.row in
    let is : IsStored (new_row c.args.key c.args.row.now) = record { key = c.ranges.key; slot = omega (arith, few) } in
    let piece_is : c.piece-put.result.now ≡ stored_bytes (new_row c.args.key c.args.row.now) = c.piece-put.ensures ∙ ap (slice (image_of c.spelled-whole.result.bytes) 0) long ∙ c.spelled-whole.ensures ∙ (λ i. stored_bytes (record { key = key i; marked = false; row = c.args.row.now; rest = none i })) in
    put_leaf c.args.old.now.bytes c.spliced.result.bytes table own next rows c.args.key c.args.used c.args.place c.place_end-end.result c.piece-put.result.now (new_row c.args.key c.args.row.now) c.count_with-count.result parted (c.count_with-count.ensures _ parted.counted parted.few) c.place_end-end.ensures piece_is is c.spliced.ensures.leaf
