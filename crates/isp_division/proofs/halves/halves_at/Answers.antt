use Rattle.std.proofs.Common.{◌≡◌, ℕ, ◌+◌, List, [], false, length, ◌∙◌, ap, arith}
use Rattle.std.specs.Int.{w64}
use Rattle.std.proofs.lemmas.Int.{to_z-of_z}
use Rattle.isp_disk.specs.Moments.{image_of, slice}
use Rattle.isp_format.specs.Leaf.{IsStored, stored_bytes}
use Rattle.isp_cells.specs.Rows.{new_row, with_put}
use Rattle.isp_cells.proofs.CellLaws.{none_some}
use Rattle.isp_division.proofs.PartLaws.{content_put, cut_same, large_size}
use Rattle.isp_division.proofs.halves.halves_at.Goals as goal

pub returns-in-Some-clause-halves : goal.returns-in-Some-clause-halves
returns-in-Some-clause-halves c table own next rows leaf used_is place_is large =
    let key = to_z-of_z w64 c.args.key c.ranges.key in
    let none : c.piece.result.now ≡ [] = c.piece.ensures in
    let none_long : length c.piece.result.now ≡ 0 = ap (λ (l : List ℕ). length l) none in
    let long : 13 + length c.args.row.now ≡ 13 + (length c.args.row.now + length c.piece.result.now) = omega (arith, none_long) in
    let few = c.requires.row in
    let is : IsStored (new_row c.args.key c.args.row.now) = record { key = c.ranges.key; slot = omega (arith, few) } in
    let put : c.piece-put.result.now ≡ stored_bytes (new_row c.args.key c.args.row.now) = c.piece-put.ensures ∙ ap (slice (image_of c.spelled-whole.result.bytes) 0) long ∙ c.spelled-whole.ensures ∙ (λ i. stored_bytes (record { key = key i; marked = false; row = c.args.row.now; rest = none i })) in
    let all = with_put c.args.key c.args.row.now rows in
    let content = content_put c.args.old.now.bytes (image_of c.joined-c.result.bytes) table own next c.args.used c.args.key rows c.args.place c.place_end-end.result c.count_with-count.result c.piece-put.result.now c.args.row.now leaf used_is place_is c.place_end-end.ensures put is c.count_with-count.ensures c.joined-c.ensures in
    let over = large_size _ all content.size_is large in
    let cut = cut_same _ _ c.cut_of.result c.in-Some.is (c.cut_of.ensures.cut all content.stand over content.few) in
    c.parted.ensures table own next rows all leaf content.stand content.counted cut over

pub returns-in-None-clause-some : goal.returns-in-None-clause-some
returns-in-None-clause-some c table own next rows leaf used_is place_is large =
    let key = to_z-of_z w64 c.args.key c.ranges.key in
    let none : c.piece.result.now ≡ [] = c.piece.ensures in
    let none_long : length c.piece.result.now ≡ 0 = ap (λ (l : List ℕ). length l) none in
    let long : 13 + length c.args.row.now ≡ 13 + (length c.args.row.now + length c.piece.result.now) = omega (arith, none_long) in
    let few = c.requires.row in
    let is : IsStored (new_row c.args.key c.args.row.now) = record { key = c.ranges.key; slot = omega (arith, few) } in
    let put : c.piece-put.result.now ≡ stored_bytes (new_row c.args.key c.args.row.now) = c.piece-put.ensures ∙ ap (slice (image_of c.spelled-whole.result.bytes) 0) long ∙ c.spelled-whole.ensures ∙ (λ i. stored_bytes (record { key = key i; marked = false; row = c.args.row.now; rest = none i })) in
    let all = with_put c.args.key c.args.row.now rows in
    let content = content_put c.args.old.now.bytes (image_of c.joined-c.result.bytes) table own next c.args.used c.args.key rows c.args.place c.place_end-end.result c.count_with-count.result c.piece-put.result.now c.args.row.now leaf used_is place_is c.place_end-end.ensures put is c.count_with-count.ensures c.joined-c.ensures in
    absurd (none_some _ c.cut_of.result c.in-None.is (c.cut_of.ensures.cut all content.stand (large_size _ all content.size_is large) content.few))
