use Rattle.std.proofs.Common.{◌≡◌, ℕ, [], ◌∷◌, ◌∙◌, ap}
use Rattle.std.specs.Int.{cast_unsigned, w64}
use Rattle.std.proofs.lemmas.Int.{to_z-of_z}
use Rattle.isp_disk.specs.Moments.{Image, image_of, put}
use Rattle.isp_format.specs.Leaf.{Stored, key_bytes, mark_byte}
use Rattle.isp_format.specs.Numbers.{bytes_of}
use Rattle.isp_cells.proofs.EditLaws.{spelled_row}
use Rattle.isp_cells.proofs.edits.spelled.Goals as goal

pub returns : goal.returns
returns c =
    let old : Image = image_of c.zeros-p.result.bytes in
    let key : Image = image_of c.put_u64.new.p.bytes in
    let mark : Image = image_of c.put_bytes.new.p.bytes in
    let s : Stored = record { key = c.args.key; marked = c.args.marked; row = c.args.row.now; rest = c.args.rest.now } in
    let bits = c.cast_unsigned.ensures ∙ ap (cast_unsigned w64) (to_z-of_z w64 c.args.key c.ranges.key) in
    let put_key : key ≡ put old 0 (key_bytes c.args.key) = λ i place. (c.put_u64.ensures.put place ∙ ap (λ (n : ℕ). put old 0 (bytes_of 8 n) place) bits) i in
    let put_mark : mark ≡ put key 8 (mark_byte c.args.marked ∷ []) = λ i place. (c.put_bytes.ensures.put place ∙ ap (λ (n : ℕ). put key 8 (n ∷ []) place) c.mark_byte.ensures) i in
    spelled_row old key mark (image_of c.put_u16.new.p.bytes) (image_of c.put_u16-2.new.p.bytes) (image_of c.put_bytes-2.new.p.bytes) (image_of c.put_bytes-3.new.p.bytes) s put_key put_mark
    (λ i place. c.put_u16.ensures.put place i) (λ i place. c.put_u16-2.ensures.put place i) (λ i place. c.put_bytes-2.ensures.put place i) (λ i place. c.put_bytes-3.ensures.put place i)
