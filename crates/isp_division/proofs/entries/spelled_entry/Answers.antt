use Rattle.std.proofs.Common.{◌≡◌, ℕ, ◌∙◌, ap}
use Rattle.std.specs.Int.{cast_unsigned, w64}
use Rattle.std.proofs.lemmas.Int.{to_z-of_z}
use Rattle.isp_disk.specs.Moments.{Image, image_of, put}
use Rattle.isp_format.specs.Leaf.{key_bytes}
use Rattle.isp_format.specs.Numbers.{bytes_of}
use Rattle.isp_division.proofs.EntryLaws.{entry_spelled}
use Rattle.isp_division.proofs.entries.spelled_entry.Goals as goal

pub returns : goal.returns
returns c =
    let old : Image = image_of c.zeros-p.result.bytes in
    let key : Image = image_of c.put_u64.new.p.bytes in
    let bits = c.cast_unsigned.ensures ∙ ap (cast_unsigned w64) (to_z-of_z w64 c.args.key c.ranges.key) in
    let put_key : key ≡ put old 0 (key_bytes c.args.key) = λ i place. (c.put_u64.ensures.put place ∙ ap (λ (n : ℕ). put old 0 (bytes_of 8 n) place) bits) i in
    entry_spelled old key (image_of c.put_u32.new.p.bytes) c.args.key c.args.page put_key (λ i place. c.put_u32.ensures.put place i)
