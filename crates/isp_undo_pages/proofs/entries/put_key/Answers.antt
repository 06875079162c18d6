use Rattle.std.proofs.Common.{ℕ, ◌∙◌, ap}
use Rattle.std.specs.Int.{cast_unsigned, w64}
use Rattle.std.proofs.lemmas.Int.{to_z-of_z}
use Rattle.isp_disk.specs.Moments.{image_of, put}
use Rattle.isp_format.specs.Numbers.{bytes_of}
use Rattle.isp_undo_pages.proofs.entries.put_key.Goals as goal

pub returns-clause-put : goal.returns-clause-put
returns-clause-put c =
    let bits = c.cast_unsigned.ensures ∙ ap (cast_unsigned w64) (to_z-of_z w64 c.args.key c.ranges.key) in
    λ i place. (c.put_u64.ensures.put place ∙ ap (λ (n : ℕ). put (image_of c.args.p.now.bytes) c.args.at (bytes_of 8 n) place) bits) i
