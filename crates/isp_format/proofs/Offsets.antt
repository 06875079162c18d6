-- Ranges within ranges, and the first byte of what was put.
use Rattle.std.proofs.Common.{◌≡◌, ℕ, ◌+◌, ◌-◌, ◌≤◌, List, ◌∷◌, length, slice_index, ◌∙◌, ap, arith}
use Rattle.std.proofs.lemmas.Bool.Decides.{nat_tests}
use Rattle.isp_disk.specs.Moments.{Image, Within, in_range, put}
use Rattle.isp_format.proofs.Places.{inside}
use Rattle.isp_format.proofs.Slices.{put_inside}

pub range_within : (at size inner inner_size : ℕ) → at ≤ inner → inner + inner_size ≤ at + size → Within (in_range inner inner_size) (in_range at size)
range_within at size inner inner_size from to place out = grind (arith, nat_tests, from, to, out)

pub put_first : (image : Image) (at b : ℕ) (bs : List ℕ) → put image at (b ∷ bs) at ≡ b
put_first image at b bs =
    let here : at - at ≡ 0 = omega arith in
    put_inside image at (b ∷ bs) at (inside at (length (b ∷ bs)) at (omega arith) (omega arith)) ∙ ap (slice_index (b ∷ bs)) here
