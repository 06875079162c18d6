-- A page of zeros, and the numbers of a list that was read.
use Rattle.std.proofs.Common.{◌≡◌, ℕ, zero, suc, ◌+◌, ◌*◌, ◌<◌, List, take, drop, replicate, refl, ◌∙◌, ap, arith}
use Rattle.std.specs.Prelude.{slice_index}
use Rattle.std.proofs.lemmas.List.{get_or-drop, get_or-take}
use Rattle.byteorder.specs.Endian.{big_number}
use Rattle.isp_disk.specs.Moments.{image_of}
use Rattle.isp_format.specs.Doublewrite.{most_copies}
use Rattle.isp_format.specs.Header.{number_in}
use Rattle.isp_format.proofs.Headers.{number_read}
use Rattle.isp_format.proofs.Slices.{slice_moved}

pub zeros_read : (n place : ℕ) → slice_index (replicate n 0) place ≡ 0
zeros_read zero place = refl
zeros_read (suc n) zero = refl
zeros_read (suc n) (suc place) = zeros_read n place

-- a number of the list of copies, behind their number
pub listed_number : (list : List ℕ) (k : ℕ) → k < most_copies → big_number 4 (drop (4 * k) (take 256 (drop 4 list))) ≡ number_in 4 list (4 + 4 * k)
listed_number list k small =
    let piece : List ℕ = take 256 (drop 4 list) in
    number_read 4 piece (4 * k)
    ∙ ap (big_number 4) (slice_moved (slice_index piece) (image_of list) (4 * k) (4 + 4 * k) 4 (λ j less.
    let behind : 4 + (4 * k + j) ≡ 4 + 4 * k + j = omega arith in
    get_or-take 256 (drop 4 list) (4 * k + j) 0 (omega (arith, less, small))
    ∙ get_or-drop 4 list (4 * k + j) 0
    ∙ ap (slice_index list) behind))
