-- A slice of an image that is several pieces in a row.
use Rattle.std.proofs.Common.{◌≡◌, ℕ, zero, suc, ◌+◌, ◌^◌, ◌<◌, List, [], ◌∷◌, ◌++◌, length, sym, ◌∙◌, ap, arith}
use Rattle.std.proofs.lemmas.List.{append-nil}
use Rattle.byteorder.specs.Endian.{big_number}
use Rattle.byteorder.specs.Numbers.{big_number-reads_back, length-bytes_high_first}
use Rattle.isp_disk.specs.Moments.{Image, slice}
use Rattle.isp_format.specs.Numbers.{bytes_of, number_at}
use Rattle.isp_format.proofs.LogOnce.{cut}
use Rattle.isp_format.proofs.Slices.{length-slice}

pub slice_parts : (image : Image) (at first second : ℕ) → slice image at (first + second) ≡ slice image at first ++ slice image (at + first) second
slice_parts image at zero second =
    let none : zero + second ≡ second = omega arith in
    let start : at ≡ at + zero = omega arith in
    ap (slice image at) none ∙ ap (λ (p : ℕ). slice image p second) start
slice_parts image at (suc first) second =
    let more : suc first + second ≡ suc (first + second) = omega arith in
    let on : suc at + first ≡ at + suc first = omega arith in
    ap (slice image at) more ∙ (λ i. image at ∷ (slice_parts image (suc at) first second ∙ ap (λ (p : ℕ). slice image (suc at) first ++ slice image p second) on) i)

-- a slice that is two lists in a row
pub slice_cut : (image : Image) (at : ℕ) (first second : List ℕ) (size : ℕ) → slice image at size ≡ first ++ second → size ≡ length first + length second → (slice image at (length first) ≡ first) × (slice image (at + length first) (length second) ≡ second)
slice_cut image at first second size same long =
    let parts : slice image at (length first) ++ slice image (at + length first) (length second) ≡ first ++ second = sym (slice_parts image at (length first) (length second)) ∙ ap (slice image at) (sym long) ∙ same in
    cut (slice image at (length first)) first (slice image (at + length first) (length second)) second (length-slice image at (length first)) parts

-- a number that stands at the front of a slice, and what stands behind it
pub number_next : (size n : ℕ) (image : Image) (at left next : ℕ) (rest : List ℕ) → n < 256 ^ size → next ≡ at + size → slice image at (size + left) ≡ bytes_of size n ++ rest → (number_at size image at ≡ n) × (slice image next left ≡ rest)
number_next size n image at left next rest small is same =
    let parts : slice image at size ++ slice image (at + size) left ≡ bytes_of size n ++ rest = sym (slice_parts image at size left) ∙ same in
    let both = cut (slice image at size) (bytes_of size n) (slice image (at + size) left) rest (length-slice image at size ∙ sym (length-bytes_high_first size n)) parts in
    (ap (big_number size) (both.0 ∙ sym (append-nil (bytes_of size n))) ∙ big_number-reads_back size n [] small, ap (λ (p : ℕ). slice image p left) is ∙ both.1)
