-- Lists of bytes as images.
use Rattle.std.proofs.Common.{◌≡◌, ℕ, zero, suc, ◌+◌, ◌<◌, List, [], ◌∷◌, length, refl, sym, ◌∙◌, ap, arith}
use Rattle.isp_disk.specs.Moments.{Image, image_of, slice}

rest_same : (one other : Image) (at other_at size : ℕ) → ((k : ℕ) → k < suc size → one (at + k) ≡ other (other_at + k)) → (k : ℕ) → k < size → one (suc at + k) ≡ other (suc other_at + k)
rest_same one other at other_at size same k below =
    let up : suc at + k ≡ at + suc k = omega arith in
    let other_up : other_at + suc k ≡ suc other_at + k = omega arith in
    ap one up ∙ same (suc k) (omega (arith, below)) ∙ ap other other_up

-- slices of images that agree from a place on
slice_same : (one other : Image) (at other_at size : ℕ) → ((k : ℕ) → k < size → one (at + k) ≡ other (other_at + k)) → slice one at size ≡ slice other other_at size
slice_same one other at other_at zero same = refl
slice_same one other at other_at (suc size) same =
    let start : at ≡ at + 0 = omega arith in
    let other_start : other_at + 0 ≡ other_at = omega arith in
    let first : one at ≡ other other_at = ap one start ∙ same 0 (omega arith) ∙ ap other other_start in
    λ i. first i ∷ slice_same one other (suc at) (suc other_at) size (rest_same one other at other_at size same) i

from_zero : (image : Image) (k : ℕ) → image (0 + k) ≡ image k
from_zero image k =
    let no_more : 0 + k ≡ k = omega arith in
    ap image no_more

behind : (b : ℕ) (bs : List ℕ) (k : ℕ) → image_of (b ∷ bs) (1 + k) ≡ image_of bs (0 + k)
behind b bs k =
    let one_more : 1 + k ≡ suc k = omega arith in
    let no_more : k ≡ 0 + k = omega arith in
    ap (image_of (b ∷ bs)) one_more ∙ ap (image_of bs) no_more

-- a list is the slice of its image that has its length
whole : (bytes : List ℕ) → slice (image_of bytes) 0 (length bytes) ≡ bytes
whole [] = refl
whole (b ∷ bs) = λ i. b ∷ (slice_same (image_of (b ∷ bs)) (image_of bs) 1 0 (length bs) (λ k below. behind b bs k) ∙ whole bs) i

-- a list with the bytes of an image from a place on
pub slice_at : (bytes : List ℕ) (image : Image) (at size : ℕ) → length bytes ≡ size → ((k : ℕ) → k < size → image_of bytes k ≡ image (at + k)) → bytes ≡ slice image at size
slice_at bytes image at size long same =
    sym (whole bytes)
    ∙ slice_same (image_of bytes) image 0 at (length bytes) (λ k below. from_zero (image_of bytes) k ∙ same k (omega (arith, below, long)))
    ∙ ap (λ (n : ℕ). slice image at n) long

-- and with all of them
pub slice_of : (bytes : List ℕ) (image : Image) (size : ℕ) → length bytes ≡ size → ((place : ℕ) → image_of bytes place ≡ image place) → bytes ≡ slice image 0 size
slice_of bytes image size long same = slice_at bytes image 0 size long (λ k below. same k ∙ sym (from_zero image k))

-- slices of images that are the same at each place
pub slices : (one other : Image) (at size : ℕ) → ((place : ℕ) → one place ≡ other place) → slice one at size ≡ slice other at size
slices one other at size same = slice_same one other at at size (λ k below. same (at + k))
