-- Slices of images and numbers in them: they read their own places alone, and read back what was put there.
use Rattle.std.proofs.Common.{◌≡◌, ℕ, zero, suc, ◌+◌, ◌-◌, ◌<◌, ◌≤◌, ◌^◌, Bool, true, false, List, [], ◌∷◌, length, take, drop, refl, sym, ◌∙◌, ap, arith, if◌then◌else◌}
use Rattle.std.specs.Prelude.{slice_index}
use Rattle.std.proofs.lemmas.List.{append-nil, get_or-drop, length-drop}
use Rattle.byteorder.specs.Endian.{big_number}
use Rattle.byteorder.specs.Numbers.{big_number-reads_back, length-bytes_high_first}
use Rattle.isp_disk.specs.Moments.{Image, in_range, put, slice}
use Rattle.isp_format.specs.Numbers.{bytes_of, number_at}
use Rattle.isp_format.proofs.Places.{above, below, inside}

pub length-slice : (image : Image) (at size : ℕ) → length (slice image at size) ≡ size
length-slice image at zero = refl
length-slice image at (suc size) = let e = length-slice image (suc at) size in omega (arith, e)

-- images that agree on a range have one slice there
pub slice_agree : (one other : Image) (at size : ℕ) → ((place : ℕ) → at ≤ place → place < at + size → one place ≡ other place) → slice one at size ≡ slice other at size
slice_agree one other at zero same = refl
slice_agree one other at (suc size) same =
    let first : one at ≡ other at = same at (omega arith) (omega arith) in
    let rest : slice one (suc at) size ≡ slice other (suc at) size = slice_agree one other (suc at) size (λ place low high. same place (omega (arith, low)) (omega (arith, high))) in
    λ i. first i ∷ rest i

-- and at two places
pub slice_moved : (one other : Image) (at other_at size : ℕ) → ((k : ℕ) → k < size → one (at + k) ≡ other (other_at + k)) → slice one at size ≡ slice other other_at size
slice_moved one other at other_at zero same = refl
slice_moved one other at other_at (suc size) same =
    let start : at ≡ at + 0 = omega arith in
    let other_start : other_at + 0 ≡ other_at = omega arith in
    let first : one at ≡ other other_at = ap one start ∙ same 0 (omega arith) ∙ ap other other_start in
    let rest : slice one (suc at) size ≡ slice other (suc other_at) size = slice_moved one other (suc at) (suc other_at) size (λ k less.
    let up : suc at + k ≡ at + suc k = omega arith in
    let other_up : other_at + suc k ≡ suc other_at + k = omega arith in
    ap one up ∙ same (suc k) (omega (arith, less)) ∙ ap other other_up) in
    λ i. first i ∷ rest i

pub number_agree : (size : ℕ) (one other : Image) (at : ℕ) → ((place : ℕ) → at ≤ place → place < at + size → one place ≡ other place) → number_at size one at ≡ number_at size other at
number_agree size one other at same = ap (big_number size) (slice_agree one other at size same)

-- a byte of what was put
pub put_inside : (image : Image) (at : ℕ) (bytes : List ℕ) (place : ℕ) → in_range at (length bytes) place ≡ true → put image at bytes place ≡ slice_index bytes (place - at)
put_inside image at bytes place is = ap (λ (b : Bool). if b then slice_index bytes (place - at) else image place) is

-- a byte beside it
pub put_outside : (image : Image) (at : ℕ) (bytes : List ℕ) (place : ℕ) → in_range at (length bytes) place ≡ false → put image at bytes place ≡ image place
put_outside image at bytes place is = ap (λ (b : Bool). if b then slice_index bytes (place - at) else image place) is

pub put_below : (image : Image) (at : ℕ) (bytes : List ℕ) (place : ℕ) → place < at → put image at bytes place ≡ image place
put_below image at bytes place low = put_outside image at bytes place (below at (length bytes) place low)

pub put_above : (image : Image) (at : ℕ) (bytes : List ℕ) (place : ℕ) → at + length bytes ≤ place → put image at bytes place ≡ image place
put_above image at bytes place high = put_outside image at bytes place (above at (length bytes) place high)

-- a list is read from its own image
list_slice : (bytes : List ℕ) → slice (slice_index bytes) 0 (length bytes) ≡ bytes
list_slice [] = refl
list_slice (b ∷ bytes) =
    let rest : slice (slice_index (b ∷ bytes)) 1 (length bytes) ≡ slice (slice_index bytes) 0 (length bytes) = slice_moved (slice_index (b ∷ bytes)) (slice_index bytes) 1 0 (length bytes) (λ k less.
    let up : 1 + k ≡ suc k = omega arith in
    let none : k ≡ 0 + k = omega arith in
    ap (slice_index (b ∷ bytes)) up ∙ ap (slice_index bytes) none) in
    λ i. b ∷ (rest ∙ list_slice bytes) i

-- the front of a list, and a piece of it, are slices of its image
front_slice : (bytes : List ℕ) (size : ℕ) → size ≤ length bytes → take size bytes ≡ slice (slice_index bytes) 0 size
front_slice bytes zero fits = refl
front_slice [] (suc size) fits = absurd (omega (arith, fits))
front_slice (b ∷ bytes) (suc size) fits =
    let rest : slice (slice_index bytes) 0 size ≡ slice (slice_index (b ∷ bytes)) 1 size = slice_moved (slice_index bytes) (slice_index (b ∷ bytes)) 0 1 size (λ k less.
    let up : suc k ≡ 1 + k = omega arith in
    let none : 0 + k ≡ k = omega arith in
    ap (slice_index bytes) none ∙ ap (slice_index (b ∷ bytes)) up) in
    λ i. b ∷ (front_slice bytes size (omega (arith, fits)) ∙ rest) i

pub piece_slice : (bytes : List ℕ) (at size : ℕ) → at + size ≤ length bytes → take size (drop at bytes) ≡ slice (slice_index bytes) at size
piece_slice bytes at size fits =
    front_slice (drop at bytes) size (omega (arith, length-drop at bytes))
    ∙ slice_moved (slice_index (drop at bytes)) (slice_index bytes) 0 at size (λ k less.
    let none : at + (0 + k) ≡ at + k = omega arith in
    get_or-drop at bytes (0 + k) 0 ∙ ap (slice_index bytes) none)

-- what was put is read back
pub slice_put : (image : Image) (at : ℕ) (bytes : List ℕ) → slice (put image at bytes) at (length bytes) ≡ bytes
slice_put image at bytes = slice_moved (put image at bytes) (slice_index bytes) at 0 (length bytes) (λ k less.
    let is = inside at (length bytes) (at + k) (omega arith) (omega (arith, less)) in
    let moved : at + k - at ≡ 0 + k = omega arith in
    put_inside image at bytes (at + k) is ∙ ap (slice_index bytes) moved)
    ∙ list_slice bytes

-- a slice beside what was put
pub slice_beside : (image : Image) (at : ℕ) (bytes : List ℕ) (other size : ℕ) → ((place : ℕ) → other ≤ place → place < other + size → in_range at (length bytes) place ≡ false) → slice (put image at bytes) other size ≡ slice image other size
slice_beside image at bytes other size out = slice_agree (put image at bytes) image other size (λ place low high. put_outside image at bytes place (out place low high))

-- a number that was put is read back
pub number_put : (size : ℕ) (image : Image) (at n : ℕ) → n < 256 ^ size → number_at size (put image at (bytes_of size n)) at ≡ n
number_put size image at n fits =
    let long : size ≡ length (bytes_of size n) = sym (length-bytes_high_first size n) in
    ap (λ (k : ℕ). big_number size (slice (put image at (bytes_of size n)) at k)) long
    ∙ ap (big_number size) (slice_put image at (bytes_of size n) ∙ sym (append-nil (bytes_of size n)))
    ∙ big_number-reads_back size n [] fits
