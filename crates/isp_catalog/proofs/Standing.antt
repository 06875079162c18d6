-- Lists that stand in an image from a place on, piece by piece.
use Rattle.std.proofs.Common.{◌≡◌, ℕ, zero, suc, ◌+◌, ◌-◌, ◌^◌, ◌<◌, ◌≤◌, List, [], ◌∷◌, ◌++◌, length, take, drop, get_or, refl, sym, ◌∙◌, ap, arith}
use Rattle.std.specs.Int.{w16, w32, from_be_bytes}
use Rattle.std.proofs.lemmas.List.{append-nil, length-append}
use Rattle.std.proofs.lemmas.Nat.{be_bytes_2, be_bytes_4}
use Rattle.byteorder.specs.Endian.{big_number}
use Rattle.byteorder.specs.Numbers.{big_from-lt, big_number-reads_back, length-bytes_high_first}
use Rattle.isp_disk.specs.Moments.{Image, image_of, slice}
use Rattle.isp_format.specs.Numbers.{bytes_of, number_at}
use Rattle.isp_format.proofs.Parts.{slice_cut, slice_parts}
use Rattle.isp_format.proofs.PageOnce.{head_once}
use Rattle.isp_format.proofs.Slices.{length-slice, piece_slice}

-- every byte is one
abbrev pub AreBytes : Image → Type 0
AreBytes image = (place : ℕ) → image place < 256

abbrev pub Stands : Image → ℕ → List ℕ → Type 0
Stands image at xs = slice image at (length xs) ≡ xs

pub stands_parts : (image : Image) (at : ℕ) (xs ys : List ℕ) → Stands image at (xs ++ ys) → Stands image at xs × Stands image (at + length xs) ys
stands_parts image at xs ys is = slice_cut image at xs ys (length (xs ++ ys)) is (length-append xs ys)

pub stands_join : (image : Image) (at next : ℕ) (xs ys : List ℕ) → next ≡ at + length xs → Stands image at xs → Stands image next ys → Stands image at (xs ++ ys)
stands_join image at next xs ys is one other =
    ap (slice image at) (length-append xs ys) ∙ slice_parts image at (length xs) (length ys)
    ∙ (λ i. one i ++ (ap (λ (p : ℕ). slice image p (length ys)) (sym is) ∙ other) i)

-- the byte at a place, and what stands behind it
pub stands_first : (image : Image) (at : ℕ) (x : ℕ) (xs : List ℕ) → Stands image at (x ∷ xs) → (image at ≡ x) × Stands image (at + 1) xs
stands_first image at x xs is =
    let both = head_once (image at) x (slice image (suc at) (length xs)) xs is in
    let next : at + 1 ≡ suc at = omega arith in
    (both.0, ap (λ (p : ℕ). slice image p (length xs)) next ∙ both.1)

pub stands_cons : (image : Image) (at : ℕ) (x : ℕ) (xs : List ℕ) → image at ≡ x → Stands image (at + 1) xs → Stands image at (x ∷ xs)
stands_cons image at x xs first rest =
    let next : suc at ≡ at + 1 = omega arith in
    λ i. first i ∷ (ap (λ (p : ℕ). slice image p (length xs)) next ∙ rest) i

-- what a slice begins with stands there
pub stands_front : (image : Image) (at size : ℕ) (xs ys : List ℕ) → slice image at size ≡ xs ++ ys → Stands image at xs
stands_front image at size xs ys is =
    let long : length (xs ++ ys) ≡ size = sym (ap (λ (l : List ℕ). length l) is) ∙ length-slice image at size in
    (stands_parts image at xs ys (ap (slice image at) long ∙ is)).0

-- and a slice begins with what stands there
pub front_stands : (image : Image) (at size : ℕ) (xs : List ℕ) → length xs ≤ size → Stands image at xs → slice image at size ≡ xs ++ slice image (at + length xs) (size - length xs)
front_stands image at size xs fits is =
    let sum : size ≡ length xs + (size - length xs) = omega (arith, fits) in
    ap (slice image at) sum ∙ slice_parts image at (length xs) (size - length xs)
    ∙ ap (λ (l : List ℕ). l ++ slice image (at + length xs) (size - length xs)) is

pub slice_stands : (image : Image) (at size : ℕ) → Stands image at (slice image at size)
slice_stands image at size = ap (slice image at) (length-slice image at size)

-- a number that stands there is read, and one that is read stands there
pub number_is : (size n : ℕ) (image : Image) (at : ℕ) → n < 256 ^ size → Stands image at (bytes_of size n) → number_at size image at ≡ n
number_is size n image at small is =
    let long : size ≡ length (bytes_of size n) = sym (length-bytes_high_first size n) in
    ap (λ (k : ℕ). big_number size (slice image at k)) long
    ∙ ap (big_number size) (is ∙ sym (append-nil (bytes_of size n))) ∙ big_number-reads_back size n [] small

pub slice_bytes : (image : Image) (at size k : ℕ) → AreBytes image → get_or (slice image at size) k 0 < 256
slice_bytes image at zero k fits = omega arith
slice_bytes image at (suc size) zero fits = fits at
slice_bytes image at (suc size) (suc k) fits = slice_bytes image (suc at) size k fits

pub number_small : (size : ℕ) (image : Image) (at : ℕ) → AreBytes image → number_at size image at < 256 ^ size
number_small size image at fits = big_from-lt 0 size (slice image at size) (λ k. slice_bytes image at size k fits)

two_bytes : (a b : ℕ) → big_number 2 (a ∷ b ∷ []) ≡ from_be_bytes w16 (a ∷ b ∷ [])
two_bytes a b = omega arith

four_bytes : (a b c d : ℕ) → big_number 4 (a ∷ b ∷ c ∷ d ∷ []) ≡ from_be_bytes w32 (a ∷ b ∷ c ∷ d ∷ [])
four_bytes a b c d = omega arith

pub two_stand : (image : Image) (at : ℕ) → AreBytes image → Stands image at (bytes_of 2 (number_at 2 image at))
two_stand image at fits = sym (be_bytes_2 (slice image at 2) _ refl (λ k. slice_bytes image at 2 k fits) (two_bytes (image at) (image (suc at))))

pub four_stand : (image : Image) (at : ℕ) → AreBytes image → Stands image at (bytes_of 4 (number_at 4 image at))
four_stand image at fits = sym (be_bytes_4 (slice image at 4) _ refl (λ k. slice_bytes image at 4 k fits) (four_bytes (image at) (image (suc at)) (image (suc (suc at))) (image (suc (suc (suc at))))))

-- a piece of a list, as code takes it
pub piece_is : (bytes : List ℕ) (at to size : ℕ) → to ≡ at + size → to ≤ length bytes → take (to - at) (drop at bytes) ≡ slice (image_of bytes) at size
piece_is bytes at to size is inside =
    let same : to - at ≡ size = omega (arith, is) in
    ap (λ (n : ℕ). take n (drop at bytes)) same ∙ piece_slice bytes at size (omega (arith, is, inside))
