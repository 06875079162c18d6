-- The list and the copies, written one after the other.
use Rattle.std.proofs.Common.{◌≡◌, ℕ, zero, suc, ◌+◌, ◌*◌, ◌<◌, ◌≤◌, ◌^◌, Bool, true, false, List, [], ◌∷◌, ◌++◌, length, map, refl, sym, ◌∙◌, ap, arith}
use Rattle.isp_disk.specs.Moments.{Image, in_range, put, slice}
use Rattle.isp_doublewrite.specs.Batches.{AreWhole, whole_page}
use Rattle.isp_doublewrite.specs.Places.{staged_places}
use Rattle.isp_format.specs.Doublewrite.{copies_from, copies_place, copy_at, copy_count, list_place}
use Rattle.isp_format.specs.Numbers.{bytes_of, number_at}
use Rattle.isp_format.specs.Ranges.{Range, page_bytes}
use Rattle.isp_format.proofs.Places.{before_end, from_start, inside, not_first, not_second}
use Rattle.isp_format.proofs.Slices.{number_agree, number_put, put_above, put_below, slice_agree, slice_put}
use Rattle.byteorder.specs.Numbers.{length-bytes_high_first}
use Rattle.isp_format.specs.declared.page.Page.{Page}
use Rattle.isp_base.specs.declared.page_no.PageNo.{PageNo}

-- the copies before the last of them
pub copies_upto : (one other : Image) (k count last : ℕ) → k + count ≤ last → ((place : ℕ) → list_place ≤ place → place < list_place + 4 * last → one place ≡ other place) → ((place : ℕ) → copies_place ≤ place → place < copies_place + page_bytes * last → one place ≡ other place) → copies_from one k count ≡ copies_from other k count
copies_upto one other k zero last fits list pages = refl
copies_upto one other k (suc count) last fits list pages =
    let number : number_at 4 one (list_place + 4 * k) ≡ number_at 4 other (list_place + 4 * k) = number_agree 4 one other (list_place + 4 * k) (λ place low high. list place (omega (arith, low)) (omega (arith, high, fits))) in
    let bytes : slice one (copies_place + page_bytes * k) page_bytes ≡ slice other (copies_place + page_bytes * k) page_bytes = slice_agree one other (copies_place + page_bytes * k) page_bytes (λ place low high. pages place (omega (arith, low)) (omega (arith, high, fits))) in
    let rest : copies_from one (suc k) count ≡ copies_from other (suc k) count = copies_upto one other (suc k) count last (omega (arith, fits)) list pages in
    λ i. (record { page = number i; at = 0; bytes = bytes i }) ∷ rest i

-- one copy more
pub copies_more : (image : Image) (k count : ℕ) → copies_from image k (suc count) ≡ copies_from image k count ++ copy_at image (k + count) ∷ []
copies_more image k zero = let here : k ≡ k + 0 = omega arith in λ i. copy_at image (here i) ∷ []
copies_more image k (suc count) =
    let up : suc k + count ≡ k + suc count = omega arith in
    ap (λ (ranges : List Range). copy_at image k ∷ ranges) (copies_more image (suc k) count ∙ (λ i. copies_from image (suc k) count ++ copy_at image (up i) ∷ []))

-- the image with one number and one page more
abbrev pub with_copy : Image → ℕ → ℕ → List ℕ → Image
with_copy image k number bytes = put (put image (list_place + 4 * k) (bytes_of 4 number)) (copies_place + page_bytes * k) bytes

pub list_kept : (image : Image) (k number : ℕ) (bytes : List ℕ) (place : ℕ) → k < 64 → place < list_place + 4 * k → image place ≡ with_copy image k number bytes place
list_kept image k number bytes place small low =
    sym (put_below (put image (list_place + 4 * k) (bytes_of 4 number)) (copies_place + page_bytes * k) bytes place (omega arith) ∙ put_below image (list_place + 4 * k) (bytes_of 4 number) place low)

pub pages_kept : (image : Image) (k number : ℕ) (bytes : List ℕ) (place : ℕ) → k < 64 → copies_place ≤ place → place < copies_place + page_bytes * k → image place ≡ with_copy image k number bytes place
pages_kept image k number bytes place small low high =
    sym (put_below (put image (list_place + 4 * k) (bytes_of 4 number)) (copies_place + page_bytes * k) bytes place high ∙ put_above image (list_place + 4 * k) (bytes_of 4 number) place (omega (arith, length-bytes_high_first 4 number, low, small)))

copy_now : (image : Image) (k number : ℕ) (bytes : List ℕ) → k < 64 → number < 256 ^ 4 → length bytes ≡ page_bytes → copy_at (with_copy image k number bytes) k ≡ record { page = number; at = 0; bytes = bytes }
copy_now image k number bytes small fits long =
    let now = with_copy image k number bytes in
    let listed = put image (list_place + 4 * k) (bytes_of 4 number) in
    let page : number_at 4 now (list_place + 4 * k) ≡ number = number_agree 4 now listed (list_place + 4 * k) (λ place low high. put_below listed (copies_place + page_bytes * k) bytes place (omega (arith, high, small))) ∙ number_put 4 image (list_place + 4 * k) number fits in
    let copy : slice now (copies_place + page_bytes * k) page_bytes ≡ bytes = ap (slice now (copies_place + page_bytes * k)) (sym long) ∙ slice_put listed (copies_place + page_bytes * k) bytes in
    λ i. record { page = page i; at = 0; bytes = copy i }

pub staged_more : (image : Image) (count k number : ℕ) (bytes : List ℕ) (ranges : List Range) → k < 64 → number < 256 ^ 4 → length bytes ≡ page_bytes → copies_from image 0 k ≡ ranges → copies_from (with_copy image k number bytes) 0 (suc k) ≡ ranges ++ (record { page = number; at = 0; bytes = bytes }) ∷ []
staged_more image count k number bytes ranges small fits long listed =
    let now = with_copy image k number bytes in
    let kept : copies_from now 0 k ≡ copies_from image 0 k = sym (copies_upto image now 0 k k (omega arith) (λ place low high. list_kept image k number bytes place small high) (λ place low high. pages_kept image k number bytes place small low high)) in
    let up : 0 + k ≡ k = omega arith in
    copies_more now 0 k ∙ (λ i. (kept ∙ listed) i ++ (ap (copy_at now) up ∙ copy_now image k number bytes small fits long) i ∷ [])

pub count_kept : (image : Image) (count k number : ℕ) (bytes : List ℕ) → k < 64 → copy_count image ≡ count → copy_count (with_copy image k number bytes) ≡ count
count_kept image count k number bytes small counted = sym (number_agree 4 image (with_copy image k number bytes) 1024 (λ place low high. list_kept image k number bytes place small (omega (arith, high)))) ∙ counted

-- the places of the list and of the copies
pub in_list : (at size place : ℕ) → 1024 ≤ at → at + size ≤ 1284 → staged_places place ≡ false → in_range at size place ≡ false
in_list at size place low high out = outside_part (in_range at size place) refl
  where
    outside_part : (b : Bool) → in_range at size place ≡ b → b ≡ false
    outside_part false is = refl
    outside_part true is =
        let start = from_start at size place is in
        let end = before_end at size place is in
        sym (inside 1024 260 place (omega (arith, start, low)) (omega (arith, end, high))) ∙ not_first (in_range 1024 260 place) (in_range 4096 262144 place) out

pub in_copies : (at size place : ℕ) → 4096 ≤ at → at + size ≤ 266240 → staged_places place ≡ false → in_range at size place ≡ false
in_copies at size place low high out = outside_part (in_range at size place) refl
  where
    outside_part : (b : Bool) → in_range at size place ≡ b → b ≡ false
    outside_part false is = refl
    outside_part true is =
        let start = from_start at size place is in
        let end = before_end at size place is in
        sym (inside 4096 262144 place (omega (arith, start, low)) (omega (arith, end, high))) ∙ not_second (in_range 1024 260 place) (in_range 4096 262144 place) out

-- each page is whole, also behind one more
pub whole_append : (first second : List Range) → AreWhole first → AreWhole second → AreWhole (first ++ second)
whole_append [] second one other = other
whole_append (range ∷ first) second one other = (one.0, one.1, whole_append first second one.2 other)

pub whole_map : (first second : List (PageNo × Page)) → map whole_page (first ++ second) ≡ map whole_page first ++ map whole_page second
whole_map [] second = refl
whole_map (entry ∷ first) second = ap (λ (ranges : List Range). whole_page entry ∷ ranges) (whole_map first second)
