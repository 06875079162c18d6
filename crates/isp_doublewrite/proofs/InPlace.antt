-- Pages written in their places.
use Rattle.std.proofs.Common.{◌≡◌, inl, inr, ℕ, zero, suc, ◌+◌, ◌-◌, ◌*◌, ◌<◌, ◌||◌, List, [], ◌∷◌, ◌++◌, length, map, get_or, refl, sym, ◌∙◌, ap, arith, if◌then◌else◌}
use Rattle.std.specs.Prelude.{slice_index}
use Rattle.std.proofs.lemmas.Bool.{cases_lt}
use Rattle.isp_disk.specs.Moments.{Image, Within, in_range, put}
use Rattle.isp_doublewrite.specs.Batches.{AreWhole, number_of, whole_page}
use Rattle.isp_doublewrite.specs.Places.{page_places}
use Rattle.isp_format.specs.Doublewrite.{area, area_place}
use Rattle.isp_format.specs.Ranges.{Range, cover, page_bytes, place_of, puts}
use Rattle.isp_format.proofs.Places.{above, below, inside, not_first, not_second}
use Rattle.isp_format.proofs.Puts.{puts_append}
use Rattle.isp_format.specs.declared.page.Page.{Page}
use Rattle.isp_base.specs.declared.page_no.PageNo.{PageNo}

-- a range that is moved
pub moved : (by at size place : ℕ) → in_range (by + at) size (by + place) ≡ in_range at size place
moved by at size place = elim (cases_lt place at) [
  | inl low ↦ below (by + at) size (by + place) (omega arith) ∙ sym (below at size place low)
  | inr from ↦ elim (cases_lt place (at + size)) [
    | inl to ↦ inside (by + at) size (by + place) (omega arith) (omega arith) ∙ sym (inside at size place from to)
    | inr past ↦ above (by + at) size (by + place) (omega arith) ∙ sym (above at size place past)
  ]
]

-- the page area after a write into it
pub area_put : (image : Image) (at : ℕ) (bytes : List ℕ) → area (put image (area_place + at) bytes) ≡ put (area image) at bytes
area_put image at bytes =
    let less : (place : ℕ) → area_place + place - (area_place + at) ≡ place - at = λ place. omega arith in
    λ i place. if moved area_place at (length bytes) place i then slice_index bytes (less place i) else image (area_place + place)

-- one page more
pub placed_more : (before now : Image) (ranges : List Range) (number : ℕ) (bytes : List ℕ) → area now ≡ puts ranges (area before) → area (put now (area_place + number * page_bytes) bytes) ≡ puts (ranges ++ (record { page = number; at = 0; bytes = bytes }) ∷ []) (area before)
placed_more before now ranges number bytes placed =
    let range : Range = record { page = number; at = 0; bytes = bytes } in
    let start : number * page_bytes ≡ number * page_bytes + 0 = omega arith in
    area_put now (number * page_bytes) bytes
    ∙ (λ i. put (placed i) (start i) bytes)
    ∙ sym (puts_append ranges (range ∷ []) (area before))

-- the places of one of the pages
pub page_within : (numbers : List ℕ) (k : ℕ) → k < length numbers → Within (in_range (area_place + get_or numbers k 0 * page_bytes) page_bytes) (page_places numbers)
page_within [] k less place out = absurd (omega (arith, less))
page_within (number ∷ numbers) zero less place out = not_first (in_range (area_place + number * page_bytes) page_bytes place) (page_places numbers place) out
page_within (number ∷ numbers) (suc k) less place out = page_within numbers k (omega (arith, less)) place (not_second (in_range (area_place + number * page_bytes) page_bytes place) (page_places numbers place) out)

-- the same in the page area as ranges
pub pages_cover : (ranges : List Range) (place : ℕ) → AreWhole ranges → page_places (map (λ range. range.page) ranges) (area_place + place) ≡ cover ranges place
pages_cover [] place whole = refl
pages_cover (range ∷ ranges) place whole =
    let start : range.page * page_bytes ≡ place_of range = omega (arith, whole.0) in
    let size : page_bytes ≡ length range.bytes = sym whole.1 in
    let first : in_range (area_place + range.page * page_bytes) page_bytes (area_place + place) ≡ in_range (place_of range) (length range.bytes) place = moved area_place (range.page * page_bytes) page_bytes place ∙ (λ i. in_range (start i) (size i) place) in
    λ i. first i || pages_cover ranges place whole.2 i

pub numbers_of_pages : (batch : List (PageNo × Page)) → map (λ range. range.page) (map whole_page batch) ≡ map number_of batch
numbers_of_pages [] = refl
numbers_of_pages (entry ∷ batch) = ap (λ (numbers : List ℕ). number_of entry ∷ numbers) (numbers_of_pages batch)
