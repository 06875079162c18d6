-- The contents of an empty file, page by page.
use Rattle.std.proofs.Common.{◌≡◌, inl, inr, ℕ, zero, suc, ◌+◌, ◌-◌, ◌*◌, ◌<◌, ◌≤◌, List, [], ◌∷◌, length, refl, sym, ◌∙◌, ap, arith, if◌then◌else◌}
use Rattle.std.specs.Prelude.{slice_index}
use Rattle.std.proofs.lemmas.Bool.{cases_lt}
use Rattle.isp_disk.specs.Moments.{Image, image_of, in_range, put}
use Rattle.isp_format.specs.Doublewrite.{area, area_place}
use Rattle.isp_format.specs.Empty.{empty_contents, first_fresh, first_header, first_headers, fresh_place, fresh_range}
use Rattle.isp_format.specs.Header.{Header, header_bytes}
use Rattle.isp_format.specs.Numbers.{bytes_of}
use Rattle.isp_format.specs.Ranges.{Contents, Range, page_bytes, puts}
use Rattle.isp_format.proofs.Places.{inside}
use Rattle.isp_format.proofs.Puts.{puts_append}
use Rattle.isp_format.proofs.Slices.{put_above, put_below, put_inside}

-- contents before anything is put
abbrev pub zeros : Contents
zeros place = 0

-- a page with its header alone
abbrev pub headed : ℕ → Contents
headed page = put zeros 0 (header_bytes (first_header page))

-- the same put over images with the same byte at a place
pub put_over : (one other : Image) (at : ℕ) (bytes : List ℕ) (place : ℕ) → one place ≡ other place → put one at bytes place ≡ put other at bytes place
put_over one other at bytes place same = λ i. if in_range at (length bytes) place then slice_index bytes (place - at) else same i

-- and a put that is moved
pub put_moved : (one other : Image) (by at : ℕ) (bytes : List ℕ) (place : ℕ) → one (by + place) ≡ other place → put one (by + at) bytes (by + place) ≡ put other at bytes place
put_moved one other by at bytes place same = elim (cases_lt place at) [
  | inl low ↦ put_below one (by + at) bytes (by + place) (omega (arith, low)) ∙ same ∙ sym (put_below other at bytes place low)
  | inr from ↦ elim (cases_lt place (at + length bytes)) [
    | inl to ↦
        let shift : by + place - (by + at) ≡ place - at = omega (arith, from) in
        put_inside one (by + at) bytes (by + place) (inside (by + at) (length bytes) (by + place) (omega (arith, from)) (omega (arith, to)))
        ∙ ap (slice_index bytes) shift
        ∙ sym (put_inside other at bytes place (inside at (length bytes) place from to))
    | inr past ↦ put_above one (by + at) bytes (by + place) (omega (arith, past)) ∙ same ∙ sym (put_above other at bytes place past)
  ]
]

abbrev header_range : ℕ → Range
header_range page = record { page = page; at = 0; bytes = header_bytes (first_header page) }

-- behind so many pages there is no header
beyond : (n place : ℕ) → n * page_bytes ≤ place → puts (first_headers n) zeros place ≡ 0
beyond zero place behind = refl
beyond (suc n) place behind =
    let long : length (header_bytes (first_header n)) ≡ 32 = refl in
    (λ i. puts_append (first_headers n) (header_range n ∷ []) zeros i place)
    ∙ put_above (puts (first_headers n) zeros) (n * page_bytes + 0) (header_bytes (first_header n)) place (omega (arith, behind, long))
    ∙ beyond n place (omega (arith, behind))

-- each page before has its own alone
head_at : (n page place : ℕ) → page < n → place < page_bytes → puts (first_headers n) zeros (page * page_bytes + place) ≡ headed page place
head_at zero page place less small = absurd (omega (arith, less))
head_at (suc n) page place less small =
    let so_far : Contents = puts (first_headers n) zeros in
    let bytes : List ℕ = header_bytes (first_header n) in
    let step : puts (first_headers (suc n)) zeros (page * page_bytes + place) ≡ put so_far (n * page_bytes + 0) bytes (page * page_bytes + place) = λ i. puts_append (first_headers n) (header_range n ∷ []) zeros i (page * page_bytes + place) in
    elim (cases_lt page n) [
      | inl before ↦
          step
          ∙ put_below so_far (n * page_bytes + 0) bytes (page * page_bytes + place) (omega (arith, before, small))
          ∙ head_at n page place before small
      | inr from ↦
          let same : page ≡ n = omega (arith, less, from) in
          step
          ∙ ap (λ (p : ℕ). put so_far (n * page_bytes + 0) bytes (p * page_bytes + place)) same
          ∙ put_moved so_far zeros (n * page_bytes) 0 bytes place (beyond n (n * page_bytes + place) (omega arith))
          ∙ ap (λ (p : ℕ). headed p place) (sym same)
    ]

-- page 0 has the first page never used besides
pub space_page : (place : ℕ) → place < page_bytes → empty_contents (0 * page_bytes + place) ≡ put (headed 0) fresh_place (bytes_of 4 first_fresh) place
unfolding empty_contents
space_page place small =
    let heads : Contents = puts (first_headers first_fresh) zeros in
    (λ i. puts_append (first_headers first_fresh) (fresh_range ∷ []) zeros i (0 * page_bytes + place))
    ∙ put_moved heads (headed 0) (0 * page_bytes) fresh_place (bytes_of 4 first_fresh) place (head_at first_fresh 0 place (omega arith) small)

-- and the others have their headers
pub other_page : (page place : ℕ) → 0 < page → page < first_fresh → place < page_bytes → empty_contents (page * page_bytes + place) ≡ headed page place
unfolding empty_contents
other_page page place some less small =
    let heads : Contents = puts (first_headers first_fresh) zeros in
    let long : length (bytes_of 4 first_fresh) ≡ 4 = refl in
    (λ i. puts_append (first_headers first_fresh) (fresh_range ∷ []) zeros i (page * page_bytes + place))
    ∙ put_above heads (0 * page_bytes + fresh_place) (bytes_of 4 first_fresh) (page * page_bytes + place) (omega (arith, some, long))
    ∙ head_at first_fresh page place less small

-- a header put over zeros
pub head_put : (old : Image) (h : Header) (page place : ℕ) → old place ≡ 0 → h ≡ first_header page → put old 0 (header_bytes h) place ≡ headed page place
head_put old h page place blank is = put_over old zeros 0 (header_bytes h) place blank ∙ ap (λ (head : Header). put zeros 0 (header_bytes head) place) is

-- behind the first pages there is nothing
pub empty_beyond : (place : ℕ) → first_fresh * page_bytes ≤ place → empty_contents place ≡ 0
unfolding empty_contents
empty_beyond place behind =
    let heads : Contents = puts (first_headers first_fresh) zeros in
    let long : length (bytes_of 4 first_fresh) ≡ 4 = refl in
    (λ i. puts_append (first_headers first_fresh) (fresh_range ∷ []) zeros i place)
    ∙ put_above heads (0 * page_bytes + fresh_place) (bytes_of 4 first_fresh) place (omega (arith, behind, long))
    ∙ beyond first_fresh place behind

-- one page more in its place, where the pages stand from a place on
pub page_more_from : (start : ℕ) (now : Image) (k : ℕ) (bytes : List ℕ) → length bytes ≡ page_bytes → ((place : ℕ) → place < k * page_bytes → now (start + place) ≡ empty_contents place) → ((place : ℕ) → place < page_bytes → image_of bytes place ≡ empty_contents (k * page_bytes + place)) → (place : ℕ) → place < (k + 1) * page_bytes → put now (start + k * page_bytes) bytes (start + place) ≡ empty_contents place
page_more_from start now k bytes long so_far here place low = elim (cases_lt place (k * page_bytes)) [
  | inl before ↦ put_below now (start + k * page_bytes) bytes (start + place) (omega (arith, before)) ∙ so_far place before
  | inr from ↦
      let small : place - k * page_bytes < page_bytes = omega (arith, low, from) in
      let back : k * page_bytes + (place - k * page_bytes) ≡ place = omega (arith, from) in
      let shift : start + place - (start + k * page_bytes) ≡ place - k * page_bytes = omega (arith, from) in
      put_inside now (start + k * page_bytes) bytes (start + place) (inside (start + k * page_bytes) (length bytes) (start + place) (omega (arith, from)) (omega (arith, low, from, long)))
      ∙ ap (slice_index bytes) shift
      ∙ here (place - k * page_bytes) small
      ∙ ap empty_contents back
]

-- the same in the file
pub page_more : (now : Image) (k : ℕ) (bytes : List ℕ) → length bytes ≡ page_bytes → ((place : ℕ) → place < k * page_bytes → area now place ≡ empty_contents place) → ((place : ℕ) → place < page_bytes → image_of bytes place ≡ empty_contents (k * page_bytes + place)) → (place : ℕ) → place < (k + 1) * page_bytes → area (put now (area_place + k * page_bytes) bytes) place ≡ empty_contents place
page_more now k bytes long so_far here place low = page_more_from area_place now k bytes long so_far here place low
