-- Numbers and headers in a page: read from the contents as from the page, and read back as they were spelled.
use Rattle.std.proofs.Common.{◌≡◌, inl, inr, ℕ, zero, suc, drop, ◌+◌, ◌-◌, ◌*◌, ◌<◌, ◌≤◌, ◌^◌, List, [], ◌++◌, length, refl, sym, ◌∙◌, ap, arith, length-append}
use Rattle.std.specs.Prelude.{slice_index}
use Rattle.byteorder.specs.Endian.{big_from, big_number}
use Rattle.byteorder.specs.Numbers.{big_number-reads_back}
use Rattle.std.proofs.lemmas.Bool.{cases_lt}
use Rattle.std.proofs.lemmas.List.{get_or-append_right, get_or-drop}
use Rattle.std.proofs.Math.ListN.{get_or-append}
use Rattle.isp_disk.specs.Moments.{Image, image_of, put, slice}
use Rattle.isp_format.specs.Empty.{empty_contents, first_header}
use Rattle.isp_format.specs.Header.{Header, header_bytes, header_of, number_in}
use Rattle.isp_format.specs.Numbers.{number_at}
use Rattle.isp_format.specs.Ranges.{Contents, page_bytes, page_of}
use Rattle.isp_format.proofs.Places.{inside}
use Rattle.isp_format.proofs.Slices.{number_agree, put_above, put_below, put_inside, slice_moved}

-- a byte of a slice
pub slice_byte : (image : Image) (at size k : ℕ) → k < size → slice_index (slice image at size) k ≡ image (at + k)
slice_byte image at zero k less = absurd (omega (arith, less))
slice_byte image at (suc size) zero less = let here : at ≡ at + 0 = omega arith in ap image here
slice_byte image at (suc size) (suc k) less =
    let up : suc at + k ≡ at + suc k = omega arith in
    slice_byte image (suc at) size k (omega (arith, less)) ∙ ap image up

-- a number in a page is the number in the contents
pub number_in_page : (size : ℕ) (contents : Contents) (page at : ℕ) → at + size ≤ page_bytes → number_in size (page_of contents page) at ≡ number_at size contents (page * page_bytes + at)
unfolding page_of
number_in_page size contents page at fits =
    ap (big_number size) (slice_moved (image_of (page_of contents page)) contents at (page * page_bytes + at) size (λ k less.
    let moved : page * page_bytes + (at + k) ≡ page * page_bytes + at + k = omega arith in
    slice_byte contents (page * page_bytes) page_bytes (at + k) (omega (arith, less, fits)) ∙ ap contents moved))

-- two pieces put one behind the other are one piece
pub put_joined : (image : Image) (at : ℕ) (first second : List ℕ) (place : ℕ) → put (put image at first) (at + length first) second place ≡ put image at (first ++ second) place
put_joined image at first second place =
    let whole : length (first ++ second) ≡ length first + length second = length-append first second in
    elim (cases_lt place at) [
      | inl low ↦
          put_below (put image at first) (at + length first) second place (omega arith)
          ∙ put_below image at first place low
          ∙ sym (put_below image at (first ++ second) place low)
      | inr from ↦ elim (cases_lt place (at + length first)) [
        | inl in_first ↦
            put_below (put image at first) (at + length first) second place in_first
            ∙ put_inside image at first place (inside at (length first) place from in_first)
            ∙ sym (put_inside image at (first ++ second) place (inside at (length (first ++ second)) place from (omega arith)) ∙ get_or-append first second 0 (place - at) (omega arith))
        | inr behind ↦ elim (cases_lt place (at + length first + length second)) [
          | inl in_second ↦
              let moved : place - at - length first ≡ place - (at + length first) = omega arith in
              put_inside (put image at first) (at + length first) second place (inside (at + length first) (length second) place behind in_second)
              ∙ sym (put_inside image at (first ++ second) place (inside at (length (first ++ second)) place from (omega arith)) ∙ get_or-append_right first second (length first) (place - at) 0 refl (omega arith) ∙ ap (slice_index second) moved)
          | inr past ↦
              put_above (put image at first) (at + length first) second place past
              ∙ put_above image at first place (omega arith)
              ∙ sym (put_above image at (first ++ second) place (omega arith))
        ]
      ]
    ]

-- the same as a step of a row of puts
pub put_more : (old image : Image) (at : ℕ) (first second : List ℕ) (next : ℕ) → next ≡ at + length first → image ≡ put old at first → put image next second ≡ put old at (first ++ second)
put_more old image at first second next is so_far =
    (λ i. put (so_far i) (is i) second) ∙ (λ i place. put_joined old at first second place i)

number_same : (i j n : ℕ) (xs ys : List ℕ) → ((k : ℕ) → k < n → slice_index xs (i + k) ≡ slice_index ys (j + k)) → big_from i n xs ≡ big_from j n ys
number_same i j zero xs ys same = refl
number_same i j (suc n) xs ys same =
    let start : i ≡ i + 0 = omega arith in
    let other_start : j + 0 ≡ j = omega arith in
    let first : slice_index xs i ≡ slice_index ys j = ap (slice_index xs) start ∙ same 0 (omega arith) ∙ ap (slice_index ys) other_start in
    let rest : big_from (suc i) n xs ≡ big_from (suc j) n ys = number_same (suc i) (suc j) n xs ys (λ k less.
    let up : suc i + k ≡ i + suc k = omega arith in
    let other_up : j + suc k ≡ suc j + k = omega arith in
    ap (slice_index xs) up ∙ same (suc k) (omega (arith, less)) ∙ ap (slice_index ys) other_up) in
    λ k. first k * 256 ^ n + rest k

-- a number that is read from a place of a list on
pub number_read : (size : ℕ) (bytes : List ℕ) (at : ℕ) → big_number size (drop at bytes) ≡ number_in size bytes at
number_read size bytes at = number_same 0 0 size (drop at bytes) (slice (image_of bytes) at size) (λ k less.
    let start : at + (0 + k) ≡ at + k = omega arith in
    let back : k ≡ 0 + k = omega arith in
    get_or-drop at bytes (0 + k) 0 ∙ ap (slice_index bytes) start ∙ sym (slice_byte (image_of bytes) at size k less) ∙ ap (slice_index (slice (image_of bytes) at size)) back)

-- the fields of a header as they are stored
pub record HeaderFits (h : Header) : Type 0 where
  pub kind : h.kind < 256
  pub level : h.level < 256
  pub count : h.count < 256 ^ 2
  pub owner : h.owner < 256 ^ 4
  pub next : h.next < 256 ^ 4
  pub prev : h.prev < 256 ^ 4
  pub ssn : h.ssn < 256 ^ 8
  pub own : h.own < 256 ^ 4
  pub used : h.used < 256 ^ 4

-- a header that was put is read back
pub header_back : (bytes : List ℕ) (old : Image) (h : Header) → HeaderFits h → image_of bytes ≡ put old 0 (header_bytes h) → header_of bytes ≡ h
header_back bytes old h fits is =
    let now = put old 0 (header_bytes h) in
    let at_place : (place : ℕ) → image_of bytes place ≡ now place = λ place i. is i place in
    let number : (size at : ℕ) → number_in size bytes at ≡ number_at size now at = λ size at. number_agree size (image_of bytes) now at (λ place low high. at_place place) in
    let count = number 2 2 ∙ big_number-reads_back 2 h.count [] fits.count in
    let owner = number 4 4 ∙ big_number-reads_back 4 h.owner [] fits.owner in
    let next = number 4 8 ∙ big_number-reads_back 4 h.next [] fits.next in
    let prev = number 4 12 ∙ big_number-reads_back 4 h.prev [] fits.prev in
    let ssn = number 8 16 ∙ big_number-reads_back 8 h.ssn [] fits.ssn in
    let own = number 4 24 ∙ big_number-reads_back 4 h.own [] fits.own in
    let used = number 4 28 ∙ big_number-reads_back 4 h.used [] fits.used in
    λ i. record { kind = at_place 0 i; level = at_place 1 i; count = count i; owner = owner i; next = next i; prev = prev i; ssn = ssn i; own = own i; used = used i }

-- worked: page 1 of an empty file is a directory of undo chains with its own number, page 15 is of the catalogue
worked : header_of (page_of empty_contents 1) ≡ first_header 1
unfolding empty_contents page_of
worked = refl

worked_last : header_of (page_of empty_contents 15) ≡ first_header 15
unfolding empty_contents page_of
worked_last = refl

worked_fresh : number_in 4 (page_of empty_contents 0) 72 ≡ 16
unfolding empty_contents page_of
worked_fresh = refl

worked_free : header_of (page_of empty_contents 16) ≡ record { kind = 0; level = 0; count = 0; owner = 0; next = 0; prev = 0; ssn = 0; own = 0; used = 0 }
unfolding empty_contents page_of
worked_free = refl

-- the header reads the first 32 bytes alone
pub header_same : (one other : List ℕ) → ((place : ℕ) → place < 32 → image_of one place ≡ image_of other place) → header_of one ≡ header_of other
header_same one other same =
    let number : (size at : ℕ) → at + size ≤ 32 → number_in size one at ≡ number_in size other at = λ size at within. number_agree size (image_of one) (image_of other) at (λ place low high. same place (omega (arith, within, high))) in
    λ i. record {
      kind = same 0 (omega arith) i;
      level = same 1 (omega arith) i;
      count = number 2 2 (omega arith) i;
      owner = number 4 4 (omega arith) i;
      next = number 4 8 (omega arith) i;
      prev = number 4 12 (omega arith) i;
      ssn = number 8 16 (omega arith) i;
      own = number 4 24 (omega arith) i;
      used = number 4 28 (omega arith) i;
    }
