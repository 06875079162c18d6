-- A page into which the bytes that differ are put is the new page.
use Rattle.std.proofs.Common.{◌≡◌, inl, inr, ℕ, ◌+◌, ◌-◌, ◌*◌, ◌≤◌, ◌<◌, List, length, take, drop, length-take, length-drop, sym, ◌∙◌, ap, arith}
use Rattle.std.specs.Prelude.{slice_index}
use Rattle.std.proofs.lemmas.Bool.{cases_lt}
use Rattle.std.proofs.lemmas.List.{get_or-take, get_or-drop}
use Rattle.isp_disk.specs.Moments.{put, slice}
use Rattle.isp_format.specs.Ranges.{Contents, page_bytes, page_of}
use Rattle.isp_format.proofs.Headers.{slice_byte}
use Rattle.isp_format.proofs.Places.{inside}
use Rattle.isp_format.proofs.Slices.{put_above, put_below, put_inside, slice_agree, slice_put}
use Rattle.isp_page.specs.Differences.{IsLeast}

pub part_long : (from to : ℕ) (bytes : List ℕ) → from ≤ to → to ≤ length bytes → length (take (to - from) (drop from bytes)) ≡ to - from
part_long from to bytes order fits = omega (arith, length-take (to - from) (drop from bytes), length-drop from bytes, order, fits)

part_byte : (from to k : ℕ) (bytes : List ℕ) → from ≤ k → k < to → slice_index (take (to - from) (drop from bytes)) (k - from) ≡ slice_index bytes k
part_byte from to k bytes low high =
    let back : from + (k - from) ≡ k = omega (arith, low) in
    get_or-take (to - from) (drop from bytes) (k - from) 0 (omega (arith, low, high)) ∙ get_or-drop from bytes (k - from) 0 ∙ ap (slice_index bytes) back

-- byte k of the page, k below 4,096
module _ (contents : Contents) (page from to : ℕ) (old new : List ℕ) (long : length new ≡ page_bytes) (least : IsLeast old new from to) (stood : old ≡ slice contents (page * page_bytes) page_bytes) where
  start : ℕ
  start = page * page_bytes

  part : List ℕ
  part = take (to - from) (drop from new)

  here : (k : ℕ) → k < page_bytes → contents (page * page_bytes + k) ≡ slice_index old k
  here k below = sym (slice_byte contents (page * page_bytes) page_bytes k below) ∙ ap (λ (l : List ℕ). slice_index l k) (sym stood)

  now_byte : (k : ℕ) → k < page_bytes → put contents (page * page_bytes + from) (take (to - from) (drop from new)) (page * page_bytes + k) ≡ slice_index new k
  now_byte k below =
      let piece : List ℕ = take (to - from) (drop from new) in
      let size = part_long from to new (omega (arith, least.order)) (omega (arith, least.within, long)) in
      elim (cases_lt k from) [
        | inl before ↦
            put_below contents (page * page_bytes + from) piece (page * page_bytes + k) (omega (arith, before))
            ∙ here k below ∙ least.front k before
        | inr behind ↦ elim (cases_lt k to) [
          | inl among ↦
              let moved : page * page_bytes + k - (page * page_bytes + from) ≡ k - from = omega (arith, behind) in
              put_inside contents (page * page_bytes + from) piece (page * page_bytes + k) (inside (page * page_bytes + from) (length piece) (page * page_bytes + k) (omega (arith, behind)) (omega (arith, behind, among, size)))
              ∙ ap (slice_index piece) moved ∙ part_byte from to k new behind among
          | inr past ↦
              put_above contents (page * page_bytes + from) piece (page * page_bytes + k) (omega (arith, past, size, least.order))
              ∙ here k below ∙ least.end k past below
        ]
      ]

  now_same : (place : ℕ) → page * page_bytes ≤ place → place < page * page_bytes + page_bytes → put contents (page * page_bytes + from) (take (to - from) (drop from new)) place ≡ put contents (page * page_bytes) new place
  now_same place low high =
      let k : ℕ = place - page * page_bytes in
      let below : k < page_bytes = omega (arith, low, high) in
      let at : place ≡ page * page_bytes + k = omega (arith, low) in
      ap (put contents (page * page_bytes + from) (take (to - from) (drop from new))) at
      ∙ now_byte k below
      ∙ sym (put_inside contents (page * page_bytes) new place (inside (page * page_bytes) (length new) place low (omega (arith, high, long))))

  whole : slice (put contents (page * page_bytes + from) (take (to - from) (drop from new))) (page * page_bytes) page_bytes ≡ new
  whole =
      slice_agree (put contents (page * page_bytes + from) (take (to - from) (drop from new))) (put contents (page * page_bytes) new) (page * page_bytes) page_bytes now_same
      ∙ ap (slice (put contents (page * page_bytes) new) (page * page_bytes)) (sym long)
      ∙ slice_put contents (page * page_bytes) new

pub replaced : (contents : Contents) (page from to : ℕ) (old new : List ℕ) → length new ≡ page_bytes → IsLeast old new from to → old ≡ page_of contents page → page_of (put contents (page * page_bytes + from) (take (to - from) (drop from new))) page ≡ new
unfolding page_of
replaced contents page from to old new long least stood = whole contents page from to old new long least stood
