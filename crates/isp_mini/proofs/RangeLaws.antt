-- The ranges that the log gets of extents: put over what was there before the mini-transaction, they make what is there now.
use Rattle.std.proofs.Common.{◌≡◌, ℕ, ◌+◌, ◌*◌, ◌-◌, ◌<◌, ◌≤◌, Bool, true, false, List, [], ◌∷◌, All, take, drop, get_or, refl, sym, ◌∙◌, ap, arith, if◌then◌else◌}
use Rattle.std.specs.Prelude.{slice_index}
use Rattle.std.proofs.lemmas.List.{append-nil, length-map}
use Rattle.std.proofs.lemmas.List.Elements.{All-cons, All-map, All-nil}
use Rattle.isp_disk.specs.Moments.{Agree, either, in_range, put, slice}
use Rattle.isp_format.specs.Log.{IsBody, IsTransaction, Transaction, transaction_bytes}
use Rattle.isp_format.specs.Ranges.{Contents, IsRange, cover, page_bytes, page_of, puts}
use Rattle.isp_format.proofs.Headers.{slice_byte}
use Rattle.isp_format.proofs.Places.{before_end, from_start, neither}
use Rattle.isp_format.proofs.Slices.{length-slice, piece_slice, slice_moved}
use Rattle.isp_mini.specs.Extents.{AreExtents, IsExtent, extent_cover, extent_place, range_in, ranges_in}
use Rattle.isp_mini.specs.declared.changes.Extent.{Extent}

-- a range gets the bytes that stand there now
put_now : (start now : Contents) (at size place : ℕ) → (in_range at size place ≡ false → start place ≡ now place) → put start at (slice now at size) place ≡ now place
put_now start now at size place same =
    (λ i. if in_range at (length-slice now at size i) place then slice_index (slice now at size) (place - at) else start place)
    ∙ either_way (in_range at size place) refl
  where
    either_way : (b : Bool) → in_range at size place ≡ b → (if b then slice_index (slice now at size) (place - at) else start place) ≡ now place
    either_way true is =
        let from : at ≤ place = from_start at size place is in
        let to : place < at + size = before_end at size place is in
        let back : at + (place - at) ≡ place = omega (arith, from) in
        slice_byte now at size (place - at) (omega (arith, from, to)) ∙ ap now back
    either_way false is = same is

-- at each place: what stands there now, where it stood there before or an extent has it
pub logged_at : (extents : List Extent) (start now : Contents) (place : ℕ) → (extent_cover extents place ≡ false → start place ≡ now place) → puts (ranges_in now extents) start place ≡ now place
logged_at [] start now place same = same refl
logged_at (extent ∷ extents) start now place same =
    let size = extent.end - extent.at in
    logged_at extents (put start (extent_place extent) (slice now (extent_place extent) size)) now place
    (λ behind. put_now start now (extent_place extent) size place (λ out. same (neither (in_range (extent_place extent) size place) (extent_cover extents place) out behind)))

-- the ranges make what is there now of contents that differ from it in the extents alone
pub logged : (extents : List Extent) (done now : Contents) → Agree (extent_cover extents) done now → puts (ranges_in now extents) done ≡ now
logged extents done now agree = λ i place. logged_at extents done now place (agree place) i

-- they take the places of the extents
pub cover_ranges : (now : Contents) (extents : List Extent) → cover (ranges_in now extents) ≡ extent_cover extents
cover_ranges now [] = refl
cover_ranges now (extent ∷ extents) = λ i. either (in_range (extent_place extent) (length-slice now (extent_place extent) (extent.end - extent.at) i)) (cover_ranges now extents i)

range_is : (pages : ℕ) (now : Contents) (extent : Extent) → IsExtent extent → extent.page.0 < pages → IsRange pages (range_in now extent)
range_is pages now extent is below =
    let long = length-slice now (extent_place extent) (extent.end - extent.at) in
    record { page = below; some = omega (arith, long, is.some); inside = omega (arith, long, is.some, is.inside) }

-- they are a mini-transaction
pub transaction_is : (pages : ℕ) (now : Contents) (extents : List Extent) → AreExtents extents → All (λ extent. extent.page.0 < pages) extents → IsTransaction pages (ranges_in now extents)
transaction_is pages now extents are below = (
  omega (arith, length-map extents (range_in now), are.few),
  All-map (IsRange pages) (range_in now) extents (λ k d inside. range_is pages now (get_or extents k d) (are.each k d inside) (below k d inside)),
)

-- the bytes of one mini-transaction are a body
pub body_of_one : (pages : ℕ) (ranges : Transaction) → IsTransaction pages ranges → IsBody pages (ranges ∷ []) (transaction_bytes ranges)
body_of_one pages ranges is = record {
  bytes = sym (append-nil (transaction_bytes ranges));
  some = omega arith;
  each = All-cons (IsTransaction pages) ranges [] is (All-nil (IsTransaction pages));
}

pub body_is : (pages : ℕ) (now : Contents) (extents : List Extent) → AreExtents extents → All (λ extent. extent.page.0 < pages) extents → IsBody pages (ranges_in now extents ∷ []) (transaction_bytes (ranges_in now extents))
body_is pages now extents are below = body_of_one pages (ranges_in now extents) (transaction_is pages now extents are below)

-- the bytes of an extent stand in its page
pub page_piece : (now : Contents) (extent : Extent) → IsExtent extent → take (extent.end - extent.at) (drop extent.at (page_of now extent.page.0)) ≡ slice now (extent_place extent) (extent.end - extent.at)
unfolding page_of
page_piece now extent is =
    let start = extent.page.0 * page_bytes in
    let size = extent.end - extent.at in
    let long = length-slice now start page_bytes in
    piece_slice (page_of now extent.page.0) extent.at size (omega (arith, long, is.some, is.inside))
    ∙ slice_moved (slice_index (page_of now extent.page.0)) now extent.at (extent_place extent) size (λ k less.
    let place : start + (extent.at + k) ≡ extent_place extent + k = omega arith in
    slice_byte now start page_bytes (extent.at + k) (omega (arith, less, is.some, is.inside)) ∙ ap now place)
