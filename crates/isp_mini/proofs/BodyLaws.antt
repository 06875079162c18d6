-- The body of a mini-transaction, spelled range by range: how many bytes it has, and what one more range makes of it.
use Rattle.std.proofs.Common.{◌≡◌, ℕ, ◌+◌, ◌*◌, ◌-◌, ◌<◌, ◌≤◌, List, [], ◌∷◌, ◌++◌, All, length, take, get_or, refl, sym, ◌∙◌, ap, arith}
use Rattle.std.specs.List.{flat_map}
use Rattle.std.proofs.lemmas.List.{flat_map_more, length-append, length-map, length-take, map-append, take_all, take_more}
use Rattle.std.proofs.lemmas.List.Elements.{All-head, All-tail, All-take}
use Rattle.isp_format.specs.Log.{range_bytes, transaction_bytes}
use Rattle.isp_format.specs.Numbers.{bytes_of}
use Rattle.isp_format.specs.Ranges.{Contents, Range}
use Rattle.isp_format.proofs.Slices.{length-slice}
use Rattle.isp_mini.specs.Extents.{AreExtents, IsExtent, body_front, extent_place, largest_body, range_in, ranges_in}
use Rattle.isp_mini.specs.declared.changes.Extent.{Extent}

-- a range is spelled in eight bytes and its own
range_length : (range : Range) → length (range_bytes range) ≡ 8 + length range.bytes
range_length range = omega arith

-- at most 4,104 bytes an extent
ranges_length : (now : Contents) (extents : List Extent) → All IsExtent extents → length (flat_map range_bytes (ranges_in now extents)) ≤ length extents * 4104
ranges_length now [] each = omega arith
ranges_length now (extent ∷ extents) each =
    let is : IsExtent extent = All-head IsExtent extent extents each in
    let joined = length-append (range_bytes (range_in now extent)) (flat_map range_bytes (ranges_in now extents)) in
    let first = range_length (range_in now extent) in
    let long = length-slice now (extent_place extent) (extent.end - extent.at) in
    let rest = ranges_length now extents (All-tail IsExtent extent extents each) in
    omega (arith, joined, first, long, is.some, is.inside, rest)

-- a whole body fits
pub body_fits : (now : Contents) (extents : List Extent) → AreExtents extents → length (transaction_bytes (ranges_in now extents)) ≤ largest_body
body_fits now extents are =
    let long = ranges_length now extents are.each in
    omega (arith, long, are.few)

-- the first ranges of a body leave room for the next one
pub front_fits : (count : ℕ) (now : Contents) (extents : List Extent) (i : ℕ) (d : Extent) → AreExtents extents → i < length extents → length (body_front count now extents i) + 8 + ((get_or extents i d).end - (get_or extents i d).at) ≤ largest_body
front_fits count now extents i d are inside =
    let long = ranges_length now (take i extents) (All-take IsExtent i extents are.each) in
    let taken = length-take i extents in
    let is : IsExtent (get_or extents i d) = are.each i d inside in
    omega (arith, long, taken, is.some, is.inside, are.few)

-- a body begins with the number of its ranges
pub front_none : (count : ℕ) (now : Contents) (extents : List Extent) → body_front count now extents 0 ≡ bytes_of 2 count
front_none count now extents = refl

more_ranges : (count : ℕ) (now : Contents) (front : List Extent) (extent : Extent) → (bytes_of 2 count ++ flat_map range_bytes (ranges_in now front)) ++ range_bytes (range_in now extent) ≡ bytes_of 2 count ++ flat_map range_bytes (ranges_in now (front ++ extent ∷ []))
more_ranges count now front extent =
    flat_map_more range_bytes (bytes_of 2 count) (ranges_in now front) (range_in now extent)
    ∙ ap (λ (ranges : List Range). bytes_of 2 count ++ flat_map range_bytes ranges) (sym (map-append (range_in now) front (extent ∷ [])))

-- the same, as a loop over the extents counts
pub front_next : (count : ℕ) (now : Contents) (extents : List Extent) (i : ℕ) (d : Extent) → i < length extents → body_front count now extents i ++ range_bytes (range_in now (get_or extents i d)) ≡ body_front count now extents (i + 1)
front_next count now extents i d inside =
    more_ranges count now (take i extents) (get_or extents i d)
    ∙ ap (λ (front : List Extent). bytes_of 2 count ++ flat_map range_bytes (ranges_in now front)) (sym (take_more extents i d inside))

-- with all ranges it is whole
pub front_all : (now : Contents) (extents : List Extent) → body_front (length extents) now extents (length extents) ≡ transaction_bytes (ranges_in now extents)
front_all now extents =
    let same : length extents ≤ length extents = omega arith in
    let count : length extents ≡ length (ranges_in now extents) = sym (length-map extents (range_in now)) in
    ap (λ (front : List Extent). bytes_of 2 (length extents) ++ flat_map range_bytes (ranges_in now front)) (take_all (length extents) extents same)
    ∙ ap (λ (n : ℕ). bytes_of 2 n ++ flat_map range_bytes (ranges_in now extents)) count
