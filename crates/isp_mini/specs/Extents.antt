-- What an open mini-transaction changed: of each page the least range that has all bytes changed there, in the order of
-- first change; and the ranges that the log gets of it.
use Rattle.std.specs.Prelude.{ℕ, ◌+◌, ◌*◌, ◌-◌, ◌<◌, ◌≤◌, ◌==◌, List, [], ◌∷◌, ◌++◌, All, length, map, min, max, take, if◌then◌else◌}
use Rattle.std.specs.List.{flat_map}
use Rattle.isp_disk.specs.Moments.{Region, either, in_range, no_place, slice}
use Rattle.isp_format.specs.Doublewrite.{AreDistinct}
use Rattle.isp_format.specs.Log.{Transaction, count_size, range_bytes, range_head}
use Rattle.isp_format.specs.Numbers.{bytes_of}
use Rattle.isp_format.specs.Ranges.{Contents, Range, page_bytes}
use Rattle.isp_page.specs.State.{most_changed}
use Rattle.isp_base.specs.declared.page_no.PageNo.{PageNo}
use Rattle.isp_mini.specs.declared.changes.Extent.{Extent}

-- the number of an extent's page
abbrev pub page_number : Extent → ℕ
page_number extent = extent.page.0

-- the least extent of the page that has these bytes and those of an extent
abbrev pub widened : PageNo → ℕ → ℕ → Extent → Extent
widened page at end extent = record { page = page; at = min extent.at at; end = max extent.end end }

-- the extents with these bytes of a page among them
abbrev pub with_extent : PageNo → ℕ → ℕ → List Extent → List Extent
with_extent page at end [] = record { page = page; at = at; end = end } ∷ []
with_extent page at end (extent ∷ extents) =
    if extent.page.0 == page.0
    then widened page at end extent ∷ extents
    else extent ∷ with_extent page at end extents

-- where an extent begins in the contents
abbrev pub extent_place : Extent → ℕ
extent_place extent = extent.page.0 * page_bytes + extent.at

-- the places of the contents that extents have
abbrev pub extent_cover : List Extent → Region
extent_cover [] = no_place
extent_cover (extent ∷ extents) = either (in_range (extent_place extent) (extent.end - extent.at)) (extent_cover extents)

-- the ranges that the log gets: the bytes of these contents in each extent
abbrev pub range_in : Contents → Extent → Range
range_in contents extent = record { page = extent.page.0; at = extent.at; bytes = slice contents (extent_place extent) (extent.end - extent.at) }

abbrev pub ranges_in : Contents → List Extent → Transaction
ranges_in contents extents = map (range_in contents) extents

-- a byte or more of a page
pub record IsExtent (extent : Extent) : Type 0 where
  pub some : extent.at < extent.end
  pub inside : extent.end ≤ page_bytes

-- at most 48, each a page's, and no page twice
pub record AreExtents (extents : List Extent) : Type 0 where
  pub each : All IsExtent extents
  pub distinct : AreDistinct (map page_number extents)
  pub few : length extents ≤ most_changed

-- how many bytes the body of the largest mini-transaction has
abbrev pub largest_body : ℕ
largest_body = count_size + most_changed * (range_head + page_bytes)

-- a body as far as its first ranges: how many ranges it is to have, and those of the first i extents
abbrev pub body_front : ℕ → Contents → List Extent → ℕ → List ℕ
body_front count contents extents i = bytes_of 2 count ++ flat_map range_bytes (ranges_in contents (take i extents))
