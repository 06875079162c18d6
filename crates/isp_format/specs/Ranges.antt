-- Contents of all pages, and changes of ranges in them. Contents are a byte at every place: page p is the 4,096 bytes from
-- place 4,096 p on.
use Rattle.std.specs.Prelude.{◌≡◌, ℕ, ◌+◌, ◌*◌, ◌<◌, ◌≤◌, List, [], ◌∷◌, length}
use Rattle.isp_disk.specs.Moments.{Image, Region, either, in_range, no_place, put, slice}

abbrev pub page_bytes : ℕ
page_bytes = 4096

-- the two images have the same bytes from a place on, so many
abbrev pub SameIn : ℕ → ℕ → Image → Image → Type 0
SameIn at size one other = (place : ℕ) → at ≤ place → place < at + size → one place ≡ other place

-- the contents of all pages
abbrev pub Contents : Type 0
Contents = Image

-- bytes at a place of a page
pub record Range : Type 0 where
  pub page : ℕ
  pub at : ℕ
  pub bytes : List ℕ

-- the place of a range in the contents
abbrev pub place_of : Range → ℕ
place_of range = range.page * page_bytes + range.at

-- a range with a byte or more, in a page below the file's number of pages
pub record IsRange (pages : ℕ) (range : Range) : Type 0 where
  pub page : range.page < pages
  pub some : 1 ≤ length range.bytes
  pub inside : range.at + length range.bytes ≤ page_bytes

-- the contents with these ranges put into them, one after the other
abbrev pub puts : List Range → Contents → Contents
puts [] contents = contents
puts (range ∷ ranges) contents = puts ranges (put contents (place_of range) range.bytes)

-- the places that ranges take
abbrev pub cover : List Range → Region
cover [] = no_place
cover (range ∷ ranges) = either (in_range (place_of range) (length range.bytes)) (cover ranges)

-- the bytes of a page
unfoldable pub page_of : Contents → ℕ → List ℕ
page_of contents page = slice contents (page * page_bytes) page_bytes
