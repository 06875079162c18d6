-- Page 0: which pages are free, how many tables there are, and the two counters of the file.
use Rattle.std.specs.Prelude.{◌≡◌, ℕ, ◌^◌, ◌<◌, List, ◌++◌}
use Rattle.isp_disk.specs.Moments.{image_of, slice}
use Rattle.isp_format.specs.Kinds.{HasHead, content_place, space_kind}
use Rattle.isp_format.specs.Numbers.{bytes_of}

pub record SpacePage : Type 0 where
  -- the first page of the free chain, 0 where it is empty
  pub free_head : ℕ
  -- how many pages the free chain has
  pub free_count : ℕ
  -- the first page never used
  pub fresh : ℕ
  pub tables : ℕ
  -- the number of the next entry of an R-tree
  pub entries : ℕ
  -- how many bytes were put into clustered trees, 13 a row and its slot
  pub bytes : ℕ

abbrev pub space_size : ℕ
space_size = 32

abbrev pub space_bytes : SpacePage → List ℕ
space_bytes s = bytes_of 4 s.free_head ++ (bytes_of 4 s.free_count ++ (bytes_of 4 s.fresh ++ (bytes_of 4 s.tables ++ (bytes_of 8 s.entries ++ bytes_of 8 s.bytes))))

-- each number has room in its field
pub record FitsSpace (s : SpacePage) : Type 0 where
  pub free_head : s.free_head < 256 ^ 4
  pub free_count : s.free_count < 256 ^ 4
  pub fresh : s.fresh < 256 ^ 4
  pub tables : s.tables < 256 ^ 4
  pub entries : s.entries < 256 ^ 8
  pub bytes : s.bytes < 256 ^ 8

-- the bytes of page 0 say this
pub record IsSpacePage (bytes : List ℕ) (s : SpacePage) : Type 0 where
  pub head : HasHead bytes space_kind 0 0 0
  pub spelled : slice (image_of bytes) content_place space_size ≡ space_bytes s
  pub fits : FitsSpace s
