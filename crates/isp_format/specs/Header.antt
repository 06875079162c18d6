-- The header of a page, its first 32 bytes: read from the bytes of the page, and spelled. Where the fields stand, and the
-- kinds of pages, are this project's own; that a page has a right link and a sequence number is of Kornacker, Mohan and
-- Hellerstein (1997).
use Rattle.std.specs.Prelude.{ℕ, List, ◌∷◌, ◌++◌, slice_index}
use Rattle.isp_disk.specs.Moments.{image_of}
use Rattle.isp_format.specs.Numbers.{bytes_of, number_at}

-- the number in so many bytes of a page from a place on
abbrev pub number_in : ℕ → List ℕ → ℕ → ℕ
number_in size bytes at = number_at size (image_of bytes) at

pub record Header : Type 0 where
  -- 0 free, 1 space, 2 undo directory, 3 catalogue, 4 clustered leaf, 5 clustered inner, 6 R-tree, 7 undo
  pub kind : ℕ
  -- how far above the leaves
  pub level : ℕ
  -- how many entries
  pub count : ℕ
  -- 32 times the number of the table, and the index of the column; 0 where the page is no tree's
  pub owner : ℕ
  -- the page to the right, or the next of a chain; 0 is none
  pub next : ℕ
  -- the page before; 0 is none
  pub prev : ℕ
  -- the sequence number of an R-tree's page
  pub ssn : ℕ
  -- the page's own number
  pub own : ℕ
  -- where what the page holds ends
  pub used : ℕ

abbrev pub header_size : ℕ
header_size = 32

abbrev pub header_of : List ℕ → Header
header_of bytes = record {
  kind = slice_index bytes 0;
  level = slice_index bytes 1;
  count = number_in 2 bytes 2;
  owner = number_in 4 bytes 4;
  next = number_in 4 bytes 8;
  prev = number_in 4 bytes 12;
  ssn = number_in 8 bytes 16;
  own = number_in 4 bytes 24;
  used = number_in 4 bytes 28;
}

abbrev pub header_bytes : Header → List ℕ
header_bytes h = h.kind ∷ h.level ∷ (bytes_of 2 h.count ++ (bytes_of 4 h.owner ++ (bytes_of 4 h.next ++ (bytes_of 4 h.prev ++ (bytes_of 8 h.ssn ++ (bytes_of 4 h.own ++ bytes_of 4 h.used))))))
