-- What a page holds, as its header tells it, and which tree it belongs to. This project's own.
use Rattle.std.specs.Prelude.{◌≡◌, ℕ, ◌+◌, ◌*◌, List}
use Rattle.isp_format.specs.Header.{header_of}

abbrev pub free_kind : ℕ
free_kind = 0

abbrev pub space_kind : ℕ
space_kind = 1

abbrev pub undo_directory_kind : ℕ
undo_directory_kind = 2

abbrev pub catalogue_kind : ℕ
catalogue_kind = 3

abbrev pub leaf_kind : ℕ
leaf_kind = 4

abbrev pub inner_kind : ℕ
inner_kind = 5

abbrev pub rtree_kind : ℕ
rtree_kind = 6

abbrev pub undo_kind : ℕ
undo_kind = 7

-- the owner of the pages of a table's clustered tree; tables are numbered from 1
abbrev pub clustered_owner : ℕ → ℕ
clustered_owner table = 32 * table

-- the owner of the pages of the R-tree on a column of a table
abbrev pub rtree_owner : ℕ → ℕ → ℕ
rtree_owner table column = 32 * table + column

-- where a page's content begins, behind its header and what is free of it
abbrev pub content_place : ℕ
content_place = 64

-- the header of a page says its kind, its level, its owner and its own number
pub record HasHead (bytes : List ℕ) (kind level owner own : ℕ) : Type 0 where
  pub kind_is : (header_of bytes).kind ≡ kind
  pub level_is : (header_of bytes).level ≡ level
  pub owner_is : (header_of bytes).owner ≡ owner
  pub own_is : (header_of bytes).own ≡ own
