-- A leaf in two, in the bytes of two pages.
use Rattle.std.specs.Prelude.{◌≡◌, ℕ, List, drop, take}
use Rattle.isp_format.specs.Leaf.{Stored}
use Rattle.isp_cells.specs.LeafPages.{IsLeaf}
use Rattle.isp_cells.specs.Rows.{bytes_in}
use Rattle.isp_levels.specs.Dividing.{first_key, halves}
use Rattle.isp_division.specs.declared.halves.Cut.{Cut}
use Rattle.isp_division.specs.declared.halves.Halves.{Halves}

-- where the content of these rows is cut
abbrev pub cut_in : List Stored → Cut
cut_in rows = record { at = bytes_in (take (halves rows) rows); rows = halves rows }

-- the pages have the left and the right part of these rows, the right one on a page of its own, which links to the next
pub record AreHalves (parts : Halves) (table own right next : ℕ) (rows : List Stored) : Type 0 where
  pub left : IsLeaf parts.left.bytes table own right (take (halves rows) rows)
  pub right_is : IsLeaf parts.right.bytes table right next (drop (halves rows) rows)
  pub key : parts.key ≡ first_key (drop (halves rows) rows)
