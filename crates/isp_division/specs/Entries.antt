-- A page above the leaves in two, in the bytes of two pages.
use Rattle.std.specs.Prelude.{◌≡◌, ℕ, List, drop, take}
use Rattle.isp_format.specs.Inner.{IsInnerPage, Name}
use Rattle.isp_levels.specs.Dividing.{first_low, left_names}
use Rattle.isp_levels.specs.Levels.{least_key}
use Rattle.isp_division.specs.declared.halves.Halves.{Halves}

-- the pages have the left and the right half of these entries, the right one on a page of its own
pub record AreNodeHalves (parts : Halves) (table own right level : ℕ) (names : List Name) : Type 0 where
  pub left : IsInnerPage parts.left.bytes table own level (take left_names names)
  pub right_is : IsInnerPage parts.right.bytes table right level (drop left_names names)
  pub key : parts.key ≡ first_low least_key (drop left_names names)
