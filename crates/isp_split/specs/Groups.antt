-- The two groups of a division while it is made: which of them has each entry, and the least box round the entries of each.
use Rattle.std.specs.Prelude.{◌≡◌, ℕ, suc, ◌≤◌, Bool, true, false, cond, Option, Some, None, List, [], ◌∷◌, count_by, slice_get}
use Rattle.isp_mbr.specs.Corners.{Corners}
use Rattle.isp_mbr.specs.Boxes.{union}
use Rattle.isp_split.specs.Seeds.{no_box}
use Rattle.isp_split.specs.declared.side.Side.{Side}
use Rattle.isp_split.specs.declared.side.Side.TheVariants.{First, Second}

-- the group that each entry belongs to, by the entry's place; None where it is left
abbrev pub Sides : Type 0
Sides = List (Option Side)

abbrev pub is_left : Option Side → Bool
is_left None = true
is_left (Some side) = false

abbrev pub is_in : Side → Option Side → Bool
is_in First None = false
is_in First (Some First) = true
is_in First (Some Second) = false
is_in Second None = false
is_in Second (Some First) = false
is_in Second (Some Second) = true

-- how many entries are left, and how many a group has
abbrev pub left_in : Sides → ℕ
left_in sides = count_by is_left sides

abbrev pub count_in : Side → Sides → ℕ
count_in side sides = count_by (is_in side) sides

-- the entry at that place is left
abbrev pub IsLeft : Sides → ℕ → Type 0
IsLeft sides place = slice_get sides place ≡ Some None

-- the places that pass the test, rising, where the list begins at the place k
abbrev pub places_from : (Option Side → Bool) → ℕ → Sides → List ℕ
places_from test k [] = []
places_from test k (s ∷ sides) = cond (test s) (k ∷ places_from test (suc k) sides) (places_from test (suc k) sides)

-- the places of a group's entries, rising
abbrev pub places_in : Side → Sides → List ℕ
places_in side sides = places_from (is_in side) 0 sides

-- the boxes of a group's entries
abbrev pub boxes_in : Side → Sides → List Corners → List Corners
boxes_in side [] boxes = []
boxes_in side (s ∷ sides) [] = []
boxes_in side (s ∷ sides) (b ∷ boxes) = cond (is_in side s) (b ∷ boxes_in side sides boxes) (boxes_in side sides boxes)

abbrev pub around : Corners → List Corners → Corners
around b [] = b
around b (c ∷ cs) = union c (around b cs)

-- the least box round all of these, of which there is one at least
abbrev pub least_round : List Corners → Corners
least_round [] = no_box
least_round (b ∷ bs) = around b bs

-- the least box round a group's entries
unfoldable pub cover : Side → Sides → List Corners → Corners
cover side sides boxes = least_round (boxes_in side sides boxes)

-- each group has the least fill
pub record HasFill (least : ℕ) (sides : Sides) : Type 0 where
  pub first : least ≤ count_in First sides
  pub second : least ≤ count_in Second sides
