-- Which entry a group gets next, and which group (Guttman 1984).
use Rattle.std.specs.Prelude.{ℕ, ◌<◌, ◌≤◌, nat_le, nat_lt, Option, Some, None, List, if◌then◌else◌}
use Rattle.std.specs.Int.{abs_diff}
use Rattle.isp_mbr.specs.Corners.{Corners}
use Rattle.isp_mbr.specs.Boxes.{area, enlargement}
use Rattle.isp_split.specs.Seeds.{box_at}
use Rattle.isp_split.specs.Groups.{Sides, IsLeft}
use Rattle.isp_split.specs.declared.side.Side.{Side}
use Rattle.isp_split.specs.declared.side.Side.TheVariants.{First, Second}

-- how much the two groups, with these boxes round them, differ in how much they would be enlarged by b
unfoldable pub difference : Corners → Corners → Corners → ℕ
difference first second b = abs_diff (enlargement first b) (enlargement second b)

-- of the entries that are left none differs more than this one, and none before it as much
pub record IsNext (first second : Corners) (boxes : List Corners) (sides : Sides) (place : ℕ) : Type 0 where
  pub left : IsLeft sides place
  pub most : (q : ℕ) → IsLeft sides q → difference first second (box_at boxes q) ≤ difference first second (box_at boxes place)
  pub earliest : (q : ℕ) → IsLeft sides q → q < place → difference first second (box_at boxes q) < difference first second (box_at boxes place)

-- the place with the greater number: one more is looked at than was best so far
abbrev pub greater : Option (ℕ × ℕ) → ℕ → ℕ → Option (ℕ × ℕ)
greater None place number = Some (place, number)
greater (Some best) place number = if nat_le number best.1 then Some best else Some (place, number)

-- the group with the lesser number, and where the numbers are equal the one named last
abbrev pub lesser : ℕ → ℕ → Side → Side
lesser m n tie = if nat_lt m n then First else (if nat_lt n m then Second else tie)

-- the group that takes b: the one that is less enlarged, then the smaller, then the one with fewer entries, then the first
unfoldable pub side_for : Corners → Corners → ℕ → ℕ → Corners → Side
side_for first second m n b = lesser (enlargement first b) (enlargement second b) (lesser (area first) (area second) (lesser m n First))
