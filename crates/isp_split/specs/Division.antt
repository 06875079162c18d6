-- The division of a page's entries, by their boxes: Guttman's quadratic split (1984), with every tie settled. Each group
-- begins with one of the two seeds. While entries are left, a group that needs all of them to have the least fill takes
-- them; else the next entry goes to the group that it suits.
use Rattle.std.specs.Prelude.{◌≡◌, ℕ, zero, suc, ◌+◌, ◌-◌, nat_le, Option, Some, None, List, length, map, replicate, slice_set, MatchOption, if◌then◌else◌}
use Rattle.isp_mbr.specs.Corners.{Corners}
use Rattle.isp_split.specs.Seeds.{AreSeeds, box_at}
use Rattle.isp_split.specs.Groups.{Sides, count_in, cover, left_in, places_in}
use Rattle.isp_split.specs.Next.{IsNext, side_for}
use Rattle.isp_split.specs.declared.side.Side.{Side}
use Rattle.isp_split.specs.declared.side.Side.TheVariants.{First, Second}

-- the two groups at the beginning
abbrev pub begun : ℕ → ℕ → ℕ → Sides
begun size i j = slice_set (slice_set (replicate size None) i (Some First)) j (Some Second)

-- the group that needs all that are left to have the least fill, if one does: of two groups with so many entries, and so
-- many left
abbrev pub needy_of : ℕ → ℕ → ℕ → ℕ → Option Side
needy_of least first second left = if nat_le (first + left) least then Some First else (if nat_le (second + left) least then Some Second else None)

abbrev pub needy : ℕ → Sides → Option Side
needy least sides = needy_of least (count_in First sides) (count_in Second sides) (left_in sides)

abbrev pub with_rest : Side → Option Side → Option Side
with_rest side None = Some side
with_rest side (Some other) = Some other

-- the groups where one has taken all that were left
abbrev pub filled : Side → Sides → Sides
filled side sides = map (with_rest side) sides

-- the next entry is the one at this place
abbrev pub IsNextOf : List Corners → Sides → ℕ → Type 0
IsNextOf boxes sides place = IsNext (cover First sides boxes) (cover Second sides boxes) boxes sides place

-- the group that takes the entry at this place
abbrev pub taker : List Corners → Sides → ℕ → Side
taker boxes sides place =
    side_for (cover First sides boxes) (cover Second sides boxes) (count_in First sides) (count_in Second sides) (box_at boxes place)

-- the groups where the entry at this place was taken
abbrev pub taken : List Corners → Sides → ℕ → Sides
taken boxes sides place = slice_set sides place (Some (taker boxes sides place))

-- from these groups, with so many entries left, the division ends with those
abbrev pub Divides : ℕ → List Corners → ℕ → Sides → Sides → Type 0
Divides zero boxes least sides end = end ≡ sides
Divides (suc left) boxes least sides end =
    MatchOption (needy least sides)
    ((place : ℕ) × IsNextOf boxes sides place × Divides left boxes least (taken boxes sides place) end)
    (λ side. end ≡ filled side sides)

-- the places of the first group's entries and of the second one's, in the division of these boxes with that least fill
pub record IsQuadraticSplit (boxes : List Corners) (least : ℕ) (first second : List ℕ) : Type 0 where
  pub i : ℕ
  pub j : ℕ
  pub seeds : AreSeeds boxes i j
  pub end : Sides
  pub divides : Divides (length boxes - 2) boxes least (begun (length boxes) i j) end
  pub first_is : first ≡ places_in First end
  pub second_is : second ≡ places_in Second end
