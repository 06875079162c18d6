-- A division that is being made, as the code keeps it.
use Rattle.std.specs.Prelude.{◌≡◌, ℕ, ◌+◌, ◌<◌, ◌≤◌, ◌^◌, List, length}
use Rattle.isp_mbr.specs.Corners.{Corners}
use Rattle.isp_split.specs.Groups.{Sides, count_in, cover, left_in}
use Rattle.isp_mbr.specs.Boxes.{IsBox, area}
use Rattle.isp_split.specs.declared.division.Division.{Division}
use Rattle.isp_split.specs.declared.group.Group.{Group}
use Rattle.isp_split.specs.declared.side.Side.{Side}
use Rattle.isp_split.specs.declared.side.Side.TheVariants.{First, Second}

-- the code's record of a group has the area of its box
pub record IsMeasured (group : Group) : Type 0 where
  pub ordered : IsBox group.cover
  pub area_is : group.area ≡ area group.cover
  pub small : group.area < 2 ^ 64

-- the code's record of a group is that group's
pub record IsGroup (side : Side) (sides : Sides) (boxes : List Corners) (group : Group) : Type 0 where
  pub measured : IsMeasured group
  pub cover_is : group.cover ≡ cover side sides boxes
  pub count_is : group.count ≡ count_in side sides

-- the two groups, and how many entries are left
pub record AreGroups (boxes : List Corners) (sides : Sides) (first second : Group) (left : ℕ) : Type 0 where
  pub size : length sides ≡ length boxes
  pub first_is : IsGroup First sides boxes first
  pub second_is : IsGroup Second sides boxes second
  pub first_some : 1 ≤ first.count
  pub second_some : 1 ≤ second.count
  pub left_is : left ≡ left_in sides
  pub all : first.count + second.count + left ≡ length boxes

abbrev pub IsUnderWay : List Corners → Division → Type 0
IsUnderWay boxes division = AreGroups boxes division.sides.items division.first division.second division.left

-- each group has the least fill, or can come to have it
pub record CanFill (least : ℕ) (division : Division) : Type 0 where
  pub first : least ≤ division.first.count + division.left
  pub second : least ≤ division.second.count + division.left
