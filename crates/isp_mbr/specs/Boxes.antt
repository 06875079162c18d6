-- Boxes: closed rectangles of whole numbers, as minimum bounding rectangles are in the MySQL 8.0 manual, with what
-- Guttman (1984) computes of them. A box is the set of its points, edges included, and each word says by axis
-- what it means for those sets: `low..high` is the axis of one box, `first..last` that of the other.
use Rattle.std.specs.Prelude.{ℕ, ◌*◌, ◌-◌, ℤ, ◌-ℤ◌, ◌≤ℤ◌, Bool, ◌&&◌, int_le, unsigned_abs}
use Rattle.std.specs.Int.{int_min, int_max}
use Rattle.std.specs.Ordering.{int_eq}
use Rattle.isp_mbr.specs.Corners.{Corners}

-- the corners are in order, as they are in each box of the program
abbrev pub IsBox : Corners → Type 0
IsBox b = (b.x1 ≤ℤ b.x2) × (b.y1 ≤ℤ b.y2)

abbrev pub spans : ℤ → ℤ → ℤ → ℤ → Bool
spans low high first last = int_le low first && int_le last high

abbrev pub overlap : ℤ → ℤ → ℤ → ℤ → Bool
overlap low high first last = int_le low last && int_le first high

abbrev pub same_span : ℤ → ℤ → ℤ → ℤ → Bool
same_span low high first last = int_eq low first && int_eq high last

-- each point of b is a point of a
abbrev pub covers : Corners → Corners → Bool
covers a b = spans a.x1 a.x2 b.x1 b.x2 && spans a.y1 a.y2 b.y1 b.y2

-- a and b have a point in common
abbrev pub meets : Corners → Corners → Bool
meets a b = overlap a.x1 a.x2 b.x1 b.x2 && overlap a.y1 a.y2 b.y1 b.y2

-- a and b are one box
abbrev pub same : Corners → Corners → Bool
same a b = same_span a.x1 a.x2 b.x1 b.x2 && same_span a.y1 a.y2 b.y1 b.y2

-- the least box round a and b
abbrev pub union : Corners → Corners → Corners
union a b = record { x1 = int_min a.x1 b.x1; y1 = int_min a.y1 b.y1; x2 = int_max a.x2 b.x2; y2 = int_max a.y2 b.y2 }

-- how far high is from low
abbrev pub side : ℤ → ℤ → ℕ
side low high = unsigned_abs (high -ℤ low)

abbrev pub area : Corners → ℕ
area b = side b.x1 b.x2 * side b.y1 b.y2

-- by how much the area of b grows where it has to cover add too
abbrev pub enlargement : Corners → Corners → ℕ
enlargement b add = area (union b add) - area b
