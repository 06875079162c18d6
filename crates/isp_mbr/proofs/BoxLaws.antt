-- What the words on boxes mean in inequalities, and what follows from them: covering is an order, a union is the least
-- box round both, and what meets a box meets each box round it.
use Rattle.std.proofs.Common.{◌≡◌, ◌≤◌, ℤ, ◌≤ℤ◌, Bool, true, false, ◌&&◌, refl, arith}
use Rattle.std.specs.Prelude.{int_le}
use Rattle.std.specs.Ordering.{int_eq}
use Rattle.std.specs.Int.{int_min, int_max}
use Rattle.std.proofs.lemmas.Int.{ints, clamps}
use Rattle.std.proofs.Math.Nat.{mul-le-mul}
use Rattle.isp_mbr.specs.Corners.{Corners}
use Rattle.isp_mbr.specs.Boxes.{IsBox, spans, overlap, same_span, side, covers, meets, same, union, area}

-- ---- tests and what they test

pub both : (p q : Bool) → (p && q) ≡ true → (p ≡ true) × (q ≡ true)
both true q h = (refl, h)
both false q h = cc

pub and : (p q : Bool) → p ≡ true → q ≡ true → (p && q) ≡ true
and true q h k = k
and false q h k = cc

at_most : (a b : ℤ) → int_le a b ≡ true → a ≤ℤ b
at_most a b h = grind (arith, ints)

is_at_most : (a b : ℤ) → a ≤ℤ b → int_le a b ≡ true
is_at_most a b h = grind (arith, ints)

-- ---- by axis

spans_then : (low high first last : ℤ) → spans low high first last ≡ true → (low ≤ℤ first) × (last ≤ℤ high)
spans_then low high first last h =
    let h' : (int_le low first ≡ true) × (int_le last high ≡ true) = both (int_le low first) (int_le last high) h in
    (at_most low first h'.0, at_most last high h'.1)

then_spans : (low high first last : ℤ) → low ≤ℤ first → last ≤ℤ high → spans low high first last ≡ true
then_spans low high first last h k =
    and (int_le low first) (int_le last high) (is_at_most low first h) (is_at_most last high k)

overlap_then : (low high first last : ℤ) → overlap low high first last ≡ true → (low ≤ℤ last) × (first ≤ℤ high)
overlap_then low high first last h =
    let h' : (int_le low last ≡ true) × (int_le first high ≡ true) = both (int_le low last) (int_le first high) h in
    (at_most low last h'.0, at_most first high h'.1)

then_overlap : (low high first last : ℤ) → low ≤ℤ last → first ≤ℤ high → overlap low high first last ≡ true
then_overlap low high first last h k =
    and (int_le low last) (int_le first high) (is_at_most low last h) (is_at_most first high k)

-- ---- of boxes, in inequalities

pub covers_then : (a b : Corners) → covers a b ≡ true → (a.x1 ≤ℤ b.x1) × (b.x2 ≤ℤ a.x2) × (a.y1 ≤ℤ b.y1) × (b.y2 ≤ℤ a.y2)
covers_then a b h =
    let h' : (spans a.x1 a.x2 b.x1 b.x2 ≡ true) × (spans a.y1 a.y2 b.y1 b.y2 ≡ true) = both (spans a.x1 a.x2 b.x1 b.x2) (spans a.y1 a.y2 b.y1 b.y2) h in
    let x : (a.x1 ≤ℤ b.x1) × (b.x2 ≤ℤ a.x2) = spans_then a.x1 a.x2 b.x1 b.x2 h'.0 in
    let y : (a.y1 ≤ℤ b.y1) × (b.y2 ≤ℤ a.y2) = spans_then a.y1 a.y2 b.y1 b.y2 h'.1 in
    (x.0, x.1, y.0, y.1)

pub then_covers : (a b : Corners) → a.x1 ≤ℤ b.x1 → b.x2 ≤ℤ a.x2 → a.y1 ≤ℤ b.y1 → b.y2 ≤ℤ a.y2 → covers a b ≡ true
then_covers a b left right bottom top =
    and (spans a.x1 a.x2 b.x1 b.x2) (spans a.y1 a.y2 b.y1 b.y2) (then_spans a.x1 a.x2 b.x1 b.x2 left right) (then_spans a.y1 a.y2 b.y1 b.y2 bottom top)

pub meets_then : (a b : Corners) → meets a b ≡ true → (a.x1 ≤ℤ b.x2) × (b.x1 ≤ℤ a.x2) × (a.y1 ≤ℤ b.y2) × (b.y1 ≤ℤ a.y2)
meets_then a b h =
    let h' : (overlap a.x1 a.x2 b.x1 b.x2 ≡ true) × (overlap a.y1 a.y2 b.y1 b.y2 ≡ true) = both (overlap a.x1 a.x2 b.x1 b.x2) (overlap a.y1 a.y2 b.y1 b.y2) h in
    let x : (a.x1 ≤ℤ b.x2) × (b.x1 ≤ℤ a.x2) = overlap_then a.x1 a.x2 b.x1 b.x2 h'.0 in
    let y : (a.y1 ≤ℤ b.y2) × (b.y1 ≤ℤ a.y2) = overlap_then a.y1 a.y2 b.y1 b.y2 h'.1 in
    (x.0, x.1, y.0, y.1)

pub then_meets : (a b : Corners) → a.x1 ≤ℤ b.x2 → b.x1 ≤ℤ a.x2 → a.y1 ≤ℤ b.y2 → b.y1 ≤ℤ a.y2 → meets a b ≡ true
then_meets a b left right bottom top =
    and (overlap a.x1 a.x2 b.x1 b.x2) (overlap a.y1 a.y2 b.y1 b.y2) (then_overlap a.x1 a.x2 b.x1 b.x2 left right) (then_overlap a.y1 a.y2 b.y1 b.y2 bottom top)

same_number : (a b : ℤ) → int_eq a b ≡ true → a ≡ b
same_number a b h = grind (arith, ints)

is_same_number : (a b : ℤ) → a ≡ b → int_eq a b ≡ true
is_same_number a b h = grind (arith, ints)

abbrev pub corners : ℤ → ℤ → ℤ → ℤ → Corners
corners x1 y1 x2 y2 = record { x1 = x1; y1 = y1; x2 = x2; y2 = y2 }

same_corners : (a b : Corners) → a.x1 ≡ b.x1 → a.y1 ≡ b.y1 → a.x2 ≡ b.x2 → a.y2 ≡ b.y2 → corners a.x1 a.y1 a.x2 a.y2 ≡ corners b.x1 b.y1 b.x2 b.y2
same_corners a b x1 y1 x2 y2 = cc

pub same_then : (a b : Corners) → same a b ≡ true → a ≡ b
same_then a b h =
    let h' : (same_span a.x1 a.x2 b.x1 b.x2 ≡ true) × (same_span a.y1 a.y2 b.y1 b.y2 ≡ true) = both (same_span a.x1 a.x2 b.x1 b.x2) (same_span a.y1 a.y2 b.y1 b.y2) h in
    let x : (int_eq a.x1 b.x1 ≡ true) × (int_eq a.x2 b.x2 ≡ true) = both (int_eq a.x1 b.x1) (int_eq a.x2 b.x2) h'.0 in
    let y : (int_eq a.y1 b.y1 ≡ true) × (int_eq a.y2 b.y2 ≡ true) = both (int_eq a.y1 b.y1) (int_eq a.y2 b.y2) h'.1 in
    let x1 : a.x1 ≡ b.x1 = same_number a.x1 b.x1 x.0 in
    let x2 : a.x2 ≡ b.x2 = same_number a.x2 b.x2 x.1 in
    let y1 : a.y1 ≡ b.y1 = same_number a.y1 b.y1 y.0 in
    let y2 : a.y2 ≡ b.y2 = same_number a.y2 b.y2 y.1 in
    same_corners a b x1 y1 x2 y2

pub same_refl : (a : Corners) → same a a ≡ true
same_refl a =
    and (same_span a.x1 a.x2 a.x1 a.x2) (same_span a.y1 a.y2 a.y1 a.y2)
    (and (int_eq a.x1 a.x1) (int_eq a.x2 a.x2) (is_same_number a.x1 a.x1 refl) (is_same_number a.x2 a.x2 refl))
    (and (int_eq a.y1 a.y1) (int_eq a.y2 a.y2) (is_same_number a.y1 a.y1 refl) (is_same_number a.y2 a.y2 refl))

-- ---- covering is an order

at_most_refl : (a : ℤ) → a ≤ℤ a
at_most_refl a = omega (arith, ints)

at_most_trans : (a b c : ℤ) → a ≤ℤ b → b ≤ℤ c → a ≤ℤ c
at_most_trans a b c h k = omega (arith, ints)

pub covers_refl : (a : Corners) → covers a a ≡ true
covers_refl a = then_covers a a (at_most_refl a.x1) (at_most_refl a.x2) (at_most_refl a.y1) (at_most_refl a.y2)

pub covers_trans : (a b c : Corners) → covers a b ≡ true → covers b c ≡ true → covers a c ≡ true
covers_trans a b c h k =
    let h' = covers_then a b h in
    let k' = covers_then b c k in
    then_covers a c (at_most_trans a.x1 b.x1 c.x1 h'.0 k'.0) (at_most_trans c.x2 b.x2 a.x2 k'.1 h'.1)
    (at_most_trans a.y1 b.y1 c.y1 h'.2 k'.2) (at_most_trans c.y2 b.y2 a.y2 k'.3 h'.3)

-- ---- meeting is kept by growth

pub meets_grows : (a b c : Corners) → meets a c ≡ true → covers b a ≡ true → meets b c ≡ true
meets_grows a b c h k =
    let h' = meets_then a c h in
    let k' = covers_then b a k in
    then_meets b c (at_most_trans b.x1 a.x1 c.x2 k'.0 h'.0) (at_most_trans c.x1 a.x2 b.x2 h'.1 k'.1)
    (at_most_trans b.y1 a.y1 c.y2 k'.2 h'.2) (at_most_trans c.y1 a.y2 b.y2 h'.3 k'.3)

pub meets_comm : (a b : Corners) → meets a b ≡ true → meets b a ≡ true
meets_comm a b h = let h' = meets_then a b h in then_meets b a h'.1 h'.0 h'.3 h'.2

-- a box meets each box that covers it
pub covers_meets : (a b : Corners) → IsBox b → covers a b ≡ true → meets a b ≡ true
covers_meets a b ordered h =
    let h' = covers_then a b h in
    then_meets a b (at_most_trans a.x1 b.x1 b.x2 h'.0 ordered.0) (at_most_trans b.x1 b.x2 a.x2 ordered.0 h'.1)
    (at_most_trans a.y1 b.y1 b.y2 h'.2 ordered.1) (at_most_trans b.y1 b.y2 a.y2 ordered.1 h'.3)

-- ---- a union is the least box round both

least_left : (a b : ℤ) → int_min a b ≤ℤ a
least_left a b = omega (arith, ints, clamps)

least_right : (a b : ℤ) → int_min a b ≤ℤ b
least_right a b = omega (arith, ints, clamps)

most_left : (a b : ℤ) → a ≤ℤ int_max a b
most_left a b = omega (arith, ints, clamps)

most_right : (a b : ℤ) → b ≤ℤ int_max a b
most_right a b = omega (arith, ints, clamps)

below_least : (a b c : ℤ) → c ≤ℤ a → c ≤ℤ b → c ≤ℤ int_min a b
below_least a b c h k = omega (arith, ints, clamps)

above_most : (a b c : ℤ) → a ≤ℤ c → b ≤ℤ c → int_max a b ≤ℤ c
above_most a b c h k = omega (arith, ints, clamps)

pub union_covers_left : (a b : Corners) → covers (union a b) a ≡ true
union_covers_left a b =
    then_covers (union a b) a (least_left a.x1 b.x1) (most_left a.x2 b.x2) (least_left a.y1 b.y1) (most_left a.y2 b.y2)

pub union_covers_right : (a b : Corners) → covers (union a b) b ≡ true
union_covers_right a b =
    then_covers (union a b) b (least_right a.x1 b.x1) (most_right a.x2 b.x2) (least_right a.y1 b.y1) (most_right a.y2 b.y2)

pub union_least : (a b c : Corners) → covers c a ≡ true → covers c b ≡ true → covers c (union a b) ≡ true
union_least a b c h k =
    let h' = covers_then c a h in
    let k' = covers_then c b k in
    then_covers c (union a b) (below_least a.x1 b.x1 c.x1 h'.0 k'.0) (above_most a.x2 b.x2 c.x2 h'.1 k'.1)
    (below_least a.y1 b.y1 c.y1 h'.2 k'.2) (above_most a.y2 b.y2 c.y2 h'.3 k'.3)

pub IsBox-union : (a b : Corners) → IsBox a → IsBox (union a b)
IsBox-union a b ordered = (
  at_most_trans (int_min a.x1 b.x1) a.x1 (int_max a.x2 b.x2) (least_left a.x1 b.x1) (at_most_trans a.x1 a.x2 (int_max a.x2 b.x2) ordered.0 (most_left a.x2 b.x2)),
  at_most_trans (int_min a.y1 b.y1) a.y1 (int_max a.y2 b.y2) (least_left a.y1 b.y1) (at_most_trans a.y1 a.y2 (int_max a.y2 b.y2) ordered.1 (most_left a.y2 b.y2)),
)

-- ---- a box that covers another has no smaller area

side_grows : (low high first last : ℤ) → first ≤ℤ last → low ≤ℤ first → last ≤ℤ high → side first last ≤ side low high
side_grows low high first last ordered h k = omega (arith, ints)

pub area_grows : (a b : Corners) → IsBox b → covers a b ≡ true → area b ≤ area a
area_grows a b ordered h =
    let h' = covers_then a b h in
    mul-le-mul (side_grows a.x1 a.x2 b.x1 b.x2 ordered.0 h'.0 h'.1) (side_grows a.y1 a.y2 b.y1 b.y2 ordered.1 h'.2 h'.3)

pub union_is : (a b : Corners) (x1 y1 x2 y2 : ℤ) → x1 ≡ int_min a.x1 b.x1 → y1 ≡ int_min a.y1 b.y1 → x2 ≡ int_max a.x2 b.x2 → y2 ≡ int_max a.y2 b.y2
    → corners x1 y1 x2 y2 ≡ union a b
union_is a b x1 y1 x2 y2 p q r s = cc
