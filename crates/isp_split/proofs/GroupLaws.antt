-- What a group has where an entry that was left is taken.
use Rattle.std.proofs.Common.{◌≡◌, ◌≢◌, ℕ, zero, suc, ◌+◌, ◌-◌, ◌<◌, ◌≤◌, Bool, true, false, cond, Option, Some, None, List, [], ◌∷◌, ◌++◌, length, refl, sym, ◌∙◌, ap, subst, arith, get_or, set, replicate}
use Rattle.std.specs.Prelude.{ℤ, count_by, slice_get}
use Rattle.std.specs.Int.{int_min, int_max}
use Rattle.std.proofs.lemmas.Int.{ints, clamps}
use Rattle.std.proofs.lemmas.List.{length-replicate, length-set, get_or-replicate, get_or-set_other}
use Rattle.std.proofs.lemmas.List.Sums.{sum_by-cons, sum_by-set}
use Rattle.std.proofs.lemmas.Option.{get_or_from_slice_get, slice_get-get_or, slice_get_within}
use Rattle.isp_mbr.specs.Corners.{Corners}
use Rattle.isp_mbr.specs.Boxes.{union}
use Rattle.isp_split.specs.Seeds.{box_at}
use Rattle.isp_split.specs.Groups.{Sides, is_left, is_in, left_in, count_in, IsLeft, boxes_in, around, least_round, cover}
use Rattle.isp_split.specs.Division.{begun}
use Rattle.isp_split.specs.UnderWay.{AreGroups, IsGroup, IsMeasured}
use Rattle.isp_split.specs.declared.side.Side.{Side}
use Rattle.isp_split.specs.declared.side.Side.TheVariants.{First, Second}
use Rattle.isp_split.specs.declared.group.Group.{Group}

-- ---- unions, in whatever order

min_comm : (a b : ℤ) → int_min a b ≡ int_min b a
min_comm a b = omega (arith, ints, clamps)

max_comm : (a b : ℤ) → int_max a b ≡ int_max b a
max_comm a b = omega (arith, ints, clamps)

min_assoc : (a b c : ℤ) → int_min a (int_min b c) ≡ int_min (int_min a b) c
min_assoc a b c = omega (arith, ints, clamps)

max_assoc : (a b c : ℤ) → int_max a (int_max b c) ≡ int_max (int_max a b) c
max_assoc a b c = omega (arith, ints, clamps)

pub union_comm : (a b : Corners) → union a b ≡ union b a
union_comm a b =
    let x1 = min_comm a.x1 b.x1 in
    let y1 = min_comm a.y1 b.y1 in
    let x2 = max_comm a.x2 b.x2 in
    let y2 = max_comm a.y2 b.y2 in
    λ i. record { x1 = x1 i; y1 = y1 i; x2 = x2 i; y2 = y2 i }

pub union_assoc : (a b c : Corners) → union a (union b c) ≡ union (union a b) c
union_assoc a b c =
    let x1 = min_assoc a.x1 b.x1 c.x1 in
    let y1 = min_assoc a.y1 b.y1 c.y1 in
    let x2 = max_assoc a.x2 b.x2 c.x2 in
    let y2 = max_assoc a.y2 b.y2 c.y2 in
    λ i. record { x1 = x1 i; y1 = y1 i; x2 = x2 i; y2 = y2 i }

union_swap : (a b c : Corners) → union a (union b c) ≡ union b (union a c)
union_swap a b c = union_assoc a b c ∙ ap (λ x. union x c) (union_comm a b) ∙ sym (union_assoc b a c)

around_swap : (a b : Corners) (cs : List Corners) → union a (around b cs) ≡ union b (around a cs)
around_swap a b [] = union_comm a b
around_swap a b (c ∷ cs) = union_swap a c (around b cs) ∙ ap (union c) (around_swap a b cs) ∙ union_swap c b (around a cs)

around_more : (a b : Corners) (xs ys : List Corners) → around a (xs ++ b ∷ ys) ≡ union (around a (xs ++ ys)) b
around_more a b [] ys = union_comm b (around a ys)
around_more a b (x ∷ xs) ys = ap (union x) (around_more a b xs ys) ∙ union_assoc x (around a (xs ++ ys)) b

-- a list of one box at least, with one more
round_more : (b : Corners) (xs ys : List Corners) → 1 ≤ length (xs ++ ys) → least_round (xs ++ b ∷ ys) ≡ union (least_round (xs ++ ys)) b
round_more b [] [] some = absurd (omega arith)
round_more b [] (y ∷ ys) some = around_swap y b ys ∙ union_comm b (around y ys)
round_more b (x ∷ xs) ys some = around_more x b xs ys

round_alone : (b : Corners) (xs ys : List Corners) → xs ++ ys ≡ [] → least_round (xs ++ b ∷ ys) ≡ b
round_alone b [] [] none = refl
round_alone b [] (y ∷ ys) none = absurd (cc)
round_alone b (x ∷ xs) ys none = absurd (cc)

-- ---- the boxes of a group with one entry more

record Inserted (b : Corners) (old new : List Corners) : Type 0 where
  front : List Corners
  back : List Corners
  old_is : old ≡ front ++ back
  new_is : new ≡ front ++ b ∷ back

not_in_none : (side : Side) → is_in side None ≡ false
not_in_none First = refl
not_in_none Second = refl

in_own : (side : Side) → is_in side (Some side) ≡ true
in_own First = refl
in_own Second = refl

inserted_behind : (t : Bool) (a b : Corners) (old new : List Corners) → Inserted b old new → Inserted b (cond t (a ∷ old) old) (cond t (a ∷ new) new)
inserted_behind true a b old new i = record { front = a ∷ i.front; back = i.back; old_is = ap (λ xs. a ∷ xs) i.old_is; new_is = ap (λ xs. a ∷ xs) i.new_is }
inserted_behind false a b old new i = i

inserted : (side : Side) (sides : Sides) (boxes : List Corners) (p : ℕ) → length sides ≡ length boxes → IsLeft sides p → Inserted (box_at boxes p) (boxes_in side sides boxes) (boxes_in side (set sides p (Some side)) boxes)
inserted side [] boxes p size left = absurd (cc)
inserted side (s ∷ sides) [] p size left = absurd (omega arith)
inserted side (s ∷ sides) (b ∷ boxes) zero size left =
    let none : s ≡ None = cc in
    let out : is_in side s ≡ false = ap (is_in side) none ∙ not_in_none side in
    record {
      front = [];
      back = boxes_in side sides boxes;
      old_is = ap (λ t. cond t (b ∷ boxes_in side sides boxes) (boxes_in side sides boxes)) out;
      new_is = ap (λ t. cond t (b ∷ boxes_in side sides boxes) (boxes_in side sides boxes)) (in_own side);
    }
inserted side (s ∷ sides) (b ∷ boxes) (suc p) size left =
    inserted_behind (is_in side s) b (box_at boxes p) (boxes_in side sides boxes) (boxes_in side (set sides p (Some side)) boxes) (inserted side sides boxes p (omega arith) left)

-- the boxes of the other group stay
others_stay : (side other : Side) (sides : Sides) (boxes : List Corners) (p : ℕ) → IsLeft sides p → is_in side (Some other) ≡ false → boxes_in side (set sides p (Some other)) boxes ≡ boxes_in side sides boxes
others_stay side other [] boxes p left out = refl
others_stay side other (s ∷ sides) [] zero left out = refl
others_stay side other (s ∷ sides) [] (suc p) left out = refl
others_stay side other (s ∷ sides) (b ∷ boxes) zero left out =
    let none : s ≡ None = cc in
    let same : is_in side (Some other) ≡ is_in side s = out ∙ sym (ap (is_in side) none ∙ not_in_none side) in
    ap (λ t. cond t (b ∷ boxes_in side sides boxes) (boxes_in side sides boxes)) same
others_stay side other (s ∷ sides) (b ∷ boxes) (suc p) left out =
    ap (λ bs. cond (is_in side s) (b ∷ bs) bs) (others_stay side other sides boxes p left out)

-- ---- counts

abbrev one_if : Bool → ℕ
one_if b = cond b 1 0

pub count_set : (test : Option Side → Bool) (sides : Sides) (p : ℕ) (was is : Option Side) → slice_get sides p ≡ Some was → count_by test (set sides p is) + one_if (test was) ≡ count_by test sides + one_if (test is)
count_set test sides p was is there =
    let at : get_or sides p was ≡ was = get_or_from_slice_get sides p was was there in
    ap (λ s. count_by test (set sides p is) + one_if (test s)) (sym at)
    ∙ sum_by-set (λ s. one_if (test s)) sides p is was (slice_get_within sides p was there)

pub count_own : (side : Side) (sides : Sides) (p : ℕ) → IsLeft sides p → count_in side (set sides p (Some side)) ≡ count_in side sides + 1
count_own side sides p left =
    let e = count_set (is_in side) sides p None (Some side) left in
    let a : one_if (is_in side None) ≡ 0 = ap one_if (not_in_none side) in
    let b : one_if (is_in side (Some side)) ≡ 1 = ap one_if (in_own side) in
    omega (arith, e, a, b)

pub count_other : (side other : Side) (sides : Sides) (p : ℕ) → IsLeft sides p → is_in side (Some other) ≡ false → count_in side (set sides p (Some other)) ≡ count_in side sides
count_other side other sides p left out =
    let e = count_set (is_in side) sides p None (Some other) left in
    let a : one_if (is_in side None) ≡ 0 = ap one_if (not_in_none side) in
    let b : one_if (is_in side (Some other)) ≡ 0 = ap one_if out in
    omega (arith, e, a, b)

pub count_left : (side : Side) (sides : Sides) (p : ℕ) → IsLeft sides p → left_in (set sides p (Some side)) + 1 ≡ left_in sides
count_left side sides p left = let e = count_set is_left sides p None (Some side) left in omega (arith, e)

boxes_count_at : (t : Bool) (b : Corners) (bs : List Corners) (n : ℕ) → length bs ≡ n → length (cond t (b ∷ bs) bs) ≡ one_if t + n
boxes_count_at true b bs n e = omega (arith, e)
boxes_count_at false b bs n e = omega (arith, e)

boxes_count : (side : Side) (sides : Sides) (boxes : List Corners) → length sides ≡ length boxes → length (boxes_in side sides boxes) ≡ count_in side sides
boxes_count side [] [] size = refl
boxes_count side [] (b ∷ boxes) size = absurd (omega arith)
boxes_count side (s ∷ sides) [] size = absurd (omega arith)
boxes_count side (s ∷ sides) (b ∷ boxes) size =
    boxes_count_at (is_in side s) b (boxes_in side sides boxes) (count_in side sides) (boxes_count side sides boxes (omega arith))
    ∙ sym (sum_by-cons (λ t. one_if (is_in side t)) s sides)

-- ---- groups

-- the group that takes the entry
pub joins : (side : Side) (sides : Sides) (boxes : List Corners) (group new : Group) (p : ℕ) → length sides ≡ length boxes → IsGroup side sides boxes group → 1 ≤ group.count → IsLeft sides p → IsMeasured new → new.cover ≡ union group.cover (box_at boxes p) → new.count ≡ group.count + 1 → IsGroup side (set sides p (Some side)) boxes new
unfolding cover
joins side sides boxes group new p size is some left measured grown counted =
    let i = inserted side sides boxes p size left in
    let long : 1 ≤ length (i.front ++ i.back) = (let n : length (boxes_in side sides boxes) ≡ count_in side sides = boxes_count side sides boxes size in
    let m : length (boxes_in side sides boxes) ≡ length (i.front ++ i.back) = ap (λ (bs : List Corners). length bs) i.old_is in
    omega (arith, n, m, is.count_is)) in
    record {
      measured = measured;
      cover_is =
          grown
          ∙ ap (λ c. union c (box_at boxes p)) (is.cover_is ∙ ap least_round i.old_is)
          ∙ sym (round_more (box_at boxes p) i.front i.back long)
          ∙ sym (ap least_round i.new_is);
      count_is = counted ∙ ap (λ n. n + 1) is.count_is ∙ sym (count_own side sides p left);
    }

-- the other one
pub stays : (side other : Side) (sides : Sides) (boxes : List Corners) (group : Group) (p : ℕ) → IsGroup side sides boxes group → IsLeft sides p → is_in side (Some other) ≡ false → IsGroup side (set sides p (Some other)) boxes group
unfolding cover
stays side other sides boxes group p is left out = record {
  measured = is.measured;
  cover_is = is.cover_is ∙ sym (ap least_round (others_stay side other sides boxes p left out));
  count_is = is.count_is ∙ sym (count_other side other sides p left out);
}

-- the first entry of a group
pub begins : (side : Side) (sides : Sides) (boxes : List Corners) (new : Group) (p : ℕ) → length sides ≡ length boxes → count_in side sides ≡ 0 → IsLeft sides p → IsMeasured new → new.cover ≡ box_at boxes p → new.count ≡ 1 → IsGroup side (set sides p (Some side)) boxes new
unfolding cover
begins side sides boxes new p size empty left measured alone counted =
    let i = inserted side sides boxes p size left in
    let n : length (boxes_in side sides boxes) ≡ count_in side sides = boxes_count side sides boxes size in
    let none : boxes_in side sides boxes ≡ [] = nil (boxes_in side sides boxes) (n ∙ empty) in
    record {
      measured = measured;
      cover_is = alone ∙ sym (round_alone (box_at boxes p) i.front i.back (sym i.old_is ∙ none)) ∙ sym (ap least_round i.new_is);
      count_is = counted ∙ sym (count_own side sides p left ∙ ap (λ n. n + 1) empty);
    }
  where
    nil : (bs : List Corners) → length bs ≡ 0 → bs ≡ []
    nil [] e = refl
    nil (b ∷ bs) e = absurd (omega arith)

-- ---- both groups, as the division begins and as it goes on

pub all_left : (n p : ℕ) → p < n → IsLeft (replicate n None) p
all_left n p low =
    let none : Sides = replicate n None in
    let size : length none ≡ n = length-replicate n None in
    slice_get-get_or none p None (omega arith) ∙ ap Some (get_or-replicate n p None None low)

pub left_beside : (sides : Sides) (i j : ℕ) (s : Option Side) → i < j → IsLeft sides j → IsLeft (set sides i s) j
left_beside sides i j s order left =
    let inside : j < length sides = slice_get_within sides j None left in
    let size : length (set sides i s) ≡ length sides = length-set sides i s in
    let ne : j ≢ i = omega arith in
    slice_get-get_or (set sides i s) j None (omega arith)
    ∙ ap Some (get_or-set_other sides i j s None ne ∙ get_or_from_slice_get sides j None None left)

pub none_in : (side : Side) (n : ℕ) → count_in side (replicate n None) ≡ 0
none_in side zero = refl
none_in side (suc n) =
    let none : Sides = replicate n None in
    let out : one_if (is_in side None) ≡ 0 = ap one_if (not_in_none side) in
    let rest : count_in side none ≡ 0 = none_in side n in
    let e : count_in side (None ∷ none) ≡ one_if (is_in side None) + count_in side none = sum_by-cons (λ s. one_if (is_in side s)) None none in
    omega (arith, e, out, rest)

pub left_all : (n : ℕ) → left_in (replicate n None) ≡ n
left_all zero = refl
left_all (suc n) =
    let none : Sides = replicate n None in
    let rest : left_in none ≡ n = left_all n in
    let e : left_in (None ∷ none) ≡ 1 + left_in none = sum_by-cons (λ s. one_if (is_left s)) None none in
    omega (arith, e, rest)

pub begun_groups : (boxes : List Corners) (i j : ℕ) (first second : Group) → i < j → j < length boxes → IsMeasured first → IsMeasured second
    → first.cover ≡ box_at boxes i → second.cover ≡ box_at boxes j → first.count ≡ 1 → second.count ≡ 1
    → AreGroups boxes (begun (length boxes) i j) first second (length boxes - 2)
begun_groups boxes i j first second order inside measured measured_second cover_first cover_second count_first count_second =
    let n = length boxes in
    let none : Sides = replicate n None in
    let one : Sides = set none i (Some First) in
    let size : length none ≡ n = length-replicate n None in
    let size_one : length one ≡ n = length-set none i (Some First) ∙ size in
    let left_i : IsLeft none i = all_left n i (omega arith) in
    let left_j : IsLeft one j = left_beside none i j (Some First) order (all_left n j inside) in
    let a : left_in one + 1 ≡ left_in none = count_left First none i left_i in
    let b : left_in (set one j (Some Second)) + 1 ≡ left_in one = count_left Second one j left_j in
    let c : left_in none ≡ n = left_all n in
    let group : IsGroup First one boxes first = begins First none boxes first i size (none_in First n) left_i measured cover_first count_first in
    record {
      size = length-set one j (Some Second) ∙ size_one;
      first_is = stays First Second one boxes first j group left_j refl;
      second_is = begins Second one boxes second j size_one (count_other Second First none i left_i refl ∙ none_in Second n) left_j measured_second cover_second count_second;
      first_some = omega (arith, count_first);
      second_some = omega (arith, count_second);
      left_is = omega (arith, a, b, c);
      all = omega (arith, count_first, count_second);
    }

pub took_first : (boxes : List Corners) (sides : Sides) (first second new : Group) (left p : ℕ) (side : Side) → AreGroups boxes sides first second left → IsLeft sides p → side ≡ First → IsMeasured new → new.cover ≡ union first.cover (box_at boxes p) → new.count ≡ first.count + 1
    → AreGroups boxes (set sides p (Some side)) new second (left - 1)
took_first boxes sides first second new left p side are is_left side_is measured grown counted =
    let e : left_in (set sides p (Some First)) + 1 ≡ left_in sides = count_left First sides p is_left in
    let at : AreGroups boxes (set sides p (Some First)) new second (left - 1) = record {
      size = length-set sides p (Some First) ∙ are.size;
      first_is = joins First sides boxes first new p are.size are.first_is are.first_some is_left measured grown counted;
      second_is = stays Second First sides boxes second p are.second_is is_left refl;
      first_some = omega (arith, counted);
      second_some = are.second_some;
      left_is = omega (arith, e, are.left_is);
      all = omega (arith, e, are.left_is, are.all, counted);
    } in
    subst (λ (s : Side). AreGroups boxes (set sides p (Some s)) new second (left - 1)) (sym side_is) at

pub took_second : (boxes : List Corners) (sides : Sides) (first second new : Group) (left p : ℕ) (side : Side) → AreGroups boxes sides first second left → IsLeft sides p → side ≡ Second → IsMeasured new → new.cover ≡ union second.cover (box_at boxes p) → new.count ≡ second.count + 1
    → AreGroups boxes (set sides p (Some side)) first new (left - 1)
took_second boxes sides first second new left p side are is_left side_is measured grown counted =
    let e : left_in (set sides p (Some Second)) + 1 ≡ left_in sides = count_left Second sides p is_left in
    let at : AreGroups boxes (set sides p (Some Second)) first new (left - 1) = record {
      size = length-set sides p (Some Second) ∙ are.size;
      first_is = stays First Second sides boxes first p are.first_is is_left refl;
      second_is = joins Second sides boxes second new p are.size are.second_is are.second_some is_left measured grown counted;
      first_some = are.first_some;
      second_some = omega (arith, counted);
      left_is = omega (arith, e, are.left_is);
      all = omega (arith, e, are.left_is, are.all, counted);
    } in
    subst (λ (s : Side). AreGroups boxes (set sides p (Some s)) first new (left - 1)) (sym side_is) at
