-- How a division goes on and ends.
use Rattle.std.proofs.Common.{◌≡◌, ℕ, zero, suc, ◌+◌, ◌*◌, ◌<◌, ◌≤◌, Bool, true, false, cond, Option, Some, None, List, [], ◌∷◌, ◌++◌, length, map, take, drop, set, get_or, add-one, refl, sym, ◌∙◌, ap, subst, arith}
use Rattle.std.specs.Prelude.{MatchOption, nat_le, count_by}
use Rattle.std.proofs.lemmas.Bool.Decides.{nat_tests}
use Rattle.std.proofs.lemmas.List.Sums.{sum_by-cons}
use Rattle.isp_mbr.specs.Corners.{Corners}
use Rattle.isp_split.specs.Groups.{HasFill, Sides, is_left, is_in, left_in, count_in, places_from}
use Rattle.isp_split.specs.Division.{Divides, IsNextOf, filled, needy, needy_of, taken, with_rest}
use Rattle.isp_split.specs.UnderWay.{AreGroups}
use Rattle.isp_split.specs.declared.group.Group.{Group}
use Rattle.isp_split.specs.declared.side.Side.{Side}
use Rattle.isp_split.specs.declared.side.Side.TheVariants.{First, Second}

-- an entry is taken
pub goes_on : (boxes : List Corners) (least : ℕ) (sides new end : Sides) (left then p : ℕ) → left ≡ then + 1 → needy least sides ≡ None → IsNextOf boxes sides p → new ≡ taken boxes sides p → Divides then boxes least new end → Divides left boxes least sides end
goes_on boxes least sides new end zero then p one none next is rest = absurd (omega arith)
goes_on boxes least sides new end (suc left) then p one none next is rest =
    let same : then ≡ left = omega arith in
    let rest' : Divides left boxes least (taken boxes sides p) end = subst (λ (n : ℕ). Divides n boxes least (taken boxes sides p) end) same (subst (λ (s : Sides). Divides then boxes least s end) is rest) in
    subst (λ (o : Option Side). MatchOption o ((place : ℕ) × IsNextOf boxes sides place × Divides left boxes least (taken boxes sides place) end) (λ side. end ≡ filled side sides)) (sym none) (p, next, rest')

-- one group takes all that are left
pub ends : (boxes : List Corners) (least : ℕ) (sides end : Sides) (left : ℕ) (side : Side) → 0 < left → needy least sides ≡ Some side → end ≡ filled side sides → Divides left boxes least sides end
ends boxes least sides end zero side some needs is = absurd (omega arith)
ends boxes least sides end (suc left) side some needs is =
    subst (λ (o : Option Side). MatchOption o ((place : ℕ) × IsNextOf boxes sides place × Divides left boxes least (taken boxes sides place) end) (λ side. end ≡ filled side sides)) (sym needs) is

-- the code's counts are the groups'
pub needy_is : (boxes : List Corners) (least : ℕ) (sides : Sides) (first second : Group) (left : ℕ) → AreGroups boxes sides first second left → needy_of least first.count second.count left ≡ needy least sides
needy_is boxes least sides first second left are =
    let a = are.first_is.count_is in
    let b = are.second_is.count_is in
    let c = are.left_is in
    λ i. needy_of least (a i) (b i) (c i)

-- ---- counts after one group took all that were left

abbrev one_if : Bool → ℕ
one_if b = cond b 1 0

own_rest : (side : Side) (s : Option Side) → one_if (is_in side (with_rest side s)) ≡ one_if (is_in side s) + one_if (is_left s)
own_rest First None = refl
own_rest First (Some First) = refl
own_rest First (Some Second) = refl
own_rest Second None = refl
own_rest Second (Some First) = refl
own_rest Second (Some Second) = refl

pub count_filled : (side : Side) (sides : Sides) → count_in side (filled side sides) ≡ count_in side sides + left_in sides
count_filled side [] = refl
count_filled side (s ∷ sides) =
    omega (arith, sum_by-cons (λ t. one_if (is_in side t)) (with_rest side s) (filled side sides), sum_by-cons (λ t. one_if (is_in side t)) s sides, sum_by-cons (λ t. one_if (is_left t)) s sides, own_rest side s, count_filled side sides)

other_rest : (side other : Side) (s : Option Side) → is_in side (Some other) ≡ false → is_in side (with_rest other s) ≡ is_in side s
other_rest First other None out = out
other_rest Second other None out = out
other_rest side other (Some s) out = refl

pub count_other_filled : (side other : Side) (sides : Sides) → is_in side (Some other) ≡ false → count_in side (filled other sides) ≡ count_in side sides
count_other_filled side other [] out = refl
count_other_filled side other (s ∷ sides) out =
    omega (arith, sum_by-cons (λ t. one_if (is_in side t)) (with_rest other s) (filled other sides), sum_by-cons (λ t. one_if (is_in side t)) s sides, ap one_if (other_rest side other s out), count_other_filled side other sides out)

first_test : (a b : Bool) → ◌≡◌ {A = Option Side} (cond a (Some First) (cond b (Some Second) None)) (Some First) → a ≡ true
first_test true b h = refl
first_test false true h = absurd (cc)
first_test false false h = absurd (cc)

second_test : (a b : Bool) → ◌≡◌ {A = Option Side} (cond a (Some First) (cond b (Some Second) None)) (Some Second) → b ≡ true
second_test true b h = absurd (cc)
second_test false true h = refl
second_test false false h = absurd (cc)

no_test : (a b : Bool) → ◌≡◌ {A = Option Side} (cond a (Some First) (cond b (Some Second) None)) None → (a ≡ false) × (b ≡ false)
no_test true b h = absurd (cc)
no_test false true h = absurd (cc)
no_test false false h = (refl, refl)

pub needs_first : (least first second left : ℕ) → needy_of least first second left ≡ Some First → first + left ≤ least
needs_first least first second left h = let t = first_test (nat_le (first + left) least) (nat_le (second + left) least) h in grind (arith, nat_tests)

pub needs_second : (least first second left : ℕ) → needy_of least first second left ≡ Some Second → second + left ≤ least
needs_second least first second left h = let t = second_test (nat_le (first + left) least) (nat_le (second + left) least) h in grind (arith, nat_tests)

-- no group needs all
pub needs_none : (least first second left : ℕ) → needy_of least first second left ≡ None → (least < first + left) × (least < second + left)
needs_none least first second left h =
    let t : (nat_le (first + left) least ≡ false) × (nat_le (second + left) least ≡ false) = no_test (nat_le (first + left) least) (nat_le (second + left) least) h in
    let a : nat_le (first + left) least ≡ false = t.0 in
    let b : nat_le (second + left) least ≡ false = t.1 in
    (grind (arith, nat_tests), grind (arith, nat_tests))

pub fill_of_filled : (boxes : List Corners) (least : ℕ) (sides end : Sides) (first second : Group) (left : ℕ) (side : Side) → AreGroups boxes sides first second left → 2 * least ≤ length boxes → least ≤ first.count + left → least ≤ second.count + left → needy_of least first.count second.count left ≡ Some side → end ≡ filled side sides → HasFill least end
fill_of_filled boxes least sides end first second left First are enough can_first can_second needs is =
    let most : first.count + left ≤ least = needs_first least first.count second.count left needs in
    let own : count_in First (filled First sides) ≡ count_in First sides + left_in sides = count_filled First sides in
    let other : count_in Second (filled First sides) ≡ count_in Second sides = count_other_filled Second First sides refl in
    let at : HasFill least (filled First sides) = record { first = omega (arith, own, are.first_is.count_is, are.left_is); second = omega (arith, other, most, are.second_is.count_is, are.all) } in
    subst (HasFill least) (sym is) at
fill_of_filled boxes least sides end first second left Second are enough can_first can_second needs is =
    let most : second.count + left ≤ least = needs_second least first.count second.count left needs in
    let own : count_in Second (filled Second sides) ≡ count_in Second sides + left_in sides = count_filled Second sides in
    let other : count_in First (filled Second sides) ≡ count_in First sides = count_other_filled First Second sides refl in
    let at : HasFill least (filled Second sides) = record { first = omega (arith, other, most, are.first_is.count_is, are.all); second = omega (arith, own, are.second_is.count_is, are.left_is) } in
    subst (HasFill least) (sym is) at

-- each entry that was left is taken, as far as the list was gone over
pub fill_more : {X : Type 0} (f : X → X) (all now : List X) (i : ℕ) (d : X) → i < length all → now ≡ map f (take i all) ++ drop i all → set now i (f (get_or now i d)) ≡ map f (take (i + 1) all) ++ drop (i + 1) all
fill_more {X = X} f all now i d inside is = rw add-one (by_suc all now i inside is)
  where
    by_suc : (all now : List X) (i : ℕ) → i < length all → now ≡ map f (take i all) ++ drop i all → set now i (f (get_or now i d)) ≡ map f (take (suc i) all) ++ drop (suc i) all
    by_suc [] now i inside is = absurd (omega arith)
    by_suc (x ∷ all) now zero inside is = ap (λ ys. set ys 0 (f (get_or ys 0 d))) is
    by_suc (x ∷ all) now (suc i) inside is =
        ap (λ ys. set ys (suc i) (f (get_or ys (suc i) d))) is
        ∙ ap (λ ys. f x ∷ ys) (by_suc all (map f (take i all) ++ drop i all) i (omega arith) refl)

-- ---- places

places_at : (t : Bool) (k : ℕ) (ks : List ℕ) (n : ℕ) → length ks ≡ n → length (cond t (k ∷ ks) ks) ≡ one_if t + n
places_at true k ks n e = omega (arith, e)
places_at false k ks n e = omega (arith, e)

pub places_count : (test : Option Side → Bool) (k : ℕ) (sides : Sides) → length (places_from test k sides) ≡ count_by test sides
places_count test k [] = refl
places_count test k (s ∷ sides) =
    places_at (test s) k (places_from test (suc k) sides) (count_by test sides) (places_count test (suc k) sides)
    ∙ sym (sum_by-cons (λ t. one_if (test t)) s sides)
