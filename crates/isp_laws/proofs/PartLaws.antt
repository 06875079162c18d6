-- The two parts of a division are all entries, each once, and have the least fill.
use Rattle.std.proofs.Common.{◌≡◌, ℕ, zero, suc, ◌+◌, ◌*◌, ◌-◌, ◌<◌, ◌≤◌, Bool, true, false, cond, Option, Some, None, List, [], ◌∷◌, ◌++◌, length, refl, sym, ◌∙◌, ap, subst, arith, set, replicate}
use Rattle.std.specs.Prelude.{MatchOption, count_by, filter_map, slice_get, IsPermutation}
use Rattle.std.specs.List.{cons_option}
use Rattle.std.proofs.lemmas.List.{length-map, length-replicate, length-set}
use Rattle.std.proofs.lemmas.List.Sorted.{IsPermutation-cons, IsPermutation-middle, IsPermutation-refl, IsPermutation-sym, IsPermutation-trans}
use Rattle.std.proofs.lemmas.List.Sums.{sum_by-cons}
use Rattle.isp_mbr.specs.Corners.{Corners}
use Rattle.isp_split.specs.Groups.{HasFill, IsLeft, Sides, is_in, is_left, count_in, left_in, places_from}
use Rattle.isp_split.specs.Division.{Divides, IsNextOf, IsQuadraticSplit, begun, filled, needy, taken, taker}
use Rattle.isp_split.specs.declared.side.Side.{Side}
use Rattle.isp_split.specs.declared.side.Side.TheVariants.{First, Second}
use Rattle.isp_split.proofs.DivisionLaws.{count_filled, count_other_filled, needs_first, needs_none, needs_second}
use Rattle.isp_split.proofs.GroupLaws.{all_left, count_left, count_other, count_own, left_all, left_beside, none_in}
use Rattle.isp_forest.specs.declared.entry.Entry.{Entry}
use Rattle.isp_laws.specs.DivisionLaws.{AreParts, boxes_of, picked}

-- ---- what each of the groups comes to have

record Counts (least : ℕ) (sides : Sides) (left size : ℕ) : Type 0 where
  enough : 2 * least ≤ size
  long : length sides ≡ size
  left_is : left ≡ left_in sides
  all : count_in First sides + count_in Second sides + left ≡ size
  first : least ≤ count_in First sides + left
  second : least ≤ count_in Second sides + left

record Whole (least : ℕ) (sides : Sides) (size : ℕ) : Type 0 where
  long : length sides ≡ size
  none : left_in sides ≡ 0
  fill : HasFill least sides

left_filled : (side : Side) (sides : Sides) → left_in (filled side sides) ≡ 0
left_filled side [] = refl
left_filled side (None ∷ sides) = let e = sum_by-cons (λ s. cond (is_left s) 1 0) (Some side) (filled side sides) in omega (arith, e, left_filled side sides)
left_filled side (Some other ∷ sides) = let e = sum_by-cons (λ s. cond (is_left s) 1 0) (Some other) (filled side sides) in omega (arith, e, left_filled side sides)

whole_filled : (least : ℕ) (sides : Sides) (left size : ℕ) (side : Side) → Counts least sides left size → needy least sides ≡ Some side → Whole least (filled side sides) size
whole_filled least sides left size First c needs = record {
  long = length-map sides _ ∙ c.long;
  none = left_filled First sides;
  fill = record {
    first = omega (arith, count_filled First sides, c.first, c.left_is);
    second = omega (arith, count_other_filled Second First sides refl, needs_first least (count_in First sides) (count_in Second sides) (left_in sides) needs, c.all, c.left_is, c.enough);
  };
}
whole_filled least sides left size Second c needs = record {
  long = length-map sides _ ∙ c.long;
  none = left_filled Second sides;
  fill = record {
    first = omega (arith, count_other_filled First Second sides refl, needs_second least (count_in First sides) (count_in Second sides) (left_in sides) needs, c.all, c.left_is, c.enough);
    second = omega (arith, count_filled Second sides, c.second, c.left_is);
  };
}

taken_counts : (least : ℕ) (sides : Sides) (left size place : ℕ) (side : Side) → Counts least sides (suc left) size → needy least sides ≡ None → IsLeft sides place → Counts least (set sides place (Some side)) left size
taken_counts least sides left size place First c none there =
    let more = needs_none least (count_in First sides) (count_in Second sides) (left_in sides) none in
    let own = count_own First sides place there in
    let other = count_other Second First sides place there refl in
    let rest = count_left First sides place there in
    record {
      enough = c.enough;
      long = length-set sides place (Some First) ∙ c.long;
      left_is = omega (arith, rest, c.left_is);
      all = omega (arith, own, other, c.all);
      first = omega (arith, own, more.0, c.left_is);
      second = omega (arith, other, more.1, c.left_is);
    }
taken_counts least sides left size place Second c none there =
    let more = needs_none least (count_in First sides) (count_in Second sides) (left_in sides) none in
    let own = count_own Second sides place there in
    let other = count_other First Second sides place there refl in
    let rest = count_left Second sides place there in
    record {
      enough = c.enough;
      long = length-set sides place (Some Second) ∙ c.long;
      left_is = omega (arith, rest, c.left_is);
      all = omega (arith, own, other, c.all);
      first = omega (arith, other, more.0, c.left_is);
      second = omega (arith, own, more.1, c.left_is);
    }

by_needy : (left : ℕ) (boxes : List Corners) (least : ℕ) (sides end : Sides) (size : ℕ) (o : Option Side) → needy least sides ≡ o → Counts least sides (suc left) size
    → ((s : Sides) → Counts least s left size → Divides left boxes least s end → Whole least end size)
    → MatchOption o ((place : ℕ) × IsNextOf boxes sides place × Divides left boxes least (taken boxes sides place) end) (λ side. end ≡ filled side sides) → Whole least end size
by_needy left boxes least sides end size (Some side) needs c again is = subst (λ (s : Sides). Whole least s size) (sym is) (whole_filled least sides (suc left) size side c needs)
by_needy left boxes least sides end size None none c again (place, next, rest) =
    again (taken boxes sides place) (taken_counts least sides left size place (taker boxes sides place) c none next.left) rest

whole_end : (left : ℕ) (boxes : List Corners) (least : ℕ) (sides end : Sides) (size : ℕ) → Counts least sides left size → Divides left boxes least sides end → Whole least end size
whole_end zero boxes least sides end size c divides =
    let at : Whole least sides size = record {
      long = c.long;
      none = sym c.left_is;
      fill = record { first = omega (arith, c.first); second = omega (arith, c.second) };
    } in
    subst (λ (s : Sides). Whole least s size) (sym divides) at
whole_end (suc left) boxes least sides end size c divides =
    by_needy left boxes least sides end size (needy least sides) refl c (λ s counts rest. whole_end left boxes least s end size counts rest) divides

begun_counts : (least size i j : ℕ) → i < j → j < size → 1 ≤ least → 2 * least ≤ size → Counts least (begun size i j) (size - 2) size
begun_counts least size i j order inside some enough =
    let none : Sides = replicate size None in
    let one : Sides = set none i (Some First) in
    let left_i : IsLeft none i = all_left size i (omega arith) in
    let left_j : IsLeft one j = left_beside none i j (Some First) order (all_left size j inside) in
    let a : left_in one + 1 ≡ left_in none = count_left First none i left_i in
    let b : left_in (set one j (Some Second)) + 1 ≡ left_in one = count_left Second one j left_j in
    let c : left_in none ≡ size = left_all size in
    let first : count_in First (set one j (Some Second)) ≡ 1 = count_other First Second one j left_j refl ∙ count_own First none i left_i ∙ ap (λ n. n + 1) (none_in First size) in
    let second : count_in Second (set one j (Some Second)) ≡ 1 = count_own Second one j left_j ∙ ap (λ n. n + 1) (count_other Second First none i left_i refl ∙ none_in Second size) in
    record {
      enough = enough;
      long = length-set one j (Some Second) ∙ length-set none i (Some First) ∙ length-replicate size None;
      left_is = omega (arith, a, b, c);
      all = omega (arith, first, second);
      first = omega (arith, first);
      second = omega (arith, second);
    }

-- ---- what stands at the places of a group

abbrev picked_by : {X : Type 0} → (Option Side → Bool) → Sides → List X → List X
picked_by test [] xs = []
picked_by test (s ∷ sides) [] = []
picked_by test (s ∷ sides) (x ∷ xs) = cond (test s) (x ∷ picked_by test sides xs) (picked_by test sides xs)

at_head : {X : Type 0} (t : Bool) (f : ℕ → Option X) (k : ℕ) (ks : List ℕ) (x : X) (rest : List X) → f k ≡ Some x → filter_map f ks ≡ rest → filter_map f (cond t (k ∷ ks) ks) ≡ cond t (x ∷ rest) rest
at_head true f k ks x rest is more = ap (λ o. cons_option o (filter_map f ks)) is ∙ ap (λ ys. x ∷ ys) more
at_head false f k ks x rest is more = more

picked_from : {X : Type 0} (test : Option Side → Bool) (all xs : List X) (k : ℕ) (sides : Sides) → length sides ≡ length xs → ((i : ℕ) → slice_get all (k + i) ≡ slice_get xs i) → filter_map (slice_get all) (places_from test k sides) ≡ picked_by test sides xs
picked_from test all xs k [] size same = refl
picked_from test all [] k (s ∷ sides) size same = absurd (omega arith)
picked_from test all (x ∷ xs) k (s ∷ sides) size same =
    let here : k ≡ k + 0 = omega arith in
    at_head (test s) (slice_get all) k (places_from test (suc k) sides) x (picked_by test sides xs) (ap (slice_get all) here ∙ same 0)
    (picked_from test all xs (suc k) sides (omega arith) (λ i. (let up : suc k + i ≡ k + suc i = omega arith in ap (slice_get all) up ∙ same (suc i))))

long_at : {X : Type 0} (t : Bool) (x : X) (xs : List X) (n : ℕ) → length xs ≡ n → length (cond t (x ∷ xs) xs) ≡ cond t 1 0 + n
long_at true x xs n e = omega (arith, e)
long_at false x xs n e = omega (arith, e)

picked_long : {X : Type 0} (test : Option Side → Bool) (sides : Sides) (xs : List X) → length sides ≡ length xs → length (picked_by test sides xs) ≡ count_by test sides
picked_long test [] xs size = refl
picked_long test (s ∷ sides) [] size = absurd (omega arith)
picked_long test (s ∷ sides) (x ∷ xs) size =
    long_at (test s) x (picked_by test sides xs) (count_by test sides) (picked_long test sides xs (omega arith))
    ∙ sym (sum_by-cons (λ t. cond (test t) 1 0) s sides)

-- where no entry is left each is in one of the two groups
each_once : {X : Type 0} (sides : Sides) (xs : List X) → length sides ≡ length xs → left_in sides ≡ 0 → IsPermutation xs (picked_by (is_in First) sides xs ++ picked_by (is_in Second) sides xs)
each_once [] [] size none = IsPermutation-refl []
each_once [] (x ∷ xs) size none = absurd (omega arith)
each_once (s ∷ sides) [] size none = absurd (omega arith)
each_once (None ∷ sides) (x ∷ xs) size none =
    let e = sum_by-cons (λ t. cond (is_left t) 1 0) None sides in
    absurd (omega (arith, e, none))
each_once (Some First ∷ sides) (x ∷ xs) size none =
    let e = sum_by-cons (λ t. cond (is_left t) 1 0) (Some First) sides in
    IsPermutation-cons x xs (picked_by (is_in First) sides xs ++ picked_by (is_in Second) sides xs) (each_once sides xs (omega arith) (omega (arith, e, none)))
each_once (Some Second ∷ sides) (x ∷ xs) size none =
    let e = sum_by-cons (λ t. cond (is_left t) 1 0) (Some Second) sides in
    let first = picked_by (is_in First) sides xs in
    let second = picked_by (is_in Second) sides xs in
    IsPermutation-trans (x ∷ xs) (x ∷ (first ++ second)) (first ++ x ∷ second) (IsPermutation-cons x xs (first ++ second) (each_once sides xs (omega arith) (omega (arith, e, none))))
    (IsPermutation-sym (first ++ x ∷ second) (x ∷ (first ++ second)) (IsPermutation-middle first x second))

pub split_gives_parts : (level least : ℕ) (entries : List Entry) (first second : List ℕ) → 1 ≤ least → (0 < level → 2 ≤ least) → 2 * least ≤ length entries
    → IsQuadraticSplit (boxes_of entries) least first second → AreParts level least entries (picked entries first) (picked entries second)
split_gives_parts level least entries first second some two enough split =
    let size : length (boxes_of entries) ≡ length entries = length-map entries (λ e. e.b) in
    let counts : Counts least (begun (length (boxes_of entries)) split.i split.j) (length (boxes_of entries) - 2) (length (boxes_of entries)) =
    begun_counts least (length (boxes_of entries)) split.i split.j split.seeds.order split.seeds.inside some (omega arith) in
    let whole : Whole least split.end (length (boxes_of entries)) = whole_end (length (boxes_of entries) - 2) (boxes_of entries) least (begun (length (boxes_of entries)) split.i split.j) split.end (length (boxes_of entries)) counts split.divides in
    let long : length split.end ≡ length entries = whole.long ∙ size in
    let left : List Entry = picked_by (is_in First) split.end entries in
    let right : List Entry = picked_by (is_in Second) split.end entries in
    let left_is : picked entries first ≡ left = ap (picked entries) split.first_is ∙ picked_from (is_in First) entries entries 0 split.end long (λ i. (let e : 0 + i ≡ i = omega arith in ap (slice_get entries) e)) in
    let right_is : picked entries second ≡ right = ap (picked entries) split.second_is ∙ picked_from (is_in Second) entries entries 0 split.end long (λ i. (let e : 0 + i ≡ i = omega arith in ap (slice_get entries) e)) in
    let left_long : length left ≡ count_in First split.end = picked_long (is_in First) split.end entries long in
    let right_long : length right ≡ count_in Second split.end = picked_long (is_in Second) split.end entries long in
    let left_fill : least ≤ length left = omega (arith, left_long, whole.fill.first) in
    let right_fill : least ≤ length right = omega (arith, right_long, whole.fill.second) in
    let parts : AreParts level least entries left right = record {
      division = record {
        all = each_once split.end entries long whole.none;
        left_some = omega (arith, left_fill);
        right_some = omega (arith, right_fill);
        left_two = λ inner. omega (arith, two inner, left_fill);
        right_two = λ inner. omega (arith, two inner, right_fill);
      };
      left_fill = left_fill;
      right_fill = right_fill;
    } in
    subst (λ (es : List Entry). AreParts level least entries es (picked entries second)) (sym left_is)
    (subst (λ (es : List Entry). AreParts level least entries left es) (sym right_is) parts)
