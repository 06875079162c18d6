-- A tree that is given page by page is a forest, where tests that compute say so.
use Rattle.std.proofs.Common.{◌≡◌, inl, inr, ℕ, suc, ◌+◌, ◌<◌, ◌≤◌, ◌==◌, Bool, true, false, cond, Option, Some, None, List, [], ◌∷◌, ◌++◌, length, refl, ap, sym, ◌∙◌, arith, subst, eqb-true, ◌&&◌, ◌||◌}
use Rattle.std.specs.Prelude.{is_none, nat_le, int_le}
use Rattle.std.specs.List.{list_all}
use Rattle.std.proofs.lemmas.Bool.Decides.{nat_tests}
use Rattle.std.proofs.lemmas.Int.{ints}
use Rattle.isp_mbr.specs.Corners.{Corners}
use Rattle.isp_mbr.specs.Boxes.{IsBox, covers}
use Rattle.isp_mbr.proofs.BoxLaws.{both}
use Rattle.isp_forest.specs.declared.entry.Entry.{Entry}
use Rattle.isp_base.specs.Lists.{Has, times}
use Rattle.isp_forest.specs.Tree.{Node, Tree, page_in, page_at, counter, child_of, numbers, named}
use Rattle.isp_forest.specs.Forest.{Forest, IsBelow, IsPage, IsLinked}
use Rattle.isp_forest.specs.Walk.{right_of, link, EndsAfter, Links}
use Rattle.isp_laws.proofs.ListLaws.{times-append, times-same}

-- ---- lists

pub has_all : {X : Type 0} (t : X → Bool) (xs : List X) (x : X) → list_all t xs ≡ true → Has xs x → t x ≡ true
has_all t [] x h k = absurd k
has_all t (z ∷ xs) x h (inl same) = let h' : (t z ≡ true) × (list_all t xs ≡ true) = both (t z) (list_all t xs) h in ap t (sym same) ∙ h'.0
has_all t (z ∷ xs) x h (inr k) = let h' : (t z ≡ true) × (list_all t xs ≡ true) = both (t z) (list_all t xs) h in has_all t xs x h'.1 k

abbrev pub AllPages : (ℕ → Node → Type 0) → List (ℕ × Node) → Type 0
AllPages P [] = Unit {0}
AllPages P (p ∷ rest) = P p.0 p.1 × AllPages P rest

pub each_page : (P : ℕ → Node → Type 0) (m : List (ℕ × Node)) → AllPages P m → (q : ℕ) (page : Node) → page_in m q ≡ Some page → P q page
each_page P [] h q page there = let no : ⊥ = cc in absurd no
each_page P (p ∷ rest) h q page there =
    elim (p.0 == q) as (λ b. (p.0 == q) ≡ b → cond b (Some p.1) (page_in rest q) ≡ Some page → P q page) [
      | true ↦ λ t k. (let same : p.1 ≡ page = cc in subst (P q) same (subst (λ (x : ℕ). P x p.1) (eqb-true p.0 q t) h.0))
      | false ↦ λ t k. each_page P rest h.1 q page k
    ] refl there

pub all_pages : (t : ℕ → Node → Bool) (m : List (ℕ × Node)) → list_all (λ p. t p.0 p.1) m ≡ true → AllPages (λ q page. t q page ≡ true) m
all_pages t [] h = tt
all_pages t (p ∷ rest) h = let h' : (t p.0 p.1 ≡ true) × (list_all (λ x. t x.0 x.1) rest ≡ true) = both (t p.0 p.1) (list_all (λ x. t x.0 x.1) rest) h in (h'.0, all_pages t rest h'.1)

-- ---- the tests

abbrev pub is_box : Corners → Bool
is_box b = int_le b.x1 b.x2 && int_le b.y1 b.y2

abbrev pub same_bool : Bool → Bool → Bool
same_bool true c = c
same_bool false true = false
same_bool false false = true

abbrev pub is_round : Corners → ℕ → Option Node → Bool
is_round b level None = true
is_round b level (Some below) = (level == suc below.level) && list_all (λ f. covers b f.b) below.entries

abbrev pub names_below : Tree → ℕ → Corners → Option ℕ → Bool
names_below tree level b None = true
names_below tree level b (Some q) = is_round b level (page_at tree q)

abbrev pub entry_fits : Tree → ℕ → Entry → Bool
entry_fits tree level e = same_bool (is_none (child_of e)) (level == 0) && (is_box e.b && names_below tree level e.b (child_of e))

abbrev pub has_level : ℕ → Option Node → Bool
has_level level None = false
has_level level (Some page) = page.level == level

abbrev pub link_fits : Tree → ℕ → Option ℕ → Bool
link_fits tree level None = true
link_fits tree level (Some r) = has_level level (page_at tree r)

abbrev pub page_fits : Tree → ℕ → Node → Bool
page_fits tree q page =
    list_all (entry_fits tree page.level) page.entries && (((page.level == 0) || nat_le (cond (q == tree.root) 1 2) (length page.entries)) && (nat_le page.ssn (counter tree) && link_fits tree page.level page.next))

-- ---- what they say

int_at_most : (tree : Corners) → is_box tree ≡ true → IsBox tree
int_at_most b h = let h' : (int_le b.x1 b.x2 ≡ true) × (int_le b.y1 b.y2 ≡ true) = both (int_le b.x1 b.x2) (int_le b.y1 b.y2) h in (grind (arith, ints), grind (arith, ints))

same_bools : (b c : Bool) → same_bool b c ≡ true → b ≡ c
same_bools true c h = sym h
same_bools false true h = cc
same_bools false false h = refl

below_at : (e : Entry) (above below : Node) (o : Option Node) → o ≡ Some below → is_round e.b above.level o ≡ true → IsBelow e above below
below_at e above below None h k = let no : ⊥ = cc in absurd no
below_at e above below (Some page) h k =
    let same : page ≡ below = cc in
    let k' : ((above.level == suc page.level) ≡ true) × (list_all (λ f. covers e.b f.b) page.entries ≡ true) = both (above.level == suc page.level) (list_all (λ f. covers e.b f.b) page.entries) k in
    subst (IsBelow e above) same (record { level = eqb-true above.level (suc page.level) k'.0; inside = λ f hf. has_all (λ x. covers e.b x.b) page.entries f k'.1 hf })

linked_at : (tree : Tree) (page : Node) (r : ℕ) (o : Option Node) → page_at tree r ≡ o → has_level page.level o ≡ true → IsLinked tree page r
linked_at tree page r None h k = cc
linked_at tree page r (Some right) h k = record { right = right; there = h; level = eqb-true right.level page.level k }

filled_at : (b : Bool) (n k level : ℕ) → (b ≡ true → level ≡ 0) → (b || nat_le n k) ≡ true → 0 < level → n ≤ k
filled_at true n k level f h inner = let z : level ≡ 0 = f refl in omega arith
filled_at false n k level f h inner = grind (arith, nat_tests)

record Fits (tree : Tree) (q : ℕ) (page : Node) : Type 0 where
  is : IsPage tree q page
  below : (e : Entry) → Has page.entries e → (r : ℕ) (b : Node) → child_of e ≡ Some r → page_at tree r ≡ Some b → IsBelow e page b
  linked : (r : ℕ) → page.next ≡ Some r → IsLinked tree page r

fits_of : (tree : Tree) (q : ℕ) (page : Node) → page_fits tree q page ≡ true → Fits tree q page
fits_of tree q page h =
    let a : (list_all (entry_fits tree page.level) page.entries ≡ true) × ((((page.level == 0) || nat_le (cond (q == tree.root) 1 2) (length page.entries)) && (nat_le page.ssn (counter tree) && link_fits tree page.level page.next)) ≡ true) = both (list_all (entry_fits tree page.level) page.entries) (((page.level == 0) || nat_le (cond (q == tree.root) 1 2) (length page.entries)) && (nat_le page.ssn (counter tree) && link_fits tree page.level page.next)) h in
    let b : ((((page.level == 0) || nat_le (cond (q == tree.root) 1 2) (length page.entries))) ≡ true) × ((nat_le page.ssn (counter tree) && link_fits tree page.level page.next) ≡ true) = both ((page.level == 0) || nat_le (cond (q == tree.root) 1 2) (length page.entries)) (nat_le page.ssn (counter tree) && link_fits tree page.level page.next) a.1 in
    let c : (nat_le page.ssn (counter tree) ≡ true) × (link_fits tree page.level page.next ≡ true) = both (nat_le page.ssn (counter tree)) (link_fits tree page.level page.next) b.1 in
    record {
      is = record {
        kinds = λ e he. (let x : (same_bool (is_none (child_of e)) (page.level == 0) ≡ true) × ((is_box e.b && names_below tree page.level e.b (child_of e)) ≡ true) = entry_at e a.0 he in same_bools (is_none (child_of e)) (page.level == 0) x.0);
        boxes = λ e he. (let x : (same_bool (is_none (child_of e)) (page.level == 0) ≡ true) × ((is_box e.b && names_below tree page.level e.b (child_of e)) ≡ true) = entry_at e a.0 he in
            let y : (is_box e.b ≡ true) × (names_below tree page.level e.b (child_of e) ≡ true) = both (is_box e.b) (names_below tree page.level e.b (child_of e)) x.1 in int_at_most e.b y.0);
        filled = filled_at (page.level == 0) (cond (q == tree.root) 1 2) (length page.entries) page.level (eqb-true page.level 0) b.0;
        numbered = at_most page.ssn (counter tree) c.0;
      };
      below = λ e he r below to there. (let x : (same_bool (is_none (child_of e)) (page.level == 0) ≡ true) × ((is_box e.b && names_below tree page.level e.b (child_of e)) ≡ true) = entry_at e a.0 he in
          let y : (is_box e.b ≡ true) × (names_below tree page.level e.b (child_of e) ≡ true) = both (is_box e.b) (names_below tree page.level e.b (child_of e)) x.1 in
          let z : is_round e.b page.level (page_at tree r) ≡ true = sym (ap (names_below tree page.level e.b) to) ∙ y.1 in
          below_at e page below (page_at tree r) there z);
      linked = λ r next. linked_at tree page r (page_at tree r) refl (sym (ap (link_fits tree page.level) next) ∙ c.1);
    }
  where
    entry_at : (e : Entry) → list_all (entry_fits tree page.level) page.entries ≡ true → Has page.entries e → (same_bool (is_none (child_of e)) (page.level == 0) ≡ true) × ((is_box e.b && names_below tree page.level e.b (child_of e)) ≡ true)
    entry_at e all he = both (same_bool (is_none (child_of e)) (page.level == 0)) (is_box e.b && names_below tree page.level e.b (child_of e)) (has_all (entry_fits tree page.level) page.entries e all he)

    at_most : (n k : ℕ) → nat_le n k ≡ true → n ≤ k
    at_most n k t = grind (arith, nat_tests)

pub forest_by_tests : (tree : Tree) (top : Node) → page_at tree tree.root ≡ Some top → top.next ≡ None → ((q : ℕ) → times q (numbers tree.pages) ≤ 1)
    → ((q : ℕ) → times q (tree.root ∷ named tree.pages) ≡ times q (numbers tree.pages)) → list_all (λ p. page_fits tree p.0 p.1) tree.pages ≡ true → Forest tree
forest_by_tests tree top rooted alone once by_one tests = record {
  top = top;
  rooted = rooted;
  alone = alone;
  once = once;
  by_one = by_one;
  each = λ q page there. (let f : Fits tree q page = fits q page there in f.is);
  below = λ p q above below e there has to k. (let f : Fits tree p above = fits p above there in f.below e has q below to k);
  linked = λ q r page there next. (let f : Fits tree q page = fits q page there in f.linked r next);
}
  where
    fits : (q : ℕ) (page : Node) → page_at tree q ≡ Some page → Fits tree q page
    fits q page there = fits_of tree q page (each_page (λ x y. page_fits tree x y ≡ true) tree.pages (all_pages (page_fits tree) tree.pages tests) q page there)

-- ---- numbers that stand once

abbrev pub distinct : List ℕ → Bool
distinct [] = true
distinct (x ∷ xs) = nat_le (times x xs) 0 && distinct xs

pub once_by_test : (xs : List ℕ) → distinct xs ≡ true → (q : ℕ) → times q xs ≤ 1
once_by_test [] h q = omega arith
once_by_test (x ∷ xs) h q =
    let h' : (nat_le (times x xs) 0 ≡ true) × (distinct xs ≡ true) = both (nat_le (times x xs) 0) (distinct xs) h in
    let rest : times q xs ≤ 1 = once_by_test xs h'.1 q in
    elim (x == q) as (λ b. (x == q) ≡ b → cond b 1 0 + times q xs ≤ 1) [
      | true ↦ λ t. (let none : times x xs ≤ 0 = at_most (times x xs) 0 h'.0 in let here : times q xs ≤ 0 = subst (λ (y : ℕ). times y xs ≤ 0) (eqb-true x q t) none in omega arith)
      | false ↦ λ t. omega arith
    ] refl
  where
    at_most : (n k : ℕ) → nat_le n k ≡ true → n ≤ k
    at_most n k t = grind (arith, nat_tests)

-- ---- right links

abbrev pub target : Option ℕ → List ℕ
target None = []
target (Some q) = q ∷ []

abbrev pub targets : List (ℕ × Node) → List ℕ
targets [] = []
targets (p ∷ rest) = target p.1.next ++ targets rest

-- a page whose link leads to r adds r to the targets
times_target : (m : List (ℕ × Node)) (p r : ℕ) → right_of (page_in m p) ≡ Some r → 0 < times r (targets m)
times_target [] p r h = cc
times_target (x ∷ rest) p r h =
    elim (x.0 == p) as (λ b. right_of (cond b (Some x.1) (page_in rest p)) ≡ Some r → 0 < times r (target x.1.next ++ targets rest)) [
      | true ↦ λ k. (let e : target x.1.next ≡ r ∷ [] = ap target k in omega (arith, times-append r (target x.1.next) (targets rest), ap (times r) e, times-same r []))
      | false ↦ λ k. (let i : 0 < times r (targets rest) = times_target rest p r k in omega (arith, times-append r (target x.1.next) (targets rest)))
    ] h

times_targets : (m : List (ℕ × Node)) (p q r : ℕ) → right_of (page_in m p) ≡ Some r → right_of (page_in m q) ≡ Some r → (p == q) ≡ false → 2 ≤ times r (targets m)
times_targets [] p q r h k other = cc
times_targets (x ∷ rest) p q r h k other =
    elim (x.0 == p) as (λ b. (x.0 == p) ≡ b → right_of (cond b (Some x.1) (page_in rest p)) ≡ Some r → 2 ≤ times r (target x.1.next ++ targets rest)) [
      | true ↦ λ t h'. (let e : target x.1.next ≡ r ∷ [] = ap target h' in
          let not_q : (x.0 == q) ≡ false = ap (λ z. z == q) (eqb-true x.0 p t) ∙ other in
          let k' : right_of (page_in rest q) ≡ Some r = rw not_q at k in
          omega (arith, times-append r (target x.1.next) (targets rest), ap (times r) e, times-same r [], times_target rest q r k'))
      | false ↦ λ t h'. elim (x.0 == q) as (λ b. right_of (cond b (Some x.1) (page_in rest q)) ≡ Some r → 2 ≤ times r (target x.1.next ++ targets rest)) [
        | true ↦ λ k'. (let e : target x.1.next ≡ r ∷ [] = ap target k' in
            omega (arith, times-append r (target x.1.next) (targets rest), ap (times r) e, times-same r [], times_target rest p r h'))
        | false ↦ λ k'. omega (arith, times-append r (target x.1.next) (targets rest), times_targets rest p q r h' k' other)
      ] k
    ] refl h

pub apart_by_test : (tree : Tree) → distinct (targets tree.pages) ≡ true → (p q r : ℕ) → link tree p ≡ Some r → link tree q ≡ Some r → p ≡ q
apart_by_test tree test p q r h k =
    elim (p == q) as (λ b. (p == q) ≡ b → p ≡ q) [
      | true ↦ λ t. eqb-true p q t
      | false ↦ λ t. (let no : ⊥ = omega (arith, times_targets tree.pages p q r h k t, once_by_test (targets tree.pages) test r) in absurd no)
    ] refl

pub ends_by_page : (tree : Tree) → AllPages (λ q page. (n : ℕ) × EndsAfter tree n q) tree.pages → (p : ℕ) → (n : ℕ) × EndsAfter tree n p
ends_by_page tree all p =
    elim (page_at tree p) as (λ o. page_at tree p ≡ o → (n : ℕ) × EndsAfter tree n p) [
      | None ↦ λ e. (0, ap right_of e)
      | Some page ↦ λ e. each_page (λ q x. (n : ℕ) × EndsAfter tree n q) tree.pages all p page e
    ] refl

pub links_by_tests : (tree : Tree) → distinct (targets tree.pages) ≡ true → AllPages (λ q page. (n : ℕ) × EndsAfter tree n q) tree.pages → Links tree
links_by_tests tree test all = record { apart = apart_by_test tree test; ends = ends_by_page tree all }
