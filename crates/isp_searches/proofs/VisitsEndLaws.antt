-- The visits of a search end: each comes to a page that is new to it, or it remembers fewer pages, or has one right link less
-- before it.
use Rattle.std.proofs.Common.{◌≡◌, ◌⊎◌, inl, inr, ℕ, zero, suc, ◌<◌, ◌≤◌, Bool, true, false, cond, Option, Some, None, List, [], ◌∷◌, ◌++◌, length, refl, ap, sym, ◌∙◌, arith, subst, length-append}
use Rattle.std.specs.Prelude.{not, filter, nat_lt}
use Rattle.isp_base.specs.Lists.{Has}
use Rattle.isp_forest.specs.Tree.{Node, Tree, page_at, counter, numbers}
use Rattle.isp_forest.specs.Walk.{split_since, right_of, link, EndsAfter, Links, LinkedForest}
use Rattle.isp_forest.specs.Steps.{is_among}
use Rattle.isp_forest.specs.Search.{Search, IsRemembered, Covered}
use Rattle.isp_forest.specs.Visit.{remembered, looked_at, visited_at, visit}
use Rattle.isp_laws.proofs.ListLaws.{Has-append_left, Has-append_right, Has-times}
use Rattle.isp_laws.proofs.PageLaws.{times_there}
use Rattle.isp_searches.specs.SearchLaws.{IsVisit, Visits, away, Behind, ComesNearer}
use Rattle.isp_searches.proofs.SeesLaws.{among_has, has_among, not_both}
use Rattle.isp_searches.proofs.VisitSearchLaws.{visit_covered}

-- ---- the last of a list

last_of : ℕ × ℕ → List (ℕ × ℕ) → ℕ × ℕ
last_of d [] = d
last_of d (x ∷ xs) = last_of x xs

last_is : (d : ℕ × ℕ) (xs : List (ℕ × ℕ)) (a : ℕ × ℕ) → last_of d (xs ++ a ∷ []) ≡ a
unfolding last_of
last_is d [] a = refl
last_is d (x ∷ xs) a = last_is x xs a

front_of : List (ℕ × ℕ) → List (ℕ × ℕ)
front_of [] = []
front_of (x ∷ []) = []
front_of (x ∷ y ∷ xs) = x ∷ front_of (y ∷ xs)

front_is : (xs : List (ℕ × ℕ)) (a : ℕ × ℕ) → front_of (xs ++ a ∷ []) ≡ xs
unfolding front_of
front_is [] a = refl
front_is (x ∷ []) a = refl
front_is (x ∷ y ∷ xs) a = ap (λ ys. x ∷ ys) (front_is (y ∷ xs) a)

same_last : (xs ys : List (ℕ × ℕ)) (a b : ℕ × ℕ) → xs ++ a ∷ [] ≡ ys ++ b ∷ [] → a ≡ b
same_last xs ys a b h = sym (last_is a xs a) ∙ ap (last_of a) h ∙ last_is a ys b

same_front : (xs ys : List (ℕ × ℕ)) (a b : ℕ × ℕ) → xs ++ a ∷ [] ≡ ys ++ b ∷ [] → xs ≡ ys
same_front xs ys a b h = sym (front_is xs a) ∙ ap front_of h ∙ front_is ys b

record Split (xs : List (ℕ × ℕ)) : Type 0 where
  front : List (ℕ × ℕ)
  last : ℕ × ℕ
  is : xs ≡ front ++ last ∷ []

last_or_none : (xs : List (ℕ × ℕ)) → (xs ≡ []) ⊎ Split xs
last_or_none [] = inl refl
last_or_none (x ∷ xs) = elim (last_or_none xs) [
  | inl none ↦ inr (record { front = []; last = x; is = ap (λ ys. x ∷ ys) none })
  | inr s ↦ inr (record { front = x ∷ s.front; last = s.last; is = ap (λ ys. x ∷ ys) s.is })
]

never_none : (xs : List (ℕ × ℕ)) (a : ℕ × ℕ) → [] ≡ xs ++ a ∷ [] → ⊥
never_none [] a h = cc
never_none (x ∷ xs) a h = cc

-- ---- how many pages it isn't on

at_most : (s t : ℕ → Bool) → ((q : ℕ) → s q ≡ true → t q ≡ true) → (ns : List ℕ) → length (filter s ns) ≤ length (filter t ns)
at_most s t imp [] = omega arith
at_most s t imp (n ∷ ns) = one (s n) (t n) n (filter s ns) (filter t ns) (imp n) (at_most s t imp ns)
  where
    one : (b c : Bool) (n : ℕ) (xs ys : List ℕ) → (b ≡ true → c ≡ true) → length xs ≤ length ys → length (cond b (n ∷ xs) xs) ≤ length (cond c (n ∷ ys) ys)
    one true true n xs ys f h = omega arith
    one true false n xs ys f h = let no : false ≡ true = f refl in cc
    one false true n xs ys f h = omega arith
    one false false n xs ys f h = h

fewer : (s t : ℕ → Bool) → ((q : ℕ) → s q ≡ true → t q ≡ true) → (ns : List ℕ) (p : ℕ) → Has ns p → s p ≡ false → t p ≡ true → length (filter s ns) < length (filter t ns)
fewer s t imp [] p h out is_in = absurd h
fewer s t imp (n ∷ ns) p (inl here) out is_in =
    one (s n) (t n) n (filter s ns) (filter t ns) (ap s here ∙ out) (ap t here ∙ is_in) (at_most s t imp ns)
  where
    one : (b c : Bool) (n : ℕ) (xs ys : List ℕ) → b ≡ false → c ≡ true → length xs ≤ length ys → length (cond b (n ∷ xs) xs) < length (cond c (n ∷ ys) ys)
    one true c n xs ys f g h = cc
    one false true n xs ys f g h = omega arith
    one false false n xs ys f g h = cc
fewer s t imp (n ∷ ns) p (inr more) out is_in = one (s n) (t n) n (filter s ns) (filter t ns) (imp n) (fewer s t imp ns p more out is_in)
  where
    one : (b c : Bool) (n : ℕ) (xs ys : List ℕ) → (b ≡ true → c ≡ true) → length xs < length ys → length (cond b (n ∷ xs) xs) < length (cond c (n ∷ ys) ys)
    one true true n xs ys f h = omega arith
    one true false n xs ys f h = let no : false ≡ true = f refl in cc
    one false true n xs ys f h = omega arith
    one false false n xs ys f h = h

not_of : (b : Bool) → b ≡ false → not b ≡ true
not_of true h = cc
not_of false h = refl

not_not : (b : Bool) → not b ≡ true → b ≡ false
not_not true h = cc
not_not false h = refl

not_true : (b : Bool) → b ≡ true → not b ≡ false
not_true true h = refl
not_true false h = cc

closer : (tree : Tree) (on : List ℕ) (p : ℕ) (page : Node) → page_at tree p ≡ Some page → is_among on p ≡ false
    → length (filter (λ q. not (is_among (on ++ p ∷ []) q)) (numbers tree.pages)) < length (filter (λ q. not (is_among on q)) (numbers tree.pages))
closer tree on p page there new =
    fewer (λ q. not (is_among (on ++ p ∷ []) q)) (λ q. not (is_among on q)) less (numbers tree.pages) p (Has-times p (numbers tree.pages) (times_there tree.pages p page there))
    (not_true (is_among (on ++ p ∷ []) p) (has_among (on ++ p ∷ []) p (Has-append_right on (p ∷ []) p (inl refl)))) (not_of (is_among on p) new)
  where
    less : (q : ℕ) → not (is_among (on ++ p ∷ []) q) ≡ true → not (is_among on q) ≡ true
    less q h = elim (is_among on q) as (λ b. is_among on q ≡ b → not b ≡ true) [
      | true ↦ λ t. absurd (not_both (is_among (on ++ p ∷ []) q) (has_among (on ++ p ∷ []) q (Has-append_left on (p ∷ []) q (among_has on q t))) (not_not (is_among (on ++ p ∷ []) q) h))
      | false ↦ λ t. refl
    ] refl

-- ---- a visit comes nearer

next_of : (s : ℕ) (page : Node) (r : ℕ) → split_since s (Some page) ≡ Some r → page.next ≡ Some r
next_of s page r h = elim (nat_lt s page.ssn) as (λ b. cond b page.next None ≡ Some r → page.next ≡ Some r) [ true ↦ λ k. k | false ↦ λ k. cc ] h

one_less : (tree : Tree) (n p r : ℕ) → link tree p ≡ Some r → EndsAfter tree n p → (m : ℕ) × (n ≡ suc m) × EndsAfter tree m r
one_less tree zero p r to ends = let none : link tree p ≡ None = ends in let no : ⊥ = cc in absurd no
one_less tree (suc n) p r to ends =
    let same : Some ends.0 ≡ Some r = sym ends.1 ∙ to in
    let at : ends.0 ≡ r = cc in
    (n, refl, subst (EndsAfter tree n) at ends.2)

behind_one : (tree : Tree) (y : Search) (rest : List (ℕ × ℕ)) (r s m : ℕ) → y.stack ≡ rest ++ (r, s) ∷ [] → EndsAfter tree m r → Behind tree y m
behind_one tree y rest r s m is ends = λ rest' p' s' is'. (
    let same : (r, s) ≡ (p', s') = same_last rest rest' (r, s) (p', s') (sym is ∙ is') in
    subst (λ (z : ℕ × ℕ). EndsAfter tree m z.0) same ends)

seen_nearer : (tree : Tree) (x : Search) (rest : List (ℕ × ℕ)) (p s : ℕ) (page : Node) → x.stack ≡ rest ++ (p, s) ∷ [] → page_at tree p ≡ Some page → (o : Option ℕ) → split_since s (Some page) ≡ o
    → ComesNearer tree x (record x { stack = rest ++ remembered s o })
seen_nearer tree x rest p s page stack there None e = inr (
  refl,
  inl (
      let was : length x.stack ≡ length (rest ++ (p, s) ∷ []) = ap (λ (st : List (ℕ × ℕ)). length st) stack in
      omega (arith, was, length-append rest ((p, s) ∷ []), length-append rest [])),
)
seen_nearer tree x rest p s page stack there (Some r) e =
    let was : length x.stack ≡ length (rest ++ (p, s) ∷ []) = ap (λ (st : List (ℕ × ℕ)). length st) stack in
    let as_long : length (rest ++ (r, s) ∷ []) ≡ length x.stack = omega (arith, was, length-append rest ((p, s) ∷ []), length-append rest ((r, s) ∷ [])) in
    let to : link tree p ≡ Some r = ap right_of there ∙ next_of s page r e in
    inr (
      refl,
      inr (
        as_long,
        λ n behind. (
            let l : (m : ℕ) × (n ≡ suc m) × EndsAfter tree m r = one_less tree n p r to (behind rest p s stack) in
            (l.0, l.1, behind_one tree (record x { stack = rest ++ (r, s) ∷ [] }) rest r s l.0 refl l.2)),
      ),
    )

nearer_at : (tree : Tree) (x : Search) (rest : List (ℕ × ℕ)) (p s : ℕ) (page : Node) → x.stack ≡ rest ++ (p, s) ∷ [] → page_at tree p ≡ Some page
    → ComesNearer tree x (visited_at tree p s (Some page) (record x { stack = rest }))
nearer_at tree x rest p s page stack there =
    elim (is_among x.on p) as (λ b. is_among x.on p ≡ b → ComesNearer tree x (cond b (record x { stack = rest ++ remembered s (split_since s (Some page)) }) (looked_at (counter tree) page p (record x { stack = rest ++ remembered s (split_since s (Some page)) })))) [
      | true ↦ λ t. seen_nearer tree x rest p s page stack there (split_since s (Some page)) refl
      | false ↦ λ t. inl (closer tree x.on p page there t)
    ] refl

top_remembered : (tree : Tree) (x : Search) → Covered tree x → (rest : List (ℕ × ℕ)) (p s : ℕ) → x.stack ≡ rest ++ (p, s) ∷ [] → IsRemembered tree p s
top_remembered tree x covered rest p s stack =
    covered.stack p s (subst (λ (st : List (ℕ × ℕ)). Has st (p, s)) (sym stack) (Has-append_right rest ((p, s) ∷ []) (p, s) (inl refl)))

pub visit_nearer : (tree : Tree) (x y : Search) → LinkedForest tree → Covered tree x → IsVisit tree x y → ComesNearer tree x y
visit_nearer tree x y whole covered v =
    let is : IsRemembered tree v.p v.s = top_remembered tree x covered v.rest v.p v.s v.stack in
    let near : ComesNearer tree x (visit tree v.rest v.p v.s x) = subst (λ (o : Option Node). ComesNearer tree x (visited_at tree v.p v.s o (record x { stack = v.rest }))) (sym is.there) (nearer_at tree x v.rest v.p v.s is.page v.stack is.there) in
    subst (ComesNearer tree x) v.is near

-- ---- visits end

record Bound (tree : Tree) (x : Search) : Type 0 where
  most : ℕ
  bound : (n : ℕ) (y : Search) → Visits tree n x y → n ≤ most

none_left : (tree : Tree) (x : Search) → x.stack ≡ [] → (n : ℕ) (y : Search) → Visits tree n x y → n ≤ 0
none_left tree x done zero y run = omega arith
none_left tree x done (suc n) y run = let v : IsVisit tree x run.0 = run.1 in absurd (never_none v.rest (v.p, v.s) (sym done ∙ v.stack))

-- there is one visit
one_visit : (tree : Tree) (x z : Search) (front : List (ℕ × ℕ)) (last : ℕ × ℕ) → x.stack ≡ front ++ last ∷ [] → IsVisit tree x z → visit tree front last.0 last.1 x ≡ z
one_visit tree x z front last is v =
    let same : last ≡ (v.p, v.s) = same_last front v.rest last (v.p, v.s) (sym is ∙ v.stack) in
    let rest : front ≡ v.rest = same_front front v.rest last (v.p, v.s) (sym is ∙ v.stack) in
    ap (λ (f : List (ℕ × ℕ)). visit tree f last.0 last.1 x) rest ∙ ap (λ (l : ℕ × ℕ). visit tree v.rest l.0 l.1 x) same ∙ v.is

one_more : (tree : Tree) (x y0 : Search) → Bound tree y0 → ((z : Search) → IsVisit tree x z → y0 ≡ z) → Bound tree x
one_more tree x y0 b one = record { most = suc b.most; bound = up }
  where
    up : (n : ℕ) (y : Search) → Visits tree n x y → n ≤ suc b.most
    up zero y run = omega arith
    up (suc n) y run =
        let z : Search = run.0 in
        let rest : Visits tree n y0 y = subst (λ (w : Search). Visits tree n w y) (sym (one run.0 run.1)) run.2 in
        let i : n ≤ b.most = b.bound n y rest in
        omega arith

bound_by_next : (tree : Tree) (x : Search) → ((y : Search) → IsVisit tree x y → Bound tree y) → Bound tree x
bound_by_next tree x next = elim (last_or_none x.stack) [
  | inl done ↦ record { most = 0; bound = none_left tree x done }
  | inr s ↦ (let v : IsVisit tree x (visit tree s.front (s.last).0 (s.last).1 x) = record { rest = s.front; p = (s.last).0; s = (s.last).1; stack = s.is; is = refl } in
      one_more tree x (visit tree s.front (s.last).0 (s.last).1 x) (next (visit tree s.front (s.last).0 (s.last).1 x) v) (λ z w. one_visit tree x z s.front s.last s.is w))
]

after_covered : (tree : Tree) (x y : Search) → LinkedForest tree → Covered tree x → IsVisit tree x y → Covered tree y
after_covered tree x y whole covered v = subst (Covered tree) v.is (visit_covered tree x v.rest v.p v.s whole.forest v.stack covered)

by_links : (tree : Tree) → LinkedForest tree → (a l : ℕ) → ((y : Search) → Covered tree y → away tree y < a → Bound tree y) → ((y : Search) → Covered tree y → away tree y ≤ a → length y.stack < l → Bound tree y)
    → (m : ℕ) (x : Search) → Covered tree x → away tree x ≤ a → length x.stack ≤ l → Behind tree x m → Bound tree x
by_links tree whole a l fewer_pages shorter zero x covered pages stack behind = bound_by_next tree x (λ y v. elim (visit_nearer tree x y whole covered v) [
  | inl new ↦ fewer_pages y (after_covered tree x y whole covered v) (omega arith)
  | inr more ↦ elim more.1 [
    | inl less ↦ shorter y (after_covered tree x y whole covered v) (omega (arith, more.0)) (omega arith)
    | inr link ↦ (let k : (m : ℕ) × (0 ≡ suc m) × Behind tree y m = link.1 0 behind in absurd (omega (arith, k.1)))
  ]
])
by_links tree whole a l fewer_pages shorter (suc m) x covered pages stack behind = bound_by_next tree x (λ y v. elim (visit_nearer tree x y whole covered v) [
  | inl new ↦ fewer_pages y (after_covered tree x y whole covered v) (omega arith)
  | inr more ↦ elim more.1 [
    | inl less ↦ shorter y (after_covered tree x y whole covered v) (omega (arith, more.0)) (omega arith)
    | inr link ↦ (let left : (k : ℕ) × (suc m ≡ suc k) × Behind tree y k = link.1 (suc m) behind in
        let same : left.0 ≡ m = omega (arith, left.1) in
        by_links tree whole a l fewer_pages shorter m y (after_covered tree x y whole covered v) (omega (arith, more.0)) (omega (arith, link.0)) (subst (Behind tree y) same left.2))
  ]
])

-- some number of right links is behind the page that a search remembers last
pub links_behind : (tree : Tree) → Links tree → (x : Search) → (m : ℕ) × Behind tree x m
links_behind tree links x = elim (last_or_none x.stack) [
  | inl done ↦ (0, λ rest p s is. absurd (never_none rest (p, s) (sym done ∙ is)))
  | inr s ↦ (let e : (n : ℕ) × EndsAfter tree n (s.last).0 = links.ends (s.last).0 in (e.0, behind_one tree x s.front (s.last).0 (s.last).1 e.0 s.is e.1))
]

by_stack : (tree : Tree) → LinkedForest tree → (a : ℕ) → ((y : Search) → Covered tree y → away tree y < a → Bound tree y)
    → (l : ℕ) (x : Search) → Covered tree x → away tree x ≤ a → length x.stack ≤ l → Bound tree x
by_stack tree whole a fewer_pages zero x covered pages stack =
    let b : (m : ℕ) × Behind tree x m = links_behind tree whole.links x in
    by_links tree whole a 0 fewer_pages (λ y c p less. absurd (omega arith)) b.0 x covered pages stack b.1
by_stack tree whole a fewer_pages (suc l) x covered pages stack =
    let b : (m : ℕ) × Behind tree x m = links_behind tree whole.links x in
    by_links tree whole a (suc l) fewer_pages (λ y c p less. by_stack tree whole a fewer_pages l y c p (omega arith)) b.0 x covered pages stack b.1

by_pages : (tree : Tree) → LinkedForest tree → (a : ℕ) (x : Search) → Covered tree x → away tree x ≤ a → Bound tree x
by_pages tree whole zero x covered pages = by_stack tree whole 0 (λ y c less. absurd (omega arith)) (length x.stack) x covered pages (omega arith)
by_pages tree whole (suc a) x covered pages = by_stack tree whole (suc a) (λ y c less. by_pages tree whole a y c (omega arith)) (length x.stack) x covered pages (omega arith)

pub visits_end : (tree : Tree) (x : Search) → LinkedForest tree → Covered tree x → (most : ℕ) × ((n : ℕ) (y : Search) → Visits tree n x y → n ≤ most)
visits_end tree x whole covered = let b : Bound tree x = by_pages tree whole (away tree x) x covered (omega arith) in (b.most, b.bound)
