-- Over a tree that stays, a search visits no page twice: each page is remembered with the counter, so it leads to itself alone, and is
-- remembered by the one visit of the page that names it.
use Rattle.std.proofs.Common.{◌≡◌, ◌⊎◌, inl, inr, ℕ, zero, suc, ◌+◌, ◌<◌, ◌≤◌, ◌==◌, Bool, true, false, cond, Option, Some, None, List, [], ◌∷◌, ◌++◌, length, refl, ap, sym, ◌∙◌, arith, subst, length-append, eq-eqb}
use Rattle.std.specs.List.{cons_option}
use Rattle.std.proofs.lemmas.List.{append-nil}
use Rattle.isp_mbr.specs.Predicates.{may_hold}
use Rattle.isp_mbr.specs.declared.predicate.Predicate.{Predicate}
use Rattle.isp_forest.specs.declared.entry.Entry.{Entry}
use Rattle.isp_base.specs.Lists.{Has, times}
use Rattle.isp_forest.specs.Tree.{Node, Tree, page_at, counter, child_of, children, numbers, named}
use Rattle.isp_forest.specs.Forest.{Forest}
use Rattle.isp_forest.specs.Walk.{split_since}
use Rattle.isp_forest.specs.Steps.{is_among}
use Rattle.isp_forest.specs.Place.{Names}
use Rattle.isp_forest.specs.Search.{Search}
use Rattle.isp_forest.specs.Visit.{remembered, to_visit, begun, looked_at, visited_at, visit}
use Rattle.isp_laws.proofs.ListLaws.{Has-append, Has-append_left, Has-append_right, Has-times, times-append, times-Has, times-same, no_longer}
use Rattle.isp_laws.proofs.PageLaws.{There, times_there, times_of_page}
use Rattle.isp_laws.proofs.EntryLaws.{Naming, naming}
use Rattle.isp_laws.proofs.ForestLaws.{child_there, named_not_root, one_parent}
use Rattle.isp_searches.specs.SearchLaws.{IsVisit, Visits, VisitedOnce}
use Rattle.isp_searches.proofs.SeesLaws.{IsThere, among_has, stays_here}

-- the pages that are remembered
abbrev pages : List (ℕ × ℕ) → List ℕ
pages [] = []
pages (a ∷ rest) = a.0 ∷ pages rest

pages-append : (xs ys : List (ℕ × ℕ)) → pages (xs ++ ys) ≡ pages xs ++ pages ys
pages-append [] ys = refl
pages-append (x ∷ xs) ys = ap (λ zs. x.0 ∷ zs) (pages-append xs ys)

Has-pages : (xs : List (ℕ × ℕ)) (p s : ℕ) → Has xs (p, s) → Has (pages xs) p
Has-pages [] p s h = absurd h
Has-pages (x ∷ xs) p s (inl same) = inl (ap (λ (z : ℕ × ℕ). z.0) same)
Has-pages (x ∷ xs) p s (inr h) = inr (Has-pages xs p s h)

-- ---- what a first look remembers

kids_fewer : (predicate : Predicate) (now q : ℕ) (es : List Entry) → times q (pages (to_visit predicate now es)) ≤ times q (children es)
kids_fewer predicate now q [] = omega arith
kids_fewer predicate now q (e ∷ es) = one (may_hold predicate e.b) (child_of e) (to_visit predicate now es) (children es) (kids_fewer predicate now q es)
  where
    one : (b : Bool) (o : Option ℕ) (kids : List (ℕ × ℕ)) (cs : List ℕ) → times q (pages kids) ≤ times q cs → times q (pages (cond b (remembered now o) [] ++ kids)) ≤ times q (cons_option o cs)
    one true None kids cs h = h
    one true (Some c) kids cs h = omega (arith, h)
    one false None kids cs h = h
    one false (Some c) kids cs h = omega (arith, h)

kids_now : (predicate : Predicate) (now p s : ℕ) (es : List Entry) → Has (to_visit predicate now es) (p, s) → s ≡ now
kids_now predicate now p s [] h = absurd h
kids_now predicate now p s (e ∷ es) h = elim (Has-append (cond (may_hold predicate e.b) (remembered now (child_of e)) []) (to_visit predicate now es) (p, s) h) [
  | inl k ↦ one (may_hold predicate e.b) (child_of e) k
  | inr k ↦ kids_now predicate now p s es k
]
  where
    one : (b : Bool) (o : Option ℕ) → Has (cond b (remembered now o) []) (p, s) → s ≡ now
    one true None k = absurd k
    one true (Some c) (inl same) = sym (ap (λ (z : ℕ × ℕ). z.1) same)
    one true (Some c) (inr none) = absurd none
    one false o k = absurd k

-- ---- what holds before each visit

abbrev seen : Search → List ℕ
seen x = x.on ++ pages x.stack

record NamedBy (tree : Tree) (on : List ℕ) (q : ℕ) : Type 0 where
  p : ℕ
  e : Entry
  has : Has on p
  names : Names tree p q e

record Fresh (tree : Tree) (x : Search) (n : ℕ) : Type 0 where
  once : (q : ℕ) → times q (seen x) ≤ 1
  now : (p s : ℕ) → Has x.stack (p, s) → s ≡ counter tree
  there : (q : ℕ) → Has (seen x) q → IsThere tree q
  named_by : (q : ℕ) → Has (seen x) q → (q ≡ tree.root) ⊎ NamedBy tree x.on q
  many : length x.on ≡ n

fresh_begun : (tree : Tree) (session statement : ℕ) (predicate : Predicate) → Forest tree → Fresh tree (begun tree session statement predicate) 0
fresh_begun tree session statement predicate f = record {
  once = λ q. one (tree.root == q);
  now = λ p s h. elim h [ inl same ↦ sym (ap (λ (z : ℕ × ℕ). z.1) same) | inr none ↦ absurd none ];
  there = λ q h. elim h [ inl same ↦ (f.top, subst (λ (z : ℕ). page_at tree z ≡ Some f.top) same f.rooted) | inr none ↦ absurd none ];
  named_by = λ q h. elim h [ inl same ↦ inl (sym same) | inr none ↦ absurd none ];
  many = refl;
}
  where
    one : (b : Bool) → cond b 1 0 + 0 ≤ 1
    one true = omega arith
    one false = omega arith

-- ---- one visit

record Visiting : Type 0 where
  tree : Tree
  forest : Forest tree
  x : Search
  n : ℕ
  fresh : Fresh tree x n
  rest : List (ℕ × ℕ)
  p : ℕ
  s : ℕ
  stack : x.stack ≡ rest ++ (p, s) ∷ []

seen_is : (c : Visiting) (q : ℕ) → times q (seen c.x) ≡ times q c.x.on + (times q (pages c.rest) + times q (c.p ∷ []))
seen_is c q =
    let a : times q (pages c.x.stack) ≡ times q (pages (c.rest ++ (c.p, c.s) ∷ [])) = ap (λ (st : List (ℕ × ℕ)). times q (pages st)) c.stack in
    let b : times q (pages (c.rest ++ (c.p, c.s) ∷ [])) ≡ times q (pages c.rest ++ c.p ∷ []) = ap (times q) (pages-append c.rest ((c.p, c.s) ∷ [])) in
    omega (arith, times-append q c.x.on (pages c.x.stack), a, b, times-append q (pages c.rest) (c.p ∷ []))

top_has : (c : Visiting) → Has c.x.stack (c.p, c.s)
top_has c = subst (λ (st : List (ℕ × ℕ)). Has st (c.p, c.s)) (sym c.stack) (Has-append_right c.rest ((c.p, c.s) ∷ []) (c.p, c.s) (inl refl))

top_seen : (c : Visiting) → Has (seen c.x) c.p
top_seen c = Has-append_right c.x.on (pages c.x.stack) c.p (Has-pages c.x.stack c.p c.s (top_has c))

top_there : (c : Visiting) → IsThere c.tree c.p
top_there c = c.fresh.there c.p (top_seen c)

not_on : (c : Visiting) → Has c.x.on c.p → ⊥
not_on c h = omega (arith, c.fresh.once c.p, seen_is c c.p, times-Has c.p c.x.on h, times-same c.p [])

not_among_on : (c : Visiting) → is_among c.x.on c.p ≡ false
not_among_on c = elim (is_among c.x.on c.p) as (λ b. is_among c.x.on c.p ≡ b → b ≡ false) [ true ↦ λ t. absurd (not_on c (among_has c.x.on c.p t)) | false ↦ λ t. refl ] refl

abbrev kids : Visiting → List (ℕ × ℕ)
kids c = cond ((top_there c).0.level == 0) [] (to_visit c.x.predicate (counter c.tree) (top_there c).0.entries)

abbrev visited_once : Visiting → Search
visited_once c = looked_at (counter c.tree) (top_there c).0 c.p (record c.x { stack = c.rest ++ [] })

visit_is : (c : Visiting) → visit c.tree c.rest c.p c.s c.x ≡ visited_once c
visit_is c =
    let alone : split_since c.s (Some (top_there c).0) ≡ None =
    ap (split_since c.s) (sym (top_there c).1) ∙ ap (λ (z : ℕ). split_since z (page_at c.tree c.p)) (c.fresh.now c.p c.s (top_has c)) ∙ stays_here c.tree c.forest c.p (top_there c).0 (top_there c).1 in
    ap (λ (o : Option Node). visited_at c.tree c.p c.s o (record c.x { stack = c.rest })) (top_there c).1
    ∙ ap (λ (b : Bool). cond b (record c.x { stack = c.rest ++ remembered c.s (split_since c.s (Some (top_there c).0)) })
    (looked_at (counter c.tree) (top_there c).0 c.p (record c.x { stack = c.rest ++ remembered c.s (split_since c.s (Some (top_there c).0)) }))) (not_among_on c)
    ∙ ap (λ (o : Option ℕ). looked_at (counter c.tree) (top_there c).0 c.p (record c.x { stack = c.rest ++ remembered c.s o })) alone

kids_of : (c : Visiting) (q : ℕ) → times q (pages (kids c)) ≤ times q (children (top_there c).0.entries)
kids_of c q = one ((top_there c).0.level == 0)
  where
    one : (b : Bool) → times q (pages (cond b [] (to_visit c.x.predicate (counter c.tree) (top_there c).0.entries))) ≤ times q (children (top_there c).0.entries)
    one true = omega arith
    one false = kids_fewer c.x.predicate (counter c.tree) q (top_there c).0.entries

kid_now : (c : Visiting) (p s : ℕ) → Has (kids c) (p, s) → s ≡ counter c.tree
kid_now c p s h = one ((top_there c).0.level == 0) h
  where
    one : (b : Bool) → Has (cond b [] (to_visit c.x.predicate (counter c.tree) (top_there c).0.entries)) (p, s) → s ≡ counter c.tree
    one true k = absurd k
    one false k = kids_now c.x.predicate (counter c.tree) p s (top_there c).0.entries k

kid_named : (c : Visiting) (q : ℕ) → 0 < times q (pages (kids c)) → (e : Entry) × Names c.tree c.p q e
kid_named c q h =
    let n : Naming (top_there c).0.entries q = naming (top_there c).0.entries q (Has-times q (children (top_there c).0.entries) (omega (arith, kids_of c q))) in
    (n.e, record { page = (top_there c).0; there = (top_there c).1; has = n.has; to = n.to })

kid_once : (c : Visiting) (q : ℕ) → times q (pages (kids c)) ≤ 1
kid_once c q =
    let grows : times q (named c.tree.pages) ≤ times q (c.tree.root ∷ named c.tree.pages) = omega arith in
    omega (arith, kids_of c q, times_of_page c.tree.pages c.p (top_there c).0 q (top_there c).1, c.forest.once q, c.forest.by_one q)

kid_not_seen : (c : Visiting) (q : ℕ) → 0 < times q (pages (kids c)) → times q (seen c.x) ≡ 0
kid_not_seen c q some = none (times q (seen c.x)) refl
  where
    by : (e : Entry) × Names c.tree c.p q e
    by = kid_named c q some

    never : 0 < times q (seen c.x) → ⊥
    never h = elim (c.fresh.named_by q (Has-times q (seen c.x) h)) [
      | inl root ↦ (let other : (q == c.tree.root) ≡ false = named_not_root c.tree c.forest c.p q by.0 by.1 in
          let same : (q == c.tree.root) ≡ true = eq-eqb q c.tree.root root in let no : ⊥ = cc in no)
      | inr n ↦ not_on c (subst (λ (z : ℕ). Has c.x.on z) (one_parent c.tree c.forest n.p c.p q n.e by.0 n.names by.1) n.has)
    ]

    none : (k : ℕ) → times q (seen c.x) ≡ k → k ≡ 0
    none zero e = refl
    none (suc k) e = absurd (never (omega arith))

seen_after : (c : Visiting) (q : ℕ) → times q (seen (visited_once c)) ≡ times q (seen c.x) + times q (pages (kids c))
seen_after c q =
    let a : times q ((c.x.on ++ c.p ∷ []) ++ pages ((c.rest ++ []) ++ kids c)) ≡ times q (c.x.on ++ c.p ∷ []) + times q (pages ((c.rest ++ []) ++ kids c)) = times-append q (c.x.on ++ c.p ∷ []) (pages ((c.rest ++ []) ++ kids c)) in
    let b : times q (pages ((c.rest ++ []) ++ kids c)) ≡ times q (pages (c.rest ++ []) ++ pages (kids c)) = ap (times q) (pages-append (c.rest ++ []) (kids c)) in
    let d : times q (pages (c.rest ++ [])) ≡ times q (pages c.rest) = ap (λ (st : List (ℕ × ℕ)). times q (pages st)) (append-nil c.rest) in
    omega (arith, a, b, d, times-append q c.x.on (c.p ∷ []), times-append q (pages (c.rest ++ [])) (pages (kids c)), seen_is c q)

-- a page that is seen afterwards was seen, or is one of the children
seen_or_kid : (c : Visiting) (q : ℕ) → Has (seen (visited_once c)) q → Has (seen c.x) q ⊎ (0 < times q (pages (kids c)))
seen_or_kid c q h = one (times q (seen c.x)) refl
  where
    one : (k : ℕ) → times q (seen c.x) ≡ k → Has (seen c.x) q ⊎ (0 < times q (pages (kids c)))
    one zero e = inr (omega (arith, e, seen_after c q, times-Has q (seen (visited_once c)) h))
    one (suc k) e = inl (Has-times q (seen c.x) (omega arith))

fresh_after : (c : Visiting) → Fresh c.tree (visited_once c) (suc c.n)
fresh_after c = record {
  once = λ q. once_at q (times q (pages (kids c))) refl;
  now = λ p s h. elim (Has-append (c.rest ++ []) (kids c) (p, s) h) [
    | inl k ↦ c.fresh.now p s (subst (λ (st : List (ℕ × ℕ)). Has st (p, s)) (sym c.stack) (Has-append_left c.rest ((c.p, c.s) ∷ []) (p, s) (subst (λ (st : List (ℕ × ℕ)). Has st (p, s)) (append-nil c.rest) k)))
    | inr k ↦ kid_now c p s k
  ];
  there = λ q h. elim (seen_or_kid c q h) [
    | inl was ↦ c.fresh.there q was
    | inr kid ↦ (let by : (e : Entry) × Names c.tree c.p q e = kid_named c q kid in
        let t : There c.tree.pages q = child_there c.tree c.forest c.p q by.0 by.1 in (t.page, t.there))
  ];
  named_by = λ q h. elim (seen_or_kid c q h) [
    | inl was ↦ elim (c.fresh.named_by q was) [
      | inl root ↦ inl root
      | inr by ↦ inr (record { p = by.p; e = by.e; has = Has-append_left c.x.on (c.p ∷ []) by.p by.has; names = by.names })
    ]
    | inr kid ↦ (let by : (e : Entry) × Names c.tree c.p q e = kid_named c q kid in
        inr (record { p = c.p; e = by.0; has = Has-append_right c.x.on (c.p ∷ []) c.p (inl refl); names = by.1 }))
  ];
  many = omega (arith, length-append c.x.on (c.p ∷ []), c.fresh.many);
}
  where
    once_at : (q k : ℕ) → times q (pages (kids c)) ≡ k → times q (seen (visited_once c)) ≤ 1
    once_at q zero e = omega (arith, e, seen_after c q, c.fresh.once q)
    once_at q (suc k) e = omega (arith, e, seen_after c q, kid_once c q, kid_not_seen c q (omega arith))

-- ---- any number of visits

abbrev visiting_of : (tree : Tree) → Forest tree → (x y : Search) (n : ℕ) → Fresh tree x n → IsVisit tree x y → Visiting
visiting_of tree f x y n fresh v = record { tree = tree; forest = f; x = x; n = n; fresh = fresh; rest = v.rest; p = v.p; s = v.s; stack = v.stack }

stays_fresh : (tree : Tree) → Forest tree → (k n : ℕ) (x y : Search) → Fresh tree x k → Visits tree n x y → Fresh tree y (n + k)
stays_fresh tree f k zero x y fresh run =
    let same : k ≡ 0 + k = omega arith in
    subst (λ (m : ℕ). Fresh tree y m) same (subst (λ (z : Search). Fresh tree z k) run fresh)
stays_fresh tree f k (suc n) x y fresh run =
    let v : IsVisit tree x run.0 = run.1 in
    let c : Visiting = visiting_of tree f x run.0 k fresh v in
    let next : Fresh tree run.0 (suc k) = subst (λ (z : Search). Fresh tree z (suc k)) (sym (visit_is c) ∙ v.is) (fresh_after c) in
    let all : Fresh tree y (n + suc k) = stays_fresh tree f (suc k) n run.0 y next run.2 in
    let same : n + suc k ≡ suc n + k = omega arith in
    subst (λ (m : ℕ). Fresh tree y m) same all

numbers_length : (m : List (ℕ × Node)) → length (numbers m) ≡ length m
numbers_length [] = refl
numbers_length (p ∷ rest) = ap suc (numbers_length rest)

pub visits_once : (tree : Tree) (session statement : ℕ) (predicate : Predicate) (n : ℕ) (x : Search) → Forest tree → Visits tree n (begun tree session statement predicate) x → VisitedOnce tree n x
visits_once tree session statement predicate n x f run = record {
  bound = omega (arith, fresh.many, no_longer x.on (numbers tree.pages) (λ q. on_a_page q (times q x.on) refl), numbers_length tree.pages);
  many = omega (arith, fresh.many);
  once = once;
  next = λ y v. not_among_on (visiting_of tree f x y (n + 0) fresh v);
}
  where
    fresh : Fresh tree x (n + 0)
    fresh = stays_fresh tree f 0 n (begun tree session statement predicate) x (fresh_begun tree session statement predicate f) run

    once : (p : ℕ) → times p x.on ≤ 1
    once p = omega (arith, fresh.once p, times-append p x.on (pages x.stack))

    on_a_page : (q k : ℕ) → times q x.on ≡ k → k ≤ times q (numbers tree.pages)
    on_a_page q zero e = omega arith
    on_a_page q (suc k) e =
        let t : IsThere tree q = fresh.there q (Has-append_left x.on (pages x.stack) q (Has-times q x.on (omega arith))) in
        omega (arith, once q, times_there tree.pages q t.0 t.1)
