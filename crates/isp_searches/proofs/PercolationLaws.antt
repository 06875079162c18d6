-- Which pages a search percolates to: their box could not hold its predicate before the entry was added, and from a page that the
-- search is on or percolates to, it goes on down the path wherever the next box grows into what it looks for.
use Rattle.std.proofs.Common.{◌≡◌, ◌⊎◌, inl, inr, ℕ, suc, ◌+◌, ◌≤◌, ◌<◌, ◌==◌, Bool, true, false, cond, Option, Some, None, List, [], ◌∷◌, refl, ap, sym, ◌∙◌, arith, subst, eq-eqb, ◌||◌, ◌&&◌}
use Rattle.std.specs.Prelude.{not}
use Rattle.std.specs.List.{cons_option}
use Rattle.isp_mbr.specs.Corners.{Corners}
use Rattle.isp_mbr.specs.Boxes.{union}
use Rattle.isp_mbr.specs.Predicates.{may_hold}
use Rattle.isp_mbr.specs.declared.predicate.Predicate.{Predicate}
use Rattle.isp_mbr.proofs.BoxLaws.{both}
use Rattle.isp_forest.specs.declared.entry.Entry.{Entry}
use Rattle.isp_base.specs.Lists.{Has, times}
use Rattle.isp_forest.specs.Tree.{Node, Tree, page_at, child_of, children, named}
use Rattle.isp_forest.specs.Forest.{Forest, IsBelow}
use Rattle.isp_forest.specs.Steps.{is_among, names}
use Rattle.isp_forest.specs.Place.{Names, IsPath}
use Rattle.isp_forest.specs.Search.{Search}
use Rattle.isp_forest.specs.Attach.{lets_in, lets_in_to, lets_in_from, percolated}
use Rattle.isp_laws.proofs.ListLaws.{Has-append, Has-append_left, Has-append_right}
use Rattle.isp_laws.proofs.PageLaws.{There, times_of_page}
use Rattle.isp_laws.proofs.EntryLaws.{times-children}
use Rattle.isp_laws.proofs.ForestLaws.{same_page, child_there, one_parent}
use Rattle.isp_searches.proofs.SeesLaws.{has_among}

-- ---- the box of the entry for a page

pub shut_of : (s t : Bool) → (not s && t) ≡ true → s ≡ false
shut_of true t h = cc
shut_of false t h = refl

lets_of : (s t : Bool) → s ≡ false → t ≡ true → (not s && t) ≡ true
lets_of true t h k = cc
lets_of false t h k = k

if_true : (b s t : Bool) → b ≡ true → cond b s t ≡ s
if_true true s t h = refl
if_true false s t h = cc

if_false : (b s t : Bool) → b ≡ false → cond b s t ≡ t
if_false true s t h = cc
if_false false s t h = refl

-- a page is named once
once_named : (tree : Tree) → Forest tree → (p q : ℕ) (page : Node) → page_at tree p ≡ Some page → times q (children page.entries) ≤ 1
once_named tree f p q page there =
    let grows : times q (named tree.pages) ≤ times q (tree.root ∷ named tree.pages) = omega arith in
    omega (arith, times_of_page tree.pages p page q there, f.by_one q, f.once q)

other_first : (o : Option ℕ) (q : ℕ) (ns : List ℕ) → 0 < times q ns → times q (cons_option o ns) ≤ 1 → names (λ c. c == q) o ≡ false
other_first None q ns some once = refl
other_first (Some r) q ns some once =
    elim (r == q) as (λ b. cond b 1 0 + times q ns ≤ 1 → b ≡ false) [ true ↦ λ h. (let no : ⊥ = omega arith in absurd no) | false ↦ λ h. refl ] once

less_named : (o : Option ℕ) (q : ℕ) (ns : List ℕ) → times q ns ≤ times q (cons_option o ns)
less_named None q ns = omega arith
less_named (Some r) q ns = omega arith

lets_in_to_is : (predicate : Predicate) (b : Corners) (q : ℕ) (es : List Entry) (e : Entry) → times q (children es) ≤ 1 → Has es e → child_of e ≡ Some q
    → lets_in_to predicate b q es ≡ lets_in predicate b e.b
lets_in_to_is predicate b q [] e once has to = absurd has
lets_in_to_is predicate b q (z ∷ es) e once (inl same) to =
    let here : names (λ c. c == q) (child_of z) ≡ true = ap (names (λ c. c == q)) (ap child_of same ∙ to) ∙ eq-eqb q q refl in
    if_true (names (λ c. c == q) (child_of z)) (lets_in predicate b z.b) (lets_in_to predicate b q es) here ∙ ap (λ (x : Entry). lets_in predicate b x.b) same
lets_in_to_is predicate b q (z ∷ es) e once (inr h) to =
    let some : 0 < times q (children es) = times-children es e q h to in
    let other : names (λ c. c == q) (child_of z) ≡ false = other_first (child_of z) q (children es) some once in
    let once' : times q (children es) ≤ 1 = omega (arith, less_named (child_of z) q (children es), once) in
    if_false (names (λ c. c == q) (child_of z)) (lets_in predicate b z.b) (lets_in_to predicate b q es) other ∙ lets_in_to_is predicate b q es e once' h to

lets_in_from_is : (tree : Tree) → Forest tree → (predicate : Predicate) (b : Corners) (p q : ℕ) (e : Entry) → Names tree p q e
    → lets_in_from predicate b q (page_at tree p) ≡ lets_in predicate b e.b
lets_in_from_is tree f predicate b p q e n =
    ap (lets_in_from predicate b q) n.there ∙ lets_in_to_is predicate b q n.page.entries e (once_named tree f p q n.page n.there) n.has n.to

-- ---- a path goes down

lower : (tree : Tree) → Forest tree → (p : ℕ) (rest : List ℕ) → IsPath tree (p ∷ rest) → (a : Node) → page_at tree p ≡ Some a
    → (r : ℕ) (y : Node) → Has rest r → page_at tree r ≡ Some y → y.level < a.level
lower tree f p [] steps a there r y h k = absurd h
lower tree f p (q ∷ rest) steps a there r y h k =
    let e : Entry = steps.0.0 in
    let n : Names tree p q e = steps.0.1 in
    let c : There tree.pages q = child_there tree f p q e n in
    let is : IsBelow e n.page c.page = f.below p q n.page c.page e n.there n.has n.to c.there in
    let same : n.page ≡ a = same_page (page_at tree p) n.page a n.there there in
    let level : a.level ≡ suc c.page.level = ap (λ (z : Node). z.level) (sym same) ∙ is.level in
    elim h [
      | inl here ↦ (let at : page_at tree r ≡ Some c.page = subst (λ (z : ℕ). page_at tree z ≡ Some c.page) here c.there in
          let same' : y ≡ c.page = same_page (page_at tree r) y c.page k at in
          let level' : y.level ≡ c.page.level = ap (λ (z : Node). z.level) same' in
          omega arith)
      | inr more ↦ (let less : y.level < c.page.level = lower tree f q rest steps.1 c.page c.there r y more k in omega arith)
    ]

not_below : (tree : Tree) → Forest tree → (p : ℕ) (rest : List ℕ) → IsPath tree (p ∷ rest) → Has rest p → ⊥
not_below tree f p [] steps h = absurd h
not_below tree f p (q ∷ rest) steps h =
    let n : Names tree p q steps.0.0 = steps.0.1 in
    omega (arith, lower tree f p (q ∷ rest) steps n.page n.there p n.page h n.there)

record Previous (tree : Tree) (path : List ℕ) (r : ℕ) : Type 0 where
  p : ℕ
  has : Has path p
  e : Entry
  names : Names tree p r e

previous : (tree : Tree) (p : ℕ) (rest : List ℕ) (r : ℕ) → IsPath tree (p ∷ rest) → Has rest r → Previous tree (p ∷ rest) r
previous tree p [] r steps h = absurd h
previous tree p (q ∷ rest) r steps (inl here) =
    let n : Names tree p r steps.0.0 = subst (λ (x : ℕ). Names tree p x steps.0.0) here steps.0.1 in
    record { p = p; has = inl refl; e = steps.0.0; names = n }
previous tree p (q ∷ rest) r steps (inr h) =
    let i : Previous tree (q ∷ rest) r = previous tree q rest r steps.1 h in
    record { p = i.p; has = inr i.has; e = i.e; names = i.names }

-- ---- the pages that a search percolates to

in_cond : (t : Bool) (r q : ℕ) → Has (cond t (r ∷ []) []) q → (t ≡ true) × (r ≡ q)
in_cond true r q (inl e) = (refl, e)
in_cond true r q (inr none) = absurd none
in_cond false r q h = absurd h

on_the_path : (tree : Tree) (x : Search) (b : Corners) (here : Bool) (p : ℕ) (rest : List ℕ) (q : ℕ) → Has (percolated tree x b here (p ∷ rest)) q → Has rest q
on_the_path tree x b here p [] q h = absurd h
on_the_path tree x b here p (r ∷ rest) q h =
    let enters : Bool = here && lets_in_from x.predicate b r (page_at tree p) in
    elim (Has-append (cond enters (r ∷ []) []) (percolated tree x b (is_among x.on r || enters) (r ∷ rest)) q h) [
      | inl k ↦ (let i : (enters ≡ true) × (r ≡ q) = in_cond enters r q k in inl i.1)
      | inr k ↦ inr (on_the_path tree x b (is_among x.on r || enters) r rest q k)
    ]

-- the box of the entry for such a page could not hold the predicate
pub record Entered (tree : Tree) (x : Search) (q : ℕ) : Type 0 where
  pub p : ℕ
  pub e : Entry
  pub names : Names tree p q e
  pub shut : may_hold x.predicate e.b ≡ false

pub came_in : (tree : Tree) → Forest tree → (x : Search) (b : Corners) (here : Bool) (path : List ℕ) → IsPath tree path → (q : ℕ) → Has (percolated tree x b here path) q → Entered tree x q
came_in tree f x b here [] steps q h = absurd h
came_in tree f x b here (p ∷ []) steps q h = absurd h
came_in tree f x b here (p ∷ r ∷ rest) steps q h =
    let lets : Bool = lets_in_from x.predicate b r (page_at tree p) in
    let enters : Bool = here && lets in
    elim (Has-append (cond enters (r ∷ []) []) (percolated tree x b (is_among x.on r || enters) (r ∷ rest)) q h) [
      | inl k ↦ (let i : (enters ≡ true) × (r ≡ q) = in_cond enters r q k in
          let t : (here ≡ true) × (lets ≡ true) = both here lets i.0 in
          let is : lets ≡ lets_in x.predicate b (steps.0.0).b = lets_in_from_is tree f x.predicate b p r steps.0.0 steps.0.1 in
          let n : Names tree p q steps.0.0 = subst (λ (z : ℕ). Names tree p z steps.0.0) i.1 steps.0.1 in
          record { p = p; e = steps.0.0; names = n; shut = shut_of (may_hold x.predicate (steps.0.0).b) (may_hold x.predicate (union (steps.0.0).b b)) (sym is ∙ t.1) })
      | inr k ↦ came_in tree f x b (is_among x.on r || enters) (r ∷ rest) steps.1 q k
    ]

or_left : (s t : Bool) → s ≡ true → (s || t) ≡ true
or_left true t h = refl
or_left false t h = cc

or_right : (s t : Bool) → t ≡ true → (s || t) ≡ true
or_right true t h = refl
or_right false t h = h

and_true : (s t : Bool) → s ≡ true → t ≡ true → (s && t) ≡ true
and_true true t h k = k
and_true false t h k = cc

-- the search is on page p, or is led there: as the first page of the rest of the path, or by percolation
abbrev IsOn : Tree → Search → Corners → Bool → ℕ → List ℕ → ℕ → Type 0
IsOn tree x b here first rest p = ((first ≡ p) × (here ≡ true)) ⊎ (Has x.on p ⊎ Has (percolated tree x b here (first ∷ rest)) p)

-- from there it goes on where the box of the next page grows into what it looks for
pub goes_on : (tree : Tree) → Forest tree → (x : Search) (b : Corners) (here : Bool) (first : ℕ) (rest : List ℕ) → IsPath tree (first ∷ rest)
    → (Has x.on first → here ≡ true) → (p q : ℕ) (e : Entry) → Names tree p q e → Has rest q → may_hold x.predicate e.b ≡ false → may_hold x.predicate (union e.b b) ≡ true
    → ((first ≡ p) × (here ≡ true)) ⊎ (Has x.on p ⊎ Has (percolated tree x b here (first ∷ rest)) p)
    → Has (percolated tree x b here (first ∷ rest)) q
goes_on tree f x b here first [] steps given p q e n h shut grown on = absurd h
goes_on tree f x b here first (r ∷ rest) steps given p q e n (inl at) shut grown on =
    let to_r : Names tree p r e = subst (λ (z : ℕ). Names tree p z e) (sym at) n in
    let same : first ≡ p = one_parent tree f first p r steps.0.0 e steps.0.1 to_r in
    let from_first : Names tree first r e = subst (λ (z : ℕ). Names tree z r e) (sym same) to_r in
    let lets : Bool = lets_in_from x.predicate b r (page_at tree first) in
    let t : lets ≡ true = lets_in_from_is tree f x.predicate b first r e from_first ∙ lets_of (may_hold x.predicate e.b) (may_hold x.predicate (union e.b b)) shut grown in
    let is_here : here ≡ true = elim on [
      | inl now ↦ now.1
      | inr more ↦ elim more [
        | inl on_p ↦ given (subst (λ (z : ℕ). Has x.on z) (sym same) on_p)
        | inr later ↦ absurd (not_below tree f first (r ∷ rest) steps (subst (λ (z : ℕ). Has (r ∷ rest) z) (sym same) (on_the_path tree x b here first (r ∷ rest) p later)))
      ]
    ] in
    let enters : (here && lets) ≡ true = and_true here lets is_here t in
    Has-append_left (cond (here && lets) (r ∷ []) []) (percolated tree x b (is_among x.on r || (here && lets)) (r ∷ rest)) q
    (subst (λ (s : Bool). Has (cond s (r ∷ []) []) q) (sym enters) (inl at))
goes_on tree f x b here first (r ∷ rest) steps given p q e n (inr h) shut grown on =
    let lets : Bool = lets_in_from x.predicate b r (page_at tree first) in
    let enters : Bool = here && lets in
    let here' : Bool = is_among x.on r || enters in
    let on' : IsOn tree x b here' r rest p = elim on [
      | inl now ↦ (let i : Previous tree (r ∷ rest) q = previous tree r rest q steps.1 h in
          let same : i.p ≡ first = one_parent tree f i.p p q i.e e i.names n ∙ sym now.0 in
          absurd (not_below tree f first (r ∷ rest) steps (subst (λ (z : ℕ). Has (r ∷ rest) z) same i.has)))
      | inr more ↦ elim more [
        | inl on_p ↦ inr (inl on_p)
        | inr later ↦ elim (Has-append (cond enters (r ∷ []) []) (percolated tree x b here' (r ∷ rest)) p later) [
          | inl k ↦ (let i : (enters ≡ true) × (r ≡ p) = in_cond enters r p k in inl (i.1, or_right (is_among x.on r) enters i.0))
          | inr k ↦ inr (inr k)
        ]
      ]
    ] in
    Has-append_right (cond enters (r ∷ []) []) (percolated tree x b here' (r ∷ rest)) q
    (goes_on tree f x b here' r rest steps.1 (λ k. or_left (is_among x.on r) enters (has_among x.on r k)) p q e n h shut grown on')
