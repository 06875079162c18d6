-- Which page of a path grows into what a search looks for, by the forest alone: a page is named once, and a path goes down.
use Rattle.std.proofs.Common.{◌≡◌, inl, inr, ℕ, suc, ◌+◌, ◌≤◌, ◌<◌, ◌==◌, Bool, true, false, cond, Option, Some, None, List, [], ◌∷◌, refl, ap, sym, ◌∙◌, arith, subst, eq-eqb, eqb-true, ◌||◌, ◌&&◌}
use Rattle.std.specs.List.{cons_option}
use Rattle.isp_base.specs.Lists.{Has, times}
use Rattle.isp_mbr.specs.Corners.{Corners}
use Rattle.isp_mbr.specs.declared.predicate.Predicate.{Predicate}
use Rattle.isp_forest.specs.declared.entry.Entry.{Entry}
use Rattle.isp_forest.specs.Attach.{lets_in, lets_in_from, lets_in_to, percolated}
use Rattle.isp_forest.specs.Forest.{Forest, IsBelow}
use Rattle.isp_forest.specs.Place.{IsPath, Names}
use Rattle.isp_forest.specs.Search.{Search}
use Rattle.isp_forest.specs.Steps.{is_among, names}
use Rattle.isp_forest.specs.Tree.{Node, Tree, child_of, children, named, page_at}
use Rattle.isp_laws.proofs.EntryLaws.{times-children}
use Rattle.isp_laws.proofs.ForestLaws.{child_there, same_page}
use Rattle.isp_laws.proofs.ListLaws.{Has-append}
use Rattle.isp_laws.proofs.PageLaws.{There, times_of_page}

-- ---- the box of the entry for a page

once_named : (tree : Tree) → Forest tree → (p q : ℕ) (page : Node) → page_at tree p ≡ Some page → times q (children page.entries) ≤ 1
once_named tree f p q page there =
    let grows : times q (named tree.pages) ≤ times q (tree.root ∷ named tree.pages) = omega arith in
    omega (arith, times_of_page tree.pages p page q there, f.by_one q, f.once q)

other_first : (o : Option ℕ) (q : ℕ) (ns : List ℕ) → 0 < times q ns → times q (cons_option o ns) ≤ 1 → names (λ c. c == q) o ≡ false
other_first None q ns some once = refl
other_first (Some r) q ns some once =
    elim (r == q) as (λ b. cond b 1 0 + times q ns ≤ 1 → b ≡ false) [ true ↦ λ h. (let no : ⊥ = omega arith in absurd no) | false ↦ λ h. refl ] once

less_named : (o : Option ℕ) (q : ℕ) (ns : List ℕ) → times q ns ≤ times q (cons_option o ns)
less_named None q ns = omega arith
less_named (Some r) q ns = omega arith

lets_in_to_is : (predicate : Predicate) (b : Corners) (q : ℕ) (es : List Entry) (e : Entry) → times q (children es) ≤ 1 → Has es e → child_of e ≡ Some q
    → lets_in_to predicate b q es ≡ lets_in predicate b e.b
lets_in_to_is predicate b q [] e once has to = absurd has
lets_in_to_is predicate b q (z ∷ es) e once (inl same) to =
    let here : names (λ c. c == q) (child_of z) ≡ true = ap (names (λ c. c == q)) (ap child_of same ∙ to) ∙ eq-eqb q q refl in
    ap (λ (d : Bool). cond d (lets_in predicate b z.b) (lets_in_to predicate b q es)) here ∙ ap (λ (x : Entry). lets_in predicate b x.b) same
lets_in_to_is predicate b q (z ∷ es) e once (inr h) to =
    let some : 0 < times q (children es) = times-children es e q h to in
    let other : names (λ c. c == q) (child_of z) ≡ false = other_first (child_of z) q (children es) some once in
    let once' : times q (children es) ≤ 1 = omega (arith, less_named (child_of z) q (children es), once) in
    ap (λ (d : Bool). cond d (lets_in predicate b z.b) (lets_in_to predicate b q es)) other ∙ lets_in_to_is predicate b q es e once' h to

pub lets_in_from_is : (tree : Tree) → Forest tree → (predicate : Predicate) (b : Corners) (p q : ℕ) (e : Entry) → Names tree p q e
    → lets_in_from predicate b q (page_at tree p) ≡ lets_in predicate b e.b
lets_in_from_is tree f predicate b p q e n =
    ap (lets_in_from predicate b q) n.there ∙ lets_in_to_is predicate b q n.page.entries e (once_named tree f p q n.page n.there) n.has n.to

-- ---- a path goes down

lower : (tree : Tree) → Forest tree → (p : ℕ) (rest : List ℕ) → IsPath tree (p ∷ rest) → (a : Node) → page_at tree p ≡ Some a
    → (r : ℕ) (y : Node) → Has rest r → page_at tree r ≡ Some y → y.level < a.level
lower tree f p [] steps a there r y h k = absurd h
lower tree f p (q ∷ rest) steps a there r y h k =
    let e : Entry = steps.0.0 in
    let n : Names tree p q e = steps.0.1 in
    let c : There tree.pages q = child_there tree f p q e n in
    let is : IsBelow e n.page c.page = f.below p q n.page c.page e n.there n.has n.to c.there in
    let same : n.page ≡ a = same_page (page_at tree p) n.page a n.there there in
    let level : a.level ≡ suc c.page.level = ap (λ (z : Node). z.level) (sym same) ∙ is.level in
    elim h [
      | inl here ↦ (let at : page_at tree r ≡ Some c.page = subst (λ (z : ℕ). page_at tree z ≡ Some c.page) here c.there in
          let same' : y ≡ c.page = same_page (page_at tree r) y c.page k at in
          let level' : y.level ≡ c.page.level = ap (λ (z : Node). z.level) same' in
          omega arith)
      | inr more ↦ (let less : y.level < c.page.level = lower tree f q rest steps.1 c.page c.there r y more k in omega arith)
    ]

not_below : (tree : Tree) → Forest tree → (p : ℕ) (rest : List ℕ) → IsPath tree (p ∷ rest) → Has rest p → ⊥
not_below tree f p [] steps h = absurd h
not_below tree f p (q ∷ rest) steps h =
    let n : Names tree p q steps.0.0 = steps.0.1 in
    omega (arith, lower tree f p (q ∷ rest) steps n.page n.there p n.page h n.there)

-- a page above is none of those below it
pub apart : (tree : Tree) → Forest tree → (p : ℕ) (rest : List ℕ) → IsPath tree (p ∷ rest) → (r : ℕ) → Has rest r → (p == r) ≡ false
apart tree f p rest steps r h = by (p == r) refl
  where
    by : (b : Bool) → (p == r) ≡ b → b ≡ false
    by true e = absurd (not_below tree f p rest steps (subst (λ (z : ℕ). Has rest z) (sym (eqb-true p r e)) h))
    by false e = refl

-- ---- the pages that a search percolates to

in_cond : (t : Bool) (r q : ℕ) → Has (cond t (r ∷ []) []) q → r ≡ q
in_cond true r q (inl e) = e
in_cond true r q (inr none) = absurd none
in_cond false r q h = absurd h

pub on_the_path : (tree : Tree) (x : Search) (b : Corners) (here : Bool) (p : ℕ) (rest : List ℕ) (q : ℕ) → Has (percolated tree x b here (p ∷ rest)) q → Has rest q
on_the_path tree x b here p [] q h = absurd h
on_the_path tree x b here p (r ∷ rest) q h =
    let enters : Bool = here && lets_in_from x.predicate b r (page_at tree p) in
    elim (Has-append (cond enters (r ∷ []) []) (percolated tree x b (is_among x.on r || enters) (r ∷ rest)) q h) [
      | inl k ↦ inl (in_cond enters r q k)
      | inr k ↦ inr (on_the_path tree x b (is_among x.on r || enters) r rest q k)
    ]
