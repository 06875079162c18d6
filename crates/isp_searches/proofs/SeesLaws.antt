-- What a search sees where a tree changes and its walks stay, and what the tests of lists say.
use Rattle.std.proofs.Common.{◌≡◌, inl, inr, ℕ, ◌≤◌, ◌==◌, Bool, true, false, cond, Option, Some, None, List, [], ◌∷◌, refl, ap, ◌∙◌, arith, subst, eqb-true, eq-eqb, ◌||◌}
use Rattle.std.specs.Prelude.{nat_lt}
use Rattle.std.proofs.lemmas.Bool.Decides.{nat_tests}
use Rattle.isp_base.specs.Lists.{Has}
use Rattle.isp_forest.specs.Tree.{Node, Tree, page_at, counter}
use Rattle.isp_forest.specs.Forest.{Forest, IsPage}
use Rattle.isp_forest.specs.Walk.{onward, split_since}
use Rattle.isp_forest.specs.Steps.{is_among}
use Rattle.isp_forest.specs.Search.{Search, Reached, Sees, IsRemembered}
use Rattle.isp_laws.proofs.WalkLaws.{walk_same}

-- ---- tests

or_true : (b : Bool) → (b || true) ≡ true
or_true true = refl
or_true false = refl

pub among_has : (ps : List ℕ) (q : ℕ) → is_among ps q ≡ true → Has ps q
among_has [] q h = let no : ⊥ = cc in absurd no
among_has (p ∷ ps) q h =
    elim (p == q) as (λ b. (p == q) ≡ b → (b || is_among ps q) ≡ true → Has (p ∷ ps) q) [
      | true ↦ λ t k. inl (eqb-true p q t)
      | false ↦ λ t k. inr (among_has ps q k)
    ] refl h

pub has_among : (ps : List ℕ) (q : ℕ) → Has ps q → is_among ps q ≡ true
has_among [] q h = absurd h
has_among (p ∷ ps) q (inl e) = let t : (p == q) ≡ true = eq-eqb p q e in rw t refl
has_among (p ∷ ps) q (inr h) = let i : is_among ps q ≡ true = has_among ps q h in rw i (or_true (p == q))

pub not_both : (b : Bool) → b ≡ true → b ≡ false → ⊥
not_both b h k = cc

-- ---- pages that are there

abbrev pub IsThere : Tree → ℕ → Type 0
IsThere tree p = (page : Node) × (page_at tree p ≡ Some page)

-- ---- a tree that changes, where its walks stay

pub reached_same : (old new : Tree) → ((s p : ℕ) → onward old s p ≡ onward new s p) → (stack : List (ℕ × ℕ)) (q : ℕ) → Reached old stack q → Reached new stack q
reached_same old new same stack q r = record {
  from = r.from;
  ssn = r.ssn;
  remembered = r.remembered;
  rest = r.rest;
  walk = walk_same old new r.ssn (same r.ssn) (r.from ∷ r.rest) r.walk;
  on_it = r.on_it;
}

pub sees_same : (old new : Tree) → ((s p : ℕ) → onward old s p ≡ onward new s p) → (x y : Search) → ((q : ℕ) → Has x.on q → Has y.on q) → x.stack ≡ y.stack
    → (q : ℕ) → Sees old x q → Sees new y q
sees_same old new same x y more stack q (inl on) = inl (more q on)
sees_same old new same x y more stack q (inr r) = inr (subst (λ (st : List (ℕ × ℕ)). Reached new st q) stack (reached_same old new same x.stack q r))

pub remembered_same : (old new : Tree) → ((s p : ℕ) → onward old s p ≡ onward new s p) → counter old ≤ counter new → (p s : ℕ) → (IsThere old p → IsThere new p)
    → IsRemembered old p s → IsRemembered new p s
remembered_same old new same grows p s there r =
    let t : IsThere new p = there (r.page, r.there) in
    record {
      page = t.0;
      there = t.1;
      given = omega (arith, r.given);
      rest = r.rest;
      walk = walk_same old new s (same s) (p ∷ r.rest) r.walk;
    }

-- ---- a page with the counter leads to itself alone

if_not : (b : Bool) (o : Option ℕ) → b ≡ false → cond b o None ≡ None
if_not true o h = cc
if_not false o h = refl

pub stays_here : (tree : Tree) → Forest tree → (p : ℕ) (page : Node) → page_at tree p ≡ Some page → onward tree (counter tree) p ≡ None
stays_here tree f p page there =
    let is : IsPage tree p page = f.each p page there in
    let numbered : page.ssn ≤ counter tree = is.numbered in
    let t : nat_lt (counter tree) page.ssn ≡ false = grind (arith, nat_tests) in
    ap (split_since (counter tree)) there ∙ if_not (nat_lt (counter tree) page.ssn) page.next t
