-- The test of a path says exactly that it stands.
use Rattle.std.proofs.Common.{◌≡◌, ◌↔◌, ◌∙◌, inl, inr, refl, sym, ap, subst, ℕ, ◌==◌, ◌&&◌, ◌||◌, Bool, true, false, List, [], ◌∷◌, Option, Some, None, eqb-true, eq-eqb}
use Rattle.std.specs.List.{list_any}
use Rattle.std.proofs.lemmas.Bool.{and_parts}
use Rattle.isp_base.specs.Lists.{Has}
use Rattle.isp_forest.specs.declared.entry.Entry.{Entry}
use Rattle.isp_forest.specs.Tree.{Node, Tree, page_at, child_of}
use Rattle.isp_forest.specs.Steps.{names}
use Rattle.isp_forest.specs.Place.{Names, IsPath, EndsOnLeaf, StartsAt, Stands}
use Rattle.isp_events.specs.Next.{has_entry_for, is_leaf, leads_to_leaf, starts_at, path_stands}
use Rattle.isp_event_laws.proofs.ListTests.{Passing, any_has}

both_true : (b c : Bool) → b ≡ true → c ≡ true → (b && c) ≡ true
both_true true c h k = k
both_true false c h k = cc

named_by : (m : Option ℕ) (q : ℕ) → names (λ c. c == q) m ≡ true → m ≡ Some q
named_by None q h = cc
named_by (Some c) q h = ap Some (eqb-true c q h)

names_it : (m : Option ℕ) (q : ℕ) → m ≡ Some q → names (λ c. c == q) m ≡ true
names_it m q h = ap (names (λ c. c == q)) h ∙ eq-eqb q q refl

-- ---- the test says so

pub entry_there : (tree : Tree) (p q : ℕ) → has_entry_for (page_at tree p) q ≡ true → (e : Entry) × Names tree p q e
entry_there tree p q h = elim (page_at tree p) as (λ o. page_at tree p ≡ o → has_entry_for o q ≡ true → (e : Entry) × Names tree p q e) [
  | None ↦ λ t k. (let no : ⊥ = cc in absurd no)
  | Some page ↦ λ t k. (let f : Passing (λ (e : Entry). names (λ c. c == q) (child_of e)) page.entries = any_has (λ (e : Entry). names (λ c. c == q) (child_of e)) page.entries k in
      (f.x, record { page = page; there = t; has = f.has; to = named_by (child_of f.x) q f.passes }))
] refl h

leaf_there : (tree : Tree) (p : ℕ) → is_leaf (page_at tree p) ≡ true → (leaf : Node) × (page_at tree p ≡ Some leaf) × (leaf.level ≡ 0)
leaf_there tree p h = elim (page_at tree p) as (λ o. page_at tree p ≡ o → is_leaf o ≡ true → (leaf : Node) × (page_at tree p ≡ Some leaf) × (leaf.level ≡ 0)) [
  | None ↦ λ t k. (let no : ⊥ = cc in absurd no)
  | Some page ↦ λ t k. (page, t, eqb-true page.level 0 k)
] refl h

leads_steps : (tree : Tree) (path : List ℕ) → leads_to_leaf tree path ≡ true → IsPath tree path × EndsOnLeaf tree path
leads_steps tree [] h = let no : ⊥ = cc in absurd no
leads_steps tree (p ∷ []) h = (tt, leaf_there tree p h)
leads_steps tree (p ∷ q ∷ rest) h =
    let parts : (has_entry_for (page_at tree p) q ≡ true) × (leads_to_leaf tree (q ∷ rest) ≡ true) = and_parts (has_entry_for (page_at tree p) q) (leads_to_leaf tree (q ∷ rest)) h in
    let more : IsPath tree (q ∷ rest) × EndsOnLeaf tree (q ∷ rest) = leads_steps tree (q ∷ rest) parts.1 in
    ((entry_there tree p q parts.0, more.0), more.1)

starts : (root : ℕ) (path : List ℕ) → starts_at root path ≡ true → StartsAt root path
starts root [] h = let no : ⊥ = cc in absurd no
starts root (p ∷ rest) h = eqb-true p root h

pub stands_by_test : (tree : Tree) (path : List ℕ) → path_stands tree path ≡ true → Stands tree path
stands_by_test tree path h =
    let parts : (starts_at tree.root path ≡ true) × (leads_to_leaf tree path ≡ true) = and_parts (starts_at tree.root path) (leads_to_leaf tree path) h in
    let way : IsPath tree path × EndsOnLeaf tree path = leads_steps tree path parts.1 in
    record { starts = starts tree.root path parts.0; steps = way.0; leaf = way.1 }

-- ---- and so it does where the path stands

any_of : {X : Type 0} (t : X → Bool) (xs : List X) (x : X) → Has xs x → t x ≡ true → list_any t xs ≡ true
any_of t [] x h k = absurd h
any_of t (z ∷ xs) x (inl same) k = let here : t z ≡ true = ap t same ∙ k in rw here refl
any_of t (z ∷ xs) x (inr h) k = let i : list_any t xs ≡ true = any_of t xs x h k in rw i (or_true (t z))
  where
    or_true : (b : Bool) → (b || true) ≡ true
    or_true true = refl
    or_true false = refl

leads_back : (tree : Tree) (path : List ℕ) → IsPath tree path → EndsOnLeaf tree path → leads_to_leaf tree path ≡ true
leads_back tree [] steps leaf = absurd leaf
leads_back tree (p ∷ []) steps leaf = ap is_leaf leaf.1 ∙ eq-eqb (leaf.0).level 0 leaf.2
leads_back tree (p ∷ q ∷ rest) steps leaf =
    both_true (has_entry_for (page_at tree p) q) (leads_to_leaf tree (q ∷ rest)) (has tree p q steps.0.0 steps.0.1) (leads_back tree (q ∷ rest) steps.1 leaf)
  where
    has : (tree : Tree) (p q : ℕ) (e : Entry) → Names tree p q e → has_entry_for (page_at tree p) q ≡ true
    has tree p q e n = ap (λ o. has_entry_for o q) n.there ∙ any_of (λ (x : Entry). names (λ c. c == q) (child_of x)) n.page.entries e n.has (names_it (child_of e) q n.to)

starts_back : (root : ℕ) (path : List ℕ) → StartsAt root path → starts_at root path ≡ true
starts_back root [] h = absurd h
starts_back root (p ∷ rest) h = eq-eqb p root h

pub stands_decided : (tree : Tree) (path : List ℕ) → (path_stands tree path ≡ true) ↔ Stands tree path
stands_decided tree path = (
  λ h. stands_by_test tree path h,
  λ s. both_true (starts_at tree.root path) (leads_to_leaf tree path) (starts_back tree.root path s.starts) (leads_back tree path s.steps s.leaf),
)
