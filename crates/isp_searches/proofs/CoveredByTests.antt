-- A search of a tree that is given page by page is covered where tests that compute say so, and isn't where one child is missed.
use Rattle.std.proofs.Common.{◌≡◌, inl, inr, ℕ, ◌==◌, Bool, true, false, Option, Some, None, List, [], ◌∷◌, ◌++◌, refl, ap, sym, ◌∙◌, arith, subst, eqb-true, ◌&&◌, ◌||◌}
use Rattle.std.specs.Prelude.{not, nat_le}
use Rattle.std.specs.List.{list_all, list_any}
use Rattle.std.proofs.lemmas.Bool.Decides.{nat_tests}
use Rattle.isp_mbr.specs.Predicates.{may_hold}
use Rattle.isp_mbr.specs.declared.predicate.Predicate.{Predicate}
use Rattle.isp_mbr.proofs.BoxLaws.{both}
use Rattle.isp_forest.specs.declared.entry.Entry.{Entry}
use Rattle.isp_base.specs.Lists.{Has}
use Rattle.isp_forest.specs.Tree.{Node, Tree, page_at, counter, child_of}
use Rattle.isp_forest.specs.Walk.{IsWalk}
use Rattle.isp_forest.specs.Steps.{is_among, names}
use Rattle.isp_forest.specs.Place.{Names}
use Rattle.isp_forest.specs.Search.{Search, Reached, Sees, IsRemembered, Covered}
use Rattle.isp_laws.proofs.ListLaws.{Has-append}
use Rattle.isp_laws.proofs.CheckLaws.{has_all}
use Rattle.isp_laws.proofs.WalkLaws.{walk_once}
use Rattle.isp_searches.proofs.SeesLaws.{among_has, has_among, not_both, IsThere}

-- ---- covered

abbrev pub sees_child : List ℕ → Option ℕ → Bool
sees_child seen None = true
sees_child seen (Some q) = is_among seen q

abbrev pub sees_all : Predicate → List ℕ → Option Node → Bool
sees_all predicate seen None = false
sees_all predicate seen (Some page) = list_all (λ e. not (may_hold predicate e.b) || sees_child seen (child_of e)) page.entries

there_of : (tree : Tree) (p : ℕ) (predicate : Predicate) (seen : List ℕ) (o : Option Node) → page_at tree p ≡ o → sees_all predicate seen o ≡ true → IsThere tree p
there_of tree p predicate seen None e h = cc
there_of tree p predicate seen (Some page) e h = (page, e)

right_part : (b c : Bool) → b ≡ true → (not b || c) ≡ true → c ≡ true
right_part true c h k = k
right_part false c h k = cc

child_seen : (predicate : Predicate) (seen : List ℕ) (q : ℕ) (page : Node) (e : Entry) → sees_all predicate seen (Some page) ≡ true → Has page.entries e → child_of e ≡ Some q → may_hold predicate e.b ≡ true → Has seen q
child_seen predicate seen q page e all has to may =
    let one : (not (may_hold predicate e.b) || sees_child seen (child_of e)) ≡ true = has_all (λ (z : Entry). not (may_hold predicate z.b) || sees_child seen (child_of z)) page.entries e all has in
    among_has seen q (sym (ap (sees_child seen) to) ∙ right_part (may_hold predicate e.b) (sees_child seen (child_of e)) may one)

covered_by_tests : (tree : Tree) (x : Search) (reach : List ℕ) → ((q : ℕ) → Has reach q → Reached tree x.stack q) → ((p s : ℕ) → Has x.stack (p, s) → IsRemembered tree p s)
    → is_among (x.on ++ reach) tree.root ≡ true → list_all (λ p. sees_all x.predicate (x.on ++ reach) (page_at tree p)) x.on ≡ true → Covered tree x
covered_by_tests tree x reach reached stack root all = record {
  pages = λ p on. there_of tree p x.predicate (x.on ++ reach) (page_at tree p) refl (tested p on);
  root = sees tree.root (among_has (x.on ++ reach) tree.root root);
  children = λ p q e on n may. (let t : sees_all x.predicate (x.on ++ reach) (Some n.page) ≡ true = sym (ap (sees_all x.predicate (x.on ++ reach)) n.there) ∙ tested p on in
      sees q (child_seen x.predicate (x.on ++ reach) q n.page e t n.has n.to may));
  stack = stack;
}
  where
    tested : (p : ℕ) → Has x.on p → sees_all x.predicate (x.on ++ reach) (page_at tree p) ≡ true
    tested p on = has_all (λ (z : ℕ). sees_all x.predicate (x.on ++ reach) (page_at tree z)) x.on p all on

    sees : (q : ℕ) → Has (x.on ++ reach) q → Sees tree x q
    sees q h = elim (Has-append x.on reach q h) [ inl on ↦ inl on | inr r ↦ inr (reached q r) ]

-- with nothing left to visit
pub covered_done : (tree : Tree) (x : Search) → x.stack ≡ [] → is_among (x.on ++ []) tree.root ≡ true → list_all (λ p. sees_all x.predicate (x.on ++ []) (page_at tree p)) x.on ≡ true → Covered tree x
covered_done tree x done root all =
    covered_by_tests tree x [] (λ q h. absurd h) (λ p s h. absurd (subst (λ (st : List (ℕ × ℕ)). Has st (p, s)) done h)) root all

-- with one page left to visit, whose walk is given
pub covered_one : (tree : Tree) (x : Search) (p s : ℕ) (rest : List ℕ) (page : Node) → x.stack ≡ (p, s) ∷ [] → page_at tree p ≡ Some page → nat_le s (counter tree) ≡ true → IsWalk tree s (p ∷ rest)
    → is_among (x.on ++ p ∷ rest) tree.root ≡ true → list_all (λ q. sees_all x.predicate (x.on ++ p ∷ rest) (page_at tree q)) x.on ≡ true → Covered tree x
covered_one tree x p s rest page one there given walk root all =
    covered_by_tests tree x (p ∷ rest)
    (λ q h. record { from = p; ssn = s; remembered = subst (λ (st : List (ℕ × ℕ)). Has st (p, s)) (sym one) (inl refl); rest = rest; walk = walk; on_it = h })
    (λ q t h. only q t (subst (λ (st : List (ℕ × ℕ)). Has st (q, t)) one h)) root all
  where
    is : IsRemembered tree p s
    is = record { page = page; there = there; given = grind (arith, nat_tests); rest = rest; walk = walk }

    only : (q t : ℕ) → Has {X = ℕ × ℕ} ((p, s) ∷ []) (q, t) → IsRemembered tree q t
    only q t (inl same) =
        let at : p ≡ q = ap (λ (z : ℕ × ℕ). z.0) same in
        let now : s ≡ t = ap (λ (z : ℕ × ℕ). z.1) same in
        subst (λ (z : ℕ). IsRemembered tree z t) at (subst (λ (z : ℕ). IsRemembered tree p z) now is)
    only q t (inr none) = absurd none

-- ---- not covered

abbrev pub leads_to : Predicate → ℕ → Option Node → Bool
leads_to predicate q None = false
leads_to predicate q (Some page) = list_any (λ e. names (λ c. c == q) (child_of e) && may_hold predicate e.b) page.entries

record Leading (tree : Tree) (predicate : Predicate) (p q : ℕ) : Type 0 where
  e : Entry
  names : Names tree p q e
  may : may_hold predicate e.b ≡ true

named_of : (o : Option ℕ) (q : ℕ) → names (λ c. c == q) o ≡ true → o ≡ Some q
named_of None q h = cc
named_of (Some r) q h = ap Some (eqb-true r q h)

record Found (predicate : Predicate) (q : ℕ) (es : List Entry) : Type 0 where
  e : Entry
  has : Has es e
  to : child_of e ≡ Some q
  may : may_hold predicate e.b ≡ true

found_in : (predicate : Predicate) (q : ℕ) (es : List Entry) → list_any (λ e. names (λ c. c == q) (child_of e) && may_hold predicate e.b) es ≡ true → Found predicate q es
found_in predicate q [] h = let no : ⊥ = cc in absurd no
found_in predicate q (z ∷ es) h =
    elim (names (λ c. c == q) (child_of z) && may_hold predicate z.b) as (λ b. (names (λ c. c == q) (child_of z) && may_hold predicate z.b) ≡ b → (b || list_any (λ e. names (λ c. c == q) (child_of e) && may_hold predicate e.b) es) ≡ true → Found predicate q (z ∷ es)) [
      | true ↦ λ t k. (let parts : (names (λ c. c == q) (child_of z) ≡ true) × (may_hold predicate z.b ≡ true) = both (names (λ c. c == q) (child_of z)) (may_hold predicate z.b) t in
          record { e = z; has = inl refl; to = named_of (child_of z) q parts.0; may = parts.1 })
      | false ↦ λ t k. (let i : Found predicate q es = found_in predicate q es k in record { e = i.e; has = inr i.has; to = i.to; may = i.may })
    ] refl h

leading : (tree : Tree) (predicate : Predicate) (p q : ℕ) (o : Option Node) → page_at tree p ≡ o → leads_to predicate q o ≡ true → Leading tree predicate p q
leading tree predicate p q None e h = cc
leading tree predicate p q (Some page) e h =
    let i : Found predicate q page.entries = found_in predicate q page.entries h in
    record { e = i.e; names = record { page = page; there = e; has = i.has; to = i.to }; may = i.may }

not_covered : (tree : Tree) (y : Search) (p q : ℕ) → is_among y.on p ≡ true → leads_to y.predicate q (page_at tree p) ≡ true → (Sees tree y q → ⊥) → Covered tree y → ⊥
not_covered tree y p q on leads unseen c =
    let l : Leading tree y.predicate p q = leading tree y.predicate p q (page_at tree p) refl leads in
    unseen (c.children p q l.e (among_has y.on p on) l.names l.may)

-- a child that has to be visited, where nothing is left to visit
pub missed_done : (tree : Tree) (y : Search) (p q : ℕ) → y.stack ≡ [] → is_among y.on p ≡ true → leads_to y.predicate q (page_at tree p) ≡ true → is_among y.on q ≡ false → Covered tree y → ⊥
missed_done tree y p q done on leads off = not_covered tree y p q on leads unseen
  where
    unseen : Sees tree y q → ⊥
    unseen (inl is_on) = not_both (is_among y.on q) (has_among y.on q is_on) off
    unseen (inr r) = subst (λ (st : List (ℕ × ℕ)). Has st (r.from, r.ssn)) done r.remembered

-- or where one page is left to visit, whose walk is given
pub missed_one : (tree : Tree) (y : Search) (p q from s : ℕ) (rest : List ℕ) → y.stack ≡ (from, s) ∷ [] → IsWalk tree s (from ∷ rest) → is_among (from ∷ rest) q ≡ false
    → is_among y.on p ≡ true → leads_to y.predicate q (page_at tree p) ≡ true → is_among y.on q ≡ false → Covered tree y → ⊥
missed_one tree y p q from s rest one walk passed on leads off = not_covered tree y p q on leads unseen
  where
    on_walk : (r : Reached tree y.stack q) → Has {X = ℕ × ℕ} ((from, s) ∷ []) (r.from, r.ssn) → Has (from ∷ rest) q
    on_walk r (inl same) =
        let at : from ≡ r.from = ap (λ (z : ℕ × ℕ). z.0) same in
        let now : s ≡ r.ssn = ap (λ (z : ℕ × ℕ). z.1) same in
        let walk' : IsWalk tree s (from ∷ r.rest) = subst (λ (z : ℕ). IsWalk tree s (z ∷ r.rest)) (sym at) (subst (λ (z : ℕ). IsWalk tree z (r.from ∷ r.rest)) (sym now) r.walk) in
        let is : r.rest ≡ rest = walk_once tree s from r.rest rest walk' walk in
        subst (λ (w : List ℕ). Has (from ∷ w) q) is (subst (λ (z : ℕ). Has (z ∷ r.rest) q) (sym at) r.on_it)
    on_walk r (inr none) = absurd none

    unseen : Sees tree y q → ⊥
    unseen (inl is_on) = not_both (is_among y.on q) (has_among y.on q is_on) off
    unseen (inr r) = not_both (is_among (from ∷ rest) q) (has_among (from ∷ rest) q (on_walk r (subst (λ (st : List (ℕ × ℕ)). Has st (r.from, r.ssn)) one r.remembered))) passed
