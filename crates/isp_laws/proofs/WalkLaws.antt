-- Walks along right links: they end where right links do, and stay where the links and numbers of pages stay.
use Rattle.std.proofs.Common.{◌≡◌, ◌⊎◌, inl, inr, ℕ, zero, suc, ◌+◌, true, false, cond, Option, Some, None, List, [], ◌∷◌, refl, ap, sym, ◌∙◌, subst, arith}
use Rattle.std.specs.Prelude.{nat_lt}
use Rattle.isp_forest.specs.Tree.{Node, Tree, page_at}
use Rattle.isp_forest.specs.Walk.{split_since, onward, IsWalk, right_of, link, EndsAfter, Links, Follows}

pub walk_same : (old new : Tree) (s : ℕ) → ((p : ℕ) → onward old s p ≡ onward new s p) → (w : List ℕ) → IsWalk old s w → IsWalk new s w
walk_same old new s same [] h = h
walk_same old new s same (p ∷ []) h = sym (same p) ∙ h
walk_same old new s same (p ∷ q ∷ rest) h = (sym (same p) ∙ h.0, walk_same old new s same (q ∷ rest) h.1)

since_at : (s : ℕ) (o : Option Node) → (split_since s o ≡ None) ⊎ (split_since s o ≡ right_of o)
since_at s None = inl refl
since_at s (Some page) = elim (nat_lt s page.ssn) as (λ b. (cond b page.next None ≡ None) ⊎ (cond b page.next None ≡ page.next)) [ true ↦ inr refl | false ↦ inl refl ]

-- a walk stops or follows the right link
pub stops_or_links : (tree : Tree) (s p : ℕ) → (onward tree s p ≡ None) ⊎ (onward tree s p ≡ link tree p)
stops_or_links tree s p = since_at s (page_at tree p)

pub record Ending (tree : Tree) (s p : ℕ) : Type 0 where
  pub rest : List ℕ
  pub walk : IsWalk tree s (p ∷ rest)

pub walk_ends : (tree : Tree) (s n p : ℕ) → EndsAfter tree n p → Ending tree s p
walk_ends tree s zero p h =
    elim (stops_or_links tree s p) [ inl stops ↦ record { rest = []; walk = stops } | inr links ↦ record { rest = []; walk = links ∙ h } ]
walk_ends tree s (suc n) p h =
    elim (stops_or_links tree s p) [
      | inl stops ↦ record { rest = []; walk = stops }
      | inr links ↦ (let w : Ending tree s h.0 = walk_ends tree s n h.0 h.2 in record { rest = h.0 ∷ w.rest; walk = (links ∙ h.1, w.walk) })
    ]

-- ---- links that stay

pub ends_same : (old new : Tree) → ((p : ℕ) → link old p ≡ link new p) → (n p : ℕ) → EndsAfter old n p → EndsAfter new n p
ends_same old new same zero p h = sym (same p) ∙ h
ends_same old new same (suc n) p h = (h.0, sym (same p) ∙ h.1, ends_same old new same n h.0 h.2)

pub links_same : (old new : Tree) → ((p : ℕ) → link old p ≡ link new p) → Links old → Links new
links_same old new same links = record {
  apart = λ p q r h k. links.apart p q r (same p ∙ h) (same q ∙ k);
  ends = λ p. (let e : (n : ℕ) × EndsAfter old n p = links.ends p in (e.0, ends_same old new same e.0 p e.1));
}

-- ---- right links never lead back to where one was

record Later (tree : Tree) (n k q : ℕ) : Type 0 where
  left : ℕ
  sum : k ≡ suc n + left
  ends : EndsAfter tree left q

ends_later : (tree : Tree) (n k p q : ℕ) → Follows tree n p q → EndsAfter tree k p → Later tree n k q
ends_later tree zero zero p q h e = let no : ⊥ = cc in absurd no
ends_later tree zero (suc k) p q h e =
    let same : Some e.0 ≡ Some q = sym e.1 ∙ h in
    let at : e.0 ≡ q = cc in
    record { left = k; sum = omega arith; ends = subst (EndsAfter tree k) at e.2 }
ends_later tree (suc n) zero p q h e = let a : link tree p ≡ Some h.0 = h.1 in let no : ⊥ = cc in absurd no
ends_later tree (suc n) (suc k) p q h e =
    let same : Some e.0 ≡ Some h.0 = sym e.1 ∙ h.1 in
    let at : e.0 ≡ h.0 = cc in
    let l : Later tree n k q = ends_later tree n k h.0 q h.2 (subst (EndsAfter tree k) at e.2) in
    record { left = l.left; sum = omega (arith, l.sum); ends = l.ends }

ends_once : (tree : Tree) (k n p : ℕ) → EndsAfter tree k p → EndsAfter tree n p → k ≡ n
ends_once tree zero zero p h e = refl
ends_once tree zero (suc n) p h e = let a : link tree p ≡ Some e.0 = e.1 in let no : ⊥ = cc in absurd no
ends_once tree (suc k) zero p h e = let a : link tree p ≡ Some h.0 = h.1 in let no : ⊥ = cc in absurd no
ends_once tree (suc k) (suc n) p h e =
    let same : Some e.0 ≡ Some h.0 = sym e.1 ∙ h.1 in
    let at : e.0 ≡ h.0 = cc in
    ap suc (ends_once tree k n h.0 h.2 (subst (EndsAfter tree n) at e.2))

pub never_back : (tree : Tree) → Links tree → (n p : ℕ) → Follows tree n p p → ⊥
never_back tree links n p h =
    let e : (k : ℕ) × EndsAfter tree k p = links.ends p in
    let l : Later tree n e.0 p = ends_later tree n e.0 p p h e.1 in
    omega (arith, l.sum, ends_once tree e.0 l.left p e.1 l.ends)

-- a page and a number have one walk
pub walk_once : (tree : Tree) (s p : ℕ) (v w : List ℕ) → IsWalk tree s (p ∷ v) → IsWalk tree s (p ∷ w) → v ≡ w
walk_once tree s p [] [] h k = refl
walk_once tree s p [] (q ∷ w) h k = let a : onward tree s p ≡ Some q = k.0 in cc
walk_once tree s p (q ∷ v) [] h k = let a : onward tree s p ≡ Some q = h.0 in cc
walk_once tree s p (q ∷ v) (r ∷ w) h k =
    let same : Some q ≡ Some r = sym h.0 ∙ k.0 in
    let at : q ≡ r = cc in
    let rest : v ≡ w = walk_once tree s r v w (subst (λ (x : ℕ). IsWalk tree s (x ∷ v)) at h.1) k.1 in
    ap (λ x. x ∷ v) at ∙ ap (λ xs. r ∷ xs) rest
