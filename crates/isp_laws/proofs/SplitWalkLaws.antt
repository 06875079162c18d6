-- After a split the walks of remembered numbers are the old ones with the new page after the page that was split, and
-- right links still come to an end.
use Rattle.std.proofs.Common.{◌≡◌, ◌⊎◌, inl, inr, ℕ, zero, suc, ◌≤◌, ◌==◌, Bool, true, false, cond, Option, Some, None, List, [], ◌∷◌, refl, ap, sym, ◌∙◌, arith, subst, eqb-true, eq-eqb}
use Rattle.std.specs.Prelude.{nat_lt}
use Rattle.std.proofs.lemmas.Bool.Decides.{nat_tests}
use Rattle.isp_forest.specs.declared.entry.Entry.{Entry}
use Rattle.isp_forest.specs.Tree.{Node, Tree, page_at, counter}
use Rattle.isp_forest.specs.Forest.{Forest, IsLinked}
use Rattle.isp_forest.specs.Walk.{split_since, onward, IsWalk, right_of, link, EndsAfter, Links}
use Rattle.isp_forest.specs.Steps.{split, put_after}
use Rattle.isp_forest.specs.Place.{CanSplit, StartsAt}
use Rattle.isp_laws.proofs.PageLaws.{page_in-each, changed}
use Rattle.isp_laws.proofs.ForestLaws.{same_page}
use Rattle.isp_laws.proofs.RaiseLaws.{apart, turned}
use Rattle.isp_laws.proofs.SplitLaws.{Splitting, round, after_split, split_is, n_not_o, at_n, at_o, at_other}

-- ---- the right links after the split

pub link_n : (c : Splitting) → link (after_split c) c.n ≡ link c.tree c.o
link_n c = ap right_of (at_n c) ∙ ap right_of (sym c.can.there)

pub link_o : (c : Splitting) → link (after_split c) c.o ≡ Some c.n
link_o c = ap right_of (at_o c)

link_round : (c : Splitting) (x : ℕ) (o : Option Node) → right_of (changed (round c) x o) ≡ right_of o
link_round c x None = refl
link_round c x (Some page) = refl

pub link_other : (c : Splitting) (x : ℕ) → (c.n == x) ≡ false → (c.o == x) ≡ false → link (after_split c) x ≡ link c.tree x
link_other c x not_n not_o = ap right_of (at_other c x not_n not_o ∙ page_in-each (round c) c.tree.pages x) ∙ link_round c x (page_at c.tree x)

linked_at : (tree : Tree) (p q : ℕ) (o : Option Node) → page_at tree p ≡ o → right_of o ≡ Some q → (page : Node) × (page_at tree p ≡ Some page) × (page.next ≡ Some q)
linked_at tree p q None e h = cc
linked_at tree p q (Some page) e h = (page, e, h)

-- a right link never leads to a page that no tree has
pub link_not_n : (c : Splitting) (p q : ℕ) → link c.tree p ≡ Some q → (c.n == q) ≡ false
link_not_n c p q h =
    let l : (page : Node) × (page_at c.tree p ≡ Some page) × (page.next ≡ Some q) = linked_at c.tree p q (page_at c.tree p) refl h in
    let is : IsLinked c.tree l.0 q = c.forest.linked p q l.0 l.1 l.2 in
    turned q c.n (apart c.tree.pages q c.n is.right is.there c.can.free)

-- ---- they end

record Ends (c : Splitting) (p : ℕ) : Type 0 where
  n : ℕ
  after : EndsAfter (after_split c) n p

ends_other : (c : Splitting) (k p : ℕ) → (c.n == p) ≡ false → EndsAfter c.tree k p → Ends c p
ends_other c zero p not_n h =
    elim (c.o == p) as (λ b. (c.o == p) ≡ b → Ends c p) [
      | true ↦ λ t. (let at : c.o ≡ p = eqb-true c.o p t in
          let to : link (after_split c) p ≡ Some c.n = subst (λ (z : ℕ). link (after_split c) z ≡ Some c.n) at (link_o c) in
          let last : link (after_split c) c.n ≡ None = link_n c ∙ ap (link c.tree) at ∙ h in
          record { n = 1; after = (c.n, to, last) })
      | false ↦ λ t. record { n = 0; after = link_other c p not_n t ∙ h }
    ] refl
ends_other c (suc k) p not_n h =
    let rest : Ends c h.0 = ends_other c k h.0 (link_not_n c p h.0 h.1) h.2 in
    elim (c.o == p) as (λ b. (c.o == p) ≡ b → Ends c p) [
      | true ↦ λ t. (let at : c.o ≡ p = eqb-true c.o p t in
          let to : link (after_split c) p ≡ Some c.n = subst (λ (z : ℕ). link (after_split c) z ≡ Some c.n) at (link_o c) in
          let more : link (after_split c) c.n ≡ Some h.0 = link_n c ∙ ap (link c.tree) at ∙ h.1 in
          record { n = suc (suc rest.n); after = (c.n, to, (h.0, more, rest.after)) })
      | false ↦ λ t. record { n = suc rest.n; after = (h.0, link_other c p not_n t ∙ h.1, rest.after) }
    ] refl

-- the new page is behind the page that was split
ends_behind : (c : Splitting) (k : ℕ) → EndsAfter (after_split c) k c.o → Ends c c.n
ends_behind c zero h = let to : link (after_split c) c.o ≡ Some c.n = link_o c in let no : ⊥ = cc in absurd no
ends_behind c (suc k) h =
    let to : Some h.0 ≡ Some c.n = sym h.1 ∙ link_o c in
    let at : h.0 ≡ c.n = cc in
    record { n = k; after = subst (EndsAfter (after_split c) k) at h.2 }

ends_split : (c : Splitting) → Links c.tree → (p : ℕ) → Ends c p
ends_split c links p =
    elim (c.n == p) as (λ b. (c.n == p) ≡ b → Ends c p) [
      | true ↦ λ t. (let e : (n : ℕ) × EndsAfter c.tree n c.o = links.ends c.o in
          let o_ends : Ends c c.o = ends_other c e.0 c.o (n_not_o c) e.1 in
          subst (Ends c) (eqb-true c.n p t) (ends_behind c o_ends.n o_ends.after))
      | false ↦ λ t. (let e : (n : ℕ) × EndsAfter c.tree n p = links.ends p in ends_other c e.0 p t e.1)
    ] refl

-- ---- no two pages have the same right link

record Linker (c : Splitting) (p r : ℕ) : Type 0 where
  from : ℕ
  old : link c.tree from ≡ Some r
  now : (c.n ≡ p) × (from ≡ c.o) ⊎ (from ≡ p) × ((c.o == p) ≡ false)

-- who links to r after the split: the page that was split, to the new page; or the new page in its stead, or as before
linker : (c : Splitting) (p r : ℕ) → link (after_split c) p ≡ Some r → ((c.o ≡ p) × (c.n ≡ r)) ⊎ Linker c p r
linker c p r h =
    elim (c.n == p) as (λ b. (c.n == p) ≡ b → ((c.o ≡ p) × (c.n ≡ r)) ⊎ Linker c p r) [
      | true ↦ λ t. (let at : c.n ≡ p = eqb-true c.n p t in
          let old : link c.tree c.o ≡ Some r = sym (link_n c) ∙ ap (link (after_split c)) at ∙ h in
          inr (record { from = c.o; old = old; now = inl (at, refl) }))
      | false ↦ λ t. elim (c.o == p) as (λ b. (c.o == p) ≡ b → ((c.o ≡ p) × (c.n ≡ r)) ⊎ Linker c p r) [
        | true ↦ λ u. (let at : c.o ≡ p = eqb-true c.o p u in
            let same : Some c.n ≡ Some r = sym (link_o c) ∙ ap (link (after_split c)) at ∙ h in
            inl (at, cc))
        | false ↦ λ u. inr (record { from = p; old = sym (link_other c p t u) ∙ h; now = inr (refl, u) })
      ] refl
    ] refl

not_both : (b : Bool) → b ≡ true → b ≡ false → ⊥
not_both b h k = cc

apart_split : (c : Splitting) → Links c.tree → (p q r : ℕ) → link (after_split c) p ≡ Some r → link (after_split c) q ≡ Some r → p ≡ q
apart_split c links p q r h k = elim (linker c p r h) [
  | inl split_p ↦ elim (linker c q r k) [
    | inl split_q ↦ sym split_p.0 ∙ split_q.0
    | inr old_q ↦ absurd (not_both (c.n == r) (eq-eqb c.n r split_p.1) (link_not_n c old_q.from r old_q.old))
  ]
  | inr old_p ↦ elim (linker c q r k) [
    | inl split_q ↦ absurd (not_both (c.n == r) (eq-eqb c.n r split_q.1) (link_not_n c old_p.from r old_p.old))
    | inr old_q ↦ (let same : old_p.from ≡ old_q.from = links.apart old_p.from old_q.from r old_p.old old_q.old in
        elim old_p.now [
          | inl new_p ↦ elim old_q.now [
            | inl new_q ↦ sym new_p.0 ∙ new_q.0
            | inr as_q ↦ absurd (not_both (c.o == q) (eq-eqb c.o q (sym new_p.1 ∙ same ∙ as_q.0)) as_q.1)
          ]
          | inr as_p ↦ elim old_q.now [
            | inl new_q ↦ absurd (not_both (c.o == p) (eq-eqb c.o p (sym new_q.1 ∙ sym same ∙ as_p.0)) as_p.1)
            | inr as_q ↦ sym as_p.0 ∙ same ∙ as_q.0
          ]
        ])
  ]
]

pub split_links_of : (c : Splitting) → Links c.tree → Links (after_split c)
split_links_of c links = record {
  apart = apart_split c links;
  ends = λ p. (let e : Ends c p = ends_split c links p in (e.n, e.after));
}

abbrev pub splitting : (tree : Tree) (o above : ℕ) (left right : List Entry) (n : ℕ) → Forest tree → CanSplit tree o above left right n → Splitting
splitting tree o above left right n forest can = record { tree = tree; forest = forest; o = o; above = above; n = n; left = left; right = right; can = can }

pub split_links : (tree : Tree) (o above : ℕ) (left right : List Entry) (n : ℕ) → Forest tree → CanSplit tree o above left right n → Links tree → Links (split tree o above left right n)
split_links tree o above left right n forest can links =
    let c : Splitting = splitting tree o above left right n forest can in
    subst Links (sym (split_is c)) (split_links_of c links)

-- ---- walks after the split

pub onward_n : (c : Splitting) (s : ℕ) → onward (after_split c) s c.n ≡ onward c.tree s c.o
onward_n c s = ap (split_since s) (at_n c) ∙ ap (split_since s) (sym c.can.there)

if_yes : (b : Bool) (x : Option ℕ) → b ≡ true → cond b x None ≡ x
if_yes true x h = refl
if_yes false x h = cc

pub onward_o : (c : Splitting) (s : ℕ) → s ≤ counter c.tree → onward (after_split c) s c.o ≡ Some c.n
onward_o c s given = ap (split_since s) (at_o c) ∙ if_yes (nat_lt s (suc (counter c.tree))) (Some c.n) (grind (arith, nat_tests))

same_for_none : (b t : Bool) (o : Option ℕ) → o ≡ None → cond b o None ≡ cond t o None
same_for_none true true o h = refl
same_for_none true false o h = h
same_for_none false true o h = sym h
same_for_none false false o h = refl

-- but for the root, which has no right link, the other pages keep their numbers
onward_round : (c : Splitting) (s x : ℕ) (o : Option Node) → page_at c.tree x ≡ o → split_since s (changed (round c) x o) ≡ split_since s o
onward_round c s x None e = refl
onward_round c s x (Some page) e =
    elim (x == c.tree.root) as (λ b. (x == c.tree.root) ≡ b → cond (nat_lt s (cond b (suc (counter c.tree)) page.ssn)) page.next None ≡ cond (nat_lt s page.ssn) page.next None) [
      | true ↦ λ t. (let root : page_at c.tree c.tree.root ≡ Some page = subst (λ (z : ℕ). page_at c.tree z ≡ Some page) (eqb-true x c.tree.root t) e in
          let same : page ≡ c.forest.top = same_page (page_at c.tree c.tree.root) page c.forest.top root c.forest.rooted in
          let none : page.next ≡ None = ap (λ (z : Node). z.next) same ∙ c.forest.alone in
          same_for_none (nat_lt s (suc (counter c.tree))) (nat_lt s page.ssn) page.next none)
      | false ↦ λ t. refl
    ] refl

pub onward_other : (c : Splitting) (s x : ℕ) → (c.n == x) ≡ false → (c.o == x) ≡ false → onward (after_split c) s x ≡ onward c.tree s x
onward_other c s x not_n not_o = ap (split_since s) (at_other c x not_n not_o ∙ page_in-each (round c) c.tree.pages x) ∙ onward_round c s x (page_at c.tree x) refl

onward_at : (s : ℕ) (o : Option Node) (q : ℕ) → split_since s o ≡ Some q → right_of o ≡ Some q
onward_at s None q h = h
onward_at s (Some page) q h = elim (nat_lt s page.ssn) as (λ b. cond b page.next None ≡ Some q → page.next ≡ Some q) [ true ↦ λ k. k | false ↦ λ k. cc ] h

walk_cons : (tree : Tree) (s p q : ℕ) (w : List ℕ) → onward tree s p ≡ Some q → StartsAt q w → IsWalk tree s w → IsWalk tree s (p ∷ w)
walk_cons tree s p q [] h starts walk = absurd starts
walk_cons tree s p q (x ∷ w) h starts walk = (h ∙ ap Some (sym starts), walk)

starts_after : (o n p : ℕ) (rest : List ℕ) → StartsAt p (put_after o n (p ∷ rest))
starts_after o n p rest = elim (p == o) as (λ b. StartsAt p (cond b (p ∷ n ∷ put_after o n rest) (p ∷ put_after o n rest))) [ true ↦ refl | false ↦ refl ]

pub walk_after_split : (c : Splitting) (s : ℕ) → s ≤ counter c.tree → (p : ℕ) (rest : List ℕ) → (c.n == p) ≡ false → IsWalk c.tree s (p ∷ rest) → IsWalk (after_split c) s (put_after c.o c.n (p ∷ rest))
walk_after_split c s given p [] not_n h =
    elim (p == c.o) as (λ b. (p == c.o) ≡ b → IsWalk (after_split c) s (cond b (p ∷ c.n ∷ []) (p ∷ []))) [
      | true ↦ λ t. (let at : c.o ≡ p = sym (eqb-true p c.o t) in
          (ap (onward (after_split c) s) (sym at) ∙ onward_o c s given, onward_n c s ∙ ap (onward c.tree s) at ∙ h))
      | false ↦ λ t. onward_other c s p not_n (turned p c.o t) ∙ h
    ] refl
walk_after_split c s given p (q ∷ rest) not_n h =
    let not_n' : (c.n == q) ≡ false = link_not_n c p q (onward_at s (page_at c.tree p) q h.0) in
    let more : IsWalk (after_split c) s (put_after c.o c.n (q ∷ rest)) = walk_after_split c s given q rest not_n' h.1 in
    elim (p == c.o) as (λ b. (p == c.o) ≡ b → IsWalk (after_split c) s (cond b (p ∷ c.n ∷ put_after c.o c.n (q ∷ rest)) (p ∷ put_after c.o c.n (q ∷ rest)))) [
      | true ↦ λ t. (let at : c.o ≡ p = sym (eqb-true p c.o t) in
          let behind : onward (after_split c) s c.n ≡ Some q = onward_n c s ∙ ap (onward c.tree s) at ∙ h.0 in
          (ap (onward (after_split c) s) (sym at) ∙ onward_o c s given, walk_cons (after_split c) s c.n q (put_after c.o c.n (q ∷ rest)) behind (starts_after c.o c.n q rest) more))
      | false ↦ λ t. walk_cons (after_split c) s p q (put_after c.o c.n (q ∷ rest)) (onward_other c s p not_n (turned p c.o t) ∙ h.0) (starts_after c.o c.n q rest) more
    ] refl

pub split_walk : (tree : Tree) (o above : ℕ) (left right : List Entry) (n s p : ℕ) (rest : List ℕ) (page : Node) → Forest tree → CanSplit tree o above left right n
    → s ≤ counter tree → page_at tree p ≡ Some page → IsWalk tree s (p ∷ rest) → IsWalk (split tree o above left right n) s (put_after o n (p ∷ rest))
split_walk tree o above left right n s p rest page forest can given there walk =
    let c : Splitting = splitting tree o above left right n forest can in
    let not_n : (n == p) ≡ false = turned p n (apart tree.pages p n page there can.free) in
    subst (λ (t : Tree). IsWalk t s (put_after o n (p ∷ rest))) (sym (split_is c)) (walk_after_split c s given p rest not_n walk)
