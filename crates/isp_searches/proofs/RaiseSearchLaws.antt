-- A raised root leaves a search covered and known: it is copied to the page that takes the root's entries, where that may hold
-- what it looks for.
use Rattle.std.proofs.Common.{◌≡◌, ◌⊎◌, inl, inr, ℕ, ℤ, suc, ◌≤◌, ◌==◌, Bool, true, false, cond, Some, List, [], ◌∷◌, ◌++◌, refl, ap, sym, ◌∙◌, arith, subst, eq-eqb, eqb-true, ◌&&◌}
use Rattle.isp_mbr.specs.Corners.{Corners}
use Rattle.isp_mbr.specs.Predicates.{may_hold}
use Rattle.isp_mbr.proofs.BoxLaws.{both}
use Rattle.isp_forest.specs.declared.entry.Entry.{Entry}
use Rattle.isp_base.specs.Lists.{Has}
use Rattle.isp_forest.specs.Tree.{Node, Tree, page_at, counter, ssn_of, child_of, least}
use Rattle.isp_forest.specs.Forest.{Forest}
use Rattle.isp_forest.specs.Walk.{onward}
use Rattle.isp_forest.specs.Steps.{is_among, put, raised, raise}
use Rattle.isp_forest.specs.Place.{Names, IsFree}
use Rattle.isp_forest.specs.Search.{Search, Item, Sees, IsOwn, Covered, Known}
use Rattle.isp_forest.specs.Attach.{copied, box_of, copied_at_raise}
use Rattle.isp_laws.proofs.ListLaws.{Has-append, Has-append_left, Has-append_right}
use Rattle.isp_laws.proofs.PageLaws.{page_in-put_same, page_in-put_other}
use Rattle.isp_laws.proofs.ForestLaws.{counter_is}
use Rattle.isp_laws.proofs.RaiseLaws.{IsPut, put_or_other, apart, turned, lifted, moved, made, raise_onward}
use Rattle.isp_searches.proofs.SeesLaws.{among_has, has_among, not_both, IsThere, sees_same, remembered_same}

-- ---- a search that was copied

-- it is on the pages that it was on, and on the new one where it was on the old one and the box may hold its predicate
pub on_copied : (p q : ℕ) (box : Corners) (x : Search) (r : ℕ) → Has (copied p q box x).on r → Has x.on r ⊎ ((q ≡ r) × Has x.on p × (may_hold x.predicate box ≡ true))
on_copied p q box x r h =
    elim (is_among x.on p && may_hold x.predicate box) as (λ t. (is_among x.on p && may_hold x.predicate box) ≡ t → Has (cond t (x.on ++ q ∷ []) x.on) r → Has x.on r ⊎ ((q ≡ r) × Has x.on p × (may_hold x.predicate box ≡ true))) [
      | true ↦ λ t k. (let is : (is_among x.on p ≡ true) × (may_hold x.predicate box ≡ true) = both (is_among x.on p) (may_hold x.predicate box) t in
          elim (Has-append x.on (q ∷ []) r k) [
            | inl on ↦ inl on
            | inr new ↦ elim new [ inl here ↦ inr (here, among_has x.on p is.0, is.1) | inr none ↦ absurd none ]
          ])
      | false ↦ λ t k. inl k
    ] refl h

pub still_on : (p q : ℕ) (box : Corners) (x : Search) (r : ℕ) → Has x.on r → Has (copied p q box x).on r
still_on p q box x r h = elim (is_among x.on p && may_hold x.predicate box) as (λ t. Has (cond t (x.on ++ q ∷ []) x.on) r) [ true ↦ Has-append_left x.on (q ∷ []) r h | false ↦ h ]

pub on_new : (p q : ℕ) (box : Corners) (x : Search) → Has x.on p → may_hold x.predicate box ≡ true → Has (copied p q box x).on q
on_new p q box x on may =
    let among : is_among x.on p ≡ true = has_among x.on p on in
    let t : (is_among x.on p && may_hold x.predicate box) ≡ true = and_true (is_among x.on p) (may_hold x.predicate box) among may in
    subst (λ (s : Bool). Has (cond s (x.on ++ q ∷ []) x.on) q) (sym t) (Has-append_right x.on (q ∷ []) q (inl refl))
  where
    and_true : (s t : Bool) → s ≡ true → t ≡ true → (s && t) ≡ true
    and_true true t h k = k
    and_true false t h k = cc

pub free_not_on : (tree : Tree) (x : Search) → Covered tree x → (q : ℕ) → IsFree tree q → Has x.on q → ⊥
free_not_on tree x c q free on = let t : IsThere tree q = c.pages q on in let there : page_at tree q ≡ Some t.0 = t.1 in cc

-- ---- the raised tree

abbrev after : Tree → Node → ℕ → Tree
after tree top q = raised tree q (Some top)

-- which page it is: the root, the page that took its entries, or another
record Is (tree : Tree) (top : Node) (q p : ℕ) (page : Node) : Type 0 where
  not_root : (tree.root == p) ≡ false
  not_new : (q == p) ≡ false
  there : page_at tree p ≡ Some page

what : (tree : Tree) (top : Node) (q p : ℕ) (page : Node) → page_at (after tree top q) p ≡ Some page
    → IsPut tree.root p (lifted top q) page ⊎ (IsPut q p (moved top) page ⊎ Is tree top q p page)
what tree top q p page h = elim (put_or_other tree.root p (lifted top q) page (put q (moved top) tree.pages) h) [
  | inl root ↦ inl root
  | inr more ↦ elim (put_or_other q p (moved top) page tree.pages more.there) [
    | inl new ↦ inr (inl new)
    | inr old ↦ inr (inr (record { not_root = more.other; not_new = old.other; there = old.there }))
  ]
]

module _ (tree : Tree) (f : Forest tree) (q : ℕ) (free : IsFree tree q) where
  at_root : page_at (after tree f.top q) tree.root ≡ Some (lifted f.top q)
  at_root = page_in-put_same tree.root (lifted f.top q) (put q (moved f.top) tree.pages)

  q_other : (tree.root == q) ≡ false
  q_other = apart tree.pages tree.root q f.top f.rooted free

  at_new : page_at (after tree f.top q) q ≡ Some (moved f.top)
  at_new = page_in-put_other tree.root q (lifted f.top q) (put q (moved f.top) tree.pages) q_other ∙ page_in-put_same q (moved f.top) tree.pages

  still : (p : ℕ) → IsThere tree p → IsThere (after tree f.top q) p
  still p t =
      elim (tree.root == p) as (λ b. (tree.root == p) ≡ b → IsThere (after tree f.top q) p) [
        | true ↦ λ u. (lifted f.top q, subst (λ (z : ℕ). page_at (after tree f.top q) z ≡ Some (lifted f.top q)) (eqb-true tree.root p u) at_root)
        | false ↦ λ u. (let not_q : (q == p) ≡ false = turned p q (apart tree.pages p q t.0 t.1 free) in
            (t.0, page_in-put_other tree.root p (lifted f.top q) (put q (moved f.top) tree.pages) u ∙ page_in-put_other q p (moved f.top) tree.pages not_q ∙ t.1))
      ] refl

  same : (s p : ℕ) → onward tree s p ≡ onward (after tree f.top q) s p
  same s p = raise_onward tree f q free s p ∙ ap (λ (t : Tree). onward t s p) (made tree q f.top f.rooted)

  grows : counter tree ≤ counter (after tree f.top q)
  grows = let e : counter (after tree f.top q) ≡ f.top.ssn = ap ssn_of at_root in omega (arith, counter_is tree f)

  sees : (x : Search) (r : ℕ) → Sees tree x r → Sees (after tree f.top q) (copied tree.root q (least f.top.entries) x) r
  sees x = sees_same tree (after tree f.top q) same x (copied tree.root q (least f.top.entries) x) (still_on tree.root q (least f.top.entries) x) refl

  child : (x : Search) → Covered tree x → (p r : ℕ) (e : Entry) → Has (copied tree.root q (least f.top.entries) x).on p → Names (after tree f.top q) p r e → may_hold x.predicate e.b ≡ true
      → Sees (after tree f.top q) (copied tree.root q (least f.top.entries) x) r
  child x c p r e on n may = elim (what tree f.top q p n.page n.there) [
    | inl root ↦ (let has : Has (lifted f.top q).entries e = subst (λ (z : Node). Has z.entries e) (sym root.is) n.has in
        elim has [
          | inl same_e ↦ (let to : Some q ≡ Some r = ap child_of same_e ∙ n.to in
              let at : q ≡ r = cc in
              let may' : may_hold x.predicate (least f.top.entries) ≡ true = ap (λ (z : Entry). may_hold x.predicate z.b) same_e ∙ may in
              let on_root : Has x.on tree.root = elim (on_copied tree.root q (least f.top.entries) x p on) [
                | inl was ↦ subst (λ (z : ℕ). Has x.on z) (sym root.at) was
                | inr new ↦ new.1
              ] in
              inl (subst (λ (z : ℕ). Has (copied tree.root q (least f.top.entries) x).on z) at (on_new tree.root q (least f.top.entries) x on_root may')))
          | inr none ↦ absurd none
        ])
    | inr more ↦ elim more [
      | inl new ↦ (let has : Has f.top.entries e = subst (λ (z : Node). Has z.entries e) (sym new.is) n.has in
          let on_root : Has x.on tree.root = elim (on_copied tree.root q (least f.top.entries) x p on) [
            | inl was ↦ absurd (free_not_on tree x c q free (subst (λ (z : ℕ). Has x.on z) (sym new.at) was))
            | inr copy ↦ copy.1
          ] in
          sees x r (c.children tree.root r e on_root (record { page = f.top; there = f.rooted; has = has; to = n.to }) may))
      | inr old ↦ elim (on_copied tree.root q (least f.top.entries) x p on) [
        | inl was ↦ sees x r (c.children p r e was (record { page = n.page; there = old.there; has = n.has; to = n.to }) may)
        | inr copy ↦ absurd (not_both (q == p) (eq-eqb q p copy.0) old.not_new)
      ]
    ]
  ]

  raised_covered : (x : Search) → Covered tree x → Covered (after tree f.top q) (copied tree.root q (least f.top.entries) x)
  raised_covered x c = record {
    pages = λ p on. elim (on_copied tree.root q (least f.top.entries) x p on) [
      | inl was ↦ still p (c.pages p was)
      | inr new ↦ subst (IsThere (after tree f.top q)) new.0 (moved f.top, at_new)
    ];
    root = sees x tree.root c.root;
    children = child x c;
    stack = λ p s h. remembered_same tree (after tree f.top q) same grows p s (still p) (c.stack p s h);
  }

  raised_known : (x : Search) (items : List Item) → Covered tree x → Known tree x items → Known (after tree f.top q) (copied tree.root q (least f.top.entries) x) items
  raised_known x items c known = λ p leaf e k n on there level has to good. elim (what tree f.top q p leaf there) [
    | inl root ↦ (let up : suc f.top.level ≡ 0 = ap (λ (z : Node). z.level) root.is ∙ level in absurd (omega arith))
    | inr more ↦ elim more [
      | inl new ↦ (let has' : Has f.top.entries e = subst (λ (z : Node). Has z.entries e) (sym new.is) has in
          let level' : f.top.level ≡ 0 = ap (λ (z : Node). z.level) new.is ∙ level in
          let on_root : Has x.on tree.root = elim (on_copied tree.root q (least f.top.entries) x p on) [
            | inl was ↦ absurd (free_not_on tree x c q free (subst (λ (z : ℕ). Has x.on z) (sym new.at) was))
            | inr copy ↦ copy.1
          ] in
          same_own x items k n (known tree.root f.top e k n on_root f.rooted level' has' to good))
      | inr old ↦ elim (on_copied tree.root q (least f.top.entries) x p on) [
        | inl was ↦ same_own x items k n (known p leaf e k n was old.there level has to good)
        | inr copy ↦ absurd (not_both (q == p) (eq-eqb q p copy.0) old.not_new)
      ]
    ]
  ]
    where
      same_own : (x : Search) (items : List Item) (k : ℤ) (n : ℕ) → Has x.found k ⊎ IsOwn x items k n
          → Has x.found k ⊎ IsOwn (copied tree.root q (least f.top.entries) x) items k n
      same_own x items k n (inl found) = inl found
      same_own x items k n (inr o) = inr (record { item = o.item; among = o.among; session = o.session; later = o.later; same_key = o.same_key; same_number = o.same_number })

abbrev copied_there : Tree → ℕ → Search → Corners → Search
copied_there tree q x box = copied tree.root q box x

pub raise_covered : (tree : Tree) (q : ℕ) (x : Search) → Forest tree → IsFree tree q → Covered tree x → Covered (raise tree q) (copied_at_raise tree q x)
raise_covered tree q x f free c =
    subst (λ (t : Tree). Covered t (copied_at_raise tree q x)) (sym (made tree q f.top f.rooted))
    (subst (λ (box : Corners). Covered (after tree f.top q) (copied_there tree q x box)) (sym (ap box_of f.rooted)) (raised_covered tree f q free x c))

pub raise_known : (tree : Tree) (q : ℕ) (x : Search) (items : List Item) → Forest tree → IsFree tree q → Covered tree x → Known tree x items → Known (raise tree q) (copied_at_raise tree q x) items
raise_known tree q x items f free c known =
    subst (λ (t : Tree). Known t (copied_at_raise tree q x) items) (sym (made tree q f.top f.rooted))
    (subst (λ (box : Corners). Known (after tree f.top q) (copied_there tree q x box) items) (sym (ap box_of f.rooted)) (raised_known tree f q free x items c known))
