-- A split leaves a search covered and known: what was within reach still is, the new page by the old one's right link, and a
-- search on the page that was split is copied to the new one, where that may hold what it looks for.
use Rattle.std.proofs.Common.{◌≡◌, ◌⊎◌, inl, inr, ℕ, ℤ, ◌≤◌, ◌==◌, Bool, true, false, cond, Some, None, List, [], ◌∷◌, refl, ap, sym, ◌∙◌, arith, subst, eq-eqb, eqb-true}
use Rattle.isp_mbr.specs.Corners.{Corners}
use Rattle.isp_mbr.specs.Boxes.{covers}
use Rattle.isp_mbr.specs.Predicates.{may_hold}
use Rattle.isp_mbr.proofs.Pruning.{may_hold_grows}
use Rattle.isp_forest.specs.declared.entry.Entry.{Entry}
use Rattle.isp_forest.specs.declared.entry.To.TheVariants.{Row}
use Rattle.isp_base.specs.Lists.{Has}
use Rattle.isp_forest.specs.Tree.{Node, Tree, page_at, counter, child_in, child_of, least}
use Rattle.isp_forest.specs.Forest.{Forest, IsBelow}
use Rattle.isp_forest.specs.Walk.{IsWalk}
use Rattle.isp_forest.specs.Steps.{names, reboxed, split, put_after}
use Rattle.isp_forest.specs.Place.{Names, CanSplit}
use Rattle.isp_forest.specs.Search.{Search, Item, Reached, Sees, IsRemembered, IsOwn, Covered, Known}
use Rattle.isp_forest.specs.Attach.{copied, copied_at_split}
use Rattle.isp_laws.proofs.EntryLaws.{least_inside}
use Rattle.isp_laws.proofs.RaiseLaws.{apart, turned}
use Rattle.isp_laws.proofs.SplitLaws.{Splitting, gone, round, after_split, split_is, n_not_o, below_above, at_n, what, counter_grows, in_left, in_right, entry_of, Still, still_there}
use Rattle.isp_laws.proofs.SplitWalkLaws.{splitting, walk_after_split}
use Rattle.isp_searches.proofs.SeesLaws.{not_both, IsThere}
use Rattle.isp_searches.proofs.RaiseSearchLaws.{on_copied, still_on, on_new, free_not_on}

abbrev after : Splitting → Search → Search
after c x = copied c.o c.n (least c.right) x

pub still : (c : Splitting) (p : ℕ) → IsThere c.tree p → IsThere (after_split c) p
still c p t = let s : Still c p (t.0).level = still_there c p t.0 t.1 in (s.page, s.there)

-- ---- walks

-- the walk from a page, which is the old one with the new page after the page that was split
record Longer (c : Splitting) (s p : ℕ) (w : List ℕ) : Type 0 where
  rest : List ℕ
  walk : IsWalk (after_split c) s (p ∷ rest)
  more : (q : ℕ) → Has (p ∷ w) q → Has (p ∷ rest) q
  new : Has (p ∷ w) c.o → Has (p ∷ rest) c.n

put_keeps : (o n : ℕ) (w : List ℕ) (q : ℕ) → Has w q → Has (put_after o n w) q
put_keeps o n [] q h = absurd h
put_keeps o n (p ∷ w) q h =
    elim (p == o) as (λ b. Has (cond b (p ∷ n ∷ put_after o n w) (p ∷ put_after o n w)) q) [
      | true ↦ elim h [ inl e ↦ inl e | inr k ↦ inr (inr (put_keeps o n w q k)) ]
      | false ↦ elim h [ inl e ↦ inl e | inr k ↦ inr (put_keeps o n w q k) ]
    ]

put_has : (o n : ℕ) (w : List ℕ) → Has w o → Has (put_after o n w) n
put_has o n [] h = absurd h
put_has o n (p ∷ w) h =
    elim (p == o) as (λ b. (p == o) ≡ b → Has (cond b (p ∷ n ∷ put_after o n w) (p ∷ put_after o n w)) n) [
      | true ↦ λ t. inr (inl refl)
      | false ↦ λ t. elim h [ inl e ↦ absurd (not_both (p == o) (eq-eqb p o e) t) | inr k ↦ inr (put_has o n w k) ]
    ] refl

longer_at : (c : Splitting) (s p : ℕ) (w : List ℕ) (b : Bool) → IsWalk (after_split c) s (cond b (p ∷ c.n ∷ put_after c.o c.n w) (p ∷ put_after c.o c.n w))
    → ((q : ℕ) → Has (p ∷ w) q → Has (cond b (p ∷ c.n ∷ put_after c.o c.n w) (p ∷ put_after c.o c.n w)) q)
    → (Has (p ∷ w) c.o → Has (cond b (p ∷ c.n ∷ put_after c.o c.n w) (p ∷ put_after c.o c.n w)) c.n) → Longer c s p w
longer_at c s p w true walk more new = record { rest = c.n ∷ put_after c.o c.n w; walk = walk; more = more; new = new }
longer_at c s p w false walk more new = record { rest = put_after c.o c.n w; walk = walk; more = more; new = new }

longer : (c : Splitting) (s p : ℕ) (w : List ℕ) → s ≤ counter c.tree → IsThere c.tree p → IsWalk c.tree s (p ∷ w) → Longer c s p w
longer c s p w given there walk =
    let not_n : (c.n == p) ≡ false = turned p c.n (apart c.tree.pages p c.n there.0 there.1 c.can.free) in
    longer_at c s p w (p == c.o) (walk_after_split c s given p w not_n walk) (put_keeps c.o c.n (p ∷ w)) (put_has c.o c.n (p ∷ w))

record Longer_reach (c : Splitting) (stack : List (ℕ × ℕ)) (q : ℕ) : Type 0 where
  now : Reached (after_split c) stack q
  new : q ≡ c.o → Reached (after_split c) stack c.n

reach : (c : Splitting) (x : Search) → Covered c.tree x → (q : ℕ) → Reached c.tree x.stack q → Longer_reach c x.stack q
reach c x covered q r =
    let is : IsRemembered c.tree r.from r.ssn = covered.stack r.from r.ssn r.remembered in
    let l : Longer c r.ssn r.from r.rest = longer c r.ssn r.from r.rest is.given (is.page, is.there) r.walk in
    record {
      now = record { from = r.from; ssn = r.ssn; remembered = r.remembered; rest = l.rest; walk = l.walk; on_it = l.more q r.on_it };
      new = λ at. record {
        from = r.from;
        ssn = r.ssn;
        remembered = r.remembered;
        rest = l.rest;
        walk = l.walk;
        on_it = l.new (subst (λ (z : ℕ). Has (r.from ∷ r.rest) z) at r.on_it);
      };
    }

sees : (c : Splitting) (x : Search) → Covered c.tree x → (q : ℕ) → Sees c.tree x q → Sees (after_split c) (after c x) q
sees c x covered q (inl on) = inl (still_on c.o c.n (least c.right) x q on)
sees c x covered q (inr r) = let l : Longer_reach c x.stack q = reach c x covered q r in inr l.now

-- who sees the page that was split sees the new one, if that may hold what it looks for
sees_new : (c : Splitting) (x : Search) → Covered c.tree x → may_hold x.predicate (least c.right) ≡ true → Sees c.tree x c.o → Sees (after_split c) (after c x) c.n
sees_new c x covered may (inl on) = inl (on_new c.o c.n (least c.right) x on may)
sees_new c x covered may (inr r) = let l : Longer_reach c x.stack c.o = reach c x covered c.o r in inr (l.new refl)

-- ---- children

on_old : (c : Splitting) (x : Search) (p : ℕ) → (c.n == p) ≡ false → Has (after c x).on p → Has x.on p
on_old c x p not_n h = elim (on_copied c.o c.n (least c.right) x p h) [ inl was ↦ was | inr new ↦ absurd (not_both (c.n == p) (eq-eqb c.n p new.0) not_n) ]

-- a search on the new page was on the one that was split
on_split : (c : Splitting) (x : Search) → Covered c.tree x → (p : ℕ) → c.n ≡ p → Has (after c x).on p → Has x.on c.o
on_split c x covered p at h = elim (on_copied c.o c.n (least c.right) x p h) [
  | inl was ↦ absurd (free_not_on c.tree x covered c.n c.can.free (subst (λ (z : ℕ). Has x.on z) (sym at) was))
  | inr new ↦ new.1
]

may_at : (b : Bool) (x : Search) (u v w : Corners) → (may_hold x.predicate u ≡ true → may_hold x.predicate w ≡ true) → (may_hold x.predicate v ≡ true → may_hold x.predicate w ≡ true)
    → may_hold x.predicate (cond b u v) ≡ true → may_hold x.predicate w ≡ true
may_at true x u v w f g h = f h
may_at false x u v w f g h = g h

from_round : (c : Splitting) (x : Search) → Covered c.tree x → (p q : ℕ) (old : Node) (e : Entry) → page_at c.tree p ≡ Some old → Has x.on p → Has (round c p old).entries e → child_of e ≡ Some q
    → may_hold x.predicate e.b ≡ true → Sees (after_split c) (after c x) q
from_round c x covered p q old e there on has to may = elim (entry_of c p old e has) [
  | inl w ↦ (let to' : child_of w.old ≡ Some q = ap child_of w.is ∙ to in
      let n : Names c.tree p q w.old = record { page = old; there = there; has = w.has; to = to' } in
      let may' : may_hold x.predicate (cond (names (λ z. z == c.o) (child_of w.old)) (least c.left) (w.old).b) ≡ true = subst (λ (z : Entry). may_hold x.predicate z.b ≡ true) (sym w.is) may in
      let t : names (λ z. z == c.o) (child_of w.old) ≡ (q == c.o) = ap (names (λ z. z == c.o)) to' in
      let may'' : may_hold x.predicate (cond (q == c.o) (least c.left) (w.old).b) ≡ true = subst (λ (s : Bool). may_hold x.predicate (cond s (least c.left) (w.old).b) ≡ true) t may' in
      sees c x covered q (covered.children p q w.old on n (old_may w.old n may'')))
  | inr new ↦ (let named : Some c.n ≡ Some q = ap child_of new.is ∙ to in
      let at : c.n ≡ q = cc in
      let may' : may_hold x.predicate (least c.right) ≡ true = ap (λ (z : Entry). may_hold x.predicate z.b) new.is ∙ may in
      let on' : Has x.on c.above = subst (λ (z : ℕ). Has x.on z) new.at on in
      let around : covers (c.can.entry).b (least c.right) ≡ true = least_inside (c.can.entry).b c.right c.can.parts.right_some (λ z hz. (below_above c).inside z (in_right c z hz)) in
      let may_o : may_hold x.predicate (c.can.entry).b ≡ true = may_hold_grows x.predicate (least c.right) (c.can.entry).b may' around in
      subst (λ (z : ℕ). Sees (after_split c) (after c x) z) at (sees_new c x covered may' (covered.children c.above c.o c.can.entry on' c.can.named may_o)))
]
  where
    old_may : (z : Entry) → Names c.tree p q z → may_hold x.predicate (cond (q == c.o) (least c.left) z.b) ≡ true → may_hold x.predicate z.b ≡ true
    old_may z n may = elim (q == c.o) as (λ b. (q == c.o) ≡ b → may_hold x.predicate (cond b (least c.left) z.b) ≡ true → may_hold x.predicate z.b ≡ true) [
      | true ↦ λ t m. (let at : c.o ≡ q = sym (eqb-true q c.o t) in
          let there_q : page_at c.tree q ≡ Some c.can.page = subst (λ (y : ℕ). page_at c.tree y ≡ Some c.can.page) at c.can.there in
          let is : IsBelow z n.page c.can.page = c.forest.below p q n.page c.can.page z n.there n.has n.to there_q in
          may_hold_grows x.predicate (least c.left) z.b m (least_inside z.b c.left c.can.parts.left_some (λ y hy. is.inside y (in_left c y hy))))
      | false ↦ λ t m. m
    ] refl may

child : (c : Splitting) (x : Search) → Covered c.tree x → (p q : ℕ) (e : Entry) → Has (after c x).on p → Names (after_split c) p q e → may_hold x.predicate e.b ≡ true → Sees (after_split c) (after c x) q
child c x covered p q e on n may = elim (what c p n.page n.there) [
  | inl new ↦ (let has : Has c.right e = subst (λ (z : Node). Has z.entries e) (sym new.is) n.has in
      let named : Names c.tree c.o q e = record { page = c.can.page; there = c.can.there; has = in_right c e has; to = n.to } in
      sees c x covered q (covered.children c.o q e (on_split c x covered p new.at on) named may))
  | inr more ↦ elim more [
    | inl stay ↦ (let has : Has c.left e = subst (λ (z : Node). Has z.entries e) (sym stay.is) n.has in
        let named : Names c.tree c.o q e = record { page = c.can.page; there = c.can.there; has = in_left c e has; to = n.to } in
        sees c x covered q (covered.children c.o q e (at_split stay.at) named may))
    | inr old ↦ (let has : Has (round c p old.old).entries e = subst (λ (z : Node). Has z.entries e) (sym old.is) n.has in
        from_round c x covered p q old.old e old.there (on_old c x p old.not_n on) has n.to may)
  ]
]
  where
    at_split : c.o ≡ p → Has x.on c.o
    at_split at = on_old c x c.o (n_not_o c) (subst (λ (z : ℕ). Has (after c x).on z) (sym at) on)

split_covered_of : (c : Splitting) (x : Search) → Covered c.tree x → Covered (after_split c) (after c x)
split_covered_of c x covered = record {
  pages = λ p on. elim (on_copied c.o c.n (least c.right) x p on) [
    | inl was ↦ still c p (covered.pages p was)
    | inr new ↦ subst (IsThere (after_split c)) new.0 (gone c, at_n c)
  ];
  root = sees c x covered c.tree.root covered.root;
  children = child c x covered;
  stack = λ p s h. (let is : IsRemembered c.tree p s = covered.stack p s h in
      let t : IsThere (after_split c) p = still c p (is.page, is.there) in
      let l : Longer c s p is.rest = longer c s p is.rest is.given (is.page, is.there) is.walk in
      record { page = t.0; there = t.1; given = omega (arith, is.given, counter_grows c); rest = l.rest; walk = l.walk });
}

pub split_covered : (tree : Tree) (o above : ℕ) (left right : List Entry) (n : ℕ) (x : Search) → Forest tree → CanSplit tree o above left right n → Covered tree x
    → Covered (split tree o above left right n) (copied_at_split o right n x)
split_covered tree o above left right n x f can covered =
    let c : Splitting = splitting tree o above left right n f can in
    subst (λ (t : Tree). Covered t (copied_at_split o right n x)) (sym (split_is c)) (split_covered_of c x covered)

-- ---- known

same_own : (c : Splitting) (x : Search) (items : List Item) (k : ℤ) (n : ℕ) → Has x.found k ⊎ IsOwn x items k n → Has x.found k ⊎ IsOwn (after c x) items k n
same_own c x items k n (inl found) = inl found
same_own c x items k n (inr o) = inr (record { item = o.item; among = o.among; session = o.session; later = o.later; same_key = o.same_key; same_number = o.same_number })

-- a row's entry on any other page was there
row_was_there : (c : Splitting) (p : ℕ) (old : Node) (e : Entry) (k : ℤ) (n : ℕ) → Has (round c p old).entries e → e.to ≡ Row k n → Has old.entries e
row_was_there c p old e k n has to = elim (entry_of c p old e has) [
  | inl w ↦ (let to' : (w.old).to ≡ Row k n = ap (λ (z : Entry). z.to) w.is ∙ to in
      let none : names (λ z. z == c.o) (child_of w.old) ≡ false = ap (λ t. names (λ z. z == c.o) (child_in t)) to' in
      let same : reboxed c.o (least c.left) w.old ≡ w.old = as_it_was w.old (names (λ z. z == c.o) (child_of w.old)) none in
      subst (λ (z : Entry). Has old.entries z) (sym same ∙ w.is) w.has)
  | inr new ↦ (let child : child_of e ≡ Some c.n = sym (ap child_of new.is) in
      let none : child_of e ≡ None = ap child_in to in
      let no : ⊥ = cc in absurd no)
]
  where
    as_it_was : (z : Entry) (b : Bool) → b ≡ false → record { b = cond b (least c.left) z.b; to = z.to } ≡ z
    as_it_was z true h = cc
    as_it_was z false h = refl

split_known_of : (c : Splitting) (x : Search) (items : List Item) → Covered c.tree x → Known c.tree x items → Known (after_split c) (after c x) items
split_known_of c x items covered known = λ p leaf e k n on there level has to good. elim (what c p leaf there) [
  | inl new ↦ (let has' : Has c.right e = subst (λ (z : Node). Has z.entries e) (sym new.is) has in
      let level' : c.can.page.level ≡ 0 = ap (λ (z : Node). z.level) new.is ∙ level in
      same_own c x items k n (known c.o c.can.page e k n (on_split c x covered p new.at on) c.can.there level' (in_right c e has') to good))
  | inr more ↦ elim more [
    | inl stay ↦ (let has' : Has c.left e = subst (λ (z : Node). Has z.entries e) (sym stay.is) has in
        let level' : c.can.page.level ≡ 0 = ap (λ (z : Node). z.level) stay.is ∙ level in
        let on' : Has x.on c.o = on_old c x c.o (n_not_o c) (subst (λ (z : ℕ). Has (after c x).on z) (sym stay.at) on) in
        same_own c x items k n (known c.o c.can.page e k n on' c.can.there level' (in_left c e has') to good))
    | inr old ↦ (let has' : Has (round c p old.old).entries e = subst (λ (z : Node). Has z.entries e) (sym old.is) has in
        let level' : old.old.level ≡ 0 = ap (λ (z : Node). z.level) old.is ∙ level in
        same_own c x items k n (known p old.old e k n (on_old c x p old.not_n on) old.there level' (row_was_there c p old.old e k n has' to) to good))
  ]
]

pub split_known : (tree : Tree) (o above : ℕ) (left right : List Entry) (n : ℕ) (x : Search) (items : List Item) → Forest tree → CanSplit tree o above left right n → Covered tree x → Known tree x items
    → Known (split tree o above left right n) (copied_at_split o right n x) items
split_known tree o above left right n x items f can covered known =
    let c : Splitting = splitting tree o above left right n f can in
    subst (λ (t : Tree). Known t (copied_at_split o right n x) items) (sym (split_is c)) (split_known_of c x items covered known)
