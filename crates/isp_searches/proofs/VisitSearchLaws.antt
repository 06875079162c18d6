-- A search begins covered, and a visit leaves it covered: what the visited page led to is passed on to its right link, and what
-- stands on it is found, or remembered with the counter. It leaves it known, since a leaf gives all keys that satisfy at once.
use Rattle.std.proofs.Common.{◌≡◌, ◌⊎◌, inl, inr, ℕ, ℤ, ◌==◌, Bool, true, false, cond, Option, Some, None, List, [], ◌∷◌, ◌++◌, refl, ap, sym, ◌∙◌, arith, subst, eq-eqb}
use Rattle.std.specs.Prelude.{is_none, nat_lt}
use Rattle.isp_mbr.specs.Predicates.{satisfies, may_hold}
use Rattle.isp_mbr.specs.declared.predicate.Predicate.{Predicate}
use Rattle.isp_forest.specs.declared.entry.Entry.{Entry}
use Rattle.isp_forest.specs.declared.entry.To.{To}
use Rattle.isp_forest.specs.declared.entry.To.TheVariants.{Row}
use Rattle.isp_base.specs.Lists.{Has}
use Rattle.isp_forest.specs.Tree.{Node, Tree, page_at, counter, child_of}
use Rattle.isp_forest.specs.Forest.{Forest, IsPage, IsLinked}
use Rattle.isp_forest.specs.Walk.{onward, split_since, IsWalk}
use Rattle.isp_forest.specs.Steps.{is_among}
use Rattle.isp_forest.specs.Place.{Names}
use Rattle.isp_forest.specs.Search.{Search, Item, Reached, Sees, IsRemembered, IsOwn, Covered, Known}
use Rattle.isp_forest.specs.Visit.{remembered, to_visit, key_in, to_find, begun, looked_at, visited_at, visit}
use Rattle.isp_laws.proofs.ListLaws.{Has-append, Has-append_left, Has-append_right}
use Rattle.isp_laws.proofs.PageLaws.{There}
use Rattle.isp_laws.proofs.ForestLaws.{same_page, child_there}
use Rattle.isp_searches.proofs.SeesLaws.{among_has, IsThere, stays_here}

-- ---- the beginning

pub begun_covered : (tree : Tree) (session statement : ℕ) (predicate : Predicate) → Forest tree → Covered tree (begun tree session statement predicate)
begun_covered tree session statement predicate f = record {
  pages = λ p on. absurd on;
  root = inr (record { from = tree.root; ssn = counter tree; remembered = inl refl; rest = []; walk = stays_here tree f tree.root f.top f.rooted; on_it = inl refl });
  children = λ p q e on n may. absurd on;
  stack = λ p s h. elim h [
    | inl same ↦ (let at : tree.root ≡ p = ap (λ (z : ℕ × ℕ). z.0) same in
        let now : counter tree ≡ s = ap (λ (z : ℕ × ℕ). z.1) same in
        subst (λ (z : ℕ). IsRemembered tree z s) at (subst (λ (z : ℕ). IsRemembered tree tree.root z) now (record {
          page = f.top;
          there = f.rooted;
          given = omega arith;
          rest = [];
          walk = stays_here tree f tree.root f.top f.rooted;
        })))
    | inr none ↦ absurd none
  ];
}

pub begun_known : (tree : Tree) (items : List Item) (session statement : ℕ) (predicate : Predicate) → Known tree (begun tree session statement predicate) items
begun_known tree items session statement predicate = λ p leaf e k n on there level has to good. absurd on

-- ---- what a visit remembers

-- the children that may hold the predicate
record Kid (predicate : Predicate) (now q s : ℕ) (es : List Entry) : Type 0 where
  same : s ≡ now
  e : Entry
  has : Has es e
  to : child_of e ≡ Some q

kid_at : (predicate : Predicate) (now q s : ℕ) (z : Entry) (es : List Entry) (b : Bool) (o : Option ℕ) → child_of z ≡ o → Has (cond b (remembered now o) []) (q, s) → Kid predicate now q s (z ∷ es)
kid_at predicate now q s z es true None to h = absurd h
kid_at predicate now q s z es true (Some r) to (inl same) =
    let at : r ≡ q = ap (λ (x : ℕ × ℕ). x.0) same in
    let is_now : now ≡ s = ap (λ (x : ℕ × ℕ). x.1) same in
    record { same = sym is_now; e = z; has = inl refl; to = to ∙ ap Some at }
kid_at predicate now q s z es true (Some r) to (inr none) = absurd none
kid_at predicate now q s z es false o to h = absurd h

kid : (predicate : Predicate) (now q s : ℕ) (es : List Entry) → Has (to_visit predicate now es) (q, s) → Kid predicate now q s es
kid predicate now q s [] h = absurd h
kid predicate now q s (z ∷ es) h = elim (Has-append (cond (may_hold predicate z.b) (remembered now (child_of z)) []) (to_visit predicate now es) (q, s) h) [
  | inl k ↦ kid_at predicate now q s z es (may_hold predicate z.b) (child_of z) refl k
  | inr k ↦ (let i : Kid predicate now q s es = kid predicate now q s es k in record { same = i.same; e = i.e; has = inr i.has; to = i.to })
]

kid_of : (predicate : Predicate) (now q : ℕ) (es : List Entry) (e : Entry) → Has es e → child_of e ≡ Some q → may_hold predicate e.b ≡ true → Has (to_visit predicate now es) (q, now)
kid_of predicate now q [] e h to may = absurd h
kid_of predicate now q (z ∷ es) e (inl same) to may =
    let may' : may_hold predicate z.b ≡ true = ap (λ (x : Entry). may_hold predicate x.b) same ∙ may in
    let to' : child_of z ≡ Some q = ap child_of same ∙ to in
    Has-append_left (cond (may_hold predicate z.b) (remembered now (child_of z)) []) (to_visit predicate now es) (q, now)
    (subst (λ (b : Bool). Has (cond b (remembered now (child_of z)) []) (q, now)) (sym may') (subst (λ (o : Option ℕ). Has (remembered now o) (q, now)) (sym to') (inl refl)))
kid_of predicate now q (z ∷ es) e (inr h) to may =
    Has-append_right (cond (may_hold predicate z.b) (remembered now (child_of z)) []) (to_visit predicate now es) (q, now) (kid_of predicate now q es e h to may)

-- the keys that satisfy it
found_of : (predicate : Predicate) (es : List Entry) (e : Entry) (key : ℤ) (number : ℕ) → Has es e → e.to ≡ Row key number → satisfies predicate e.b ≡ true → Has (to_find predicate es) key
found_of predicate [] e key number h to good = absurd h
found_of predicate (z ∷ es) e key number (inl same) to good =
    let good' : satisfies predicate z.b ≡ true = ap (λ (x : Entry). satisfies predicate x.b) same ∙ good in
    let to' : z.to ≡ Row key number = ap (λ (x : Entry). x.to) same ∙ to in
    Has-append_left (cond (satisfies predicate z.b) (key_in z.to) []) (to_find predicate es) key
    (subst (λ (b : Bool). Has (cond b (key_in z.to) []) key) (sym good') (subst (λ (t : To). Has (key_in t) key) (sym to') (inl refl)))
found_of predicate (z ∷ es) e key number (inr h) to good =
    Has-append_right (cond (satisfies predicate z.b) (key_in z.to) []) (to_find predicate es) key (found_of predicate es e key number h to good)

-- the right link of a page that was split since
linked_there : (tree : Tree) → Forest tree → (s p : ℕ) (page : Node) (r : ℕ) → page_at tree p ≡ Some page → split_since s (Some page) ≡ Some r → IsThere tree r
linked_there tree f s p page r there to =
    let next : page.next ≡ Some r = next_of (nat_lt s page.ssn) page.next r to in
    let is : IsLinked tree page r = f.linked p r page there next in
    (is.right, is.there)
  where
    next_of : (b : Bool) (o : Option ℕ) (r : ℕ) → cond b o None ≡ Some r → o ≡ Some r
    next_of true o r h = h
    next_of false o r h = cc

-- ---- a visit

-- the page that is visited, and the search once that is taken off its stack
record Visiting : Type 0 where
  tree : Tree
  f : Forest tree
  x : Search
  rest : List (ℕ × ℕ)
  p : ℕ
  s : ℕ
  stack : x.stack ≡ rest ++ (p, s) ∷ []
  covered : Covered tree x
  page : Node
  there : page_at tree p ≡ Some page

abbrev link_of : Visiting → List (ℕ × ℕ)
link_of v = remembered v.s (split_since v.s (Some v.page))

abbrev behind : Visiting → Search
behind v = record v.x { stack = v.rest ++ link_of v }

abbrev looked : Visiting → Search
looked v = looked_at (counter v.tree) v.page v.p (behind v)

on_top : (v : Visiting) → Has v.x.stack (v.p, v.s)
on_top v = subst (λ (st : List (ℕ × ℕ)). Has st (v.p, v.s)) (sym v.stack) (Has-append_right v.rest ((v.p, v.s) ∷ []) (v.p, v.s) (inl refl))

in_rest : (v : Visiting) (q t : ℕ) → Has v.rest (q, t) → Has v.x.stack (q, t)
in_rest v q t h = subst (λ (st : List (ℕ × ℕ)). Has st (q, t)) (sym v.stack) (Has-append_left v.rest ((v.p, v.s) ∷ []) (q, t) h)

-- what was within reach still is, or it is the page itself
passed_on : (v : Visiting) (w : List ℕ) (q : ℕ) → IsWalk v.tree v.s (v.p ∷ w) → Has (v.p ∷ w) q → (v.p ≡ q) ⊎ Reached v.tree (v.rest ++ link_of v) q
passed_on v w q walk (inl here) = inl here
passed_on v [] q walk (inr h) = absurd h
passed_on v (r ∷ w) q walk (inr h) =
    let to : split_since v.s (Some v.page) ≡ Some r = ap (split_since v.s) (sym v.there) ∙ walk.0 in
    let link : Has (link_of v) (r, v.s) = subst (λ (o : Option ℕ). Has (remembered v.s o) (r, v.s)) (sym to) (inl refl) in
    inr (record { from = r; ssn = v.s; remembered = Has-append_right v.rest (link_of v) (r, v.s) link; rest = w; walk = walk.1; on_it = h })

reached : (v : Visiting) (q : ℕ) → Reached v.tree v.x.stack q → (v.p ≡ q) ⊎ Reached v.tree (v.rest ++ link_of v) q
reached v q r = elim (Has-append v.rest ((v.p, v.s) ∷ []) (r.from, r.ssn) (subst (λ (st : List (ℕ × ℕ)). Has st (r.from, r.ssn)) v.stack r.remembered)) [
  | inl h ↦ inr (record { from = r.from; ssn = r.ssn; remembered = Has-append_left v.rest (link_of v) (r.from, r.ssn) h; rest = r.rest; walk = r.walk; on_it = r.on_it })
  | inr h ↦ elim h [
    | inl same ↦ (let at : v.p ≡ r.from = ap (λ (z : ℕ × ℕ). z.0) same in
        let now : v.s ≡ r.ssn = ap (λ (z : ℕ × ℕ). z.1) same in
        let walk : IsWalk v.tree v.s (v.p ∷ r.rest) = subst (λ (z : ℕ). IsWalk v.tree v.s (z ∷ r.rest)) (sym at) (subst (λ (z : ℕ). IsWalk v.tree z (r.from ∷ r.rest)) (sym now) r.walk) in
        passed_on v r.rest q walk (subst (λ (z : ℕ). Has (z ∷ r.rest) q) (sym at) r.on_it))
    | inr none ↦ absurd none
  ]
]

-- the walk from the next page on
record Walked (tree : Tree) (s r : ℕ) : Type 0 where
  rest : List ℕ
  walk : IsWalk tree s (r ∷ rest)

walked : (tree : Tree) (s p r : ℕ) (w : List ℕ) → onward tree s p ≡ Some r → IsWalk tree s (p ∷ w) → Walked tree s r
walked tree s p r [] to walk = cc
walked tree s p r (q ∷ w) to walk =
    let same : Some q ≡ Some r = sym walk.0 ∙ to in
    let at : q ≡ r = cc in
    record { rest = w; walk = subst (λ (z : ℕ). IsWalk tree s (z ∷ w)) at walk.1 }

-- what is remembered after it, but for the children
link_remembered : (v : Visiting) (q t : ℕ) (o : Option ℕ) → split_since v.s (Some v.page) ≡ o → Has (remembered v.s o) (q, t) → IsRemembered v.tree q t
link_remembered v q t None e h = absurd h
link_remembered v q t (Some r) e (inl same) =
    let at : r ≡ q = ap (λ (z : ℕ × ℕ). z.0) same in
    let now : v.s ≡ t = ap (λ (z : ℕ × ℕ). z.1) same in
    let there : IsThere v.tree r = linked_there v.tree v.f v.s v.p v.page r v.there e in
    let is : IsRemembered v.tree v.p v.s = v.covered.stack v.p v.s (on_top v) in
    let w : Walked v.tree v.s r = walked v.tree v.s v.p r is.rest (ap (split_since v.s) v.there ∙ e) is.walk in
    subst (λ (z : ℕ). IsRemembered v.tree z t) at (subst (λ (z : ℕ). IsRemembered v.tree r z) now (record { page = there.0; there = there.1; given = is.given; rest = w.rest; walk = w.walk }))
link_remembered v q t (Some r) e (inr none) = absurd none

behind_remembered : (v : Visiting) (q t : ℕ) → Has (v.rest ++ link_of v) (q, t) → IsRemembered v.tree q t
behind_remembered v q t h = elim (Has-append v.rest (link_of v) (q, t) h) [
  | inl k ↦ v.covered.stack q t (in_rest v q t k)
  | inr k ↦ link_remembered v q t (split_since v.s (Some v.page)) refl k
]

-- ---- a page that the search is on already

seen_again : (v : Visiting) → Has v.x.on v.p → Covered v.tree (behind v)
seen_again v on = record {
  pages = v.covered.pages;
  root = sees v.tree.root v.covered.root;
  children = λ q r e on_q n may. sees r (v.covered.children q r e on_q n may);
  stack = behind_remembered v;
}
  where
    sees : (q : ℕ) → Sees v.tree v.x q → Sees v.tree (behind v) q
    sees q (inl on_q) = inl on_q
    sees q (inr r) = elim (reached v q r) [ inl here ↦ inl (subst (λ (z : ℕ). Has v.x.on z) here on) | inr more ↦ inr more ]

-- ---- a page that is new to it

abbrev kids : Visiting → List (ℕ × ℕ)
kids v = cond (v.page.level == 0) [] (to_visit v.x.predicate (counter v.tree) v.page.entries)

kid_remembered_at : (v : Visiting) (q t : ℕ) (b : Bool) → Has (cond b [] (to_visit v.x.predicate (counter v.tree) v.page.entries)) (q, t) → IsRemembered v.tree q t
kid_remembered_at v q t true h = absurd h
kid_remembered_at v q t false h =
    let k : Kid v.x.predicate (counter v.tree) q t v.page.entries = kid v.x.predicate (counter v.tree) q t v.page.entries h in
    let c : There v.tree.pages q = child_there v.tree v.f v.p q k.e (record { page = v.page; there = v.there; has = k.has; to = k.to }) in
    record {
      page = c.page;
      there = c.there;
      given = omega (arith, k.same);
      rest = [];
      walk = subst (λ (z : ℕ). onward v.tree z q ≡ None) (sym k.same) (stays_here v.tree v.f q c.page c.there);
    }

seen_first : (v : Visiting) → Covered v.tree (looked v)
seen_first v = record {
  pages = λ q on. elim (Has-append v.x.on (v.p ∷ []) q on) [
    | inl was ↦ v.covered.pages q was
    | inr new ↦ elim new [ inl here ↦ subst (IsThere v.tree) here (v.page, v.there) | inr none ↦ absurd none ]
  ];
  root = sees v.tree.root v.covered.root;
  children = λ q r e on n may. elim (Has-append v.x.on (v.p ∷ []) q on) [
    | inl was ↦ sees r (v.covered.children q r e was n may)
    | inr new ↦ elim new [ inl here ↦ child_of_new r e (subst (λ (z : ℕ). Names v.tree z r e) (sym here) n) may | inr none ↦ absurd none ]
  ];
  stack = λ q t h. elim (Has-append (v.rest ++ link_of v) (kids v) (q, t) h) [
    | inl k ↦ behind_remembered v q t k
    | inr k ↦ kid_remembered_at v q t (v.page.level == 0) k
  ];
}
  where
    more : (q : ℕ) → Reached v.tree (v.rest ++ link_of v) q → Reached v.tree ((v.rest ++ link_of v) ++ kids v) q
    more q r = record { from = r.from; ssn = r.ssn; remembered = Has-append_left (v.rest ++ link_of v) (kids v) (r.from, r.ssn) r.remembered; rest = r.rest; walk = r.walk; on_it = r.on_it }

    sees : (q : ℕ) → Sees v.tree v.x q → Sees v.tree (looked v) q
    sees q (inl on) = inl (Has-append_left v.x.on (v.p ∷ []) q on)
    sees q (inr r) = elim (reached v q r) [
      | inl here ↦ inl (Has-append_right v.x.on (v.p ∷ []) q (inl here))
      | inr k ↦ inr (more q k)
    ]

    child_of_new : (r : ℕ) (e : Entry) → Names v.tree v.p r e → may_hold v.x.predicate e.b ≡ true → Sees v.tree (looked v) r
    child_of_new r e n may =
        let same : n.page ≡ v.page = same_page (page_at v.tree v.p) n.page v.page n.there v.there in
        let has : Has v.page.entries e = subst (λ (z : Node). Has z.entries e) same n.has in
        let is : IsPage v.tree v.p v.page = v.f.each v.p v.page v.there in
        let inner : (v.page.level == 0) ≡ false = sym (is.kinds e has) ∙ ap is_none n.to in
        let c : There v.tree.pages r = child_there v.tree v.f v.p r e n in
        let k : Has (to_visit v.x.predicate (counter v.tree) v.page.entries) (r, counter v.tree) = kid_of v.x.predicate (counter v.tree) r v.page.entries e has n.to may in
        let k' : Has (kids v) (r, counter v.tree) = subst (λ (b : Bool). Has (cond b [] (to_visit v.x.predicate (counter v.tree) v.page.entries)) (r, counter v.tree)) (sym inner) k in
        inr (record {
          from = r;
          ssn = counter v.tree;
          remembered = Has-append_right (v.rest ++ link_of v) (kids v) (r, counter v.tree) k';
          rest = [];
          walk = stays_here v.tree v.f r c.page c.there;
          on_it = inl refl;
        })

visiting_covered : (v : Visiting) → Covered v.tree (visited_at v.tree v.p v.s (Some v.page) (record v.x { stack = v.rest }))
visiting_covered v =
    elim (is_among v.x.on v.p) as (λ b. is_among v.x.on v.p ≡ b → Covered v.tree (cond b (behind v) (looked v))) [
      | true ↦ λ t. seen_again v (among_has v.x.on v.p t)
      | false ↦ λ t. seen_first v
    ] refl

pub visit_covered : (tree : Tree) (x : Search) (rest : List (ℕ × ℕ)) (p s : ℕ) → Forest tree → x.stack ≡ rest ++ (p, s) ∷ [] → Covered tree x → Covered tree (visit tree rest p s x)
visit_covered tree x rest p s f stack covered =
    let top : Has x.stack (p, s) = subst (λ (st : List (ℕ × ℕ)). Has st (p, s)) (sym stack) (Has-append_right rest ((p, s) ∷ []) (p, s) (inl refl)) in
    let is : IsRemembered tree p s = covered.stack p s top in
    let v : Visiting = record { tree = tree; f = f; x = x; rest = rest; p = p; s = s; stack = stack; covered = covered; page = is.page; there = is.there } in
    subst (λ (o : Option Node). Covered tree (visited_at tree p s o (record x { stack = rest }))) (sym is.there) (visiting_covered v)

-- ---- known

known_at : (tree : Tree) (x : Search) (items : List Item) (rest : List (ℕ × ℕ)) (p s : ℕ) → Known tree x items → (o : Option Node) → page_at tree p ≡ o
    → Known tree (visited_at tree p s o (record x { stack = rest })) items
known_at tree x items rest p s known None there = λ q leaf e k n on at level has to good. again x items k n (known q leaf e k n on at level has to good)
  where
    again : (x : Search) (items : List Item) (k : ℤ) (n : ℕ) → Has x.found k ⊎ IsOwn x items k n → Has x.found k ⊎ IsOwn (record x { stack = rest }) items k n
    again x items k n (inl found) = inl found
    again x items k n (inr o) = inr (record { item = o.item; among = o.among; session = o.session; later = o.later; same_key = o.same_key; same_number = o.same_number })
known_at tree x items rest p s known (Some page) there =
    elim (is_among x.on p) as (λ b. Known tree (cond b was (looked_at (counter tree) page p was)) items) [
      | true ↦ λ q leaf e k n on at level has to good. elim (known q leaf e k n on at level has to good) [
        | inl found ↦ inl found
        | inr o ↦ inr (record { item = o.item; among = o.among; session = o.session; later = o.later; same_key = o.same_key; same_number = o.same_number })
      ]
      | false ↦ λ q leaf e k n on at level has to good. elim (Has-append x.on (p ∷ []) q on) [
        | inl before ↦ elim (known q leaf e k n before at level has to good) [
          | inl found ↦ inl (Has-append_left x.found (cond (page.level == 0) (to_find x.predicate page.entries) []) k found)
          | inr o ↦ inr (record { item = o.item; among = o.among; session = o.session; later = o.later; same_key = o.same_key; same_number = o.same_number })
        ]
        | inr new ↦ elim new [
          | inl here ↦ (let at' : page_at tree p ≡ Some leaf = subst (λ (z : ℕ). page_at tree z ≡ Some leaf) (sym here) at in
              let same : leaf ≡ page = same_page (page_at tree p) leaf page at' there in
              let has' : Has page.entries e = subst (λ (z : Node). Has z.entries e) same has in
              let level' : (page.level == 0) ≡ true = ap (λ (z : Node). z.level == 0) (sym same) ∙ eq-eqb leaf.level 0 level in
              let found : Has (to_find x.predicate page.entries) k = found_of x.predicate page.entries e k n has' to good in
              inl (Has-append_right x.found (cond (page.level == 0) (to_find x.predicate page.entries) []) k
              (subst (λ (b : Bool). Has (cond b (to_find x.predicate page.entries) []) k) (sym level') found)))
          | inr none ↦ absurd none
        ]
      ]
    ]
  where
    was : Search
    was = record x { stack = rest ++ remembered s (split_since s (Some page)) }

pub visit_known : (tree : Tree) (x : Search) (items : List Item) (rest : List (ℕ × ℕ)) (p s : ℕ) → Known tree x items → Known tree (visit tree rest p s x) items
visit_known tree x items rest p s known = known_at tree x items rest p s known (page_at tree p) refl
