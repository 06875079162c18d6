-- An entry that is added leaves a search covered, since the search percolates to each page whose box grows into what it looks
-- for; and known, where the search is the session's own or does not look for the entry.
use Rattle.std.proofs.Common.{◌≡◌, ◌⊎◌, inl, inr, ℕ, ℤ, ◌==◌, ◌≤◌, Bool, true, false, cond, Some, List, [], ◌∷◌, ◌++◌, refl, ap, sym, ◌∙◌, arith, subst, eqb-true, eq-eqb, ◌||◌}
use Rattle.std.specs.List.{list_any}
use Rattle.isp_mbr.specs.Corners.{Corners}
use Rattle.isp_mbr.specs.Boxes.{union}
use Rattle.isp_mbr.specs.Predicates.{satisfies, may_hold}
use Rattle.isp_mbr.specs.declared.predicate.Predicate.{Predicate}
use Rattle.isp_mbr.proofs.BoxLaws.{covers_refl}
use Rattle.isp_mbr.proofs.Pruning.{may_hold_of_satisfying, may_hold_grows}
use Rattle.isp_forest.specs.declared.entry.Entry.{Entry}
use Rattle.isp_forest.specs.declared.entry.To.TheVariants.{Row}
use Rattle.isp_base.specs.Lists.{Has}
use Rattle.isp_forest.specs.Tree.{Node, Tree, page_at, counter, child_in, child_of}
use Rattle.isp_forest.specs.Forest.{Forest, IsBelow, IsPage}
use Rattle.isp_forest.specs.Walk.{onward}
use Rattle.isp_forest.specs.Steps.{is_among, is_last, names, added_to, add}
use Rattle.isp_forest.specs.Place.{Names, Stands}
use Rattle.isp_forest.specs.Search.{Search, Item, Sees, IsOwn, Covered, Known}
use Rattle.isp_forest.specs.Attach.{percolates, let_in, is_tested}
use Rattle.isp_laws.proofs.ListLaws.{Has-append, Has-append_left, Has-append_right}
use Rattle.isp_laws.proofs.PageLaws.{There, Before, before, after_each}
use Rattle.isp_laws.proofs.ForestLaws.{child_there, named_not_root}
use Rattle.isp_laws.proofs.RoundLaws.{rounded, counter-rounded, onward-rounded}
use Rattle.isp_laws.proofs.AddLaws.{add-still, WasThere, entry_of, naming_entry}
use Rattle.isp_searches.specs.SearchLaws.{MayPlace, item}
use Rattle.isp_searches.proofs.SeesLaws.{among_has, has_among, not_both, IsThere, sees_same, remembered_same}
use Rattle.isp_searches.proofs.PercolationLaws.{Entered, came_in, goes_on}

-- a page that the search percolates to had a box that could not hold the predicate
entered : (tree : Tree) → Forest tree → (path : List ℕ) → Stands tree path → (box : Corners) (x : Search) (q : ℕ) → Has (percolates tree x box path) q → Entered tree x q
entered tree f [] stands box x q h = absurd h
entered tree f (first ∷ rest) stands box x q h = came_in tree f x box (is_among x.on first) (first ∷ rest) stands.steps q h

-- so no box on it could hold the predicate
shut_inside : (tree : Tree) → Forest tree → (x : Search) (q : ℕ) (page : Node) (g : Entry) → Entered tree x q → page_at tree q ≡ Some page → Has page.entries g → may_hold x.predicate g.b ≡ true → ⊥
shut_inside tree f x q page g i there has may =
    let is : IsBelow i.e i.names.page page = f.below i.p q i.names.page page i.e i.names.there i.names.has i.names.to there in
    not_both (may_hold x.predicate (i.e).b) (may_hold_grows x.predicate g.b (i.e).b may (is.inside g has)) i.shut

grown : (t : Bool) (predicate : Predicate) (u o : Corners) → may_hold predicate o ≡ false → may_hold predicate (cond t u o) ≡ true → (t ≡ true) × (may_hold predicate u ≡ true)
grown true predicate u o shut may = (refl, may)
grown false predicate u o shut may = absurd (not_both (may_hold predicate o) may shut)

rest_of_path : (tree : Tree) → Forest tree → (first : ℕ) (rest : List ℕ) → Stands tree (first ∷ rest) → (p q : ℕ) (e : Entry) → Names tree p q e → is_among (first ∷ rest) q ≡ true → Has rest q
rest_of_path tree f first rest stands p q e n t = elim (among_has (first ∷ rest) q t) [
  | inl here ↦ (let root : q ≡ tree.root = sym here ∙ stands.starts in absurd (not_both (q == tree.root) (eq-eqb q tree.root root) (named_not_root tree f p q e n)))
  | inr h ↦ h
]

-- an entry that may hold the predicate after the step leads to a page that the search sees, or percolated to
child_seen : (tree : Tree) → Forest tree → (path : List ℕ) → Stands tree path → (box : Corners) (x : Search) → Covered tree x → (p q : ℕ) (old : Entry)
    → Has (x.on ++ percolates tree x box path) p → Names tree p q old → may_hold x.predicate (cond (is_among path q) (union old.b box) old.b) ≡ true
    → Has (percolates tree x box path) q ⊎ Sees tree x q
child_seen tree f [] stands box x c p q old h n may = absurd stands.starts
child_seen tree f (first ∷ rest) stands box x c p q old h n may =
    elim (may_hold x.predicate old.b) as (λ t. may_hold x.predicate old.b ≡ t → Has (percolates tree x box (first ∷ rest)) q ⊎ Sees tree x q) [
      | true ↦ λ t. elim (Has-append x.on (percolates tree x box (first ∷ rest)) p h) [
        | inl on ↦ inr (c.children p q old on n t)
        | inr k ↦ absurd (shut_inside tree f x p n.page old (entered tree f (first ∷ rest) stands box x p k) n.there n.has t)
      ]
      | false ↦ λ t. (let g : (is_among (first ∷ rest) q ≡ true) × (may_hold x.predicate (union old.b box) ≡ true) = grown (is_among (first ∷ rest) q) x.predicate (union old.b box) old.b t may in
          inl (goes_on tree f x box (is_among x.on first) first rest stands.steps (has_among x.on first) p q old n (rest_of_path tree f first rest stands p q old n g.0) t g.1
          (inr (Has-append x.on (percolates tree x box (first ∷ rest)) p h))))
    ] refl

pub add_covered : (tree : Tree) (path : List ℕ) (box : Corners) (key : ℤ) (number : ℕ) (x : Search) → Forest tree → Stands tree path → Covered tree x
    → Covered (add tree path box key number) (let_in tree path box x)
add_covered tree path box key number x f stands c = record {
  pages = λ p h. elim (Has-append x.on (percolates tree x box path) p h) [
    | inl on ↦ still p (c.pages p on)
    | inr k ↦ (let i : Entered tree x p = entered tree f path stands box x p k in
        let t : There tree.pages p = child_there tree f i.p p i.e i.names in still p (t.page, t.there))
  ];
  root = sees tree.root c.root;
  children = λ p q e h n may. (let was : Before (added_to path box key number) tree.pages p n.page = before (added_to path box key number) tree.pages p n.page n.there in
      let has : Has (added_to path box key number p was.old).entries e = subst (λ (z : Node). Has z.entries e) (sym was.is) n.has in
      let w : WasThere path box was.old e = naming_entry path box key number p q was.old e has n.to in
      let to : child_of w.old ≡ Some q = ap child_of w.is ∙ n.to in
      let t : names (is_among path) (child_of w.old) ≡ is_among path q = ap (names (is_among path)) to in
      let may' : may_hold x.predicate (cond (names (is_among path) (child_of w.old)) (union (w.old).b box) (w.old).b) ≡ true = subst (λ (z : Entry). may_hold x.predicate z.b ≡ true) (sym w.is) may in
      let may'' : may_hold x.predicate (cond (is_among path q) (union (w.old).b box) (w.old).b) ≡ true = subst (λ (s : Bool). may_hold x.predicate (cond s (union (w.old).b box) (w.old).b) ≡ true) t may' in
      elim (child_seen tree f path stands box x c p q w.old h (record { page = was.old; there = was.there; has = w.has; to = to }) may'') [
        | inl k ↦ inl (Has-append_right x.on (percolates tree x box path) q k)
        | inr k ↦ sees q k
      ]);
  stack = λ p s h. remembered_same tree (rounded tree (added_to path box key number)) same grows p s (still p) (c.stack p s h);
}
  where
    same : (s p : ℕ) → onward tree s p ≡ onward (rounded tree (added_to path box key number)) s p
    same = onward-rounded tree (added_to path box key number) (add-still path box key number)

    grows : counter tree ≤ counter (rounded tree (added_to path box key number))
    grows = omega (arith, counter-rounded tree (added_to path box key number) (add-still path box key number))

    still : (p : ℕ) → IsThere tree p → IsThere (add tree path box key number) p
    still p t = (added_to path box key number p t.0, after_each (added_to path box key number) tree.pages p t.0 t.1)

    sees : (q : ℕ) → Sees tree x q → Sees (add tree path box key number) (let_in tree path box x) q
    sees = sees_same tree (rounded tree (added_to path box key number)) same x (let_in tree path box x) (λ q on. Has-append_left x.on (percolates tree x box path) q on) refl

-- ---- known

test_any : (t : ℕ → Bool) (ps : List ℕ) (p : ℕ) → Has ps p → t p ≡ true → list_any t ps ≡ true
test_any t [] p h k = absurd h
test_any t (z ∷ ps) p (inl e) k = let u : t z ≡ true = ap t e ∙ k in rw u refl
test_any t (z ∷ ps) p (inr h) k = let i : list_any t ps ≡ true = test_any t ps p h k in rw i (or_true (t z))
  where
    or_true : (b : Bool) → (b || true) ≡ true
    or_true true = refl
    or_true false = refl

pub own_more : (x : Search) (items more : List Item) (key : ℤ) (number : ℕ) → IsOwn x items key number → IsOwn x (items ++ more) key number
own_more x items more key number o = record {
  item = o.item;
  among = Has-append_left items more o.item o.among;
  session = o.session;
  later = o.later;
  same_key = o.same_key;
  same_number = o.same_number;
}

same_row : (key key' : ℤ) (number number' : ℕ) → Row key number ≡ Row key' number' → (key ≡ key') × (number ≡ number')
same_row key key' number number' h = (cc, cc)

pub add_known : (tree : Tree) (path : List ℕ) (box : Corners) (key : ℤ) (number : ℕ) (x : Search) (items : List Item) (session statement : ℕ)
    → Forest tree → Stands tree path → MayPlace tree path box session statement x → Known tree x items
    → Known (add tree path box key number) (let_in tree path box x) (items ++ item session statement key number ∷ [])
add_known tree path box key number x items session statement f stands may known = λ p leaf e k n on there level has to good. (
    let was : Before (added_to path box key number) tree.pages p leaf = before (added_to path box key number) tree.pages p leaf there in
    let has' : Has (added_to path box key number p was.old).entries e = subst (λ (z : Node). Has z.entries e) (sym was.is) has in
    let level' : was.old.level ≡ 0 = ap (λ (z : Node). z.level) was.is ∙ level in
    elim (entry_of path box key number p was.old e has') [
      | inl w ↦ (let to' : (w.old).to ≡ Row k n = ap (λ (z : Entry). z.to) w.is ∙ to in
          let none : names (is_among path) (child_of w.old) ≡ false = ap (λ t. names (is_among path) (child_in t)) to' in
          let good' : satisfies x.predicate (cond (names (is_among path) (child_of w.old)) (union (w.old).b box) (w.old).b) ≡ true = subst (λ (z : Entry). satisfies x.predicate z.b ≡ true) (sym w.is) good in
          let good'' : satisfies x.predicate (w.old).b ≡ true = subst (λ (s : Bool). satisfies x.predicate (cond s (union (w.old).b box) (w.old).b) ≡ true) none good' in
          was_known p was.old w.old k n on was.there level' w.has to' good'')
      | inr new ↦ (let row : Row key number ≡ Row k n = ap (λ (z : Entry). z.to) new.is ∙ to in
          let good' : satisfies x.predicate box ≡ true = subst (λ (z : Entry). satisfies x.predicate z.b ≡ true) (sym new.is) good in
          inr (new_own p k n (same_row key k number n row) on new.last good'))
    ])
  where
    was_known : (p : ℕ) (leaf : Node) (e : Entry) (k : ℤ) (n : ℕ) → Has (x.on ++ percolates tree x box path) p → page_at tree p ≡ Some leaf → leaf.level ≡ 0
        → Has leaf.entries e → e.to ≡ Row k n → satisfies x.predicate e.b ≡ true → Has x.found k ⊎ IsOwn (let_in tree path box x) (items ++ item session statement key number ∷ []) k n
    was_known p leaf e k n on there level has to good = elim (Has-append x.on (percolates tree x box path) p on) [
      | inl was ↦ elim (known p leaf e k n was there level has to good) [
        | inl found ↦ inl found
        | inr own ↦ (let o : IsOwn x (items ++ item session statement key number ∷ []) k n = own_more x items (item session statement key number ∷ []) k n own in
            inr (record { item = o.item; among = o.among; session = o.session; later = o.later; same_key = o.same_key; same_number = o.same_number }))
      ]
      | inr came ↦ (let i : Entered tree x p = entered tree f path stands box x p came in
          let is : IsPage tree p leaf = f.each p leaf there in
          let may' : may_hold x.predicate e.b ≡ true = may_hold_of_satisfying x.predicate e.b e.b (is.boxes e has) good (covers_refl e.b) in
          absurd (shut_inside tree f x p leaf e i there has may'))
    ]

    new_own : (p : ℕ) (k : ℤ) (n : ℕ) → (key ≡ k) × (number ≡ n) → Has (x.on ++ percolates tree x box path) p → is_last path p ≡ true → satisfies x.predicate box ≡ true
        → IsOwn (let_in tree path box x) (items ++ item session statement key number ∷ []) k n
    new_own p k n same on last good =
        elim (x.session == session) as (λ t. (x.session == session) ≡ t → IsOwn (let_in tree path box x) (items ++ item session statement key number ∷ []) k n) [
          | true ↦ λ t. (let own : x.session ≡ session = eqb-true x.session session t in
              record {
                item = item session statement key number;
                among = Has-append_right items (item session statement key number ∷ []) (item session statement key number) (inl refl);
                session = sym own;
                later = may.own own;
                same_key = same.0;
                same_number = same.1;
              })
          | false ↦ λ t. (let tested : is_tested tree path box x ≡ true = test_any (is_last path) (x.on ++ percolates tree x box path) p on last in
              absurd (not_both (satisfies x.predicate box) good (may.others t tested)))
        ] refl
