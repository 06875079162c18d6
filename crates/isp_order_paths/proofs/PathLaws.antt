-- Paths begin with the root, and their pages but the last are inner.
use Rattle.std.proofs.Common.{◌≡◌, ◌⊎◌, ◌∙◌, ◌≤◌, ◌<◌, inl, inr, refl, sym, ap, subst, ℕ, ℤ, zero, suc, ◌==◌, ◌&&◌, ◌||◌, not, cond, Bool, true, false, Option, Some, None, List, [], ◌∷◌, ◌++◌, arith, length, map, eqb-true}
use Rattle.std.specs.Prelude.{is_none, slice_set}
use Rattle.std.specs.List.{last_or}
use Rattle.std.specs.Option.{option_map}
use Rattle.std.proofs.lemmas.Bool.{false≢true, and_parts}
use Rattle.isp_base.specs.Lists.{Has}
use Rattle.isp_laws.proofs.ForestLaws.{child_there}
use Rattle.isp_laws.proofs.ListLaws.{Has-append_right, Has-filter}
use Rattle.isp_laws.proofs.PageLaws.{There}
use Rattle.isp_leaf_laws.specs.TreeLaws.{StaysPage, StaysTree}
use Rattle.isp_leaf_laws.proofs.StayLaws.{place_stays, remove_stays, stays_same}
use Rattle.isp_reclock.specs.declared.entries.Lock.{Lock}
use Rattle.isp_plain.specs.declared.statement.Statement.{Statement}
use Rattle.isp_plain.specs.declared.statement.Statement.TheVariants.{Create, Insert, Select, Update, Delete, Begin, Commit, Rollback, Refused}
use Rattle.isp_plain.specs.declared.value.Row.{Row}
use Rattle.isp_forest.specs.declared.entry.Entry.{Entry}
use Rattle.isp_forest.specs.Tree.{Node, Tree, child_of, page_at}
use Rattle.isp_forest.specs.Forest.{Forest}
use Rattle.isp_forest.specs.Steps.{names}
use Rattle.isp_forest.specs.Place.{StartsAt}
use Rattle.isp_forest.specs.Search.{Search}
use Rattle.isp_events.specs.Stored.{Leaf, StoredTable, change_table, change_tree, indexed, leaf_behind, table_at, tree_among, tree_of}
use Rattle.isp_events.specs.Sessions.{Change, Entering, Phase, SessionState, Work, adding, answering, begun_change, begun_entering, changes_of, columns_for, entering, locking, moves, phase_with, scanning, session_at, unlocked, visiting, writing}
use Rattle.isp_events.specs.State.{Queued, State, dead_entry, dead_row, front, is_empty}
use Rattle.isp_events.specs.Ways.{Machine, Way, by_box, by_key, by_scan}
use Rattle.isp_events.specs.Next.{Descent, has_entry_for, is_leaf}
use Rattle.isp_events.specs.Asking.{first_phase, phase_after_key, phase_by, phase_of_keys}
use Rattle.isp_events.specs.Reading.{as_read, phase_after_leaf, phase_after_visit, rising, rows_in}
use Rattle.isp_events.specs.Placing.{follows, may_step, phase_with_entry, stepped, tree_after_place, tree_for, with_placed, without_path}
use Rattle.isp_events.specs.Writing.{phase_after_row, table_after_row, table_with_row}
use Rattle.isp_events.specs.Ending.{restored}
use Rattle.isp_events.specs.Purging.{may_leave, table_without, tables_purged, without_entry}
use Rattle.isp_events.specs.Events.{Actor, Choice, MayHappen, after}
use Rattle.isp_order.specs.Work.{AreOnPaths, HasCollected, IsCollecting, IsDescent, IsInner, IsOnPath, IsPathIn, IsPathOf}
use Rattle.isp_order.specs.InOrder.{InOrder, IsProper}
use Rattle.isp_order.proofs.TableLaws.{same_table}
use Rattle.isp_causes.specs.Causes.{IsActive, IsEntering, IsPlacing, IsStepping}
use Rattle.isp_causes.proofs.EventCases.{EachKeeps, event_keeps}
use Rattle.isp_event_laws.proofs.ListTests.{Passing, any_has}
use Rattle.isp_order_locks.proofs.SearchParts.{seen_now}
use Rattle.isp_order_work.proofs.WorkParts.{carried, no_work, none_some, some_is, work_step, work_victims}
use Rattle.isp_order_trees.proofs.TreeParts.{SameTrees, change_leaves_trees, same_tree, tree_elsewhere, with_tree}
use Rattle.isp_order_trees.proofs.WholeLaws.{after_row_leaves_trees, placing_box, placing_stands, purged_row_leaves_trees}

-- ---- paths of a tree that stays

inner_stays : (tree after : Tree) (p : ℕ) → StaysTree tree after → IsInner tree p → IsInner after p
inner_stays tree after p stays i =
    let new : StaysPage tree.root after p i.page = stays.pages p i.page i.there in
    let no_lower : i.page.level ≤ new.new.level = new.no_lower in
    let above : 0 < i.page.level = i.level in
    record { page = new.new; there = new.there; level = omega (arith, no_lower, above) }

descent_stays : (tree after : Tree) (path : List ℕ) (at_leaf : Bool) → StaysTree tree after → IsDescent tree path at_leaf → IsDescent after path at_leaf
descent_stays tree after path at_leaf stays d = record {
  starts = subst (λ r. StartsAt r path) (sym stays.root) d.starts;
  inner = λ p h. inner_stays tree after p stays (d.inner p h);
  last = λ p e. (let was = d.last p e in let new = stays.pages p was.0 was.1 in (new.new, new.there));
  last_inner = λ p e f. inner_stays tree after p stays (d.last_inner p e f);
}

path_stays : (tree after : Tree) (path : List ℕ) (at_leaf : Bool) → StaysTree tree after → IsPathIn tree path at_leaf → IsPathIn after path at_leaf
path_stays tree after [] at_leaf stays h = tt
path_stays tree after (p ∷ path) at_leaf stays h = descent_stays tree after (p ∷ path) at_leaf stays h

of_stays : (table after : StoredTable) (e : Entering) (columns : List ℕ) → ((column : ℕ) → StaysTree (tree_of table column) (tree_of after column)) → IsPathOf table e columns → IsPathOf after e columns
of_stays table after e [] stays h = tt
of_stays table after e (column ∷ columns) stays h = path_stays (tree_of table column) (tree_of after column) e.path e.at_leaf (stays column) h

on_stays : (table after : StoredTable) (phase : Phase) → ((column : ℕ) → StaysTree (tree_of table column) (tree_of after column)) → IsOnPath table phase → IsOnPath after phase
on_stays table after (locking keys) stays h = tt
on_stays table after visiting stays h = tt
on_stays table after (scanning last) stays h = tt
on_stays table after (answering done) stays h = tt
on_stays table after (writing done left unlocked) stays h = tt
on_stays table after (writing done left (entering e)) stays h = of_stays table after e e.columns stays h

-- ---- paths that are empty

no_path : (table : StoredTable) (e : Entering) (columns : List ℕ) → e.path ≡ [] → IsPathOf table e columns
no_path table e [] h = tt
no_path table e (column ∷ columns) h = subst (λ path. IsPathIn (tree_of table column) path e.at_leaf) (sym h) tt

begun_path : (table : StoredTable) (statement : Statement) (columns : List ℕ) (done : List Change) (change : Change) (left : List Change)
    → IsOnPath table (writing done (change ∷ left) (begun_change statement columns change))
begun_path table (Insert name rows) columns done change left = tt
begun_path table (Select name cs w) columns done change left = no_path table (begun_entering columns change) (begun_entering columns change).columns refl
begun_path table (Create name schema) columns done change left = no_path table (begun_entering columns change) (begun_entering columns change).columns refl
begun_path table (Update name sets w) columns done change left = no_path table (begun_entering columns change) (begun_entering columns change).columns refl
begun_path table (Delete name w) columns done change left = no_path table (begun_entering columns change) (begun_entering columns change).columns refl
begun_path table Begin columns done change left = no_path table (begun_entering columns change) (begun_entering columns change).columns refl
begun_path table Commit columns done change left = no_path table (begun_entering columns change) (begun_entering columns change).columns refl
begun_path table Rollback columns done change left = no_path table (begun_entering columns change) (begun_entering columns change).columns refl
begun_path table (Refused refusal) columns done change left = no_path table (begun_entering columns change) (begun_entering columns change).columns refl

with_path : (table : StoredTable) (statement : Statement) (columns : List ℕ) (done left : List Change) → IsOnPath table (phase_with statement columns done left)
with_path table statement columns done [] = tt
with_path table statement columns done (change ∷ left) = begun_path table statement columns done change left

keys_path : (table other : StoredTable) (statement : Statement) (keys : List ℤ) (read : List (ℤ × Option Row)) → IsOnPath table (phase_of_keys other statement keys read)
keys_path table other statement [] read = with_path table statement (indexed other) [] (changes_of statement read)
keys_path table other statement (key ∷ keys) read = tt

way_path : (table : StoredTable) (way : Way) → IsOnPath table (phase_by way)
way_path table (by_key key) = tt
way_path table (by_box column predicate) = tt
way_path table by_scan = tt

first_path : (table other : StoredTable) (statement : Statement) (way : Way) → IsOnPath table (first_phase other statement way)
first_path table other (Insert name rows) way = with_path table (Insert name rows) (indexed other) [] (map adding rows)
first_path table other (Select name columns w) way = way_path table way
first_path table other (Create name schema) way = way_path table way
first_path table other (Update name sets w) way = way_path table way
first_path table other (Delete name w) way = way_path table way
first_path table other Begin way = way_path table way
first_path table other Commit way = way_path table way
first_path table other Rollback way = way_path table way
first_path table other (Refused refusal) way = way_path table way

-- ---- a step

last_push : (path : List ℕ) (q : ℕ) → last_or None (path ++ q ∷ []) ≡ Some q
last_push path q = from None path
  where
    from : (o : Option ℕ) (xs : List ℕ) → last_or o (xs ++ q ∷ []) ≡ Some q
    from o [] = refl
    from o (x ∷ xs) = from (Some x) xs

front_push : (path : List ℕ) (q : ℕ) → front (path ++ q ∷ []) ≡ path
front_push [] q = refl
front_push (x ∷ []) q = refl
front_push (x ∷ y ∷ path) q = ap (λ xs. x ∷ xs) (front_push (y ∷ path) q)

front_or_last : (path : List ℕ) (p : ℕ) → Has path p → Has (front path) p ⊎ (last_or None path ≡ Some p)
front_or_last [] p h = absurd h
front_or_last (x ∷ []) p (inl e) = inr (ap (λ y. Some y) e)
front_or_last (x ∷ []) p (inr h) = absurd h
front_or_last (x ∷ y ∷ path) p (inl e) = inl (inl e)
front_or_last (x ∷ y ∷ path) p (inr h) = elim (front_or_last (y ∷ path) p h) [ inl k ↦ inl (inr k) | inr k ↦ inr k ]

leaf_or_inner : (tree : Tree) (q : ℕ) (page : Node) → page_at tree q ≡ Some page → is_leaf (page_at tree q) ≡ false → IsInner tree q
leaf_or_inner tree q page there h = record {
  page = page;
  there = there;
  level = (let no : (page.level == 0) ≡ false = sym (ap is_leaf there) ∙ h in above page.level no);
}
  where
    above : (n : ℕ) → (n == 0) ≡ false → 0 < n
    above zero e = absurd (false≢true (sym e))
    above (suc n) e = omega arith

named_by : (o : Option ℕ) (q : ℕ) → names (λ c. c == q) o ≡ true → o ≡ Some q
named_by None q h = absurd (false≢true h)
named_by (Some c) q h = ap (λ x. Some x) (eqb-true c q h)

-- the page that an entry names is there
entry_leads : (tree : Tree) → Forest tree → (p q : ℕ) → has_entry_for (page_at tree p) q ≡ true → (page : Node) × (page_at tree q ≡ Some page)
entry_leads tree forest p q h = by_page (page_at tree p) refl h
  where
    by_page : (o : Option Node) → page_at tree p ≡ o → has_entry_for o q ≡ true → (page : Node) × (page_at tree q ≡ Some page)
    by_page None e k = absurd (false≢true k)
    by_page (Some page) e k =
        let passing : Passing (λ (x : Entry). names (λ c. c == q) (child_of x)) page.entries = any_has (λ (x : Entry). names (λ c. c == q) (child_of x)) page.entries k in
        let there : There tree.pages q = child_there tree forest p q passing.x (record { page = page; there = e; has = passing.has; to = named_by (child_of passing.x) q passing.passes }) in
        (there.page, there.there)

step_path : (tree : Tree) → Forest tree → (path : List ℕ) (at_leaf : Bool) (q : ℕ) → (is_empty path || not at_leaf) ≡ true → may_step tree path q ≡ true → IsPathIn tree path at_leaf
    → IsDescent tree (path ++ q ∷ []) (is_leaf (page_at tree q))
step_path tree forest [] at_leaf q way may h =
    let is : q ≡ tree.root = eqb-true q tree.root may in
    let there : page_at tree q ≡ Some forest.top = ap (page_at tree) is ∙ forest.rooted in
    record {
      starts = is;
      inner = λ p k. absurd k;
      last = λ p e. (forest.top, ap (page_at tree) (sym (some_is q p e)) ∙ there);
      last_inner = λ p e f. subst (IsInner tree) (some_is q p e) (leaf_or_inner tree q forest.top there f);
    }
step_path tree forest (r ∷ path) at_leaf q way may d = by_last (last_or None (r ∷ path)) refl may
  where
    some_pages : is_empty (r ∷ path) ≡ false
    some_pages = by_test (is_empty (r ∷ path)) refl
      where
        by_test : (b : Bool) → is_empty (r ∷ path) ≡ b → b ≡ false
        by_test true e = let is : suc (length path) ≡ 0 = eqb-true (suc (length path)) 0 e in let no : ⊥ = omega (arith, is) in absurd no
        by_test false e = refl

    not_leaf : at_leaf ≡ false
    not_leaf = by_leaf at_leaf some_pages way
      where
        by_leaf : (b : Bool) → is_empty (r ∷ path) ≡ false → (is_empty (r ∷ path) || not b) ≡ true → b ≡ false
        by_leaf true f e = absurd (false≢true (sym (ap (λ t. t || false) f) ∙ e))
        by_leaf false f e = refl

    by_last : (o : Option ℕ) → last_or None (r ∷ path) ≡ o → follows tree o q ≡ true → IsDescent tree (r ∷ path ++ q ∷ []) (is_leaf (page_at tree q))
    by_last None e k = absurd (no_last (r ∷ []) path e)
      where
        no_last : (xs ys : List ℕ) → last_or None (r ∷ ys) ≡ None → ⊥
        no_last xs ys i = some_last (Some r) ys (λ x. none_some x) i
          where
            some_last : (o : Option ℕ) (zs : List ℕ) → ((x : ℕ) → None ≡ Some x → ⊥) → last_or (Some r) zs ≡ None → ⊥
            some_last o [] f j = none_some r (sym j)
            some_last o (z ∷ zs) f j = from z zs j
              where
                from : (y : ℕ) (ws : List ℕ) → last_or (Some y) ws ≡ None → ⊥
                from y [] l = none_some y (sym l)
                from y (w ∷ ws) l = from w ws l
    by_last (Some p) e k =
        let page = entry_leads tree forest p q k in
        record {
          starts = d.starts;
          inner = λ x h. by_place x (front_or_last (r ∷ path) x (subst (λ (xs : List ℕ). Has xs x) (front_push (r ∷ path) q) h));
          last = λ x f. (page.0, ap (page_at tree) (sym (some_is q x (sym (last_push (r ∷ path) q) ∙ f))) ∙ page.1);
          last_inner = λ x f g. subst (IsInner tree) (some_is q x (sym (last_push (r ∷ path) q) ∙ f)) (leaf_or_inner tree q page.0 page.1 g);
        }
      where
        by_place : (x : ℕ) → Has (front (r ∷ path)) x ⊎ (last_or None (r ∷ path) ≡ Some x) → IsInner tree x
        by_place x (inl h) = d.inner x h
        by_place x (inr h) = d.last_inner x h not_leaf

push_path : (tree : Tree) (path : List ℕ) (q : ℕ) (at_leaf : Bool) → IsDescent tree (path ++ q ∷ []) at_leaf → IsPathIn tree (path ++ q ∷ []) at_leaf
push_path tree [] q at_leaf h = h
push_path tree (p ∷ path) q at_leaf h = h

-- ---- trees of all tables stay

pub stays_of_same : (tables after : List StoredTable) → SameTrees tables after → (n column : ℕ) → StaysTree (tree_of (table_at tables n) column) (tree_of (table_at after n) column)
stays_of_same tables after same n column =
    subst (λ (t : Tree). StaysTree (tree_of (table_at tables n) column) t) (sym (same_tree tables after same n column)) (stays_same (tree_of (table_at tables n) column))

-- the tree of the column changes, or there is none
pub among_either : (c : ℕ) (g : Tree → Tree) (trees : List (ℕ × Tree))
    → (tree_among (change_tree c g trees) c ≡ g (tree_among trees c)) ⊎ (tree_among (change_tree c g trees) c ≡ tree_among trees c)
among_either c g [] = inr refl
among_either c g (t ∷ trees) = by_test (t.0 == c) (among_either c g trees)
  where
    by_test : (b : Bool) → (tree_among (change_tree c g trees) c ≡ g (tree_among trees c)) ⊎ (tree_among (change_tree c g trees) c ≡ tree_among trees c)
        → (cond b (cond b (g t.1) t.1) (tree_among (change_tree c g trees) c) ≡ g (cond b t.1 (tree_among trees c)))
        ⊎ (cond b (cond b (g t.1) t.1) (tree_among (change_tree c g trees) c) ≡ cond b t.1 (tree_among trees c))
    by_test true again = inl refl
    by_test false again = again

-- of all trees, each is as it was or is the changed one
pub record IsChangedTree (n c : ℕ) (g : Tree → Tree) (tables : List StoredTable) (i k : ℕ) : Type 0 where
  pub table : i ≡ n
  pub column : k ≡ c
  pub is : tree_of (table_at (change_table n (with_tree c g) tables) i) k ≡ g (tree_of (table_at tables i) k)

pub changed_or_same : (n c : ℕ) (g : Tree → Tree) (tables : List StoredTable) (i k : ℕ)
    → IsChangedTree n c g tables i k ⊎ (tree_of (table_at (change_table n (with_tree c g) tables) i) k ≡ tree_of (table_at tables i) k)
changed_or_same n c g tables i k = by_test ((i == n) && (k == c)) refl
  where
    here : (tree_of (table_at (change_table n (with_tree c g) tables) n) c ≡ g (tree_of (table_at tables n) c))
        ⊎ (tree_of (table_at (change_table n (with_tree c g) tables) n) c ≡ tree_of (table_at tables n) c)
    here = elim (same_table n (with_tree c g) tables) [
      | inl is ↦ elim (among_either c g (table_at tables n).trees) [
        | inl e ↦ inl (ap (λ (x : StoredTable). tree_of x c) is ∙ e)
        | inr e ↦ inr (ap (λ (x : StoredTable). tree_of x c) is ∙ e)
      ]
      | inr none ↦ inr (ap (λ (x : StoredTable). tree_of x c) (none.0 ∙ sym none.1))
    ]

    by_test : (b : Bool) → ((i == n) && (k == c)) ≡ b → IsChangedTree n c g tables i k ⊎ (tree_of (table_at (change_table n (with_tree c g) tables) i) k ≡ tree_of (table_at tables i) k)
    by_test true e =
        let parts = and_parts (i == n) (k == c) e in
        let at : i ≡ n = eqb-true i n parts.0 in
        let of : k ≡ c = eqb-true k c parts.1 in
        elim here [
          | inl is ↦ inl (record {
            table = at;
            column = of;
            is = ap (λ z. tree_of (table_at (change_table n (with_tree c g) tables) z) k) at ∙ ap (tree_of (table_at (change_table n (with_tree c g) tables) n)) of ∙ is
                ∙ ap g (ap (λ z. tree_of (table_at tables z) c) (sym at) ∙ ap (tree_of (table_at tables i)) (sym of));
          })
          | inr is ↦ inr (ap (λ z. tree_of (table_at (change_table n (with_tree c g) tables) z) k) at ∙ ap (tree_of (table_at (change_table n (with_tree c g) tables) n)) of ∙ is
              ∙ ap (λ z. tree_of (table_at tables z) c) (sym at) ∙ ap (tree_of (table_at tables i)) (sym of))
        ]
    by_test false e = inr (tree_elsewhere n c g tables i k e)

stays_with : (n c : ℕ) (g : Tree → Tree) (tables : List StoredTable) → StaysTree (tree_of (table_at tables n) c) (g (tree_of (table_at tables n) c)) → (i k : ℕ)
    → StaysTree (tree_of (table_at tables i) k) (tree_of (table_at (change_table n (with_tree c g) tables) i) k)
stays_with n c g tables stays i k = elim (changed_or_same n c g tables i k) [
  | inl is ↦ subst (λ (t : Tree). StaysTree (tree_of (table_at tables i) k) t) (sym is.is)
      (subst (λ z. StaysTree (tree_of (table_at tables z) k) (g (tree_of (table_at tables z) k))) (sym is.table)
      (subst (λ z. StaysTree (tree_of (table_at tables n) z) (g (tree_of (table_at tables n) z))) (sym is.column) stays))
  | inr same ↦ subst (λ (t : Tree). StaysTree (tree_of (table_at tables i) k) t) (sym same) (stays_same (tree_of (table_at tables i) k))
]

stays_purged : (locks : List Lock) (queue : List Queued) (tables : List StoredTable) (n column : ℕ) → StaysTree (tree_of (table_at tables n) column) (tree_of (table_at (tables_purged locks queue tables) n) column)
stays_purged locks [] tables n column = stays_same (tree_of (table_at tables n) column)
stays_purged locks (dead_entry e ∷ queue) tables n column = stays_with e.table e.column (without_entry e.number) tables (remove_stays (tree_of (table_at tables e.table) e.column) e.number) n column
stays_purged locks (dead_row number key ∷ queue) tables n column =
    stays_of_same tables (cond (may_leave locks (table_at tables number) number key) (change_table number (table_without key) tables) tables)
    (purged_row_leaves_trees (may_leave locks (table_at tables number) number key) number key tables) n column

columns_listed : (columns : List ℕ) (old new : Option Row) (column : ℕ) → Has (columns_for columns old new) column → Has columns column
columns_listed columns old None column h = absurd h
columns_listed columns old (Some new) column h = Has-filter (moves old new) columns column h

module _ (m : Machine) (state : State) (good : IsProper m) (o : InOrder m state) where
  -- the column that is next has a tree
  pub next_listed : (s : ℕ) (en : IsEntering (session_at state.sessions s)) (column : ℕ) (columns : List ℕ) → en.e.columns ≡ column ∷ columns → Has (indexed (table_at state.tables en.work.table)) column
  next_listed s en column columns is =
      let c : HasCollected state.tables state.sessions s en.work en.change en.e = subst (IsCollecting state.tables state.sessions s en.work) en.phase (o.collected s en.work en.goes_on.at_work) in
      columns_listed (indexed (table_at state.tables en.work.table)) en.change.old en.change.new column
      (subst (λ (cs : List ℕ). Has cs column) c.columns
      (Has-append_right (map (λ p. p.0) en.e.placed) en.e.columns column (subst (λ (cs : List ℕ). Has cs column) (sym is) (inl refl))))

  abbrev OnPath : List StoredTable → ℕ → SessionState → Work → Type 0
  OnPath tables k session work = IsOnPath (table_at tables work.table) work.phase

  step : (s : ℕ) (tables : List StoredTable) (new : SessionState) → IsActive state s
      → ((n column : ℕ) → StaysTree (tree_of (table_at state.tables n) column) (tree_of (table_at tables n) column))
      → ((work : Work) → new.work ≡ Some work → OnPath tables s new work) → AreOnPaths tables (slice_set state.sessions s new)
  step s tables new active stays own =
      work_step (OnPath tables) state.sessions s new active.not_over own
      (λ k ne work at. on_stays (table_at state.tables work.table) (table_at tables work.table) work.phase (stays work.table) (o.paths k work at))

  same_stays : (n column : ℕ) → StaysTree (tree_of (table_at state.tables n) column) (tree_of (table_at state.tables n) column)
  same_stays n column = stays_same (tree_of (table_at state.tables n) column)

  without_work : (s : ℕ) (new : SessionState) → IsActive state s → new.work ≡ None → AreOnPaths state.tables (slice_set state.sessions s new)
  without_work s new active none = step s state.tables new active same_stays (λ work at. absurd (no_work new work none at))

  at_work : (s : ℕ) (tables : List StoredTable) (new : SessionState) (f : Work → Work) (work : Work) → IsActive state s
      → ((n column : ℕ) → StaysTree (tree_of (table_at state.tables n) column) (tree_of (table_at tables n) column))
      → (session_at state.sessions s).work ≡ Some work → new.work ≡ option_map f (session_at state.sessions s).work → OnPath tables s new (f work) → AreOnPaths tables (slice_set state.sessions s new)
  at_work s tables new f work active stays at is path =
      step s tables new active stays (λ now now_at. subst (λ (w : Work). OnPath tables s new w) (carried f (session_at state.sessions s) new work now is at now_at) path)

  begins : (s : ℕ) (new : SessionState) (work : Work) → IsActive state s → new.work ≡ Some work → OnPath state.tables s new work → AreOnPaths state.tables (slice_set state.sessions s new)
  begins s new work active is path = step s state.tables new active same_stays (λ now now_at. subst (λ (w : Work). OnPath state.tables s new w) (some_is work now (sym is ∙ now_at)) path)

  undone : (s : ℕ) (tables : List StoredTable) (new : SessionState) → IsActive state s → ((n column : ℕ) → StaysTree (tree_of (table_at state.tables n) column) (tree_of (table_at tables n) column))
      → new.work ≡ (session_at state.sessions s).work → AreOnPaths tables (slice_set state.sessions s new)
  undone s tables new active stays is =
      step s tables new active stays
      (λ work now_at. on_stays (table_at state.tables work.table) (table_at tables work.table) work.phase (stays work.table) (o.paths s work (sym is ∙ now_at)))

  created : (s : ℕ) (tables : List StoredTable) (new : SessionState) → IsActive state s → s ≡ 0 → new.work ≡ None → AreOnPaths tables (slice_set state.sessions s new)
  created s tables new active is none =
      work_step (OnPath tables) state.sessions s new active.not_over (λ work at. absurd (no_work new work none at))
      (λ k ne work at. absurd (no_work (session_at state.sessions k) work
      (o.idle.setup_first (subst (λ i. (session_at state.sessions i).over ≡ false) is active.not_over) k (ap (λ i. k == i) (sym is) ∙ ne)).0.no_work at))

  step_on : (s : ℕ) (d : Descent) (q : ℕ) (at : IsStepping (session_at state.sessions s) d) → may_step (tree_for state d) d.path q ≡ true
      → IsOnPath (table_at state.tables at.descending.entering.work.table) (phase_with_entry (stepped (tree_for state d) q) at.descending.entering.work.phase)
  step_on s d q at may =
      subst (λ p. IsOnPath (table_at state.tables at.descending.entering.work.table) (phase_with_entry (stepped (tree_for state d) q) p)) (sym at.descending.entering.phase)
      (subst (IsPathOf (table_at state.tables at.descending.entering.work.table) (stepped (tree_for state d) q at.descending.entering.e)) (sym at.descending.next)
      (subst (λ (x : Descent). IsPathIn (tree_of (table_at state.tables at.descending.entering.work.table) at.descending.column) (at.descending.entering.e.path ++ q ∷ []) (is_leaf (page_at (tree_for state x) q))) (sym at.descending.descent)
      (push_path (tree_of (table_at state.tables at.descending.entering.work.table) at.descending.column) at.descending.entering.e.path q (is_leaf (page_at (tree_of (table_at state.tables at.descending.entering.work.table) at.descending.column) q))
      (step_path (tree_of (table_at state.tables at.descending.entering.work.table) at.descending.column) (o.whole at.descending.entering.work.table at.descending.column (next_listed s at.descending.entering at.descending.column at.descending.columns at.descending.next)) at.descending.entering.e.path at.descending.entering.e.at_leaf q at.under_way
      (subst (λ (x : Descent). may_step (tree_for state x) x.path q ≡ true) at.descending.descent may) old))))
    where
      old : IsPathIn (tree_of (table_at state.tables at.descending.entering.work.table) at.descending.column) at.descending.entering.e.path at.descending.entering.e.at_leaf
      old = subst (IsPathOf (table_at state.tables at.descending.entering.work.table) at.descending.entering.e) at.descending.next
          (subst (IsOnPath (table_at state.tables at.descending.entering.work.table)) at.descending.entering.phase (o.paths s at.descending.entering.work at.descending.entering.goes_on.at_work))

  -- a path that begins anew
  anew : (table : StoredTable) (f : Entering → Entering) (s : ℕ) (en : IsEntering (session_at state.sessions s)) → (f en.e).path ≡ [] → IsOnPath table (phase_with_entry f en.work.phase)
  anew table f s en none = subst (λ p. IsOnPath table (phase_with_entry f p)) (sym en.phase) (no_path table (f en.e) (f en.e).columns none)

  key_on : (table other : StoredTable) (work : Work) (key : ℤ) (keys : List ℤ) (read : List (ℤ × Option Row)) → work.phase ≡ locking (key ∷ keys) → IsOnPath table (phase_after_key other work.statement work.phase read)
  key_on table other work key keys read is = subst (λ p. IsOnPath table (phase_after_key other work.statement p read)) (sym is) (keys_path table other work.statement keys read)

  row_key_on : (table other : StoredTable) (work : Work) (done : List Change) (change : Change) (left : List Change) (read : List (ℤ × Option Row)) → work.phase ≡ writing done (change ∷ left) unlocked
      → IsOnPath table (phase_after_key other work.statement work.phase read)
  row_key_on table other work done change left read is =
      subst (λ p. IsOnPath table (phase_after_key other work.statement p read)) (sym is) (no_path table (begun_entering (indexed other) change) (begun_entering (indexed other) change).columns refl)

  visit_on : (table other : StoredTable) (statement : Statement) (x : Search) → IsOnPath table (phase_after_visit other statement x)
  visit_on table other statement x = by_stack (is_empty x.stack)
    where
      by_stack : (b : Bool) → IsOnPath table (cond b (phase_of_keys other statement (rising x.found) []) visiting)
      by_stack true = keys_path table other statement (rising x.found) []
      by_stack false = tt

  scan_on : (table other : StoredTable) (statement : Statement) (leaf : Leaf) (read : List (ℤ × Option Row)) → IsOnPath table (phase_after_leaf other statement leaf read)
  scan_on table other statement leaf read = by_last (is_none (leaf_behind other.leaves leaf.page))
    where
      by_last : (b : Bool) → IsOnPath table (cond b (phase_with statement (indexed other) [] (changes_of statement read)) (scanning (Some leaf.page)))
      by_last true = with_path table statement (indexed other) [] (changes_of statement read)
      by_last false = tt

  row_on : (table other : StoredTable) (s : ℕ) (en : IsEntering (session_at state.sessions s)) → IsOnPath table (phase_after_row other en.work en.work.phase)
  row_on table other s en = subst (λ p. IsOnPath table (phase_after_row other en.work p)) (sym en.phase) (with_path table en.work.statement (indexed other) (en.done ++ en.change ∷ []) en.left)

  pub place_listed : (s : ℕ) (d : Descent) → IsPlacing state (session_at state.sessions s) d → Has (indexed (table_at state.tables d.table)) d.column
  place_listed s d at =
      subst (λ (x : Descent). Has (indexed (table_at state.tables x.table)) x.column) (sym at.descending.descent)
      (next_listed s at.descending.entering at.descending.column at.descending.columns at.descending.next)

  pub paths_each : EachKeeps m state (λ (st : State). AreOnPaths st.tables st.sessions)
  paths_each = record {
    still = o.paths;
    purge = λ some k work at. on_stays (table_at state.tables work.table) (table_at (tables_purged state.locks state.queue state.tables) work.table) work.phase
        (stays_purged state.locks state.queue state.tables work.table) (o.paths k work at);
    end = λ s over active. without_work s _ active refl;
    answer = λ s reply active at. without_work s _ active refl;
    undo = λ s entry more active at. undone s _ _ active (stays_of_same state.tables _ (change_leaves_trees entry.table (table_with_row entry.key (restored entry.image)) state.tables (λ t. refl))) refl;
    create = λ s over name schema leaf roots active at may. created s _ _ active at.setup refl;
    refuse = λ s on ds active at may. work_victims (OnPath state.tables) (λ k x work h. h) state.sessions ds o.paths;
    lock_table = λ s statement number mode active at none. begins s _ _ active refl
        (first_path (table_at state.tables number) (table_at state.tables number) statement (m.ways (table_at state.tables number).schema statement));
    lock_key = λ s number key mode active at none. at_work s state.tables _ _ at.work active same_stays at.goes_on.at_work refl
        (key_on (table_at state.tables at.work.table) (table_at state.tables number) at.work key at.keys _ at.phase);
    lock_row = λ s number key mode active at none. at_work s state.tables _ _ at.work active same_stays at.goes_on.at_work refl
        (row_key_on (table_at state.tables at.work.table) (table_at state.tables number) at.work at.done at.change at.left _ at.phase);
    visit = λ s number column predicate active at. at_work s state.tables _ _ at.work active same_stays at.goes_on.at_work refl
        (visit_on (table_at state.tables at.work.table) (table_at state.tables number) at.work.statement (seen_now m state o s number column predicate at));
    scan = λ s number leaf active at. at_work s state.tables _ _ at.work active same_stays at.goes_on.at_work refl
        (scan_on (table_at state.tables at.work.table) (table_at state.tables number) at.work.statement leaf (at.work.read ++ map as_read (rows_in leaf)));
    step = λ s d q active at may. at_work s state.tables _ _ at.descending.entering.work active same_stays at.descending.entering.goes_on.at_work refl (step_on s d q at may);
    stale = λ s d active at. at_work s state.tables _ _ at.descending.entering.work active same_stays at.descending.entering.goes_on.at_work refl
        (anew (table_at state.tables at.descending.entering.work.table) without_path s at.descending.entering refl);
    full = λ s active at. at_work s state.tables _ _ at.work active same_stays at.goes_on.at_work refl (o.paths s at.work at.goes_on.at_work);
    place = λ s d q ds active at may. at_work s _ _ _ at.descending.entering.work active
        (stays_with d.table d.column (tree_after_place d state.entries q ds) state.tables
        (place_stays (tree_for state d) d.path d.box d.key state.entries q ds (o.whole d.table d.column (place_listed s d at)) (placing_stands state (session_at state.sessions s) d at)
        (placing_box state (session_at state.sessions s) d at) may.can))
        at.descending.entering.goes_on.at_work refl
        (anew (table_at (change_table d.table (with_tree d.column (tree_after_place d state.entries q ds)) state.tables) at.descending.entering.work.table) (with_placed d.column state.entries) s at.descending.entering refl);
    row = λ s number change placed p active at may. at_work s _ _ _ at.entering.work active
        (stays_of_same state.tables _ (change_leaves_trees number (table_after_row p change placed change.new) state.tables (λ t. after_row_leaves_trees p change placed change.new t)))
        at.entering.goes_on.at_work refl
        (row_on (table_at (change_table number (table_after_row p change placed change.new) state.tables) at.entering.work.table) (table_at state.tables number) s at.entering);
  }

pub paths_kept : (m : Machine) (state : State) (actor : Actor) (choice : Choice) → IsProper m → InOrder m state → MayHappen m state actor choice
    → AreOnPaths (after m state actor choice).tables (after m state actor choice).sessions
paths_kept m state actor choice good o h = event_keeps m state good o (λ (st : State). AreOnPaths st.tables st.sessions) (paths_each m state good o) actor choice h
