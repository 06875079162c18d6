-- Nothing that a search could find gets out of its reach.
use Rattle.std.proofs.Common.{◌≡◌, ◌⊎◌, ◌∙◌, ◌+◌, ◌≤◌, ◌<◌, inl, inr, refl, sym, ap, subst, ℕ, zero, suc, ◌==◌, not, Bool, true, false, cond, Option, Some, None, List, [], ◌∷◌, ◌++◌, map, length, arith, eqb-true, eq-eqb}
use Rattle.std.specs.Prelude.{find, slice_get}
use Rattle.std.specs.List.{last_or, list_any}
use Rattle.std.proofs.lemmas.Bool.{false≢true, and_parts}
use Rattle.isp_base.specs.Lists.{Has}
use Rattle.isp_mbr.specs.declared.predicate.Predicate.{Predicate}
use Rattle.isp_reclock.specs.declared.entries.Lock.{Lock}
use Rattle.isp_reclock.proofs.BlockerLemmas.{find_passes}
use Rattle.isp_plain.specs.declared.statement.Statement.{Statement}
use Rattle.isp_plain.specs.declared.statement.Statement.TheVariants.{Create, Insert, Select, Update, Delete, Begin, Commit, Rollback, Refused}
use Rattle.isp_plain.specs.declared.value.Column.{Column}
use Rattle.isp_plain.specs.declared.value.Row.{Row}
use Rattle.isp_plain.specs.declared.value.Schema.{Schema}
use Rattle.isp_forest.specs.Tree.{Node, Tree, counter, page_at}
use Rattle.isp_forest.specs.Forest.{Forest}
use Rattle.isp_forest.specs.Walk.{split_since}
use Rattle.isp_forest.specs.Steps.{is_among}
use Rattle.isp_forest.specs.Place.{Division}
use Rattle.isp_forest.specs.Search.{Search, Covered}
use Rattle.isp_forest.specs.Attach.{attached}
use Rattle.isp_forest.specs.Visit.{begun, looked_at, remembered, visited_at}
use Rattle.isp_laws.proofs.ListLaws.{Has-append, Has-append_right, Has-filter, Has-map, Source}
use Rattle.isp_searches.proofs.PlaceSearchLaws.{place_covered}
use Rattle.isp_searches.proofs.RemoveSearchLaws.{remove_covered}
use Rattle.isp_searches.proofs.VisitSearchLaws.{begun_covered, visit_covered}
use Rattle.isp_events.specs.Stored.{StoredTable, change_table, indexed, table_at, table_from, tree_of}
use Rattle.isp_events.specs.Sessions.{Phase, visiting, Work, columns_for, moves, session_at}
use Rattle.isp_events.specs.State.{State, TreeSearch, Queued, dead_entry, dead_row, front}
use Rattle.isp_events.specs.Ways.{AreSound, FindsAll, Machine, Way, Ways, by_box, is_indexed, is_indexed_column}
use Rattle.isp_events.specs.Next.{Descent}
use Rattle.isp_events.specs.Reading.{is_of, search_before, search_or, visit_top, visited, with_search}
use Rattle.isp_events.specs.Placing.{MayPlaceEntry, is_of_tree, search_after_place, table_after_place, tree_after_place, tree_for}
use Rattle.isp_events.specs.Writing.{table_after_row}
use Rattle.isp_events.specs.Ending.{indexed_from, new_table, searches_without}
use Rattle.isp_events.specs.Purging.{may_leave, table_without, tables_purged, without_entry}
use Rattle.isp_events.specs.Events.{Actor, Choice, MayHappen, after}
use Rattle.isp_order.specs.Trees.{IsKeyed}
use Rattle.isp_order.specs.Searches.{AreCovered, Belongs, IsOfWork}
use Rattle.isp_order.specs.Work.{FitsPhase, HasCollected, IsBound, IsCollecting, IsServed}
use Rattle.isp_order.specs.InOrder.{InOrder, IsProper}
use Rattle.isp_causes.specs.Causes.{IsEntering, IsPlacing, IsVisiting}
use Rattle.isp_causes.proofs.EventCases.{EachKeeps, event_keeps}
use Rattle.isp_order_trees.proofs.TreeParts.{SameTrees, change_leaves_trees, earlier_with_tree, same_tree, tree_elsewhere, tree_here, tree_keeps}
use Rattle.isp_order_trees.proofs.WholeLaws.{after_row_leaves_trees, placing_box, placing_stands, purged_row_leaves_trees}

-- ---- one search

pub top_of : {X : Type 0} (xs : List X) (x : X) → last_or None xs ≡ Some x → xs ≡ front xs ++ x ∷ []
top_of [] x h = let no : ⊥ = cc in absurd no
top_of (y ∷ []) x h = let e : y ≡ x = cc in ap (λ z. z ∷ []) e
top_of (y ∷ z ∷ xs) x h = ap (λ rest. y ∷ rest) (top_of (z ∷ xs) x h)

pub visited_covered : (tree : Tree) (x : Search) → Forest tree → Covered tree x → Covered tree (visited tree x)
visited_covered tree x f c = by_top (last_or None x.stack) refl
  where
    by_top : (o : Option (ℕ × ℕ)) → last_or None x.stack ≡ o → Covered tree (visit_top tree x o)
    by_top None e = c
    by_top (Some top) e = visit_covered tree x (front x.stack) top.0 top.1 f (top_of x.stack top e) c

-- ---- searches that stay, over trees that stay

pub covered_same : (tables after : List StoredTable) (searches : List TreeSearch) → SameTrees tables after → AreCovered tables searches → AreCovered after searches
covered_same tables after searches same c x has = subst (λ (t : Tree). Covered t x.search) (sym (same_tree tables after same x.table x.column)) (c x has)

-- ---- a search of a statement

-- it is of the way that is visited
pub record IsOfWay (number column : ℕ) (predicate : Predicate) (x : TreeSearch) : Type 0 where
  pub of_table : x.table ≡ number
  pub of_column : x.column ≡ column
  pub same_predicate : x.search.predicate ≡ predicate

pub of_parts : (s statement : ℕ) (y : TreeSearch) → is_of s statement y ≡ true → (y.search.session ≡ s) × (y.search.statement ≡ statement)
of_parts s statement y h =
    let parts = and_parts (y.search.session == s) (y.search.statement == statement) h in
    (eqb-true y.search.session s parts.0, eqb-true y.search.statement statement parts.1)

pub of_way : (m : Machine) (state : State) → InOrder m state → (s number column : ℕ) (predicate : Predicate) → IsVisiting m state (session_at state.sessions s) number column predicate
    → (x : TreeSearch) → Has state.searches x → is_of s (session_at state.sessions s).number x ≡ true → IsOfWay number column predicate x
of_way m state o s number column predicate at x has is =
    let parts = of_parts s (session_at state.sessions s).number x is in
    let b : Belongs m.ways state.tables state.sessions x = o.belongs.each x has in
    let w : IsOfWork m.ways state.tables (session_at state.sessions x.search.session) x =
    b.present (parts.1 ∙ ap (λ k. (session_at state.sessions k).number) (sym parts.0)) in
    let same_work : Some w.work ≡ Some at.work = sym w.at_work ∙ ap (λ k. (session_at state.sessions k).work) parts.0 ∙ at.goes_on.at_work in
    let work_is : w.work ≡ at.work = some_is w.work at.work same_work in
    let table_is : x.table ≡ at.work.table = sym w.of_table ∙ ap (λ (v : Work). v.table) work_is in
    let ways_are : by_box x.column x.search.predicate ≡ by_box column predicate =
    sym w.way ∙ ap (λ t. m.ways (table_at state.tables t).schema w.work.statement) table_is ∙ ap (λ (v : Work). m.ways (table_at state.tables at.work.table).schema v.statement) work_is ∙ at.way in
    let two = box_parts x.column column x.search.predicate predicate ways_are in
    record { of_table = table_is ∙ sym at.number_is; of_column = two.0; same_predicate = two.1 }
  where
    some_is : (v w : Work) → Some v ≡ Some w → v ≡ w
    some_is v w e = cc

    box_parts : (c d : ℕ) (p q : Predicate) → by_box c p ≡ by_box d q → (c ≡ d) × (p ≡ q)
    box_parts c d p q e = (cc, cc)

pub find_has : {X : Type 0} (test : X → Bool) (searches : List X) (y : X) → find test searches ≡ Some y → Has searches y
find_has test [] y h = let no : ⊥ = cc in absurd no
find_has test (x ∷ searches) y h = by_test (test x) (find_has test searches y) h
  where
    by_test : (b : Bool) → (find test searches ≡ Some y → Has searches y) → cond b (Some x) (find test searches) ≡ Some y → Has (x ∷ searches) y
    by_test true again k = inl cc
    by_test false again k = inr (again k)

-- after a visit a search is the one that was visited, of a table and column that it had, or as it was
pub record IsNow (searches : List TreeSearch) (number column : ℕ) (x : Search) (y : TreeSearch) : Type 0 where
  pub is : y.search ≡ x
  pub of : ((y.table ≡ number) × (y.column ≡ column)) ⊎ ((z : TreeSearch) × Has searches z × (is_of x.session x.statement z ≡ true) × (y.table ≡ z.table) × (y.column ≡ z.column))

pub searched : (searches : List TreeSearch) (number column : ℕ) (x : Search) (y : TreeSearch) → Has (with_search searches number column x) y → Has searches y ⊎ IsNow searches number column x y
searched searches number column x y h = by_test (list_any (is_of x.session x.statement) searches) h
  where
    replaced : (z : TreeSearch) → Has searches z → (b : Bool) → is_of x.session x.statement z ≡ b → record z { search = cond b x z.search } ≡ y → Has searches y ⊎ IsNow searches number column x y
    replaced z has true t e = inr (record { is = sym (ap (λ (v : TreeSearch). v.search) e); of = inr (z, has, t, sym (ap (λ (v : TreeSearch). v.table) e), sym (ap (λ (v : TreeSearch). v.column) e)) })
    replaced z has false t e = inl (subst (λ (v : TreeSearch). Has searches v) e has)

    last : Has (record { table = number; column = column; search = x } ∷ []) y → Has searches y ⊎ IsNow searches number column x y
    last (inl e) = inr (record { is = sym (ap (λ (v : TreeSearch). v.search) e); of = inl (sym (ap (λ (v : TreeSearch). v.table) e), sym (ap (λ (v : TreeSearch). v.column) e)) })
    last (inr none) = absurd none

    by_test : (b : Bool) → Has (cond b (map (λ (z : TreeSearch). record z { search = cond (is_of x.session x.statement z) x z.search }) searches) (searches ++ record { table = number; column = column; search = x } ∷ [])) y
        → Has searches y ⊎ IsNow searches number column x y
    by_test true k =
        let s : Source (λ (z : TreeSearch). record z { search = cond (is_of x.session x.statement z) x z.search }) searches y =
        Has-map (λ (z : TreeSearch). record z { search = cond (is_of x.session x.statement z) x z.search }) searches y k in
        replaced s.x s.has (is_of x.session x.statement s.x) refl s.is
    by_test false k = elim (Has-append searches (record { table = number; column = column; search = x } ∷ []) y k) [ inl old ↦ inl old | inr new ↦ last new ]

-- ---- a column that a way searches has a tree

columns_have : (k c : ℕ) (columns : List Column) → is_indexed_column (slice_get columns c) ≡ true → Has (indexed_from k columns) (k + c)
columns_have k c [] h = let no : ⊥ = cc in absurd no
columns_have k zero (x ∷ columns) h = let at : k ≡ k + 0 = omega arith in subst (λ z. Has (indexed_from k (x ∷ columns)) z) at (rw h (inl refl))
columns_have k (suc c) (x ∷ columns) h =
    let at : suc k + c ≡ k + suc c = omega arith in
    later x.indexed (subst (λ z. Has (indexed_from (suc k) columns) z) at (columns_have (suc k) c columns h))
  where
    later : (b : Bool) → Has (indexed_from (suc k) columns) (k + suc c) → Has (cond b (k ∷ indexed_from (suc k) columns) (indexed_from (suc k) columns)) (k + suc c)
    later true z = inr z
    later false z = z

tables_have : (k n : ℕ) (tables : List StoredTable) → k ≤ n → n < k + length tables → Has tables (table_from k tables n)
tables_have k n [] low high = absurd (omega (arith, low, high))
tables_have k n (t ∷ tables) low high = by_test (k == n) refl (λ up. tables_have (suc k) n tables up (omega (arith, high)))
  where
    by_test : (b : Bool) → (k == n) ≡ b → (suc k ≤ n → Has tables (table_from (suc k) tables n)) → Has (t ∷ tables) (cond b t (table_from (suc k) tables n))
    by_test true e again = inl refl
    by_test false e again = inr (again (above (λ is. false≢true (sym e ∙ eq-eqb k n is))))
      where
        above : ((k ≡ n) → ⊥) → suc k ≤ n
        above ne = omega (arith, low, ne)

pub table_there : (n : ℕ) (tables : List StoredTable) → 1 ≤ n → n ≤ length tables → Has tables (table_at tables n)
table_there n tables low high = tables_have 1 n tables low (omega (arith, high))

box_indexed : (ways : Ways) (schema : Schema) (statement : Statement) (column : ℕ) (predicate : Predicate) → AreSound ways → FitsPhase (by_box column predicate) statement visiting
    → IsServed schema statement → ways schema statement ≡ by_box column predicate → is_indexed schema column ≡ true
box_indexed ways schema (Insert name rows) column predicate sound fits served is = absurd fits
box_indexed ways schema (Select name columns w) column predicate sound fits served is = (subst (FindsAll schema w) is (sound schema (Select name columns w))).0
box_indexed ways schema (Update name sets w) column predicate sound fits served is = (subst (FindsAll schema w) is (sound schema (Update name sets w))).0
box_indexed ways schema (Delete name w) column predicate sound fits served is = (subst (FindsAll schema w) is (sound schema (Delete name w))).0
box_indexed ways schema (Create name other) column predicate sound fits served is = absurd served
box_indexed ways schema Begin column predicate sound fits served is = absurd served
box_indexed ways schema Commit column predicate sound fits served is = absurd served
box_indexed ways schema Rollback column predicate sound fits served is = absurd served
box_indexed ways schema (Refused refusal) column predicate sound fits served is = absurd served

-- a column that is to have an entry is one of the table's
of_columns_for : (columns : List ℕ) (old new : Option Row) (c : ℕ) → Has (columns_for columns old new) c → Has columns c
of_columns_for columns old None c h = absurd h
of_columns_for columns old (Some new) c h = Has-filter (moves old new) columns c h

-- ---- whose a search is

pub record IsSame (x y : Search) : Type 0 where
  pub session : y.session ≡ x.session
  pub statement : y.statement ≡ x.statement
  pub predicate : y.predicate ≡ x.predicate

visited_same : (tree : Tree) (x : Search) → IsSame x (visited tree x)
visited_same tree x = by_top (last_or None x.stack)
  where
    by_test : (b : Bool) (p : ℕ) (page : Node) (behind : Search) → IsSame x behind → IsSame x (cond b behind (looked_at (counter tree) page p behind))
    by_test true p page behind h = h
    by_test false p page behind h = record { session = h.session; statement = h.statement; predicate = h.predicate }

    by_page : (p s : ℕ) (o : Option Node) (y : Search) → IsSame x y → IsSame x (visited_at tree p s o y)
    by_page p s None y h = h
    by_page p s (Some page) y h = by_test (is_among y.on p) p page (record y { stack = y.stack ++ remembered s (split_since s (Some page)) })
        (record { session = h.session; statement = h.statement; predicate = h.predicate })

    by_top : (o : Option (ℕ × ℕ)) → IsSame x (visit_top tree x o)
    by_top None = record { session = refl; statement = refl; predicate = refl }
    by_top (Some top) = by_page top.0 top.1 (page_at tree top.0) (record x { stack = front x.stack }) (record { session = refl; statement = refl; predicate = refl })

before_is_of : (searches : List TreeSearch) (tree : Tree) (s statement : ℕ) (predicate : Predicate)
    → ((search_before searches tree s statement predicate).session ≡ s) × ((search_before searches tree s statement predicate).statement ≡ statement)
before_is_of searches tree s statement predicate = by_found (find (is_of s statement) searches) refl
  where
    by_found : (o : Option TreeSearch) → find (is_of s statement) searches ≡ o
        → ((search_or o (begun tree s statement predicate)).session ≡ s) × ((search_or o (begun tree s statement predicate)).statement ≡ statement)
    by_found None e = (refl, refl)
    by_found (Some y) e = of_parts s statement y (find_passes (is_of s statement) searches y e)

-- ---- each event

module _ (m : Machine) (state : State) (o : InOrder m state) where
  -- a search is of a tree of its table
  pub listed : (x : TreeSearch) → Has state.searches x → Has (indexed (table_at state.tables x.table)) x.column
  listed x has = (o.belongs.each x has).column

  purge_covered : (locks : List Lock) (queue : List Queued) → AreCovered (tables_purged locks queue state.tables) state.searches
  purge_covered locks [] = o.covered
  purge_covered locks (dead_entry e ∷ queue) = λ x has. tree_keeps (λ (t : Tree). Covered t x.search) e.table e.column (without_entry e.number) state.tables
      (λ c. remove_covered (tree_of (table_at state.tables e.table) e.column) e.number x.search c) x.table x.column (listed x has) (o.covered x has)
  purge_covered locks (dead_row number key ∷ queue) =
      covered_same state.tables (cond (may_leave locks (table_at state.tables number) number key) (change_table number (table_without key) state.tables) state.tables) state.searches
      (purged_row_leaves_trees (may_leave locks (table_at state.tables number) number key) number key state.tables) o.covered

  -- the column of the way that is visited has a tree
  pub way_column : (s number column : ℕ) (predicate : Predicate) → IsVisiting m state (session_at state.sessions s) number column predicate → IsProper m
      → Has (indexed (table_at state.tables number)) column
  way_column s number column predicate at good =
      let bound : IsBound m state.tables s (session_at state.sessions s) at.work = o.bound s at.work at.goes_on.at_work in
      let table : StoredTable = table_at state.tables at.work.table in
      let fits : FitsPhase (by_box column predicate) at.work.statement visiting =
      subst (λ (p : Phase). FitsPhase (by_box column predicate) at.work.statement p) at.phase (subst (λ (w : Way). FitsPhase w at.work.statement at.work.phase) at.way bound.phase) in
      let is : is_indexed table.schema column ≡ true = box_indexed m.ways table.schema at.work.statement column predicate good.sound fits bound.served at.way in
      let keyed : IsKeyed table = o.keyed.each table (table_there at.work.table state.tables bound.first bound.last) in
      let zero_is : 0 + column ≡ column = omega arith in
      let there : Has (indexed table) column = subst (λ columns. Has columns column) (sym keyed.columns) (subst (λ z. Has (indexed_from 0 table.schema.columns) z) zero_is (columns_have 0 column table.schema.columns is)) in
      subst (λ n. Has (indexed (table_at state.tables n)) column) (sym at.number_is) there

  module _ (s number column : ℕ) (predicate : Predicate) (at : IsVisiting m state (session_at state.sessions s) number column predicate) (good : IsProper m) where
    abbrev pub way_tree : Tree
    way_tree = tree_of (table_at state.tables number) column

    abbrev pub search_then : Search
    search_then = search_before state.searches way_tree s (session_at state.sessions s).number predicate

    abbrev pub search_now : Search
    search_now = visited way_tree search_then

    pub way_whole : Forest way_tree
    way_whole = o.whole number column (way_column s number column predicate at good)

    -- what holds of the statement's search before the visit, begun or not
    pub of_before : (P : ℕ → ℕ → Search → Type 0) → ((x : TreeSearch) → Has state.searches x → P x.table x.column x.search)
        → P number column (begun way_tree s (session_at state.sessions s).number predicate) → P number column search_then
    of_before P each new = by_found (find (is_of s (session_at state.sessions s).number) state.searches) refl
      where
        by_found : (f : Option TreeSearch) → find (is_of s (session_at state.sessions s).number) state.searches ≡ f
            → P number column (search_or f (begun way_tree s (session_at state.sessions s).number predicate))
        by_found None e = new
        by_found (Some y) e =
            let has : Has state.searches y = find_has (is_of s (session_at state.sessions s).number) state.searches y e in
            let w : IsOfWay number column predicate y = of_way m state o s number column predicate at y has (find_passes (is_of s (session_at state.sessions s).number) state.searches y e) in
            subst (λ c. P number c y.search) w.of_column (subst (λ n. P n y.column y.search) w.of_table (each y has))

    -- what holds of each search after the visit
    pub of_searched : (P : ℕ → ℕ → Search → Type 0) → ((x : TreeSearch) → Has state.searches x → P x.table x.column x.search) → P number column search_now
        → (y : TreeSearch) → Has (with_search state.searches number column search_now) y → P y.table y.column y.search
    of_searched P each new y has = elim (searched state.searches number column search_now y has) [
      | inl was ↦ each y was
      | inr n ↦ elim n.of [
        | inl here ↦ at_it y n.is here.0 here.1
        | inr z ↦ (let same : IsSame search_then search_now = visited_same way_tree search_then in
            let mine = before_is_of state.searches way_tree s (session_at state.sessions s).number predicate in
            let is : is_of s (session_at state.sessions s).number z.0 ≡ true =
            ap (λ k. is_of k (session_at state.sessions s).number z.0) (sym (same.session ∙ mine.0)) ∙ ap (λ k. is_of search_now.session k z.0) (sym (same.statement ∙ mine.1)) ∙ z.2 in
            let w : IsOfWay number column predicate z.0 = of_way m state o s number column predicate at z.0 z.1 is in
            at_it y n.is (z.3 ∙ w.of_table) (z.4 ∙ w.of_column))
      ]
    ]
      where
        at_it : (y : TreeSearch) → y.search ≡ search_now → y.table ≡ number → y.column ≡ column → P y.table y.column y.search
        at_it y is t c = subst (λ (x : Search). P y.table y.column x) (sym is) (subst (λ k. P y.table k search_now) (sym c) (subst (λ n. P n column search_now) (sym t) new))

    pub visit_covers : AreCovered state.tables (with_search state.searches number column search_now)
    visit_covers = of_searched (λ n c x. Covered (tree_of (table_at state.tables n) c) x) o.covered
        (visited_covered way_tree search_then way_whole (of_before (λ n c x. Covered (tree_of (table_at state.tables n) c) x) o.covered
        (begun_covered way_tree s (session_at state.sessions s).number predicate way_whole)))

  module _ (s : ℕ) (d : Descent) (at : IsPlacing state (session_at state.sessions s) d) where
    -- the column of the entry that is placed has a tree
    pub placing_column : Has (indexed (table_at state.tables d.table)) d.column
    placing_column =
        let e : IsEntering (session_at state.sessions s) = at.descending.entering in
        let collected : HasCollected state.tables state.sessions s e.work e.change e.e =
        subst (IsCollecting state.tables state.sessions s e.work) e.phase (o.collected s e.work e.goes_on.at_work) in
        let among : Has (map (λ p. p.0) e.e.placed ++ e.e.columns) at.descending.column =
        Has-append_right (map (λ p. p.0) e.e.placed) e.e.columns at.descending.column (subst (λ columns. Has columns at.descending.column) (sym at.descending.next) (inl refl)) in
        let there : Has (indexed (table_at state.tables e.work.table)) at.descending.column =
        of_columns_for (indexed (table_at state.tables e.work.table)) e.change.old e.change.new at.descending.column (subst (λ columns. Has columns at.descending.column) collected.columns among) in
        subst (λ (x : Descent). Has (indexed (table_at state.tables x.table)) x.column) (sym at.descending.descent) there

    pub placing_whole : Forest (tree_for state d)
    placing_whole = o.whole d.table d.column placing_column

    module _ (q : ℕ) (ds : List Division) where
      abbrev pub tables_placed : List StoredTable
      tables_placed = change_table d.table (table_after_place d state.entries q ds) state.tables

      abbrev pub tree_placed : Tree
      tree_placed = tree_after_place d state.entries q ds (tree_for state d)

      -- what holds of each search after the placing
      pub of_placed : (P : ℕ → ℕ → Tree → Search → Type 0)
          → ((x : TreeSearch) → Has state.searches x → x.table ≡ d.table → x.column ≡ d.column → P d.table d.column tree_placed (attached (tree_for state d) d.path d.box d.key state.entries q ds x.search))
          → ((x : TreeSearch) → Has state.searches x → P x.table x.column (tree_of (table_at state.tables x.table) x.column) x.search)
          → (y : TreeSearch) → Has (map (search_after_place (tree_for state d) d state.entries q ds) state.searches) y
          → P y.table y.column (tree_of (table_at tables_placed y.table) y.column) y.search
      of_placed P here elsewhere y has =
          let from : Source (search_after_place (tree_for state d) d state.entries q ds) state.searches y = Has-map (search_after_place (tree_for state d) d state.entries q ds) state.searches y has in
          subst (λ (z : TreeSearch). P z.table z.column (tree_of (table_at tables_placed z.table) z.column) z.search) from.is (by_test from.x from.has (is_of_tree d.table d.column from.x) refl)
        where
          by_test : (x : TreeSearch) → Has state.searches x → (b : Bool) → is_of_tree d.table d.column x ≡ b
              → P x.table x.column (tree_of (table_at tables_placed x.table) x.column) (cond b (attached (tree_for state d) d.path d.box d.key state.entries q ds x.search) x.search)
          by_test x has true e =
              let parts = and_parts (x.table == d.table) (x.column == d.column) e in
              let table : x.table ≡ d.table = eqb-true x.table d.table parts.0 in
              let column : x.column ≡ d.column = eqb-true x.column d.column parts.1 in
              let y : Search = attached (tree_for state d) d.path d.box d.key state.entries q ds x.search in
              let now : P d.table d.column (tree_of (table_at tables_placed d.table) d.column) y =
              subst (λ (t : Tree). P d.table d.column t y) (sym (tree_here d.table d.column (tree_after_place d state.entries q ds) state.tables placing_column)) (here x has table column) in
              subst (λ c. P x.table c (tree_of (table_at tables_placed x.table) c) y) (sym column) (subst (λ n. P n d.column (tree_of (table_at tables_placed n) d.column) y) (sym table) now)
          by_test x has false e =
              subst (λ (t : Tree). P x.table x.column t x.search) (sym (tree_elsewhere d.table d.column (tree_after_place d state.entries q ds) state.tables x.table x.column e)) (elsewhere x has)

      pub place_covers : MayPlaceEntry state s d q ds → AreCovered tables_placed (map (search_after_place (tree_for state d) d state.entries q ds) state.searches)
      place_covers may = of_placed (λ n c t x. Covered t x)
          (λ x has table column. place_covered (tree_for state d) d.path d.box d.key state.entries q ds x.search placing_whole (placing_stands state (session_at state.sessions s) d at)
          (placing_box state (session_at state.sessions s) d at) may.can (of_this x has table column)) o.covered
        where
          of_this : (x : TreeSearch) → Has state.searches x → x.table ≡ d.table → x.column ≡ d.column → Covered (tree_for state d) x.search
          of_this x has table column =
              subst (λ c. Covered (tree_of (table_at state.tables d.table) c) x.search) column (subst (λ n. Covered (tree_of (table_at state.tables n) x.column) x.search) table (o.covered x has))

  create_covers : (s : ℕ) (new : StoredTable) → AreCovered (state.tables ++ new ∷ []) (searches_without state.searches s)
  create_covers s new x has =
      let was : Has state.searches x = Has-filter (λ (z : TreeSearch). not (z.search.session == s)) state.searches x has in
      subst (λ (t : StoredTable). Covered (tree_of t x.column) x.search) (sym (earlier_with_tree x.table x.column new state.tables (listed x was))) (o.covered x was)

pub covered_kept : (m : Machine) (state : State) (actor : Actor) (choice : Choice) → IsProper m → InOrder m state → MayHappen m state actor choice
    → AreCovered (after m state actor choice).tables (after m state actor choice).searches
covered_kept m state actor choice good o h = event_keeps m state good o (λ (st : State). AreCovered st.tables st.searches) each actor choice h
  where
    each : EachKeeps m state (λ (st : State). AreCovered st.tables st.searches)
    each = record {
      still = o.covered;
      purge = λ some. purge_covered m state o state.locks state.queue;
      end = λ s over active x has. o.covered x (Has-filter (λ (z : TreeSearch). not (z.search.session == s)) state.searches x has);
      answer = λ s reply active at. o.covered;
      undo = λ s entry more active at. covered_same state.tables _ state.searches (change_leaves_trees entry.table _ state.tables (λ t. refl)) o.covered;
      create = λ s over name schema leaf roots active at may. create_covers m state o s (new_table name schema leaf roots);
      refuse = λ s on ds active at may. o.covered;
      lock_table = λ s statement number mode active at none. o.covered;
      lock_key = λ s number key mode active at none. o.covered;
      lock_row = λ s number key mode active at none. o.covered;
      visit = λ s number column predicate active at. visit_covers m state o s number column predicate at good;
      scan = λ s number leaf active at. o.covered;
      step = λ s d q active at may. o.covered;
      stale = λ s d active at. o.covered;
      full = λ s active at. o.covered;
      place = λ s d q ds active at may. place_covers m state o s d at q ds may;
      row = λ s number change placed p active at may. covered_same state.tables _ state.searches (change_leaves_trees number (table_after_row p change placed change.new) state.tables
          (λ t. after_row_leaves_trees p change placed change.new t)) o.covered;
    }
