-- What lies on leaves that a search is on stays found, or its session's own.
use Rattle.std.proofs.Common.{◌≡◌, ◌∙◌, ◌+◌, inl, inr, refl, sym, ap, subst, ℕ, ◌==◌, ◌≤◌, not, Bool, true, false, cond, Option, Some, None, List, [], ◌∷◌, ◌++◌, map, arith, eq-eqb}
use Rattle.std.specs.Prelude.{slice_set}
use Rattle.std.specs.List.{last_or}
use Rattle.std.proofs.lemmas.Bool.{false≢true}
use Rattle.isp_base.specs.Lists.{Has}
use Rattle.isp_mbr.specs.declared.predicate.Predicate.{Predicate}
use Rattle.isp_reclock.specs.declared.entries.Lock.{Lock}
use Rattle.isp_forest.specs.Tree.{Tree}
use Rattle.isp_forest.specs.Place.{Division}
use Rattle.isp_forest.specs.Search.{Search, Item, Covered, Known}
use Rattle.isp_forest.specs.Attach.{attached}
use Rattle.isp_laws.proofs.ListLaws.{Has-append, Has-append_left, Has-append_right, Has-filter}
use Rattle.isp_searches.specs.SearchLaws.{MayPlace, item}
use Rattle.isp_searches.proofs.FoundLaws.{forgetting_known}
use Rattle.isp_searches.proofs.PlaceSearchLaws.{place_known}
use Rattle.isp_searches.proofs.RemoveSearchLaws.{remove_known}
use Rattle.isp_searches.proofs.VisitSearchLaws.{begun_known, visit_known}
use Rattle.isp_events.specs.Stored.{StoredTable, change_table, table_at, tree_of}
use Rattle.isp_events.specs.Sessions.{Note, SessionState, session_at}
use Rattle.isp_events.specs.State.{State, TreeSearch, Queued, dead_entry, dead_row, front}
use Rattle.isp_events.specs.Ways.{Machine}
use Rattle.isp_events.specs.Next.{Descent}
use Rattle.isp_events.specs.Reading.{visit_top, visited, with_search}
use Rattle.isp_events.specs.Placing.{MayPlaceEntry, note_of, search_after_place, searches_of, is_of_tree, session_after_place, tree_for}
use Rattle.isp_events.specs.Writing.{table_after_row}
use Rattle.isp_events.specs.Ending.{new_table, searches_without}
use Rattle.isp_events.specs.Purging.{may_leave, table_without, tables_purged, without_entry}
use Rattle.isp_events.specs.Deadlocks.{with_victims}
use Rattle.isp_events.specs.Events.{Actor, Choice, MayHappen, after}
use Rattle.isp_event_laws.proofs.PlacingLaws.{places_undisturbing}
use Rattle.isp_order.specs.Searches.{AreKnown, item_of, items_of}
use Rattle.isp_order.specs.InOrder.{InOrder, IsProper}
use Rattle.isp_order.proofs.SessionLaws.{other_at, same_at, seated}
use Rattle.isp_causes.specs.Causes.{IsActive, IsPlacing, IsVisiting}
use Rattle.isp_causes.proofs.EventCases.{EachKeeps, event_keeps}
use Rattle.isp_order_trees.proofs.TreeParts.{SameTrees, change_leaves_trees, earlier_with_tree, same_tree, tree_keeps}
use Rattle.isp_order_trees.proofs.WholeLaws.{after_row_leaves_trees, placing_box, placing_stands, purged_row_leaves_trees}
use Rattle.isp_order_trees.proofs.CoveredLaws.{listed, of_before, of_placed, of_searched, placing_whole, search_now, search_then, tables_placed, tree_placed, way_tree}
use Rattle.isp_order_trees.proofs.NoteParts.{KeepsPlaced, items_kept, known_noted, noted_items, same_notes_keep, set_relates, victims_leave}

visited_known : (tree : Tree) (x : Search) (items : List Item) → Known tree x items → Known tree (visited tree x) items
visited_known tree x items known = by_top (last_or None x.stack) refl
  where
    by_top : (o : Option (ℕ × ℕ)) → last_or None x.stack ≡ o → Known tree (visit_top tree x o) items
    by_top None e = known
    by_top (Some top) e = visit_known tree x items (front x.stack) top.0 top.1 known

left_other : (searches : List TreeSearch) (s : ℕ) (y : TreeSearch) → Has (searches_without searches s) y → (y.search.session == s) ≡ false
left_other [] s y h = absurd h
left_other (x ∷ searches) s y h = by_test (x.search.session == s) refl (λ k. left_other searches s y k) h
  where
    by_test : (b : Bool) → (x.search.session == s) ≡ b → (Has (searches_without searches s) y → (y.search.session == s) ≡ false)
        → Has (cond (not b) (x ∷ searches_without searches s) (searches_without searches s)) y → (y.search.session == s) ≡ false
    by_test true e again k = again k
    by_test false e again (inl same) = ap (λ (z : TreeSearch). z.search.session == s) (sym same) ∙ e
    by_test false e again (inr k) = again k

of_tree_has : (searches : List TreeSearch) (d : Descent) (x : TreeSearch) → Has searches x → is_of_tree d.table d.column x ≡ true → Has (searches_of searches d) x
of_tree_has [] d x h t = absurd h
of_tree_has (z ∷ searches) d x (inl same) t =
    let here : is_of_tree d.table d.column z ≡ true = ap (is_of_tree d.table d.column) same ∙ t in rw here (inl same)
of_tree_has (z ∷ searches) d x (inr h) t = later (is_of_tree d.table d.column z) (of_tree_has searches d x h t)
  where
    later : (b : Bool) → Has (searches_of searches d) x → Has (cond b (z ∷ searches_of searches d) (searches_of searches d)) x
    later true k = inr k
    later false k = k

item_of_note : (s : ℕ) (d : Descent) (number statement : ℕ) → item_of s d.table d.column (note_of d number statement) ≡ Some (item s statement d.key number)
item_of_note s d number statement =
    let table : (d.table == d.table) ≡ true = eq-eqb d.table d.table refl in
    let column : (d.column == d.column) ≡ true = eq-eqb d.column d.column refl in
    rw (table, column) refl

-- ---- over trees that stay

known_same : (tables after : List StoredTable) (searches : List TreeSearch) (sessions then : List SessionState) → SameTrees tables after
    → ((s : ℕ) → KeepsPlaced sessions then s) → AreKnown tables searches sessions → AreKnown after searches then
known_same tables after searches sessions then same keeps known x has =
    known_noted (tree_of (table_at after x.table) x.column) x.search sessions then x.table x.column (keeps x.search.session)
    (subst (λ (t : Tree). Known t x.search (items_of sessions x.table x.column)) (sym (same_tree tables after same x.table x.column)) (known x has))

module _ (m : Machine) (state : State) (o : InOrder m state) where
  -- a session that notes what it had, and may note more
  grown : (s : ℕ) (new : SessionState) → ((note : Note) → Has (session_at state.sessions s).notes note → Has new.notes note) → (j : ℕ) → KeepsPlaced state.sessions (slice_set state.sessions s new) j
  grown s new more j = λ note h is. set_relates (λ x y. ((n : Note) → Has x.notes n → Has y.notes n)) (λ x n k. k) state.sessions s new more j note h

  unnoted : (s : ℕ) (new : SessionState) → new.notes ≡ (session_at state.sessions s).notes → AreKnown state.tables state.searches (slice_set state.sessions s new)
  unnoted s new same = known_same state.tables state.tables state.searches state.sessions (slice_set state.sessions s new) (λ i. refl)
      (λ j. grown s new (λ note h. subst (λ (notes : List Note). Has notes note) (sym same) h) j) o.known

  purge_knows : (locks : List Lock) (queue : List Queued) → AreKnown (tables_purged locks queue state.tables) state.searches state.sessions
  purge_knows locks [] = o.known
  purge_knows locks (dead_entry e ∷ queue) = λ x has. tree_keeps (λ (t : Tree). Known t x.search (items_of state.sessions x.table x.column)) e.table e.column (without_entry e.number) state.tables
      (λ k. remove_known (tree_of (table_at state.tables e.table) e.column) e.number x.search (items_of state.sessions x.table x.column) k) x.table x.column (listed m state o x has) (o.known x has)
  purge_knows locks (dead_row number key ∷ queue) =
      known_same state.tables (cond (may_leave locks (table_at state.tables number) number key) (change_table number (table_without key) state.tables) state.tables) state.searches state.sessions state.sessions
      (purged_row_leaves_trees (may_leave locks (table_at state.tables number) number key) number key state.tables) (λ s note h is. h) o.known

  -- an end leaves the searches of others, and what they placed
  ended_knows : (s : ℕ) (new : SessionState) (x : TreeSearch) → Has (searches_without state.searches s) x
      → Known (tree_of (table_at state.tables x.table) x.column) x.search (items_of (slice_set state.sessions s new) x.table x.column)
  ended_knows s new x has =
      let was : Has state.searches x = Has-filter (λ (z : TreeSearch). not (z.search.session == s)) state.searches x has in
      let other : (x.search.session == s) ≡ false = left_other state.searches s x has in
      known_noted (tree_of (table_at state.tables x.table) x.column) x.search state.sessions (slice_set state.sessions s new) x.table x.column
      (λ note h is. subst (λ (z : SessionState). Has z.notes note) (sym (other_at state.sessions s x.search.session new other)) h) (o.known x was)

  visit_knows : (s number column : ℕ) (predicate : Predicate) (at : IsVisiting m state (session_at state.sessions s) number column predicate) (good : IsProper m) (new : SessionState) → new.notes ≡ (session_at state.sessions s).notes
      → AreKnown state.tables (with_search state.searches number column (search_now m state o s number column predicate at good)) (slice_set state.sessions s new)
  visit_knows s number column predicate at good new same = λ y has.
      known_noted (tree_of (table_at state.tables y.table) y.column) y.search state.sessions (slice_set state.sessions s new) y.table y.column
      (grown s new (λ note h. subst (λ (notes : List Note). Has notes note) (sym same) h) y.search.session)
      (of_searched m state o s number column predicate at good (λ n c x. Known (tree_of (table_at state.tables n) c) x (items_of state.sessions n c)) o.known
      (visited_known (way_tree m state o s number column predicate at good) (search_then m state o s number column predicate at good) (items_of state.sessions number column)
      (of_before m state o s number column predicate at good (λ n c x. Known (tree_of (table_at state.tables n) c) x (items_of state.sessions n c)) o.known
      (begun_known (way_tree m state o s number column predicate at good) (items_of state.sessions number column) s (session_at state.sessions s).number predicate))) y has)

  module _ (s : ℕ) (d : Descent) (at : IsPlacing state (session_at state.sessions s) d) (q : ℕ) (ds : List Division) (may : MayPlaceEntry state s d q ds) (active : IsActive state s) where
    abbrev number_now : ℕ
    number_now = (session_at state.sessions s).number

    abbrev sessions_placed : List SessionState
    sessions_placed = slice_set state.sessions s (session_after_place d state.entries (session_at state.sessions s))

    placed_keeps : (j : ℕ) → KeepsPlaced state.sessions sessions_placed j
    placed_keeps j = grown s (session_after_place d state.entries (session_at state.sessions s))
        (λ note h. Has-append_left (session_at state.sessions s).notes (note_of d state.entries number_now ∷ []) note h) j

    new_item : Has (items_of sessions_placed d.table d.column) (item s number_now d.key state.entries)
    new_item =
        let new : SessionState = session_after_place d state.entries (session_at state.sessions s) in
        let there : Has new.notes (note_of d state.entries number_now) =
        Has-append_right (session_at state.sessions s).notes (note_of d state.entries number_now ∷ []) (note_of d state.entries number_now) (inl refl) in
        let at_s : Has (session_at sessions_placed s).notes (note_of d state.entries number_now) =
        subst (λ (z : SessionState). Has z.notes (note_of d state.entries number_now)) (sym (same_at state.sessions s new (seated state.sessions s active.not_over))) there in
        let same : s ≡ 0 + s = omega arith in
        noted_items 0 d.table d.column sessions_placed s (note_of d state.entries number_now) (item s number_now d.key state.entries) at_s
        (subst (λ z. item_of z d.table d.column (note_of d state.entries number_now) ≡ Some (item s number_now d.key state.entries)) same (item_of_note s d state.entries number_now))

    -- the entry may be placed as far as a search of its tree goes
    may_place : (x : TreeSearch) → Has state.searches x → x.table ≡ d.table → x.column ≡ d.column → MayPlace (tree_for state d) d.path d.box s number_now x.search
    may_place x has table column = by_test (x.search.session == s) refl
      where
        among : Has (searches_of state.searches d) x
        among =
            let t : (x.table == d.table) ≡ true = eq-eqb x.table d.table table in
            let c : (x.column == d.column) ≡ true = eq-eqb x.column d.column column in
            of_tree_has state.searches d x has (rw (t, c) refl)

        by_test : (b : Bool) → (x.search.session == s) ≡ b → MayPlace (tree_for state d) d.path d.box s number_now x.search
        by_test true e = record {
          others = λ other. absurd (false≢true (sym other ∙ e));
          own = λ same. subst (λ z. x.search.statement ≤ (session_at state.sessions z).number) same (o.belongs.each x has).statement;
        }
        by_test false e = places_undisturbing state s d number_now x (λ z h. (o.belongs.each z h).numbered) may.alone among e

    place_knows : AreKnown (tables_placed m state o s d at q ds) (map (search_after_place (tree_for state d) d state.entries q ds) state.searches) sessions_placed
    place_knows = of_placed m state o s d at q ds (λ n c t x. Known t x (items_of sessions_placed n c)) here
        (λ x has. known_noted (tree_of (table_at state.tables x.table) x.column) x.search state.sessions sessions_placed x.table x.column (placed_keeps x.search.session) (o.known x has))
      where
        here : (x : TreeSearch) → Has state.searches x → x.table ≡ d.table → x.column ≡ d.column
            → Known (tree_placed m state o s d at q ds) (attached (tree_for state d) d.path d.box d.key state.entries q ds x.search) (items_of sessions_placed d.table d.column)
        here x has table column =
            let knows : Known (tree_for state d) x.search (items_of state.sessions d.table d.column) =
            subst (λ c. Known (tree_of (table_at state.tables d.table) c) x.search (items_of state.sessions d.table c)) column
            (subst (λ n. Known (tree_of (table_at state.tables n) x.column) x.search (items_of state.sessions n x.column)) table (o.known x has)) in
            let covers : Covered (tree_for state d) x.search =
            subst (λ c. Covered (tree_of (table_at state.tables d.table) c) x.search) column (subst (λ n. Covered (tree_of (table_at state.tables n) x.column) x.search) table (o.covered x has)) in
            let y : Search = attached (tree_for state d) d.path d.box d.key state.entries q ds x.search in
            let all : Known (tree_placed m state o s d at q ds) y (items_of state.sessions d.table d.column ++ item s number_now d.key state.entries ∷ []) =
            place_known (tree_for state d) d.path d.box d.key state.entries q ds x.search (items_of state.sessions d.table d.column) s number_now (placing_whole m state o s d at)
            (placing_stands state (session_at state.sessions s) d at) (placing_box state (session_at state.sessions s) d at) may.can (may_place x has table column) covers knows in
            forgetting_known (tree_placed m state o s d at q ds) y (items_of state.sessions d.table d.column ++ item s number_now d.key state.entries ∷ []) (items_of sessions_placed d.table d.column)
            (λ i h own. elim (Has-append (items_of state.sessions d.table d.column) (item s number_now d.key state.entries ∷ []) i h) [
              | inl old ↦ items_kept state.sessions sessions_placed d.table d.column i (placed_keeps i.session) old
              | inr new ↦ elim new [ inl same ↦ subst (λ (z : Item). Has (items_of sessions_placed d.table d.column) z) same new_item | inr none ↦ absurd none ]
            ]) all

  create_knows : (s : ℕ) (new : StoredTable) (session : SessionState) → AreKnown (state.tables ++ new ∷ []) (searches_without state.searches s) (slice_set state.sessions s session)
  create_knows s new session x has =
      let was : Has state.searches x = Has-filter (λ (z : TreeSearch). not (z.search.session == s)) state.searches x has in
      subst (λ (t : StoredTable). Known (tree_of t x.column) x.search (items_of (slice_set state.sessions s session) x.table x.column))
      (sym (earlier_with_tree x.table x.column new state.tables (listed m state o x was))) (ended_knows s session x has)

pub known_kept : (m : Machine) (state : State) (actor : Actor) (choice : Choice) → IsProper m → InOrder m state → MayHappen m state actor choice
    → AreKnown (after m state actor choice).tables (after m state actor choice).searches (after m state actor choice).sessions
known_kept m state actor choice good o h = event_keeps m state good o (λ (st : State). AreKnown st.tables st.searches st.sessions) each actor choice h
  where
    each : EachKeeps m state (λ (st : State). AreKnown st.tables st.searches st.sessions)
    each = record {
      still = o.known;
      purge = λ some. purge_knows m state o state.locks state.queue;
      end = λ s over active. ended_knows m state o s _;
      answer = λ s reply active at. unnoted m state o s _ refl;
      undo = λ s entry more active at. known_same state.tables _ state.searches state.sessions _ (change_leaves_trees entry.table _ state.tables (λ t. refl))
          (λ j. grown m state o s _ (λ note k. k) j) o.known;
      create = λ s over name schema leaf roots active at may. create_knows m state o s (new_table name schema leaf roots) _;
      refuse = λ s on ds active at may. known_same state.tables state.tables state.searches state.sessions (with_victims state.sessions ds) (λ i. refl)
          (same_notes_keep state.sessions (with_victims state.sessions ds) (victims_leave (λ x. x.notes) (λ x. refl) state.sessions ds)) o.known;
      lock_table = λ s statement number mode active at none. unnoted m state o s _ refl;
      lock_key = λ s number key mode active at none. unnoted m state o s _ refl;
      lock_row = λ s number key mode active at none. unnoted m state o s _ refl;
      visit = λ s number column predicate active at. visit_knows m state o s number column predicate at good _ refl;
      scan = λ s number leaf active at. unnoted m state o s _ refl;
      step = λ s d q active at may. unnoted m state o s _ refl;
      stale = λ s d active at. unnoted m state o s _ refl;
      full = λ s active at. unnoted m state o s _ refl;
      place = λ s d q ds active at may. place_knows m state o s d at q ds may active;
      row = λ s number change placed p active at may. known_same state.tables _ state.searches state.sessions _ (change_leaves_trees number (table_after_row p change placed change.new) state.tables
          (λ t. after_row_leaves_trees p change placed change.new t)) (λ j. grown m state o s _ (λ note k. Has-append_left (session_at state.sessions s).notes _ note k) j) o.known;
    }
