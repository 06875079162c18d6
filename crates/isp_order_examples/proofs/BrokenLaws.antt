-- Wrong events break the clause that speaks of them, by computation.
use Rattle.std.proofs.Common.{◌≡◌, ◌∙◌, inl, inr, refl, sym, ap, subst, ℕ, ℤ, pos, ◌==◌, ◌&&◌, not, cond, Bool, true, false, Option, Some, None, List, [], ◌∷◌, ◌++◌, length, arith, eqb-true, eq-eqb}
use Rattle.std.specs.List.{IsDistinct, list_any}
use Rattle.std.specs.Prelude.{IsTrue, flat_map, is_none}
use Rattle.std.proofs.lemmas.Bool.{false≢true, and_parts, or_left, or_right}
use Rattle.isp_base.specs.Lists.{Has}
use Rattle.isp_waits.specs.Graphs.{WaitsFor, has}
use Rattle.isp_waits.specs.Levels.{reaches, walk}
use Rattle.isp_geom.specs.Bounds.{points_of}
use Rattle.isp_geom.specs.Spelling.{spelling}
use Rattle.isp_mbr.specs.Boxes.{same as same_box}
use Rattle.isp_mbr.specs.Predicates.{may_hold}
use Rattle.isp_mbr.specs.declared.predicate.Predicate.{Predicate}
use Rattle.isp_plain.specs.declared.statement.Statement.{Statement}
use Rattle.isp_plain.specs.declared.statement.Statement.TheVariants.{Begin, Commit, Rollback, Select}
use Rattle.isp_plain.specs.Tables.{Table}
use Rattle.isp_forest.specs.declared.entry.Entry.{Entry}
use Rattle.isp_forest.specs.declared.entry.To.{To}
use Rattle.isp_forest.specs.declared.entry.To.TheVariants.{Child, Row}
use Rattle.isp_forest.specs.Tree.{Node, Tree, child_of, page_at, page_in}
use Rattle.isp_forest.specs.Place.{Names}
use Rattle.isp_forest.specs.Steps.{is_among}
use Rattle.isp_reclock.specs.declared.entries.Lock.{Lock}
use Rattle.isp_reclock.specs.Tables.{takes}
use Rattle.isp_searches.specs.SearchLaws.{IsOnLeaf}
use Rattle.isp_serial.specs.declared.script.Word.{Word}
use Rattle.isp_events.specs.Stored.{StoredTable, Version, box_in, kept_at, table_at, tree_of}
use Rattle.isp_events.specs.Sessions.{SessionState, UndoEntry, session_at}
use Rattle.isp_events.specs.State.{Queued, State, TreeSearch, is_empty}
use Rattle.isp_events.specs.Views.{committed}
use Rattle.isp_events.specs.Ways.{Machine}
use Rattle.isp_events.specs.Next.{next}
use Rattle.isp_events.specs.Events.{Event, MayFollow, after_all, lines_of_all, with_divisions, with_nothing, with_undo_pages}
use Rattle.isp_event_laws.proofs.EventTests.{follow_by_test, follow_test}
use Rattle.isp_event_laws.proofs.ListTests.{any_has, empty_is, not_is}
use Rattle.isp_order.specs.Trees.{AreEntered, AreRestorable, HaveOneStatus, IsDead, IsRestorable, IsSettled, StandsAt, entry_of, leaf_entry}
use Rattle.isp_order.specs.Locks.{AreIntended, AreLocked, HaveNoCycle, Holds, HoldsIntention}
use Rattle.isp_order.specs.Searches.{AreCovered}
use Rattle.isp_order.specs.InOrder.{InOrder, IsProper, IsRested}
use Rattle.isp_order.proofs.RestedLaws.{in_order}
use Rattle.isp_order_whole.proofs.WholeLaws.{stays_in_order}
use Rattle.isp_event_examples.specs.Deadlocked.{deadlocking}
use Rattle.isp_event_examples.specs.Language.{by_first_atom, numbered, with_key}
use Rattle.isp_event_examples.specs.Points.{adding_point, five, machine_of, named_p, nothing, point_row, points_meeting, puts_on}
use Rattle.isp_event_examples.specs.WrongRuns.{texts}
use Rattle.isp_event_examples.specs.WrongMachines.{live_queued, locks_go_early, numbers_not_undone as undoes_without_numbers}
use Rattle.isp_event_examples.proofs.LanguageLaws.{language_fits}
use Rattle.isp_order_examples.specs.BrokenClauses as wrong
use Rattle.isp_order_examples.specs.BrokenClauses.{Breaks, WrongEventsBreak, by, exchanged, purge_where}
use Rattle.isp_order_examples.specs.Deadlock.{DeadlockIsInOrder, until_deadlock}
use Rattle.isp_order_examples.specs.ThreeSessions.{for_three, machine_of_three}
use Rattle.isp_order_examples.proofs.RestedPointLaws.{five_rested, for_three_rested}

-- ---- events lead from a rested state to states in order

proper : (m : Machine) (statements : List Statement) → m.language ≡ numbered statements → m.ways ≡ by_first_atom → IsProper m
proper m statements is ways = record {
  faithful = subst (λ l. Rattle.isp_serial.specs.Alone.IsFaithful l) (sym is) (language_fits.faithful statements);
  servable = subst (λ l. Rattle.isp_events.specs.Ways.IsServable l) (sym is) (language_fits.servable statements);
  sound = subst (λ w. Rattle.isp_events.specs.Ways.AreSound w) (sym ways) language_fits.sound;
}

led : (m : Machine) (start : State) (events : List Event) → IsProper m → IsRested m start → MayFollow m 1 1 start events → InOrder m (after_all m start events)
led m start events good rested happen =
    stays_in_order m 1 1 start (after_all m start events) (lines_of_all m start events) good (in_order m start rested) (record { events = events; happen = happen; told = refl; ends = refl })

-- of two sessions on the five points, or of three
breaks : (statements : List Statement) (first second : List (List ℕ)) (words : List Word) (events : List Event) (wrong : State → State) (Clause : State → Type 0)
    → follow_test (machine_of statements first second words) 1 1 five events ≡ true
    → (Clause (wrong (after_all (machine_of statements first second words) five events)) → ⊥) → Breaks (machine_of statements first second words) five events wrong Clause
breaks statements first second words events wrong Clause test fails =
    let m : Machine = machine_of statements first second words in
    let happen : MayFollow m 1 1 five events = follow_by_test m 1 1 five events test in
    record { happen = happen; in_order = led m five events (proper m statements refl refl) (five_rested statements first second words) happen; fails = fails }

breaks_of_three : (statements : List Statement) (first second third : List (List ℕ)) (events : List Event) (wrong : State → State) (Clause : State → Type 0)
    → follow_test (machine_of_three statements first second third) 1 1 for_three events ≡ true
    → (Clause (wrong (after_all (machine_of_three statements first second third) for_three events)) → ⊥) → Breaks (machine_of_three statements first second third) for_three events wrong Clause
breaks_of_three statements first second third events wrong Clause test fails =
    let m : Machine = machine_of_three statements first second third in
    let happen : MayFollow m 1 1 for_three events = follow_by_test m 1 1 for_three events test in
    record { happen = happen; in_order = led m for_three events (proper m statements refl refl) (for_three_rested statements first second third) happen; fails = fails }

-- ---- clauses that fail, by what computes

-- the key of the first undo entry has no row
abbrev is_lost : List StoredTable → List UndoEntry → Bool
is_lost tables [] = false
is_lost tables (u ∷ us) = is_none (kept_at (table_at tables u.table) u.key)

not_restorable : (tables : List StoredTable) (sessions : List SessionState) (s : ℕ) → is_lost tables (session_at sessions s).undo ≡ true → AreRestorable tables sessions → ⊥
not_restorable tables sessions s lost h = by_list (session_at sessions s).undo lost (λ u has. h s u has)
  where
    by_list : (us : List UndoEntry) → is_lost tables us ≡ true → ((u : UndoEntry) → Has us u → IsRestorable tables (session_at sessions s) u) → ⊥
    by_list [] e each = false≢true e
    by_list (u ∷ us) e each = let r : IsRestorable tables (session_at sessions s) u = each u (inl refl) in false≢true (sym (ap is_none r.there) ∙ e)

not_locked : (locks : List Lock) (sessions : List SessionState) (s : ℕ) (undo : UndoEntry) → Has (session_at sessions s).undo undo → takes locks undo.table undo.key s ≡ false
    → AreLocked locks sessions → ⊥
not_locked locks sessions s undo has free h = false≢true (sym free ∙ h.undone s undo has)

has_any : {X : Type 0} (t : X → Bool) (xs : List X) (x : X) → Has xs x → t x ≡ true → list_any t xs ≡ true
has_any t [] x h e = absurd h
has_any t (y ∷ xs) x (inl is) e = or_left (t y) (list_any t xs) (ap t is ∙ e)
has_any t (y ∷ xs) x (inr h) e = or_right (t y) (list_any t xs) (has_any t xs x h e)

page_has : (t : Node → Bool) (pages : List (ℕ × Node)) (p : ℕ) (page : Node) → page_in pages p ≡ Some page → t page ≡ true → list_any (λ x. t x.1) pages ≡ true
page_has t [] p page h e = let no : ⊥ = cc in absurd no
page_has t (x ∷ pages) p page h e = by_test (x.0 == p) (λ k. page_has t pages p page k e) h
  where
    by_test : (b : Bool) → (page_in pages p ≡ Some page → list_any (λ y. t y.1) pages ≡ true) → cond b (Some x.1) (page_in pages p) ≡ Some page → list_any (λ y. t y.1) (x ∷ pages) ≡ true
    by_test true again k = or_left (t x.1) (list_any (λ y. t y.1) pages) (let same : x.1 ≡ page = cc in ap t same ∙ e)
    by_test false again k = or_right (t x.1) (list_any (λ y. t y.1) pages) (again k)

-- no entry of the tree passes a test that the entry does
not_on_leaf : (test : Entry → Bool) (tree : Tree) (e : Entry) (key : ℤ) (number : ℕ) → list_any (λ (x : ℕ × Node). list_any test x.1.entries) tree.pages ≡ false → test e ≡ true
    → IsOnLeaf tree e key number → ⊥
not_on_leaf test tree e key number none passes on =
    false≢true (sym none ∙ page_has (λ page. list_any test page.entries) tree.pages on.p on.leaf on.there (has_any test on.leaf.entries e on.has passes))

-- a row stands whose entry lies on no leaf
not_entered : (test : Entry → Bool) (tables : List StoredTable) (sessions : List SessionState) (table : ℕ) (key : ℤ) (version : Version) (column number : ℕ) → StandsAt tables table key version
    → Rattle.isp_order.specs.Trees.HasNumber tables table version column number
    → list_any (λ (x : ℕ × Node). list_any test x.1.entries) (tree_of (table_at tables table) column).pages ≡ false
    → test (leaf_entry (entry_of table key version column number)) ≡ true → AreEntered tables sessions → ⊥
not_entered test tables sessions table key version column number stands has none passes h =
    not_on_leaf test (tree_of (table_at tables table) column) (leaf_entry (entry_of table key version column number)) key number none passes (h.rows table key version stands column number has)

not_one_status : (tables : List StoredTable) (sessions : List SessionState) (queue : List Queued) (table column : ℕ) (key : ℤ) (number : ℕ) → IsSettled tables sessions table column key number → IsDead queue number
    → HaveOneStatus tables sessions queue → ⊥
not_one_status tables sessions queue table column key number settled dead h = h.settled_alive table column key number settled dead

no_intention : (locks : List Lock) (searches : List TreeSearch) (x : TreeSearch) → Has searches x
    → Rattle.isp_reclock.specs.Tables.holds locks (Rattle.isp_order.specs.Locks.lock_on x.search.session x.table None Rattle.isp_reclock.specs.declared.modes.Mode.TheVariants.IS) ≡ false
    → Rattle.isp_reclock.specs.Tables.holds locks (Rattle.isp_order.specs.Locks.lock_on x.search.session x.table None Rattle.isp_reclock.specs.declared.modes.Mode.TheVariants.IX) ≡ false
    → AreIntended locks searches → ⊥
no_intention locks searches x has is ix h = elim (h.searching x has) [ inl k ↦ false≢true (sym is ∙ k) | inr k ↦ false≢true (sym ix ∙ k) ]

-- a child that may hold what is looked for, and that the search doesn't see
not_covered : (tables : List StoredTable) (searches : List TreeSearch) (x : TreeSearch) (p q : ℕ) (e : Entry) → Has searches x → Has x.search.on p
    → Names (tree_of (table_at tables x.table) x.column) p q e → may_hold x.search.predicate e.b ≡ true → x.search.stack ≡ [] → (Has x.search.on q → ⊥) → AreCovered tables searches → ⊥
not_covered tables searches x p q e among on names may empty unseen h =
    elim ((h x among).children p q e on names may) [
      | inl k ↦ unseen k
      | inr r ↦ (let none : Has {X = ℕ × ℕ} [] (r.from, r.ssn) = subst (λ (xs : List (ℕ × ℕ)). Has {X = ℕ × ℕ} xs (r.from, r.ssn)) empty r.remembered in none)
    ]

abbrev is_child : ℕ → Option ℕ → Bool
is_child q None = false
is_child q (Some c) = c == q

abbrev leads_on : Predicate → ℕ → Option Node → Bool
leads_on predicate q None = false
leads_on predicate q (Some page) = list_any (λ (e : Entry). is_child q (child_of e) && may_hold predicate e.b) page.entries

-- the search is on page p, which has an entry for page q that may hold what it looks for; it isn't on q, and has nothing left to visit
abbrev misses : List StoredTable → ℕ → ℕ → TreeSearch → Bool
misses tables p q x =
    is_among x.search.on p && (not (is_among x.search.on q) && (is_empty x.search.stack && leads_on x.search.predicate q (page_at (tree_of (table_at tables x.table) x.column) p)))

among_has : (xs : List ℕ) (q : ℕ) → is_among xs q ≡ true → Has xs q
among_has xs q h = let r = any_has (λ p. p == q) xs h in subst (λ (z : ℕ). Has xs z) (eqb-true r.x q r.passes) r.has

child_is : (o : Option ℕ) (q : ℕ) → is_child q o ≡ true → o ≡ Some q
child_is None q h = absurd (false≢true h)
child_is (Some c) q h = ap Some (eqb-true c q h)

uncovered_one : (tables : List StoredTable) (searches : List TreeSearch) (x : TreeSearch) (p q : ℕ) → Has searches x → misses tables p q x ≡ true → AreCovered tables searches → ⊥
uncovered_one tables searches x p q among test h =
    let one = and_parts (is_among x.search.on p) (not (is_among x.search.on q) && (is_empty x.search.stack && leads_on x.search.predicate q (page_at (tree_of (table_at tables x.table) x.column) p))) test in
    let two = and_parts (not (is_among x.search.on q)) (is_empty x.search.stack && leads_on x.search.predicate q (page_at (tree_of (table_at tables x.table) x.column) p)) one.1 in
    let three = and_parts (is_empty x.search.stack) (leads_on x.search.predicate q (page_at (tree_of (table_at tables x.table) x.column) p)) two.1 in
    by_page (page_at (tree_of (table_at tables x.table) x.column) p) refl three.1 (among_has x.search.on p one.0) (not_is (is_among x.search.on q) two.0) (empty_is x.search.stack three.0)
  where
    by_page : (o : Option Node) → page_at (tree_of (table_at tables x.table) x.column) p ≡ o → leads_on x.search.predicate q o ≡ true → Has x.search.on p → is_among x.search.on q ≡ false → x.search.stack ≡ [] → ⊥
    by_page None e k on none empty = false≢true k
    by_page (Some page) e k on none empty =
        let r = any_has (λ (y : Entry). is_child q (child_of y) && may_hold x.search.predicate y.b) page.entries k in
        let parts = and_parts (is_child q (child_of r.x)) (may_hold x.search.predicate r.x.b) r.passes in
        not_covered tables searches x p q r.x among on (record { page = page; there = e; has = r.has; to = child_is (child_of r.x) q parts.0 }) parts.1 empty
        (λ has. false≢true (sym none ∙ has_any (λ z. z == q) x.search.on q has (eq-eqb q q refl))) h

uncovered : (tables : List StoredTable) (searches : List TreeSearch) (p q : ℕ) → list_any (misses tables p q) searches ≡ true → AreCovered tables searches → ⊥
uncovered tables searches p q test h = let r = any_has (misses tables p q) searches test in uncovered_one tables searches r.x p q r.has r.passes h

-- ---- each of them

key_locks_alone : Breaks (wrong.purging_machine (2 ∷ 3 ∷ [])) five wrong.scanned_away (purge_where wrong.looks_at_keys) wrong.restorable
unfolding next points_of spelling
key_locks_alone = breaks wrong.purging_statements (texts (2 ∷ 3 ∷ [])) (texts (0 ∷ 1 ∷ [])) [] wrong.scanned_away (purge_where wrong.looks_at_keys) wrong.restorable refl (not_restorable (purge_where wrong.looks_at_keys (after_all (wrong.purging_machine (2 ∷ 3 ∷ [])) five wrong.scanned_away)).tables (purge_where wrong.looks_at_keys (after_all (wrong.purging_machine (2 ∷ 3 ∷ [])) five wrong.scanned_away)).sessions 1 refl)

no_locks : Breaks (wrong.purging_machine (2 ∷ 0 ∷ [])) five wrong.deleted_again (purge_where wrong.looks_at_no_lock) wrong.restorable
unfolding next points_of spelling
no_locks = breaks wrong.purging_statements (texts (2 ∷ 0 ∷ [])) (texts (0 ∷ 1 ∷ [])) [] wrong.deleted_again (purge_where wrong.looks_at_no_lock) wrong.restorable refl (not_restorable (purge_where wrong.looks_at_no_lock (after_all (wrong.purging_machine (2 ∷ 0 ∷ [])) five wrong.deleted_again)).tables (purge_where wrong.looks_at_no_lock (after_all (wrong.purging_machine (2 ∷ 0 ∷ [])) five wrong.deleted_again)).sessions 1 refl)

abbrev rows_in : List Table → ℕ
rows_in tables = length (flat_map (λ (table : Table). table.rows) tables)

unmarked : Breaks (wrong.purging_machine []) five (wrong.added_again ++ wrong.purged) (purge_where wrong.looks_at_no_mark)
    (λ state. committed state ≡ committed (after_all (wrong.purging_machine []) five (wrong.added_again ++ wrong.purged)))
unfolding next points_of spelling
unmarked = breaks wrong.purging_statements (texts []) (texts (0 ∷ 1 ∷ [])) [] (wrong.added_again ++ wrong.purged) (purge_where wrong.looks_at_no_mark)
    (λ state. committed state ≡ committed (after_all (wrong.purging_machine []) five (wrong.added_again ++ wrong.purged))) refl
    (λ e. (let no : 4 ≡ 5 = ap rows_in e in omega (arith, no)))

live_entries : Breaks wrong.moving five wrong.moved (exchanged wrong.moving 1 with_nothing live_queued) wrong.one_status
unfolding next points_of spelling
live_entries = breaks (wrong.move_to 1 1 ∷ []) (texts (0 ∷ [])) [] [] wrong.moved (exchanged wrong.moving 1 with_nothing live_queued) wrong.one_status refl
    (not_one_status _ _ _ 1 1 (pos 1) 5 (record { version = record { row = point_row 1 1 1; numbers = 5 ∷ [] }; committed = refl; has = refl }) (inl refl))

abbrev has_number : ℕ → To → Bool
has_number number (Child p) = false
has_number number (Row key n) = n == number

row_before_entries : Breaks wrong.adding five (by 1 (nothing 2)) (exchanged wrong.adding 1 (puts_on 16 (18 ∷ [])) wrong.row_first) wrong.entered
unfolding next points_of spelling
row_before_entries = breaks (adding_point 6 1 1 ∷ []) (texts (0 ∷ [])) [] [] (by 1 (nothing 2)) (exchanged wrong.adding 1 (puts_on 16 (18 ∷ [])) wrong.row_first) wrong.entered refl
    (not_entered (λ e. has_number 5 e.to) _ _ 1 (pos 6) (record { row = point_row 6 1 1; numbers = 5 ∷ [] }) 1 5 refl refl refl refl)

numbers_not_undone : Breaks wrong.moving_back five wrong.moved_and_answered (exchanged wrong.moving_back 1 (with_undo_pages 0) undoes_without_numbers) wrong.entered
unfolding next points_of spelling
numbers_not_undone = breaks (Begin ∷ wrong.move_to 3 3 ∷ Rollback ∷ []) (texts (0 ∷ 1 ∷ 2 ∷ [])) [] [] wrong.moved_and_answered (exchanged wrong.moving_back 1 (with_undo_pages 0) undoes_without_numbers) wrong.entered refl
    (not_entered (λ e. has_number 5 e.to && same_box e.b (box_in (point_row 1 0 0) 1)) _ _ 1 (pos 1) (record { row = point_row 1 0 0; numbers = 5 ∷ [] }) 1 5 refl refl refl refl)

rollback_lets_go : Breaks wrong.deleting_two five wrong.two_deleted (exchanged wrong.deleting_two 1 (with_undo_pages 0) locks_go_early) wrong.written_locked
unfolding next points_of spelling
rollback_lets_go = breaks (Begin ∷ wrong.delete_key 1 ∷ wrong.delete_key 2 ∷ Rollback ∷ []) (texts (0 ∷ 1 ∷ 2 ∷ 3 ∷ [])) [] [] wrong.two_deleted (exchanged wrong.deleting_two 1 (with_undo_pages 0) locks_go_early) wrong.written_locked refl (not_locked _ _ 1 _ (inl refl) refl)

victim_lets_go : Breaks wrong.deleting_crosswise five wrong.crosswise (exchanged wrong.deleting_crosswise 2 wrong.two_gives_way wrong.victims_let_go) wrong.written_locked
unfolding next points_of spelling reaches walk
victim_lets_go = breaks (Begin ∷ wrong.delete_key 1 ∷ wrong.delete_key 2 ∷ []) (texts (0 ∷ 1 ∷ 2 ∷ [])) (texts (0 ∷ 2 ∷ 1 ∷ [])) [] wrong.crosswise (exchanged wrong.deleting_crosswise 2 wrong.two_gives_way wrong.victims_let_go) wrong.written_locked refl (not_locked _ _ 2 _ (inl refl) refl)

shared_for_delete : Breaks wrong.deleting five (by 1 (nothing 1)) wrong.marks_behind_shared wrong.written_locked
unfolding next points_of spelling
shared_for_delete = breaks (wrong.delete_key 1 ∷ []) (texts (0 ∷ [])) [] [] (by 1 (nothing 1)) wrong.marks_behind_shared wrong.written_locked refl (not_locked _ _ 1 _ (inl refl) refl)

own_unattached : Breaks wrong.searching_and_adding five wrong.gone_down (exchanged wrong.searching_and_adding 1 (with_divisions 0 []) wrong.own_unattached) wrong.covered
unfolding next points_of spelling
own_unattached = breaks (Begin ∷ points_meeting 0 0 9 9 ∷ adding_point 6 5 9 ∷ []) (texts (0 ∷ 1 ∷ 2 ∷ [])) [] [] wrong.gone_down
    (exchanged wrong.searching_and_adding 1 (with_divisions 0 []) wrong.own_unattached) wrong.covered refl
    (uncovered (exchanged wrong.searching_and_adding 1 (with_divisions 0 []) wrong.own_unattached (after_all wrong.searching_and_adding five wrong.gone_down)).tables
    (exchanged wrong.searching_and_adding 1 (with_divisions 0 []) wrong.own_unattached (after_all wrong.searching_and_adding five wrong.gone_down)).searches 17 20 refl)

searches_stay : Breaks wrong.searching_once five (by 1 (nothing 5)) (exchanged wrong.searching_once 1 with_nothing wrong.searches_stay) wrong.intended
unfolding next points_of spelling
searches_stay = breaks (points_meeting 0 0 9 9 ∷ []) (texts (0 ∷ [])) [] [] (by 1 (nothing 5)) (exchanged wrong.searching_once 1 with_nothing wrong.searches_stay) wrong.intended refl (no_intention _ _ _ (inl refl) refl refl)

-- the cycle of sessions 1 and 3 is left
cycle_left : (waits : List (List ℕ)) → IsTrue (has (Rattle.isp_waits.specs.Graphs.waits_of waits 1) 3) → IsTrue (has (Rattle.isp_waits.specs.Graphs.waits_of waits 3) 1) → HaveNoCycle waits → ⊥
unfolding IsDistinct
cycle_left waits one three h = h 1 (1 ∷ 3 ∷ []) ((one, three), ((refl, tt), (tt, tt))) refl

one_broken : Breaks wrong.reading_crosswise for_three wrong.both_waiting (exchanged wrong.reading_crosswise 1 wrong.one_of_two wrong.right_way) wrong.no_cycle
unfolding next points_of spelling reaches walk
one_broken = breaks_of_three (Begin ∷ wrong.delete_key 1 ∷ wrong.delete_key 2 ∷ Select named_p (0 ∷ []) (with_key 1) ∷ Select named_p (0 ∷ []) (with_key 2) ∷ []) (texts (0 ∷ 1 ∷ 2 ∷ [])) (texts (0 ∷ 4 ∷ 3 ∷ [])) (texts (0 ∷ 4 ∷ 3 ∷ [])) wrong.both_waiting (exchanged wrong.reading_crosswise 1 wrong.one_of_two wrong.right_way) wrong.no_cycle refl
    (cycle_left (exchanged wrong.reading_crosswise 1 wrong.one_of_two wrong.right_way (after_all wrong.reading_crosswise for_three wrong.both_waiting)).waits refl refl)

pub wrong_events_break : WrongEventsBreak
wrong_events_break = record {
  key_locks_alone = key_locks_alone;
  no_locks = no_locks;
  unmarked = unmarked;
  live_entries = live_entries;
  row_before_entries = row_before_entries;
  numbers_not_undone = numbers_not_undone;
  rollback_lets_go = rollback_lets_go;
  victim_lets_go = victim_lets_go;
  shared_for_delete = shared_for_delete;
  own_unattached = own_unattached;
  searches_stay = searches_stay;
  one_broken = one_broken;
}

-- ---- a state on the way of a run

abbrev deadlocking_statements : List Statement
deadlocking_statements = Begin ∷ points_meeting 0 0 9 9 ∷ adding_point 6 3 10 ∷ Commit ∷ points_meeting 0 10 10 10 ∷ adding_point 7 1 1 ∷ Select named_p (0 ∷ 1 ∷ []) (with_key 7) ∷ []

abbrev deadlocking_first : List (List ℕ)
deadlocking_first = texts (0 ∷ 1 ∷ 2 ∷ 3 ∷ [])

abbrev deadlocking_second : List (List ℕ)
deadlocking_second = texts (0 ∷ 4 ∷ 5 ∷ 6 ∷ [])

until_happens : MayFollow deadlocking 1 1 five until_deadlock
unfolding next points_of spelling reaches walk
until_happens = follow_by_test deadlocking 1 1 five until_deadlock refl

pub deadlock_is_in_order : DeadlockIsInOrder
unfolding next points_of spelling reaches walk
deadlock_is_in_order = record {
  happen = until_happens;
  in_order = led deadlocking five until_deadlock (proper deadlocking deadlocking_statements refl refl) (five_rested deadlocking_statements deadlocking_first deadlocking_second deadlocking.script.words) until_happens;
  victim = refl;
  waits = refl;
}
