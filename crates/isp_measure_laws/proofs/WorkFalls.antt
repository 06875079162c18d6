-- What sessions at work lower: a lock begins a statement or reads a row, leaves are gone over, entries are placed, rows are written and undone.
use Rattle.std.proofs.Common.{◌≡◌, ◌⊎◌, ◌∙◌, inl, inr, refl, sym, ap, subst, ℕ, ℤ, ◌+◌, ◌-◌, ◌≤◌, ◌<◌, ◌==◌, ◌&&◌, ◌||◌, cond, Bool, true, false, Option, Some, None, List, [], ◌∷◌, ◌++◌, arith, length, length-append, map, drop}
use Rattle.std.specs.Prelude.{filter, is_none, slice_set}
use Rattle.std.specs.List.{last_or, list_any}
use Rattle.std.specs.Option.{option_map}
use Rattle.isp_base.specs.Lists.{Has}
use Rattle.isp_reclock.specs.declared.modes.Mode.{Mode}
use Rattle.isp_plain.specs.declared.statement.Statement.{Statement}
use Rattle.isp_plain.specs.declared.statement.Statement.TheVariants.{Create, Insert, Select, Update, Delete, Begin, Commit, Rollback, Refused}
use Rattle.isp_plain.specs.declared.value.Row.{Row}
use Rattle.isp_forest.specs.Tree.{Tree}
use Rattle.isp_forest.specs.Place.{Division}
use Rattle.isp_events.specs.Stored.{Leaf, StoredTable, indexed, leaf_after, leaf_behind, present, row_of, table_at}
use Rattle.isp_events.specs.Sessions.{Change, Entering, Failure, SessionState, UndoEntry, Work, adding, begun_change, changes_of, columns_for, entering, file_full, locking, moves, phase_with, scanning, session_at, writing}
use Rattle.isp_events.specs.State.{State, TreeSearch, front}
use Rattle.isp_events.specs.Ways.{Machine, Way, by_box, by_key, by_scan}
use Rattle.isp_events.specs.Next.{Descent}
use Rattle.isp_events.specs.Asking.{after_key_lock, after_table_lock, begun_work, change_work, first_phase, phase_after_key, phase_by, phase_of_keys, read_with, with_work, work_after_key}
use Rattle.isp_events.specs.Reading.{after_scan, as_read, is_of, phase_after_leaf, rows_in, work_after_scan}
use Rattle.isp_events.specs.Placing.{after_full, after_place, change_entering, failed_full, phase_with_entry, search_after_place, session_after_place, tree_after_place, tree_for, with_placed}
use Rattle.isp_events.specs.Writing.{Put, after_row, are_apart, phase_after_row, session_after_row, table_after_row, table_with_row, work_after_row}
use Rattle.isp_events.specs.Ending.{after_undo, restored, session_after_undo}
use Rattle.isp_order.specs.Work.{leaves_scanned}
use Rattle.isp_order.specs.InOrder.{InOrder}
use Rattle.isp_causes.specs.Causes.{GoesOn, IsActive, IsEntering, IsLockingKey, IsLockingRow, IsLockingTable, IsPlacing, IsScanning, IsUndoing, IsWritingRow}
use Rattle.isp_order_locks.proofs.SearchParts.{IsStill, place_still}
use Rattle.isp_order_reads.proofs.ScanParts.{IsFront, scanned_front, scanned_next}
use Rattle.isp_order_trees.proofs.CoveredLaws.{table_there, top_of}
use Rattle.isp_order_trees.proofs.TreeParts.{change_leaves_trees, indexed_stay, same_indexed}
use Rattle.isp_order_trees.proofs.WholeLaws.{after_row_leaves_trees}
use Rattle.isp_measure.specs.Measure.{answers_left, gives_up, has_failed, leaves_left, leaves_of_phase, measure, one_if_onward, phases_behind, phases_left, phases_of_work, steps_left, steps_of_change, steps_of_phase, steps_of_work}
use Rattle.isp_measure.proofs.OrderLaws.{Falls, here, later}
use Rattle.isp_measure.proofs.SumLaws.{equal, same}
use Rattle.isp_measure_laws.proofs.SessionParts.{HasLess, SameBegun, SameColumns, answers_sum, columns_of, fails, giving_up, has_less, leaves_at, leaves_less, moved, not_giving_up, onward_still, onward_sum, phases_at, phases_less, phases_sum, steps_at, steps_less, steps_sum}

-- ---- phases

same_columns : (tables : List StoredTable) → SameColumns tables tables
same_columns tables n = refl

same_begun : (searches : List TreeSearch) (s k : ℕ) → (k == s) ≡ false → SameBegun searches searches k
same_begun searches s k ne number = refl

-- with its changes made a statement writes, or answers
pub with_low : (begun : Bool) (statement : Statement) (columns : List ℕ) (done left : List Change) → phases_behind begun (phase_with statement columns done left) ≤ 1
with_low begun statement columns done [] = omega arith
with_low begun statement columns done (change ∷ left) = omega arith

way_low : (begun : Bool) (way : Way) → phases_behind begun (phase_by way) ≤ 4
way_low begun (by_key key) = omega arith
way_low begun by_scan = omega arith
way_low true (by_box column predicate) = omega arith
way_low false (by_box column predicate) = omega arith

first_low : (begun : Bool) (table : StoredTable) (statement : Statement) (way : Way) → phases_behind begun (first_phase table statement way) ≤ 4
first_low begun table (Insert name rows) way =
    let low : phases_behind begun (phase_with (Insert name rows) (indexed table) [] (map adding rows)) ≤ 1 = with_low begun (Insert name rows) (indexed table) [] (map adding rows) in
    omega (arith, low)
first_low begun table (Select name columns w) way = way_low begun way
first_low begun table (Update name sets w) way = way_low begun way
first_low begun table (Delete name w) way = way_low begun way
first_low begun table (Create name schema) way = way_low begun way
first_low begun table Begin way = way_low begun way
first_low begun table Commit way = way_low begun way
first_low begun table Rollback way = way_low begun way
first_low begun table (Refused refusal) way = way_low begun way

-- a change as it begins
filter_short : {X : Type 0} (test : X → Bool) (xs : List X) → length (filter test xs) ≤ length xs
filter_short test [] = omega arith
filter_short test (x ∷ xs) = by_test (test x) (filter_short test xs)
  where
    by_test : (b : Bool) → length (filter test xs) ≤ length xs → length (cond b (x ∷ filter test xs) (filter test xs)) ≤ length (x ∷ xs)
    by_test true again = omega (arith, again)
    by_test false again = omega (arith, again)

columns_short : (columns : List ℕ) (old new : Option Row) → length (columns_for columns old new) ≤ length columns
columns_short columns old None = omega arith
columns_short columns old (Some new) = filter_short (moves old new) columns

begun_low : (statement : Statement) (columns : List ℕ) (change : Change) → steps_of_change (length columns) (begun_change statement columns change) ≤ length columns + 2
begun_low (Insert name rows) columns change = omega arith
begun_low (Select name cs w) columns change = let short : length (columns_for columns change.old change.new) ≤ length columns = columns_short columns change.old change.new in omega (arith, short)
begun_low (Update name sets w) columns change = let short : length (columns_for columns change.old change.new) ≤ length columns = columns_short columns change.old change.new in omega (arith, short)
begun_low (Delete name w) columns change = let short : length (columns_for columns change.old change.new) ≤ length columns = columns_short columns change.old change.new in omega (arith, short)
begun_low (Create name schema) columns change = let short : length (columns_for columns change.old change.new) ≤ length columns = columns_short columns change.old change.new in omega (arith, short)
begun_low Begin columns change = let short : length (columns_for columns change.old change.new) ≤ length columns = columns_short columns change.old change.new in omega (arith, short)
begun_low Commit columns change = let short : length (columns_for columns change.old change.new) ≤ length columns = columns_short columns change.old change.new in omega (arith, short)
begun_low Rollback columns change = let short : length (columns_for columns change.old change.new) ≤ length columns = columns_short columns change.old change.new in omega (arith, short)
begun_low (Refused refusal) columns change = let short : length (columns_for columns change.old change.new) ≤ length columns = columns_short columns change.old change.new in omega (arith, short)

-- with one key less to lock
keys_less : (begun : Bool) (columns : ℕ) (table : StoredTable) (statement : Statement) (key : ℤ) (keys : List ℤ) (read : List (ℤ × Option Row))
    → HasLess begun begun columns (locking (key ∷ keys)) (phase_of_keys table statement keys read)
keys_less begun columns table statement key [] read =
    let low : phases_behind begun (phase_with statement (indexed table) [] (changes_of statement read)) ≤ 1 = with_low begun statement (indexed table) [] (changes_of statement read) in
    inl (omega (arith, low))
keys_less begun columns table statement key (k ∷ keys) read = inr (omega arith, omega arith)

-- with one change less to make
change_less : (begun : Bool) (statement : Statement) (columns : List ℕ) (done earlier : List Change) (change : Change) (left : List Change) (e : Entering)
    → HasLess begun begun (length columns) (writing earlier (change ∷ left) (entering e)) (phase_with statement columns done left)
change_less begun statement columns done earlier change [] e = inl (omega arith)
change_less begun statement columns done earlier change (next ∷ left) e =
    let low : steps_of_change (length columns) (begun_change statement columns next) ≤ length columns + 2 = begun_low statement columns next in
    inr (omega arith, omega (arith, low))

-- ---- leaves

-- with one leaf less to go over
leaf_less : (leaves : List Leaf) (last : Option ℕ) (leaf : Leaf) → are_apart (map (λ (x : Leaf). x.page) leaves) ≡ true → leaf_after leaves last ≡ Some leaf
    → length leaves - length (leaves_scanned leaves (Some leaf.page)) < length leaves - length (leaves_scanned leaves last)
leaf_less leaves last leaf apart next =
    let one : length (leaves_scanned leaves (Some leaf.page)) ≡ length (leaves_scanned leaves last) + 1 =
    ap (λ (xs : List Leaf). length xs) (scanned_next leaves last leaf apart next) ∙ length-append (leaves_scanned leaves last) (leaf ∷ []) in
    let front : IsFront leaves (leaves_scanned leaves (Some leaf.page)) = scanned_front leaves (Some leaf.page) in
    let all : length (leaves_scanned leaves (Some leaf.page)) + length front.rest ≡ length leaves =
    sym (length-append (leaves_scanned leaves (Some leaf.page)) front.rest) ∙ ap (λ (xs : List Leaf). length xs) front.all in
    omega (arith, one, all)

-- ---- undo lists

front_less : (undo : List UndoEntry) (entry : UndoEntry) → last_or None undo ≡ Some entry → length (front undo) < length undo
front_less undo entry newest =
    let is : length undo ≡ length (front undo) + 1 = ap (λ (xs : List UndoEntry). length xs) (top_of undo entry newest) ∙ length-append (front undo) (entry ∷ []) in
    omega (arith, is)

-- ---- searches

-- a placing leaves who has begun a search
placed_begun : (d : Descent) (tree : Tree) (number q : ℕ) (ds : List Division) (searches : List TreeSearch) (k : ℕ) → SameBegun searches (map (search_after_place tree d number q ds) searches) k
placed_begun d tree number q ds [] k n = refl
placed_begun d tree number q ds (x ∷ searches) k n =
    let still : IsStill x (search_after_place tree d number q ds x) = place_still tree d number q ds x in
    ap (λ b. b || list_any (is_of k n) (map (search_after_place tree d number q ds) searches))
    (ap (λ i. (i == k) && ((search_after_place tree d number q ds x).search.statement == n)) still.same.session ∙ ap (λ i. (x.search.session == k) && (i == n)) still.same.statement)
    ∙ ap (λ b. is_of k n x || b) (placed_begun d tree number q ds searches k n)

-- ---- each event

module _ (m : Machine) (state : State) (o : InOrder m state) (s : ℕ) (active : IsActive state s) where
  -- whether it has begun the search of its statement
  abbrev begun_by : List TreeSearch → Bool
  begun_by searches = list_any (is_of s (session_at state.sessions s).number) searches

  pub lock_table_falls : (statement : Statement) (number : ℕ) (mode : Mode) → IsLockingTable m state s (session_at state.sessions s) statement number mode
      → Falls (measure m.script (after_table_lock state m.ways s statement number mode)) (measure m.script state)
  lock_table_falls statement number mode at =
      later _ _ _ _ (answers_sum m state o s active new refl) (later _ _ _ _ (same (length state.queue)) (later _ _ _ _ (onward_sum m state o s active new onward)
      (here _ _ _ _ (phases_less m state o s active new state.searches (same_begun state.searches s) (omega (arith, before, after))))))
    where
      new : SessionState
      new = with_work (session_at state.sessions s)
          (begun_work (table_at state.tables number) number statement (m.ways (table_at state.tables number).schema statement) (length (session_at state.sessions s).undo))

      onward : one_if_onward s new ≤ one_if_onward s (session_at state.sessions s)
      onward = equal (one_if_onward s new) (one_if_onward s (session_at state.sessions s)) (ap (λ w. cond ((session_at state.sessions s).victim || has_failed w) 0 1) (sym at.first.no_work))

      before : phases_left state.searches s (session_at state.sessions s) ≡ 5
      before = ap (phases_of_work (begun_by state.searches)) at.first.no_work

      after : phases_left state.searches s new ≤ 4
      after = first_low (begun_by state.searches) (table_at state.tables number) statement (m.ways (table_at state.tables number).schema statement)

  -- a work that changes so, of which the statement fails or has less left
  module _ (tables : List StoredTable) (searches : List TreeSearch) (new : SessionState) (work now : Work) (at : GoesOn (session_at state.sessions s) work)
      (own : answers_left m.script s new ≡ answers_left m.script s (session_at state.sessions s)) (victim : new.victim ≡ (session_at state.sessions s).victim) (at_work : new.work ≡ Some now)
      (columns : SameColumns state.tables tables) (begun : (k : ℕ) → SameBegun state.searches searches k) (number : new.number ≡ (session_at state.sessions s).number) (table : now.table ≡ work.table) where
    work_falls : HasLess (begun_by state.searches) (begun_by searches) (columns_of state.tables work.table) work.phase now.phase
        → Falls (measure m.script (moved state tables searches (slice_set state.sessions s new))) (measure m.script state)
    work_falls less = by_failure now.failure refl
      where
        by_failure : (f : Option Failure) → now.failure ≡ f → Falls (measure m.script (moved state tables searches (slice_set state.sessions s new))) (measure m.script state)
        by_failure (Some failure) e = fails m state o s active new tables searches work now at own (victim ∙ at.undisturbed) at_work failure e
        by_failure None e = has_less m state o s active new tables searches work now at own (victim ∙ at.undisturbed) at_work columns (λ k ne. begun k) number table e less

  pub lock_key_falls : (number : ℕ) (key : ℤ) (mode : Mode) → IsLockingKey (session_at state.sessions s) number key mode
      → Falls (measure m.script (after_key_lock state s number key mode)) (measure m.script state)
  lock_key_falls number key mode at =
      work_falls state.tables state.searches (change_work (work_after_key (table_at state.tables number) row) (session_at state.sessions s)) at.work (work_after_key (table_at state.tables number) row at.work) at.goes_on
      refl refl (ap (option_map (work_after_key (table_at state.tables number) row)) at.goes_on.at_work) (same_columns state.tables) (λ k n. refl) refl refl
      (subst (λ p. HasLess (begun_by state.searches) (begun_by state.searches) (columns_of state.tables at.work.table) p (phase_after_key (table_at state.tables number) at.work.statement p read)) (sym at.phase)
      (keys_less (begun_by state.searches) (columns_of state.tables at.work.table) (table_at state.tables number) at.work.statement key at.keys read))
    where
      row : Option Row
      row = row_of (present (table_at state.tables number) key)

      read : List (ℤ × Option Row)
      read = read_with at.work.phase at.work.read row

  pub lock_row_falls : (number : ℕ) (key : ℤ) (mode : Mode) → IsLockingRow (session_at state.sessions s) number key mode
      → Falls (measure m.script (after_key_lock state s number key mode)) (measure m.script state)
  lock_row_falls number key mode at =
      work_falls state.tables state.searches (change_work (work_after_key (table_at state.tables number) row) (session_at state.sessions s)) at.work (work_after_key (table_at state.tables number) row at.work) at.goes_on
      refl refl (ap (option_map (work_after_key (table_at state.tables number) row)) at.goes_on.at_work) (same_columns state.tables) (λ k n. refl) refl refl
      (subst (λ p. HasLess (begun_by state.searches) (begun_by state.searches) (columns_of state.tables at.work.table) p (phase_after_key (table_at state.tables number) at.work.statement p read)) (sym at.phase)
      (inr (omega arith, omega (arith, short, long))))
    where
      row : Option Row
      row = row_of (present (table_at state.tables number) key)

      read : List (ℤ × Option Row)
      read = read_with at.work.phase at.work.read row

      short : length (columns_for (indexed (table_at state.tables number)) at.change.old at.change.new) ≤ columns_of state.tables number
      short = columns_short (indexed (table_at state.tables number)) at.change.old at.change.new

      long : columns_of state.tables number ≡ columns_of state.tables at.work.table
      long = ap (columns_of state.tables) at.number_is

  pub full_falls : IsEntering (session_at state.sessions s) → Falls (measure m.script (after_full state s)) (measure m.script state)
  full_falls at =
      fails m state o s active (change_work failed_full (session_at state.sessions s)) state.tables state.searches at.work (failed_full at.work) at.goes_on refl at.goes_on.undisturbed
      (ap (option_map failed_full) at.goes_on.at_work) file_full refl

  pub place_falls : (d : Descent) (q : ℕ) (ds : List Division) → IsPlacing state (session_at state.sessions s) d → Falls (measure m.script (after_place state s d q ds)) (measure m.script state)
  place_falls d q ds at =
      work_falls _ (map (search_after_place (tree_for state d) d state.entries q ds) state.searches) (session_after_place d state.entries (session_at state.sessions s)) en.work
      (change_entering (with_placed d.column state.entries) en.work) en.goes_on refl refl (ap (option_map (change_entering (with_placed d.column state.entries))) en.goes_on.at_work)
      (λ n. indexed_stay d.table d.column (tree_after_place d state.entries q ds) state.tables n) (placed_begun d (tree_for state d) state.entries q ds state.searches) refl refl
      (subst (λ p. HasLess (begun_by state.searches) (begun_by (map (search_after_place (tree_for state d) d state.entries q ds) state.searches)) (columns_of state.tables en.work.table) p
      (phase_with_entry (with_placed d.column state.entries) p)) (sym en.phase)
      (inr (omega arith, omega (arith, one_less en.e.columns at.descending.column at.descending.columns at.descending.next))))
    where
      en : IsEntering (session_at state.sessions s)
      en = at.descending.entering

      one_less : (xs : List ℕ) (x : ℕ) (rest : List ℕ) → xs ≡ x ∷ rest → length (drop 1 xs) < length xs
      one_less xs x rest e = subst (λ (ys : List ℕ). length (drop 1 ys) < length ys) (sym e) (omega arith)

  pub row_falls : (number : ℕ) (change : Change) (placed : List (ℕ × ℕ)) (p : Put) → IsWritingRow state (session_at state.sessions s) number change placed
      → Falls (measure m.script (after_row state s number change placed p)) (measure m.script state)
  row_falls number change placed p at =
      work_falls _ state.searches (session_after_row (table_at state.tables number) number change placed p.undo (session_at state.sessions s)) en.work (work_after_row (table_at state.tables number) en.work) en.goes_on
      refl refl (ap (option_map (work_after_row (table_at state.tables number))) en.goes_on.at_work)
      (same_indexed state.tables _ (change_leaves_trees number (table_after_row p change placed change.new) state.tables (λ t. after_row_leaves_trees p change placed change.new t)))
      (λ k n. refl) refl refl
      (subst (λ x. HasLess (begun_by state.searches) (begun_by state.searches) (columns_of state.tables en.work.table) x (phase_after_row (table_at state.tables number) en.work x)) (sym en.phase)
      (subst (λ n. HasLess (begun_by state.searches) (begun_by state.searches) (columns_of state.tables n) (writing en.done (en.change ∷ en.left) (entering en.e)) (phase_with en.work.statement (indexed (table_at state.tables number)) (en.done ++ en.change ∷ []) en.left))
      at.number_is (change_less (begun_by state.searches) en.work.statement (indexed (table_at state.tables number)) (en.done ++ en.change ∷ []) en.done en.change en.left en.e)))
    where
      en : IsEntering (session_at state.sessions s)
      en = at.entering

  pub undo_falls : (entry : UndoEntry) (more : ℕ) → IsUndoing m s (session_at state.sessions s) entry → Falls (measure m.script (after_undo state s entry more)) (measure m.script state)
  undo_falls entry more at =
      later _ _ _ _ (answers_sum m state o s active new refl) (later _ _ _ _ (same (length state.queue)) (later _ _ _ _ (onward_sum m state o s active new (same (one_if_onward s new)))
      (later _ _ _ _ (phases_sum m state o s active new state.searches (same_begun state.searches s) (same (phases_left state.searches s new)))
      (here _ _ _ _ (steps_less m state o s active new _
      (same_indexed state.tables _ (change_leaves_trees entry.table (table_with_row entry.key (restored entry.image)) state.tables (λ t. refl))) (less _ (reason (session_at state.sessions s).work refl)))))))
    where
      new : SessionState
      new = session_after_undo more (session_at state.sessions s)

      fewer : length (front (session_at state.sessions s).undo) < length (session_at state.sessions s).undo
      fewer = front_less (session_at state.sessions s).undo entry at.newest

      reason : (w : Option Work) → (session_at state.sessions s).work ≡ w → (gives_up (session_at state.sessions s) ≡ true) ⊎ ((session_at state.sessions s).work ≡ None)
      reason None e = inr e
      reason (Some work) e = by_victim (session_at state.sessions s).victim refl
        where
          by_victim : (b : Bool) → (session_at state.sessions s).victim ≡ b → (gives_up (session_at state.sessions s) ≡ true) ⊎ ((session_at state.sessions s).work ≡ None)
          by_victim true v = inl (ap (λ b. b || has_failed (session_at state.sessions s).work) v)
          by_victim false v =
              let bound = o.bound s work e in
              let failed = (at.own work bound.text e v bound.text_is).0 in
              inl (giving_up (session_at state.sessions s) work failed.0 e failed.1)

      less : (tables : List StoredTable) → (gives_up (session_at state.sessions s) ≡ true) ⊎ ((session_at state.sessions s).work ≡ None) → steps_left tables s new < steps_left state.tables s (session_at state.sessions s)
      less tables (inl e) =
          let now : steps_left tables s new ≡ length (front (session_at state.sessions s).undo) =
          ap (λ b. cond b (length (front (session_at state.sessions s).undo)) (steps_of_work tables (front (session_at state.sessions s).undo) (session_at state.sessions s).work)) e in
          let before : steps_left state.tables s (session_at state.sessions s) ≡ length (session_at state.sessions s).undo =
          ap (λ b. cond b (length (session_at state.sessions s).undo) (steps_of_work state.tables (session_at state.sessions s).undo (session_at state.sessions s).work)) e in
          omega (arith, now, before, fewer)
      less tables (inr e) =
          let now : steps_left tables s new ≡ length (front (session_at state.sessions s).undo) =
          ap (λ w. cond (gives_up (session_at state.sessions s)) (length (front (session_at state.sessions s).undo)) (steps_of_work tables (front (session_at state.sessions s).undo) w)) e
          ∙ either (gives_up (session_at state.sessions s)) (length (front (session_at state.sessions s).undo)) in
          let before : steps_left state.tables s (session_at state.sessions s) ≡ length (session_at state.sessions s).undo =
          ap (λ w. cond (gives_up (session_at state.sessions s)) (length (session_at state.sessions s).undo) (steps_of_work state.tables (session_at state.sessions s).undo w)) e
          ∙ either (gives_up (session_at state.sessions s)) (length (session_at state.sessions s).undo) in
          omega (arith, now, before, fewer)
        where
          either : (b : Bool) (n : ℕ) → cond b n n ≡ n
          either true n = refl
          either false n = refl

  pub scan_falls : (number : ℕ) (leaf : Leaf) → IsScanning state (session_at state.sessions s) number leaf → Falls (measure m.script (after_scan state s number leaf)) (measure m.script state)
  scan_falls number leaf at = by_failure now.failure refl
    where
      now : Work
      now = work_after_scan (table_at state.tables number) leaf at.work

      new : SessionState
      new = change_work (work_after_scan (table_at state.tables number) leaf) (session_at state.sessions s)

      read : List (ℤ × Option Row)
      read = at.work.read ++ map as_read (rows_in leaf)

      at_work : new.work ≡ Some now
      at_work = ap (option_map (work_after_scan (table_at state.tables number) leaf)) at.goes_on.at_work

      go : GoesOn (session_at state.sessions s) at.work
      go = at.goes_on

      there : Has state.tables (table_at state.tables at.work.table)
      there = (let bound = o.bound s at.work at.goes_on.at_work in table_there at.work.table state.tables bound.first bound.last)

      less : leaves_of_phase (table_at state.tables at.work.table).leaves (scanning (Some leaf.page)) < leaves_of_phase (table_at state.tables at.work.table).leaves (scanning at.last)
      less = leaf_less (table_at state.tables at.work.table).leaves at.last leaf (o.keyed.each (table_at state.tables at.work.table) there).apart at.leaf_is

      by_phase : now.failure ≡ None → (b : Bool) → is_none (leaf_behind (table_at state.tables number).leaves leaf.page) ≡ b → Falls (measure m.script (after_scan state s number leaf)) (measure m.script state)
      by_phase e true last =
          has_less m state o s active new state.tables state.searches at.work now go refl go.undisturbed at_work (same_columns state.tables) (same_begun state.searches s) refl refl e
          (subst (λ p. HasLess (begun_by state.searches) (begun_by state.searches) (columns_of state.tables at.work.table) p (phase_after_leaf (table_at state.tables number) at.work.statement leaf read)) (sym at.phase)
          (subst (λ b. HasLess (begun_by state.searches) (begun_by state.searches) (columns_of state.tables at.work.table) (scanning at.last)
          (cond b (phase_with at.work.statement (indexed (table_at state.tables number)) [] (changes_of at.work.statement read)) (scanning (Some leaf.page)))) (sym last)
          (inl (omega (arith, with_low (begun_by state.searches) at.work.statement (indexed (table_at state.tables number)) [] (changes_of at.work.statement read))))))
      by_phase e false last =
          later _ _ _ _ (answers_sum m state o s active new refl) (later _ _ _ _ (same (length state.queue))
          (later _ _ _ _ (onward_sum m state o s active new (onward_still m state o s active new state.tables state.searches at.work now go refl go.undisturbed at_work))
          (later _ _ _ _ (phases_sum m state o s active new state.searches (same_begun state.searches s) (omega (arith, phases_before, phases_after)))
          (later _ _ _ _ (steps_sum m state o s active new state.tables (same_columns state.tables) (omega (arith, steps_before, steps_after)))
          (here _ _ _ _ (leaves_less m state o s active new (omega (arith, leaves_before, leaves_now, less))))))))
        where
          phase_now : now.phase ≡ scanning (Some leaf.page)
          phase_now = ap (λ b. cond b (phase_with at.work.statement (indexed (table_at state.tables number)) [] (changes_of at.work.statement read)) (scanning (Some leaf.page))) last

          phases_before : phases_left state.searches s (session_at state.sessions s) ≡ 2
          phases_before = phases_at state.searches s (session_at state.sessions s) at.work go.at_work ∙ ap (phases_behind (begun_by state.searches)) at.phase

          phases_after : phases_left state.searches s new ≡ 2
          phases_after = phases_at state.searches s new now at_work ∙ ap (phases_behind (begun_by state.searches)) phase_now

          steps_before : steps_left state.tables s (session_at state.sessions s) ≡ 0
          steps_before =
              steps_at state.tables s (session_at state.sessions s) at.work (not_giving_up (session_at state.sessions s) at.work go.undisturbed go.at_work go.unfailed) go.at_work
              ∙ ap (steps_of_phase (columns_of state.tables at.work.table)) at.phase

          steps_after : steps_left state.tables s new ≡ 0
          steps_after =
              steps_at state.tables s new now (not_giving_up new now go.undisturbed at_work e) at_work
              ∙ ap (steps_of_phase (columns_of state.tables at.work.table)) phase_now

          leaves_before : leaves_left state.tables s (session_at state.sessions s) ≡ leaves_of_phase (table_at state.tables at.work.table).leaves (scanning at.last)
          leaves_before = leaves_at state.tables s (session_at state.sessions s) at.work go.at_work ∙ ap (leaves_of_phase (table_at state.tables at.work.table).leaves) at.phase

          leaves_now : leaves_left state.tables s new ≡ leaves_of_phase (table_at state.tables at.work.table).leaves (scanning (Some leaf.page))
          leaves_now = leaves_at state.tables s new now at_work ∙ ap (leaves_of_phase (table_at state.tables at.work.table).leaves) phase_now

      by_failure : (f : Option Failure) → now.failure ≡ f → Falls (measure m.script (after_scan state s number leaf)) (measure m.script state)
      by_failure (Some failure) e = fails m state o s active new state.tables state.searches at.work now go refl go.undisturbed at_work failure e
      by_failure None e = by_phase e (is_none (leaf_behind (table_at state.tables number).leaves leaf.page)) refl
