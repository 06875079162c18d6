-- While it scans, a statement has read the rows on the leaves that it has gone over.
use Rattle.std.proofs.Common.{◌≡◌, ◌∙◌, ◌≤◌, inl, inr, refl, sym, ap, subst, ℕ, ℤ, ◌==◌, not, cond, Bool, true, false, Option, Some, None, List, [], ◌∷◌, ◌++◌, length, map, eqb-true, eq-eqb}
use Rattle.std.specs.Prelude.{is_none, slice_set}
use Rattle.std.specs.List.{last_or}
use Rattle.std.specs.Option.{option_map}
use Rattle.std.proofs.lemmas.Bool.{false≢true, and_parts}
use Rattle.isp_base.specs.Lists.{Has}
use Rattle.isp_reclock.specs.Tables.{takes}
use Rattle.isp_plain.specs.declared.statement.Statement.{Statement}
use Rattle.isp_plain.specs.declared.statement.Statement.TheVariants.{Create, Insert, Select, Update, Delete, Begin, Commit, Rollback, Refused}
use Rattle.isp_plain.specs.declared.value.Row.{Row}
use Rattle.isp_forest.specs.Search.{Search}
use Rattle.isp_events.specs.Stored.{KeptRow, Leaf, StoredTable, change_table, indexed, kept_at, leaf_behind, present, row_of, rows_of, table_at}
use Rattle.isp_events.specs.Sessions.{Change, Entering, Failure, Phase, SessionState, UndoEntry, Work, adding, answering, changes_of, locking, phase_with, scanning, session_at, unlocked, visiting, writing}
use Rattle.isp_events.specs.State.{Queued, State, dead_entry, dead_row, is_empty}
use Rattle.isp_events.specs.Ways.{Machine, Way, by_box, by_key, by_scan}
use Rattle.isp_events.specs.Next.{table_mode}
use Rattle.isp_events.specs.Asking.{begun_work, first_phase, phase_after_key, phase_by, phase_of_keys, work_after_key}
use Rattle.isp_events.specs.Reading.{as_read, phase_after_visit, rising, rows_in, work_after_scan, work_after_visit}
use Rattle.isp_events.specs.Placing.{change_entering, failed_full, phase_with_entry, stepped, table_after_place, tree_for, with_placed, without_path}
use Rattle.isp_events.specs.Writing.{phase_after_row, table_after_row, table_with_row, work_after_row}
use Rattle.isp_events.specs.Ending.{is_marked, restored}
use Rattle.isp_events.specs.Purging.{is_taken, may_leave, table_without, table_without_entry, tables_purged}
use Rattle.isp_events.specs.Events.{Actor, Choice, MayHappen, after}
use Rattle.isp_order.specs.Locks.{Holds}
use Rattle.isp_order.specs.Work.{FitsPhase, HaveScanned, IsReadOf, IsUndoOf, changes_done, is_by_scan, keys_changed, keys_undone, leaves_scanned, undo_since, way_of}
use Rattle.isp_order.specs.InOrder.{InOrder, IsProper}
use Rattle.isp_order.proofs.RowLaws.{has_lookup}
use Rattle.isp_order.proofs.TableLaws.{kept_of, other_table}
use Rattle.isp_causes.specs.Causes.{GoesOn, IsActive, IsEntering, IsScanning, IsUndoing}
use Rattle.isp_causes.proofs.EventCases.{EachKeeps, event_keeps}
use Rattle.isp_order_locks.proofs.LockedLaws.{row_taken}
use Rattle.isp_order_locks.proofs.SearchParts.{seen_now}
use Rattle.isp_order_work.proofs.WorkParts.{carried, no_work, none_some, some_is, undisturbed_step, undisturbed_victims}
use Rattle.isp_order_reads.proofs.RowFrames.{Reads, no_other_writes, table_has}
use Rattle.isp_order_reads.proofs.ScanParts.{purged_read, read_append, read_on, rows_on, scanned_next}

-- ---- phases that scan nothing

with_scans_none : (table : StoredTable) (work : Work) (statement : Statement) (columns : List ℕ) (done left : List Change) → IsReadOf table work (phase_with statement columns done left)
with_scans_none table work statement columns done [] = tt
with_scans_none table work statement columns done (change ∷ left) = tt

keys_scan_none : (table other : StoredTable) (work : Work) (statement : Statement) (keys : List ℤ) (read : List (ℤ × Option Row)) → IsReadOf table work (phase_of_keys other statement keys read)
keys_scan_none table other work statement [] read = with_scans_none table work statement (indexed other) [] (changes_of statement read)
keys_scan_none table other work statement (key ∷ keys) read = tt

way_scan : (table : StoredTable) (work : Work) (way : Way) → work.read ≡ [] → IsReadOf table work (phase_by way)
way_scan table work (by_key key) none = tt
way_scan table work (by_box column predicate) none = tt
way_scan table work by_scan none = none

first_scan : (table other : StoredTable) (work : Work) (statement : Statement) (way : Way) → work.read ≡ [] → IsReadOf table work (first_phase other statement way)
first_scan table other work (Insert name rows) way none = with_scans_none table work (Insert name rows) (indexed other) [] (map adding rows)
first_scan table other work (Select name columns w) way none = way_scan table work way none
first_scan table other work (Create name schema) way none = way_scan table work way none
first_scan table other work (Update name sets w) way none = way_scan table work way none
first_scan table other work (Delete name w) way none = way_scan table work way none
first_scan table other work Begin way none = way_scan table work way none
first_scan table other work Commit way none = way_scan table work way none
first_scan table other work Rollback way none = way_scan table work way none
first_scan table other work (Refused refusal) way none = way_scan table work way none

-- the same leaves gone over show the same
same_scan : (table other : StoredTable) (work : Work) (phase : Phase) → ((last : Option ℕ) → phase ≡ scanning last → read_on (leaves_scanned other.leaves last) ≡ read_on (leaves_scanned table.leaves last))
    → IsReadOf table work phase → IsReadOf other work phase
same_scan table other work (locking keys) same h = tt
same_scan table other work visiting same h = tt
same_scan table other work (scanning last) same h = h ∙ sym (same last refl)
same_scan table other work (writing done left progress) same h = tt
same_scan table other work (answering done) same h = tt

module _ (m : Machine) (state : State) (good : IsProper m) (o : InOrder m state) where
  abbrev Scan : List StoredTable → ℕ → SessionState → Work → Type 0
  Scan tables k session work = IsReadOf (table_at tables work.table) work work.phase

  -- who scans has locked the whole table
  scanner_reads : (k : ℕ) (work : Work) (last : Option ℕ) (key : ℤ) → (session_at state.sessions k).work ≡ Some work → work.phase ≡ scanning last → Reads state.locks k work.table key
  scanner_reads k work last key at is =
      by_statement work.statement (way_of m.ways state.tables work) (subst (FitsPhase (way_of m.ways state.tables work) work.statement) is (o.bound k work at).phase) (o.table_locked k work at)
    where
      by_mode : (st : Statement) (way : Way) → is_by_scan way ≡ true → (Holds state.locks k work.table None (table_mode st by_scan) → Reads state.locks k work.table key)
          → Holds state.locks k work.table None (table_mode st way) → Reads state.locks k work.table key
      by_mode st (by_key j) h f g = absurd (false≢true h)
      by_mode st (by_box column predicate) h f g = absurd (false≢true h)
      by_mode st by_scan h f g = f g

      by_statement : (st : Statement) (way : Way) → FitsPhase way st (scanning last) → Holds state.locks k work.table None (table_mode st way) → Reads state.locks k work.table key
      by_statement (Insert name rows) way h g = absurd h
      by_statement (Select name columns w) way h g = by_mode (Select name columns w) way h (λ x. inr (inl x)) g
      by_statement (Create name schema) way h g = by_mode (Create name schema) way h (λ x. inr (inr x)) g
      by_statement (Update name sets w) way h g = by_mode (Update name sets w) way h (λ x. inr (inr x)) g
      by_statement (Delete name w) way h g = by_mode (Delete name w) way h (λ x. inr (inr x)) g
      by_statement Begin way h g = by_mode Begin way h (λ x. inr (inr x)) g
      by_statement Commit way h g = by_mode Commit way h (λ x. inr (inr x)) g
      by_statement Rollback way h g = by_mode Rollback way h (λ x. inr (inr x)) g
      by_statement (Refused refusal) way h g = by_mode (Refused refusal) way h (λ x. inr (inr x)) g

  step : (s : ℕ) (tables : List StoredTable) (new : SessionState) → IsActive state s
      → ((k : ℕ) → (k == s) ≡ false → (work : Work) → (session_at state.sessions k).work ≡ Some work → (last : Option ℕ) → work.phase ≡ scanning last
      → read_on (leaves_scanned (table_at tables work.table).leaves last) ≡ read_on (leaves_scanned (table_at state.tables work.table).leaves last))
      → ((work : Work) → new.work ≡ Some work → new.victim ≡ false → Scan tables s new work) → HaveScanned tables (slice_set state.sessions s new)
  step s tables new active frame own =
      undisturbed_step (Scan tables) state.sessions s new active.not_over own
      (λ k ne work at undisturbed. same_scan (table_at state.tables work.table) (table_at tables work.table) work work.phase (frame k ne work at) (o.scanned k work at undisturbed))

  without_work : (s : ℕ) (new : SessionState) → IsActive state s → new.work ≡ None → HaveScanned state.tables (slice_set state.sessions s new)
  without_work s new active none = step s state.tables new active (λ k ne work at last is. refl) (λ work at undisturbed. absurd (no_work new work none at))

  -- the phase that it comes to scans nothing, or goes on scanning
  at_work : (s : ℕ) (tables : List StoredTable) (new : SessionState) (f : Work → Work) (work : Work) → IsActive state s → GoesOn (session_at state.sessions s) work
      → ((k : ℕ) → (k == s) ≡ false → (w : Work) → (session_at state.sessions k).work ≡ Some w → (last : Option ℕ) → w.phase ≡ scanning last
      → read_on (leaves_scanned (table_at tables w.table).leaves last) ≡ read_on (leaves_scanned (table_at state.tables w.table).leaves last))
      → new.work ≡ option_map f (session_at state.sessions s).work → Scan tables s new (f work) → HaveScanned tables (slice_set state.sessions s new)
  at_work s tables new f work active go frame is scan =
      step s tables new active frame (λ now now_at undisturbed. subst (λ (w : Work). Scan tables s new w) (carried f (session_at state.sessions s) new work now is go.at_work now_at) scan)

  -- where the leaves of all tables stay
  same_leaves : (tables : List StoredTable) → ((n : ℕ) → (table_at tables n).leaves ≡ (table_at state.tables n).leaves) → (s : ℕ) (k : ℕ) → (k == s) ≡ false → (w : Work)
      → (session_at state.sessions k).work ≡ Some w → (last : Option ℕ) → w.phase ≡ scanning last
      → read_on (leaves_scanned (table_at tables w.table).leaves last) ≡ read_on (leaves_scanned (table_at state.tables w.table).leaves last)
  same_leaves tables same s k ne w at last is = ap (λ ls. read_on (leaves_scanned ls last)) (same w.table)

  flip : (k s : ℕ) → (k == s) ≡ false → (s == k) ≡ false
  flip k s ne = by_test (s == k) refl
    where
      by_test : (b : Bool) → (s == k) ≡ b → b ≡ false
      by_test true e = absurd (false≢true (sym ne ∙ eq-eqb k s (sym (eqb-true s k e))))
      by_test false e = refl

  -- where one has written, no other scans
  written_frame : (s number : ℕ) (key : ℤ) (f : StoredTable → StoredTable) → takes state.locks number key s ≡ true → (k : ℕ) → (k == s) ≡ false → (w : Work)
      → (session_at state.sessions k).work ≡ Some w → (last : Option ℕ) → w.phase ≡ scanning last
      → read_on (leaves_scanned (table_at (change_table number f state.tables) w.table).leaves last) ≡ read_on (leaves_scanned (table_at state.tables w.table).leaves last)
  written_frame s number key f taken k ne w at last is = by_table (w.table == number) refl
    where
      by_table : (b : Bool) → (w.table == number) ≡ b
          → read_on (leaves_scanned (table_at (change_table number f state.tables) w.table).leaves last) ≡ read_on (leaves_scanned (table_at state.tables w.table).leaves last)
      by_table true e =
          absurd (no_other_writes m state good o s k number key (flip k s ne) taken (subst (λ n. Reads state.locks k n key) (eqb-true w.table number e) (scanner_reads k w last key at is)))
      by_table false e = ap (λ (t : StoredTable). read_on (leaves_scanned t.leaves last)) (other_table number w.table f state.tables e)

  -- a purged row was marked
  purge_frame : (number : ℕ) (key : ℤ) (b : Bool) → may_leave state.locks (table_at state.tables number) number key ≡ b → (w : Work) → (k : ℕ) → (session_at state.sessions k).work ≡ Some w
      → (last : Option ℕ)
      → read_on (leaves_scanned (table_at (cond b (change_table number (table_without key) state.tables) state.tables) w.table).leaves last) ≡ read_on (leaves_scanned (table_at state.tables w.table).leaves last)
  purge_frame number key false e w k at last = refl
  purge_frame number key true e w k at last = by_table (w.table == number) refl
    where
      marked : w.table ≡ number → (x : ℤ × KeptRow) → Has (rows_on (table_at state.tables number).leaves) x → x.0 ≡ key → x.1.mark ≡ true
      marked t x h is =
          let keyed = o.keyed.each (table_at state.tables number) (table_has number state.tables (subst (λ n. 1 ≤ n) t (o.bound k w at).first) (subst (λ n. n ≤ length state.tables) t (o.bound k w at).last)) in
          let there : kept_at (table_at state.tables number) x.0 ≡ Some x.1 = has_lookup (rows_of (table_at state.tables number)) x.0 x.1 keyed.rising h in
          sym (ap is_marked there) ∙ ap (λ j. is_marked (kept_at (table_at state.tables number) j)) is
          ∙ (and_parts (is_marked (kept_at (table_at state.tables number) key)) (not (is_taken state.locks number key)) e).0

      by_table : (b : Bool) → (w.table == number) ≡ b
          → read_on (leaves_scanned (table_at (change_table number (table_without key) state.tables) w.table).leaves last) ≡ read_on (leaves_scanned (table_at state.tables w.table).leaves last)
      by_table true t =
          let is : w.table ≡ number = eqb-true w.table number t in
          kept_of (λ (x : StoredTable). read_on (leaves_scanned x.leaves last)) number w.table (table_without key) state.tables
          (purged_read key (table_at state.tables number).leaves last (marked is))
      by_table false t = ap (λ (x : StoredTable). read_on (leaves_scanned x.leaves last)) (other_table number w.table (table_without key) state.tables t)

  purged_frame : (queue : List Queued) (w : Work) (k : ℕ) → (session_at state.sessions k).work ≡ Some w → (last : Option ℕ)
      → read_on (leaves_scanned (table_at (tables_purged state.locks queue state.tables) w.table).leaves last) ≡ read_on (leaves_scanned (table_at state.tables w.table).leaves last)
  purged_frame [] w k at last = refl
  purged_frame (dead_entry entry ∷ queue) w k at last =
      kept_of (λ (x : StoredTable). read_on (leaves_scanned x.leaves last)) entry.table w.table (table_without_entry entry) state.tables refl
  purged_frame (dead_row number key ∷ queue) w k at last = purge_frame number key (may_leave state.locks (table_at state.tables number) number key) refl w k at last

  -- ---- its own events

  entry_scan : (f : Entering → Entering) (table : StoredTable) (work : Work) (s : ℕ) (en : IsEntering (session_at state.sessions s)) → IsReadOf table work (phase_with_entry f en.work.phase)
  entry_scan f table work s en = subst (λ p. IsReadOf table work (phase_with_entry f p)) (sym en.phase) tt

  row_scan : (table other : StoredTable) (work : Work) (s : ℕ) (en : IsEntering (session_at state.sessions s)) → IsReadOf table work (phase_after_row other en.work en.work.phase)
  row_scan table other work s en =
      subst (λ p. IsReadOf table work (phase_after_row other en.work p)) (sym en.phase) (with_scans_none table work en.work.statement (indexed other) (en.done ++ en.change ∷ []) en.left)

  key_scan : (table other : StoredTable) (now work : Work) (key : ℤ) (keys : List ℤ) (read : List (ℤ × Option Row)) → work.phase ≡ locking (key ∷ keys)
      → IsReadOf table now (phase_after_key other work.statement work.phase read)
  key_scan table other now work key keys read is =
      subst (λ p. IsReadOf table now (phase_after_key other work.statement p read)) (sym is) (keys_scan_none table other now work.statement keys read)

  row_key_scan : (table other : StoredTable) (now work : Work) (done : List Change) (change : Change) (left : List Change) (read : List (ℤ × Option Row)) → work.phase ≡ writing done (change ∷ left) unlocked
      → IsReadOf table now (phase_after_key other work.statement work.phase read)
  row_key_scan table other now work done change left read is = subst (λ p. IsReadOf table now (phase_after_key other work.statement p read)) (sym is) tt

  visit_scan : (table other : StoredTable) (now work : Work) (x : Search) → IsReadOf table now (phase_after_visit other work.statement x)
  visit_scan table other now work x = by_stack (is_empty x.stack)
    where
      by_stack : (b : Bool) → IsReadOf table now (cond b (phase_of_keys other work.statement (rising x.found) []) visiting)
      by_stack true = keys_scan_none table other now work.statement (rising x.found) []
      by_stack false = tt

  scan_scan : (s number : ℕ) (leaf : Leaf) (at : IsScanning state (session_at state.sessions s) number leaf) (now : Work) (b : Bool) → now.read ≡ at.work.read ++ map as_read (rows_in leaf)
      → IsReadOf (table_at state.tables at.work.table) now
      (cond b (phase_with at.work.statement (indexed (table_at state.tables number)) [] (changes_of at.work.statement (at.work.read ++ map as_read (rows_in leaf)))) (scanning (Some leaf.page)))
  scan_scan s number leaf at now true read =
      with_scans_none (table_at state.tables at.work.table) now at.work.statement (indexed (table_at state.tables number)) [] (changes_of at.work.statement (at.work.read ++ map as_read (rows_in leaf)))
  scan_scan s number leaf at now false read =
      let bound = o.bound s at.work at.goes_on.at_work in
      let keyed = o.keyed.each (table_at state.tables at.work.table) (table_has at.work.table state.tables bound.first bound.last) in
      let before : at.work.read ≡ read_on (leaves_scanned (table_at state.tables at.work.table).leaves at.last) =
      subst (IsReadOf (table_at state.tables at.work.table) at.work) at.phase (o.scanned s at.work at.goes_on.at_work at.goes_on.undisturbed) in
      read ∙ ap (λ xs. xs ++ map as_read (rows_in leaf)) before ∙ sym (read_append (leaves_scanned (table_at state.tables at.work.table).leaves at.last) leaf)
      ∙ ap read_on (sym (scanned_next (table_at state.tables at.work.table).leaves at.last leaf keyed.apart at.leaf_is))

  -- a failed statement that scans has nothing to undo
  scans_nothing_undone : (s : ℕ) (entry : UndoEntry) → IsUndoing m s (session_at state.sessions s) entry → (work : Work) → (session_at state.sessions s).work ≡ Some work
      → (session_at state.sessions s).victim ≡ false → changes_done work.phase ≡ [] → ⊥
  scans_nothing_undone s entry at work at_work undisturbed none =
      let own = at.own work (o.bound s work at_work).text at_work undisturbed (o.bound s work at_work).text_is in
      no_entry (undo_since (session_at state.sessions s) work) (only_front work.failure (o.written s work at_work undisturbed).undo) own.1
    where
      nothing_front : (a b : List ℤ) → a ++ b ≡ [] → a ≡ []
      nothing_front [] b h = refl
      nothing_front (x ∷ a) b h = let no : x ∷ (a ++ b) ≡ [] = h in let f : ⊥ = cc in absurd f

      only_front : (failure : Option Failure) → IsUndoOf failure (keys_undone (undo_since (session_at state.sessions s) work)) (keys_changed (changes_done work.phase))
          → keys_undone (undo_since (session_at state.sessions s) work) ≡ []
      only_front None h = h ∙ ap keys_changed none
      only_front (Some failure) h = nothing_front (keys_undone (undo_since (session_at state.sessions s) work)) h.0 (h.1 ∙ ap keys_changed none)

      no_entry : (us : List UndoEntry) → keys_undone us ≡ [] → last_or None us ≡ Some entry → ⊥
      no_entry [] h e = none_some entry e
      no_entry (u ∷ us) h e = let no : u.key ∷ keys_undone us ≡ [] = h in let f : ⊥ = cc in f

  scan_undo : (s : ℕ) (entry : UndoEntry) (new : SessionState) → IsActive state s → IsUndoing m s (session_at state.sessions s) entry → new.work ≡ (session_at state.sessions s).work
      → new.victim ≡ (session_at state.sessions s).victim → HaveScanned (change_table entry.table (table_with_row entry.key (restored entry.image)) state.tables) (slice_set state.sessions s new)
  scan_undo s entry new active at is victim =
      step s (change_table entry.table (table_with_row entry.key (restored entry.image)) state.tables) new active
      (written_frame s entry.table entry.key (table_with_row entry.key (restored entry.image)) (o.written_locked.undone s entry (has_last (session_at state.sessions s).undo entry at.newest)))
      (λ work now_at undisturbed. by_phase work work.phase refl (sym is ∙ now_at) (sym victim ∙ undisturbed))
    where
      has_last : {Y : Type 0} (xs : List Y) (y : Y) → last_or None xs ≡ Some y → Has xs y
      has_last [] y h = absurd (none_some y h)
      has_last (x ∷ []) y h = inl (some_is x y h)
      has_last (x ∷ z ∷ xs) y h = inr (has_last (z ∷ xs) y h)

      by_phase : (work : Work) (phase : Phase) → work.phase ≡ phase → (session_at state.sessions s).work ≡ Some work → (session_at state.sessions s).victim ≡ false
          → IsReadOf (table_at (change_table entry.table (table_with_row entry.key (restored entry.image)) state.tables) work.table) work phase
      by_phase work (locking keys) e at_work undisturbed = tt
      by_phase work visiting e at_work undisturbed = tt
      by_phase work (scanning last) e at_work undisturbed = absurd (scans_nothing_undone s entry at work at_work undisturbed (ap changes_done e))
      by_phase work (writing done left progress) e at_work undisturbed = tt
      by_phase work (answering done) e at_work undisturbed = tt

  begins : (s : ℕ) (new : SessionState) (work : Work) → IsActive state s → new.work ≡ Some work → IsReadOf (table_at state.tables work.table) work work.phase → HaveScanned state.tables (slice_set state.sessions s new)
  begins s new work active is scan =
      step s state.tables new active (λ k ne w at last e. refl) (λ now now_at undisturbed. subst (λ (w : Work). Scan state.tables s new w) (some_is work now (sym is ∙ now_at)) scan)

  created : (s : ℕ) (tables : List StoredTable) (new : SessionState) → IsActive state s → s ≡ 0 → new.work ≡ None → HaveScanned tables (slice_set state.sessions s new)
  created s tables new active is none =
      undisturbed_step (Scan tables) state.sessions s new active.not_over (λ work at undisturbed. absurd (no_work new work none at))
      (λ k ne work at undisturbed. absurd (no_work (session_at state.sessions k) work
      (o.idle.setup_first (subst (λ i. (session_at state.sessions i).over ≡ false) is active.not_over) k (ap (λ i. k == i) (sym is) ∙ ne)).0.no_work at))

  pub scanned_each : EachKeeps m state (λ (st : State). HaveScanned st.tables st.sessions)
  scanned_each = record {
    still = o.scanned;
    purge = λ some k work at undisturbed.
        same_scan (table_at state.tables work.table) (table_at (tables_purged state.locks state.queue state.tables) work.table) work work.phase (λ last is. purged_frame state.queue work k at last) (o.scanned k work at undisturbed);
    end = λ s over active. without_work s _ active refl;
    answer = λ s reply active at. without_work s _ active refl;
    undo = λ s entry more active at. scan_undo s entry _ active at refl refl;
    create = λ s over name schema leaf roots active at may. created s _ _ active at.setup refl;
    refuse = λ s on ds active at may. undisturbed_victims (Scan state.tables) state.sessions ds o.scanned;
    lock_table = λ s statement number mode active at none. begins s _ _ active refl
        (first_scan (table_at state.tables number) (table_at state.tables number) (begun_work (table_at state.tables number) number statement (m.ways (table_at state.tables number).schema statement) (length (session_at state.sessions s).undo)) statement (m.ways (table_at state.tables number).schema statement) refl);
    lock_key = λ s number key mode active at none. at_work s state.tables _ _ at.work active at.goes_on (same_leaves state.tables (λ n. refl) s) refl
        (key_scan (table_at state.tables at.work.table) (table_at state.tables number) (work_after_key (table_at state.tables number) (row_of (present (table_at state.tables number) key)) at.work) at.work key at.keys _ at.phase);
    lock_row = λ s number key mode active at none. at_work s state.tables _ _ at.work active at.goes_on (same_leaves state.tables (λ n. refl) s) refl
        (row_key_scan (table_at state.tables at.work.table) (table_at state.tables number) (work_after_key (table_at state.tables number) (row_of (present (table_at state.tables number) key)) at.work) at.work at.done at.change at.left _ at.phase);
    visit = λ s number column predicate active at. at_work s state.tables _ _ at.work active at.goes_on (same_leaves state.tables (λ n. refl) s) refl
        (visit_scan (table_at state.tables at.work.table) (table_at state.tables number) (work_after_visit (table_at state.tables number) (seen_now m state o s number column predicate at) at.work) at.work (seen_now m state o s number column predicate at));
    scan = λ s number leaf active at. at_work s state.tables _ _ at.work active at.goes_on (same_leaves state.tables (λ n. refl) s) refl
        (scan_scan s number leaf at (work_after_scan (table_at state.tables number) leaf at.work) (is_none (leaf_behind (table_at state.tables number).leaves leaf.page)) refl);
    step = λ s d q active at may. at_work s state.tables _ _ at.descending.entering.work active at.descending.entering.goes_on (same_leaves state.tables (λ n. refl) s) refl
        (entry_scan (stepped (tree_for state d) q) (table_at state.tables at.descending.entering.work.table) (change_entering (stepped (tree_for state d) q) at.descending.entering.work) s at.descending.entering);
    stale = λ s d active at. at_work s state.tables _ _ at.descending.entering.work active at.descending.entering.goes_on (same_leaves state.tables (λ n. refl) s) refl
        (entry_scan without_path (table_at state.tables at.descending.entering.work.table) (change_entering without_path at.descending.entering.work) s at.descending.entering);
    full = λ s active at. at_work s state.tables _ _ at.work active at.goes_on (same_leaves state.tables (λ n. refl) s) refl
        (subst (λ p. IsReadOf (table_at state.tables at.work.table) (failed_full at.work) p) (sym at.phase) tt);
    place = λ s d q ds active at may. at_work s _ _ _ at.descending.entering.work active at.descending.entering.goes_on
        (same_leaves (change_table d.table (table_after_place d state.entries q ds) state.tables) (λ n. kept_of (λ (t : StoredTable). t.leaves) d.table n (table_after_place d state.entries q ds) state.tables refl) s) refl
        (entry_scan (with_placed d.column state.entries) (table_at (change_table d.table (table_after_place d state.entries q ds) state.tables) at.descending.entering.work.table)
        (change_entering (with_placed d.column state.entries) at.descending.entering.work) s at.descending.entering);
    row = λ s number change placed p active at may. at_work s _ _ _ at.entering.work active at.entering.goes_on
        (written_frame s number change.key (table_after_row p change placed change.new) (row_taken m state good o s number change placed at)) refl
        (row_scan (table_at (change_table number (table_after_row p change placed change.new) state.tables) at.entering.work.table) (table_at state.tables number)
        (work_after_row (table_at state.tables number) at.entering.work) s at.entering);
  }

pub scanned_kept : (m : Machine) (state : State) (actor : Actor) (choice : Choice) → IsProper m → InOrder m state → MayHappen m state actor choice
    → HaveScanned (after m state actor choice).tables (after m state actor choice).sessions
scanned_kept m state actor choice good o h = event_keeps m state good o (λ (st : State). HaveScanned st.tables st.sessions) (scanned_each m state good o) actor choice h
