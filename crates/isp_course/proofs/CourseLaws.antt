-- Statements stay on course, event by event.
use Rattle.std.proofs.Common.{◌≡◌, ◌⊎◌, ◌∙◌, ◌≤◌, ◌<◌, inl, inr, refl, sym, ap, subst, ℕ, ℤ, ◌==◌, ◌&&◌, ◌||◌, Bool, true, false, Option, Some, None, List, [], ◌∷◌, ◌++◌, drop, length, map, eqb-true, eq-eqb}
use Rattle.std.specs.Prelude.{slice_set}
use Rattle.std.specs.Option.{option_and_then, option_map}
use Rattle.std.proofs.lemmas.Bool.{false≢true}
use Rattle.isp_base.specs.Lists.{Has}
use Rattle.isp_laws.proofs.ListLaws.{Has-append, Has-append_right, Has-map, Has-map_of, Source}
use Rattle.isp_mbr.specs.declared.predicate.Predicate.{Predicate}
use Rattle.isp_reclock.specs.declared.modes.Mode.{Mode}
use Rattle.isp_reclock.specs.declared.modes.Mode.TheVariants.{S, X}
use Rattle.isp_reclock.specs.Tables.{key_lock, table_lock, takes}
use Rattle.isp_plain.specs.declared.statement.Statement.{Statement}
use Rattle.isp_plain.specs.declared.statement.Statement.TheVariants.{Create, Insert, Select, Update, Delete, Begin, Commit, Rollback, Refused}
use Rattle.isp_plain.specs.declared.value.Row.{Row}
use Rattle.isp_plain.specs.declared.value.Schema.{Schema}
use Rattle.isp_plain.specs.Values.{key_of}
use Rattle.isp_changes.specs.Changes.{is_held}
use Rattle.isp_forest.specs.Search.{Search}
use Rattle.isp_events.specs.Stored.{KeptRow, Leaf, StoredTable, indexed, kept_at, leaf_behind, present, row_of, rows_of, table_at, tree_of, unmarked, version_of}
use Rattle.isp_events.specs.Sessions.{Change, Entering, Failure, duplicate, too_large, file_full, Image, Note, Phase, locking, writing, unlocked, entering, SessionState, UndoEntry, Work, adding, columns_for, outgrows_by, phase_with, session_at}
use Rattle.isp_events.specs.State.{State}
use Rattle.isp_events.specs.Views.{committed_row, first_image, has_written, row_or, statement_undo, view_at}
use Rattle.isp_events.specs.Ways.{Machine, Way, by_key, by_box, by_scan}
use Rattle.isp_events.specs.Deadlocks.{after_refusal}
use Rattle.isp_events.specs.Asking.{after_key_lock, after_table_lock, begun_work, failure_of_duplicate, failure_of_found, failure_with, first_phase, noted, phase_after_key, phase_by, read_with, work_after_key}
use Rattle.isp_events.specs.Reading.{after_scan, after_visit, as_read, rows_in, search_before, some_outgrow, visited, work_after_scan, work_after_visit}
use Rattle.isp_events.specs.Placing.{after_full, after_place, after_stale, after_step, failed_full, phase_with_entry, stepped, tree_for, with_placed, without_path}
use Rattle.isp_events.specs.Writing.{MayWriteRow, Put, after_row, are_apart, phase_after_row, session_after_row, table_with_row, work_after_row}
use Rattle.isp_events.specs.Ending.{after_answer, after_create, after_end, after_undo, restored}
use Rattle.isp_events.specs.Purging.{after_purge}
use Rattle.isp_order.specs.Locks.{Holds, lock_on}
use Rattle.isp_order.specs.Work.{AreApart, FitsPhase, HasWritten, IsAtHand, IsChanging, IsReadOf, IsUndoOf, IsWriting, changes_by, changes_done, is_before_writing, is_by_scan, is_finding, keys_changed, keys_undone, leaves_scanned, undo_since, way_of}
use Rattle.isp_order.specs.InOrder.{InOrder, IsProper}
use Rattle.isp_order.proofs.RowLaws.{lookup_has}
use Rattle.isp_order.proofs.SessionLaws.{other_at, same_at, seated}
use Rattle.isp_order.proofs.TableLaws.{definitions_changed, same_schema}
use Rattle.isp_causes.specs.Causes.{GoesOn, IsActive, IsEntering, IsLockingKey, IsLockingRow, IsScanning, IsUndoing, IsVisiting, IsWritingRow}
use Rattle.isp_causes.proofs.EventCases.{EachKeeps, event_keeps}
use Rattle.isp_order_locks.proofs.LockLists.{held_without, keeps_taken, now_held, takes_key}
use Rattle.isp_order_locks.proofs.LockedLaws.{at_hand, keeps_all, keeps_others}
use Rattle.isp_order_reads.proofs.KeysLaws.{scans_by}
use Rattle.isp_order_reads.proofs.RowFrames.{Reads, table_has, taker_reads}
use Rattle.isp_order_reads.proofs.ScanParts.{read_append, read_on, scanned_next}
use Rattle.isp_order_whole.proofs.WholeLaws.{order_kept}
use Rattle.isp_order_work.proofs.WorkParts.{carried, no_work, undisturbed_step, undisturbed_victims}
use Rattle.isp_order_work.proofs.WrittenLaws.{nothing_since}
use Rattle.isp_answers.specs.Course.{AreOnCourse, HasDuplicate, HasTooLarge, IsOnCourse, is_insert, saw}
use Rattle.isp_views.specs.Views.{IsUnmoved, definition_at}
use Rattle.isp_views.proofs.ViewLaws.{found_in, has_dropped, reader_sees, reader_unwritten}
use Rattle.isp_views.proofs.MovedLaws.{begun_is, full_unmoved, lock_key_unmoved, lock_table_unmoved, place_unmoved, purge_unmoved, refuse_unmoved, row_unmoved, scan_unmoved, stale_unmoved, step_unmoved, undo_view, visit_unmoved, works_on}
use Rattle.isp_views.proofs.EndLaws.{answer_others, end_others, end_others_then}
use Rattle.isp_course.proofs.ReadLaws.{all_read, held_key, scan_locks}
use Rattle.isp_course.specs.CourseOrder.{KeepsCourse}
use Rattle.isp_course.proofs.CourseParts.{duplicate_key, some_is, none_some, with_done, keys_done, entry_writes, entry_done, visit_done, leaf_done, leaf_last, not_scanned, visits_not_scan, IsInsert, unlocked_inserts, insert_is, not_held, IsSplit, split_rows, keys_of_adding, through_all, unmarked_has, none_any, some_any, noted_none, noted_some, large_apart, full_large, full_apart, found_large, found_small, course_with}

module _ (m : Machine) (state : State) (good : IsProper m) (o : InOrder m state) (course : AreOnCourse state) where
  -- ---- a session that doesn't act

  -- the keys of changes done are locked
  pub done_taken : (j : ℕ) (work : Work) → (session_at state.sessions j).work ≡ Some work → (session_at state.sessions j).victim ≡ false → work.failure ≡ None
      → (change : Change) → Has (changes_done work.phase) change → takes state.locks work.table change.key j ≡ true
  done_taken j work at undisturbed unfailed change has =
      let w = o.written j work at undisturbed in
      let undone : keys_undone (undo_since (session_at state.sessions j) work) ≡ keys_changed (changes_done work.phase) =
      subst (λ f. IsUndoOf f (keys_undone (undo_since (session_at state.sessions j) work)) (keys_changed (changes_done work.phase))) unfailed w.undo in
      let among : Has (keys_undone (undo_since (session_at state.sessions j) work)) change.key =
      subst (λ (ks : List ℤ). Has ks change.key) (sym undone) (Has-map_of (λ (c : Change). c.key) (changes_done work.phase) change has) in
      let src : Source (λ (u : UndoEntry). u.key) (undo_since (session_at state.sessions j) work) change.key = Has-map (λ (u : UndoEntry). u.key) (undo_since (session_at state.sessions j) work) change.key among in
      subst (λ t. takes state.locks t change.key j ≡ true) (w.of_table src.x src.has)
      (subst (λ k. takes state.locks src.x.table k j ≡ true) src.is
      (o.written_locked.undone j src.x (has_dropped m state o work.begun (session_at state.sessions j).undo src.x src.has)))

  -- what it has locked it sees as it did
  moved : (now : State) (j : ℕ) (work : Work) → (session_at state.sessions j).work ≡ Some work → (session_at state.sessions j).victim ≡ false
      → map definition_at now.tables ≡ map definition_at state.tables
      → ((key : ℤ) → takes state.locks work.table key j ≡ true → saw now j work key ≡ saw state j work key)
      → ((key : ℤ) → takes state.locks work.table key j ≡ true → takes now.locks work.table key j ≡ true)
      → (work.failure ≡ None → is_before_writing work.phase ≡ false → (key : ℤ) (row : Row) → saw now j work key ≡ Some row → is_held work.statement row ≡ true
      → Has {X = ℤ × Option Row} work.read (key, Some row))
      → IsOnCourse now j work
  moved now j work at undisturbed definitions same locks complete =
      let c : IsOnCourse state j work = course j work at undisturbed in
      let schema : (table_at now.tables work.table).schema ≡ (table_at state.tables work.table).schema = same_schema work.table now.tables state.tables definitions in
      record {
        complete = complete;
        small = λ unfailed key row has. ap (λ (x : Schema). outgrows_by x work.statement row) schema ∙ c.small unfailed key row has;
        absent = λ unfailed inserts change has. same change.key (done_taken j work at undisturbed unfailed change has) ∙ c.absent unfailed inserts change has;
        too_large = λ failed. (let l : HasTooLarge state work = c.too_large failed in record {
          key = l.key;
          row = l.row;
          read = l.read;
          outgrows = ap (λ (x : Schema). outgrows_by x work.statement l.row) schema ∙ l.outgrows;
        });
        duplicate = λ key failed. (let d : HasDuplicate state j work key = c.duplicate key failed in record {
          name = d.name;
          earlier = d.earlier;
          row = d.row;
          rest = d.rest;
          rows = d.rows;
          same_key = d.same_key;
          taken = locks key d.taken;
          absent = λ other has. same (key_of other) (d.locked other has) ∙ d.absent other has;
          locked = λ other has. locks (key_of other) (d.locked other has);
          apart = d.apart;
          there = elim d.there [ inl ne ↦ inl (λ none. ne (sym (same key d.taken) ∙ none)) | inr has ↦ inr has ];
        });
      }

  -- an event that leaves what is seen
  left : (now : State) → IsUnmoved m state now → ((j t : ℕ) (key : ℤ) → takes state.locks t key j ≡ true → takes now.locks t key j ≡ true)
      → (j : ℕ) (work : Work) → (session_at state.sessions j).work ≡ Some work → (session_at state.sessions j).victim ≡ false → IsOnCourse now j work
  left now u locks j work at undisturbed =
      let same : (key : ℤ) → saw now j work key ≡ saw state j work key = λ key. u.views j (works_on m state o j work at undisturbed) work.table key in
      moved now j work at undisturbed u.definitions (λ key taken. same key) (λ key taken. locks j work.table key taken)
      (λ unfailed writes key row sees held. (course j work at undisturbed).complete unfailed writes key row (sym (same key) ∙ sees) held)

  step : (now : State) (s : ℕ) (new : SessionState) → now.sessions ≡ slice_set state.sessions s new → IsActive state s → IsUnmoved m state now
      → ((j t : ℕ) (key : ℤ) → takes state.locks t key j ≡ true → takes now.locks t key j ≡ true)
      → ((work : Work) → new.work ≡ Some work → new.victim ≡ false → IsOnCourse now s work) → AreOnCourse now
  step now s new is active u locks own =
      subst (λ (xs : List SessionState). (k : ℕ) (work : Work) → (session_at xs k).work ≡ Some work → (session_at xs k).victim ≡ false → IsOnCourse now k work) (sym is)
      (undisturbed_step (λ k session work. IsOnCourse now k work) state.sessions s new active.not_over own (λ k ne work at undisturbed. left now u locks k work at undisturbed))

  keep_locks : (j t : ℕ) (key : ℤ) → takes state.locks t key j ≡ true → takes state.locks t key j ≡ true
  keep_locks j t key h = h

  -- its work becomes another
  works : (now : State) (s : ℕ) (new : SessionState) (f : Work → Work) (work : Work) → now.sessions ≡ slice_set state.sessions s new → IsActive state s → GoesOn (session_at state.sessions s) work
      → IsUnmoved m state now → ((j t : ℕ) (key : ℤ) → takes state.locks t key j ≡ true → takes now.locks t key j ≡ true)
      → new.work ≡ option_map f (session_at state.sessions s).work
      → (IsOnCourse now s work → (session_at now.sessions s).work ≡ Some (f work) → (session_at now.sessions s).victim ≡ new.victim → new.victim ≡ false → IsOnCourse now s (f work)) → AreOnCourse now
  works now s new f work is active go u locks becomes own =
      step now s new is active u locks
      (λ then at undisturbed. (let same : f work ≡ then = carried f (session_at state.sessions s) new work then becomes go.at_work at in
      let here : session_at now.sessions s ≡ new = ap (λ xs. session_at xs s) is ∙ same_at state.sessions s new (seated state.sessions s active.not_over) in
      subst (λ (w : Work). IsOnCourse now s w) same
      (own (left now u locks s work go.at_work go.undisturbed)
      (ap (λ (x : SessionState). x.work) here ∙ at ∙ ap (λ w. Some w) (sym same)) (ap (λ (x : SessionState). x.victim) here) undisturbed)))

  -- one step on the way of an entry
  enters : (now : State) (s : ℕ) (new : SessionState) (f : Entering → Entering) (work : Work) → now.sessions ≡ slice_set state.sessions s new → IsActive state s
      → GoesOn (session_at state.sessions s) work → IsUnmoved m state now → ((j t : ℕ) (key : ℤ) → takes state.locks t key j ≡ true → takes now.locks t key j ≡ true)
      → new.work ≡ option_map (λ (w : Work). record w { phase = phase_with_entry f w.phase }) (session_at state.sessions s).work → AreOnCourse now
  enters now s new f work is active go u locks becomes =
      works now s new (λ (w : Work). record w { phase = phase_with_entry f w.phase }) work is active go u locks becomes
      (λ c at victim undisturbed. course_with now s work (phase_with_entry f work.phase) (entry_writes f work.phase) (entry_done f work.phase) c)

  -- ---- a statement begins

  way_before : (way : Way) → is_before_writing (phase_by way) ≡ true
  way_before (by_key key) = refl
  way_before (by_box column predicate) = refl
  way_before by_scan = refl

  -- a statement that writes at once has no condition
  first_held : (table : StoredTable) (statement : Statement) (way : Way) (row : Row) → is_before_writing (first_phase table statement way) ≡ false → is_held statement row ≡ true → ⊥
  first_held table (Insert name rows) way row writes held = false≢true held
  first_held table (Select name columns w) way row writes held = false≢true (sym writes ∙ way_before way)
  first_held table (Update name sets w) way row writes held = false≢true (sym writes ∙ way_before way)
  first_held table (Delete name w) way row writes held = false≢true (sym writes ∙ way_before way)
  first_held table (Create name schema) way row writes held = false≢true held
  first_held table Begin way row writes held = false≢true held
  first_held table Commit way row writes held = false≢true held
  first_held table Rollback way row writes held = false≢true held
  first_held table (Refused refusal) way row writes held = false≢true held

  insert_done : (table : StoredTable) (statement : Statement) (way : Way) → is_insert statement ≡ true → changes_done (first_phase table statement way) ≡ []
  insert_done table (Insert name rows) way h = with_done (Insert name rows) (indexed table) [] (map adding rows)
  insert_done table (Select name columns w) way h = absurd (false≢true h)
  insert_done table (Update name sets w) way h = absurd (false≢true h)
  insert_done table (Delete name w) way h = absurd (false≢true h)
  insert_done table (Create name schema) way h = absurd (false≢true h)
  insert_done table Begin way h = absurd (false≢true h)
  insert_done table Commit way h = absurd (false≢true h)
  insert_done table Rollback way h = absurd (false≢true h)
  insert_done table (Refused refusal) way h = absurd (false≢true h)

  begun_course : (now : State) (s : ℕ) (table : StoredTable) (number : ℕ) (statement : Statement) (way : Way) (undo : ℕ) → IsOnCourse now s (begun_work table number statement way undo)
  begun_course now s table number statement way undo = record {
    complete = λ unfailed writes key row sees held. absurd (first_held table statement way row writes held);
    small = λ unfailed key row has. absurd has;
    absent = λ unfailed inserts change has. absurd (subst (λ (xs : List Change). Has xs change) (insert_done table statement way inserts) has);
    too_large = λ failed. absurd (none_some too_large failed);
    duplicate = λ key failed. absurd (none_some (duplicate key) failed);
  }

  -- ---- a key is locked and read

  -- what nobody noted yet, and nothing undone
  find_notes : (s : ℕ) (work : Work) → GoesOn (session_at state.sessions s) work → is_before_writing work.phase ≡ true
      → (note : Note) → Has (session_at state.sessions s).notes note → note.statement < (session_at state.sessions s).number
  find_notes s work go finding note has = (o.before s).not_yet note has (ap is_finding go.at_work ∙ finding)

  -- all that is held is read, as the phase before writing ends
  finds : (now : State) (s : ℕ) (new : SessionState) (work then : Work) → InOrder m now → now.sessions ≡ slice_set state.sessions s new → now.tables ≡ state.tables → IsActive state s
      → GoesOn (session_at state.sessions s) work → is_before_writing work.phase ≡ true → changes_done work.phase ≡ []
      → new.undo ≡ (session_at state.sessions s).undo → new.notes ≡ (session_at state.sessions s).notes → new.number ≡ (session_at state.sessions s).number
      → then.begun ≡ work.begun → (session_at now.sessions s).work ≡ Some then → (session_at now.sessions s).victim ≡ new.victim → new.victim ≡ false
      → is_by_scan (way_of m.ways now.tables then) ≡ false → is_before_writing then.phase ≡ false
      → (key : ℤ) (row : Row) → saw now s then key ≡ Some row → is_held then.statement row ≡ true → Has {X = ℤ × Option Row} then.read (key, Some row)
  finds now s new work then onow is tables active go finding nothing undo notes number begun at victim undisturbed scan writes key row sees held =
      let here : session_at now.sessions s ≡ new = ap (λ xs. session_at xs s) is ∙ same_at state.sessions s new (seated state.sessions s active.not_over) in
      let undo' : (session_at now.sessions s).undo ≡ (session_at state.sessions s).undo = ap (λ (x : SessionState). x.undo) here ∙ undo in
      let notes' : (session_at now.sessions s).notes ≡ (session_at state.sessions s).notes = ap (λ (x : SessionState). x.notes) here ∙ notes in
      let number' : (session_at now.sessions s).number ≡ (session_at state.sessions s).number = ap (λ (x : SessionState). x.number) here ∙ number in
      all_read m now good onow s then at (victim ∙ undisturbed) writes
      (ap (λ n. drop n (session_at now.sessions s).undo) begun ∙ ap (drop work.begun) undo' ∙ nothing_since m state good o s work go nothing)
      (λ note has. subst (λ n. note.statement < n) (sym number') (find_notes s work go finding note (subst (λ (xs : List Note). Has xs note) notes' has)))
      scan key row sees held

  -- the work behind a key's lock, by its phase
  abbrev keyed_by : StoredTable → Option Row → Work → Phase → Work
  keyed_by table row work phase = record work {
    read = read_with phase work.read row;
    failure = failure_with table work.statement phase row work.failure;
    phase = phase_after_key table work.statement phase (read_with phase work.read row);
  }

  key_locked : (s number : ℕ) (key : ℤ) (mode : Mode) → InOrder m (after_key_lock state s number key mode) → IsActive state s → IsLockingKey (session_at state.sessions s) number key mode
      → AreOnCourse (after_key_lock state s number key mode)
  key_locked s number key mode onow active at =
      works now s new (work_after_key table row) work refl active at.goes_on (lock_key_unmoved m state good o s number key mode)
      (λ j t k h. keeps_taken state.locks now.locks j t k (keeps_all state.locks (key_lock s number key mode) j) h) refl
      (λ c at' victim undisturbed. subst (λ (w : Work). IsOnCourse now s w) (sym here) (of_work c (at' ∙ ap (λ w. Some w) here) victim undisturbed))
    where
      now : State
      now = after_key_lock state s number key mode

      table : StoredTable
      table = table_at state.tables number

      row : Option Row
      row = row_of (present table key)

      work : Work
      work = at.work

      new : SessionState
      new = record (session_at state.sessions s) { work = option_map (work_after_key table row) (session_at state.sessions s).work }

      then : Work
      then = keyed_by table row work (locking (key ∷ at.keys))

      here : work_after_key table row work ≡ then
      here = ap (keyed_by table row work) at.phase

      table_is : table ≡ table_at state.tables work.table
      table_is = ap (table_at state.tables) at.number_is

      unfailed_is : (failure : Option Failure) → then.failure ≡ failure → failure_of_found table work.statement row None ≡ failure
      unfailed_is failure h = ap (failure_of_found table work.statement row) (sym at.goes_on.unfailed) ∙ h

      of_work : IsOnCourse now s work → (session_at now.sessions s).work ≡ Some then → (session_at now.sessions s).victim ≡ new.victim → new.victim ≡ false → IsOnCourse now s then
      of_work c at' victim undisturbed = record {
        complete = λ unfailed writes k r sees held.
            finds now s new work then onow refl refl active at.goes_on (ap is_before_writing at.phase) (ap changes_done at.phase) refl refl refl refl at' victim undisturbed
            (not_scanned (way_of m.ways state.tables work) work.statement (key ∷ at.keys) (subst (FitsPhase (way_of m.ways state.tables work) work.statement) at.phase (o.bound s work at.goes_on.at_work).phase))
            writes k r sees held;
        small = λ unfailed k r has. by_place unfailed k r (Has-append work.read ((key, row) ∷ []) (k, Some r) has);
        absent = λ unfailed inserts change has.
            absurd (subst (λ (xs : List Change). Has xs change) (keys_done table work.statement at.keys (work.read ++ (key, row) ∷ [])) has);
        too_large = λ failed. (let f = found_large table work.statement row too_large (unfailed_is (Some too_large) failed) in record {
          key = key;
          row = f.1.0;
          read = Has-append_right work.read ((key, row) ∷ []) (key, Some f.1.0) (inl (pair_is row (Some f.1.0) f.1.1));
          outgrows = ap (λ (t : StoredTable). outgrows_by t.schema work.statement f.1.0) (sym table_is) ∙ f.1.2;
        });
        duplicate = λ k failed. absurd (large_apart k (sym (found_large table work.statement row (duplicate k) (unfailed_is (Some (duplicate k)) failed)).0));
      }
        where
          pair_is : (a b : Option Row) → a ≡ b → ◌≡◌ {A = ℤ × Option Row} (key, a) (key, b)
          pair_is a b p = ap (λ x. (let y : ℤ × Option Row = (key, x) in y)) p

          by_place : then.failure ≡ None → (k : ℤ) (r : Row) → Has {X = ℤ × Option Row} work.read (k, Some r) ⊎ Has {X = ℤ × Option Row} ((key, row) ∷ []) (k, Some r)
              → outgrows_by (table_at state.tables work.table).schema work.statement r ≡ false
          by_place unfailed k r (inl has) = (course s work at.goes_on.at_work at.goes_on.undisturbed).small at.goes_on.unfailed k r has
          by_place unfailed k r (inr (inl is)) =
              ap (λ (t : StoredTable). outgrows_by t.schema work.statement r) (sym table_is)
              ∙ found_small table work.statement row (unfailed_is None unfailed) r (ap (λ p. p.1) is)
          by_place unfailed k r (inr (inr f)) = absurd f

  -- ---- a row's key is locked

  row_locked : (s number : ℕ) (key : ℤ) (mode : Mode) → InOrder m (after_key_lock state s number key mode) → IsActive state s → IsLockingRow (session_at state.sessions s) number key mode
      → AreOnCourse (after_key_lock state s number key mode)
  row_locked s number key mode onow active at =
      works now s new (work_after_key table row) work refl active at.goes_on u
      (λ j t k h. keeps_taken state.locks now.locks j t k (keeps_all state.locks (key_lock s number key mode) j) h) refl
      (λ c at' victim undisturbed. subst (λ (w : Work). IsOnCourse now s w) (sym here) (by_row c row refl))
    where
      now : State
      now = after_key_lock state s number key mode

      u : IsUnmoved m state now
      u = lock_key_unmoved m state good o s number key mode

      table : StoredTable
      table = table_at state.tables number

      row : Option Row
      row = row_of (present table key)

      work : Work
      work = at.work

      session : SessionState
      session = session_at state.sessions s

      new : SessionState
      new = record session { work = option_map (work_after_key table row) session.work }

      then : Option Row → Work
      then r = record work {
        failure = failure_of_duplicate at.change.key r work.failure;
        phase = writing at.done (at.change ∷ at.left) (entering (record { columns = columns_for (indexed table) at.change.old at.change.new; placed = []; path = []; at_leaf = false }));
      }

      here : work_after_key table row work ≡ then row
      here = ap (keyed_by table row work) at.phase

      writes : is_before_writing work.phase ≡ false
      writes = ap is_before_writing at.phase

      done_is : changes_done work.phase ≡ at.done
      done_is = ap changes_done at.phase

      inserts : IsInsert work.statement
      inserts = unlocked_inserts (way_of m.ways state.tables work) work.statement at.done (at.change ∷ at.left)
          (subst (FitsPhase (way_of m.ways state.tables work) work.statement) at.phase (o.bound s work at.goes_on.at_work).phase)

      changing : IsWriting state.tables state.locks s work at.done (at.change ∷ at.left) unlocked
      changing = subst (IsChanging state.tables state.locks s work) at.phase (o.changing s work at.goes_on.at_work at.goes_on.undisturbed at.goes_on.unfailed)

      split : IsSplit inserts.rows at.done at.change
      split = split_rows inserts.rows at.done at.change at.left (changing.all ∙ ap (λ st. changes_by st work.read) inserts.is)

      split_key : key_of split.row ≡ at.change.key
      split_key = ap (λ (c : Change). c.key) split.change_is

      w : HasWritten session work
      w = o.written s work at.goes_on.at_work at.goes_on.undisturbed

      undone : keys_undone (undo_since session work) ≡ keys_changed at.done
      undone = subst (λ f. IsUndoOf f (keys_undone (undo_since session work)) (keys_changed (changes_done work.phase))) at.goes_on.unfailed w.undo ∙ ap keys_changed done_is

      earlier_keys : keys_changed at.done ≡ map key_of split.earlier
      earlier_keys = ap keys_changed (sym split.done_are) ∙ keys_of_adding split.earlier

      now_taken : takes now.locks work.table at.change.key s ≡ true
      now_taken = takes_key now.locks work.table at.change.key s
          (subst (λ n. Holds now.locks s n (Some at.change.key) X) at.number_is (subst (λ k. Holds now.locks s number (Some k) X) at.key_is
          (subst (λ md. Holds now.locks s number (Some key) md) at.mode_is (now_held state.locks (key_lock s number key mode)))))

      same : (k : ℤ) → saw now s work k ≡ saw state s work k
      same k = u.views s (works_on m state o s work at.goes_on.at_work at.goes_on.undisturbed) work.table k

      of_earlier : (other : Row) → Has split.earlier other → Has (changes_done work.phase) (adding other)
      of_earlier other has = subst (λ (xs : List Change). Has xs (adding other)) (split.done_are ∙ sym done_is) (Has-map_of adding split.earlier other has)

      -- where a row stands at the key, it was seen, or is one of those done
      stood : (r : Row) → row ≡ Some r → (saw now s work at.change.key ≡ None → ⊥) ⊎ Has (map key_of split.earlier) at.change.key
      stood r is = by_image (first_image (undo_since session work) work.table at.change.key) refl
        where
          by_image : (i : Option Image) → first_image (undo_since session work) work.table at.change.key ≡ i → (saw now s work at.change.key ≡ None → ⊥) ⊎ Has (map key_of split.earlier) at.change.key
          by_image (Some image) e =
              let f = found_in m state o (undo_since session work) work.table at.change.key image e in
              let has : Has (keys_undone (undo_since session work)) at.change.key = subst (λ k. Has (keys_undone (undo_since session work)) k) f.3 (Has-map_of (λ (x : UndoEntry). x.key) (undo_since session work) f.0 f.1) in
              inr (subst (λ (ks : List ℤ). Has ks at.change.key) (undone ∙ earlier_keys) has)
          by_image None e = inl (λ none. none_some r (sym none ∙ seen))
            where
              here_session : session_at now.sessions s ≡ new
              here_session = same_at state.sessions s new (seated state.sessions s active.not_over)

              now_work : (session_at now.sessions s).work ≡ Some (work_after_key table row work)
              now_work = ap (λ (x : SessionState). x.work) here_session ∙ ap (option_map (work_after_key table row)) at.goes_on.at_work

              since : statement_undo (session_at now.sessions s) ≡ undo_since session work
              since = begun_is m now good onow (session_at now.sessions s) (work_after_key table row work) now_work
                  ∙ ap (λ (x : SessionState). drop work.begun x.undo) here_session

              seen : saw now s work at.change.key ≡ Some r
              seen =
                  ap (λ us. row_or (first_image us work.table at.change.key) (view_at now s work.table at.change.key)) since
                  ∙ ap (λ i. row_or i (view_at now s work.table at.change.key)) e
                  ∙ reader_sees m now onow good s work.table at.change.key (taker_reads m now good onow s work.table at.change.key now_taken)
                  ∙ ap (λ n. row_of (present (table_at state.tables n) at.change.key)) (sym at.number_is)
                  ∙ ap (λ k. row_of (present table k)) (sym at.key_is) ∙ is

      by_row : IsOnCourse now s work → (r : Option Row) → row ≡ r → IsOnCourse now s (then r)
      by_row c None is = record {
        complete = λ unfailed later k x sees held. absurd (not_held work.statement x inserts held);
        small = λ unfailed k x has. c.small unfailed k x has;
        absent = λ unfailed ins change has. c.absent unfailed ins change (subst (λ (xs : List Change). Has xs change) (sym done_is) has);
        too_large = λ failed. absurd (none_some too_large (sym at.goes_on.unfailed ∙ failed));
        duplicate = λ k failed. absurd (none_some (duplicate k) (sym at.goes_on.unfailed ∙ failed));
      }
      by_row c (Some r) is = record {
        complete = λ unfailed. absurd (none_some (duplicate at.change.key) (sym unfailed));
        small = λ unfailed. absurd (none_some (duplicate at.change.key) (sym unfailed));
        absent = λ unfailed. absurd (none_some (duplicate at.change.key) (sym unfailed));
        too_large = λ failed. absurd (large_apart at.change.key (sym (some_is (duplicate at.change.key) too_large failed)));
        duplicate = λ k failed.
            subst (λ x. HasDuplicate now s (then (Some r)) x) (ap (duplicate_key k) (some_is (duplicate at.change.key) (duplicate k) failed)) (record {
              name = inserts.name;
              earlier = split.earlier;
              row = split.row;
              rest = split.rest;
              rows = inserts.is ∙ ap (Insert inserts.name) split.all;
              same_key = split_key;
              taken = now_taken;
              absent = λ other has. c.absent at.goes_on.unfailed (ap is_insert inserts.is) (adding other) (of_earlier other has);
              locked = λ other has. keeps_taken state.locks now.locks s work.table (key_of other) (keeps_all state.locks (key_lock s number key mode) s)
                  (done_taken s work at.goes_on.at_work at.goes_on.undisturbed at.goes_on.unfailed (adding other) (of_earlier other has));
              apart = subst (λ ks. AreApart ks) earlier_keys (subst (λ (xs : List Change). AreApart (keys_changed xs)) done_is w.once);
              there = stood r is;
            });
      }

  -- ---- a page is visited, a leaf is gone over

  visited_course : (s number column : ℕ) (predicate : Predicate) → InOrder m (after_visit state s number column predicate) → IsActive state s
      → IsVisiting m state (session_at state.sessions s) number column predicate → AreOnCourse (after_visit state s number column predicate)
  visited_course s number column predicate onow active at =
      works now s new (work_after_visit table x) work refl active at.goes_on (visit_unmoved m state good o s number column predicate) keep_locks refl
      (λ c at' victim undisturbed. record {
        complete = λ unfailed writes k r sees held.
            finds now s new work (work_after_visit table x work) onow refl refl active at.goes_on (ap is_before_writing at.phase) (ap changes_done at.phase) refl refl refl refl at' victim undisturbed
            (visits_not_scan (way_of m.ways state.tables work) work.statement (subst (FitsPhase (way_of m.ways state.tables work) work.statement) at.phase (o.bound s work at.goes_on.at_work).phase))
            writes k r sees held;
        small = λ unfailed k r has. c.small unfailed k r has;
        absent = λ unfailed inserts change has. absurd (subst (λ (xs : List Change). Has xs change) (visit_done table work.statement x) has);
        too_large = λ failed. absurd (none_some too_large (sym at.goes_on.unfailed ∙ failed));
        duplicate = λ k failed. absurd (none_some (duplicate k) (sym at.goes_on.unfailed ∙ failed));
      })
    where
      now : State
      now = after_visit state s number column predicate

      table : StoredTable
      table = table_at state.tables number

      x : Search
      x = visited (tree_of table column) (search_before state.searches (tree_of table column) s (session_at state.sessions s).number predicate)

      work : Work
      work = at.work

      new : SessionState
      new = record (session_at state.sessions s) { work = option_map (work_after_visit table x) (session_at state.sessions s).work }

  scanned_course : (s number : ℕ) (leaf : Leaf) → InOrder m (after_scan state s number leaf) → IsActive state s → IsScanning state (session_at state.sessions s) number leaf
      → AreOnCourse (after_scan state s number leaf)
  scanned_course s number leaf onow active at =
      works now s new (work_after_scan table leaf) work refl active at.goes_on u keep_locks refl (λ c at' victim undisturbed. record {
        complete = λ unfailed writes k r sees held. complete writes k r sees held;
        small = λ unfailed k r has. by_place unfailed k r (Has-append work.read (map as_read (rows_in leaf)) (k, Some r) has);
        absent = λ unfailed inserts change has.
            absurd (subst (λ (xs : List Change). Has xs change) (leaf_done table work.statement leaf (work.read ++ map as_read (rows_in leaf))) has);
        too_large = λ failed. large (some_any (λ e. outgrows_by table.schema work.statement e.1) (rows_in leaf) (noted_some (some_outgrow table.schema work.statement (rows_in leaf)) too_large (unfailed_is (Some too_large) failed)).0);
        duplicate = λ k failed. absurd (large_apart k (sym (noted_some (some_outgrow table.schema work.statement (rows_in leaf)) (duplicate k) (unfailed_is (Some (duplicate k)) failed)).1));
      })
    where
      now : State
      now = after_scan state s number leaf

      u : IsUnmoved m state now
      u = scan_unmoved m state good o s number leaf

      table : StoredTable
      table = table_at state.tables number

      work : Work
      work = at.work

      then : Work
      then = work_after_scan table leaf work

      new : SessionState
      new = record (session_at state.sessions s) { work = option_map (work_after_scan table leaf) (session_at state.sessions s).work }

      table_is : table ≡ table_at state.tables work.table
      table_is = ap (table_at state.tables) at.number_is

      unfailed_is : (failure : Option Failure) → then.failure ≡ failure → noted (some_outgrow table.schema work.statement (rows_in leaf)) too_large None ≡ failure
      unfailed_is failure h = ap (noted (some_outgrow table.schema work.statement (rows_in leaf)) too_large) (sym at.goes_on.unfailed) ∙ h

      pair_is : (a : ℤ) (b : Row) (e : ℤ × Row) → e.0 ≡ a → e.1 ≡ b → e ≡ (a, b)
      pair_is a b e p q i = (p i, q i)

      some_row : (e : ℤ × Row) (k : ℤ) (r : Row) → as_read e ≡ (k, Some r) → ◌≡◌ {A = ℤ × Row} e (k, r)
      some_row e k r h = pair_is k r e (ap (λ p. p.0) h) (some_is e.1 r (ap (λ p. p.1) h))

      by_place : then.failure ≡ None → (k : ℤ) (r : Row) → Has {X = ℤ × Option Row} work.read (k, Some r) ⊎ Has {X = ℤ × Option Row} (map as_read (rows_in leaf)) (k, Some r)
          → outgrows_by (table_at state.tables work.table).schema work.statement r ≡ false
      by_place unfailed k r (inl has) = (course s work at.goes_on.at_work at.goes_on.undisturbed).small at.goes_on.unfailed k r has
      by_place unfailed k r (inr has) =
          let src : Source {X = ℤ × Row} as_read (rows_in leaf) (k, Some r) = Has-map {X = ℤ × Row} as_read (rows_in leaf) (k, Some r) has in
          let none : some_outgrow table.schema work.statement (rows_in leaf) ≡ false = noted_none (some_outgrow table.schema work.statement (rows_in leaf)) (unfailed_is None unfailed) in
          ap (λ (t : StoredTable). outgrows_by t.schema work.statement r) (sym table_is)
          ∙ ap (outgrows_by table.schema work.statement) (sym (ap (λ p. p.1) (some_row src.x k r src.is)))
          ∙ none_any (λ e. outgrows_by table.schema work.statement e.1) (rows_in leaf) src.x none src.has

      large : (e : ℤ × Row) × Has (rows_in leaf) e × (outgrows_by table.schema work.statement e.1 ≡ true) → HasTooLarge now then
      large e = record {
        key = e.0.0;
        row = e.0.1;
        read = Has-append_right work.read (map as_read (rows_in leaf)) (e.0.0, Some e.0.1) (Has-map_of {X = ℤ × Row} as_read (rows_in leaf) e.0 e.1);
        outgrows = ap (λ (t : StoredTable). outgrows_by t.schema work.statement e.0.1) (sym table_is) ∙ e.2;
      }

      by_way : is_by_scan (way_of m.ways state.tables work) ≡ true
      by_way = scans_by (way_of m.ways state.tables work) work.statement at.last (subst (FitsPhase (way_of m.ways state.tables work) work.statement) at.phase (o.bound s work at.goes_on.at_work).phase)

      read_so_far : work.read ≡ read_on (leaves_scanned (table_at state.tables work.table).leaves at.last)
      read_so_far = subst (IsReadOf (table_at state.tables work.table) work) at.phase (o.scanned s work at.goes_on.at_work at.goes_on.undisturbed)

      leaves_apart : are_apart (map (λ (y : Leaf). y.page) (table_at state.tables work.table).leaves) ≡ true
      leaves_apart = (o.keyed.each (table_at state.tables work.table) (table_has work.table state.tables (o.bound s work at.goes_on.at_work).first (o.bound s work at.goes_on.at_work).last)).apart

      all_are : leaf_behind (table_at state.tables work.table).leaves leaf.page ≡ None → work.read ++ map as_read (rows_in leaf) ≡ read_on (table_at state.tables work.table).leaves
      all_are behind =
          ap (λ xs. xs ++ map as_read (rows_in leaf)) read_so_far
          ∙ sym (read_append (leaves_scanned (table_at state.tables work.table).leaves at.last) leaf)
          ∙ ap read_on (sym (scanned_next (table_at state.tables work.table).leaves at.last leaf leaves_apart at.leaf_is) ∙ through_all (table_at state.tables work.table).leaves leaf.page behind)

      complete : is_before_writing then.phase ≡ false → (k : ℤ) (r : Row) → saw now s then k ≡ Some r → is_held work.statement r ≡ true
          → Has {X = ℤ × Option Row} then.read (k, Some r)
      complete writes k r sees held =
          let behind : leaf_behind (table_at state.tables work.table).leaves leaf.page ≡ None =
          ap (λ (t : StoredTable). leaf_behind t.leaves leaf.page) (sym table_is) ∙ leaf_last table work.statement leaf (work.read ++ map as_read (rows_in leaf)) writes in
          let before : saw state s work k ≡ Some r = sym (u.views s (works_on m state o s work at.goes_on.at_work at.goes_on.undisturbed) work.table k) ∙ sees in
          let stands : row_of (present (table_at state.tables work.table) k) ≡ Some r =
          sym (reader_sees m state o good s work.table k (scan_locks m state good o s work k at.goes_on.at_work by_way r held))
          ∙ sym (ap (λ us. row_or (first_image us work.table k) (view_at state s work.table k))
          (begun_is m state good o (session_at state.sessions s) work at.goes_on.at_work ∙ nothing_since m state good o s work at.goes_on (ap changes_done at.phase))) ∙ before in
          subst (λ xs. Has {X = ℤ × Option Row} xs (k, Some r)) (sym (all_are behind)) (by_kept k r (kept_at (table_at state.tables work.table) k) refl stands)
        where
          by_kept : (k : ℤ) (r : Row) (kept : Option KeptRow) → kept_at (table_at state.tables work.table) k ≡ kept → row_of (option_and_then version_of kept) ≡ Some r
              → Has {X = ℤ × Option Row} (read_on (table_at state.tables work.table).leaves) (k, Some r)
          by_kept k r None e h = absurd (none_some r h)
          by_kept k r (Some kept) e h =
              Has-map_of {X = ℤ × Row} as_read (unmarked (rows_of (table_at state.tables work.table))) (k, r)
              (unmarked_has (rows_of (table_at state.tables work.table)) k kept r (lookup_has (rows_of (table_at state.tables work.table)) k kept e) h)

  -- ---- a row is written

  written_course : (s number : ℕ) (change : Change) (placed : List (ℕ × ℕ)) (p : Put) → IsActive state s → IsWritingRow state (session_at state.sessions s) number change placed
      → MayWriteRow state number change placed p → AreOnCourse (after_row state s number change placed p)
  written_course s number change placed p active at may =
      works now s new (work_after_row (table_at state.tables number)) work refl active go u keep_locks refl (λ c at' victim undisturbed. of_work c)
    where
      now : State
      now = after_row state s number change placed p

      u : IsUnmoved m state now
      u = row_unmoved m state good o s number change placed p active at may

      en : IsEntering (session_at state.sessions s)
      en = at.entering

      work : Work
      work = en.work

      go : GoesOn (session_at state.sessions s) work
      go = en.goes_on

      session : SessionState
      session = session_at state.sessions s

      new : SessionState
      new = session_after_row (table_at state.tables number) number change placed p.undo session

      phase_is : phase_after_row (table_at state.tables number) work work.phase ≡ phase_with work.statement (indexed (table_at state.tables number)) (en.done ++ en.change ∷ []) en.left
      phase_is = ap (phase_after_row (table_at state.tables number) work) en.phase

      hand : IsAtHand state.tables state.locks s work en.change
      hand = at_hand m state good o s en

      changing : IsWriting state.tables state.locks s work en.done (en.change ∷ en.left) (entering en.e)
      changing = subst (IsChanging state.tables state.locks s work) en.phase (o.changing s work go.at_work go.undisturbed go.unfailed)

      -- the key of a row that is added was absent
      fresh_key : is_insert work.statement ≡ true → saw state s work en.change.key ≡ None
      fresh_key inserts = ap (λ us. row_or (first_image us work.table en.change.key) (view_at state s work.table en.change.key)) (begun_is m state good o session work go.at_work)
          ∙ by_image (first_image (undo_since session work) work.table en.change.key) refl
        where
          i : IsInsert work.statement
          i = insert_is work.statement inserts

          all : en.done ++ en.change ∷ en.left ≡ map adding i.rows
          all = changing.all ∙ ap (λ st. changes_by st work.read) i.is

          split : IsSplit i.rows en.done en.change
          split = split_rows i.rows en.done en.change en.left all

          none : row_of (present (table_at state.tables work.table) en.change.key) ≡ None
          none = hand.stands ∙ ap (λ (c : Change). c.old) (sym split.change_is)

          undone : keys_undone (undo_since session work) ≡ keys_changed en.done
          undone = subst (λ f. IsUndoOf f (keys_undone (undo_since session work)) (keys_changed (changes_done work.phase))) go.unfailed (o.written s work go.at_work go.undisturbed).undo
              ∙ ap keys_changed (ap changes_done en.phase)

          by_image : (x : Option Image) → first_image (undo_since session work) work.table en.change.key ≡ x → row_or x (view_at state s work.table en.change.key) ≡ None
          by_image None e = reader_sees m state o good s work.table en.change.key (taker_reads m state good o s work.table en.change.key hand.locked) ∙ none
          by_image (Some image) e =
              let f = found_in m state o (undo_since session work) work.table en.change.key image e in
              let has : Has (keys_changed en.done) en.change.key = subst (λ (ks : List ℤ). Has ks en.change.key) undone
              (subst (λ k. Has (keys_undone (undo_since session work)) k) f.3 (Has-map_of (λ (x : UndoEntry). x.key) (undo_since session work) f.0 f.1)) in
              let src : Source (λ (c : Change). c.key) en.done en.change.key = Has-map (λ (c : Change). c.key) en.done en.change.key has in
              let row : Source adding split.earlier src.x = Has-map adding split.earlier src.x (subst (λ (xs : List Change). Has xs src.x) (sym split.done_are) src.has) in
              let made : row_of (present (table_at state.tables work.table) src.x.key) ≡ src.x.new = changing.made src.x src.has in
              absurd (none_some row.x (sym none ∙ ap (λ k. row_of (present (table_at state.tables work.table) k)) (sym src.is) ∙ made ∙ ap (λ (c : Change). c.new) (sym row.is)))

      of_work : IsOnCourse now s work → IsOnCourse now s (work_after_row (table_at state.tables number) work)
      of_work c = record {
        complete = λ unfailed later k r sees held. c.complete unfailed (ap is_before_writing en.phase) k r sees held;
        small = λ unfailed k r has. c.small unfailed k r has;
        absent = λ unfailed inserts x has.
            by_place inserts x (Has-append en.done (en.change ∷ []) x
            (subst (λ (xs : List Change). Has xs x) (ap changes_done phase_is ∙ with_done work.statement (indexed (table_at state.tables number)) (en.done ++ en.change ∷ []) en.left) has));
        too_large = λ failed. absurd (none_some too_large (sym go.unfailed ∙ failed));
        duplicate = λ k failed. absurd (none_some (duplicate k) (sym go.unfailed ∙ failed));
      }
        where
          by_place : is_insert work.statement ≡ true → (x : Change) → Has en.done x ⊎ Has (en.change ∷ []) x → saw now s work x.key ≡ None
          by_place inserts x (inl has) = c.absent go.unfailed inserts x (subst (λ (xs : List Change). Has xs x) (sym (ap changes_done en.phase)) has)
          by_place inserts x (inr (inl is)) =
              ap (λ (y : Change). saw now s work y.key) (sym is)
              ∙ u.views s (works_on m state o s work go.at_work go.undisturbed) work.table en.change.key ∙ fresh_key inserts
          by_place inserts x (inr (inr f)) = absurd f

  -- ---- no room

  full_course : (s : ℕ) → IsActive state s → IsEntering (session_at state.sessions s) → AreOnCourse (after_full state s)
  full_course s active en =
      works (after_full state s) s (record (session_at state.sessions s) { work = option_map failed_full (session_at state.sessions s).work }) failed_full en.work refl active en.goes_on
      (full_unmoved m state good o s) keep_locks refl (λ c at victim undisturbed. record {
        complete = λ unfailed. absurd (none_some file_full (sym unfailed));
        small = λ unfailed. absurd (none_some file_full (sym unfailed));
        absent = λ unfailed. absurd (none_some file_full (sym unfailed));
        too_large = λ failed. absurd (full_large (some_is file_full too_large failed));
        duplicate = λ k failed. absurd (full_apart k (some_is file_full (duplicate k) failed));
      })

  -- ---- answers and ends

  ended_course : (s : ℕ) (over : Bool) → InOrder m (after_end state s over) → IsActive state s → AreOnCourse (after_end state s over)
  ended_course s over onow active =
      undisturbed_step (λ k session work. IsOnCourse (after_end state s over) k work) state.sessions s _ active.not_over
      (λ work at undisturbed. absurd (none_some work at))
      (λ j ne work at undisturbed. moved (after_end state s over) j work at undisturbed refl
      (λ key taken. end_others m state good o s over active j ne work.table key (reader_unwritten m state o good j work.table key (taker_reads m state good o j work.table key taken) s (other_way j s ne)))
      (λ key taken. keeps_taken state.locks (after_end state s over).locks j work.table key (keeps_others state.locks s j ne) taken)
      (λ unfailed writes key row sees held. by_written j ne work at undisturbed unfailed writes key row sees held (has_written (session_at state.sessions s) work.table key) refl))
    where
      now : State
      now = after_end state s over

      other_way : (j k : ℕ) → (j == k) ≡ false → (k == j) ≡ false
      other_way j k ne = by_test (k == j) refl
        where
          by_test : (b : Bool) → (k == j) ≡ b → b ≡ false
          by_test true e = absurd (false≢true (sym ne ∙ eq-eqb j k (sym (eqb-true k j e))))
          by_test false e = refl

      by_written : (j : ℕ) → (j == s) ≡ false → (work : Work) → (session_at state.sessions j).work ≡ Some work → (session_at state.sessions j).victim ≡ false
          → work.failure ≡ None → is_before_writing work.phase ≡ false → (key : ℤ) (row : Row) → saw now j work key ≡ Some row → is_held work.statement row ≡ true
          → (b : Bool) → has_written (session_at state.sessions s) work.table key ≡ b → Has {X = ℤ × Option Row} work.read (key, Some row)
      by_written j ne work at undisturbed unfailed writes key row sees held false e =
          (course j work at undisturbed).complete unfailed writes key row (sym (end_others m state good o s over active j ne work.table key e) ∙ sees) held
      by_written j ne work at undisturbed unfailed writes key row sees held true e =
          let new : committed_row now work.table key ≡ Some row = sym (end_others_then m state good o s over active j ne work.table key e) ∙ sees in
          let at' : (session_at now.sessions j).work ≡ Some work = ap (λ (x : SessionState). x.work) (other_at state.sessions s j _ ne) ∙ at in
          let reads : Reads state.locks j work.table key = was_held (held_key m now good onow j work at' writes key row new held) in
          absurd (false≢true (sym (reader_unwritten m state o good j work.table key reads s (other_way j s ne)) ∙ e))
        where
          before : (k : Option ℤ) (mode : Mode) → Holds now.locks j work.table k mode → Holds state.locks j work.table k mode
          before k mode h = (held_without state.locks s (lock_on j work.table k mode) h).0

          was_held : Reads now.locks j work.table key → Reads state.locks j work.table key
          was_held (inl (inl h)) = inl (inl (before (Some key) S h))
          was_held (inl (inr h)) = inl (inr (before (Some key) X h))
          was_held (inr (inl h)) = inr (inl (before None S h))
          was_held (inr (inr h)) = inr (inr (before None X h))

  answered_course : (s : ℕ) (over : Bool) → IsActive state s → AreOnCourse (after_answer state s over)
  answered_course s over active =
      undisturbed_step (λ k session work. IsOnCourse (after_answer state s over) k work) state.sessions s _ active.not_over
      (λ work at undisturbed. absurd (none_some work at))
      (λ j ne work at undisturbed. (let same : (key : ℤ) → saw (after_answer state s over) j work key ≡ saw state j work key = λ key. answer_others m state good o s over active j ne work.table key in
      moved (after_answer state s over) j work at undisturbed refl (λ key taken. same key) (λ key taken. taken)
      (λ unfailed writes key row sees held. (course j work at undisturbed).complete unfailed writes key row (sym (same key) ∙ sees) held)))

  created_course : (s : ℕ) (now : State) (new : SessionState) → now.sessions ≡ slice_set state.sessions s new → IsActive state s → s ≡ 0 → new.work ≡ None → AreOnCourse now
  created_course s now new is active setup none =
      subst (λ (xs : List SessionState). (k : ℕ) (work : Work) → (session_at xs k).work ≡ Some work → (session_at xs k).victim ≡ false → IsOnCourse now k work) (sym is)
      (undisturbed_step (λ k session work. IsOnCourse now k work) state.sessions s new active.not_over (λ work at undisturbed. absurd (no_work new work none at))
      (λ k ne work at undisturbed. absurd (no_work (session_at state.sessions k) work
      (o.idle.setup_first (subst (λ i. (session_at state.sessions i).over ≡ false) setup active.not_over) k (ap (λ i. k == i) (sym setup) ∙ ne)).0.no_work at)))

  undone_course : (s : ℕ) (entry : UndoEntry) (more : ℕ) → IsActive state s → IsUndoing m s (session_at state.sessions s) entry → AreOnCourse (after_undo state s entry more)
  undone_course s entry more active at =
      undisturbed_step (λ k session work. IsOnCourse (after_undo state s entry more) k work) state.sessions s _ active.not_over
      (λ work is undisturbed. of_work s work is undisturbed) (λ j ne work is undisturbed. of_work j work is undisturbed)
    where
      definitions : map definition_at (after_undo state s entry more).tables ≡ map definition_at state.tables
      definitions = definitions_changed entry.table (table_with_row entry.key (restored entry.image)) state.tables (λ t. refl)

      of_work : (j : ℕ) (work : Work) → (session_at state.sessions j).work ≡ Some work → (session_at state.sessions j).victim ≡ false → IsOnCourse (after_undo state s entry more) j work
      of_work j work is undisturbed =
          let same : (key : ℤ) → saw (after_undo state s entry more) j work key ≡ saw state j work key = λ key.
          undo_view m state good o s entry more active at j
          (λ e. (work, ap (λ i. (session_at state.sessions i).work) (sym (eqb-true j s e)) ∙ is, ap (λ i. (session_at state.sessions i).victim) (sym (eqb-true j s e)) ∙ undisturbed)) work.table key in
          moved (after_undo state s entry more) j work is undisturbed definitions (λ key taken. same key) (λ key taken. taken)
          (λ unfailed writes key row sees held. (course j work is undisturbed).complete unfailed writes key row (sym (same key) ∙ sees) held)

  purged_course : AreOnCourse (after_purge state)
  purged_course j work at undisturbed = left (after_purge state) (purge_unmoved m state good o) keep_locks j work at undisturbed

  pub course_each : EachKeeps m state (λ (st : State). InOrder m st → AreOnCourse st)
  course_each = record {
    still = λ onow. course;
    purge = λ some onow. purged_course;
    end = λ s over active onow. ended_course s over onow active;
    answer = λ s reply active at onow. answered_course s _ active;
    undo = λ s entry more active at onow. undone_course s entry more active at;
    create = λ s over name schema leaf roots active at may onow. created_course s (after_create state s over name schema leaf roots) _ refl active at.setup refl;
    refuse = λ s on ds active at may onow.
        undisturbed_victims (λ k session work. IsOnCourse (after_refusal state s on ds) k work) state.sessions ds
        (λ j work is undisturbed. left (after_refusal state s on ds) (refuse_unmoved m state good o s on ds) keep_locks j work is undisturbed);
    lock_table = λ s statement number mode active at none onow.
        step (after_table_lock state m.ways s statement number mode) s _ refl active (lock_table_unmoved m state good o s statement number mode at.first.no_work)
        (λ j t k h. keeps_taken state.locks (after_table_lock state m.ways s statement number mode).locks j t k (keeps_all state.locks (table_lock s number mode) j) h)
        (λ work is undisturbed. subst (λ (w : Work). IsOnCourse (after_table_lock state m.ways s statement number mode) s w) (some_is _ work is)
        (begun_course (after_table_lock state m.ways s statement number mode) s (table_at state.tables number) number statement (m.ways (table_at state.tables number).schema statement) (length (session_at state.sessions s).undo)));
    lock_key = λ s number key mode active at none onow. key_locked s number key mode onow active at;
    lock_row = λ s number key mode active at none onow. row_locked s number key mode onow active at;
    visit = λ s number column predicate active at onow. visited_course s number column predicate onow active at;
    scan = λ s number leaf active at onow. scanned_course s number leaf onow active at;
    step = λ s d q active at may onow.
        enters (after_step state s d q) s _ (stepped (tree_for state d) q) at.descending.entering.work refl active at.descending.entering.goes_on (step_unmoved m state good o s d q) keep_locks refl;
    stale = λ s d active at onow.
        enters (after_stale state s) s _ without_path at.descending.entering.work refl active at.descending.entering.goes_on (stale_unmoved m state good o s) keep_locks refl;
    full = λ s active at onow. full_course s active at;
    place = λ s d q ds active at may onow.
        enters (after_place state s d q ds) s _ (with_placed d.column state.entries) at.descending.entering.work refl active at.descending.entering.goes_on (place_unmoved m state good o s d q ds) keep_locks refl;
    row = λ s number change placed p active at may onow. written_course s number change placed p active at may;
  }

pub course_kept : KeepsCourse
course_kept m state actor choice good o course happens =
    event_keeps m state good o (λ (st : State). InOrder m st → AreOnCourse st) (course_each m state good o course) actor choice happens
    (order_kept m state actor choice good o happens)
