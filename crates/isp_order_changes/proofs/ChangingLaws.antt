-- The changes done and left are made of what was read; those done stand there, and that at hand can be made.
use Rattle.std.proofs.Common.{◌≡◌, ◌⊎◌, ◌∙◌, inl, inr, refl, sym, ap, subst, ℕ, ℤ, zero, suc, ◌==◌, cond, Bool, true, false, Option, Some, None, List, [], ◌∷◌, ◌++◌, append_assoc, append-nil, drop, length, map}
use Rattle.std.specs.Prelude.{find, is_none, slice_set}
use Rattle.std.specs.List.{cons_option, last_or}
use Rattle.std.specs.Option.{option_map}
use Rattle.std.specs.Ordering.{int_eq}
use Rattle.std.proofs.lemmas.Bool.{false≢true, and_parts}
use Rattle.std.proofs.lemmas.List.{map-append}
use Rattle.isp_base.specs.Lists.{Has}
use Rattle.isp_laws.proofs.ListLaws.{Has-append, Has-append_left, Has-append_right, Has-map, Has-map_of, Source}
use Rattle.isp_mbr.specs.declared.predicate.Predicate.{Predicate}
use Rattle.isp_reclock.specs.declared.entries.Lock.{Lock}
use Rattle.isp_reclock.specs.declared.modes.Mode.{Mode}
use Rattle.isp_reclock.specs.declared.modes.Mode.TheVariants.{X}
use Rattle.isp_reclock.specs.Tables.{key_lock, table_lock, takes, with_lock, without}
use Rattle.isp_plain.specs.declared.statement.Statement.{Statement}
use Rattle.isp_plain.specs.declared.statement.Statement.TheVariants.{Create, Insert, Select, Update, Delete, Begin, Commit, Rollback, Refused}
use Rattle.isp_plain.specs.declared.value.Row.{Row}
use Rattle.isp_plain.specs.Conditions.{holds}
use Rattle.isp_forest.specs.Place.{Division}
use Rattle.isp_forest.specs.Search.{Search}
use Rattle.isp_events.specs.Stored.{Leaf, StoredTable, change_table, indexed, leaf_behind, present, row_of, table_at}
use Rattle.isp_events.specs.Sessions.{Change, Entering, Failure, Phase, Progress, SessionState, UndoEntry, Work, adding, answering, begun_change, begun_entering, change_of, changes_of, duplicate, entering, file_full, locking, phase_with, scanning, session_at, unlocked, visiting, writing}
use Rattle.isp_events.specs.State.{State, is_empty}
use Rattle.isp_events.specs.Ways.{Machine, Way, by_box, by_key, by_scan}
use Rattle.isp_events.specs.Views.{first_image, is_of_key, row_or}
use Rattle.isp_events.specs.Next.{Descent, key_mode, table_mode}
use Rattle.isp_events.specs.Asking.{begun_work, failure_of_duplicate, failure_with, first_phase, phase_after_key, phase_by, phase_of_keys, read_with, work_after_key}
use Rattle.isp_events.specs.Reading.{as_read, phase_after_leaf, phase_after_visit, rising, rows_in, work_after_scan, work_after_visit}
use Rattle.isp_events.specs.Placing.{change_entering, phase_with_entry, stepped, table_after_place, tree_for, with_placed, without_path}
use Rattle.isp_events.specs.Writing.{MayWriteRow, Put, ascend, phase_after_row, table_after_row, table_with_row, work_after_row}
use Rattle.isp_events.specs.Ending.{restored}
use Rattle.isp_events.specs.Purging.{tables_purged}
use Rattle.isp_events.specs.Events.{Actor, Choice, MayHappen, after}
use Rattle.isp_order.specs.Locks.{Holds}
use Rattle.isp_order.specs.Searches.{is_visiting}
use Rattle.isp_order.specs.Work.{AreChanging, AreMade, AreSoughtBy, FitsInsert, FitsPhase, HasKeys, IsAtHand, IsChanging, IsFirstAtHand, IsReadLocked, IsWriting, changes_by, changes_done, is_by_scan, keys_changed, keys_left, keys_undone, row_before, undo_since, way_of}
use Rattle.isp_order.specs.InOrder.{InOrder, IsProper}
use Rattle.isp_order.proofs.RowLaws.{key_is}
use Rattle.isp_order.proofs.TableLaws.{kept_of}
use Rattle.isp_causes.specs.Causes.{GoesOn, IsActive, IsEntering, IsLockingKey, IsLockingRow, IsScanning, IsUndoing, IsVisiting, IsWritingRow}
use Rattle.isp_causes.proofs.EventCases.{EachKeeps, event_keeps}
use Rattle.isp_order_locks.proofs.LockLists.{Keeps, keeps_taken, now_held, takes_key, takes_table}
use Rattle.isp_order_locks.proofs.LockedLaws.{keeps_all, keeps_others, row_taken}
use Rattle.isp_order_locks.proofs.SearchParts.{seen_now}
use Rattle.isp_order_work.proofs.WorkParts.{carried, no_work, none_some, some_is, undisturbed_step, undisturbed_victims}
use Rattle.isp_order_work.proofs.WrittenLaws.{ascend_apart, change_key, changes_ascend, exactly, fresh, nothing_since}
use Rattle.isp_order_reads.proofs.RowFrames.{Reads, purged_present, taker_reads}
use Rattle.isp_order_reads.proofs.StandingLaws.{leaf_read, others_apart, row_elsewhere, row_here, undo_elsewhere}
use Rattle.isp_order_reads.proofs.KeysLaws.{scans_by, visit_read}

-- ---- what a change is made of

abbrev is_insert : Statement → Bool
is_insert (Insert name rows) = true
is_insert _ = false

-- a change of a row that was read is one of UPDATE or DELETE
record IsOfRead (statement : Statement) (read : List (ℤ × Option Row)) (change : Change) : Type 0 where
  pub row : Row
  pub has : Has {X = ℤ × Option Row} read (change.key, Some row)
  pub old : change.old ≡ Some row
  pub exclusive : key_mode statement ≡ X
  pub whole : table_mode statement by_scan ≡ X

cond_old : (b : Bool) (c d : Change) → cond b (Some c) None ≡ Some d → c ≡ d
cond_old true c d h = some_is c d h
cond_old false c d h = absurd (none_some d h)

pair_is : (a b : ℤ) (r : Option Row) → a ≡ b → ◌≡◌ {A = ℤ × Option Row} (a, r) (b, r)
pair_is a b r e = ap (λ x. (let y : ℤ × Option Row = (x, r) in y)) e

of_one : (statement : Statement) (r : ℤ × Option Row) (change : Change) → change_of statement r.0 r.1 ≡ Some change → IsOfRead statement (r ∷ []) change
of_one statement r change h = by_row r.1 refl h
  where
    by_row : (o : Option Row) → r.1 ≡ o → change_of statement r.0 o ≡ Some change → IsOfRead statement (r ∷ []) change
    by_row None e k = absurd (none_some change k)
    by_row (Some row) e k = by_statement statement k
      where
        found : (st : Statement) → change_of st r.0 (Some row) ≡ Some change → ◌≡◌ {A = ℤ × Option Row} r (change.key, Some row)
        found st i = ap (λ o. (let y : ℤ × Option Row = (r.0, o) in y)) e ∙ pair_is r.0 change.key (Some row) (sym (change_key st r.0 (Some row) change i))

        by_statement : (st : Statement) → change_of st r.0 (Some row) ≡ Some change → IsOfRead st (r ∷ []) change
        by_statement (Update name sets w) i = record {
          row = row;
          has = inl (found (Update name sets w) i);
          old = ap (λ (c : Change). c.old) (sym (cond_old (holds w row) _ change i));
          exclusive = refl;
          whole = refl;
        }
        by_statement (Delete name w) i = record {
          row = row;
          has = inl (found (Delete name w) i);
          old = ap (λ (c : Change). c.old) (sym (cond_old (holds w row) _ change i));
          exclusive = refl;
          whole = refl;
        }
        by_statement (Insert name rows) i = absurd (none_some change i)
        by_statement (Select name columns w) i = absurd (none_some change i)
        by_statement (Create name schema) i = absurd (none_some change i)
        by_statement Begin i = absurd (none_some change i)
        by_statement Commit i = absurd (none_some change i)
        by_statement Rollback i = absurd (none_some change i)
        by_statement (Refused refusal) i = absurd (none_some change i)

more_read : (statement : Statement) (r : ℤ × Option Row) (read : List (ℤ × Option Row)) (change : Change) → IsOfRead statement read change → IsOfRead statement (r ∷ read) change
more_read statement r read change h = record { row = h.row; has = inr h.has; old = h.old; exclusive = h.exclusive; whole = h.whole }

first_read : (statement : Statement) (r : ℤ × Option Row) (read : List (ℤ × Option Row)) (change : Change) → IsOfRead statement (r ∷ []) change → IsOfRead statement (r ∷ read) change
first_read statement r read change h = record { row = h.row; has = first h.has; old = h.old; exclusive = h.exclusive; whole = h.whole }
  where
    first : Has {X = ℤ × Option Row} (r ∷ []) (change.key, Some h.row) → Has {X = ℤ × Option Row} (r ∷ read) (change.key, Some h.row)
    first (inl e) = inl e
    first (inr k) = absurd k

of_read : (statement : Statement) (read : List (ℤ × Option Row)) (change : Change) → Has (changes_of statement read) change → IsOfRead statement read change
of_read statement [] change h = absurd h
of_read statement (r ∷ read) change h = by_change (change_of statement r.0 r.1) refl (of_read statement read change) h
  where
    by_change : (c : Option Change) → change_of statement r.0 r.1 ≡ c → (Has (changes_of statement read) change → IsOfRead statement read change)
        → Has (cons_option c (changes_of statement read)) change → IsOfRead statement (r ∷ read) change
    by_change None e again k = more_read statement r read change (again k)
    by_change (Some c) e again (inl is) = first_read statement r read change (of_one statement r change (e ∙ ap (λ x. Some x) is))
    by_change (Some c) e again (inr k) = more_read statement r read change (again k)

changes_of_read : (statement : Statement) (read : List (ℤ × Option Row)) → is_insert statement ≡ false → changes_by statement read ≡ changes_of statement read
changes_of_read (Insert name rows) read h = absurd (false≢true (sym h))
changes_of_read (Select name columns w) read h = refl
changes_of_read (Create name schema) read h = refl
changes_of_read (Update name sets w) read h = refl
changes_of_read (Delete name w) read h = refl
changes_of_read Begin read h = refl
changes_of_read Commit read h = refl
changes_of_read Rollback read h = refl
changes_of_read (Refused refusal) read h = refl

-- phases in which INSERT isn't
finds_rows : (way : Way) (statement : Statement) (phase : Phase) → (FitsInsert phase → ⊥) → FitsPhase way statement phase → is_insert statement ≡ false
finds_rows way (Insert name rows) phase never h = absurd (never h)
finds_rows way (Select name columns w) phase never h = refl
finds_rows way (Create name schema) phase never h = refl
finds_rows way (Update name sets w) phase never h = refl
finds_rows way (Delete name w) phase never h = refl
finds_rows way Begin phase never h = refl
finds_rows way Commit phase never h = refl
finds_rows way Rollback phase never h = refl
finds_rows way (Refused refusal) phase never h = refl

-- and one in which INSERT alone is, whose changes have no old row
inserts_none : (way : Way) (statement : Statement) (done left : List Change) (read : List (ℤ × Option Row)) (change : Change) → FitsPhase way statement (writing done left unlocked)
    → Has (changes_by statement read) change → change.old ≡ None
inserts_none way (Insert name rows) done left read change fits h = let r : Source adding rows change = Has-map adding rows change h in ap (λ (c : Change). c.old) (sym r.is)
inserts_none way (Select name columns w) done left read change fits h = absurd fits
inserts_none way (Create name schema) done left read change fits h = absurd fits
inserts_none way (Update name sets w) done left read change fits h = absurd fits
inserts_none way (Delete name w) done left read change fits h = absurd fits
inserts_none way Begin done left read change fits h = absurd fits
inserts_none way Commit done left read change fits h = absurd fits
inserts_none way Rollback done left read change fits h = absurd fits
inserts_none way (Refused refusal) done left read change fits h = absurd fits

-- ---- phases that write

first_at_hand : (tables : List StoredTable) (locks : List Lock) (s : ℕ) (work : Work) (statement : Statement) (columns : List ℕ) (change : Change) (rest : List Change)
    → (is_insert statement ≡ false → IsAtHand tables locks s work change) → IsFirstAtHand tables locks s work (change ∷ rest) (begun_change statement columns change)
first_at_hand tables locks s work (Insert name rows) columns change rest h = tt
first_at_hand tables locks s work (Select name columns' w) columns change rest h = h refl
first_at_hand tables locks s work (Create name schema) columns change rest h = h refl
first_at_hand tables locks s work (Update name sets w) columns change rest h = h refl
first_at_hand tables locks s work (Delete name w) columns change rest h = h refl
first_at_hand tables locks s work Begin columns change rest h = h refl
first_at_hand tables locks s work Commit columns change rest h = h refl
first_at_hand tables locks s work Rollback columns change rest h = h refl
first_at_hand tables locks s work (Refused refusal) columns change rest h = h refl

with_changes : (tables : List StoredTable) (locks : List Lock) (s : ℕ) (work : Work) (statement : Statement) (columns : List ℕ) (done left : List Change) → done ++ left ≡ changes_by work.statement work.read
    → AreMade tables work done → ((change : Change) (rest : List Change) → left ≡ change ∷ rest → is_insert statement ≡ false → IsAtHand tables locks s work change)
    → IsChanging tables locks s work (phase_with statement columns done left)
with_changes tables locks s work statement columns done [] all made first = record { all = sym (append-nil done) ∙ all; made = made }
with_changes tables locks s work statement columns done (change ∷ rest) all made first =
    record { all = all; made = made; at_hand = first_at_hand tables locks s work statement columns change rest (first change rest refl) }

of_keys : (tables : List StoredTable) (locks : List Lock) (s : ℕ) (work : Work) (table : StoredTable) (statement : Statement) (keys : List ℤ) (read : List (ℤ × Option Row))
    → changes_of statement read ≡ changes_by work.statement work.read
    → ((change : Change) → Has (changes_of statement read) change → IsAtHand tables locks s work change) → IsChanging tables locks s work (phase_of_keys table statement keys read)
of_keys tables locks s work table statement [] read all each =
    with_changes tables locks s work statement (indexed table) [] (changes_of statement read) all (λ c h. absurd h)
    (λ change rest is not_insert. each change (subst (λ (cs : List Change). Has cs change) (sym is) (inl refl)))
of_keys tables locks s work table statement (key ∷ keys) read all each = tt

pub last_has : {Y : Type 0} (xs : List Y) (y : Y) → last_or None xs ≡ Some y → Has xs y
last_has [] y h = absurd (none_some y h)
last_has (x ∷ []) y h = inl (some_is x y h)
last_has (x ∷ z ∷ xs) y h = inr (last_has (z ∷ xs) y h)

-- no undo entry names the key
no_image : (us : List UndoEntry) (table : ℕ) (key : ℤ) → (Has (keys_undone us) key → ⊥) → first_image us table key ≡ None
no_image [] table key none = refl
no_image (u ∷ us) table key none = by_test (is_of_key table key u) refl (no_image us table key (λ h. none (inr h)))
  where
    by_test : (b : Bool) → is_of_key table key u ≡ b → first_image us table key ≡ None → option_map (λ (v : UndoEntry). v.image) (cond b (Some u) (find (is_of_key table key) us)) ≡ None
    by_test true e again = absurd (none (inl (key_is u.key key (and_parts (u.table == table) (int_eq u.key key) e).1)))
    by_test false e again = again

module _ (m : Machine) (state : State) (good : IsProper m) (o : InOrder m state) where
  abbrev Changes : List StoredTable → List Lock → ℕ → SessionState → Work → Type 0
  Changes tables locks k session work = work.failure ≡ None → IsChanging tables locks k work work.phase

  of_dropped : {Y : Type 0} (n : ℕ) (xs : List Y) (y : Y) → Has (drop n xs) y → Has xs y
  of_dropped zero xs y h = h
  of_dropped (suc n) [] y h = h
  of_dropped (suc n) (x ∷ xs) y h = inr (of_dropped n xs y h)

  -- the keys of changes done are locked
  done_taken : (k : ℕ) (work : Work) → GoesOn (session_at state.sessions k) work → (change : Change) → Has (changes_done work.phase) change → takes state.locks work.table change.key k ≡ true
  done_taken k work go change h =
      let in_keys : Has (keys_undone (undo_since (session_at state.sessions k) work)) change.key =
      subst (λ (ks : List ℤ). Has ks change.key) (sym (exactly m state good o k work go)) (Has-map_of (λ (c : Change). c.key) (changes_done work.phase) change h) in
      let src : Source (λ (u : UndoEntry). u.key) (undo_since (session_at state.sessions k) work) change.key = Has-map (λ (u : UndoEntry). u.key) (undo_since (session_at state.sessions k) work) change.key in_keys in
      let table : src.x.table ≡ work.table = (o.written k work go.at_work go.undisturbed).of_table src.x src.has in
      subst (λ t. takes state.locks t change.key k ≡ true) table
      (subst (λ j. takes state.locks src.x.table j k ≡ true) src.is (o.written_locked.undone k src.x (of_dropped work.begun (session_at state.sessions k).undo src.x src.has)))

  -- where the rows of changes done and at hand stay
  changing_on : (tables : List StoredTable) (locks : List Lock) (k : ℕ) (work : Work) (phase : Phase) → Keeps state.locks locks k
      → ((key : ℤ) → takes state.locks work.table key k ≡ true → present (table_at tables work.table) key ≡ present (table_at state.tables work.table) key)
      → ((change : Change) → Has (changes_done phase) change → takes state.locks work.table change.key k ≡ true)
      → IsChanging state.tables state.locks k work phase → IsChanging tables locks k work phase
  changing_on tables locks k work (locking keys) keep frame taken h = tt
  changing_on tables locks k work visiting keep frame taken h = tt
  changing_on tables locks k work (scanning last) keep frame taken h = tt
  changing_on tables locks k work (answering done) keep frame taken h = record {
    all = h.all;
    made = λ change has. ap row_of (frame change.key (taken change has)) ∙ h.made change has;
  }
  changing_on tables locks k work (writing done left progress) keep frame taken h = record {
    all = h.all;
    made = λ change has. ap row_of (frame change.key (taken change has)) ∙ h.made change has;
    at_hand = hand left progress h.at_hand;
  }
    where
      hand : (cs : List Change) (p : Progress) → IsFirstAtHand state.tables state.locks k work cs p → IsFirstAtHand tables locks k work cs p
      hand [] p i = tt
      hand (change ∷ cs) unlocked i = tt
      hand (change ∷ cs) (entering e) i = record { stands = ap row_of (frame change.key i.locked) ∙ i.stands; locked = keeps_taken state.locks locks k work.table change.key keep i.locked }

  step : (s : ℕ) (tables : List StoredTable) (locks : List Lock) (new : SessionState) → IsActive state s → ((k : ℕ) → (k == s) ≡ false → Keeps state.locks locks k)
      → ((k : ℕ) → (k == s) ≡ false → (table : ℕ) (key : ℤ) → Reads state.locks k table key → present (table_at tables table) key ≡ present (table_at state.tables table) key)
      → ((work : Work) → new.work ≡ Some work → new.victim ≡ false → Changes tables locks s new work) → AreChanging tables locks (slice_set state.sessions s new)
  step s tables locks new active keep frame own =
      undisturbed_step (Changes tables locks) state.sessions s new active.not_over own
      (λ k ne work at undisturbed unfailed.
      changing_on tables locks k work work.phase (keep k ne) (λ key taken. frame k ne work.table key (taker_reads m state good o k work.table key taken))
      (done_taken k work (record { undisturbed = undisturbed; at_work = at; unfailed = unfailed })) (o.changing k work at undisturbed unfailed))

  without_work : (s : ℕ) (locks : List Lock) (new : SessionState) → IsActive state s → ((k : ℕ) → (k == s) ≡ false → Keeps state.locks locks k) → new.work ≡ None
      → AreChanging state.tables locks (slice_set state.sessions s new)
  without_work s locks new active keep none = step s state.tables locks new active keep (λ k ne t key h. refl) (λ work at undisturbed. absurd (no_work new work none at))

  at_work : (s : ℕ) (tables : List StoredTable) (locks : List Lock) (new : SessionState) (f : Work → Work) (work : Work) → IsActive state s → GoesOn (session_at state.sessions s) work
      → ((k : ℕ) → Keeps state.locks locks k)
      → ((k : ℕ) → (k == s) ≡ false → (table : ℕ) (key : ℤ) → Reads state.locks k table key → present (table_at tables table) key ≡ present (table_at state.tables table) key)
      → new.work ≡ option_map f (session_at state.sessions s).work → Changes tables locks s new (f work) → AreChanging tables locks (slice_set state.sessions s new)
  at_work s tables locks new f work active go keep frame is own =
      step s tables locks new active (λ k ne. keep k) frame
      (λ now now_at undisturbed. subst (λ (w : Work). Changes tables locks s new w) (carried f (session_at state.sessions s) new work now is go.at_work now_at) own)

  same_locks : (k : ℕ) → Keeps state.locks state.locks k
  same_locks k table key mode h = h

  same_rows : (s k : ℕ) → (k == s) ≡ false → (table : ℕ) (key : ℤ) → Reads state.locks k table key → present (table_at state.tables table) key ≡ present (table_at state.tables table) key
  same_rows s k ne table key h = refl

  changing_now : (s : ℕ) (work : Work) → GoesOn (session_at state.sessions s) work → (phase : Phase) → work.phase ≡ phase → IsChanging state.tables state.locks s work phase
  changing_now s work go phase is = subst (IsChanging state.tables state.locks s work) is (o.changing s work go.at_work go.undisturbed go.unfailed)

  -- ---- it begins

  begins : (s number : ℕ) (statement : Statement) (locks : List Lock) (new : SessionState) (work : Work) → IsActive state s → ((k : ℕ) → Keeps state.locks locks k) → new.work ≡ Some work
      → IsChanging state.tables locks s work work.phase → AreChanging state.tables locks (slice_set state.sessions s new)
  begins s number statement locks new work active keep is changing =
      step s state.tables locks new active (λ k ne. keep k) (same_rows s) (λ now now_at undisturbed. subst (λ (w : Work). Changes state.tables locks s new w) (some_is work now (sym is ∙ now_at)) (λ e. changing))

  way_begins : (locks : List Lock) (s : ℕ) (work : Work) (way : Way) → IsChanging state.tables locks s work (phase_by way)
  way_begins locks s work (by_key key) = tt
  way_begins locks s work (by_box column predicate) = tt
  way_begins locks s work by_scan = tt

  first_changing : (locks : List Lock) (s : ℕ) (work : Work) (table : StoredTable) (statement : Statement) (way : Way) → work.statement ≡ statement → IsChanging state.tables locks s work (first_phase table statement way)
  first_changing locks s work table (Insert name rows) way is =
      with_changes state.tables locks s work (Insert name rows) (indexed table) [] (map adding rows) (ap (λ st. changes_by st work.read) (sym is)) (λ c h. absurd h)
      (λ change rest e not_insert. absurd (false≢true (sym not_insert)))
  first_changing locks s work table (Select name columns w) way is = way_begins locks s work way
  first_changing locks s work table (Create name schema) way is = way_begins locks s work way
  first_changing locks s work table (Update name sets w) way is = way_begins locks s work way
  first_changing locks s work table (Delete name w) way is = way_begins locks s work way
  first_changing locks s work table Begin way is = way_begins locks s work way
  first_changing locks s work table Commit way is = way_begins locks s work way
  first_changing locks s work table Rollback way is = way_begins locks s work way
  first_changing locks s work table (Refused refusal) way is = way_begins locks s work way

  -- ---- the last key that it found

  -- before it writes, what it has read stands there
  read_stands : (s : ℕ) (work : Work) → GoesOn (session_at state.sessions s) work → changes_done work.phase ≡ [] → (key : ℤ) (row : Option Row) → Has {X = ℤ × Option Row} work.read (key, row)
      → row_of (present (table_at state.tables work.table) key) ≡ row
  read_stands s work go none key row has =
      sym (ap (λ us. row_before state.tables us work.table key) (nothing_since m state good o s work go none)) ∙ o.standing s work go.at_work go.undisturbed key row has

  -- a key that was read for a change is taken
  taken_by : (locks : List Lock) (s : ℕ) (work : Work) (way : Way) (key : ℤ) → key_mode work.statement ≡ X → (is_by_scan way ≡ true → Holds locks s work.table None X) → IsReadLocked locks s work way key
      → takes locks work.table key s ≡ true
  taken_by locks s work (by_key j) key exclusive whole h = takes_key locks work.table key s (subst (λ x. Holds locks s work.table (Some key) x) exclusive h)
  taken_by locks s work (by_box column predicate) key exclusive whole h = takes_key locks work.table key s (subst (λ x. Holds locks s work.table (Some key) x) exclusive h)
  taken_by locks s work by_scan key exclusive whole h = takes_table locks work.table key s (whole refl)

  read_taken : (s : ℕ) (work : Work) → (session_at state.sessions s).work ≡ Some work → (key : ℤ) (row : Option Row) → Has {X = ℤ × Option Row} work.read (key, row) → key_mode work.statement ≡ X
      → table_mode work.statement by_scan ≡ X → takes state.locks work.table key s ≡ true
  read_taken s work at key row has exclusive whole =
      taken_by state.locks s work (way_of m.ways state.tables work) key exclusive (λ scan. table_lock_x (way_of m.ways state.tables work) scan (o.table_locked s work at)) ((o.keys_locked s work at).locked key row has)
    where
      table_lock_x : (way : Way) → is_by_scan way ≡ true → Holds state.locks s work.table None (table_mode work.statement way) → Holds state.locks s work.table None X
      table_lock_x (by_key j) scan h = absurd (false≢true scan)
      table_lock_x (by_box column predicate) scan h = absurd (false≢true scan)
      table_lock_x by_scan scan h = subst (λ x. Holds state.locks s work.table None x) whole h

  key_changes : (s number : ℕ) (key : ℤ) (mode : Mode) (now : Work) (at : IsLockingKey (session_at state.sessions s) number key mode) (row : Option Row)
      → row_of (present (table_at state.tables number) key) ≡ row → now.table ≡ at.work.table → now.statement ≡ at.work.statement → now.read ≡ at.work.read ++ (key, row) ∷ []
      → IsChanging state.tables (with_lock state.locks (key_lock s number key mode)) s now (phase_of_keys (table_at state.tables number) at.work.statement at.keys now.read)
  key_changes s number key mode now at row found table statement read =
      of_keys state.tables (with_lock state.locks (key_lock s number key mode)) s now (table_at state.tables number) at.work.statement at.keys now.read
      (sym (changes_of_read at.work.statement now.read not_insert) ∙ ap (λ st. changes_by st now.read) (sym statement)) each
    where
      not_insert : is_insert at.work.statement ≡ false
      not_insert =
          finds_rows (way_of m.ways state.tables at.work) at.work.statement (locking (key ∷ at.keys)) (λ i. i)
          (subst (FitsPhase (way_of m.ways state.tables at.work) at.work.statement) at.phase (o.bound s at.work at.goes_on.at_work).phase)

      each : (change : Change) → Has (changes_of at.work.statement now.read) change → IsAtHand state.tables (with_lock state.locks (key_lock s number key mode)) s now change
      each change h =
          let r : IsOfRead at.work.statement now.read change = of_read at.work.statement now.read change h in
          record {
            stands = ap (λ t. row_of (present (table_at state.tables t) change.key)) table
                ∙ stands_cases r.row (Has-append at.work.read ((key, row) ∷ []) (change.key, Some r.row) (subst (λ xs. Has {X = ℤ × Option Row} xs (change.key, Some r.row)) read r.has)) ∙ sym r.old;
            locked = subst (λ t. takes (with_lock state.locks (key_lock s number key mode)) t change.key s ≡ true) (sym table)
                (locked_cases r.row r.exclusive r.whole (Has-append at.work.read ((key, row) ∷ []) (change.key, Some r.row) (subst (λ xs. Has {X = ℤ × Option Row} xs (change.key, Some r.row)) read r.has)));
          }
        where
          stands_cases : (old : Row) → Has {X = ℤ × Option Row} at.work.read (change.key, Some old) ⊎ Has {X = ℤ × Option Row} ((key, row) ∷ []) (change.key, Some old)
              → row_of (present (table_at state.tables at.work.table) change.key) ≡ Some old
          stands_cases old (inl has) = read_stands s at.work at.goes_on (ap changes_done at.phase) change.key (Some old) has
          stands_cases old (inr (inl e)) =
              ap (λ t. row_of (present (table_at state.tables t) change.key)) (sym at.number_is) ∙ ap (λ j. row_of (present (table_at state.tables number) j)) (sym (ap (λ p. p.0) e)) ∙ found ∙ ap (λ p. p.1) e
          stands_cases old (inr (inr has)) = absurd has

          locked_cases : (old : Row) → key_mode at.work.statement ≡ X → table_mode at.work.statement by_scan ≡ X
              → Has {X = ℤ × Option Row} at.work.read (change.key, Some old) ⊎ Has {X = ℤ × Option Row} ((key, row) ∷ []) (change.key, Some old)
              → takes (with_lock state.locks (key_lock s number key mode)) at.work.table change.key s ≡ true
          locked_cases old exclusive whole (inl has) =
              keeps_taken state.locks (with_lock state.locks (key_lock s number key mode)) s at.work.table change.key (keeps_all state.locks (key_lock s number key mode) s)
              (read_taken s at.work at.goes_on.at_work change.key (Some old) has exclusive whole)
          locked_cases old exclusive whole (inr (inl e)) =
              takes_key (with_lock state.locks (key_lock s number key mode)) at.work.table change.key s
              (subst (λ t. Holds (with_lock state.locks (key_lock s number key mode)) s t (Some change.key) X) at.number_is
              (subst (λ j. Holds (with_lock state.locks (key_lock s number key mode)) s number (Some j) X) (ap (λ p. p.0) e)
              (subst (λ x. Holds (with_lock state.locks (key_lock s number key mode)) s number (Some key) x) (at.mode_is ∙ exclusive) (now_held state.locks (key_lock s number key mode)))))
          locked_cases old exclusive whole (inr (inr has)) = absurd has

  -- ---- a row of INSERT

  not_found : (key : ℤ) (row : Option Row) (other : Option Failure) → failure_of_duplicate key row other ≡ None → row ≡ None
  not_found key None other h = refl
  not_found key (Some row) other h = absurd (none_some (duplicate key) (sym h))

  row_key_changes : (s number : ℕ) (key : ℤ) (mode : Mode) (now : Work) (at : IsLockingRow (session_at state.sessions s) number key mode) (e : Entering)
      → row_of (present (table_at state.tables number) key) ≡ None → now.table ≡ at.work.table → now.statement ≡ at.work.statement → now.read ≡ at.work.read
      → IsChanging state.tables (with_lock state.locks (key_lock s number key mode)) s now (writing at.done (at.change ∷ at.left) (entering e))
  row_key_changes s number key mode now at e none table statement read =
      let w = changing_now s at.work at.goes_on (writing at.done (at.change ∷ at.left) unlocked) at.phase in
      record {
        all = w.all ∙ ap (λ st. changes_by st at.work.read) (sym statement) ∙ ap (changes_by now.statement) (sym read);
        made = λ change has. ap (λ t. row_of (present (table_at state.tables t) change.key)) table ∙ w.made change has;
        at_hand = record {
          stands = ap (λ t. row_of (present (table_at state.tables t) at.change.key)) (table ∙ sym at.number_is) ∙ ap (λ j. row_of (present (table_at state.tables number) j)) (sym at.key_is) ∙ none
              ∙ sym (inserts_none (way_of m.ways state.tables at.work) at.work.statement at.done (at.change ∷ at.left) at.work.read at.change
              (subst (FitsPhase (way_of m.ways state.tables at.work) at.work.statement) at.phase (o.bound s at.work at.goes_on.at_work).phase)
              (subst (λ (cs : List Change). Has cs at.change) w.all (Has-append_right at.done (at.change ∷ at.left) at.change (inl refl))));
          locked = takes_key (with_lock state.locks (key_lock s number key mode)) now.table at.change.key s
              (subst (λ t. Holds (with_lock state.locks (key_lock s number key mode)) s t (Some at.change.key) X) (at.number_is ∙ sym table)
              (subst (λ j. Holds (with_lock state.locks (key_lock s number key mode)) s number (Some j) X) at.key_is
              (subst (λ x. Holds (with_lock state.locks (key_lock s number key mode)) s number (Some key) x) at.mode_is (now_held state.locks (key_lock s number key mode)))));
        };
      }

  -- ---- visits, and the last leaf

  visit_changes : (s number column : ℕ) (predicate : Predicate) (now : Work) (at : IsVisiting m state (session_at state.sessions s) number column predicate) (x : Search)
      → now.statement ≡ at.work.statement → now.read ≡ [] → IsChanging state.tables state.locks s now (phase_after_visit (table_at state.tables number) at.work.statement x)
  visit_changes s number column predicate now at x statement read = by_stack (is_empty x.stack)
    where
      not_insert : is_insert at.work.statement ≡ false
      not_insert =
          finds_rows (way_of m.ways state.tables at.work) at.work.statement visiting (λ i. i)
          (subst (FitsPhase (way_of m.ways state.tables at.work) at.work.statement) at.phase (o.bound s at.work at.goes_on.at_work).phase)

      by_stack : (b : Bool) → IsChanging state.tables state.locks s now (cond b (phase_of_keys (table_at state.tables number) at.work.statement (rising x.found) []) visiting)
      by_stack true =
          of_keys state.tables state.locks s now (table_at state.tables number) at.work.statement (rising x.found) []
          (sym (changes_of_read at.work.statement [] not_insert) ∙ ap (changes_by at.work.statement) (sym read) ∙ ap (λ st. changes_by st now.read) (sym statement)) (λ change h. absurd h)
      by_stack false = tt

  scan_changes : (s number : ℕ) (leaf : Leaf) (now : Work) (at : IsScanning state (session_at state.sessions s) number leaf) → now.table ≡ at.work.table → now.statement ≡ at.work.statement
      → now.read ≡ at.work.read ++ map as_read (rows_in leaf) → IsChanging state.tables state.locks s now (phase_after_leaf (table_at state.tables number) at.work.statement leaf now.read)
  scan_changes s number leaf now at table statement read = by_last (is_none (leaf_behind (table_at state.tables number).leaves leaf.page))
    where
      fits : FitsPhase (way_of m.ways state.tables at.work) at.work.statement (scanning at.last)
      fits = subst (FitsPhase (way_of m.ways state.tables at.work) at.work.statement) at.phase (o.bound s at.work at.goes_on.at_work).phase

      table_lock_x : (way : Way) → is_by_scan way ≡ true → table_mode at.work.statement by_scan ≡ X → Holds state.locks s at.work.table None (table_mode at.work.statement way) → Holds state.locks s at.work.table None X
      table_lock_x (by_key j) scan whole h = absurd (false≢true scan)
      table_lock_x (by_box c p) scan whole h = absurd (false≢true scan)
      table_lock_x by_scan scan whole h = subst (λ x. Holds state.locks s at.work.table None x) whole h

      each : (change : Change) → Has (changes_of at.work.statement now.read) change → IsAtHand state.tables state.locks s now change
      each change h =
          let r : IsOfRead at.work.statement now.read change = of_read at.work.statement now.read change h in
          record {
            stands = ap (λ t. row_of (present (table_at state.tables t) change.key)) table
                ∙ stands_cases r.row (Has-append at.work.read (map as_read (rows_in leaf)) (change.key, Some r.row) (subst (λ xs. Has {X = ℤ × Option Row} xs (change.key, Some r.row)) read r.has)) ∙ sym r.old;
            locked = takes_table state.locks now.table change.key s (subst (λ t. Holds state.locks s t None X) (sym table)
                (table_lock_x (way_of m.ways state.tables at.work) (scans_by (way_of m.ways state.tables at.work) at.work.statement at.last fits) r.whole (o.table_locked s at.work at.goes_on.at_work)));
          }
        where
          stands_cases : (old : Row) → Has {X = ℤ × Option Row} at.work.read (change.key, Some old) ⊎ Has {X = ℤ × Option Row} (map as_read (rows_in leaf)) (change.key, Some old)
              → row_of (present (table_at state.tables at.work.table) change.key) ≡ Some old
          stands_cases old (inl has) = read_stands s at.work at.goes_on (ap changes_done at.phase) change.key (Some old) has
          stands_cases old (inr has) = leaf_read m state good o s number leaf at change.key (Some old) has

      by_last : (b : Bool) → IsChanging state.tables state.locks s now
          (cond b (phase_with at.work.statement (indexed (table_at state.tables number)) [] (changes_of at.work.statement now.read)) (scanning (Some leaf.page)))
      by_last true =
          with_changes state.tables state.locks s now at.work.statement (indexed (table_at state.tables number)) [] (changes_of at.work.statement now.read)
          (sym (changes_of_read at.work.statement now.read (finds_rows (way_of m.ways state.tables at.work) at.work.statement (scanning at.last) (λ i. i) fits)) ∙ ap (λ st. changes_by st now.read) (sym statement))
          (λ c h. absurd h) (λ change rest is not_insert. each change (subst (λ (cs : List Change). Has cs change) (sym is) (inl refl)))
      by_last false = tt

  -- ---- an entry, and a row

  entry_changes : (tables : List StoredTable) (s : ℕ) (now : Work) (f : Entering → Entering) (en : IsEntering (session_at state.sessions s))
      → ((table : ℕ) (key : ℤ) → present (table_at tables table) key ≡ present (table_at state.tables table) key)
      → now.table ≡ en.work.table → now.statement ≡ en.work.statement → now.read ≡ en.work.read → IsChanging tables state.locks s now (phase_with_entry f en.work.phase)
  entry_changes tables s now f en same table statement read =
      let w = changing_now s en.work en.goes_on (writing en.done (en.change ∷ en.left) (entering en.e)) en.phase in
      subst (λ p. IsChanging tables state.locks s now (phase_with_entry f p)) (sym en.phase)
      (record {
        all = w.all ∙ ap (λ st. changes_by st en.work.read) (sym statement) ∙ ap (changes_by now.statement) (sym read);
        made = λ change has. ap row_of (same now.table change.key) ∙ ap (λ t. row_of (present (table_at state.tables t) change.key)) table ∙ w.made change has;
        at_hand = record {
          stands = ap row_of (same now.table en.change.key) ∙ ap (λ t. row_of (present (table_at state.tables t) en.change.key)) table ∙ w.at_hand.stands;
          locked = subst (λ t. takes state.locks t en.change.key s ≡ true) (sym table) w.at_hand.locked;
        };
      })

  row_changes : (s number : ℕ) (change : Change) (placed : List (ℕ × ℕ)) (p : Put) (now : Work) (at : IsWritingRow state (session_at state.sessions s) number change placed) → MayWriteRow state number change placed p
      → now.table ≡ at.entering.work.table → now.statement ≡ at.entering.work.statement → now.read ≡ at.entering.work.read
      → IsChanging (change_table number (table_after_row p change placed change.new) state.tables) state.locks s now (phase_after_row (table_at state.tables number) at.entering.work at.entering.work.phase)
  row_changes s number change placed p now at may table statement read =
      subst (λ q. IsChanging (change_table number (table_after_row p change placed change.new) state.tables) state.locks s now (phase_after_row (table_at state.tables number) at.entering.work q)) (sym at.entering.phase)
      (with_changes (change_table number (table_after_row p change placed change.new) state.tables) state.locks s now at.entering.work.statement (indexed (table_at state.tables number))
      (at.entering.done ++ at.entering.change ∷ []) at.entering.left all_now made first)
    where
      was : IsWriting state.tables state.locks s at.entering.work at.entering.done (at.entering.change ∷ at.entering.left) (entering at.entering.e)
      was = changing_now s at.entering.work at.entering.goes_on (writing at.entering.done (at.entering.change ∷ at.entering.left) (entering at.entering.e)) at.entering.phase

      all_now : (at.entering.done ++ at.entering.change ∷ []) ++ at.entering.left ≡ changes_by now.statement now.read
      all_now =
          append_assoc at.entering.done (at.entering.change ∷ []) at.entering.left
          ∙ was.all ∙ ap (λ st. changes_by st at.entering.work.read) (sym statement) ∙ ap (changes_by now.statement) (sym read)

      made : AreMade (change_table number (table_after_row p change placed change.new) state.tables) now (at.entering.done ++ at.entering.change ∷ [])
      made c has = by_cases (Has-append at.entering.done (at.entering.change ∷ []) c has)
        where
          by_cases : Has at.entering.done c ⊎ Has (at.entering.change ∷ []) c
              → row_of (present (table_at (change_table number (table_after_row p change placed change.new) state.tables) now.table) c.key) ≡ c.new
          by_cases (inl h) =
              ap row_of (row_elsewhere m state good o s number change placed p at may now.table c.key
              (λ t k. fresh m state good o s at.entering (subst (λ (j : ℤ). Has (keys_changed at.entering.done) j) (k ∙ ap (λ (x : Change). x.key) at.change_is) (Has-map_of (λ (x : Change). x.key) at.entering.done c h))))
              ∙ ap (λ t. row_of (present (table_at state.tables t) c.key)) table ∙ was.made c h
          by_cases (inr (inl e)) =
              ap (λ t. row_of (present (table_at (change_table number (table_after_row p change placed change.new) state.tables) t) c.key)) (table ∙ sym at.number_is)
              ∙ ap (λ j. row_of (present (table_at (change_table number (table_after_row p change placed change.new) state.tables) number) j))
              (ap (λ (x : Change). x.key) (sym e) ∙ sym (ap (λ (x : Change). x.key) at.change_is))
              ∙ row_here m state good o s number change placed p at may ∙ ap (λ (x : Change). x.new) (at.change_is ∙ e)
          by_cases (inr (inr h)) = absurd h

      first : (c : Change) (rest : List Change) → at.entering.left ≡ c ∷ rest → is_insert at.entering.work.statement ≡ false
          → IsAtHand (change_table number (table_after_row p change placed change.new) state.tables) state.locks s now c
      first c rest is not_insert =
          let all : at.entering.done ++ at.entering.change ∷ at.entering.left ≡ changes_of at.entering.work.statement at.entering.work.read =
          was.all ∙ changes_of_read at.entering.work.statement at.entering.work.read not_insert in
          let has : Has (changes_of at.entering.work.statement at.entering.work.read) c =
          subst (λ (cs : List Change). Has cs c) all
          (Has-append_right at.entering.done (at.entering.change ∷ at.entering.left) c (inr (subst (λ (cs : List Change). Has cs c) (sym is) (inl refl)))) in
          let r : IsOfRead at.entering.work.statement at.entering.work.read c = of_read at.entering.work.statement at.entering.work.read c has in
          let keys : HasKeys m.ways state.tables state.locks state.searches s (session_at state.sessions s) at.entering.work = o.keys_locked s at.entering.work at.entering.goes_on.at_work in
          let up : ascend (map (λ x. x.0) at.entering.work.read) ≡ true =
          ap ascend (sym (append-nil (map (λ x. x.0) at.entering.work.read)) ∙ ap (λ q. map (λ x. x.0) at.entering.work.read ++ keys_left q) (sym at.entering.phase)) ∙ keys.rising in
          let rises : ascend ((keys_changed at.entering.done ++ at.entering.change.key ∷ []) ++ c.key ∷ keys_changed rest) ≡ true =
          ap ascend
          (append_assoc (keys_changed at.entering.done) (at.entering.change.key ∷ []) (c.key ∷ keys_changed rest)
          ∙ ap (λ (cs : List Change). keys_changed at.entering.done ++ at.entering.change.key ∷ keys_changed cs) (sym is)
          ∙ sym (map-append (λ (x : Change). x.key) at.entering.done (at.entering.change ∷ at.entering.left)) ∙ ap keys_changed all)
          ∙ changes_ascend at.entering.work.statement at.entering.work.read up in
          let apart : Has (keys_changed at.entering.done ++ at.entering.change.key ∷ []) c.key → ⊥ =
          ascend_apart (keys_changed at.entering.done ++ at.entering.change.key ∷ []) c.key (keys_changed rest) rises in
          let unnamed : first_image (undo_since (session_at state.sessions s) at.entering.work) at.entering.work.table c.key ≡ None =
          no_image (undo_since (session_at state.sessions s) at.entering.work) at.entering.work.table c.key
          (λ h. apart (Has-append_left (keys_changed at.entering.done) (at.entering.change.key ∷ []) c.key
          (subst (λ (ks : List ℤ). Has ks c.key) (exactly m state good o s at.entering.work at.entering.goes_on ∙ ap (λ q. keys_changed (changes_done q)) at.entering.phase) h))) in
          record {
            stands = ap row_of (row_elsewhere m state good o s number change placed p at may now.table c.key
                (λ t k. apart (Has-append_right (keys_changed at.entering.done) (at.entering.change.key ∷ []) c.key (inl (sym (k ∙ ap (λ (x : Change). x.key) at.change_is))))))
                ∙ ap (λ t. row_of (present (table_at state.tables t) c.key)) table
                ∙ sym (ap (λ i. row_or i (row_of (present (table_at state.tables at.entering.work.table) c.key))) unnamed)
                ∙ o.standing s at.entering.work at.entering.goes_on.at_work at.entering.goes_on.undisturbed c.key (Some r.row) r.has ∙ sym r.old;
            locked = subst (λ t. takes state.locks t c.key s ≡ true) (sym table) (read_taken s at.entering.work at.entering.goes_on.at_work c.key (Some r.row) r.has r.exclusive r.whole);
          }

  -- ---- each event

  undo_changes : (s : ℕ) (entry : UndoEntry) (new : SessionState) → IsActive state s → IsUndoing m s (session_at state.sessions s) entry → new.work ≡ (session_at state.sessions s).work
      → new.victim ≡ (session_at state.sessions s).victim → Has (session_at state.sessions s).undo entry
      → AreChanging (change_table entry.table (table_with_row entry.key (restored entry.image)) state.tables) state.locks (slice_set state.sessions s new)
  undo_changes s entry new active at is victim has =
      step s (change_table entry.table (table_with_row entry.key (restored entry.image)) state.tables) state.locks new active (λ k ne. same_locks k)
      (λ k ne t key h. undo_elsewhere m state good o entry t key (others_apart m state good o s entry.table entry.key (o.written_locked.undone s entry has) k ne t key h))
      (λ work now_at undisturbed unfailed.
      (let before : (session_at state.sessions s).work ≡ Some work = sym is ∙ now_at in
      let own = at.own work (o.bound s work before).text before (sym victim ∙ undisturbed) (o.bound s work before).text_is in absurd (none_some own.0.0 (sym unfailed ∙ own.0.1))))

  created : (s : ℕ) (tables : List StoredTable) (locks : List Lock) (new : SessionState) → IsActive state s → s ≡ 0 → new.work ≡ None → AreChanging tables locks (slice_set state.sessions s new)
  created s tables locks new active is none =
      undisturbed_step (Changes tables locks) state.sessions s new active.not_over (λ work at undisturbed. absurd (no_work new work none at))
      (λ k ne work at undisturbed. absurd (no_work (session_at state.sessions k) work
      (o.idle.setup_first (subst (λ i. (session_at state.sessions i).over ≡ false) is active.not_over) k (ap (λ i. k == i) (sym is) ∙ ne)).0.no_work at))

  place_same : (d : Descent) (q : ℕ) (ds : List Division) (table : ℕ) (key : ℤ)
      → present (table_at (change_table d.table (table_after_place d state.entries q ds) state.tables) table) key ≡ present (table_at state.tables table) key
  place_same d q ds table key = kept_of (λ t. present t key) d.table table (table_after_place d state.entries q ds) state.tables refl

  visit_nothing : (s number column : ℕ) (predicate : Predicate) (at : IsVisiting m state (session_at state.sessions s) number column predicate) → at.work.read ≡ []
  visit_nothing s number column predicate at =
      visit_read state.searches s (session_at state.sessions s).number at.work at.work.statement column predicate (ap is_visiting at.phase)
      (subst (λ way. AreSoughtBy state.searches s (session_at state.sessions s).number at.work way at.work.statement) at.way (o.keys_locked s at.work at.goes_on.at_work).sought)

  pub changing_each : EachKeeps m state (λ (st : State). AreChanging st.tables st.locks st.sessions)
  changing_each = record {
    still = o.changing;
    purge = λ some k work at undisturbed unfailed.
        changing_on (tables_purged state.locks state.queue state.tables) state.locks k work work.phase (same_locks k) (λ key taken. purged_present state.locks state.queue state.tables work.table key)
        (done_taken k work (record { undisturbed = undisturbed; at_work = at; unfailed = unfailed })) (o.changing k work at undisturbed unfailed);
    end = λ s over active. without_work s (without state.locks s) _ active (keeps_others state.locks s) refl;
    answer = λ s reply active at. without_work s state.locks _ active (λ k ne. same_locks k) refl;
    undo = λ s entry more active at. undo_changes s entry _ active at refl refl (last_has (session_at state.sessions s).undo entry at.newest);
    create = λ s over name schema leaf roots active at may. created s _ _ _ active at.setup refl;
    refuse = λ s on ds active at may. undisturbed_victims (Changes state.tables state.locks) state.sessions ds o.changing;
    lock_table = λ s statement number mode active at none. begins s number statement _ _ _ active (keeps_all state.locks (table_lock s number mode)) refl
        (first_changing (with_lock state.locks (table_lock s number mode)) s (begun_work (table_at state.tables number) number statement (m.ways (table_at state.tables number).schema statement) (length (session_at state.sessions s).undo)) (table_at state.tables number) statement (m.ways (table_at state.tables number).schema statement) refl);
    lock_key = λ s number key mode active at none. at_work s state.tables _ _ _ at.work active at.goes_on (keeps_all state.locks (key_lock s number key mode)) (same_rows s) refl
        (λ unfailed. subst (λ p. IsChanging state.tables (with_lock state.locks (key_lock s number key mode)) s (work_after_key (table_at state.tables number) (row_of (present (table_at state.tables number) key)) at.work)
        (phase_after_key (table_at state.tables number) at.work.statement p (read_with at.work.phase at.work.read (row_of (present (table_at state.tables number) key))))) (sym at.phase)
        (key_changes s number key mode (work_after_key (table_at state.tables number) (row_of (present (table_at state.tables number) key)) at.work) at (row_of (present (table_at state.tables number) key)) refl refl refl
        (ap (λ p. read_with p at.work.read (row_of (present (table_at state.tables number) key))) at.phase)));
    lock_row = λ s number key mode active at none. at_work s state.tables _ _ _ at.work active at.goes_on (keeps_all state.locks (key_lock s number key mode)) (same_rows s) refl
        (λ unfailed. subst (λ p. IsChanging state.tables (with_lock state.locks (key_lock s number key mode)) s (work_after_key (table_at state.tables number) (row_of (present (table_at state.tables number) key)) at.work)
        (phase_after_key (table_at state.tables number) at.work.statement p (read_with at.work.phase at.work.read (row_of (present (table_at state.tables number) key))))) (sym at.phase)
        (row_key_changes s number key mode (work_after_key (table_at state.tables number) (row_of (present (table_at state.tables number) key)) at.work) at (begun_entering (indexed (table_at state.tables number)) at.change)
        (not_found at.change.key (row_of (present (table_at state.tables number) key)) at.work.failure
        (sym (ap (λ p. failure_with (table_at state.tables number) at.work.statement p (row_of (present (table_at state.tables number) key)) at.work.failure) at.phase) ∙ unfailed)) refl refl
        (ap (λ p. read_with p at.work.read (row_of (present (table_at state.tables number) key))) at.phase)));
    visit = λ s number column predicate active at. at_work s state.tables state.locks _ _ at.work active at.goes_on same_locks (same_rows s) refl
        (λ unfailed. visit_changes s number column predicate (work_after_visit (table_at state.tables number) (seen_now m state o s number column predicate at) at.work) at (seen_now m state o s number column predicate at) refl
        (visit_nothing s number column predicate at));
    scan = λ s number leaf active at. at_work s state.tables state.locks _ _ at.work active at.goes_on same_locks (same_rows s) refl
        (λ unfailed. scan_changes s number leaf (work_after_scan (table_at state.tables number) leaf at.work) at refl refl refl);
    step = λ s d q active at may. at_work s state.tables state.locks _ _ at.descending.entering.work active at.descending.entering.goes_on same_locks (same_rows s) refl
        (λ unfailed. entry_changes state.tables s (change_entering (stepped (tree_for state d) q) at.descending.entering.work) (stepped (tree_for state d) q) at.descending.entering (λ t k. refl) refl refl refl);
    stale = λ s d active at. at_work s state.tables state.locks _ _ at.descending.entering.work active at.descending.entering.goes_on same_locks (same_rows s) refl
        (λ unfailed. entry_changes state.tables s (change_entering without_path at.descending.entering.work) without_path at.descending.entering (λ t k. refl) refl refl refl);
    full = λ s active at. at_work s state.tables state.locks _ _ at.work active at.goes_on same_locks (same_rows s) refl (λ unfailed. absurd (none_some file_full (sym unfailed)));
    place = λ s d q ds active at may. at_work s _ state.locks _ _ at.descending.entering.work active at.descending.entering.goes_on same_locks (λ k ne t key h. place_same d q ds t key) refl
        (λ unfailed. entry_changes (change_table d.table (table_after_place d state.entries q ds) state.tables) s (change_entering (with_placed d.column state.entries) at.descending.entering.work) (with_placed d.column state.entries)
        at.descending.entering (place_same d q ds) refl refl refl);
    row = λ s number change placed p active at may. at_work s _ state.locks _ _ at.entering.work active at.entering.goes_on same_locks
        (λ k ne t key h. row_elsewhere m state good o s number change placed p at may t key (others_apart m state good o s number change.key (row_taken m state good o s number change placed at) k ne t key h)) refl
        (λ unfailed. row_changes s number change placed p (work_after_row (table_at state.tables number) at.entering.work) at may refl refl refl);
  }

pub changing_kept : (m : Machine) (state : State) (actor : Actor) (choice : Choice) → IsProper m → InOrder m state → MayHappen m state actor choice
    → AreChanging (after m state actor choice).tables (after m state actor choice).locks (after m state actor choice).sessions
changing_kept m state actor choice good o h = event_keeps m state good o (λ (st : State). AreChanging st.tables st.locks st.sessions) (changing_each m state good o) actor choice h
