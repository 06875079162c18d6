-- At which keys rows change.
use Rattle.std.proofs.Common.{◌≡◌, ◌∙◌, ◌≤◌, inl, inr, refl, sym, ap, subst, ℕ, ℤ, suc, ◌==◌, not, cond, Bool, true, false, Option, Some, None, List, [], ◌∷◌, ◌++◌, length, eqb-true}
use Rattle.std.specs.Prelude.{find, is_some}
use Rattle.std.specs.List.{last_or, list_any}
use Rattle.std.proofs.lemmas.Bool.{false≢true, and_parts, or_cases, or_left, or_right}
use Rattle.isp_base.specs.Lists.{Has}
use Rattle.isp_laws.proofs.ListLaws.{Has-append_right}
use Rattle.isp_reclock.specs.declared.entries.Lock.{Lock}
use Rattle.isp_reclock.specs.declared.modes.Mode.TheVariants.{X}
use Rattle.isp_reclock.specs.Tables.{holds, is_lock, key_lock, table_lock, takes}
use Rattle.isp_reclock.proofs.BlockerLemmas.{find_passes}
use Rattle.isp_events.specs.Stored.{StoredTable, change_table, kept_at, no_table, table_at, table_from}
use Rattle.isp_events.specs.Sessions.{Change, SessionState, UndoEntry, session_at}
use Rattle.isp_events.specs.State.{State, Queued, dead_entry, dead_row, front}
use Rattle.isp_events.specs.Views.{has_written, is_of_key}
use Rattle.isp_events.specs.Ways.{Machine}
use Rattle.isp_events.specs.Next.{EventKind, answers, undoes, creates, asks_table, asks_key, visits, scans, steps, goes_stale, finds_full, places, writes, next}
use Rattle.isp_events.specs.Placing.{table_after_place}
use Rattle.isp_events.specs.Writing.{MayWriteRow, Put, image_of, table_after_row, table_with_row}
use Rattle.isp_events.specs.Ending.{new_table, restored}
use Rattle.isp_events.specs.Purging.{is_taken, may_leave, table_without, table_without_entry, tables_purged}
use Rattle.isp_events.specs.Events.{Choice, with_nothing, with_blockers, with_deadlocks, with_child, with_divisions, with_put, with_undo_pages, with_roots, MayChoose, MayGoOn, after_kind, after_next}
use Rattle.isp_order.specs.InOrder.{InOrder, IsProper}
use Rattle.isp_order.proofs.RowLaws.{row_left, row_unchanged}
use Rattle.isp_order.proofs.SessionLaws.{same_at, seated}
use Rattle.isp_order.proofs.TableLaws.{kept_of, other_table}
use Rattle.isp_causes.specs.Causes.{IsCaused, IsUndoing, IsWritingRow}
use Rattle.isp_causes.proofs.CauseLaws.{is_caused}
use Rattle.isp_order_trees.proofs.CoveredLaws.{find_has, top_of}
use Rattle.isp_order_reads.proofs.RowFrames.{Writes, no_other_writes, purged_present, table_has, writes_row}
use Rattle.isp_order_one.proofs.ImageLaws.{is_own_key, of_key_parts}
use Rattle.isp_order_others.specs.WhatStays.{Reads, IsKeptSame, PurgesLeaveNamed, ReadIsUnnamed, RowsChangeWhereWritten}

-- ---- keys that an undo list names

named_by : (us : List UndoEntry) (t : ℕ) (k : ℤ) (u : UndoEntry) → Has us u → is_of_key t k u ≡ true → is_some (find (is_of_key t k) us) ≡ true
named_by [] t k u h e = absurd h
named_by (x ∷ us) t k u (inl is) e = let here : is_of_key t k x ≡ true = ap (is_of_key t k) is ∙ e in ap (λ b. is_some (cond b (Some x) (find (is_of_key t k) us))) here
named_by (x ∷ us) t k u (inr h) e = later (is_of_key t k x) (named_by us t k u h e)
  where
    later : (b : Bool) → is_some (find (is_of_key t k) us) ≡ true → is_some (cond b (Some x) (find (is_of_key t k) us)) ≡ true
    later true z = refl
    later false z = z

-- an entry of the list is at another key
pub apart_from : (session : SessionState) (t : ℕ) (k : ℤ) (u : UndoEntry) → has_written session t k ≡ false → Has session.undo u → t ≡ u.table → k ≡ u.key → ⊥
apart_from session t k u none h table key = false≢true (sym none ∙ named_by session.undo t k u h (is_own_key t k u (sym table) (sym key)))

pub record IsNamed (session : SessionState) (t : ℕ) (k : ℤ) : Type 0 where
  pub undo : UndoEntry
  pub has : Has session.undo undo
  pub of_table : undo.table ≡ t
  pub of_key : undo.key ≡ k

pub is_named : (session : SessionState) (t : ℕ) (k : ℤ) → has_written session t k ≡ true → IsNamed session t k
is_named session t k h = by_found (find (is_of_key t k) session.undo) refl h
  where
    by_found : (o : Option UndoEntry) → find (is_of_key t k) session.undo ≡ o → is_some o ≡ true → IsNamed session t k
    by_found None e z = absurd (false≢true z)
    by_found (Some u) e z =
        let parts = of_key_parts t k u (find_passes (is_of_key t k) session.undo u e) in
        record { undo = u; has = find_has (is_of_key t k) session.undo u e; of_table = parts.0; of_key = parts.1 }

-- ---- one table changes, but not at the key

changed_elsewhere : (number : ℕ) (f : StoredTable → StoredTable) (tables : List StoredTable) (t : ℕ) (k : ℤ)
    → (t ≡ number → kept_at (f (table_at tables number)) k ≡ kept_at (table_at tables number) k)
    → kept_at (table_at (change_table number f tables) t) k ≡ kept_at (table_at tables t) k
changed_elsewhere number f tables t k same = by_table (t == number) refl
  where
    by_table : (b : Bool) → (t == number) ≡ b → kept_at (table_at (change_table number f tables) t) k ≡ kept_at (table_at tables t) k
    by_table true e = kept_of (λ x. kept_at x k) number t f tables (same (eqb-true t number e))
    by_table false e = ap (λ (x : StoredTable). kept_at x k) (other_table number t f tables e)

-- a new table without rows
created_from : (n i : ℕ) (new : StoredTable) (tables : List StoredTable) (k : ℤ) → kept_at new k ≡ None → kept_at (table_from n (tables ++ new ∷ []) i) k ≡ kept_at (table_from n tables i) k
created_from n i new [] k empty = by_test (n == i)
  where
    by_test : (b : Bool) → kept_at (cond b new no_table) k ≡ None
    by_test true = empty
    by_test false = refl
created_from n i new (t ∷ tables) k empty = by_test (n == i) (created_from (suc n) i new tables k empty)
  where
    by_test : (b : Bool) → kept_at (table_from (suc n) (tables ++ new ∷ []) i) k ≡ kept_at (table_from (suc n) tables i) k
        → kept_at (cond b t (table_from (suc n) (tables ++ new ∷ []) i)) k ≡ kept_at (cond b t (table_from (suc n) tables i)) k
    by_test true again = refl
    by_test false again = again

-- ---- who holds X on a key takes it

held_any : (P : ℕ → Bool) (locks : List Lock) (lock : Lock) → holds locks lock ≡ true → P lock.trx ≡ true → list_any (λ (x : Lock). P x.trx) locks ≡ true
held_any P [] lock h p = absurd (false≢true h)
held_any P (x ∷ locks) lock h p = elim (or_cases (is_lock lock x) (holds locks lock) h) [
  | inl own ↦ (let same : lock.trx ≡ x.trx = eqb-true lock.trx x.trx (and_parts (lock.trx == x.trx) _ own).0 in
      or_left (P x.trx) (list_any (λ (y : Lock). P y.trx) locks) (ap P (sym same) ∙ p))
  | inr other ↦ or_right (P x.trx) (list_any (λ (y : Lock). P y.trx) locks) (held_any P locks lock other p)
]

taken_by : (locks : List Lock) (table : ℕ) (key : ℤ) (s : ℕ) → takes locks table key s ≡ true → is_taken locks table key ≡ true
taken_by locks table key s h = elim (or_cases (holds locks (key_lock s table key X)) (holds locks (table_lock s table X)) h) [
  | inl k ↦ held_any (takes locks table key) locks (key_lock s table key X) k h
  | inr k ↦ held_any (takes locks table key) locks (table_lock s table X) k h
]

module _ (m : Machine) (state : State) (good : IsProper m) (o : InOrder m state) where
  -- ---- a row and an undo entry

  undone_elsewhere : (s : ℕ) (entry : UndoEntry) (t : ℕ) (k : ℤ) → IsUndoing m s (session_at state.sessions s) entry → has_written (session_at state.sessions s) t k ≡ false
      → kept_at (table_at (change_table entry.table (table_with_row entry.key (restored entry.image)) state.tables) t) k ≡ kept_at (table_at state.tables t) k
  undone_elsewhere s entry t k at none =
      changed_elsewhere entry.table (table_with_row entry.key (restored entry.image)) state.tables t k
      (λ is. row_unchanged entry.key k (restored entry.image) (table_at state.tables entry.table)
      (apart_from (session_at state.sessions s) t k entry none (has_last (session_at state.sessions s).undo entry at.newest) is))
    where
      has_last : (us : List UndoEntry) (u : UndoEntry) → last_or None us ≡ Some u → Has us u
      has_last us u h = subst (λ (xs : List UndoEntry). Has xs u) (sym (top_of us u h)) (Has-append_right (front us) (u ∷ []) u (inl refl))

  written_elsewhere : (s number : ℕ) (change : Change) (placed : List (ℕ × ℕ)) (p : Put) (undo : List UndoEntry) (t : ℕ) (k : ℤ) → IsWritingRow state (session_at state.sessions s) number change placed
      → MayWriteRow state number change placed p
      → is_some (find (is_of_key t k) (undo ++ record { table = number; key = change.key; image = image_of (kept_at (table_at state.tables number) change.key) } ∷ [])) ≡ false
      → kept_at (table_at (change_table number (table_after_row p change placed change.new) state.tables) t) k ≡ kept_at (table_at state.tables t) k
  written_elsewhere s number change placed p undo t k at may none =
      changed_elsewhere number (table_after_row p change placed change.new) state.tables t k (λ is. row_writes.others k (other is))
    where
      joined : UndoEntry
      joined = record { table = number; key = change.key; image = image_of (kept_at (table_at state.tables number) change.key) }

      row_writes : Writes (table_at state.tables number) (table_after_row p change placed change.new (table_at state.tables number)) change
      row_writes =
          let bound = o.bound s at.entering.work at.entering.goes_on.at_work in
          let keyed = o.keyed.each (table_at state.tables number)
          (table_has number state.tables (subst (λ n. 1 ≤ n) (sym at.number_is) bound.first) (subst (λ n. n ≤ length state.tables) (sym at.number_is) bound.last)) in
          writes_row p change placed change.new (table_at state.tables number) refl keyed.rising may.fits

      other : t ≡ number → k ≡ change.key → ⊥
      other table key =
          false≢true (sym none ∙ named_by (undo ++ joined ∷ []) t k joined (Has-append_right undo (joined ∷ []) joined (inl refl)) (is_own_key t k joined (sym table) (sym key)))

  -- ---- each kind

  module _ (s t : ℕ) (k : ℤ) (none : has_written (session_at state.sessions s) t k ≡ false) where
    kind_keeps_rows : (kind : EventKind) (choice : Choice) → IsCaused m state s kind → MayChoose state s kind choice
        → has_written (session_at (after_kind m state s kind choice).sessions s) t k ≡ false → IsKeptSame state (after_kind m state s kind choice) t k
    kind_keeps_rows (answers reply true) with_nothing c h later = refl
    kind_keeps_rows (answers reply false) with_nothing c h later = refl
    kind_keeps_rows (undoes entry) (with_undo_pages more) c h later = undone_elsewhere s entry t k c.cause none
    kind_keeps_rows (creates name schema) with_nothing c h later = refl
    kind_keeps_rows (creates name schema) (with_roots leaf roots) c h later = created_from 1 t (new_table name schema leaf roots) state.tables k refl
    kind_keeps_rows (asks_table statement number mode) with_nothing c h later = refl
    kind_keeps_rows (asks_table statement number mode) (with_blockers by ds) c h later = refl
    kind_keeps_rows (asks_key number key mode) with_nothing c h later = refl
    kind_keeps_rows (asks_key number key mode) (with_blockers by ds) c h later = refl
    kind_keeps_rows (visits number column predicate) with_nothing c h later = refl
    kind_keeps_rows (scans number leaf) with_nothing c h later = refl
    kind_keeps_rows (steps d) (with_child q) c h later = refl
    kind_keeps_rows (goes_stale d) with_nothing c h later = refl
    kind_keeps_rows finds_full with_nothing c h later = refl
    kind_keeps_rows (places d) (with_deadlocks ds) c h later = refl
    kind_keeps_rows (places d) (with_divisions q ds) c h later = changed_elsewhere d.table (table_after_place d state.entries q ds) state.tables t k (λ is. refl)
    kind_keeps_rows (writes number change placed) (with_put p) c h later =
        written_elsewhere s number change placed p (session_at state.sessions s).undo t k c.cause h
        (sym (ap (λ (x : SessionState). has_written x t k) (same_at state.sessions s _ (seated state.sessions s c.active.not_over))) ∙ later)
    kind_keeps_rows kind choice c h later = absurd h

    next_keeps_rows : (kind : Option EventKind) (choice : Choice) → next m state s ≡ kind → MayGoOn state s kind choice
        → has_written (session_at (after_next m state s kind choice).sessions s) t k ≡ false → IsKeptSame state (after_next m state s kind choice) t k
    next_keeps_rows None choice e h later = absurd h
    next_keeps_rows (Some kind) choice e h later = kind_keeps_rows kind choice (is_caused m state s kind e) h later

  -- ---- what is locked

  pub read_unnamed : (s k table : ℕ) (key : ℤ) → Reads state.locks s table key → (k == s) ≡ false → has_written (session_at state.sessions k) table key ≡ false
  read_unnamed s k table key reads ne = by_test (has_written (session_at state.sessions k) table key) refl
    where
      by_test : (b : Bool) → has_written (session_at state.sessions k) table key ≡ b → b ≡ false
      by_test false e = refl
      by_test true e =
          let n : IsNamed (session_at state.sessions k) table key = is_named (session_at state.sessions k) table key e in
          let taken : takes state.locks table key k ≡ true =
          subst (λ i. takes state.locks i key k ≡ true) n.of_table (subst (λ i. takes state.locks n.undo.table i k ≡ true) n.of_key (o.written_locked.undone k n.undo n.has)) in
          absurd (no_other_writes m state good o k s table key ne taken reads)

  -- ---- purges

  purged_named : (queue : List Queued) (s t : ℕ) (k : ℤ) → has_written (session_at state.sessions s) t k ≡ true
      → kept_at (table_at (tables_purged state.locks queue state.tables) t) k ≡ kept_at (table_at state.tables t) k
  purged_named [] s t k named = refl
  purged_named (dead_entry entry ∷ queue) s t k named = changed_elsewhere entry.table (table_without_entry entry) state.tables t k (λ is. refl)
  purged_named (dead_row number key ∷ queue) s t k named = by_test (may_leave state.locks (table_at state.tables number) number key) refl
    where
      by_test : (b : Bool) → may_leave state.locks (table_at state.tables number) number key ≡ b
          → kept_at (table_at (cond b (change_table number (table_without key) state.tables) state.tables) t) k ≡ kept_at (table_at state.tables t) k
      by_test false e = refl
      by_test true e = changed_elsewhere number (table_without key) state.tables t k (λ is. row_left key k (table_at state.tables number) (other is))
        where
          other : t ≡ number → k ≡ key → ⊥
          other table same =
              let n : IsNamed (session_at state.sessions s) t k = is_named (session_at state.sessions s) t k named in
              let taken : takes state.locks number key s ≡ true =
              subst (λ i. takes state.locks i key s ≡ true) (n.of_table ∙ table) (subst (λ i. takes state.locks n.undo.table i s ≡ true) (n.of_key ∙ same) (o.written_locked.undone s n.undo n.has)) in
              let yes : is_taken state.locks number key ≡ true = taken_by state.locks number key s taken in
              false≢true (sym (ap not yes) ∙ (and_parts _ (not (is_taken state.locks number key)) e).1)

pub rows_change_where_written : RowsChangeWhereWritten
rows_change_where_written m state s choice good o h t k none later = next_keeps_rows m state good o s t k none (next m state s) choice refl h later

pub read_is_unnamed : ReadIsUnnamed
read_is_unnamed m state good o s k table key reads ne = read_unnamed m state good o s k table key reads ne

pub purges_leave_named : PurgesLeaveNamed
purges_leave_named m state with_nothing good o h = record {
  sessions = refl;
  locks = refl;
  searches = refl;
  waits = refl;
  unmarked = λ t k. purged_present state.locks state.queue state.tables t k;
  named = λ s t k named. purged_named m state good o state.queue s t k named;
}
purges_leave_named m state choice good o h = absurd h
