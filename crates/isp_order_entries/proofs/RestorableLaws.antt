-- Each key of an undo list has a slot that holds what would be put back, and is among the keys that its session wrote.
use Rattle.std.proofs.Common.{◌≡◌, ◌⊎◌, ◌∙◌, ◌≤◌, inl, inr, refl, sym, ap, subst, ℕ, ℤ, ◌==◌, ◌||◌, not, Bool, true, false, cond, Option, Some, None, List, [], ◌∷◌, ◌++◌, length, arith, eqb-true}
use Rattle.std.specs.Prelude.{flat_map, nat_lt, slice_set}
use Rattle.std.specs.List.{list_any}
use Rattle.std.specs.Map.{lookup}
use Rattle.std.specs.BTreeMap.{is_at}
use Rattle.std.specs.Option.{option_and_then, option_map}
use Rattle.std.specs.Ordering.{int_cmp, int_eq}
use Rattle.std.proofs.lemmas.Bool.{false≢true, and_parts}
use Rattle.std.proofs.lemmas.Bool.Decides.{Decides-int_eq, nat_tests}
use Rattle.isp_base.specs.Lists.{Has}
use Rattle.isp_reclock.specs.declared.entries.Lock.{Lock}
use Rattle.isp_reclock.specs.declared.modes.Mode.TheVariants.{X}
use Rattle.isp_reclock.specs.Tables.{holds, is_lock, key_lock, table_lock, takes}
use Rattle.isp_reclock.proofs.LockLemmas.{is_lock-trx}
use Rattle.isp_plain.specs.declared.statement.Statement.{Statement}
use Rattle.isp_plain.specs.declared.statement.Statement.TheVariants.{Create, Insert, Select, Update, Delete, Begin, Commit, Rollback, Refused}
use Rattle.isp_plain.specs.declared.value.Row.{Row}
use Rattle.isp_plain.specs.declared.value.Schema.{Schema}
use Rattle.isp_plain.specs.Conditions.{holds as row_holds}
use Rattle.isp_plain.specs.Does.{with_sets}
use Rattle.isp_plain.specs.RowBytes.{row_bytes}
use Rattle.isp_forest.specs.Tree.{Tree}
use Rattle.isp_laws.proofs.ListLaws.{Has-append, Has-append_left, Has-append_right, Has-map, Source}
use Rattle.isp_event_laws.proofs.ListTests.{Passing, any_has}
use Rattle.isp_events.specs.Stored.{KeptRow, Leaf, StoredTable, Version, change_table, change_tree, indexed, kept_at, present, row_of, rows_of, table_at, version_of}
use Rattle.isp_events.specs.Sessions.{Change, Image, was_absent, was_there, was_marked, SessionState, UndoEntry, entering, adding, change_of, change_of_row, changes_of, session_at}
use Rattle.isp_events.specs.State.{State, Queued, dead_entry, dead_row, front}
use Rattle.isp_events.specs.Ways.{IsStorable, Machine}
use Rattle.isp_events.specs.Placing.{table_after_place}
use Rattle.isp_events.specs.Writing.{MayWriteRow, Put, image_of, image_of_kept, marked, needs_slot, row_after, session_after_row, slot_after, table_after_put, table_after_row, table_with_row}
use Rattle.isp_events.specs.Ending.{is_marked, new_table, restored, session_after_undo}
use Rattle.isp_events.specs.Purging.{is_taken, may_leave, table_without, table_without_entry, tables_purged}
use Rattle.isp_events.specs.Deadlocks.{with_victims}
use Rattle.isp_events.specs.Events.{Actor, Choice, MayHappen, after}
use Rattle.isp_order.specs.Trees.{AreRestorable, FitsSlot, IsRestorable, IsStored, version_kept}
use Rattle.isp_order.specs.Work.{IsChanging, IsWriting, changes_by}
use Rattle.isp_order.specs.InOrder.{InOrder, IsProper}
use Rattle.isp_order.proofs.RowLaws.{key_is, lookup_has, row_changed, row_left, row_unchanged}
use Rattle.isp_order.proofs.TableLaws.{kept_of, other_table, same_table, there_table}
use Rattle.isp_causes.specs.Causes.{IsEntering, IsUndoing, IsWritingRow}
use Rattle.isp_causes.proofs.EventCases.{EachKeeps, event_keeps}
use Rattle.isp_order_trees.proofs.TreeParts.{change_leaves_trees, indexed_stay, same_indexed}
use Rattle.isp_order_trees.proofs.NoteParts.{noted_in, set_relates, victims_leave}
use Rattle.isp_order_trees.proofs.WholeLaws.{after_row_leaves_trees}
use Rattle.isp_order_trees.proofs.CoveredLaws.{top_of}
use Rattle.isp_order_entries.proofs.RowParts.{SameRows, change_leaves_rows, earlier_if}
use Rattle.isp_order_entries.proofs.EnteredLaws.{at_hand, bound, keyed, with_row}

-- ---- slots

-- at the key of the table a slot stays, or gets larger
pub record KeepsSlot (tables after : List StoredTable) (t : ℕ) (key : ℤ) : Type 0 where
  pub schema : (table_at after t).schema ≡ (table_at tables t).schema
  pub columns : indexed (table_at after t) ≡ indexed (table_at tables t)
  pub slot : (kept : KeptRow) → kept_at (table_at tables t) key ≡ Some kept → (new : KeptRow) × (kept_at (table_at after t) key ≡ Some new) × (kept.slot ≤ new.slot)

stored_to : (table after : StoredTable) (key : ℤ) (slot larger : ℕ) (v : Version) → after.schema ≡ table.schema → indexed after ≡ indexed table → slot ≤ larger
    → IsStored table key slot v → IsStored after key larger v
stored_to table after key slot larger v schema columns fits i = record {
  storable = subst (λ (s : Schema). IsStorable s v.row) (sym schema) i.storable;
  own_key = i.own_key;
  each_column = i.each_column ∙ ap (λ (cs : List ℕ). length cs) (sym columns);
  fits = omega (arith, ap (λ (s : Schema). row_bytes s v.row) schema, i.fits, fits);
}

fits_to : (table after : StoredTable) (key : ℤ) (slot larger : ℕ) (image : Image) → after.schema ≡ table.schema → indexed after ≡ indexed table → slot ≤ larger
    → FitsSlot table key slot image → FitsSlot after key larger image
fits_to table after key slot larger was_absent schema columns fits h = tt
fits_to table after key slot larger (was_there v) schema columns fits h = stored_to table after key slot larger v schema columns fits h
fits_to table after key slot larger (was_marked v) schema columns fits h = stored_to table after key slot larger v schema columns fits h

restorable_to : (tables after : List StoredTable) (x y : SessionState) (u : UndoEntry) → KeepsSlot tables after u.table u.key
    → ((w : ℕ × ℤ) → Has x.written w → Has y.written w) → IsRestorable tables x u → IsRestorable after y u
restorable_to tables after x y u keeps more r =
    let n = keeps.slot r.kept r.there in
    record {
      kept = n.0;
      there = n.1;
      fits = fits_to (table_at tables u.table) (table_at after u.table) u.key r.kept.slot n.0.slot u.image keeps.schema keeps.columns n.2 r.fits;
      written = more (u.table, u.key) r.written;
    }

same_slot : (tables after : List StoredTable) (t : ℕ) (key : ℤ) → (table_at after t).schema ≡ (table_at tables t).schema → indexed (table_at after t) ≡ indexed (table_at tables t)
    → kept_at (table_at after t) key ≡ kept_at (table_at tables t) key → KeepsSlot tables after t key
same_slot tables after t key schema columns same = record { schema = schema; columns = columns; slot = λ kept h. (kept, same ∙ h, omega arith) }

same_rows_kept : (tables after : List StoredTable) → SameRows tables after → (t : ℕ) (key : ℤ) → kept_at (table_at after t) key ≡ kept_at (table_at tables t) key
same_rows_kept tables after same t key = ap (λ (leaves : List Leaf). lookup (is_at (int_cmp key)) (flat_map (λ (leaf : Leaf). leaf.rows) leaves)) (same t)

-- what a session would undo then it would before, having written no less; or it is restorable by itself
abbrev Carries : List StoredTable → SessionState → SessionState → Type 0
Carries tables x y = (u : UndoEntry) → Has y.undo u → (Has x.undo u × ((w : ℕ × ℤ) → Has x.written w → Has y.written w)) ⊎ IsRestorable tables y u

-- ---- a change without a new row had an old one

marks_old : (statement : Statement) (key : ℤ) (row : Row) (c : Change) → change_of_row statement key row ≡ Some c → (old : Row) × (c.old ≡ Some old)
marks_old (Update name sets w) key row c h = one (row_holds w row) h
  where
    one : (b : Bool) → cond b (Some (record { key = key; old = Some row; new = Some (with_sets sets row) })) None ≡ Some c → (old : Row) × (c.old ≡ Some old)
    one true k = let same : record { key = key; old = Some row; new = Some (with_sets sets row) } ≡ c = cc in (row, ap (λ (z : Change). z.old) (sym same))
    one false k = let no : ⊥ = cc in absurd no
marks_old (Delete name w) key row c h = one (row_holds w row) h
  where
    one : (b : Bool) → cond b (Some (record { key = key; old = Some row; new = None })) None ≡ Some c → (old : Row) × (c.old ≡ Some old)
    one true k = let same : record { key = key; old = Some row; new = None } ≡ c = cc in (row, ap (λ (z : Change). z.old) (sym same))
    one false k = let no : ⊥ = cc in absurd no
marks_old (Create name schema) key row c h = let no : ⊥ = cc in absurd no
marks_old (Insert name rows) key row c h = let no : ⊥ = cc in absurd no
marks_old (Select name columns w) key row c h = let no : ⊥ = cc in absurd no
marks_old Begin key row c h = let no : ⊥ = cc in absurd no
marks_old Commit key row c h = let no : ⊥ = cc in absurd no
marks_old Rollback key row c h = let no : ⊥ = cc in absurd no
marks_old (Refused refusal) key row c h = let no : ⊥ = cc in absurd no

read_old : (statement : Statement) (read : List (ℤ × Option Row)) (c : Change) → Has (changes_of statement read) c → (old : Row) × (c.old ≡ Some old)
read_old statement read c h =
    let r = noted_in (λ (x : ℤ × Option Row). change_of statement x.0 x.1) read c h in
    one r.0.0 r.0.1 r.2
  where
    one : (key : ℤ) (row : Option Row) → change_of statement key row ≡ Some c → (old : Row) × (c.old ≡ Some old)
    one key None k = let no : ⊥ = cc in absurd no
    one key (Some row) k = marks_old statement key row c k

has_old : (statement : Statement) (read : List (ℤ × Option Row)) (c : Change) → Has (changes_by statement read) c → c.new ≡ None → (old : Row) × (c.old ≡ Some old)
has_old (Insert name rows) read c h none =
    let s : Source adding rows c = Has-map adding rows c h in
    let no : Some s.x ≡ None = ap (λ (z : Change). z.new) s.is ∙ none in
    let f : ⊥ = cc in absurd f
has_old (Create name schema) read c h none = read_old (Create name schema) read c h
has_old (Select name columns w) read c h none = read_old (Select name columns w) read c h
has_old (Update name sets w) read c h none = read_old (Update name sets w) read c h
has_old (Delete name w) read c h none = read_old (Delete name w) read c h
has_old Begin read c h none = read_old Begin read c h
has_old Commit read c h none = read_old Commit read c h
has_old Rollback read c h none = read_old Rollback read c h
has_old (Refused refusal) read c h none = read_old (Refused refusal) read c h

-- ---- who is locked is taken

any_of : (t : Lock → Bool) (xs : List Lock) (x : Lock) → Has xs x → t x ≡ true → list_any t xs ≡ true
any_of t [] x h k = absurd h
any_of t (z ∷ xs) x (inl same) k = let here : t z ≡ true = ap t same ∙ k in rw here refl
any_of t (z ∷ xs) x (inr h) k = let i : list_any t xs ≡ true = any_of t xs x h k in rw i (or_true (t z))
  where
    or_true : (b : Bool) → (b || true) ≡ true
    or_true true = refl
    or_true false = refl

taken_by : (locks : List Lock) (table : ℕ) (key : ℤ) (s : ℕ) → takes locks table key s ≡ true → is_taken locks table key ≡ true
taken_by locks table key s h = by_lock (holds locks (key_lock s table key X)) refl h
  where
    of_lock : (l : Lock) → l.trx ≡ s → holds locks l ≡ true → is_taken locks table key ≡ true
    of_lock l is k =
        let r : Passing (is_lock l) locks = any_has (is_lock l) locks k in
        let trx : s ≡ r.x.trx = sym is ∙ eqb-true l.trx r.x.trx (is_lock-trx l r.x r.passes) in
        any_of (λ lock. takes locks table key lock.trx) locks r.x r.has (subst (λ z. takes locks table key z ≡ true) trx h)

    by_lock : (b : Bool) → holds locks (key_lock s table key X) ≡ b → (b || holds locks (table_lock s table X)) ≡ true → is_taken locks table key ≡ true
    by_lock true e k = of_lock (key_lock s table key X) refl e
    by_lock false e k = of_lock (table_lock s table X) refl k

schema_after_row : (p : Put) (change : Change) (placed : List (ℕ × ℕ)) (new : Option Row) (table : StoredTable) → (table_after_row p change placed new table).schema ≡ table.schema
schema_after_row p change placed None table = refl
schema_after_row p change placed (Some new) table =
    let kept : KeptRow = row_after table.schema (indexed table) placed (kept_at table change.key) new in
    one (needs_slot (row_bytes table.schema new) (kept_at table change.key)) (table_after_put p change.key kept table) (table_with_row change.key (λ other. kept) table) refl refl
  where
    one : (b : Bool) (x y : StoredTable) → x.schema ≡ table.schema → y.schema ≡ table.schema → (cond b x y).schema ≡ table.schema
    one true x y h k = h
    one false x y h k = k

restored_slot : (image : Image) (kept : KeptRow) → (restored image kept).slot ≡ kept.slot
restored_slot was_absent kept = refl
restored_slot (was_there v) kept = refl
restored_slot (was_marked v) kept = refl

slot_grows : (bytes : ℕ) (kept : KeptRow) → kept.slot ≤ slot_after bytes (Some kept)
slot_grows bytes kept = by_test (nat_lt kept.slot bytes) refl
  where
    by_test : (b : Bool) → nat_lt kept.slot bytes ≡ b → kept.slot ≤ cond b bytes kept.slot
    by_test true e = let less : kept.slot ≤ bytes = grind (arith, nat_tests) in less
    by_test false e = omega arith

module _ (m : Machine) (state : State) (o : InOrder m state) where
  all_to : (after : List StoredTable) (then : List SessionState)
      → ((s : ℕ) (u : UndoEntry) → Has (session_at state.sessions s).undo u → KeepsSlot state.tables after u.table u.key)
      → ((j : ℕ) → Carries after (session_at state.sessions j) (session_at then j)) → AreRestorable after then
  all_to after then keeps carries s u h = elim (carries s u h) [
    | inl was ↦ restorable_to state.tables after (session_at state.sessions s) (session_at then s) u (keeps s u was.0) was.1 (o.restorable s u was.0)
    | inr new ↦ new
  ]

  slots_stay : (s : ℕ) (u : UndoEntry) → Has (session_at state.sessions s).undo u → KeepsSlot state.tables state.tables u.table u.key
  slots_stay s u h = same_slot state.tables state.tables u.table u.key refl refl refl

  carries_set : (after : List StoredTable) (s : ℕ) (new : SessionState) → Carries after (session_at state.sessions s) new → (j : ℕ) → Carries after (session_at state.sessions j) (session_at (slice_set state.sessions s new) j)
  carries_set after s new h j = set_relates (Carries after) (λ x u k. inl (k, λ w z. z)) state.sessions s new h j

  unchanged : (s : ℕ) (new : SessionState) → new.undo ≡ (session_at state.sessions s).undo → new.written ≡ (session_at state.sessions s).written → AreRestorable state.tables (slice_set state.sessions s new)
  unchanged s new undo written = all_to state.tables (slice_set state.sessions s new) slots_stay
      (carries_set state.tables s new (λ u h. inl (subst (λ (list : List UndoEntry). Has list u) undo h, λ w z. subst (λ (list : List (ℕ × ℤ)). Has list w) (sym written) z)))

  -- the trees of a table change alone
  tree_slots : (n c : ℕ) (g : Tree → Tree) (s : ℕ) (u : UndoEntry) → Has (session_at state.sessions s).undo u
      → KeepsSlot state.tables (change_table n (λ x. record x { trees = change_tree c g x.trees }) state.tables) u.table u.key
  tree_slots n c g s u h = same_slot state.tables _ u.table u.key (kept_of (λ (t : StoredTable). t.schema) n u.table _ state.tables refl) (indexed_stay n c g state.tables u.table)
      (same_rows_kept state.tables _ (change_leaves_rows n _ state.tables (λ x. refl)) u.table u.key)

  -- a row that may leave is named by no undo list
  gone_slots : (number : ℕ) (key : ℤ) (b : Bool) → may_leave state.locks (table_at state.tables number) number key ≡ b → (s : ℕ) (u : UndoEntry) → Has (session_at state.sessions s).undo u
      → KeepsSlot state.tables (cond b (change_table number (table_without key) state.tables) state.tables) u.table u.key
  gone_slots number key false e s u h = slots_stay s u h
  gone_slots number key true e s u h =
      same_slot state.tables (change_table number (table_without key) state.tables) u.table u.key
      (kept_of (λ (t : StoredTable). t.schema) number u.table (table_without key) state.tables refl)
      (same_indexed state.tables (change_table number (table_without key) state.tables) (change_leaves_trees number (table_without key) state.tables (λ x. refl)) u.table)
      (by_table (u.table == number) refl)
    where
      not_true : (b : Bool) → not b ≡ true → b ≡ true → ⊥
      not_true true x y = false≢true x
      not_true false x y = false≢true y

      free : is_taken state.locks number key ≡ true → ⊥
      free t = not_true (is_taken state.locks number key) (and_parts (is_marked (kept_at (table_at state.tables number) key)) (not (is_taken state.locks number key)) e).1 t

      never : u.table ≡ number → u.key ≡ key → ⊥
      never t k = free (taken_by state.locks number key s (subst (λ n. takes state.locks n key s ≡ true) t (subst (λ i. takes state.locks u.table i s ≡ true) k (o.written_locked.undone s u h))))

      by_table : (c : Bool) → (u.table == number) ≡ c → kept_at (table_at (change_table number (table_without key) state.tables) u.table) u.key ≡ kept_at (table_at state.tables u.table) u.key
      by_table true t =
          let at : u.table ≡ number = eqb-true u.table number t in
          let here : kept_at (table_at (change_table number (table_without key) state.tables) number) u.key ≡ kept_at (table_at state.tables number) u.key = elim (same_table number (table_without key) state.tables) [
            | inl is ↦ ap (λ (x : StoredTable). kept_at x u.key) is ∙ row_left key u.key (table_at state.tables number) (λ k. never at k)
            | inr none ↦ ap (λ (x : StoredTable). kept_at x u.key) (none.0 ∙ sym none.1)
          ] in
          ap (λ n. kept_at (table_at (change_table number (table_without key) state.tables) n) u.key) at ∙ here ∙ ap (λ n. kept_at (table_at state.tables n) u.key) (sym at)
      by_table false t = ap (λ (x : StoredTable). kept_at x u.key) (other_table number u.table (table_without key) state.tables t)

  purge_restores : (queue : List Queued) → AreRestorable (tables_purged state.locks queue state.tables) state.sessions
  purge_restores [] = o.restorable
  purge_restores (dead_entry e ∷ queue) = all_to (change_table e.table (table_without_entry e) state.tables) state.sessions (tree_slots e.table e.column _) (λ j u k. inl (k, λ w z. z))
  purge_restores (dead_row number key ∷ queue) = all_to _ state.sessions (gone_slots number key (may_leave state.locks (table_at state.tables number) number key) refl) (λ j u k. inl (k, λ w z. z))

  -- a row is put back in its slot
  undo_slots : (entry : UndoEntry) (s : ℕ) (u : UndoEntry) → Has (session_at state.sessions s).undo u
      → KeepsSlot state.tables (change_table entry.table (table_with_row entry.key (restored entry.image)) state.tables) u.table u.key
  undo_slots entry s u h = record {
    schema = kept_of (λ (t : StoredTable). t.schema) entry.table u.table (table_with_row entry.key (restored entry.image)) state.tables refl;
    columns = same_indexed state.tables (change_table entry.table (table_with_row entry.key (restored entry.image)) state.tables)
        (change_leaves_trees entry.table (table_with_row entry.key (restored entry.image)) state.tables (λ x. refl)) u.table;
    slot = λ kept there. by_table kept there (u.table == entry.table) refl;
  }
    where
      by_key : (kept : KeptRow) → kept_at (table_at state.tables entry.table) u.key ≡ Some kept → (c : Bool) → int_eq u.key entry.key ≡ c
          → (new : KeptRow) × (kept_at (table_with_row entry.key (restored entry.image) (table_at state.tables entry.table)) u.key ≡ Some new) × (kept.slot ≤ new.slot)
      by_key kept there true e =
          let at : u.key ≡ entry.key = key_is u.key entry.key e in (
            restored entry.image kept,
            ap (kept_at (table_with_row entry.key (restored entry.image) (table_at state.tables entry.table))) at ∙ row_changed entry.key (restored entry.image) (table_at state.tables entry.table)
                ∙ ap (option_map (restored entry.image)) (ap (kept_at (table_at state.tables entry.table)) (sym at) ∙ there),
            omega (arith, restored_slot entry.image kept),
          )
      by_key kept there false e =
          (kept, row_unchanged entry.key u.key (restored entry.image) (table_at state.tables entry.table) (λ is. false≢true (sym e ∙ (Decides-int_eq u.key entry.key).1 is)) ∙ there, omega arith)

      by_table : (kept : KeptRow) → kept_at (table_at state.tables u.table) u.key ≡ Some kept → (c : Bool) → (u.table == entry.table) ≡ c
          → (new : KeptRow) × (kept_at (table_at (change_table entry.table (table_with_row entry.key (restored entry.image)) state.tables) u.table) u.key ≡ Some new) × (kept.slot ≤ new.slot)
      by_table kept there true t =
          let at : u.table ≡ entry.table = eqb-true u.table entry.table t in
          let there' : kept_at (table_at state.tables entry.table) u.key ≡ Some kept = ap (λ n. kept_at (table_at state.tables n) u.key) (sym at) ∙ there in
          elim (same_table entry.table (table_with_row entry.key (restored entry.image)) state.tables) [
            | inl is ↦ (let r = by_key kept there' (int_eq u.key entry.key) refl in
                (r.0, ap (λ n. kept_at (table_at (change_table entry.table (table_with_row entry.key (restored entry.image)) state.tables) n) u.key) at ∙ ap (λ (x : StoredTable). kept_at x u.key) is ∙ r.1, r.2))
            | inr none ↦ (let no : None ≡ Some kept = ap (λ (x : StoredTable). kept_at x u.key) (sym none.1) ∙ there' in let f : ⊥ = cc in absurd f)
          ]
      by_table kept there false t =
          (kept, ap (λ (x : StoredTable). kept_at x u.key) (other_table entry.table u.table (table_with_row entry.key (restored entry.image)) state.tables t) ∙ there, omega arith)

  undo_restores : (s : ℕ) (entry : UndoEntry) (more : ℕ) → IsUndoing m s (session_at state.sessions s) entry
      → AreRestorable (change_table entry.table (table_with_row entry.key (restored entry.image)) state.tables) (slice_set state.sessions s (session_after_undo more (session_at state.sessions s)))
  undo_restores s entry more at = all_to (change_table entry.table (table_with_row entry.key (restored entry.image)) state.tables) (slice_set state.sessions s (session_after_undo more (session_at state.sessions s)))
      (undo_slots entry) (carries_set (change_table entry.table (table_with_row entry.key (restored entry.image)) state.tables) s (session_after_undo more (session_at state.sessions s))
      (λ u h. inl (subst (λ (list : List UndoEntry). Has list u) (sym (top_of (session_at state.sessions s).undo entry at.newest)) (Has-append_left (front (session_at state.sessions s).undo) (entry ∷ []) u h), λ w z. z)))

  -- ---- a row is written

  module _ (s : ℕ) (e : IsEntering (session_at state.sessions s)) (all_placed : e.e.columns ≡ []) (p : Put) (may : MayWriteRow state e.work.table e.change e.e.placed p) where
    abbrev here_now : StoredTable
    here_now = table_at state.tables e.work.table

    abbrev here_then : StoredTable
    here_then = table_after_row p e.change e.e.placed e.change.new here_now

    abbrev tables_then : List StoredTable
    tables_then = change_table e.work.table (table_after_row p e.change e.e.placed e.change.new) state.tables

    is_here : table_at tables_then e.work.table ≡ here_then
    is_here = there_table e.work.table (table_after_row p e.change e.e.placed e.change.new) state.tables (bound m state o s e all_placed p may).first (bound m state o s e all_placed p may).last

    slot_at_key : (x : Option Row) → e.change.new ≡ x → (kept : KeptRow) → kept_at here_now e.change.key ≡ Some kept
        → (new : KeptRow) × (kept_at here_then e.change.key ≡ Some new) × (kept.slot ≤ new.slot)
    slot_at_key None is kept there =
        (marked kept, ap (λ y. kept_at (table_after_row p e.change e.e.placed y here_now) e.change.key) is ∙ row_changed e.change.key marked here_now ∙ ap (option_map marked) there, omega arith)
    slot_at_key (Some new) is kept there = (
      row_after here_now.schema (indexed here_now) e.e.placed (kept_at here_now e.change.key) new,
      (with_row m state o s e all_placed p may new is).0,
      subst (λ (y : Option KeptRow). kept.slot ≤ slot_after (row_bytes here_now.schema new) y) (sym there) (slot_grows (row_bytes here_now.schema new) kept),
    )

    slot_elsewhere : (x : Option Row) → e.change.new ≡ x → (k : ℤ) → (k ≡ e.change.key → ⊥) → kept_at here_then k ≡ kept_at here_now k
    slot_elsewhere None is k other = ap (λ y. kept_at (table_after_row p e.change e.e.placed y here_now) k) is ∙ row_unchanged e.change.key k marked here_now other
    slot_elsewhere (Some new) is k other = (with_row m state o s e all_placed p may new is).1 k other

    schemas : (t : ℕ) → (table_at tables_then t).schema ≡ (table_at state.tables t).schema
    schemas t = kept_of (λ (x : StoredTable). x.schema) e.work.table t (table_after_row p e.change e.e.placed e.change.new) state.tables (schema_after_row p e.change e.e.placed e.change.new here_now)

    columns : (t : ℕ) → indexed (table_at tables_then t) ≡ indexed (table_at state.tables t)
    columns t = same_indexed state.tables tables_then (change_leaves_trees e.work.table (table_after_row p e.change e.e.placed e.change.new) state.tables
        (λ x. after_row_leaves_trees p e.change e.e.placed e.change.new x)) t

    row_slots : (t : ℕ) (k : ℤ) → KeepsSlot state.tables tables_then t k
    row_slots t k = record { schema = schemas t; columns = columns t; slot = λ kept there. by_table kept there (t == e.work.table) refl }
      where
        by_key : (kept : KeptRow) → kept_at (table_at state.tables e.work.table) k ≡ Some kept → (c : Bool) → int_eq k e.change.key ≡ c
            → (new : KeptRow) × (kept_at (table_after_row p e.change e.e.placed e.change.new (table_at state.tables e.work.table)) k ≡ Some new) × (kept.slot ≤ new.slot)
        by_key kept there true i =
            let at : k ≡ e.change.key = key_is k e.change.key i in
            let r = slot_at_key e.change.new refl kept (ap (kept_at (table_at state.tables e.work.table)) (sym at) ∙ there) in
            (r.0, ap (kept_at (table_after_row p e.change e.e.placed e.change.new (table_at state.tables e.work.table))) at ∙ r.1, r.2)
        by_key kept there false i = (kept, slot_elsewhere e.change.new refl k (λ is. false≢true (sym i ∙ (Decides-int_eq k e.change.key).1 is)) ∙ there, omega arith)

        by_table : (kept : KeptRow) → kept_at (table_at state.tables t) k ≡ Some kept → (c : Bool) → (t == e.work.table) ≡ c
            → (new : KeptRow) × (kept_at (table_at (change_table e.work.table (table_after_row p e.change e.e.placed e.change.new) state.tables) t) k ≡ Some new) × (kept.slot ≤ new.slot)
        by_table kept there true i =
            let at : t ≡ e.work.table = eqb-true t e.work.table i in
            let r = by_key kept (ap (λ n. kept_at (table_at state.tables n) k) (sym at) ∙ there) (int_eq k e.change.key) refl in
            (r.0, ap (λ n. kept_at (table_at (change_table e.work.table (table_after_row p e.change e.e.placed e.change.new) state.tables) n) k) at ∙ ap (λ (x : StoredTable). kept_at x k) is_here ∙ r.1, r.2)
        by_table kept there false i = (kept, ap (λ (x : StoredTable). kept_at x k) (other_table e.work.table t (table_after_row p e.change e.e.placed e.change.new) state.tables i) ∙ there, omega arith)

    -- something is kept at the key then
    kept_there : (x : Option KeptRow) → kept_at here_now e.change.key ≡ x → (y : Option Row) → e.change.new ≡ y → (new : KeptRow) × (kept_at here_then e.change.key ≡ Some new)
    kept_there x there (Some row) is = (row_after here_now.schema (indexed here_now) e.e.placed (kept_at here_now e.change.key) row, (with_row m state o s e all_placed p may row is).0)
    kept_there (Some kept) there None is = let r = slot_at_key None is kept there in (r.0, r.1)
    kept_there None there None is =
        let changing : IsWriting state.tables state.locks s e.work e.done (e.change ∷ e.left) (entering e.e) =
        subst (IsChanging state.tables state.locks s e.work) e.phase (o.changing s e.work e.goes_on.at_work e.goes_on.undisturbed e.goes_on.unfailed) in
        let among : Has (changes_by e.work.statement e.work.read) e.change =
        subst (λ (cs : List Change). Has cs e.change) changing.all (Has-append_right e.done (e.change ∷ e.left) e.change (inl refl)) in
        let old = has_old e.work.statement e.work.read e.change among is in
        let none : row_of (present here_now e.change.key) ≡ None = ap (λ (z : Option KeptRow). row_of (option_and_then version_of z)) there in
        let no : None ≡ Some old.0 = sym none ∙ (at_hand m state o s e all_placed p may).stands ∙ old.1 in
        let f : ⊥ = cc in absurd f

    new_restorable : (y : SessionState) → Has {X = ℕ × ℤ} y.written (e.work.table, e.change.key)
        → IsRestorable tables_then y (record { table = e.work.table; key = e.change.key; image = image_of (kept_at here_now e.change.key) })
    new_restorable y among = by_kept (kept_at here_now e.change.key) refl
      where
        fits_image : (kept : KeptRow) (slot : ℕ) → IsStored (table_at (change_table e.work.table (table_after_row p e.change e.e.placed e.change.new) state.tables) e.work.table) e.change.key slot (version_kept kept)
            → FitsSlot (table_at (change_table e.work.table (table_after_row p e.change e.e.placed e.change.new) state.tables) e.work.table) e.change.key slot (image_of_kept kept)
        fits_image kept slot i = by_mark kept.mark
          where
            by_mark : (b : Bool) → FitsSlot (table_at (change_table e.work.table (table_after_row p e.change e.e.placed e.change.new) state.tables) e.work.table) e.change.key slot
                (cond b (was_marked (version_kept kept)) (was_there (version_kept kept)))
            by_mark true = i
            by_mark false = i

        by_kept : (x : Option KeptRow) → kept_at (table_at state.tables e.work.table) e.change.key ≡ x
            → IsRestorable (change_table e.work.table (table_after_row p e.change e.e.placed e.change.new) state.tables) y (record { table = e.work.table; key = e.change.key; image = image_of x })
        by_kept None there =
            let k = kept_there None there e.change.new refl in
            record { kept = k.0; there = ap (λ (x : StoredTable). kept_at x e.change.key) is_here ∙ k.1; fits = tt; written = among }
        by_kept (Some kept) there =
            let r = (row_slots e.work.table e.change.key).slot kept there in
            let stored : IsStored (table_at state.tables e.work.table) e.change.key kept.slot (version_kept kept) =
            (keyed m state o s e all_placed p may).rows e.change.key kept (lookup_has (rows_of (table_at state.tables e.work.table)) e.change.key kept there) in
            record {
              kept = r.0;
              there = r.1;
              fits = fits_image kept r.0.slot (stored_to (table_at state.tables e.work.table) (table_at (change_table e.work.table (table_after_row p e.change e.e.placed e.change.new) state.tables) e.work.table)
                  e.change.key kept.slot r.0.slot (version_kept kept) (schemas e.work.table) (columns e.work.table) r.2 stored);
              written = among;
            }

    row_restores : AreRestorable tables_then (slice_set state.sessions s (session_after_row here_now e.work.table e.change e.e.placed p.undo (session_at state.sessions s)))
    row_restores = all_to tables_then (slice_set state.sessions s (session_after_row here_now e.work.table e.change e.e.placed p.undo (session_at state.sessions s)))
        (λ j u h. row_slots u.table u.key)
        (carries_set tables_then s (session_after_row here_now e.work.table e.change e.e.placed p.undo (session_at state.sessions s)) (λ u h.
        elim (Has-append (session_at state.sessions s).undo (record { table = e.work.table; key = e.change.key; image = image_of (kept_at here_now e.change.key) } ∷ []) u h) [
          | inl old ↦ inl (old, λ w z. Has-append_left (session_at state.sessions s).written ((e.work.table, e.change.key) ∷ []) w z)
          | inr new ↦ elim new [
            | inl same ↦ inr (subst (IsRestorable tables_then (session_after_row here_now e.work.table e.change e.e.placed p.undo (session_at state.sessions s))) same
                (new_restorable (session_after_row here_now e.work.table e.change e.e.placed p.undo (session_at state.sessions s))
                (Has-append_right (session_at state.sessions s).written ((e.work.table, e.change.key) ∷ []) (e.work.table, e.change.key) (inl refl))))
            | inr none ↦ absurd none
          ]
        ]))

  written_restores : (s number : ℕ) (change : Change) (placed : List (ℕ × ℕ)) (p : Put) → IsWritingRow state (session_at state.sessions s) number change placed → MayWriteRow state number change placed p
      → AreRestorable (change_table number (table_after_row p change placed change.new) state.tables) (slice_set state.sessions s (session_after_row (table_at state.tables number) number change placed p.undo (session_at state.sessions s)))
  written_restores s number change placed p at =
      let P : ℕ → Change → List (ℕ × ℕ) → Type 0 = λ n c l. (MayWriteRow state n c l p
      → AreRestorable (change_table n (table_after_row p c l c.new) state.tables) (slice_set state.sessions s (session_after_row (table_at state.tables n) n c l p.undo (session_at state.sessions s)))) in
      let first : P at.entering.work.table at.entering.change at.entering.e.placed = λ may. row_restores s at.entering at.all_placed p may in
      let second : P at.entering.work.table at.entering.change placed = subst (λ l. P at.entering.work.table at.entering.change l) (sym at.placed_is) first in
      let third : P at.entering.work.table change placed = subst (λ c. P at.entering.work.table c placed) (sym at.change_is) second in
      subst (λ n. P n change placed) (sym at.number_is) third

  -- one table more
  created_slots : (new : StoredTable) (s : ℕ) (u : UndoEntry) → Has (session_at state.sessions s).undo u → KeepsSlot state.tables (state.tables ++ new ∷ []) u.table u.key
  created_slots new s u h =
      let r : IsRestorable state.tables (session_at state.sessions s) u = o.restorable s u h in
      let same : table_at (state.tables ++ new ∷ []) u.table ≡ table_at state.tables u.table = earlier_if (λ (x : StoredTable). kept_at x u.key ≡ Some r.kept) (λ z. cc) 1 u.table new state.tables r.there in
      same_slot state.tables (state.tables ++ new ∷ []) u.table u.key (ap (λ (x : StoredTable). x.schema) same) (ap indexed same) (ap (λ (x : StoredTable). kept_at x u.key) same)

pub restorable_kept : (m : Machine) (state : State) (actor : Actor) (choice : Choice) → IsProper m → InOrder m state → MayHappen m state actor choice
    → AreRestorable (after m state actor choice).tables (after m state actor choice).sessions
restorable_kept m state actor choice good o h = event_keeps m state good o (λ (st : State). AreRestorable st.tables st.sessions) each actor choice h
  where
    each : EachKeeps m state (λ (st : State). AreRestorable st.tables st.sessions)
    each = record {
      still = o.restorable;
      purge = λ some. purge_restores m state o state.queue;
      end = λ s over active. all_to m state o state.tables _ (slots_stay m state o) (carries_set m state o state.tables s _ (λ u k. absurd k));
      answer = λ s reply active at. unchanged m state o s _ refl refl;
      undo = λ s entry more active at. undo_restores m state o s entry more at;
      create = λ s over name schema leaf roots active at may. all_to m state o (state.tables ++ new_table name schema leaf roots ∷ []) _ (created_slots m state o (new_table name schema leaf roots))
          (carries_set m state o (state.tables ++ new_table name schema leaf roots ∷ []) s _ (λ u k. absurd k));
      refuse = λ s on ds active at may. all_to m state o state.tables (with_victims state.sessions ds) (slots_stay m state o)
          (λ j u k. inl (
            subst (λ (list : List UndoEntry). Has list u) (victims_leave (λ x. x.undo) (λ x. refl) state.sessions ds j) k,
            λ w z. subst (λ (list : List (ℕ × ℤ)). Has list w) (sym (victims_leave (λ x. x.written) (λ x. refl) state.sessions ds j)) z,
          ));
      lock_table = λ s statement number mode active at none. unchanged m state o s _ refl refl;
      lock_key = λ s number key mode active at none. unchanged m state o s _ refl refl;
      lock_row = λ s number key mode active at none. unchanged m state o s _ refl refl;
      visit = λ s number column predicate active at. unchanged m state o s _ refl refl;
      scan = λ s number leaf active at. unchanged m state o s _ refl refl;
      step = λ s d q active at may. unchanged m state o s _ refl refl;
      stale = λ s d active at. unchanged m state o s _ refl refl;
      full = λ s active at. unchanged m state o s _ refl refl;
      place = λ s d q ds active at may. all_to m state o (change_table d.table (table_after_place d state.entries q ds) state.tables) _ (tree_slots m state o d.table d.column _)
          (carries_set m state o (change_table d.table (table_after_place d state.entries q ds) state.tables) s _ (λ u k. inl (k, λ w z. z)));
      row = λ s number change placed p active at may. written_restores m state o s number change placed p at may;
    }
