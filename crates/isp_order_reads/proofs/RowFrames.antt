-- What stands at a key after a row was written, put back or purged; and that nobody writes what another has read.
use Rattle.std.proofs.Common.{◌≡◌, ◌⊎◌, ◌∙◌, ◌<◌, ◌≤◌, inl, inr, refl, sym, ap, subst, ℕ, ℤ, suc, ◌+◌, ◌==◌, not, cond, Bool, true, false, Option, Some, None, List, [], ◌∷◌, arith, length, eq-eqb}
use Rattle.std.specs.Option.{option_and_then, option_map}
use Rattle.std.specs.List.{list_any}
use Rattle.std.specs.Ordering.{int_eq}
use Rattle.std.proofs.lemmas.Bool.{false≢true, and_parts}
use Rattle.isp_base.specs.Lists.{Has}
use Rattle.isp_reclock.specs.declared.entries.Lock.{Lock}
use Rattle.isp_reclock.specs.declared.modes.Mode.{Mode}
use Rattle.isp_reclock.specs.declared.modes.Mode.TheVariants.{IS, IX, S, X}
use Rattle.isp_reclock.specs.Modes.{conflicts}
use Rattle.isp_reclock.specs.Tables.{takes}
use Rattle.isp_plain.specs.declared.statement.Statement.{Statement}
use Rattle.isp_plain.specs.declared.statement.Statement.TheVariants.{Create, Insert, Select, Update, Delete, Begin, Commit, Rollback, Refused}
use Rattle.isp_plain.specs.declared.value.Row.{Row}
use Rattle.isp_plain.specs.RowBytes.{row_bytes}
use Rattle.isp_events.specs.Stored.{KeptRow, Leaf, StoredTable, change_table, indexed, kept_at, keys_of_leaves, present, row_of, table_at, table_from, version_of}
use Rattle.isp_events.specs.Sessions.{Change, Image, Work, session_at, was_absent, was_marked, was_there}
use Rattle.isp_events.specs.State.{Queued, State, dead_entry, dead_row}
use Rattle.isp_events.specs.Views.{version_in}
use Rattle.isp_events.specs.Ways.{Machine, Way, by_box, by_key, by_scan}
use Rattle.isp_events.specs.Next.{key_mode, table_mode}
use Rattle.isp_events.specs.Writing.{Put, ascend, fits_leaves, image_of, is_put, leaves_after_put, marked, moved_leaves, needs_slot, row_after, table_after_put, table_after_row, table_with_new, table_with_row, takes_undo_alone}
use Rattle.isp_events.specs.Ending.{is_marked, restored}
use Rattle.isp_events.specs.Purging.{is_taken, may_leave, table_without, table_without_entry, tables_purged}
use Rattle.isp_order.specs.Locks.{Holds}
use Rattle.isp_order.specs.Work.{AreSoughtBy, IsReadLocked, way_of}
use Rattle.isp_order.specs.InOrder.{InOrder, IsProper}
use Rattle.isp_order.proofs.RowLaws.{key_is, key_same, put_at_key, put_at_others, row_changed, row_gone, row_left, row_unchanged}
use Rattle.isp_order.proofs.TableLaws.{kept_of}
use Rattle.isp_order_locks.proofs.LockLists.{takes_cases}

-- ---- a table of that number is one of the tables

table_has_from : (k n : ℕ) (tables : List StoredTable) → k ≤ n → n < k + length tables → Has tables (table_from k tables n)
table_has_from k n [] low high = let no : ⊥ = omega (arith, low, high) in absurd no
table_has_from k n (t ∷ tables) low high = by_place (k == n) refl (λ up. table_has_from (suc k) n tables up (omega (arith, high)))
  where
    by_place : (b : Bool) → (k == n) ≡ b → (suc k ≤ n → Has tables (table_from (suc k) tables n)) → Has (t ∷ tables) (cond b t (table_from (suc k) tables n))
    by_place true e again = inl refl
    by_place false e again = inr (again (above (λ is. false≢true (sym e ∙ eq-eqb k n is))))
      where
        above : (k ≡ n → ⊥) → suc k ≤ n
        above ne = omega (arith, low, ne)

pub table_has : (n : ℕ) (tables : List StoredTable) → 1 ≤ n → n ≤ length tables → Has tables (table_at tables n)
table_has n tables low high = table_has_from 1 n tables low (omega (arith, high))

-- ---- a row that is written

-- the row stands, or none where it is marked; at other keys nothing changes
pub record Writes (table new : StoredTable) (change : Change) : Type 0 where
  pub own : row_of (present new change.key) ≡ change.new
  pub others : (key : ℤ) → (key ≡ change.key → ⊥) → kept_at new key ≡ kept_at table key

no_marked : (kept : Option KeptRow) → row_of (option_and_then version_of (option_map marked kept)) ≡ None
no_marked None = refl
no_marked (Some kept) = refl

slot_there : (bytes : ℕ) (old : Option KeptRow) (f : KeptRow → KeptRow) (row : KeptRow) → needs_slot bytes old ≡ false → option_map (λ (other : KeptRow). row) old ≡ Some row
slot_there bytes None f row h = absurd (false≢true (sym h))
slot_there bytes (Some kept) f row h = refl

writes_new : (p : Put) (key : ℤ) (placed : List (ℕ × ℕ)) (new : Row) (table : StoredTable) (b : Bool) → needs_slot (row_bytes table.schema new) (kept_at table key) ≡ b
    → ascend (keys_of_leaves table.leaves) ≡ true
    → (b ≡ true → list_any (λ (leaf : Leaf). leaf.page == p.leaf) (moved_leaves p.moved table.leaves) ≡ true)
    → (b ≡ true → ascend (keys_of_leaves (leaves_after_put p key (row_after table.schema (indexed table) placed (kept_at table key) new) table.leaves)) ≡ true)
    → Writes table (cond b (table_after_put p key (row_after table.schema (indexed table) placed (kept_at table key) new) table) (table_with_row key (λ other. row_after table.schema (indexed table) placed (kept_at table key) new) table))
    (record { key = key; old = None; new = Some new })
writes_new p key placed new table true e up there up' = record {
  own = ap (λ k. row_of (option_and_then version_of k)) (put_at_key p key (row_after table.schema (indexed table) placed (kept_at table key) new) table.leaves (there refl) (up' refl));
  others = λ k ne. put_at_others p key (row_after table.schema (indexed table) placed (kept_at table key) new) table.leaves k ne up (up' refl);
}
writes_new p key placed new table false e up there up' = record {
  own = ap (λ k. row_of (option_and_then version_of k))
      (row_changed key (λ other. row_after table.schema (indexed table) placed (kept_at table key) new) table
      ∙ slot_there (row_bytes table.schema new) (kept_at table key) (λ k. k) (row_after table.schema (indexed table) placed (kept_at table key) new) e);
  others = λ k ne. row_unchanged key k (λ other. row_after table.schema (indexed table) placed (kept_at table key) new) table ne;
}

pub writes_row : (p : Put) (change : Change) (placed : List (ℕ × ℕ)) (new : Option Row) (table : StoredTable) → change.new ≡ new → ascend (keys_of_leaves table.leaves) ≡ true
    → cond (is_put table change new) (fits_leaves p change.key table.leaves (table_after_row p change placed new table).leaves) (takes_undo_alone p) ≡ true
    → Writes table (table_after_row p change placed new table) change
writes_row p change placed None table is up fits = record {
  own = ap (λ k. row_of (option_and_then version_of k)) (row_changed change.key marked table) ∙ no_marked (kept_at table change.key) ∙ sym is;
  others = λ k ne. row_unchanged change.key k marked table ne;
}
writes_row p change placed (Some new) table is up fits = again (by_slot (needs_slot (row_bytes table.schema new) (kept_at table change.key)) refl fits)
  where
    by_slot : (b : Bool) → needs_slot (row_bytes table.schema new) (kept_at table change.key) ≡ b
        → cond b (fits_leaves p change.key table.leaves
        (cond b (table_after_put p change.key (row_after table.schema (indexed table) placed (kept_at table change.key) new) table)
        (table_with_row change.key (λ other. row_after table.schema (indexed table) placed (kept_at table change.key) new) table)).leaves) (takes_undo_alone p) ≡ true
        → Writes table (cond b (table_after_put p change.key (row_after table.schema (indexed table) placed (kept_at table change.key) new) table)
        (table_with_row change.key (λ other. row_after table.schema (indexed table) placed (kept_at table change.key) new) table)) (record { key = change.key; old = None; new = Some new })
    by_slot true e f =
        let parts = and_parts _ _ f in
        let two = and_parts (list_any (λ (leaf : Leaf). leaf.page == p.leaf) (moved_leaves p.moved table.leaves))
        (ascend (keys_of_leaves (leaves_after_put p change.key (row_after table.schema (indexed table) placed (kept_at table change.key) new) table.leaves))) parts.1 in
        writes_new p change.key placed new table true e up (λ i. two.0) (λ i. two.1)
    by_slot false e f = writes_new p change.key placed new table false e up (λ i. absurd (false≢true i)) (λ i. absurd (false≢true i))

    again : Writes table (table_with_new p change.key placed new table) (record { key = change.key; old = None; new = Some new }) → Writes table (table_with_new p change.key placed new table) change
    again w = record { own = w.own ∙ sym is; others = w.others }

-- ---- a row that is put back

pub restores : (image : Image) (kept : KeptRow) → row_of (version_of (restored image kept)) ≡ row_of (version_in image)
restores was_absent kept = refl
restores (was_there version) kept = refl
restores (was_marked version) kept = refl

pub image_shows : (kept : Option KeptRow) → row_of (version_in (image_of kept)) ≡ row_of (option_and_then version_of kept)
image_shows None = refl
image_shows (Some kept) = by_mark kept.mark
  where
    by_mark : (b : Bool) → row_of (version_in (cond b (was_marked (record { row = kept.row; numbers = kept.numbers })) (was_there (record { row = kept.row; numbers = kept.numbers }))))
        ≡ row_of (cond b None (Some (record { row = kept.row; numbers = kept.numbers })))
    by_mark true = refl
    by_mark false = refl

-- ---- purges take no row that is seen

marked_none : (kept : Option KeptRow) → is_marked kept ≡ true → option_and_then version_of kept ≡ None
marked_none None h = refl
marked_none (Some kept) h = ap (λ b. cond b None (Some (record { row = kept.row; numbers = kept.numbers }))) h

purge_present : (locks : List Lock) (tables : List StoredTable) (number : ℕ) (key : ℤ) (i : ℕ) (k : ℤ) (b : Bool) → may_leave locks (table_at tables number) number key ≡ b
    → present (table_at (cond b (change_table number (table_without key) tables) tables) i) k ≡ present (table_at tables i) k
purge_present locks tables number key i k false e = refl
purge_present locks tables number key i k true e =
    kept_of (λ t. present t k) number i (table_without key) tables (by_key (int_eq k key) refl)
  where
    by_key : (c : Bool) → int_eq k key ≡ c → present (table_without key (table_at tables number)) k ≡ present (table_at tables number) k
    by_key true is =
        let same : k ≡ key = key_is k key is in
        let before : present (table_at tables number) key ≡ None = marked_none (kept_at (table_at tables number) key) (and_parts (is_marked (kept_at (table_at tables number) key)) (not (is_taken locks number key)) e).0 in
        subst (λ j. present (table_without key (table_at tables number)) j ≡ present (table_at tables number) j) (sym same)
        (ap (option_and_then version_of) (row_gone key (table_at tables number)) ∙ sym before)
    by_key false is = ap (option_and_then version_of) (row_left key k (table_at tables number) (λ same. false≢true (sym is ∙ subst (λ j. int_eq k j ≡ true) same (key_same k))))

pub purged_present : (locks : List Lock) (queue : List Queued) (tables : List StoredTable) (i : ℕ) (k : ℤ) → present (table_at (tables_purged locks queue tables) i) k ≡ present (table_at tables i) k
purged_present locks [] tables i k = refl
purged_present locks (dead_entry entry ∷ queue) tables i k = kept_of (λ t. present t k) entry.table i (table_without_entry entry) tables refl
purged_present locks (dead_row number key ∷ queue) tables i k = purge_present locks tables number key i k (may_leave locks (table_at tables number) number key) refl

-- ---- what one has read another doesn't write

-- it holds S or X there, on the key or on its table
abbrev pub Reads : List Lock → ℕ → ℕ → ℤ → Type 0
Reads locks k table key = (Holds locks k table (Some key) S ⊎ Holds locks k table (Some key) X) ⊎ (Holds locks k table None S ⊎ Holds locks k table None X)

module _ (m : Machine) (state : State) (good : IsProper m) (o : InOrder m state) where
  clash : (s k table : ℕ) (key : Option ℤ) (a b : Mode) → (s == k) ≡ false → Holds state.locks s table key a → Holds state.locks k table key b → conflicts a b ≡ true → ⊥
  clash s k table key a b ne h i c = false≢true (sym (o.no_conflict s k table key a b h i ne) ∙ c)

  pub no_other_writes : (s k table : ℕ) (key : ℤ) → (s == k) ≡ false → takes state.locks table key s ≡ true → Reads state.locks k table key → ⊥
  no_other_writes s k table key ne taken reads = by_cases (takes_cases state.locks table key s taken) reads
    where
      by_cases : Holds state.locks s table (Some key) X ⊎ Holds state.locks s table None X
          → (Holds state.locks k table (Some key) S ⊎ Holds state.locks k table (Some key) X) ⊎ (Holds state.locks k table None S ⊎ Holds state.locks k table None X) → ⊥
      by_cases (inl h) (inl (inl i)) = clash s k table (Some key) X S ne h i refl
      by_cases (inl h) (inl (inr i)) = clash s k table (Some key) X X ne h i refl
      by_cases (inl h) (inr (inl i)) = clash s k table None IX S ne (o.intended.exclusive s table key h) i refl
      by_cases (inl h) (inr (inr i)) = clash s k table None IX X ne (o.intended.exclusive s table key h) i refl
      by_cases (inr h) (inl (inl i)) = clash s k table None X IS ne h (o.intended.shared k table key i) refl
      by_cases (inr h) (inl (inr i)) = clash s k table None X IX ne h (o.intended.exclusive k table key i) refl
      by_cases (inr h) (inr (inl i)) = clash s k table None X S ne h i refl
      by_cases (inr h) (inr (inr i)) = clash s k table None X X ne h i refl

  -- who has X takes it
  pub taker_reads : (k table : ℕ) (key : ℤ) → takes state.locks table key k ≡ true → Reads state.locks k table key
  taker_reads k table key taken = elim (takes_cases state.locks table key k taken) [ inl h ↦ inl (inr h) | inr h ↦ inr (inr h) ]

  -- what a statement at work has read is locked
  pub read_locked : (k : ℕ) (work : Work) (key : ℤ) (row : Option Row) → (session_at state.sessions k).work ≡ Some work → Has {X = ℤ × Option Row} work.read (key, row) → Reads state.locks k work.table key
  read_locked k work key row at has =
      by_way (way_of m.ways state.tables work) work.statement (o.keys_locked k work at).locked (o.table_locked k work at) (o.keys_locked k work at).sought
    where
      by_mode : (st : Statement) → Holds state.locks k work.table (Some key) (key_mode st)
          → (Holds state.locks k work.table (Some key) S ⊎ Holds state.locks k work.table (Some key) X) ⊎ (Holds state.locks k work.table None S ⊎ Holds state.locks k work.table None X)
      by_mode (Select name columns w) h = inl (inl h)
      by_mode (Insert name rows) h = inl (inr h)
      by_mode (Create name schema) h = inl (inr h)
      by_mode (Update name sets w) h = inl (inr h)
      by_mode (Delete name w) h = inl (inr h)
      by_mode Begin h = inl (inr h)
      by_mode Commit h = inl (inr h)
      by_mode Rollback h = inl (inr h)
      by_mode (Refused refusal) h = inl (inr h)

      by_scan_of : (st : Statement) → Holds state.locks k work.table None (table_mode st by_scan) → AreSoughtBy state.searches k (session_at state.sessions k).number work by_scan st
          → (Holds state.locks k work.table (Some key) S ⊎ Holds state.locks k work.table (Some key) X) ⊎ (Holds state.locks k work.table None S ⊎ Holds state.locks k work.table None X)
      by_scan_of (Insert name rows) h none = absurd (subst (λ xs. Has {X = ℤ × Option Row} xs (key, row)) none has)
      by_scan_of (Select name columns w) h sought = inr (inl h)
      by_scan_of (Create name schema) h sought = inr (inr h)
      by_scan_of (Update name sets w) h sought = inr (inr h)
      by_scan_of (Delete name w) h sought = inr (inr h)
      by_scan_of Begin h sought = inr (inr h)
      by_scan_of Commit h sought = inr (inr h)
      by_scan_of Rollback h sought = inr (inr h)
      by_scan_of (Refused refusal) h sought = inr (inr h)

      by_way : (way : Way) (st : Statement) → ((j : ℤ) (r : Option Row) → Has {X = ℤ × Option Row} work.read (j, r) → IsReadLocked state.locks k work way j)
          → Holds state.locks k work.table None (table_mode st way) → AreSoughtBy state.searches k (session_at state.sessions k).number work way st
          → (Holds state.locks k work.table (Some key) S ⊎ Holds state.locks k work.table (Some key) X) ⊎ (Holds state.locks k work.table None S ⊎ Holds state.locks k work.table None X)
      by_way (by_key j) st locked table sought = by_mode work.statement (locked key row has)
      by_way (by_box column predicate) st locked table sought = by_mode work.statement (locked key row has)
      by_way by_scan st locked table sought = by_scan_of st table sought
