-- Rows that are written and put back leave what is committed.
use Rattle.std.proofs.Common.{◌≡◌, ◌∙◌, inl, inr, refl, sym, ap, subst, ℕ, ℤ, ◌==◌, Bool, true, false, cond, Option, Some, None, List, [], ◌∷◌, ◌++◌, eqb-true}
use Rattle.std.specs.Prelude.{slice_set}
use Rattle.std.specs.Option.{option_and_then, option_map}
use Rattle.std.proofs.lemmas.Bool.{false≢true}
use Rattle.isp_base.specs.Lists.{Has}
use Rattle.isp_reclock.specs.declared.modes.Mode.TheVariants.{IX, X}
use Rattle.isp_reclock.specs.Tables.{takes}
use Rattle.isp_plain.specs.declared.value.Row.{Row}
use Rattle.isp_laws.proofs.ListLaws.{Has-append_right}
use Rattle.isp_events.specs.Stored.{KeptRow, StoredTable, Version, change_table, kept_at, present, table_at, version_of}
use Rattle.isp_events.specs.Sessions.{Change, Image, was_absent, was_there, was_marked, SessionState, UndoEntry, session_at}
use Rattle.isp_events.specs.State.{State, front}
use Rattle.isp_events.specs.Views.{first_image, first_image_of_all, is_of_key, version_in, version_or}
use Rattle.isp_events.specs.Ways.{Machine}
use Rattle.isp_events.specs.Writing.{MayWriteRow, Put, image_of, marked, session_after_row, table_after_row, table_with_row}
use Rattle.isp_events.specs.Ending.{restored, session_after_undo}
use Rattle.isp_order.specs.Trees.{IsRestorable, committed_version}
use Rattle.isp_order.specs.InOrder.{InOrder}
use Rattle.isp_order.proofs.RowLaws.{row_changed, row_unchanged}
use Rattle.isp_order.proofs.SessionLaws.{other_at, same_at, seated}
use Rattle.isp_order.proofs.TableLaws.{other_table, same_table, there_table}
use Rattle.isp_order_locks.proofs.LockLists.{takes_cases}
use Rattle.isp_causes.specs.Causes.{IsActive, IsEntering, IsUndoing, IsWritingRow}
use Rattle.isp_order_trees.proofs.CoveredLaws.{top_of}
use Rattle.isp_order_entries.proofs.EnteredLaws.{at_hand, bound, with_row}
use Rattle.isp_order_one.proofs.ImageLaws.{all_alone, all_set, none_of_key, not_own_key, is_own_key, of_key_parts, push_after, push_first, push_other}

pub committed_same : (tables after : List StoredTable) (sessions then : List SessionState) (t : ℕ) (k : ℤ) → first_image_of_all then t k ≡ first_image_of_all sessions t k
    → present (table_at after t) k ≡ present (table_at tables t) k → committed_version after then t k ≡ committed_version tables sessions t k
committed_same tables after sessions then t k images rows =
    ap (λ o. version_or o (present (table_at after t) k)) images ∙ ap (version_or (first_image_of_all sessions t k)) rows

pub not_same_is : (j s : ℕ) → (j ≡ s → ⊥) → (j == s) ≡ false
not_same_is j s ne = by_test (j == s) refl
  where
    by_test : (b : Bool) → (j == s) ≡ b → b ≡ false
    by_test true e = absurd (ne (eqb-true j s e))
    by_test false e = refl

image_version : (x : Option KeptRow) → version_in (image_of x) ≡ option_and_then version_of x
image_version None = refl
image_version (Some kept) = by_mark kept.mark
  where
    by_mark : (b : Bool) → version_in (cond b (was_marked (record { row = kept.row; numbers = kept.numbers })) (was_there (record { row = kept.row; numbers = kept.numbers })))
        ≡ cond b None (Some (record { row = kept.row; numbers = kept.numbers }))
    by_mark true = refl
    by_mark false = refl

restored_version : (image : Image) (kept : KeptRow) → version_of (restored image kept) ≡ version_in image
restored_version was_absent kept = refl
restored_version (was_there version) kept = refl
restored_version (was_marked version) kept = refl

-- a list with an entry more, whose image is the row then or there
pushed_version : (us : List UndoEntry) (e : UndoEntry) (t : ℕ) (k : ℤ) (row : Option Version) (other : Option Version) → is_of_key t k e ≡ true → version_in e.image ≡ row
    → version_or (first_image (us ++ e ∷ []) t k) other ≡ version_or (first_image us t k) row
pushed_version us e t k row other own is = by_first (first_image us t k) refl
  where
    by_first : (o : Option Image) → first_image us t k ≡ o → version_or (first_image (us ++ e ∷ []) t k) other ≡ version_or o row
    by_first None h = ap (λ o. version_or o other) (push_first us e t k h own) ∙ is
    by_first (Some image) h = ap (λ o. version_or o other) (push_after us e t k image h)

module _ (m : Machine) (state : State) (o : InOrder m state) where
  -- nobody else has locked what a session took
  pub taken_once : (table : ℕ) (key : ℤ) (j s : ℕ) → takes state.locks table key j ≡ true → takes state.locks table key s ≡ true → (j == s) ≡ false → ⊥
  taken_once table key j s h k apart = elim (takes_cases state.locks table key j h) [
    | inl a ↦ elim (takes_cases state.locks table key s k) [
      | inl b ↦ false≢true (sym (o.no_conflict j s table (Some key) X X a b apart))
      | inr b ↦ false≢true (sym (o.no_conflict j s table None IX X (o.intended.exclusive j table key a) b apart))
    ]
    | inr a ↦ elim (takes_cases state.locks table key s k) [
      | inl b ↦ false≢true (sym (o.no_conflict j s table None X IX a (o.intended.exclusive s table key b) apart))
      | inr b ↦ false≢true (sym (o.no_conflict j s table None X X a b apart))
    ]
  ]

  -- so nobody else's undo list names it
  pub others_none : (s t : ℕ) (k : ℤ) → takes state.locks t k s ≡ true → (j : ℕ) → (j ≡ s → ⊥) → first_image (session_at state.sessions j).undo t k ≡ None
  others_none s t k taken j ne = none_of_key (session_at state.sessions j).undo t k (λ u h. by_test u h (is_of_key t k u) refl)
    where
      by_test : (u : UndoEntry) → Has (session_at state.sessions j).undo u → (b : Bool) → is_of_key t k u ≡ b → b ≡ false
      by_test u h true e =
          let parts = of_key_parts t k u e in
          let mine : takes state.locks t k j ≡ true =
          subst (λ n. takes state.locks n k j ≡ true) parts.0 (subst (λ i. takes state.locks u.table i j ≡ true) parts.1 (o.written_locked.undone j u h)) in
          absurd (taken_once t k j s mine taken (not_same_is j s ne))
      by_test u h false e = refl

  -- the images of a key that a session took, before and then
  pub images_now : (s t : ℕ) (k : ℤ) → takes state.locks t k s ≡ true → first_image_of_all state.sessions t k ≡ first_image (session_at state.sessions s).undo t k
  images_now s t k taken = all_alone state.sessions s t k (others_none s t k taken)

  pub images_then : (s t : ℕ) (k : ℤ) (new : SessionState) → IsActive state s → takes state.locks t k s ≡ true → first_image_of_all (slice_set state.sessions s new) t k ≡ first_image new.undo t k
  images_then s t k new active taken =
      all_alone (slice_set state.sessions s new) s t k
      (λ j ne. ap (λ (x : SessionState). first_image x.undo t k) (other_at state.sessions s j new (not_same_is j s ne)) ∙ others_none s t k taken j ne)
      ∙ ap (λ (x : SessionState). first_image x.undo t k) (same_at state.sessions s new (seated state.sessions s active.not_over))

  -- ---- a row is put back

  pub undo_elsewhere : (entry : UndoEntry) (t : ℕ) (k : ℤ) → (t ≡ entry.table → k ≡ entry.key → ⊥)
      → present (table_at (change_table entry.table (table_with_row entry.key (restored entry.image)) state.tables) t) k ≡ present (table_at state.tables t) k
  undo_elsewhere entry t k ne = by_table (t == entry.table) refl
    where
      by_table : (b : Bool) → (t == entry.table) ≡ b → present (table_at (change_table entry.table (table_with_row entry.key (restored entry.image)) state.tables) t) k ≡ present (table_at state.tables t) k
      by_table true e =
          let at : t ≡ entry.table = eqb-true t entry.table e in
          let here : present (table_at (change_table entry.table (table_with_row entry.key (restored entry.image)) state.tables) entry.table) k ≡ present (table_at state.tables entry.table) k =
          elim (same_table entry.table (table_with_row entry.key (restored entry.image)) state.tables) [
            | inl is ↦ ap (λ (x : StoredTable). present x k) is ∙ ap (option_and_then version_of) (row_unchanged entry.key k (restored entry.image) (table_at state.tables entry.table) (λ same. ne at same))
            | inr none ↦ ap (λ (x : StoredTable). present x k) (none.0 ∙ sym none.1)
          ] in
          ap (λ n. present (table_at (change_table entry.table (table_with_row entry.key (restored entry.image)) state.tables) n) k) at ∙ here ∙ ap (λ n. present (table_at state.tables n) k) (sym at)
      by_table false e = ap (λ (x : StoredTable). present x k) (other_table entry.table t (table_with_row entry.key (restored entry.image)) state.tables e)

  pub undo_here : (entry : UndoEntry) (kept : KeptRow) → kept_at (table_at state.tables entry.table) entry.key ≡ Some kept
      → present (table_at (change_table entry.table (table_with_row entry.key (restored entry.image)) state.tables) entry.table) entry.key ≡ version_in entry.image
  undo_here entry kept there = elim (same_table entry.table (table_with_row entry.key (restored entry.image)) state.tables) [
    | inl is ↦ (ap (λ (x : StoredTable). present x entry.key) is ∙ ap (option_and_then version_of) (row_changed entry.key (restored entry.image) (table_at state.tables entry.table))
        ∙ ap (λ x. option_and_then version_of (option_map (restored entry.image) x)) there ∙ restored_version entry.image kept)
    | inr none ↦ (let no : None ≡ Some kept = ap (λ (x : StoredTable). kept_at x entry.key) (sym none.1) ∙ there in let f : ⊥ = cc in absurd f)
  ]

  pub undo_committed : (s : ℕ) (entry : UndoEntry) (more : ℕ) → IsActive state s → IsUndoing m s (session_at state.sessions s) entry → (t : ℕ) (k : ℤ)
      → committed_version (change_table entry.table (table_with_row entry.key (restored entry.image)) state.tables) (slice_set state.sessions s (session_after_undo more (session_at state.sessions s))) t k
      ≡ committed_version state.tables state.sessions t k
  undo_committed s entry more active at t k = by_key (is_of_key t k entry) refl
    where
      then : List StoredTable
      then = change_table entry.table (table_with_row entry.key (restored entry.image)) state.tables

      new : SessionState
      new = session_after_undo more (session_at state.sessions s)

      top : (session_at state.sessions s).undo ≡ front (session_at state.sessions s).undo ++ entry ∷ []
      top = top_of (session_at state.sessions s).undo entry at.newest

      among : Has (session_at state.sessions s).undo entry
      among = subst (λ (list : List UndoEntry). Has list entry) (sym top) (Has-append_right (front (session_at state.sessions s).undo) (entry ∷ []) entry (inl refl))

      taken : takes state.locks entry.table entry.key s ≡ true
      taken = o.written_locked.undone s entry among

      slot : IsRestorable state.tables (session_at state.sessions s) entry
      slot = o.restorable s entry among

      own : committed_version then (slice_set state.sessions s new) entry.table entry.key ≡ committed_version state.tables state.sessions entry.table entry.key
      own =
          ap (λ x. version_or x (present (table_at then entry.table) entry.key)) (images_then s entry.table entry.key new active taken)
          ∙ ap (version_or (first_image (front (session_at state.sessions s).undo) entry.table entry.key)) (undo_here entry slot.kept slot.there)
          ∙ sym (pushed_version (front (session_at state.sessions s).undo) entry entry.table entry.key (version_in entry.image) (present (table_at state.tables entry.table) entry.key)
          (is_own_key entry.table entry.key entry refl refl) refl)
          ∙ ap (λ (us : List UndoEntry). version_or (first_image us entry.table entry.key) (present (table_at state.tables entry.table) entry.key)) (sym top)
          ∙ ap (λ x. version_or x (present (table_at state.tables entry.table) entry.key)) (sym (images_now s entry.table entry.key taken))

      by_key : (b : Bool) → is_of_key t k entry ≡ b → committed_version then (slice_set state.sessions s new) t k ≡ committed_version state.tables state.sessions t k
      by_key true e =
          let parts = of_key_parts t k entry e in
          subst (λ n. committed_version then (slice_set state.sessions s new) n k ≡ committed_version state.tables state.sessions n k) parts.0
          (subst (λ i. committed_version then (slice_set state.sessions s new) entry.table i ≡ committed_version state.tables state.sessions entry.table i) parts.1 own)
      by_key false e = committed_same state.tables then state.sessions (slice_set state.sessions s new) t k
          (all_set state.sessions s new t k (sym (push_other (front (session_at state.sessions s).undo) entry t k e) ∙ ap (λ (us : List UndoEntry). first_image us t k) (sym top)))
          (undo_elsewhere entry t k (not_own_key t k entry e))

  -- ---- a row is written

  module _ (s : ℕ) (e : IsEntering (session_at state.sessions s)) (all_placed : e.e.columns ≡ []) (p : Put) (may : MayWriteRow state e.work.table e.change e.e.placed p) (active : IsActive state s) where
    abbrev here : StoredTable
    here = table_at state.tables e.work.table

    abbrev then : List StoredTable
    then = change_table e.work.table (table_after_row p e.change e.e.placed e.change.new) state.tables

    abbrev new : SessionState
    new = session_after_row here e.work.table e.change e.e.placed p.undo (session_at state.sessions s)

    abbrev joined : UndoEntry
    joined = record { table = e.work.table; key = e.change.key; image = image_of (kept_at here e.change.key) }

    pub is_here : table_at then e.work.table ≡ table_after_row p e.change e.e.placed e.change.new here
    is_here = there_table e.work.table (table_after_row p e.change e.e.placed e.change.new) state.tables (bound m state o s e all_placed p may).first (bound m state o s e all_placed p may).last

    kept_elsewhere : (x : Option Row) → e.change.new ≡ x → (k : ℤ) → (k ≡ e.change.key → ⊥) → kept_at (table_after_row p e.change e.e.placed e.change.new here) k ≡ kept_at here k
    kept_elsewhere None is k other = ap (λ y. kept_at (table_after_row p e.change e.e.placed y here) k) is ∙ row_unchanged e.change.key k marked here other
    kept_elsewhere (Some row) is k other = (with_row m state o s e all_placed p may row is).1 k other

    pub row_elsewhere : (t : ℕ) (k : ℤ) → (t ≡ e.work.table → k ≡ e.change.key → ⊥) → present (table_at then t) k ≡ present (table_at state.tables t) k
    row_elsewhere t k ne = by_table (t == e.work.table) refl
      where
        by_table : (b : Bool) → (t == e.work.table) ≡ b
            → present (table_at (change_table e.work.table (table_after_row p e.change e.e.placed e.change.new) state.tables) t) k ≡ present (table_at state.tables t) k
        by_table true i =
            let at : t ≡ e.work.table = eqb-true t e.work.table i in
            ap (λ n. present (table_at (change_table e.work.table (table_after_row p e.change e.e.placed e.change.new) state.tables) n) k) at
            ∙ ap (λ (x : StoredTable). present x k) is_here
            ∙ ap (option_and_then version_of) (kept_elsewhere e.change.new refl k (λ same. ne at same))
            ∙ ap (λ n. present (table_at state.tables n) k) (sym at)
        by_table false i = ap (λ (x : StoredTable). present x k) (other_table e.work.table t (table_after_row p e.change e.e.placed e.change.new) state.tables i)

    row_own : committed_version then (slice_set state.sessions s new) e.work.table e.change.key ≡ committed_version state.tables state.sessions e.work.table e.change.key
    row_own =
        let taken : takes state.locks e.work.table e.change.key s ≡ true = (at_hand m state o s e all_placed p may).locked in
        ap (λ x. version_or x (present (table_at then e.work.table) e.change.key)) (images_then s e.work.table e.change.key new active taken)
        ∙ pushed_version (session_at state.sessions s).undo joined e.work.table e.change.key (present here e.change.key) (present (table_at then e.work.table) e.change.key)
        (is_own_key e.work.table e.change.key joined refl refl) (image_version (kept_at here e.change.key))
        ∙ ap (λ x. version_or x (present here e.change.key)) (sym (images_now s e.work.table e.change.key taken))

    pub row_committed : (t : ℕ) (k : ℤ) → committed_version then (slice_set state.sessions s new) t k ≡ committed_version state.tables state.sessions t k
    row_committed t k = by_key (is_of_key t k joined) refl
      where
        by_key : (b : Bool) → is_of_key t k (record { table = e.work.table; key = e.change.key; image = image_of (kept_at (table_at state.tables e.work.table) e.change.key) }) ≡ b
            → committed_version (change_table e.work.table (table_after_row p e.change e.e.placed e.change.new) state.tables)
            (slice_set state.sessions s (session_after_row (table_at state.tables e.work.table) e.work.table e.change e.e.placed p.undo (session_at state.sessions s))) t k
            ≡ committed_version state.tables state.sessions t k
        by_key true i =
            let parts = of_key_parts t k joined i in
            subst (λ n. committed_version then (slice_set state.sessions s new) n k ≡ committed_version state.tables state.sessions n k) parts.0
            (subst (λ j. committed_version then (slice_set state.sessions s new) e.work.table j ≡ committed_version state.tables state.sessions e.work.table j) parts.1 row_own)
        by_key false i = committed_same state.tables then state.sessions (slice_set state.sessions s new) t k
            (all_set state.sessions s new t k (push_other (session_at state.sessions s).undo joined t k i))
            (row_elsewhere t k (not_own_key t k joined i))

  pub written_committed : (s number : ℕ) (change : Change) (placed : List (ℕ × ℕ)) (p : Put) → IsActive state s → IsWritingRow state (session_at state.sessions s) number change placed
      → MayWriteRow state number change placed p → (t : ℕ) (k : ℤ)
      → committed_version (change_table number (table_after_row p change placed change.new) state.tables)
      (slice_set state.sessions s (session_after_row (table_at state.tables number) number change placed p.undo (session_at state.sessions s))) t k
      ≡ committed_version state.tables state.sessions t k
  written_committed s number change placed p active at =
      let P : ℕ → Change → List (ℕ × ℕ) → Type 0 = λ n c l. (MayWriteRow state n c l p → (t : ℕ) (k : ℤ)
      → committed_version (change_table n (table_after_row p c l c.new) state.tables) (slice_set state.sessions s (session_after_row (table_at state.tables n) n c l p.undo (session_at state.sessions s))) t k
      ≡ committed_version state.tables state.sessions t k) in
      let first : P at.entering.work.table at.entering.change at.entering.e.placed = λ may. row_committed s at.entering at.all_placed p may active in
      let second : P at.entering.work.table at.entering.change placed = subst (λ l. P at.entering.work.table at.entering.change l) (sym at.placed_is) first in
      let third : P at.entering.work.table change placed = subst (λ c. P at.entering.work.table c placed) (sym at.change_is) second in
      subst (λ n. P n change placed) (sym at.number_is) third
