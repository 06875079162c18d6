-- What was read of a key stood there as the statement began.
use Rattle.std.proofs.Common.{◌≡◌, ◌⊎◌, ◌∙◌, ◌≤◌, inl, inr, refl, sym, ap, subst, ℕ, ℤ, ◌==◌, ◌&&◌, cond, Bool, true, false, Option, Some, None, List, [], ◌∷◌, ◌++◌, drop, length, map, eqb-true, eq-eqb}
use Rattle.std.specs.Prelude.{find, flat_map, slice_set}
use Rattle.std.specs.List.{cons_option, last_or}
use Rattle.std.specs.Option.{option_and_then, option_map}
use Rattle.std.specs.Ordering.{int_eq}
use Rattle.std.proofs.lemmas.Bool.{false≢true, and_parts}
use Rattle.isp_base.specs.Lists.{Has}
use Rattle.isp_laws.proofs.ListLaws.{Has-append, Has-append_left, Has-append_right, Has-map, Source}
use Rattle.isp_reclock.specs.Tables.{takes}
use Rattle.isp_plain.specs.declared.value.Row.{Row}
use Rattle.isp_forest.specs.Place.{Division}
use Rattle.isp_events.specs.Stored.{KeptRow, Leaf, StoredTable, change_table, first_leaf, kept_at, leaf_after, leaf_behind, present, row_of, row_with_key, rows_of, table_at, unmarked, version_of}
use Rattle.isp_events.specs.Sessions.{Change, Image, SessionState, UndoEntry, Work, session_at}
use Rattle.isp_events.specs.State.{State, front}
use Rattle.isp_events.specs.Ways.{Machine}
use Rattle.isp_events.specs.Next.{Descent}
use Rattle.isp_events.specs.Views.{first_image, is_of_key, row_or, version_in}
use Rattle.isp_events.specs.Asking.{read_with}
use Rattle.isp_events.specs.Reading.{as_read, rows_in}
use Rattle.isp_events.specs.Placing.{table_after_place}
use Rattle.isp_events.specs.Writing.{MayWriteRow, Put, image_of, table_after_row, table_with_row}
use Rattle.isp_events.specs.Ending.{restored}
use Rattle.isp_events.specs.Purging.{tables_purged}
use Rattle.isp_events.specs.Events.{Actor, Choice, MayHappen, after}
use Rattle.isp_order.specs.Trees.{IsRestorable}
use Rattle.isp_order.specs.Work.{AreStanding, changes_done, row_before, undo_since}
use Rattle.isp_order.specs.InOrder.{InOrder, IsProper}
use Rattle.isp_order.proofs.RowLaws.{has_lookup, key_is, key_same, row_changed, row_unchanged}
use Rattle.isp_order.proofs.TableLaws.{kept_of, other_table, there_table}
use Rattle.isp_causes.specs.Causes.{GoesOn, IsActive, IsScanning, IsUndoing, IsWritingRow}
use Rattle.isp_causes.proofs.EventCases.{EachKeeps, event_keeps}
use Rattle.isp_order_locks.proofs.LockedLaws.{row_taken}
use Rattle.isp_order_work.proofs.WorkParts.{carried, no_work, none_some, some_is, undisturbed_step, undisturbed_victims}
use Rattle.isp_order_work.proofs.WrittenLaws.{drop_front, drop_push, front_last, nothing_since}
use Rattle.isp_order_reads.proofs.RowFrames.{Reads, Writes, image_shows, no_other_writes, purged_present, read_locked, restores, table_has, writes_row}

-- ---- the first image of an undo list with one entry more

push_other : (us : List UndoEntry) (e : UndoEntry) (table : ℕ) (key : ℤ) → is_of_key table key e ≡ false → first_image (us ++ e ∷ []) table key ≡ first_image us table key
push_other [] e table key h = ap (λ b. option_map (λ (u : UndoEntry). u.image) (cond b (Some e) None)) h
push_other (u ∷ us) e table key h = by_test (is_of_key table key u) (push_other us e table key h)
  where
    by_test : (b : Bool) → first_image (us ++ e ∷ []) table key ≡ first_image us table key
        → option_map (λ (v : UndoEntry). v.image) (cond b (Some u) (find (is_of_key table key) (us ++ e ∷ []))) ≡ option_map (λ (v : UndoEntry). v.image) (cond b (Some u) (find (is_of_key table key) us))
    by_test true again = refl
    by_test false again = again

push_after : (us : List UndoEntry) (e : UndoEntry) (table : ℕ) (key : ℤ) (image : Image) → first_image us table key ≡ Some image → first_image (us ++ e ∷ []) table key ≡ Some image
push_after [] e table key image h = absurd (none_some image h)
push_after (u ∷ us) e table key image h = by_test (is_of_key table key u) (push_after us e table key image) h
  where
    by_test : (b : Bool) → (first_image us table key ≡ Some image → first_image (us ++ e ∷ []) table key ≡ Some image)
        → option_map (λ (v : UndoEntry). v.image) (cond b (Some u) (find (is_of_key table key) us)) ≡ Some image
        → option_map (λ (v : UndoEntry). v.image) (cond b (Some u) (find (is_of_key table key) (us ++ e ∷ []))) ≡ Some image
    by_test true again k = k
    by_test false again k = again k

push_first : (us : List UndoEntry) (e : UndoEntry) (table : ℕ) (key : ℤ) → first_image us table key ≡ None → is_of_key table key e ≡ true → first_image (us ++ e ∷ []) table key ≡ Some e.image
push_first [] e table key h is = ap (λ b. option_map (λ (u : UndoEntry). u.image) (cond b (Some e) None)) is
push_first (u ∷ us) e table key h is = by_test (is_of_key table key u) (λ i. push_first us e table key i is) h
  where
    by_test : (b : Bool) → (first_image us table key ≡ None → first_image (us ++ e ∷ []) table key ≡ Some e.image)
        → option_map (λ (v : UndoEntry). v.image) (cond b (Some u) (find (is_of_key table key) us)) ≡ None
        → option_map (λ (v : UndoEntry). v.image) (cond b (Some u) (find (is_of_key table key) (us ++ e ∷ []))) ≡ Some e.image
    by_test true again k = absurd (none_some u.image (sym k))
    by_test false again k = again k

of_key_parts : (table : ℕ) (key : ℤ) (e : UndoEntry) → is_of_key table key e ≡ true → (e.table ≡ table) × (e.key ≡ key)
of_key_parts table key e h =
    let parts = and_parts (e.table == table) (int_eq e.key key) h in
    (eqb-true e.table table parts.0, key_is e.key key parts.1)

not_of_key : (table : ℕ) (key : ℤ) (e : UndoEntry) → is_of_key table key e ≡ false → table ≡ e.table → key ≡ e.key → ⊥
not_of_key table key e h t k =
    let one : (e.table == table) ≡ true = eq-eqb e.table table (sym t) in
    let two : int_eq e.key key ≡ true = subst (λ j. int_eq e.key j ≡ true) (sym k) (key_same e.key) in
    false≢true (sym h ∙ ap (λ b. b && int_eq e.key key) one ∙ two)

-- ---- leaves

has_first : (leaves : List Leaf) (leaf : Leaf) → first_leaf leaves ≡ Some leaf → Has leaves leaf
has_first [] leaf h = absurd (none_some leaf h)
has_first (x ∷ leaves) leaf h = inl (some_is x leaf h)

has_behind : (leaves : List Leaf) (page : ℕ) (leaf : Leaf) → leaf_behind leaves page ≡ Some leaf → Has leaves leaf
has_behind [] page leaf h = absurd (none_some leaf h)
has_behind (x ∷ leaves) page leaf h = by_test (x.page == page) (has_behind leaves page leaf) h
  where
    by_test : (b : Bool) → (leaf_behind leaves page ≡ Some leaf → Has leaves leaf) → cond b (first_leaf leaves) (leaf_behind leaves page) ≡ Some leaf → Has (x ∷ leaves) leaf
    by_test true again k = inr (has_first leaves leaf k)
    by_test false again k = inr (again k)

pub has_after : (leaves : List Leaf) (last : Option ℕ) (leaf : Leaf) → leaf_after leaves last ≡ Some leaf → Has leaves leaf
has_after leaves None leaf h = has_first leaves leaf h
has_after leaves (Some page) leaf h = has_behind leaves page leaf h

leaf_row : (leaves : List Leaf) (leaf : Leaf) (e : ℤ × KeptRow) → Has leaves leaf → Has leaf.rows e → Has (flat_map (λ (x : Leaf). x.rows) leaves) e
leaf_row [] leaf e h k = absurd h
leaf_row (x ∷ leaves) leaf e (inl is) k = Has-append_left x.rows (flat_map (λ (y : Leaf). y.rows) leaves) e (subst (λ (y : Leaf). Has y.rows e) (sym is) k)
leaf_row (x ∷ leaves) leaf e (inr h) k = Has-append_right x.rows (flat_map (λ (y : Leaf). y.rows) leaves) e (leaf_row leaves leaf e h k)

-- an unmarked row is a row that is kept
pub record IsUnmarked (rows : List (ℤ × KeptRow)) (key : ℤ) (row : Row) : Type 0 where
  pub kept : KeptRow
  pub has : Has {X = ℤ × KeptRow} rows (key, kept)
  pub shows : row_of (version_of kept) ≡ Some row

pub unmarked_is : (rows : List (ℤ × KeptRow)) (key : ℤ) (row : Row) → Has {X = ℤ × Row} (unmarked rows) (key, row) → IsUnmarked rows key row
unmarked_is [] key row h = absurd h
unmarked_is (e ∷ rows) key row h = by_row (row_of (version_of e.1)) refl (unmarked_is rows key row) h
  where
    more : IsUnmarked rows key row → IsUnmarked (e ∷ rows) key row
    more u = record { kept = u.kept; has = inr u.has; shows = u.shows }

    by_row : (r : Option Row) → row_of (version_of e.1) ≡ r → (Has {X = ℤ × Row} (unmarked rows) (key, row) → IsUnmarked rows key row)
        → Has {X = ℤ × Row} (cons_option (row_with_key e.0 r) (unmarked rows)) (key, row) → IsUnmarked (e ∷ rows) key row
    by_row None is again k = more (again k)
    by_row (Some r) is again (inl k) = record {
      kept = e.1;
      has = inl (pair_is e.0 e.1 key (ap (λ p. p.0) k));
      shows = is ∙ ap (λ p. Some p.1) k;
    }
      where
        pair_is : (a : ℤ) (b : KeptRow) (c : ℤ) → a ≡ c → ◌≡◌ {A = ℤ × KeptRow} (a, b) (c, b)
        pair_is a b c p = ap (λ x. (let y : ℤ × KeptRow = (x, b) in y)) p
    by_row (Some r) is again (inr k) = more (again k)

module _ (m : Machine) (state : State) (good : IsProper m) (o : InOrder m state) where
  abbrev Stood : List StoredTable → ℕ → SessionState → Work → Type 0
  Stood tables k session work = (key : ℤ) (row : Option Row) → Has {X = ℤ × Option Row} work.read (key, row) → row_before tables (undo_since session work) work.table key ≡ row

  -- where what stands at a key is the same
  same_before : (tables : List StoredTable) (us : List UndoEntry) (table : ℕ) (key : ℤ) → present (table_at tables table) key ≡ present (table_at state.tables table) key
      → row_before tables us table key ≡ row_before state.tables us table key
  same_before tables us table key h = ap (λ v. row_or (first_image us table key) (row_of v)) h

  step : (s : ℕ) (tables : List StoredTable) (new : SessionState) → IsActive state s
      → ((k : ℕ) → (k == s) ≡ false → (table : ℕ) (key : ℤ) → Reads state.locks k table key → present (table_at tables table) key ≡ present (table_at state.tables table) key)
      → ((work : Work) → new.work ≡ Some work → new.victim ≡ false → Stood tables s new work) → AreStanding tables (slice_set state.sessions s new)
  step s tables new active frame own =
      undisturbed_step (Stood tables) state.sessions s new active.not_over own
      (λ k ne work at undisturbed key row has.
      same_before tables (undo_since (session_at state.sessions k) work) work.table key (frame k ne work.table key (read_locked m state good o k work key row at has))
      ∙ o.standing k work at undisturbed key row has)

  without_work : (s : ℕ) (tables : List StoredTable) (new : SessionState) → IsActive state s
      → ((k : ℕ) → (k == s) ≡ false → (table : ℕ) (key : ℤ) → Reads state.locks k table key → present (table_at tables table) key ≡ present (table_at state.tables table) key)
      → new.work ≡ None → AreStanding tables (slice_set state.sessions s new)
  without_work s tables new active frame none = step s tables new active frame (λ work at undisturbed. absurd (no_work new work none at))

  -- it reads no more and undoes no more, and what it has read stays
  at_work : (s : ℕ) (tables : List StoredTable) (new : SessionState) (f : Work → Work) (work : Work) → IsActive state s → GoesOn (session_at state.sessions s) work
      → ((table : ℕ) (key : ℤ) → present (table_at tables table) key ≡ present (table_at state.tables table) key)
      → new.work ≡ option_map f (session_at state.sessions s).work → new.undo ≡ (session_at state.sessions s).undo
      → (f work).begun ≡ work.begun → (f work).table ≡ work.table → (f work).read ≡ work.read → AreStanding tables (slice_set state.sessions s new)
  at_work s tables new f work active go same is undo begun table read =
      step s tables new active (λ k ne t key h. same t key)
      (λ now now_at undisturbed. subst (λ (w : Work). Stood tables s new w) (carried f (session_at state.sessions s) new work now is go.at_work now_at) of_work)
    where
      since : undo_since new (f work) ≡ undo_since (session_at state.sessions s) work
      since = ap (λ (us : List UndoEntry). drop (f work).begun us) undo ∙ ap (λ n. drop n (session_at state.sessions s).undo) begun

      of_work : Stood tables s new (f work)
      of_work key row has =
          ap (λ us. row_before tables us (f work).table key) since ∙ ap (λ t. row_before tables (undo_since (session_at state.sessions s) work) t key) table
          ∙ same_before tables (undo_since (session_at state.sessions s) work) work.table key (same work.table key)
          ∙ o.standing s work go.at_work go.undisturbed key row (subst (λ xs. Has {X = ℤ × Option Row} xs (key, row)) read has)

  -- it reads more before it writes
  reads : (s : ℕ) (new : SessionState) (f : Work → Work) (work : Work) (more : List (ℤ × Option Row)) → IsActive state s → GoesOn (session_at state.sessions s) work → changes_done work.phase ≡ []
      → new.work ≡ option_map f (session_at state.sessions s).work → new.undo ≡ (session_at state.sessions s).undo
      → (f work).begun ≡ work.begun → (f work).table ≡ work.table → (f work).read ≡ work.read ++ more
      → ((key : ℤ) (row : Option Row) → Has {X = ℤ × Option Row} more (key, row) → row_of (present (table_at state.tables work.table) key) ≡ row)
      → AreStanding state.tables (slice_set state.sessions s new)
  reads s new f work more active go none is undo begun table read stands =
      step s state.tables new active (λ k ne t key h. refl)
      (λ now now_at undisturbed. subst (λ (w : Work). Stood state.tables s new w) (carried f (session_at state.sessions s) new work now is go.at_work now_at) of_work)
    where
      since : undo_since new (f work) ≡ []
      since = ap (λ (us : List UndoEntry). drop (f work).begun us) undo ∙ ap (λ n. drop n (session_at state.sessions s).undo) begun ∙ nothing_since m state good o s work go none

      of_work : Stood state.tables s new (f work)
      of_work key row has =
          ap (λ us. row_before state.tables us (f work).table key) since ∙ ap (λ t. row_of (present (table_at state.tables t) key)) table
          ∙ by_cases (Has-append work.read more (key, row) (subst (λ xs. Has {X = ℤ × Option Row} xs (key, row)) read has))
        where
          by_cases : Has {X = ℤ × Option Row} work.read (key, row) ⊎ Has {X = ℤ × Option Row} more (key, row) → row_of (present (table_at state.tables work.table) key) ≡ row
          by_cases (inl h) = sym (ap (λ us. row_before state.tables us work.table key) (nothing_since m state good o s work go none)) ∙ o.standing s work go.at_work go.undisturbed key row h
          by_cases (inr h) = stands key row h

  one_more : (s number : ℕ) (key : ℤ) (work : Work) → number ≡ work.table → (k : ℤ) (row : Option Row)
      → Has {X = ℤ × Option Row} ((key, row_of (present (table_at state.tables number) key)) ∷ []) (k, row) → row_of (present (table_at state.tables work.table) k) ≡ row
  one_more s number key work is k row (inl e) =
      ap (λ n. row_of (present (table_at state.tables n) k)) (sym is) ∙ ap (λ j. row_of (present (table_at state.tables number) j)) (sym (ap (λ p. p.0) e)) ∙ ap (λ p. p.1) e
  one_more s number key work is k row (inr h) = absurd h

  pub leaf_read : (s number : ℕ) (leaf : Leaf) (at : IsScanning state (session_at state.sessions s) number leaf) → (k : ℤ) (row : Option Row)
      → Has {X = ℤ × Option Row} (map as_read (rows_in leaf)) (k, row) → row_of (present (table_at state.tables at.work.table) k) ≡ row
  leaf_read s number leaf at k row h =
      let src : Source {X = ℤ × Row} as_read (rows_in leaf) (k, row) = Has-map {X = ℤ × Row} as_read (rows_in leaf) (k, row) h in
      let u : IsUnmarked leaf.rows src.x.0 src.x.1 = unmarked_is leaf.rows src.x.0 src.x.1 src.has in
      let bound = o.bound s at.work at.goes_on.at_work in
      let keyed = o.keyed.each (table_at state.tables at.work.table) (table_has at.work.table state.tables bound.first bound.last) in
      let there = has_lookup (rows_of (table_at state.tables at.work.table)) src.x.0 u.kept keyed.rising
      (leaf_row (table_at state.tables at.work.table).leaves leaf (src.x.0, u.kept) (has_after (table_at state.tables at.work.table).leaves at.last leaf at.leaf_is) u.has) in
      ap (λ j. row_of (present (table_at state.tables at.work.table) j)) (sym (ap (λ p. p.0) src.is))
      ∙ ap (λ v. row_of (option_and_then version_of v)) there ∙ u.shows ∙ ap (λ p. p.1) src.is

  -- ---- a row

  row_writes : (s number : ℕ) (change : Change) (placed : List (ℕ × ℕ)) (p : Put) (at : IsWritingRow state (session_at state.sessions s) number change placed) → MayWriteRow state number change placed p
      → Writes (table_at state.tables number) (table_after_row p change placed change.new (table_at state.tables number)) change
  row_writes s number change placed p at may =
      let bound = o.bound s at.entering.work at.entering.goes_on.at_work in
      let keyed = o.keyed.each (table_at state.tables number)
      (table_has number state.tables (subst (λ n. 1 ≤ n) (sym at.number_is) bound.first) (subst (λ n. n ≤ length state.tables) (sym at.number_is) bound.last)) in
      writes_row p change placed change.new (table_at state.tables number) refl keyed.rising may.fits

  pub row_elsewhere : (s number : ℕ) (change : Change) (placed : List (ℕ × ℕ)) (p : Put) (at : IsWritingRow state (session_at state.sessions s) number change placed) → MayWriteRow state number change placed p
      → (table : ℕ) (key : ℤ) → (table ≡ number → key ≡ change.key → ⊥)
      → present (table_at (change_table number (table_after_row p change placed change.new) state.tables) table) key ≡ present (table_at state.tables table) key
  row_elsewhere s number change placed p at may table key ne = by_table (table == number) refl
    where
      by_table : (b : Bool) → (table == number) ≡ b
          → present (table_at (change_table number (table_after_row p change placed change.new) state.tables) table) key ≡ present (table_at state.tables table) key
      by_table true e =
          let is : table ≡ number = eqb-true table number e in
          kept_of (λ t. present t key) number table (table_after_row p change placed change.new) state.tables
          (ap (option_and_then version_of) ((row_writes s number change placed p at may).others key (ne is)))
      by_table false e = ap (λ t. present t key) (other_table number table (table_after_row p change placed change.new) state.tables e)

  pub row_here : (s number : ℕ) (change : Change) (placed : List (ℕ × ℕ)) (p : Put) (at : IsWritingRow state (session_at state.sessions s) number change placed) → MayWriteRow state number change placed p
      → row_of (present (table_at (change_table number (table_after_row p change placed change.new) state.tables) number) change.key) ≡ change.new
  row_here s number change placed p at may =
      let bound = o.bound s at.entering.work at.entering.goes_on.at_work in
      ap (λ t. row_of (present t change.key))
      (there_table number (table_after_row p change placed change.new) state.tables (subst (λ n. 1 ≤ n) (sym at.number_is) bound.first) (subst (λ n. n ≤ length state.tables) (sym at.number_is) bound.last))
      ∙ (row_writes s number change placed p at may).own

  flip : (k s : ℕ) → (k == s) ≡ false → (s == k) ≡ false
  flip k s ne = by_test (s == k) refl
    where
      by_test : (b : Bool) → (s == k) ≡ b → b ≡ false
      by_test true e = absurd (false≢true (sym ne ∙ eq-eqb k s (sym (eqb-true s k e))))
      by_test false e = refl

  -- where one writes, no other has read
  pub others_apart : (s number : ℕ) (key : ℤ) → takes state.locks number key s ≡ true → (k : ℕ) → (k == s) ≡ false → (table : ℕ) (j : ℤ) → Reads state.locks k table j → table ≡ number → j ≡ key → ⊥
  others_apart s number key taken k ne table j reads t is =
      no_other_writes m state good o s k number key (flip k s ne) taken (subst (λ n. Reads state.locks k n key) t (subst (λ i. Reads state.locks k table i) is reads))

  stands_row : (s number : ℕ) (change : Change) (placed : List (ℕ × ℕ)) (p : Put) (new : SessionState) (f : Work → Work) → IsActive state s
      → (at : IsWritingRow state (session_at state.sessions s) number change placed) → MayWriteRow state number change placed p
      → new.work ≡ option_map f (session_at state.sessions s).work
      → new.undo ≡ (session_at state.sessions s).undo ++ record { table = number; key = change.key; image = image_of (kept_at (table_at state.tables number) change.key) } ∷ []
      → ((w : Work) → (f w).begun ≡ w.begun) → ((w : Work) → (f w).table ≡ w.table) → ((w : Work) → (f w).read ≡ w.read)
      → AreStanding (change_table number (table_after_row p change placed change.new) state.tables) (slice_set state.sessions s new)
  stands_row s number change placed p new f active at may is undo begun table read =
      step s (change_table number (table_after_row p change placed change.new) state.tables) new active
      (λ k ne t key h. row_elsewhere s number change placed p at may t key (others_apart s number change.key (row_taken m state good o s number change placed at) k ne t key h))
      (λ now now_at undisturbed. subst (λ (w : Work). Stood (change_table number (table_after_row p change placed change.new) state.tables) s new w)
      (carried f (session_at state.sessions s) new at.entering.work now is at.entering.goes_on.at_work now_at) of_work)
    where
      since : undo_since new (f at.entering.work) ≡ undo_since (session_at state.sessions s) at.entering.work ++ record { table = number; key = change.key; image = image_of (kept_at (table_at state.tables number) change.key) } ∷ []
      since =
          ap (λ (xs : List UndoEntry). drop (f at.entering.work).begun xs) undo
          ∙ ap (λ n. drop n ((session_at state.sessions s).undo ++ record { table = number; key = change.key; image = image_of (kept_at (table_at state.tables number) change.key) } ∷ [])) (begun at.entering.work)
          ∙ drop_push at.entering.work.begun (session_at state.sessions s).undo (record { table = number; key = change.key; image = image_of (kept_at (table_at state.tables number) change.key) })
          (o.written s at.entering.work at.entering.goes_on.at_work at.entering.goes_on.undisturbed).begun

      of_work : Stood (change_table number (table_after_row p change placed change.new) state.tables) s new (f at.entering.work)
      of_work key row has =
          ap (λ xs. row_before (change_table number (table_after_row p change placed change.new) state.tables) xs (f at.entering.work).table key) since
          ∙ ap (λ t. row_before (change_table number (table_after_row p change placed change.new) state.tables)
          (undo_since (session_at state.sessions s) at.entering.work ++ record { table = number; key = change.key; image = image_of (kept_at (table_at state.tables number) change.key) } ∷ []) t key) (table at.entering.work)
          ∙ by_entry (is_of_key at.entering.work.table key (record { table = number; key = change.key; image = image_of (kept_at (table_at state.tables number) change.key) })) refl
          ∙ o.standing s at.entering.work at.entering.goes_on.at_work at.entering.goes_on.undisturbed key row (subst (λ xs. Has {X = ℤ × Option Row} xs (key, row)) (read at.entering.work) has)
        where
          by_entry : (b : Bool) → is_of_key at.entering.work.table key (record { table = number; key = change.key; image = image_of (kept_at (table_at state.tables number) change.key) }) ≡ b
              → row_before (change_table number (table_after_row p change placed change.new) state.tables)
              (undo_since (session_at state.sessions s) at.entering.work ++ record { table = number; key = change.key; image = image_of (kept_at (table_at state.tables number) change.key) } ∷ []) at.entering.work.table key
              ≡ row_before state.tables (undo_since (session_at state.sessions s) at.entering.work) at.entering.work.table key
          by_entry false e =
              ap (λ i. row_or i (row_of (present (table_at (change_table number (table_after_row p change placed change.new) state.tables) at.entering.work.table) key)))
              (push_other (undo_since (session_at state.sessions s) at.entering.work) (record { table = number; key = change.key; image = image_of (kept_at (table_at state.tables number) change.key) }) at.entering.work.table key e)
              ∙ same_before (change_table number (table_after_row p change placed change.new) state.tables) (undo_since (session_at state.sessions s) at.entering.work) at.entering.work.table key
              (row_elsewhere s number change placed p at may at.entering.work.table key
              (λ t k. not_of_key at.entering.work.table key (record { table = number; key = change.key; image = image_of (kept_at (table_at state.tables number) change.key) }) e t k))
          by_entry true e = by_first (first_image (undo_since (session_at state.sessions s) at.entering.work) at.entering.work.table key) refl
            where
              by_first : (i : Option Image) → first_image (undo_since (session_at state.sessions s) at.entering.work) at.entering.work.table key ≡ i
                  → row_before (change_table number (table_after_row p change placed change.new) state.tables)
                  (undo_since (session_at state.sessions s) at.entering.work ++ record { table = number; key = change.key; image = image_of (kept_at (table_at state.tables number) change.key) } ∷ []) at.entering.work.table key
                  ≡ row_before state.tables (undo_since (session_at state.sessions s) at.entering.work) at.entering.work.table key
              by_first (Some image) f =
                  ap (λ i. row_or i (row_of (present (table_at (change_table number (table_after_row p change placed change.new) state.tables) at.entering.work.table) key)))
                  (push_after (undo_since (session_at state.sessions s) at.entering.work) (record { table = number; key = change.key; image = image_of (kept_at (table_at state.tables number) change.key) }) at.entering.work.table key image f)
                  ∙ sym (ap (λ i. row_or i (row_of (present (table_at state.tables at.entering.work.table) key))) f)
              by_first None f =
                  let parts = of_key_parts at.entering.work.table key (record { table = number; key = change.key; image = image_of (kept_at (table_at state.tables number) change.key) }) e in
                  ap (λ i. row_or i (row_of (present (table_at (change_table number (table_after_row p change placed change.new) state.tables) at.entering.work.table) key)))
                  (push_first (undo_since (session_at state.sessions s) at.entering.work) (record { table = number; key = change.key; image = image_of (kept_at (table_at state.tables number) change.key) }) at.entering.work.table key f e)
                  ∙ image_shows (kept_at (table_at state.tables number) change.key)
                  ∙ ap (λ n. row_of (present (table_at state.tables n) change.key)) parts.0 ∙ ap (λ k. row_of (present (table_at state.tables at.entering.work.table) k)) parts.1
                  ∙ sym (ap (λ i. row_or i (row_of (present (table_at state.tables at.entering.work.table) key))) f)

  -- ---- undo

  pub undo_elsewhere : (entry : UndoEntry) (table : ℕ) (key : ℤ) → (table ≡ entry.table → key ≡ entry.key → ⊥)
      → present (table_at (change_table entry.table (table_with_row entry.key (restored entry.image)) state.tables) table) key ≡ present (table_at state.tables table) key
  undo_elsewhere entry table key ne = by_table (table == entry.table) refl
    where
      by_table : (b : Bool) → (table == entry.table) ≡ b
          → present (table_at (change_table entry.table (table_with_row entry.key (restored entry.image)) state.tables) table) key ≡ present (table_at state.tables table) key
      by_table true e =
          kept_of (λ t. present t key) entry.table table (table_with_row entry.key (restored entry.image)) state.tables
          (ap (option_and_then version_of) (row_unchanged entry.key key (restored entry.image) (table_at state.tables entry.table) (ne (eqb-true table entry.table e))))
      by_table false e = ap (λ t. present t key) (other_table entry.table table (table_with_row entry.key (restored entry.image)) state.tables e)

  undo_here : (s : ℕ) (entry : UndoEntry) (work : Work) → (session_at state.sessions s).work ≡ Some work → Has (session_at state.sessions s).undo entry → entry.table ≡ work.table
      → row_of (present (table_at (change_table entry.table (table_with_row entry.key (restored entry.image)) state.tables) entry.table) entry.key) ≡ row_of (version_in entry.image)
  undo_here s entry work at has table =
      let bound = o.bound s work at in
      let r : IsRestorable state.tables (session_at state.sessions s) entry = o.restorable s entry has in
      ap (λ t. row_of (present t entry.key))
      (there_table entry.table (table_with_row entry.key (restored entry.image)) state.tables (subst (λ n. 1 ≤ n) (sym table) bound.first) (subst (λ n. n ≤ length state.tables) (sym table) bound.last))
      ∙ ap (λ k. row_of (option_and_then version_of k)) (row_changed entry.key (restored entry.image) (table_at state.tables entry.table) ∙ ap (option_map (restored entry.image)) r.there)
      ∙ restores entry.image r.kept

  has_last : {Y : Type 0} (xs : List Y) (y : Y) → last_or None xs ≡ Some y → Has xs y
  has_last [] y h = absurd (none_some y h)
  has_last (x ∷ []) y h = inl (some_is x y h)
  has_last (x ∷ z ∷ xs) y h = inr (has_last (z ∷ xs) y h)

  stands_undo : (s : ℕ) (entry : UndoEntry) (new : SessionState) → IsActive state s → IsUndoing m s (session_at state.sessions s) entry → new.work ≡ (session_at state.sessions s).work
      → new.victim ≡ (session_at state.sessions s).victim → new.undo ≡ front (session_at state.sessions s).undo
      → AreStanding (change_table entry.table (table_with_row entry.key (restored entry.image)) state.tables) (slice_set state.sessions s new)
  stands_undo s entry new active at is victim undo =
      step s (change_table entry.table (table_with_row entry.key (restored entry.image)) state.tables) new active
      (λ k ne t key h. undo_elsewhere entry t key
      (others_apart s entry.table entry.key (o.written_locked.undone s entry (has_last (session_at state.sessions s).undo entry at.newest)) k ne t key h))
      (λ work now_at undisturbed. of_work work (sym is ∙ now_at) (sym victim ∙ undisturbed))
    where
      of_work : (work : Work) → (session_at state.sessions s).work ≡ Some work → (session_at state.sessions s).victim ≡ false
          → Stood (change_table entry.table (table_with_row entry.key (restored entry.image)) state.tables) s new work
      of_work work at_work undisturbed key row has =
          ap (λ xs. row_before (change_table entry.table (table_with_row entry.key (restored entry.image)) state.tables) xs work.table key) since
          ∙ by_entry (is_of_key work.table key entry) refl
          ∙ sym (ap (λ xs. row_before state.tables xs work.table key) parts)
          ∙ o.standing s work at_work undisturbed key row has
        where
          since : undo_since new work ≡ front (undo_since (session_at state.sessions s) work)
          since =
              ap (λ (xs : List UndoEntry). drop work.begun xs) undo
              ∙ drop_front work.begun (session_at state.sessions s).undo entry (at.own work (o.bound s work at_work).text at_work undisturbed (o.bound s work at_work).text_is).1

          parts : undo_since (session_at state.sessions s) work ≡ front (undo_since (session_at state.sessions s) work) ++ entry ∷ []
          parts = front_last (undo_since (session_at state.sessions s) work) entry (at.own work (o.bound s work at_work).text at_work undisturbed (o.bound s work at_work).text_is).1

          of_table : entry.table ≡ work.table
          of_table = (o.written s work at_work undisturbed).of_table entry
              (has_last (undo_since (session_at state.sessions s) work) entry (at.own work (o.bound s work at_work).text at_work undisturbed (o.bound s work at_work).text_is).1)

          by_entry : (b : Bool) → is_of_key work.table key entry ≡ b
              → row_before (change_table entry.table (table_with_row entry.key (restored entry.image)) state.tables) (front (undo_since (session_at state.sessions s) work)) work.table key
              ≡ row_before state.tables (front (undo_since (session_at state.sessions s) work) ++ entry ∷ []) work.table key
          by_entry false e =
              same_before (change_table entry.table (table_with_row entry.key (restored entry.image)) state.tables) (front (undo_since (session_at state.sessions s) work)) work.table key
              (undo_elsewhere entry work.table key (λ t k. not_of_key work.table key entry e t k))
              ∙ sym (ap (λ i. row_or i (row_of (present (table_at state.tables work.table) key))) (push_other (front (undo_since (session_at state.sessions s) work)) entry work.table key e))
          by_entry true e = by_first (first_image (front (undo_since (session_at state.sessions s) work)) work.table key) refl
            where
              by_first : (i : Option Image) → first_image (front (undo_since (session_at state.sessions s) work)) work.table key ≡ i
                  → row_before (change_table entry.table (table_with_row entry.key (restored entry.image)) state.tables) (front (undo_since (session_at state.sessions s) work)) work.table key
                  ≡ row_before state.tables (front (undo_since (session_at state.sessions s) work) ++ entry ∷ []) work.table key
              by_first (Some image) f =
                  ap (λ i. row_or i (row_of (present (table_at (change_table entry.table (table_with_row entry.key (restored entry.image)) state.tables) work.table) key))) f
                  ∙ sym (ap (λ i. row_or i (row_of (present (table_at state.tables work.table) key))) (push_after (front (undo_since (session_at state.sessions s) work)) entry work.table key image f))
              by_first None f =
                  let same = of_key_parts work.table key entry e in
                  ap (λ i. row_or i (row_of (present (table_at (change_table entry.table (table_with_row entry.key (restored entry.image)) state.tables) work.table) key))) f
                  ∙ ap (λ n. row_of (present (table_at (change_table entry.table (table_with_row entry.key (restored entry.image)) state.tables) n) key)) (sym same.0)
                  ∙ ap (λ k. row_of (present (table_at (change_table entry.table (table_with_row entry.key (restored entry.image)) state.tables) entry.table) k)) (sym same.1)
                  ∙ undo_here s entry work at_work (has_last (session_at state.sessions s).undo entry at.newest) of_table
                  ∙ sym (ap (λ i. row_or i (row_of (present (table_at state.tables work.table) key))) (push_first (front (undo_since (session_at state.sessions s) work)) entry work.table key f e))

  -- ---- each event

  begins : (s : ℕ) (new : SessionState) (work : Work) → IsActive state s → new.work ≡ Some work → work.read ≡ [] → AreStanding state.tables (slice_set state.sessions s new)
  begins s new work active is read =
      step s state.tables new active (λ k ne t key h. refl)
      (λ now now_at undisturbed key row has. absurd (subst (λ xs. Has {X = ℤ × Option Row} xs (key, row)) (ap (λ (w : Work). w.read) (sym (some_is work now (sym is ∙ now_at))) ∙ read) has))

  created : (s : ℕ) (tables : List StoredTable) (new : SessionState) → IsActive state s → s ≡ 0 → new.work ≡ None → AreStanding tables (slice_set state.sessions s new)
  created s tables new active is none =
      undisturbed_step (Stood tables) state.sessions s new active.not_over (λ work at undisturbed. absurd (no_work new work none at))
      (λ k ne work at undisturbed. absurd (no_work (session_at state.sessions k) work
      (o.idle.setup_first (subst (λ i. (session_at state.sessions i).over ≡ false) is active.not_over) k (ap (λ i. k == i) (sym is) ∙ ne)).0.no_work at))

  place_same : (d : Descent) (q : ℕ) (ds : List Division) (table : ℕ) (key : ℤ)
      → present (table_at (change_table d.table (table_after_place d state.entries q ds) state.tables) table) key ≡ present (table_at state.tables table) key
  place_same d q ds table key = kept_of (λ t. present t key) d.table table (table_after_place d state.entries q ds) state.tables refl

  pub standing_each : EachKeeps m state (λ (st : State). AreStanding st.tables st.sessions)
  standing_each = record {
    still = o.standing;
    purge = λ some k work at undisturbed key row has.
        same_before (tables_purged state.locks state.queue state.tables) (undo_since (session_at state.sessions k) work) work.table key (purged_present state.locks state.queue state.tables work.table key)
        ∙ o.standing k work at undisturbed key row has;
    end = λ s over active. without_work s state.tables _ active (λ k ne t key h. refl) refl;
    answer = λ s reply active at. without_work s state.tables _ active (λ k ne t key h. refl) refl;
    undo = λ s entry more active at. stands_undo s entry _ active at refl refl refl;
    create = λ s over name schema leaf roots active at may. created s _ _ active at.setup refl;
    refuse = λ s on ds active at may. undisturbed_victims (Stood state.tables) state.sessions ds o.standing;
    lock_table = λ s statement number mode active at none. begins s _ _ active refl refl;
    lock_key = λ s number key mode active at none.
        reads s _ _ at.work ((key, row_of (present (table_at state.tables number) key)) ∷ []) active at.goes_on (ap changes_done at.phase) refl refl refl refl
        (ap (λ p. read_with p at.work.read (row_of (present (table_at state.tables number) key))) at.phase) (one_more s number key at.work at.number_is);
    lock_row = λ s number key mode active at none.
        at_work s state.tables _ _ at.work active at.goes_on (λ t k. refl) refl refl refl refl (ap (λ p. read_with p at.work.read (row_of (present (table_at state.tables number) key))) at.phase);
    visit = λ s number column predicate active at. at_work s state.tables _ _ at.work active at.goes_on (λ t k. refl) refl refl refl refl refl;
    scan = λ s number leaf active at. reads s _ _ at.work (map as_read (rows_in leaf)) active at.goes_on (ap changes_done at.phase) refl refl refl refl refl (leaf_read s number leaf at);
    step = λ s d q active at may. at_work s state.tables _ _ at.descending.entering.work active at.descending.entering.goes_on (λ t k. refl) refl refl refl refl refl;
    stale = λ s d active at. at_work s state.tables _ _ at.descending.entering.work active at.descending.entering.goes_on (λ t k. refl) refl refl refl refl refl;
    full = λ s active at. at_work s state.tables _ _ at.work active at.goes_on (λ t k. refl) refl refl refl refl refl;
    place = λ s d q ds active at may. at_work s _ _ _ at.descending.entering.work active at.descending.entering.goes_on (place_same d q ds) refl refl refl refl refl;
    row = λ s number change placed p active at may. stands_row s number change placed p _ _ active at may refl refl (λ w. refl) (λ w. refl) (λ w. refl);
  }

pub standing_kept : (m : Machine) (state : State) (actor : Actor) (choice : Choice) → IsProper m → InOrder m state → MayHappen m state actor choice
    → AreStanding (after m state actor choice).tables (after m state actor choice).sessions
standing_kept m state actor choice good o h = event_keeps m state good o (λ (st : State). AreStanding st.tables st.sessions) (standing_each m state good o) actor choice h
