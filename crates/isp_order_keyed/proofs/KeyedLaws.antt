-- Tables stay keyed: their names differ, columns are as they were made, leaves have pages of their own, keys rise, and each row is as it may be.
use Rattle.std.proofs.Common.{◌≡◌, ◌∙◌, inl, inr, refl, sym, ap, subst, ℕ, ℤ, cond, Bool, true, false, List, [], ◌∷◌, ◌++◌, Option, Some, None, map}
use Rattle.std.specs.Prelude.{All}
use Rattle.std.proofs.lemmas.Bool.{and_parts}
use Rattle.std.proofs.lemmas.List.{length-map}
use Rattle.std.proofs.lemmas.List.Elements.{All-cons, All-nil}
use Rattle.isp_base.specs.Lists.{Has}
use Rattle.isp_laws.proofs.ListLaws.{Has-append_right}
use Rattle.isp_plain.specs.declared.statement.Statement.TheVariants.{Create}
use Rattle.isp_plain.specs.declared.value.Row.{Row}
use Rattle.isp_plain.specs.declared.value.Schema.{Schema}
use Rattle.isp_plain.specs.RowBytes.{row_bytes}
use Rattle.isp_plain.specs.Tables.{Table}
use Rattle.isp_serial.specs.Serial.{place_at}
use Rattle.isp_forest.specs.Tree.{Tree}
use Rattle.isp_events.specs.Stored.{KeptRow, Leaf, StoredTable, Version, change_table, indexed, kept_at, keys_of_leaves, present, row_of, rows_of, table_at}
use Rattle.isp_events.specs.Sessions.{Change, Image, was_absent, was_there, was_marked, UndoEntry, entering, session_at}
use Rattle.isp_events.specs.State.{State, Queued, dead_entry, dead_row, front}
use Rattle.isp_events.specs.Views.{committed, committed_row, seen, seen_from}
use Rattle.isp_events.specs.Ways.{AreDefinitions, CanServe, IsDefinition, Machine}
use Rattle.isp_events.specs.Placing.{table_after_place, tree_after_place}
use Rattle.isp_events.specs.Writing.{MayWriteRow, Put, are_apart, ascend, fits_leaves, fits_put, is_put, leaves_after_put, marked, needs_slot, number_for, numbers_kept, pages_putting, row_after, table_after_put, table_after_row, table_with_new, table_with_row, takes_undo_alone}
use Rattle.isp_events.specs.Ending.{MayCreate, new_table, restored}
use Rattle.isp_events.specs.Purging.{may_leave, table_without, table_without_entry, tables_purged, without_entry}
use Rattle.isp_events.specs.Events.{Actor, Choice, MayHappen, after}
use Rattle.isp_order.specs.Trees.{AreKeyed, FitsSlot, IsKeyed, IsRestorable, IsStored, version_kept}
use Rattle.isp_order.specs.Work.{IsChanging, IsWriting, changes_by}
use Rattle.isp_order.specs.InOrder.{InOrder, IsProper}
use Rattle.isp_order.proofs.RowLaws.{lookup_has}
use Rattle.isp_order.proofs.TableLaws.{row_keeps}
use Rattle.isp_causes.specs.Causes.{IsCreating, IsEntering, IsUndoing, IsWritingRow}
use Rattle.isp_causes.proofs.EventCases.{EachKeeps, event_keeps}
use Rattle.isp_order_trees.proofs.CoveredLaws.{table_there, top_of}
use Rattle.isp_order_trees.proofs.MissedLaws.{IsKept, present_kept}
use Rattle.isp_order_trees.proofs.TreeParts.{row_leaves_trees}
use Rattle.isp_order_entries.proofs.RowParts.{row_new}
use Rattle.isp_order_entries.proofs.EnteredLaws.{at_hand, bound, keyed}
use Rattle.isp_order_keyed.proofs.LeafParts.{leaf_pages, put_leaves_apart, row_keys, row_pages, taken_new}
use Rattle.isp_order_keyed.proofs.StoredParts.{IsRowOf, new_row, none_some, some_is}
use Rattle.isp_order_keyed.proofs.TableParts.{change_keyed, keyed_by, more_keyed, name_new, new_keyed, row_keyed, slot_fits, trees_keyed, without_keyed}

-- ---- a new row, put or rewritten

schema_with_new : (p : Put) (key : ℤ) (placed : List (ℕ × ℕ)) (new : Row) (table : StoredTable) → (table_with_new p key placed new table).schema ≡ table.schema
schema_with_new p key placed new table =
    let kept : KeptRow = row_after table.schema (indexed table) placed (kept_at table key) new in
    one (needs_slot (row_bytes table.schema new) (kept_at table key)) (table_after_put p key kept table) (table_with_row key (λ other. kept) table) refl refl
  where
    one : (b : Bool) (x y : StoredTable) → x.schema ≡ table.schema → y.schema ≡ table.schema → (cond b x y).schema ≡ table.schema
    one true x y h k = h
    one false x y h k = k

put_rises : (p : Put) (key : ℤ) (leaves after : List Leaf) → fits_leaves p key leaves after ≡ true → ascend (keys_of_leaves after) ≡ true
put_rises p key leaves after h = let parts = and_parts _ _ h in (and_parts _ _ parts.1).1

-- its leaves
abbrev AreOnLeaves : StoredTable → Type 0
AreOnLeaves table = (are_apart (leaf_pages table.leaves) ≡ true) × (ascend (keys_of_leaves table.leaves) ≡ true)

new_on_leaves : (table : StoredTable) (change : Change) (placed : List (ℕ × ℕ)) (p : Put) (new : Row) → AreOnLeaves table → are_apart (pages_putting p) ≡ true
    → ((q : ℕ) → Has (pages_putting p) q → Has (leaf_pages table.leaves) q → ⊥)
    → cond (needs_slot (row_bytes table.schema new) (kept_at table change.key)) (fits_put p (record change { new = Some new }) placed table) (takes_undo_alone p) ≡ true
    → AreOnLeaves (table_with_new p change.key placed new table)
new_on_leaves table change placed p new on taken fresh fits = by_test (needs_slot (row_bytes table.schema new) (kept_at table change.key)) refl fits
  where
    kept : KeptRow
    kept = row_after table.schema (indexed table) placed (kept_at table change.key) new

    by_test : (b : Bool) → needs_slot (row_bytes table.schema new) (kept_at table change.key) ≡ b
        → cond b (fits_leaves p change.key table.leaves (cond (needs_slot (row_bytes table.schema new) (kept_at table change.key)) (table_after_put p change.key kept table) (table_with_row change.key (λ other. kept) table)).leaves) (takes_undo_alone p) ≡ true
        → AreOnLeaves (cond b (table_after_put p change.key kept table) (table_with_row change.key (λ other. kept) table))
    by_test true e f =
        let fits' : fits_leaves p change.key table.leaves (leaves_after_put p change.key kept table.leaves) ≡ true =
        ap (λ b. fits_leaves p change.key table.leaves (cond b (table_after_put p change.key kept table) (table_with_row change.key (λ other. kept) table)).leaves) (sym e) ∙ f in
        (put_leaves_apart p change.key kept table.leaves on.0 taken fresh, put_rises p change.key table.leaves (leaves_after_put p change.key kept table.leaves) fits')
    by_test false e f = (ap are_apart (row_pages change.key (λ other. kept) table.leaves) ∙ on.0, ap ascend (row_keys change.key (λ other. kept) table.leaves) ∙ on.1)

-- ---- a row that is put back

restored_stored : (table : StoredTable) (key : ℤ) (kept : KeptRow) (image : Image) → IsStored table key kept.slot (version_kept kept) → FitsSlot table key kept.slot image
    → IsStored table key (restored image kept).slot (version_kept (restored image kept))
restored_stored table key kept was_absent was fits = record { storable = was.storable; own_key = was.own_key; each_column = was.each_column; fits = was.fits }
restored_stored table key kept (was_there v) was fits = record { storable = fits.storable; own_key = fits.own_key; each_column = fits.each_column; fits = fits.fits }
restored_stored table key kept (was_marked v) was fits = record { storable = fits.storable; own_key = fits.own_key; each_column = fits.each_column; fits = fits.fits }

marked_stored : (table : StoredTable) (key : ℤ) (kept : KeptRow) → IsStored table key kept.slot (version_kept kept) → IsStored table key (marked kept).slot (version_kept (marked kept))
marked_stored table key kept was = record { storable = was.storable; own_key = was.own_key; each_column = was.each_column; fits = was.fits }

module _ (m : Machine) (state : State) (o : InOrder m state) where
  purge_keyed : (queue : List Queued) → AreKeyed (tables_purged state.locks queue state.tables)
  purge_keyed [] = o.keyed
  purge_keyed (dead_entry e ∷ queue) =
      change_keyed e.table (table_without_entry e) state.tables refl (λ k. trees_keyed e.column (without_entry e.number) (table_at state.tables e.table) k) o.keyed
  purge_keyed (dead_row number key ∷ queue) = by_test (may_leave state.locks (table_at state.tables number) number key)
    where
      by_test : (b : Bool) → AreKeyed (cond b (change_table number (table_without key) state.tables) state.tables)
      by_test true = change_keyed number (table_without key) state.tables refl (λ k. without_keyed key (table_at state.tables number) k) o.keyed
      by_test false = o.keyed

  undo_keyed : (s : ℕ) (entry : UndoEntry) → IsUndoing m s (session_at state.sessions s) entry → AreKeyed (change_table entry.table (table_with_row entry.key (restored entry.image)) state.tables)
  undo_keyed s entry at =
      change_keyed entry.table (table_with_row entry.key (restored entry.image)) state.tables refl
      (λ k. row_keyed entry.key (restored entry.image) (table_at state.tables entry.table) k (λ kept there. put_back k kept there)) o.keyed
    where
      among : Has (session_at state.sessions s).undo entry
      among = subst (λ (list : List UndoEntry). Has list entry) (sym (top_of (session_at state.sessions s).undo entry at.newest))
          (Has-append_right (front (session_at state.sessions s).undo) (entry ∷ []) entry (inl refl))

      image_fits : (kept : KeptRow) → kept_at (table_at state.tables entry.table) entry.key ≡ Some kept → FitsSlot (table_at state.tables entry.table) entry.key kept.slot entry.image
      image_fits kept there =
          let r : IsRestorable state.tables (session_at state.sessions s) entry = o.restorable s entry among in
          let same : r.kept ≡ kept = some_is r.kept kept (sym r.there ∙ there) in
          subst (λ (x : KeptRow). FitsSlot (table_at state.tables entry.table) entry.key x.slot entry.image) same r.fits

      put_back : IsKeyed (table_at state.tables entry.table) → (kept : KeptRow) → kept_at (table_at state.tables entry.table) entry.key ≡ Some kept
          → IsStored (table_at state.tables entry.table) entry.key (restored entry.image kept).slot (version_kept (restored entry.image kept))
      put_back k kept there = restored_stored (table_at state.tables entry.table) entry.key kept entry.image
          (k.rows entry.key kept (lookup_has (rows_of (table_at state.tables entry.table)) entry.key kept there)) (image_fits kept there)

  -- ---- a row is written

  module _ (s : ℕ) (e : IsEntering (session_at state.sessions s)) (all_placed : e.e.columns ≡ []) (p : Put) (may : MayWriteRow state e.work.table e.change e.e.placed p) where
    abbrev here : StoredTable
    here = table_at state.tables e.work.table

    here_there : Has state.tables here
    here_there = table_there e.work.table state.tables (bound m state o s e all_placed p may).first (bound m state o s e all_placed p may).last

    was_keyed : IsKeyed here
    was_keyed = keyed m state o s e all_placed p may

    kept_stored : (kept : KeptRow) → kept_at here e.change.key ≡ Some kept → IsStored here e.change.key kept.slot (version_kept kept)
    kept_stored kept there = was_keyed.rows e.change.key kept (lookup_has (rows_of here) e.change.key kept there)

    old_row : (old : Row) → e.change.old ≡ Some old → IsRowOf here.schema e.change.key old
    old_row old is = by_present (present here e.change.key) refl ((at_hand m state o s e all_placed p may).stands ∙ is)
      where
        by_present : (x : Option Version) → present (table_at state.tables e.work.table) e.change.key ≡ x → row_of x ≡ Some old → IsRowOf (table_at state.tables e.work.table).schema e.change.key old
        by_present None there h = absurd (none_some old h)
        by_present (Some v) there h =
            let k : IsKept (table_at state.tables e.work.table) e.change.key v = present_kept (table_at state.tables e.work.table) e.change.key v there in
            let stored : IsStored (table_at state.tables e.work.table) e.change.key k.kept.slot (version_kept k.kept) = kept_stored k.kept k.there in
            let same : k.kept.row ≡ old = ap (λ (y : Version). y.row) k.is ∙ some_is v.row old h in
            subst (IsRowOf (table_at state.tables e.work.table).schema e.change.key) same (stored.storable, stored.own_key)

    new_row_of : (new : Row) → e.change.new ≡ Some new → IsRowOf here.schema e.change.key new
    new_row_of new is =
        let changing : IsWriting state.tables state.locks s e.work e.done (e.change ∷ e.left) (entering e.e) =
        subst (IsChanging state.tables state.locks s e.work) e.phase (o.changing s e.work e.goes_on.at_work e.goes_on.undisturbed e.goes_on.unfailed) in
        let among : Has (changes_by e.work.statement e.work.read) e.change =
        subst (λ (cs : List Change). Has cs e.change) changing.all (Has-append_right e.done (e.change ∷ e.left) e.change (inl refl)) in
        new_row here.schema e.work.statement e.work.read e.change new (bound m state o s e all_placed p may).served among is old_row

    -- the row as it is kept then
    abbrev kept_then : Row → KeptRow
    kept_then new = row_after here.schema (indexed here) e.e.placed (kept_at here e.change.key) new

    then_stored : (new : Row) → e.change.new ≡ Some new → IsStored here e.change.key (kept_then new).slot (version_kept (kept_then new))
    then_stored new is = record {
      storable = (new_row_of new is).0;
      own_key = (new_row_of new is).1;
      each_column = length-map (indexed here) (number_for (indexed here) e.e.placed (numbers_kept (kept_at here e.change.key)));
      fits = slot_fits (row_bytes here.schema new) (kept_at here e.change.key);
    }

    new_fits : (new : Row) → e.change.new ≡ Some new
        → cond (needs_slot (row_bytes here.schema new) (kept_at here e.change.key)) (fits_put p (record e.change { new = Some new }) e.e.placed here) (takes_undo_alone p) ≡ true
    new_fits new is =
        let whole : e.change ≡ record e.change { new = Some new } = ap (λ x. record e.change { new = x }) is in
        let fits : cond (is_put here (record e.change { new = Some new }) (Some new)) (fits_put p (record e.change { new = Some new }) e.e.placed here) (takes_undo_alone p) ≡ true =
        subst (λ (c : Change). cond (is_put here c c.new) (fits_put p c e.e.placed here) (takes_undo_alone p) ≡ true) whole may.fits in
        fits

    then_keyed : (x : Option Row) → e.change.new ≡ x → IsKeyed (table_after_row p e.change e.e.placed x here)
    then_keyed None is = row_keyed e.change.key marked here was_keyed (λ kept there. marked_stored here e.change.key kept (kept_stored kept there))
    then_keyed (Some new) is =
        let on : AreOnLeaves (table_with_new p e.change.key e.e.placed new here) =
        new_on_leaves here e.change e.e.placed p new (was_keyed.apart, was_keyed.rising) may.apart (taken_new state (pages_putting p) here may.free here_there) (new_fits new is) in
        let r = row_new here e.change e.e.placed p was_keyed.rising new (new_fits new is) in
        keyed_by here (table_with_new p e.change.key e.e.placed new here) e.change.key was_keyed
        (schema_with_new p e.change.key e.e.placed new here) (ap (λ (trees : List (ℕ × Tree)). map (λ t. t.0) trees) (row_leaves_trees p e.change.key e.e.placed new here))
        on.0 on.1 r.1
        (λ kept there. subst (λ (x : KeptRow). IsStored here e.change.key x.slot (version_kept x)) (some_is (kept_then new) kept (sym r.0 ∙ there)) (then_stored new is))

    row_keeps_keyed : AreKeyed (change_table e.work.table (table_after_row p e.change e.e.placed e.change.new) state.tables)
    row_keeps_keyed = change_keyed e.work.table (table_after_row p e.change e.e.placed e.change.new) state.tables
        (ap (λ d. d.0) (row_keeps p e.change e.e.placed e.change.new here)) (λ k. then_keyed e.change.new refl) o.keyed

  written_keyed : (s number : ℕ) (change : Change) (placed : List (ℕ × ℕ)) (p : Put) → IsWritingRow state (session_at state.sessions s) number change placed → MayWriteRow state number change placed p
      → AreKeyed (change_table number (table_after_row p change placed change.new) state.tables)
  written_keyed s number change placed p at =
      let P : ℕ → Change → List (ℕ × ℕ) → Type 0 = λ n c l. (MayWriteRow state n c l p → AreKeyed (change_table n (table_after_row p c l c.new) state.tables)) in
      let first : P at.entering.work.table at.entering.change at.entering.e.placed = λ may. row_keeps_keyed s at.entering at.all_placed p may in
      let second : P at.entering.work.table at.entering.change placed = subst (λ l. P at.entering.work.table at.entering.change l) (sym at.placed_is) first in
      let third : P at.entering.work.table change placed = subst (λ c. P at.entering.work.table c placed) (sym at.change_is) second in
      subst (λ n. P n change placed) (sym at.number_is) third

  -- ---- a table is made

  definitions : (row : ℕ → ℤ → Option Row) → AreDefinitions (seen row state.tables)
  definitions row = from 1 state.tables (λ t h. (o.keyed.each t h).defined)
    where
      from : (k : ℕ) (tables : List StoredTable) → ((t : StoredTable) → Has tables t → IsDefinition t.schema) → All (λ (table : Table). IsDefinition table.schema) (seen_from k row tables)
      from k [] each = All-nil (λ (table : Table). IsDefinition table.schema)
      from k (t ∷ tables) each = All-cons (λ (table : Table). IsDefinition table.schema) _ (seen_from _ row tables) (each t (inl refl)) (from _ tables (λ u h. each u (inr h)))

  created_keyed : IsProper m → (s : ℕ) (name : List ℕ) (schema : Schema) (leaf : ℕ) (roots : List ℕ) → IsCreating m state s (session_at state.sessions s) name schema → MayCreate state schema leaf roots
      → AreKeyed (state.tables ++ new_table name schema leaf roots ∷ [])
  created_keyed good s name schema leaf roots at may =
      let can : CanServe (committed state) (place_at s (session_at state.sessions s).inside) (Create name schema) =
      subst (CanServe (committed state) (place_at s (session_at state.sessions s).inside)) at.first.means
      (good.servable.served (committed state) (place_at s (session_at state.sessions s).inside) at.first.text (definitions (committed_row state))) in
      more_keyed state.tables (new_table name schema leaf roots) (name_new (committed_row state) name state.tables can.1)
      (new_keyed name schema leaf roots can.2 may.each_column) o.keyed

pub keyed_kept : (m : Machine) (state : State) (actor : Actor) (choice : Choice) → IsProper m → InOrder m state → MayHappen m state actor choice
    → AreKeyed (after m state actor choice).tables
keyed_kept m state actor choice good o h = event_keeps m state good o (λ (st : State). AreKeyed st.tables) each actor choice h
  where
    each : EachKeeps m state (λ (st : State). AreKeyed st.tables)
    each = record {
      still = o.keyed;
      purge = λ some. purge_keyed m state o state.queue;
      end = λ s over active. o.keyed;
      answer = λ s reply active at. o.keyed;
      undo = λ s entry more active at. undo_keyed m state o s entry at;
      create = λ s over name schema leaf roots active at may. created_keyed m state o good s name schema leaf roots at may;
      refuse = λ s on ds active at may. o.keyed;
      lock_table = λ s statement number mode active at none. o.keyed;
      lock_key = λ s number key mode active at none. o.keyed;
      lock_row = λ s number key mode active at none. o.keyed;
      visit = λ s number column predicate active at. o.keyed;
      scan = λ s number leaf active at. o.keyed;
      step = λ s d q active at may. o.keyed;
      stale = λ s d active at. o.keyed;
      full = λ s active at. o.keyed;
      place = λ s d q ds active at may. change_keyed d.table (table_after_place d state.entries q ds) state.tables refl
          (λ k. trees_keyed d.column (tree_after_place d state.entries q ds) (table_at state.tables d.table) k) o.keyed;
      row = λ s number change placed p active at may. written_keyed m state o s number change placed p at may;
    }
