-- Each unmarked row, and each unmarked image of an undo list, has its entries on leaves.
use Rattle.std.proofs.Common.{◌≡◌, ◌⊎◌, ◌∙◌, inl, inr, refl, sym, ap, subst, ℕ, ℤ, ◌==◌, not, Bool, true, false, cond, Option, Some, None, List, [], ◌∷◌, ◌++◌, map, eqb-true}
use Rattle.std.specs.Prelude.{filter, slice_set}
use Rattle.std.specs.Option.{option_and_then, option_map, option_or, unwrap_or}
use Rattle.std.specs.Ordering.{int_eq}
use Rattle.std.proofs.lemmas.Bool.{false≢true}
use Rattle.std.proofs.lemmas.Bool.Decides.{Decides-int_eq}
use Rattle.std.proofs.lemmas.List.{append-nil}
use Rattle.isp_base.specs.Lists.{Has}
use Rattle.isp_mbr.specs.Corners.{Corners}
use Rattle.isp_mbr.specs.Boxes.{same}
use Rattle.isp_mbr.proofs.BoxLaws.{same_then}
use Rattle.isp_plain.specs.declared.value.Row.{Row}
use Rattle.isp_plain.specs.declared.value.Schema.{Schema}
use Rattle.isp_forest.specs.Place.{Division}
use Rattle.isp_laws.proofs.ListLaws.{Has-append, Has-append_left, Has-append_right}
use Rattle.isp_leaf_laws.proofs.LeafLaws.{place_on_leaves, remove_on_leaves}
use Rattle.isp_events.specs.Stored.{KeptRow, StoredTable, Version, box_in, change_table, change_tree, indexed, kept_at, number_at, present, row_of, table_at, tree_of, version_of}
use Rattle.isp_events.specs.Sessions.{Change, Image, was_absent, was_there, was_marked, SessionState, UndoEntry, columns_for, moves, session_at}
use Rattle.isp_events.specs.State.{State, Queued, dead_entry, dead_row, front}
use Rattle.isp_events.specs.Ways.{Machine}
use Rattle.isp_events.specs.Next.{Descent, box_of_new}
use Rattle.isp_events.specs.Placing.{MayPlaceEntry, table_after_place, tree_after_place, tree_for}
use Rattle.isp_events.specs.Writing.{MayWriteRow, Put, fits_put, is_put, takes_undo_alone, image_of, image_of_kept, marked, number_for, numbers_after, numbers_kept, placed_for, row_after, session_after_row, table_after_row, table_with_row}
use Rattle.isp_events.specs.Ending.{new_table, restored, session_after_undo}
use Rattle.isp_events.specs.Purging.{may_leave, table_without, table_without_entry, tables_purged, without_entry}
use Rattle.isp_events.specs.Deadlocks.{with_victims}
use Rattle.isp_events.specs.Events.{Actor, Choice, MayHappen, after}
use Rattle.isp_order.specs.Trees.{AreEntered, HasEntries, HasNumber, IsDead, IsKeyed, IsRestorable, LiesIn, NamesOwn, StandsAt, WouldRestore, entry_of, leaf_entry, queued_numbers, version_kept}
use Rattle.isp_order.specs.Work.{HasCollected, IsAtHand, IsBound, IsChanging, IsCollecting}
use Rattle.isp_order.specs.InOrder.{InOrder, IsProper}
use Rattle.isp_order.proofs.RowLaws.{key_is, row_changed, row_gone, row_left, row_unchanged}
use Rattle.isp_order.proofs.TableLaws.{other_table, same_table, there_table}
use Rattle.isp_causes.specs.Causes.{IsEntering, IsPlacing, IsUndoing, IsWritingRow}
use Rattle.isp_causes.proofs.EventCases.{EachKeeps, event_keeps}
use Rattle.isp_order_trees.proofs.TreeParts.{SameTrees, change_leaves_trees, indexed_stay, new_from, same_indexed}
use Rattle.isp_order_trees.proofs.NoteParts.{set_relates, victims_leave}
use Rattle.isp_order_trees.proofs.WholeLaws.{after_row_leaves_trees, placing_box, placing_stands, purged_row_leaves_trees}
use Rattle.isp_order_trees.proofs.CoveredLaws.{placing_whole, table_there, top_of}
use Rattle.isp_order_trees.proofs.MissedLaws.{IsKept, has_number, present_kept, stands_stored}
use Rattle.isp_order_entries.proofs.RowParts.{change_leaves_rows, earlier_if, entries_to, lies_earlier, lies_same, lies_with, not_placed, number_mapped, placed_has, row_new, same_stands}

-- ---- what is put back

-- of each session, what it would put back then it would before, or it has its entries
abbrev Restores : List StoredTable → SessionState → SessionState → Type 0
Restores tables x y = (u : UndoEntry) (v : Version) → Has y.undo u → u.image ≡ was_there v → Has x.undo u ⊎ HasEntries tables u.table u.key v

image_is : (kept : KeptRow) (v : Version) → image_of_kept kept ≡ was_there v → (kept.mark ≡ false) × (version_kept kept ≡ v)
image_is kept v h = by_mark kept.mark refl h
  where
    by_mark : (b : Bool) → kept.mark ≡ b → cond b (was_marked (version_kept kept)) (was_there (version_kept kept)) ≡ was_there v → (kept.mark ≡ false) × (version_kept kept ≡ v)
    by_mark true e k = let no : ⊥ = cc in absurd no
    by_mark false e k = (e, cc)

pub stands_of_kept : (table : StoredTable) (key : ℤ) (kept : KeptRow) (v : Version) → kept_at table key ≡ Some kept → kept.mark ≡ false → version_kept kept ≡ v → present table key ≡ Some v
stands_of_kept table key kept v there unmarked is =
    ap (option_and_then version_of) there ∙ ap (λ b. cond b None (Some (version_kept kept))) unmarked ∙ ap Some is

unmarks_none : (x : Option KeptRow) (v : Version) → option_and_then version_of (option_map marked x) ≡ Some v → ⊥
unmarks_none None v h = cc
unmarks_none (Some kept) v h = cc

module _ (m : Machine) (state : State) (o : InOrder m state) where
  -- what is put back has its entries, where it did before, or by itself
  images_to : (after : List StoredTable) (then : List SessionState)
      → ((t : ℕ) (k : ℤ) (v : Version) → HasEntries state.tables t k v → HasEntries after t k v)
      → ((j : ℕ) → Restores state.tables (session_at state.sessions j) (session_at then j))
      → (s : ℕ) (u : UndoEntry) (v : Version) → WouldRestore then s u v → HasEntries after u.table u.key v
  images_to after then to restores s u v w = elim (restores s u v w.0 w.1) [
    | inl was ↦ to u.table u.key v (o.entered.images s u v (was, w.1))
    | inr has ↦ to u.table u.key v has
  ]

  undone_same : (then : List SessionState) → ((j : ℕ) → (session_at then j).undo ≡ (session_at state.sessions j).undo)
      → (j : ℕ) → Restores state.tables (session_at state.sessions j) (session_at then j)
  undone_same then same j u v h is = inl (subst (λ (list : List UndoEntry). Has list u) (same j) h)

  undone_set : (s : ℕ) (new : SessionState) → Restores state.tables (session_at state.sessions s) new → (j : ℕ)
      → Restores state.tables (session_at state.sessions j) (session_at (slice_set state.sessions s new) j)
  undone_set s new h j = set_relates (Restores state.tables) (λ x u v k is. inl k) state.sessions s new h j

  -- tables and undo lists stay
  entered_set : (s : ℕ) (new : SessionState) → Restores state.tables (session_at state.sessions s) new → AreEntered state.tables (slice_set state.sessions s new)
  entered_set s new h = record {
    rows = o.entered.rows;
    images = images_to state.tables (slice_set state.sessions s new) (λ t k v has. has) (undone_set s new h);
  }

  unchanged : (s : ℕ) (new : SessionState) → new.undo ≡ (session_at state.sessions s).undo → AreEntered state.tables (slice_set state.sessions s new)
  unchanged s new e = entered_set s new (λ u v h is. inl (subst (λ (list : List UndoEntry). Has list u) e h))

  -- ---- an entry is placed

  place_enters : (s : ℕ) (d : Descent) (q : ℕ) (ds : List Division) → IsPlacing state (session_at state.sessions s) d → MayPlaceEntry state s d q ds → (new : SessionState)
      → new.undo ≡ (session_at state.sessions s).undo → AreEntered (change_table d.table (table_after_place d state.entries q ds) state.tables) (slice_set state.sessions s new)
  place_enters s d q ds at may new e = record {
    rows = λ t k v stands. to t k v (o.entered.rows t k v (same_stands state.tables then (change_leaves_rows d.table (table_after_place d state.entries q ds) state.tables (λ x. refl)) t k v stands));
    images = images_to then (slice_set state.sessions s new) to (undone_set s new (λ u v h is. inl (subst (λ (list : List UndoEntry). Has list u) e h)));
  }
    where
      then : List StoredTable
      then = change_table d.table (table_after_place d state.entries q ds) state.tables

      to : (t : ℕ) (k : ℤ) (v : Version) → HasEntries state.tables t k v → HasEntries then t k v
      to t k v has = entries_to state.tables then t k v (indexed_stay d.table d.column (tree_after_place d state.entries q ds) state.tables t)
          (λ column number h lies. lies_with d.table d.column (tree_after_place d state.entries q ds) state.tables (entry_of t k v column number)
          (λ on. ((place_on_leaves (tree_for state d) d.path d.box d.key state.entries q ds (placing_whole m state o s d at) (placing_stands state (session_at state.sessions s) d at)
          (placing_box state (session_at state.sessions s) d at) may.can) (leaf_entry (entry_of t k v column number)) k number).1 (inl on)) lies) has

  -- ---- purges

  pub not_dead : (t : ℕ) (k : ℤ) (v : Version) → NamesOwn state.tables state.sessions t k v → (column number : ℕ) → HasNumber state.tables t v column number → IsDead state.queue number → ⊥
  not_dead t k v names column number has dead = elim (names column number has) [
    | inl settled ↦ o.one_status.settled_alive t column k number settled dead
    | inr own ↦ o.one_status.pending_alive number own.session own.pending dead
  ]

  purge_to : (table column number : ℕ) → IsDead state.queue number → (t : ℕ) (k : ℤ) (v : Version) → NamesOwn state.tables state.sessions t k v → HasEntries state.tables t k v
      → HasEntries (change_table table (λ x. record x { trees = change_tree column (without_entry number) x.trees }) state.tables) t k v
  purge_to table column number dead t k v names has =
      entries_to state.tables _ t k v (indexed_stay table column (without_entry number) state.tables t)
      (λ c n h lies. lies_with table column (without_entry number) state.tables (entry_of t k v c n)
      (λ on. ((remove_on_leaves (tree_of (table_at state.tables table) column) number) (leaf_entry (entry_of t k v c n)) k n).1 (on, other n (λ e. not_dead t k v names c n h (subst (IsDead state.queue) (sym e) dead)))) lies) has
    where
      other : (n : ℕ) → (n ≡ number → ⊥) → (n == number) ≡ false
      other n ne = by_test (n == number) refl
        where
          by_test : (b : Bool) → (n == number) ≡ b → b ≡ false
          by_test true e = absurd (ne (eqb-true n number e))
          by_test false e = refl

  gone_stands : (b : Bool) (number : ℕ) (key : ℤ) (t : ℕ) (k : ℤ) (v : Version) → StandsAt (cond b (change_table number (table_without key) state.tables) state.tables) t k v → StandsAt state.tables t k v
  gone_stands false number key t k v h = h
  gone_stands true number key t k v h = by_table (t == number) refl
    where
      at_key : (c : Bool) → int_eq k key ≡ c → option_and_then version_of (kept_at (table_without key (table_at state.tables number)) k) ≡ Some v → StandsAt state.tables number k v
      at_key true e z =
          let none : kept_at (table_without key (table_at state.tables number)) k ≡ None =
          ap (kept_at (table_without key (table_at state.tables number))) (key_is k key e) ∙ row_gone key (table_at state.tables number) in
          let no : None ≡ Some v = ap (option_and_then version_of) (sym none) ∙ z in let f : ⊥ = cc in absurd f
      at_key false e z = ap (option_and_then version_of) (sym (row_left key k (table_at state.tables number) (λ is. false≢true (sym e ∙ (Decides-int_eq k key).1 is)))) ∙ z

      at_number : StandsAt (change_table number (table_without key) state.tables) number k v → StandsAt state.tables number k v
      at_number z = elim (same_table number (table_without key) state.tables) [
        | inl is ↦ at_key (int_eq k key) refl (ap (λ (x : StoredTable). present x k) (sym is) ∙ z)
        | inr none ↦ ap (λ (x : StoredTable). present x k) (none.1 ∙ sym none.0) ∙ z
      ]

      by_table : (c : Bool) → (t == number) ≡ c → StandsAt state.tables t k v
      by_table true e =
          let at : t ≡ number = eqb-true t number e in
          subst (λ n. StandsAt state.tables n k v) (sym at) (at_number (subst (λ n. StandsAt (change_table number (table_without key) state.tables) n k v) at h))
      by_table false e = ap (λ (x : StoredTable). present x k) (sym (other_table number t (table_without key) state.tables e)) ∙ h

  purge_enters : (queue : List Queued) → state.queue ≡ queue → AreEntered (tables_purged state.locks queue state.tables) state.sessions
  purge_enters [] is = o.entered
  purge_enters (dead_entry e ∷ queue) is =
      let dead : IsDead state.queue e.number = subst (λ (list : List Queued). Has (queued_numbers list) e.number) (sym is) (inl refl) in
      record {
        rows = λ t k v stands. (
            let stood : StandsAt state.tables t k v = same_stands state.tables (change_table e.table (table_without_entry e) state.tables) (change_leaves_rows e.table (table_without_entry e) state.tables (λ x. refl)) t k v stands in
            purge_to e.table e.column e.number dead t k v (o.named.rows t k v stood) (o.entered.rows t k v stood));
        images = λ s u v w. purge_to e.table e.column e.number dead u.table u.key v (o.named.images s u v w) (o.entered.images s u v w);
      }
  purge_enters (dead_row number key ∷ queue) is =
      let may : Bool = may_leave state.locks (table_at state.tables number) number key in
      let trees : SameTrees state.tables (cond may (change_table number (table_without key) state.tables) state.tables) = purged_row_leaves_trees may number key state.tables in
      let to : (t : ℕ) (k : ℤ) (v : Version) → HasEntries state.tables t k v → HasEntries (cond may (change_table number (table_without key) state.tables) state.tables) t k v =
      λ t k v has. stay_to (cond may (change_table number (table_without key) state.tables) state.tables) trees t k v has in
      record {
        rows = λ t k v stands. to t k v (o.entered.rows t k v (gone_stands may number key t k v stands));
        images = λ s u v w. to u.table u.key v (o.entered.images s u v w);
      }
    where
      stay_to : (then : List StoredTable) → SameTrees state.tables then → (t : ℕ) (k : ℤ) (v : Version) → HasEntries state.tables t k v → HasEntries then t k v
      stay_to then trees t k v has = entries_to state.tables then t k v (same_indexed state.tables then trees t) (λ column number h lies. lies_same state.tables then trees (entry_of t k v column number) lies) has

  -- trees stay, and so do entries
  trees_to : (then : List StoredTable) → SameTrees state.tables then → (t : ℕ) (k : ℤ) (v : Version) → HasEntries state.tables t k v → HasEntries then t k v
  trees_to then trees t k v has = entries_to state.tables then t k v (same_indexed state.tables then trees t) (λ column number h lies. lies_same state.tables then trees (entry_of t k v column number) lies) has

  -- ---- a row is put back

  restored_is : (image : Image) (kept : KeptRow) (v : Version) → version_of (restored image kept) ≡ Some v → image ≡ was_there v
  restored_is was_absent kept v h = let no : ⊥ = cc in absurd no
  restored_is (was_there w) kept v h = let same : w ≡ v = cc in ap was_there same
  restored_is (was_marked w) kept v h = let no : ⊥ = cc in absurd no

  undo_stands : (entry : UndoEntry) (t : ℕ) (k : ℤ) (v : Version) → StandsAt (change_table entry.table (table_with_row entry.key (restored entry.image)) state.tables) t k v
      → StandsAt state.tables t k v ⊎ ((t ≡ entry.table) × (k ≡ entry.key) × (entry.image ≡ was_there v))
  undo_stands entry t k v h = by_table (t == entry.table) refl
    where
      of_kept : (x : Option KeptRow) → option_and_then version_of (option_map (restored entry.image) x) ≡ Some v → entry.image ≡ was_there v
      of_kept None z = let no : ⊥ = cc in absurd no
      of_kept (Some kept) z = restored_is entry.image kept v z

      at_key : (c : Bool) → int_eq k entry.key ≡ c → option_and_then version_of (kept_at (table_with_row entry.key (restored entry.image) (table_at state.tables entry.table)) k) ≡ Some v
          → StandsAt state.tables entry.table k v ⊎ ((k ≡ entry.key) × (entry.image ≡ was_there v))
      at_key true e z =
          let at : k ≡ entry.key = key_is k entry.key e in
          let is : kept_at (table_with_row entry.key (restored entry.image) (table_at state.tables entry.table)) k ≡ option_map (restored entry.image) (kept_at (table_at state.tables entry.table) entry.key) =
          ap (kept_at (table_with_row entry.key (restored entry.image) (table_at state.tables entry.table))) at ∙ row_changed entry.key (restored entry.image) (table_at state.tables entry.table) in
          inr (at, of_kept (kept_at (table_at state.tables entry.table) entry.key) (ap (option_and_then version_of) (sym is) ∙ z))
      at_key false e z = inl (ap (option_and_then version_of) (sym (row_unchanged entry.key k (restored entry.image) (table_at state.tables entry.table) (λ is. false≢true (sym e ∙ (Decides-int_eq k entry.key).1 is)))) ∙ z)

      at_table : StandsAt (change_table entry.table (table_with_row entry.key (restored entry.image)) state.tables) entry.table k v
          → StandsAt state.tables entry.table k v ⊎ ((k ≡ entry.key) × (entry.image ≡ was_there v))
      at_table z = elim (same_table entry.table (table_with_row entry.key (restored entry.image)) state.tables) [
        | inl is ↦ at_key (int_eq k entry.key) refl (ap (λ (x : StoredTable). present x k) (sym is) ∙ z)
        | inr none ↦ inl (ap (λ (x : StoredTable). present x k) (none.1 ∙ sym none.0) ∙ z)
      ]

      by_table : (c : Bool) → (t == entry.table) ≡ c → StandsAt state.tables t k v ⊎ ((t ≡ entry.table) × (k ≡ entry.key) × (entry.image ≡ was_there v))
      by_table true e =
          let at : t ≡ entry.table = eqb-true t entry.table e in
          elim (at_table (subst (λ n. StandsAt (change_table entry.table (table_with_row entry.key (restored entry.image)) state.tables) n k v) at h)) [
            | inl old ↦ inl (subst (λ n. StandsAt state.tables n k v) (sym at) old)
            | inr new ↦ inr (at, new.0, new.1)
          ]
      by_table false e = inl (ap (λ (x : StoredTable). present x k) (sym (other_table entry.table t (table_with_row entry.key (restored entry.image)) state.tables e)) ∙ h)

  undo_enters : (s : ℕ) (entry : UndoEntry) (more : ℕ) → IsUndoing m s (session_at state.sessions s) entry
      → AreEntered (change_table entry.table (table_with_row entry.key (restored entry.image)) state.tables) (slice_set state.sessions s (session_after_undo more (session_at state.sessions s)))
  undo_enters s entry more at = record {
    rows = λ t k v stands. to t k v (rows t k v (undo_stands entry t k v stands));
    images = images_to then (slice_set state.sessions s (session_after_undo more (session_at state.sessions s))) to
        (undone_set s (session_after_undo more (session_at state.sessions s)) (λ u v h is. inl (subst (λ (list : List UndoEntry). Has list u) (sym top) (Has-append_left (front (session_at state.sessions s).undo) (entry ∷ []) u h))));
  }
    where
      then : List StoredTable
      then = change_table entry.table (table_with_row entry.key (restored entry.image)) state.tables

      to : (t : ℕ) (k : ℤ) (v : Version) → HasEntries state.tables t k v → HasEntries then t k v
      to t k v has = trees_to then (change_leaves_trees entry.table (table_with_row entry.key (restored entry.image)) state.tables (λ x. refl)) t k v has

      top : (session_at state.sessions s).undo ≡ front (session_at state.sessions s).undo ++ entry ∷ []
      top = top_of (session_at state.sessions s).undo entry at.newest

      among : Has (session_at state.sessions s).undo entry
      among = subst (λ (list : List UndoEntry). Has list entry) (sym top) (Has-append_right (front (session_at state.sessions s).undo) (entry ∷ []) entry (inl refl))

      rows : (t : ℕ) (k : ℤ) (v : Version) → StandsAt state.tables t k v ⊎ ((t ≡ entry.table) × (k ≡ entry.key) × (entry.image ≡ was_there v)) → HasEntries state.tables t k v
      rows t k v (inl stood) = o.entered.rows t k v stood
      rows t k v (inr new) =
          subst (λ n. HasEntries state.tables n k v) (sym new.0) (subst (λ i. HasEntries state.tables entry.table i v) (sym new.1) (o.entered.images s entry v (among, new.2)))

  -- ---- a row is written

  module _ (s : ℕ) (e : IsEntering (session_at state.sessions s)) (all_placed : e.e.columns ≡ []) (p : Put) (may : MayWriteRow state e.work.table e.change e.e.placed p) where
    abbrev at_table : StoredTable
    at_table = table_at state.tables e.work.table

    pub bound : IsBound m state.tables s (session_at state.sessions s) e.work
    bound = o.bound s e.work e.goes_on.at_work

    pub keyed : IsKeyed at_table
    keyed = o.keyed.each at_table (table_there e.work.table state.tables bound.first bound.last)

    collected : HasCollected state.tables state.sessions s e.work e.change e.e
    collected = subst (IsCollecting state.tables state.sessions s e.work) e.phase (o.collected s e.work e.goes_on.at_work)

    pub at_hand : IsAtHand state.tables state.locks s e.work e.change
    at_hand =
        let changing : IsChanging state.tables state.locks s e.work e.work.phase = o.changing s e.work e.goes_on.at_work e.goes_on.undisturbed e.goes_on.unfailed in
        (subst (IsChanging state.tables state.locks s e.work) e.phase changing).at_hand

    abbrev changed : StoredTable → StoredTable
    changed = table_after_row p e.change e.e.placed e.change.new

    abbrev then : List StoredTable
    then = change_table e.work.table changed state.tables

    -- the version of a new row
    abbrev new_version : Row → Version
    new_version new = record { row = new; numbers = numbers_after (indexed at_table) e.e.placed (numbers_kept (kept_at at_table e.change.key)) }

    abbrev IsNewRow : Version → Type 0
    IsNewRow v = (new : Row) × (e.change.new ≡ Some new) × (new_version new ≡ v)

    pub with_row : (new : Row) → e.change.new ≡ Some new
        → (kept_at (changed at_table) e.change.key ≡ Some (row_after at_table.schema (indexed at_table) e.e.placed (kept_at at_table e.change.key) new))
        × ((k : ℤ) → (k ≡ e.change.key → ⊥) → kept_at (changed at_table) k ≡ kept_at at_table k)
    with_row new is =
        let whole : e.change ≡ record e.change { new = Some new } = ap (λ x. record e.change { new = x }) is in
        let fits : cond (is_put at_table (record e.change { new = Some new }) (Some new)) (fits_put p (record e.change { new = Some new }) e.e.placed at_table) (takes_undo_alone p) ≡ true =
        subst (λ (c : Change). cond (is_put at_table c c.new) (fits_put p c e.e.placed at_table) (takes_undo_alone p) ≡ true) whole may.fits in
        let r = row_new at_table e.change e.e.placed p keyed.rising new fits in (
          ap (λ x. kept_at (table_after_row p e.change e.e.placed x at_table) e.change.key) is ∙ r.0,
          λ k other. ap (λ x. kept_at (table_after_row p e.change e.e.placed x at_table) k) is ∙ r.1 k other,
        )

    stands_at_key : (x : Option Row) → e.change.new ≡ x → (k : ℤ) (v : Version) → k ≡ e.change.key → present (changed at_table) k ≡ Some v → IsNewRow v
    stands_at_key None is k v at h =
        let kept : kept_at (changed at_table) k ≡ option_map marked (kept_at at_table e.change.key) =
        ap (kept_at (changed at_table)) at ∙ ap (λ x. kept_at (table_after_row p e.change e.e.placed x at_table) e.change.key) is ∙ row_changed e.change.key marked at_table in
        absurd (unmarks_none (kept_at at_table e.change.key) v (ap (option_and_then version_of) (sym kept) ∙ h))
    stands_at_key (Some new) is k v at h =
        let kept : kept_at (changed at_table) k ≡ Some (row_after at_table.schema (indexed at_table) e.e.placed (kept_at at_table e.change.key) new) = ap (kept_at (changed at_table)) at ∙ (with_row new is).0 in
        let same : Some (new_version new) ≡ Some v = ap (option_and_then version_of) (sym kept) ∙ h in
        (new, is, cc)

    stands_elsewhere : (x : Option Row) → e.change.new ≡ x → (k : ℤ) → (k ≡ e.change.key → ⊥) → kept_at (changed at_table) k ≡ kept_at at_table k
    stands_elsewhere None is k other = ap (λ x. kept_at (table_after_row p e.change e.e.placed x at_table) k) is ∙ row_unchanged e.change.key k marked at_table other
    stands_elsewhere (Some new) is k other = (with_row new is).1 k other

    row_stands : (t : ℕ) (k : ℤ) (v : Version) → StandsAt then t k v → StandsAt state.tables t k v ⊎ ((t ≡ e.work.table) × (k ≡ e.change.key) × IsNewRow v)
    row_stands t k v h = by_table (t == e.work.table) refl
      where
        here : table_at (change_table e.work.table (table_after_row p e.change e.e.placed e.change.new) state.tables) e.work.table ≡ table_after_row p e.change e.e.placed e.change.new (table_at state.tables e.work.table)
        here = there_table e.work.table (table_after_row p e.change e.e.placed e.change.new) state.tables (o.bound s e.work e.goes_on.at_work).first (o.bound s e.work e.goes_on.at_work).last

        by_key : (c : Bool) → int_eq k e.change.key ≡ c → present (table_after_row p e.change e.e.placed e.change.new (table_at state.tables e.work.table)) k ≡ Some v
            → StandsAt state.tables e.work.table k v ⊎ ((k ≡ e.change.key) × IsNewRow v)
        by_key true is z = let at : k ≡ e.change.key = key_is k e.change.key is in inr (at, stands_at_key e.change.new refl k v at z)
        by_key false is z =
            inl (ap (option_and_then version_of) (sym (stands_elsewhere e.change.new refl k (λ same. false≢true (sym is ∙ (Decides-int_eq k e.change.key).1 same)))) ∙ z)

        by_table : (c : Bool) → (t == e.work.table) ≡ c → StandsAt state.tables t k v ⊎ ((t ≡ e.work.table) × (k ≡ e.change.key) × IsNewRow v)
        by_table true is =
            let at : t ≡ e.work.table = eqb-true t e.work.table is in
            let z : present (table_after_row p e.change e.e.placed e.change.new (table_at state.tables e.work.table)) k ≡ Some v = ap (λ (x : StoredTable). present x k) (sym here)
            ∙ ap (λ n. present (table_at (change_table e.work.table (table_after_row p e.change e.e.placed e.change.new) state.tables) n) k) (sym at) ∙ h in
            elim (by_key (int_eq k e.change.key) refl z) [
              | inl old ↦ inl (subst (λ n. StandsAt state.tables n k v) (sym at) old)
              | inr new ↦ inr (at, new.0, new.1)
            ]
        by_table false is = inl (ap (λ (x : StoredTable). present x k) (sym (other_table e.work.table t (table_after_row p e.change e.e.placed e.change.new) state.tables is)) ∙ h)

    -- a column that got no new entry has the box that the row had
    stood_before : (new : Row) (c : ℕ) → e.change.new ≡ Some new → Has (indexed at_table) c → placed_for e.e.placed c ≡ None
        → (old : Row) × (e.change.old ≡ Some old) × (box_in old c ≡ box_in new c)
    stood_before new c is listed none = by_old e.change.old refl
      where
        among : (x : Option Row) → Has (columns_for (indexed at_table) e.change.old x) c → e.change.new ≡ x → ⊥
        among x h z =
            let placed_all : map (λ p. p.0) e.e.placed ≡ columns_for (indexed at_table) e.change.old e.change.new =
            sym (append-nil (map (λ p. p.0) e.e.placed)) ∙ ap (λ cs. map (λ p. p.0) e.e.placed ++ cs) (sym all_placed) ∙ collected.columns in
            not_placed e.e.placed c none (subst (λ cs. Has cs c) (sym placed_all) (subst (λ y. Has (columns_for (indexed at_table) e.change.old y) c) (sym z) h))

        in_filter : (t : ℕ → Bool) (xs : List ℕ) → Has xs c → t c ≡ true → Has (filter t xs) c
        in_filter t [] h z = absurd h
        in_filter t (x ∷ xs) (inl same) z = let here : t x ≡ true = ap t same ∙ z in rw here (inl same)
        in_filter t (x ∷ xs) (inr h) z = later (t x) (in_filter t xs h z)
          where
            later : (b : Bool) → Has (filter t xs) c → Has (cond b (x ∷ filter t xs) (filter t xs)) c
            later true k = inr k
            later false k = k

        still : (x : Option Row) → e.change.old ≡ x → (b : Bool) → moves x new c ≡ b → b ≡ false
        still x z true t = absurd (among (Some new) (in_filter (moves e.change.old new) (indexed at_table) listed (ap (λ y. moves y new c) z ∙ t)) is)
        still x z false t = refl

        not_not : (b : Bool) → not b ≡ false → b ≡ true
        not_not true h = refl
        not_not false h = cc

        by_old : (x : Option Row) → e.change.old ≡ x → (old : Row) × (e.change.old ≡ Some old) × (box_in old c ≡ box_in new c)
        by_old None z = let no : true ≡ false = still None z true refl in absurd (false≢true (sym no))
        by_old (Some old) z =
            let same_boxes : same (box_in old c) (box_in new c) ≡ true = not_not (same (box_in old c) (box_in new c)) (still (Some old) z (moves (Some old) new c) refl) in
            (old, z, same_then (box_in old c) (box_in new c) same_boxes)

    row_entries : (v : Version) → IsNewRow v → HasEntries state.tables e.work.table e.change.key v
    row_entries v is = subst (HasEntries state.tables e.work.table e.change.key) is.2 (λ c n has. entry c n (number_mapped (indexed at_table) (number_for (indexed at_table) e.e.placed (numbers_kept (kept_at at_table e.change.key))) c n has))
      where
        by_placed : (c n : ℕ) → Has (indexed (table_at state.tables e.work.table)) c → (x : Option ℕ) → placed_for e.e.placed c ≡ x
            → unwrap_or (option_or x (number_at (indexed (table_at state.tables e.work.table)) (numbers_kept (kept_at (table_at state.tables e.work.table) e.change.key)) c)) 0 ≡ n
            → LiesIn state.tables (record { table = e.work.table; column = c; key = e.change.key; number = n; box = box_in is.0 c })
        by_placed c n listed (Some k) z f =
            let there : Has {X = ℕ × ℕ} e.e.placed (c, n) = placed_has e.e.placed c n (z ∙ ap Some f) in
            subst (λ (b : Corners). LiesIn state.tables (record { table = e.work.table; column = c; key = e.change.key; number = n; box = b })) (ap (λ y. box_of_new y c) is.1) (collected.lies c n there)
        by_placed c n listed None z f =
            let was = stood_before is.0 c is.1 listed z in
            stood c n was.0 was.2 (number_at (indexed (table_at state.tables e.work.table)) (numbers_kept (kept_at (table_at state.tables e.work.table) e.change.key)) c) refl f (at_hand.stands ∙ was.1) listed
          where
            row_there : (x : Option Version) (old : Row) → row_of x ≡ Some old → (v0 : Version) × (x ≡ Some v0) × (v0.row ≡ old)
            row_there None old h = let no : ⊥ = cc in absurd no
            row_there (Some v0) old h = (v0, refl, cc)

            stood : (c n : ℕ) (old : Row) → box_in old c ≡ box_in is.0 c → (y : Option ℕ)
                → number_at (indexed (table_at state.tables e.work.table)) (numbers_kept (kept_at (table_at state.tables e.work.table) e.change.key)) c ≡ y → unwrap_or y 0 ≡ n
                → row_of (present (table_at state.tables e.work.table) e.change.key) ≡ Some old → Has (indexed (table_at state.tables e.work.table)) c
                → LiesIn state.tables (record { table = e.work.table; column = c; key = e.change.key; number = n; box = box_in is.0 c })
            stood c n old boxes y ys f rows listed =
                let r = row_there (present (table_at state.tables e.work.table) e.change.key) old rows in
                let k : IsKept (table_at state.tables e.work.table) e.change.key r.0 = present_kept (table_at state.tables e.work.table) e.change.key r.0 r.1 in
                let nums : numbers_kept (kept_at (table_at state.tables e.work.table) e.change.key) ≡ r.0.numbers = ap numbers_kept k.there ∙ ap (λ (w : Version). w.numbers) k.is in
                let x = has_number (indexed (table_at state.tables e.work.table)) r.0.numbers c (stands_stored m state o e.work.table e.change.key r.0 r.1) listed in
                let is_y : y ≡ Some x.0 = sym ys ∙ ap (λ ns. number_at (indexed (table_at state.tables e.work.table)) ns c) nums ∙ x.1 in
                let is_n : x.0 ≡ n = ap (λ z. unwrap_or z 0) (sym is_y) ∙ f in
                let lies : LiesIn state.tables (entry_of e.work.table e.change.key r.0 c n) = o.entered.rows e.work.table e.change.key r.0 r.1 c n (x.1 ∙ ap Some is_n) in
                subst (λ (b : Corners). LiesIn state.tables (record { table = e.work.table; column = c; key = e.change.key; number = n; box = b })) (ap (λ w. box_in w c) r.2 ∙ boxes) lies

        entry : (c n : ℕ) → Has (indexed (table_at state.tables e.work.table)) c
            × (number_for (indexed (table_at state.tables e.work.table)) e.e.placed (numbers_kept (kept_at (table_at state.tables e.work.table) e.change.key)) c ≡ n)
            → LiesIn state.tables (record { table = e.work.table; column = c; key = e.change.key; number = n; box = box_in is.0 c })
        entry c n h = by_placed c n h.0 (placed_for e.e.placed c) refl h.1

    row_restores : Restores state.tables (session_at state.sessions s) (session_after_row at_table e.work.table e.change e.e.placed p.undo (session_at state.sessions s))
    row_restores u v h is = elim (Has-append (session_at state.sessions s).undo (record { table = e.work.table; key = e.change.key; image = image_of (kept_at at_table e.change.key) } ∷ []) u h) [
      | inl old ↦ inl old
      | inr new ↦ elim new [ inl same_entry ↦ inr (subst (λ (x : UndoEntry). HasEntries state.tables x.table x.key v) same_entry (of_image (kept_at at_table e.change.key) refl (ap (λ (x : UndoEntry). x.image) same_entry ∙ is))) | inr none ↦ absurd none ]
    ]
      where
        of_image : (x : Option KeptRow) → kept_at (table_at state.tables e.work.table) e.change.key ≡ x → image_of x ≡ was_there v → HasEntries state.tables e.work.table e.change.key v
        of_image None z i = let no : ⊥ = cc in absurd no
        of_image (Some kept) z i =
            let parts = image_is kept v i in
            o.entered.rows e.work.table e.change.key v (stands_of_kept (table_at state.tables e.work.table) e.change.key kept v z parts.0 parts.1)

    row_enters : AreEntered then (slice_set state.sessions s (session_after_row at_table e.work.table e.change e.e.placed p.undo (session_at state.sessions s)))
    row_enters = record {
      rows = λ t k v stands. to t k v (rows t k v (row_stands t k v stands));
      images = images_to then (slice_set state.sessions s (session_after_row at_table e.work.table e.change e.e.placed p.undo (session_at state.sessions s))) to
          (undone_set s (session_after_row at_table e.work.table e.change e.e.placed p.undo (session_at state.sessions s)) row_restores);
    }
      where
        to : (t : ℕ) (k : ℤ) (v : Version) → HasEntries state.tables t k v → HasEntries (change_table e.work.table (table_after_row p e.change e.e.placed e.change.new) state.tables) t k v
        to t k v has = trees_to (change_table e.work.table (table_after_row p e.change e.e.placed e.change.new) state.tables)
            (change_leaves_trees e.work.table (table_after_row p e.change e.e.placed e.change.new) state.tables (λ x. after_row_leaves_trees p e.change e.e.placed e.change.new x)) t k v has

        rows : (t : ℕ) (k : ℤ) (v : Version) → StandsAt state.tables t k v ⊎ ((t ≡ e.work.table) × (k ≡ e.change.key) × IsNewRow v) → HasEntries state.tables t k v
        rows t k v (inl stood) = o.entered.rows t k v stood
        rows t k v (inr new) = subst (λ n. HasEntries state.tables n k v) (sym new.0) (subst (λ i. HasEntries state.tables e.work.table i v) (sym new.1) (row_entries v new.2))

  written_enters : (s number : ℕ) (change : Change) (placed : List (ℕ × ℕ)) (p : Put) → IsWritingRow state (session_at state.sessions s) number change placed → MayWriteRow state number change placed p
      → AreEntered (change_table number (table_after_row p change placed change.new) state.tables) (slice_set state.sessions s (session_after_row (table_at state.tables number) number change placed p.undo (session_at state.sessions s)))
  written_enters s number change placed p at =
      let P : ℕ → Change → List (ℕ × ℕ) → Type 0 = λ n c l. (MayWriteRow state n c l p
      → AreEntered (change_table n (table_after_row p c l c.new) state.tables) (slice_set state.sessions s (session_after_row (table_at state.tables n) n c l p.undo (session_at state.sessions s)))) in
      let first : P at.entering.work.table at.entering.change at.entering.e.placed = λ may. row_enters s at.entering at.all_placed p may in
      let second : P at.entering.work.table at.entering.change placed = subst (λ l. P at.entering.work.table at.entering.change l) (sym at.placed_is) first in
      let third : P at.entering.work.table change placed = subst (λ c. P at.entering.work.table c placed) (sym at.change_is) second in
      subst (λ n. P n change placed) (sym at.number_is) third

  -- ---- a table is made

  create_enters : (s : ℕ) (name : List ℕ) (schema : Schema) (leaf : ℕ) (roots : List ℕ) (session : SessionState) → session.undo ≡ []
      → AreEntered (state.tables ++ new_table name schema leaf roots ∷ []) (slice_set state.sessions s session)
  create_enters s name schema leaf roots session none = record {
    rows = λ t k v stands. elim (new_from 1 t (new_table name schema leaf roots) state.tables) [
      | inl was ↦ to t k v was (o.entered.rows t k v (ap (λ (x : StoredTable). present x k) (sym was) ∙ stands))
      | inr new ↦ (let no : None ≡ Some v = ap (λ (x : StoredTable). present x k) (sym new) ∙ stands in let f : ⊥ = cc in absurd f)
    ];
    images = λ j u v w. images j u v w;
  }
    where
      to : (t : ℕ) (k : ℤ) (v : Version) → table_at (state.tables ++ new_table name schema leaf roots ∷ []) t ≡ table_at state.tables t → HasEntries state.tables t k v
          → HasEntries (state.tables ++ new_table name schema leaf roots ∷ []) t k v
      to t k v was has = entries_to state.tables (state.tables ++ new_table name schema leaf roots ∷ []) t k v (ap indexed was)
          (λ column number h lies. lies_earlier state.tables (new_table name schema leaf roots) (entry_of t k v column number) lies) has

      kept_before : (j : ℕ) (u : UndoEntry) → Has (session_at state.sessions j).undo u → table_at (state.tables ++ new_table name schema leaf roots ∷ []) u.table ≡ table_at state.tables u.table
      kept_before j u h =
          let r : IsRestorable state.tables (session_at state.sessions j) u = o.restorable j u h in
          earlier_if (λ (x : StoredTable). kept_at x u.key ≡ Some r.kept) (λ z. cc) 1 u.table (new_table name schema leaf roots) state.tables r.there

      images : (j : ℕ) (u : UndoEntry) (v : Version) → WouldRestore (slice_set state.sessions s session) j u v → HasEntries (state.tables ++ new_table name schema leaf roots ∷ []) u.table u.key v
      images j u v w =
          let before : Has (session_at state.sessions j).undo u =
          set_relates (λ x y. ((z : UndoEntry) → Has y.undo z → Has x.undo z)) (λ x z k. k) state.sessions s session (λ z k. absurd (subst (λ (list : List UndoEntry). Has list z) none k)) j u w.0 in
          to u.table u.key v (kept_before j u before) (o.entered.images j u v (before, w.1))

pub entered_kept : (m : Machine) (state : State) (actor : Actor) (choice : Choice) → IsProper m → InOrder m state → MayHappen m state actor choice
    → AreEntered (after m state actor choice).tables (after m state actor choice).sessions
entered_kept m state actor choice good o h = event_keeps m state good o (λ (st : State). AreEntered st.tables st.sessions) each actor choice h
  where
    each : EachKeeps m state (λ (st : State). AreEntered st.tables st.sessions)
    each = record {
      still = o.entered;
      purge = λ some. purge_enters m state o state.queue refl;
      end = λ s over active. entered_set m state o s _ (λ u v h is. absurd h);
      answer = λ s reply active at. unchanged m state o s _ refl;
      undo = λ s entry more active at. undo_enters m state o s entry more at;
      create = λ s over name schema leaf roots active at may. create_enters m state o s name schema leaf roots _ refl;
      refuse = λ s on ds active at may. record {
        rows = o.entered.rows;
        images = images_to m state o state.tables (with_victims state.sessions ds) (λ t k v has. has)
            (undone_same m state o (with_victims state.sessions ds) (victims_leave (λ x. x.undo) (λ x. refl) state.sessions ds));
      };
      lock_table = λ s statement number mode active at none. unchanged m state o s _ refl;
      lock_key = λ s number key mode active at none. unchanged m state o s _ refl;
      lock_row = λ s number key mode active at none. unchanged m state o s _ refl;
      visit = λ s number column predicate active at. unchanged m state o s _ refl;
      scan = λ s number leaf active at. unchanged m state o s _ refl;
      step = λ s d q active at may. unchanged m state o s _ refl;
      stale = λ s d active at. unchanged m state o s _ refl;
      full = λ s active at. unchanged m state o s _ refl;
      place = λ s d q ds active at may. place_enters m state o s d q ds at may _ refl;
      row = λ s number change placed p active at may. written_enters m state o s number change placed p at may;
    }
