-- When the committed tables change.
use Rattle.std.proofs.Common.{◌≡◌, ◌∙◌, ◌≤◌, refl, sym, ap, subst, ℕ, ℤ, cond, Bool, true, false, Option, Some, None, List, [], ◌∷◌, ◌++◌, map, length, arith}
use Rattle.std.specs.Prelude.{find, is_some, slice_set}
use Rattle.std.specs.Option.{option_map}
use Rattle.isp_reclock.specs.Tables.{takes}
use Rattle.isp_plain.specs.declared.value.Schema.{Schema}
use Rattle.isp_events.specs.Stored.{StoredTable, change_table, present, row_of, table_at}
use Rattle.isp_events.specs.Sessions.{SessionState, UndoEntry, session_at}
use Rattle.isp_events.specs.State.{State}
use Rattle.isp_events.specs.Views.{committed, committed_row, first_image, has_written, is_of_key, seen, view, view_at, version_or}
use Rattle.isp_events.specs.Ways.{Machine}
use Rattle.isp_events.specs.Next.{EventKind, answers, undoes, creates, asks_table, asks_key, visits, scans, steps, goes_stale, finds_full, places, writes, next}
use Rattle.isp_events.specs.Deadlocks.{Deadlock, with_victims}
use Rattle.isp_events.specs.Placing.{session_after_place, table_after_place}
use Rattle.isp_events.specs.Writing.{table_after_row, table_with_row}
use Rattle.isp_events.specs.Ending.{new_table, restored}
use Rattle.isp_events.specs.Purging.{tables_purged}
use Rattle.isp_events.specs.Events.{acts, purges, Choice, with_nothing, with_blockers, with_deadlocks, with_child, with_divisions, with_put, with_undo_pages, with_roots, MayChoose, MayGoOn, after, after_kind, after_next}
use Rattle.isp_order.specs.Trees.{committed_version}
use Rattle.isp_order.specs.InOrder.{InOrder, IsProper}
use Rattle.isp_order.proofs.TableLaws.{definition_at, definitions_changed, earlier_table, kept_of, purged_keeps, row_keeps}
use Rattle.isp_causes.specs.Causes.{IsActive, IsCaused, IsCreating}
use Rattle.isp_causes.proofs.CauseLaws.{is_caused}
use Rattle.isp_order_reads.proofs.RowFrames.{purged_present}
use Rattle.isp_order_one.proofs.ImageLaws.{all_set, all_victims}
use Rattle.isp_order_one.proofs.CommittedLaws.{committed_same, images_then, undo_committed, written_committed}
use Rattle.isp_order_whole.proofs.WholeLaws.{order_kept}
use Rattle.isp_order_others.specs.WhatStays.{CommittedChangesAtEnds, PurgesLeaveCommitted, committed_after, empty_table}
use Rattle.isp_order_others.proofs.RowChanges.{IsNamed, is_named}
use Rattle.isp_order_others.proofs.SeenRows.{committed_equal, seen_more, seen_same, shown_alike}

-- the same names and columns, and the same committed row at each key
record Stays (state now : State) : Type 0 where
  names : map definition_at now.tables ≡ map definition_at state.tables
  rows : (t : ℕ) (k : ℤ) → committed_version now.tables now.sessions t k ≡ committed_version state.tables state.sessions t k

-- a key that isn't written has no image
none_written : (session : SessionState) (t : ℕ) (k : ℤ) → has_written session t k ≡ false → first_image session.undo t k ≡ None
none_written session t k h = by_found (find (is_of_key t k) session.undo) h
  where
    by_found : (o : Option UndoEntry) → is_some o ≡ false → option_map (λ (u : UndoEntry). u.image) o ≡ None
    by_found None e = refl
    by_found (Some u) e = let no : ⊥ = cc in absurd no

module _ (m : Machine) (state : State) (good : IsProper m) (o : InOrder m state) where
  -- the session's undo list alone is what it was
  same_undo : (s : ℕ) (new : SessionState) → new.undo ≡ (session_at state.sessions s).undo → (t : ℕ) (k : ℤ)
      → committed_version state.tables (slice_set state.sessions s new) t k ≡ committed_version state.tables state.sessions t k
  same_undo s new undo t k =
      committed_same state.tables state.tables state.sessions (slice_set state.sessions s new) t k
      (all_set state.sessions s new t k (ap (λ (us : List UndoEntry). first_image us t k) undo)) refl

  victims_same : (ds : List Deadlock) (t : ℕ) (k : ℤ) → committed_version state.tables (with_victims state.sessions ds) t k ≡ committed_version state.tables state.sessions t k
  victims_same ds t k = committed_same state.tables state.tables state.sessions (with_victims state.sessions ds) t k (all_victims state.sessions ds t k) refl

  -- ---- the end of a transaction

  -- the row at a key is what the session saw
  end_row : (s : ℕ) (new : SessionState) → IsActive state s → new.undo ≡ [] → (t : ℕ) (k : ℤ)
      → row_of (committed_version state.tables (slice_set state.sessions s new) t k) ≡ view_at state s t k
  end_row s new active undo t k = by_written (has_written (session_at state.sessions s) t k) refl
    where
      by_written : (b : Bool) → has_written (session_at state.sessions s) t k ≡ b
          → row_of (committed_version state.tables (slice_set state.sessions s new) t k) ≡ cond b (row_of (present (table_at state.tables t) k)) (committed_row state t k)
      by_written true e =
          let n : IsNamed (session_at state.sessions s) t k = is_named (session_at state.sessions s) t k e in
          let taken : takes state.locks t k s ≡ true =
          subst (λ i. takes state.locks i k s ≡ true) n.of_table (subst (λ i. takes state.locks n.undo.table i s ≡ true) n.of_key (o.written_locked.undone s n.undo n.has)) in
          ap (λ x. row_of (version_or x (present (table_at state.tables t) k)))
          (images_then m state o s t k new active taken ∙ ap (λ (us : List UndoEntry). first_image us t k) undo)
      by_written false e =
          ap (λ x. row_of (version_or x (present (table_at state.tables t) k)))
          (all_set state.sessions s new t k (ap (λ (us : List UndoEntry). first_image us t k) undo ∙ sym (none_written (session_at state.sessions s) t k e)))

  end_tables : (s : ℕ) (new : SessionState) → IsActive state s → new.undo ≡ []
      → seen (λ t k. row_of (committed_version state.tables (slice_set state.sessions s new) t k)) state.tables ≡ view state s
  end_tables s new active undo =
      seen_same 1 (λ t k. row_of (committed_version state.tables (slice_set state.sessions s new) t k)) (view_at state s) state.tables state.tables refl
      (λ i low high. shown_alike _ (view_at state s i) _ (end_row s new active undo i))

  -- ---- CREATE

  creating_undo : (s : ℕ) (name : List ℕ) (schema : Schema) → IsCreating m state s (session_at state.sessions s) name schema → (session_at state.sessions s).undo ≡ []
  creating_undo s name schema at =
      (o.idle.nothing s (record {
        outside = subst (λ i. (session_at state.sessions i).inside ≡ false) (sym at.setup) o.idle.setup_outside;
        no_work = at.first.no_work;
      })).no_undo

  create_tables : (s : ℕ) (new : SessionState) (name : List ℕ) (schema : Schema) (leaf : ℕ) (roots : List ℕ) → new.undo ≡ (session_at state.sessions s).undo
      → seen (λ t k. row_of (committed_version (state.tables ++ new_table name schema leaf roots ∷ []) (slice_set state.sessions s new) t k)) (state.tables ++ new_table name schema leaf roots ∷ [])
      ≡ committed state ++ empty_table name schema ∷ []
  create_tables s new name schema leaf roots undo =
      seen_more 1 (λ t k. row_of (committed_version (state.tables ++ new_table name schema leaf roots ∷ []) (slice_set state.sessions s new) t k)) state.tables (new_table name schema leaf roots) refl
      ∙ ap (λ ts. ts ++ empty_table name schema ∷ [])
      (seen_same 1 (λ t k. row_of (committed_version (state.tables ++ new_table name schema leaf roots ∷ []) (slice_set state.sessions s new) t k)) (committed_row state) state.tables state.tables refl
      (λ i low high. shown_alike _ (committed_row state i) _ (λ k. ap row_of (one i k (omega (arith, high))))))
    where
      one : (i : ℕ) (k : ℤ) → i ≤ length state.tables
          → committed_version (state.tables ++ new_table name schema leaf roots ∷ []) (slice_set state.sessions s new) i k ≡ committed_version state.tables state.sessions i k
      one i k within =
          committed_same state.tables (state.tables ++ new_table name schema leaf roots ∷ []) state.sessions (slice_set state.sessions s new) i k
          (all_set state.sessions s new i k (ap (λ (us : List UndoEntry). first_image us i k) undo))
          (ap (λ (t : StoredTable). present t k) (earlier_table i (new_table name schema leaf roots) state.tables within))

  -- ---- each kind

  stays : (now : State) → InOrder m now → Stays state now → committed now ≡ committed state
  stays now p st = committed_equal m state now o p st.names (λ t k. ap row_of (st.rows t k))

  kind_committed : (s : ℕ) (kind : EventKind) (choice : Choice) → IsCaused m state s kind → MayChoose state s kind choice → InOrder m (after_kind m state s kind choice)
      → committed (after_kind m state s kind choice) ≡ committed_after state s kind choice
  kind_committed s (answers reply true) with_nothing c h p = end_tables s _ c.active refl
  kind_committed s (answers reply false) with_nothing c h p = stays _ p (record { names = refl; rows = same_undo s _ refl })
  kind_committed s (undoes entry) (with_undo_pages more) c h p = stays _ p (record {
    names = definitions_changed entry.table (table_with_row entry.key (restored entry.image)) state.tables (λ t. refl);
    rows = undo_committed m state o s entry more c.active c.cause;
  })
  kind_committed s (creates name schema) with_nothing c h p = stays _ p (record { names = refl; rows = same_undo s _ (sym (creating_undo s name schema c.cause)) })
  kind_committed s (creates name schema) (with_roots leaf roots) c h p = create_tables s _ name schema leaf roots (sym (creating_undo s name schema c.cause))
  kind_committed s (asks_table statement number mode) with_nothing c h p = stays _ p (record { names = refl; rows = same_undo s _ refl })
  kind_committed s (asks_table statement number mode) (with_blockers by ds) c h p = stays _ p (record { names = refl; rows = victims_same ds })
  kind_committed s (asks_key number key mode) with_nothing c h p = stays _ p (record { names = refl; rows = same_undo s _ refl })
  kind_committed s (asks_key number key mode) (with_blockers by ds) c h p = stays _ p (record { names = refl; rows = victims_same ds })
  kind_committed s (visits number column predicate) with_nothing c h p = stays _ p (record { names = refl; rows = same_undo s _ refl })
  kind_committed s (scans number leaf) with_nothing c h p = stays _ p (record { names = refl; rows = same_undo s _ refl })
  kind_committed s (steps d) (with_child q) c h p = stays _ p (record { names = refl; rows = same_undo s _ refl })
  kind_committed s (goes_stale d) with_nothing c h p = stays _ p (record { names = refl; rows = same_undo s _ refl })
  kind_committed s finds_full with_nothing c h p = stays _ p (record { names = refl; rows = same_undo s _ refl })
  kind_committed s (places d) (with_deadlocks ds) c h p = stays _ p (record { names = refl; rows = victims_same ds })
  kind_committed s (places d) (with_divisions q ds) c h p = stays _ p (record {
    names = definitions_changed d.table (table_after_place d state.entries q ds) state.tables (λ t. refl);
    rows = λ t k. committed_same state.tables (change_table d.table (table_after_place d state.entries q ds) state.tables) state.sessions
        (slice_set state.sessions s (session_after_place d state.entries (session_at state.sessions s))) t k
        (all_set state.sessions s (session_after_place d state.entries (session_at state.sessions s)) t k refl)
        (kept_of (λ x. present x k) d.table t (table_after_place d state.entries q ds) state.tables refl);
  })
  kind_committed s (writes number change placed) (with_put w) c h p = stays _ p (record {
    names = definitions_changed number (table_after_row w change placed change.new) state.tables (row_keeps w change placed change.new);
    rows = written_committed m state o s number change placed w c.active c.cause h;
  })
  kind_committed s kind choice c h p = absurd h

  next_committed : (s : ℕ) (kind : EventKind) (choice : Choice) (found : Option EventKind) → next m state s ≡ found → found ≡ Some kind → MayGoOn state s found choice
      → InOrder m (after_next m state s found choice) → committed (after_next m state s found choice) ≡ committed_after state s kind choice
  next_committed s kind choice None e is h p = absurd h
  next_committed s kind choice (Some own) e is h p =
      let same : own ≡ kind = cc in
      subst (λ k. committed (after_kind m state s own choice) ≡ committed_after state s k choice) same (kind_committed s own choice (is_caused m state s own e) h p)

pub committed_changes_at_ends : CommittedChangesAtEnds
committed_changes_at_ends m state s kind choice good o is h =
    next_committed m state good o s kind choice (next m state s) refl is h (order_kept m state (acts s) choice good o h)

pub purges_leave_committed : PurgesLeaveCommitted
purges_leave_committed m state choice good o h =
    stays m state good o (after m state purges choice) (order_kept m state purges choice good o h) (record {
      names = purged_keeps state.locks state.queue state.tables;
      rows = λ t k. committed_same state.tables (tables_purged state.locks state.queue state.tables) state.sessions state.sessions t k refl (purged_present state.locks state.queue state.tables t k);
    })
