-- The numbers collected for a change at hand are entries of the new row, and pending.
use Rattle.std.proofs.Common.{◌≡◌, ◌⊎◌, ◌∙◌, inl, inr, refl, sym, ap, subst, ℕ, ℤ, ◌==◌, cond, Bool, true, false, Option, Some, None, List, [], ◌∷◌, ◌++◌, append_assoc, drop, length, map, eqb-true}
use Rattle.std.specs.Prelude.{filter_map, is_none, slice_set}
use Rattle.std.specs.List.{cons_option}
use Rattle.std.specs.Option.{option_map}
use Rattle.std.proofs.lemmas.List.{map-append}
use Rattle.std.proofs.lemmas.List.Elements.{filter_map-append}
use Rattle.isp_base.specs.Lists.{Has}
use Rattle.isp_laws.proofs.ListLaws.{Has-append, Has-append_left, Has-append_right}
use Rattle.isp_leaf_laws.specs.LeafLaws.{OneMoreOnLeaves}
use Rattle.isp_leaf_laws.proofs.LeafLaws.{place_on_leaves, remove_on_leaves}
use Rattle.isp_plain.specs.declared.statement.Statement.{Statement}
use Rattle.isp_plain.specs.declared.statement.Statement.TheVariants.{Create, Insert, Select, Update, Delete, Begin, Commit, Rollback, Refused}
use Rattle.isp_plain.specs.declared.value.Row.{Row}
use Rattle.isp_forest.specs.declared.entry.To.TheVariants.{Row as ToRow}
use Rattle.isp_forest.specs.Tree.{Tree}
use Rattle.isp_forest.specs.Place.{Division}
use Rattle.isp_forest.specs.Search.{Search}
use Rattle.isp_searches.specs.SearchLaws.{IsOnLeaf}
use Rattle.isp_events.specs.Stored.{Leaf, StoredTable, change_table, indexed, leaf_behind, present, row_of, table_at, tree_of}
use Rattle.isp_events.specs.Sessions.{Change, Entering, EntryAt, Note, Phase, SessionState, Work, adding, answering, begun_change, begun_entering, changes_of, columns_for, entering, locking, phase_with, scanning, session_at, unlocked, visiting, writing}
use Rattle.isp_events.specs.State.{Queued, State, dead_entry, dead_row, is_empty}
use Rattle.isp_events.specs.Ways.{Machine, Way, by_box, by_key, by_scan}
use Rattle.isp_events.specs.Next.{Descent, box_of_new}
use Rattle.isp_events.specs.Deadlocks.{Deadlock, with_victims}
use Rattle.isp_events.specs.Asking.{begun_work, first_phase, phase_after_key, phase_by, phase_of_keys, work_after_key}
use Rattle.isp_events.specs.Reading.{as_read, phase_after_leaf, phase_after_visit, rising, rows_in, work_after_scan, work_after_visit}
use Rattle.isp_events.specs.Placing.{MayPlaceEntry, change_entering, failed_full, note_of, phase_with_entry, stepped, tree_after_place, tree_for, with_placed, without_path}
use Rattle.isp_events.specs.Writing.{phase_after_row, table_after_row, table_with_row, work_after_row}
use Rattle.isp_events.specs.Ending.{restored}
use Rattle.isp_events.specs.Purging.{may_leave, table_without, tables_purged, without_entry}
use Rattle.isp_events.specs.Events.{Actor, Choice, MayHappen, after}
use Rattle.isp_order.specs.Trees.{IsDead, IsPending, LiesIn, leaf_entry, placed_by, placed_in, queued_numbers}
use Rattle.isp_order.specs.Work.{HasCollected, HaveCollected, IsCollecting}
use Rattle.isp_order.specs.InOrder.{InOrder, IsProper}
use Rattle.isp_order.proofs.SessionLaws.{other_at, same_at, seated, victims_keep}
use Rattle.isp_causes.specs.Causes.{IsActive, IsEntering, IsPlacing}
use Rattle.isp_causes.proofs.EventCases.{EachKeeps, event_keeps}
use Rattle.isp_order_locks.proofs.SearchParts.{seen_now}
use Rattle.isp_order_work.proofs.WorkParts.{carried, no_work, none_some, some_is, work_step, work_victims}
use Rattle.isp_order_trees.proofs.TreeParts.{SameTrees, change_leaves_trees, indexed_stay, same_indexed, same_tree, tree_here, with_tree}
use Rattle.isp_order_trees.proofs.WholeLaws.{after_row_leaves_trees, placing_box, placing_stands, purged_row_leaves_trees}
use Rattle.isp_order_paths.proofs.PathLaws.{changed_or_same, place_listed}

-- ---- phases that have collected nothing

begun_collects : (tables : List StoredTable) (sessions : List SessionState) (s : ℕ) (work : Work) (statement : Statement) (columns : List ℕ) (done : List Change) (change : Change) (left : List Change)
    → columns ≡ indexed (table_at tables work.table) → IsCollecting tables sessions s work (writing done (change ∷ left) (begun_change statement columns change))
begun_collects tables sessions s work statement columns done change left is = by_statement statement
  where
    fresh : HasCollected tables sessions s work change (begun_entering columns change)
    fresh = record { lies = λ column number h. absurd h; pending = λ column number h. absurd h; columns = ap (λ (cs : List ℕ). columns_for cs change.old change.new) is }

    by_statement : (st : Statement) → IsCollecting tables sessions s work (writing done (change ∷ left) (begun_change st columns change))
    by_statement (Insert name rows) = tt
    by_statement (Select name cs w) = fresh
    by_statement (Create name schema) = fresh
    by_statement (Update name sets w) = fresh
    by_statement (Delete name w) = fresh
    by_statement Begin = fresh
    by_statement Commit = fresh
    by_statement Rollback = fresh
    by_statement (Refused refusal) = fresh

with_collects : (tables : List StoredTable) (sessions : List SessionState) (s : ℕ) (work : Work) (statement : Statement) (columns : List ℕ) (done left : List Change)
    → columns ≡ indexed (table_at tables work.table) → IsCollecting tables sessions s work (phase_with statement columns done left)
with_collects tables sessions s work statement columns done [] is = tt
with_collects tables sessions s work statement columns done (change ∷ left) is = begun_collects tables sessions s work statement columns done change left is

keys_collect : (tables : List StoredTable) (sessions : List SessionState) (s : ℕ) (work : Work) (other : StoredTable) (statement : Statement) (keys : List ℤ) (read : List (ℤ × Option Row))
    → indexed other ≡ indexed (table_at tables work.table) → IsCollecting tables sessions s work (phase_of_keys other statement keys read)
keys_collect tables sessions s work other statement [] read is = with_collects tables sessions s work statement (indexed other) [] (changes_of statement read) is
keys_collect tables sessions s work other statement (key ∷ keys) read is = tt

way_collects : (tables : List StoredTable) (sessions : List SessionState) (s : ℕ) (work : Work) (way : Way) → IsCollecting tables sessions s work (phase_by way)
way_collects tables sessions s work (by_key key) = tt
way_collects tables sessions s work (by_box column predicate) = tt
way_collects tables sessions s work by_scan = tt

first_collects : (tables : List StoredTable) (sessions : List SessionState) (s : ℕ) (work : Work) (other : StoredTable) (statement : Statement) (way : Way)
    → indexed other ≡ indexed (table_at tables work.table) → IsCollecting tables sessions s work (first_phase other statement way)
first_collects tables sessions s work other (Insert name rows) way is = with_collects tables sessions s work (Insert name rows) (indexed other) [] (map adding rows) is
first_collects tables sessions s work other (Select name columns w) way is = way_collects tables sessions s work way
first_collects tables sessions s work other (Create name schema) way is = way_collects tables sessions s work way
first_collects tables sessions s work other (Update name sets w) way is = way_collects tables sessions s work way
first_collects tables sessions s work other (Delete name w) way is = way_collects tables sessions s work way
first_collects tables sessions s work other Begin way is = way_collects tables sessions s work way
first_collects tables sessions s work other Commit way is = way_collects tables sessions s work way
first_collects tables sessions s work other Rollback way is = way_collects tables sessions s work way
first_collects tables sessions s work other (Refused refusal) way is = way_collects tables sessions s work way

-- ---- what is placed stays placed

placed_more : (session new : SessionState) (notes : List Note) (number : ℕ) → new.notes ≡ session.notes ++ notes → Has (placed_by session) number → Has (placed_by new) number
placed_more session new notes number is h =
    subst (λ (xs : List ℕ). Has xs number) (sym (ap (filter_map (λ (note : Note). placed_in note.how note.entry.number)) is ∙ filter_map-append (λ (note : Note). placed_in note.how note.entry.number) session.notes notes))
    (Has-append_left (placed_by session) (filter_map (λ (note : Note). placed_in note.how note.entry.number) notes) number h)

placed_now : (session new : SessionState) (note : Note) (number : ℕ) → new.notes ≡ session.notes ++ note ∷ [] → placed_in note.how note.entry.number ≡ Some number → Has (placed_by new) number
placed_now session new note number is placed =
    subst (λ (xs : List ℕ). Has xs number) (sym (ap (filter_map (λ (n : Note). placed_in n.how n.entry.number)) is ∙ filter_map-append (λ (n : Note). placed_in n.how n.entry.number) session.notes (note ∷ [])))
    (Has-append_right (placed_by session) (filter_map (λ (n : Note). placed_in n.how n.entry.number) (note ∷ [])) number (one (placed_in note.how note.entry.number) placed))
  where
    one : (o : Option ℕ) → o ≡ Some number → Has (cons_option o []) number
    one None e = absurd (none_some number e)
    one (Some n) e = inl (some_is n number e)

module _ (m : Machine) (state : State) (good : IsProper m) (o : InOrder m state) where
  abbrev Collects : List StoredTable → List SessionState → ℕ → SessionState → Work → Type 0
  Collects tables sessions k session work = IsCollecting tables sessions k work work.phase

  -- a pending entry lies where it lay
  abbrev LieStill : List StoredTable → Type 0
  LieStill tables = (k : ℕ) (e : EntryAt) → IsPending state.sessions k e.number → LiesIn state.tables e → LiesIn tables e

  abbrev SameColumns : List StoredTable → Type 0
  SameColumns tables = (n : ℕ) → indexed (table_at tables n) ≡ indexed (table_at state.tables n)

  collecting_on : (tables : List StoredTable) (sessions : List SessionState) (k : ℕ) (work : Work) (phase : Phase) → LieStill tables → SameColumns tables
      → ((number : ℕ) → IsPending state.sessions k number → IsPending sessions k number) → IsCollecting state.tables state.sessions k work phase → IsCollecting tables sessions k work phase
  collecting_on tables sessions k work (locking keys) lie columns pend h = tt
  collecting_on tables sessions k work visiting lie columns pend h = tt
  collecting_on tables sessions k work (scanning last) lie columns pend h = tt
  collecting_on tables sessions k work (answering done) lie columns pend h = tt
  collecting_on tables sessions k work (writing done [] progress) lie columns pend h = tt
  collecting_on tables sessions k work (writing done (change ∷ left) unlocked) lie columns pend h = tt
  collecting_on tables sessions k work (writing done (change ∷ left) (entering e)) lie columns pend h = record {
    lies = λ column number has. lie k (record { table = work.table; column = column; key = change.key; number = number; box = box_of_new change.new column }) (h.pending column number has) (h.lies column number has);
    pending = λ column number has. pend number (h.pending column number has);
    columns = h.columns ∙ ap (λ (cs : List ℕ). columns_for cs change.old change.new) (sym (columns work.table));
  }

  step : (s : ℕ) (tables : List StoredTable) (new : SessionState) → IsActive state s → LieStill tables → SameColumns tables
      → ((work : Work) → new.work ≡ Some work → Collects tables (slice_set state.sessions s new) s new work) → HaveCollected tables (slice_set state.sessions s new)
  step s tables new active lie columns own =
      work_step (Collects tables (slice_set state.sessions s new)) state.sessions s new active.not_over own
      (λ k ne work at. collecting_on tables (slice_set state.sessions s new) k work work.phase lie columns
      (λ number h. subst (λ (x : SessionState). Has (placed_by x) number) (sym (other_at state.sessions s k new ne)) h) (o.collected k work at))

  lie_same : LieStill state.tables
  lie_same k e p h = h

  columns_same : SameColumns state.tables
  columns_same n = refl

  lie_trees : (tables : List StoredTable) → SameTrees state.tables tables → LieStill tables
  lie_trees tables same k e p h = subst (λ (t : Tree). IsOnLeaf t (leaf_entry e) e.key e.number) (sym (same_tree state.tables tables same e.table e.column)) h

  -- its own work
  own_work : (s : ℕ) (tables : List StoredTable) (new : SessionState) (f : Work → Work) (work : Work) → IsActive state s → LieStill tables → SameColumns tables
      → (session_at state.sessions s).work ≡ Some work → new.work ≡ option_map f (session_at state.sessions s).work
      → Collects tables (slice_set state.sessions s new) s new (f work) → HaveCollected tables (slice_set state.sessions s new)
  own_work s tables new f work active lie columns at is c =
      step s tables new active lie columns
      (λ now now_at. subst (λ (w : Work). Collects tables (slice_set state.sessions s new) s new w) (carried f (session_at state.sessions s) new work now is at now_at) c)

  -- what it has placed is still pending
  own_pending : (s : ℕ) (new : SessionState) (notes : List Note) → IsActive state s → new.notes ≡ (session_at state.sessions s).notes ++ notes → (number : ℕ) → IsPending state.sessions s number
      → IsPending (slice_set state.sessions s new) s number
  own_pending s new notes active is number h =
      subst (λ (x : SessionState). Has (placed_by x) number) (sym (same_at state.sessions s new (seated state.sessions s active.not_over))) (placed_more (session_at state.sessions s) new notes number is h)

  same_pending : (s : ℕ) (new : SessionState) → IsActive state s → new.notes ≡ (session_at state.sessions s).notes → (number : ℕ) → IsPending state.sessions s number → IsPending (slice_set state.sessions s new) s number
  same_pending s new active is number h =
      subst (λ (x : SessionState). Has (placed_by x) number) (sym (same_at state.sessions s new (seated state.sessions s active.not_over)))
      (subst (λ (xs : List Note). Has (filter_map (λ (n : Note). placed_in n.how n.entry.number) xs) number) (sym is) h)

  -- an entry under way: what it has collected stays
  entry_collects : (s : ℕ) (new : SessionState) (now : Work) (f : Entering → Entering) (en : IsEntering (session_at state.sessions s)) → IsActive state s → new.notes ≡ (session_at state.sessions s).notes
      → now.table ≡ en.work.table → (f en.e).placed ≡ en.e.placed → (f en.e).columns ≡ en.e.columns
      → IsCollecting state.tables (slice_set state.sessions s new) s now (phase_with_entry f en.work.phase)
  entry_collects s new now f en active notes table placed columns =
      let c : HasCollected state.tables state.sessions s en.work en.change en.e = subst (IsCollecting state.tables state.sessions s en.work) en.phase (o.collected s en.work en.goes_on.at_work) in
      subst (λ p. IsCollecting state.tables (slice_set state.sessions s new) s now (phase_with_entry f p)) (sym en.phase)
      (record {
        lies = λ column number has. subst (λ t. LiesIn state.tables (record { table = t; column = column; key = en.change.key; number = number; box = box_of_new en.change.new column })) (sym table)
            (c.lies column number (subst (λ xs. Has {X = ℕ × ℕ} xs (column, number)) placed has));
        pending = λ column number has. same_pending s new active notes number (c.pending column number (subst (λ xs. Has {X = ℕ × ℕ} xs (column, number)) placed has));
        columns = ap (λ xs. map (λ p. p.0) xs ++ (f en.e).columns) placed ∙ ap (λ cs. map (λ p. p.0) en.e.placed ++ cs) columns ∙ c.columns
            ∙ ap (λ t. columns_for (indexed (table_at state.tables t)) en.change.old en.change.new) (sym table);
      })

  -- ---- an entry that is placed

  lie_place : (s : ℕ) (d : Descent) (q : ℕ) (ds : List Division) → IsPlacing state (session_at state.sessions s) d → MayPlaceEntry state s d q ds
      → (e : EntryAt) → LiesIn state.tables e → LiesIn (change_table d.table (with_tree d.column (tree_after_place d state.entries q ds)) state.tables) e
  lie_place s d q ds at may e h = elim (changed_or_same d.table d.column (tree_after_place d state.entries q ds) state.tables e.table e.column) [
    | inl is ↦ subst (λ (t : Tree). IsOnLeaf t (leaf_entry e) e.key e.number) (sym is.is)
        (subst (λ (t : Tree). IsOnLeaf (tree_after_place d state.entries q ds t) (leaf_entry e) e.key e.number) (sym (same is.table is.column))
        ((more (leaf_entry e) e.key e.number).1 (inl (subst (λ (t : Tree). IsOnLeaf t (leaf_entry e) e.key e.number) (same is.table is.column) h))))
    | inr is ↦ subst (λ (t : Tree). IsOnLeaf t (leaf_entry e) e.key e.number) (sym is) h
  ]
    where
      same : e.table ≡ d.table → e.column ≡ d.column → tree_of (table_at state.tables e.table) e.column ≡ tree_of (table_at state.tables d.table) d.column
      same t c = ap (λ n. tree_of (table_at state.tables n) e.column) t ∙ ap (tree_of (table_at state.tables d.table)) c

      more : OneMoreOnLeaves (tree_for state d) (tree_after_place d state.entries q ds (tree_for state d)) d.box d.key state.entries
      more = place_on_leaves (tree_for state d) d.path d.box d.key state.entries q ds (o.whole d.table d.column (place_listed m state good o s d at)) (placing_stands state (session_at state.sessions s) d at)
          (placing_box state (session_at state.sessions s) d at) may.can

  -- the new entry lies there
  new_lies : (s : ℕ) (d : Descent) (q : ℕ) (ds : List Division) → IsPlacing state (session_at state.sessions s) d → MayPlaceEntry state s d q ds
      → LiesIn (change_table d.table (with_tree d.column (tree_after_place d state.entries q ds)) state.tables) (record { table = d.table; column = d.column; key = d.key; number = state.entries; box = d.box })
  new_lies s d q ds at may =
      subst (λ (t : Tree). IsOnLeaf t (record { b = d.box; to = ToRow d.key state.entries }) d.key state.entries)
      (sym (tree_here d.table d.column (tree_after_place d state.entries q ds) state.tables (place_listed m state good o s d at)))
      ((place_on_leaves (tree_for state d) d.path d.box d.key state.entries q ds (o.whole d.table d.column (place_listed m state good o s d at)) (placing_stands state (session_at state.sessions s) d at)
      (placing_box state (session_at state.sessions s) d at) may.can (record { b = d.box; to = ToRow d.key state.entries }) d.key state.entries).1
      (inr (record { entry = refl; same_key = refl; same_number = refl })))

  place_collects : (s : ℕ) (d : Descent) (q : ℕ) (ds : List Division) (new : SessionState) (now : Work) (at : IsPlacing state (session_at state.sessions s) d) → MayPlaceEntry state s d q ds → IsActive state s
      → new.notes ≡ (session_at state.sessions s).notes ++ note_of d state.entries (session_at state.sessions s).number ∷ [] → now.table ≡ at.descending.entering.work.table
      → IsCollecting (change_table d.table (with_tree d.column (tree_after_place d state.entries q ds)) state.tables) (slice_set state.sessions s new) s now
      (phase_with_entry (with_placed d.column state.entries) at.descending.entering.work.phase)
  place_collects s d q ds new now at may active notes table =
      subst (λ p. IsCollecting (change_table d.table (with_tree d.column (tree_after_place d state.entries q ds)) state.tables) (slice_set state.sessions s new) s now (phase_with_entry (with_placed d.column state.entries) p))
      (sym at.descending.entering.phase)
      (record {
        lies = λ column number has. lies_cases column number (Has-append at.descending.entering.e.placed ((d.column, state.entries) ∷ []) (column, number) has);
        pending = λ column number has. pending_cases column number (Has-append at.descending.entering.e.placed ((d.column, state.entries) ∷ []) (column, number) has);
        columns = columns_now;
      })
    where
      c : HasCollected state.tables state.sessions s at.descending.entering.work at.descending.entering.change at.descending.entering.e
      c = subst (IsCollecting state.tables state.sessions s at.descending.entering.work) at.descending.entering.phase (o.collected s at.descending.entering.work at.descending.entering.goes_on.at_work)

      lies_cases : (column number : ℕ) → Has {X = ℕ × ℕ} at.descending.entering.e.placed (column, number) ⊎ Has {X = ℕ × ℕ} ((d.column, state.entries) ∷ []) (column, number)
          → LiesIn (change_table d.table (with_tree d.column (tree_after_place d state.entries q ds)) state.tables)
          (record { table = now.table; column = column; key = at.descending.entering.change.key; number = number; box = box_of_new at.descending.entering.change.new column })
      lies_cases column number (inl h) =
          subst (λ t. LiesIn (change_table d.table (with_tree d.column (tree_after_place d state.entries q ds)) state.tables)
          (record { table = t; column = column; key = at.descending.entering.change.key; number = number; box = box_of_new at.descending.entering.change.new column })) (sym table)
          (lie_place s d q ds at may (record { table = at.descending.entering.work.table; column = column; key = at.descending.entering.change.key; number = number; box = box_of_new at.descending.entering.change.new column })
          (c.lies column number h))
      lies_cases column number (inr (inl e)) =
          subst (λ n. LiesIn (change_table d.table (with_tree d.column (tree_after_place d state.entries q ds)) state.tables)
          (record { table = now.table; column = column; key = at.descending.entering.change.key; number = n; box = box_of_new at.descending.entering.change.new column })) (ap (λ p. p.1) e)
          (subst (λ k. LiesIn (change_table d.table (with_tree d.column (tree_after_place d state.entries q ds)) state.tables)
          (record { table = now.table; column = k; key = at.descending.entering.change.key; number = state.entries; box = box_of_new at.descending.entering.change.new k }))
          (sym (ap (λ (x : Descent). x.column) at.descending.descent) ∙ ap (λ p. p.0) e)
          (subst (λ t. LiesIn (change_table d.table (with_tree d.column (tree_after_place d state.entries q ds)) state.tables)
          (record { table = t; column = at.descending.column; key = at.descending.entering.change.key; number = state.entries; box = box_of_new at.descending.entering.change.new at.descending.column })) (sym table)
          (subst (λ (x : Descent). LiesIn (change_table d.table (with_tree d.column (tree_after_place d state.entries q ds)) state.tables)
          (record { table = x.table; column = x.column; key = x.key; number = state.entries; box = x.box })) at.descending.descent (new_lies s d q ds at may))))
      lies_cases column number (inr (inr h)) = absurd h

      pending_cases : (column number : ℕ) → Has {X = ℕ × ℕ} at.descending.entering.e.placed (column, number) ⊎ Has {X = ℕ × ℕ} ((d.column, state.entries) ∷ []) (column, number)
          → IsPending (slice_set state.sessions s new) s number
      pending_cases column number (inl h) = own_pending s new (note_of d state.entries (session_at state.sessions s).number ∷ []) active notes number (c.pending column number h)
      pending_cases column number (inr (inl e)) =
          subst (λ (x : SessionState). Has (placed_by x) number) (sym (same_at state.sessions s new (seated state.sessions s active.not_over)))
          (placed_now (session_at state.sessions s) new (note_of d state.entries (session_at state.sessions s).number) number notes (ap (λ p. Some p.1) e))
      pending_cases column number (inr (inr h)) = absurd h

      columns_now : map (λ p. p.0) (at.descending.entering.e.placed ++ (d.column, state.entries) ∷ []) ++ drop 1 at.descending.entering.e.columns
          ≡ columns_for (indexed (table_at (change_table d.table (with_tree d.column (tree_after_place d state.entries q ds)) state.tables) now.table)) at.descending.entering.change.old at.descending.entering.change.new
      columns_now =
          ap (λ cs. map (λ p. p.0) (at.descending.entering.e.placed ++ (d.column, state.entries) ∷ []) ++ drop 1 cs) at.descending.next
          ∙ ap (λ cs. cs ++ at.descending.columns) (map-append (λ p. p.0) at.descending.entering.e.placed ((d.column, state.entries) ∷ []))
          ∙ append_assoc (map (λ p. p.0) at.descending.entering.e.placed) (d.column ∷ []) at.descending.columns
          ∙ ap (λ k. map (λ p. p.0) at.descending.entering.e.placed ++ k ∷ at.descending.columns) (ap (λ (x : Descent). x.column) at.descending.descent)
          ∙ ap (λ cs. map (λ p. p.0) at.descending.entering.e.placed ++ cs) (sym at.descending.next) ∙ c.columns
          ∙ ap (λ (cs : List ℕ). columns_for cs at.descending.entering.change.old at.descending.entering.change.new)
          (ap (λ t. indexed (table_at state.tables t)) (sym table) ∙ sym (indexed_stay d.table d.column (tree_after_place d state.entries q ds) state.tables now.table))

  -- ---- purges

  lie_purged : (queue : List Queued) → state.queue ≡ queue → LieStill (tables_purged state.locks queue state.tables)
  lie_purged [] is k e p h = h
  lie_purged (dead_entry x ∷ queue) is k e p h = elim (changed_or_same x.table x.column (without_entry x.number) state.tables e.table e.column) [
    | inl c ↦ subst (λ (t : Tree). IsOnLeaf t (leaf_entry e) e.key e.number) (sym c.is) ((remove_on_leaves (tree_of (table_at state.tables e.table) e.column) x.number (leaf_entry e) e.key e.number).1 (h, alive))
    | inr same ↦ subst (λ (t : Tree). IsOnLeaf t (leaf_entry e) e.key e.number) (sym same) h
  ]
    where
      alive : (e.number == x.number) ≡ false
      alive = by_test (e.number == x.number) refl
        where
          by_test : (b : Bool) → (e.number == x.number) ≡ b → b ≡ false
          by_test true i =
              absurd (o.one_status.pending_alive e.number k p (subst (λ n. IsDead state.queue n) (sym (eqb-true e.number x.number i)) (subst (λ (xs : List Queued). Has (queued_numbers xs) x.number) (sym is) (inl refl))))
          by_test false i = refl
  lie_purged (dead_row number key ∷ queue) is k e p h =
      lie_trees (cond (may_leave state.locks (table_at state.tables number) number key) (change_table number (table_without key) state.tables) state.tables)
      (purged_row_leaves_trees (may_leave state.locks (table_at state.tables number) number key) number key state.tables) k e p h

  columns_purged : (queue : List Queued) → SameColumns (tables_purged state.locks queue state.tables)
  columns_purged [] n = refl
  columns_purged (dead_entry x ∷ queue) n = indexed_stay x.table x.column (without_entry x.number) state.tables n
  columns_purged (dead_row number key ∷ queue) n =
      same_indexed state.tables (cond (may_leave state.locks (table_at state.tables number) number key) (change_table number (table_without key) state.tables) state.tables)
      (purged_row_leaves_trees (may_leave state.locks (table_at state.tables number) number key) number key state.tables) n

  -- ---- each event

  without_work : (s : ℕ) (new : SessionState) → IsActive state s → new.work ≡ None → HaveCollected state.tables (slice_set state.sessions s new)
  without_work s new active none = step s state.tables new active lie_same columns_same (λ work at. absurd (no_work new work none at))

  created : (s : ℕ) (tables : List StoredTable) (new : SessionState) → IsActive state s → s ≡ 0 → new.work ≡ None → HaveCollected tables (slice_set state.sessions s new)
  created s tables new active is none =
      work_step (Collects tables (slice_set state.sessions s new)) state.sessions s new active.not_over (λ work at. absurd (no_work new work none at))
      (λ k ne work at. absurd (no_work (session_at state.sessions k) work
      (o.idle.setup_first (subst (λ i. (session_at state.sessions i).over ≡ false) is active.not_over) k (ap (λ i. k == i) (sym is) ∙ ne)).0.no_work at))

  undone : (s : ℕ) (tables : List StoredTable) (new : SessionState) → IsActive state s → SameTrees state.tables tables → new.work ≡ (session_at state.sessions s).work
      → new.notes ≡ (session_at state.sessions s).notes → HaveCollected tables (slice_set state.sessions s new)
  undone s tables new active same is notes =
      step s tables new active (lie_trees tables same) (same_indexed state.tables tables same)
      (λ work now_at. collecting_on tables (slice_set state.sessions s new) s work work.phase (lie_trees tables same) (same_indexed state.tables tables same) (same_pending s new active notes) (o.collected s work (sym is ∙ now_at)))

  refused : (ds : List Deadlock) → HaveCollected state.tables (with_victims state.sessions ds)
  refused ds =
      work_victims (Collects state.tables (with_victims state.sessions ds)) (λ k x work h. h) state.sessions ds
      (λ k work at. collecting_on state.tables (with_victims state.sessions ds) k work work.phase lie_same columns_same
      (λ number h. subst (λ (xs : List ℕ). Has xs number) (sym (victims_keep placed_by (λ x. refl) state.sessions ds k)) h) (o.collected k work at))

  begins : (s number : ℕ) (new : SessionState) (work : Work) → IsActive state s → new.work ≡ Some work → IsCollecting state.tables (slice_set state.sessions s new) s work work.phase
      → HaveCollected state.tables (slice_set state.sessions s new)
  begins s number new work active is c =
      step s state.tables new active lie_same columns_same (λ now now_at. subst (λ (w : Work). Collects state.tables (slice_set state.sessions s new) s new w) (some_is work now (sym is ∙ now_at)) c)

  key_collects : (tables : List StoredTable) (sessions : List SessionState) (s : ℕ) (now work : Work) (other : StoredTable) (key : ℤ) (keys : List ℤ) (read : List (ℤ × Option Row)) → work.phase ≡ locking (key ∷ keys)
      → indexed other ≡ indexed (table_at tables now.table) → IsCollecting tables sessions s now (phase_after_key other work.statement work.phase read)
  key_collects tables sessions s now work other key keys read is columns =
      subst (λ p. IsCollecting tables sessions s now (phase_after_key other work.statement p read)) (sym is) (keys_collect tables sessions s now other work.statement keys read columns)

  row_key_collects : (tables : List StoredTable) (sessions : List SessionState) (s : ℕ) (now work : Work) (other : StoredTable) (done : List Change) (change : Change) (left : List Change) (read : List (ℤ × Option Row))
      → work.phase ≡ writing done (change ∷ left) unlocked → indexed other ≡ indexed (table_at tables now.table) → IsCollecting tables sessions s now (phase_after_key other work.statement work.phase read)
  row_key_collects tables sessions s now work other done change left read is columns =
      subst (λ p. IsCollecting tables sessions s now (phase_after_key other work.statement p read)) (sym is)
      (record { lies = λ column number h. absurd h; pending = λ column number h. absurd h; columns = ap (λ (cs : List ℕ). columns_for cs change.old change.new) columns })

  visit_collects : (tables : List StoredTable) (sessions : List SessionState) (s : ℕ) (now : Work) (other : StoredTable) (statement : Statement) (x : Search) → indexed other ≡ indexed (table_at tables now.table)
      → IsCollecting tables sessions s now (phase_after_visit other statement x)
  visit_collects tables sessions s now other statement x columns = by_stack (is_empty x.stack)
    where
      by_stack : (b : Bool) → IsCollecting tables sessions s now (cond b (phase_of_keys other statement (rising x.found) []) visiting)
      by_stack true = keys_collect tables sessions s now other statement (rising x.found) [] columns
      by_stack false = tt

  scan_collects : (tables : List StoredTable) (sessions : List SessionState) (s : ℕ) (now : Work) (other : StoredTable) (statement : Statement) (leaf : Leaf) (read : List (ℤ × Option Row))
      → indexed other ≡ indexed (table_at tables now.table) → IsCollecting tables sessions s now (phase_after_leaf other statement leaf read)
  scan_collects tables sessions s now other statement leaf read columns = by_last (is_none (leaf_behind other.leaves leaf.page))
    where
      by_last : (b : Bool) → IsCollecting tables sessions s now (cond b (phase_with statement (indexed other) [] (changes_of statement read)) (scanning (Some leaf.page)))
      by_last true = with_collects tables sessions s now statement (indexed other) [] (changes_of statement read) columns
      by_last false = tt

  row_collects : (tables : List StoredTable) (sessions : List SessionState) (s : ℕ) (now : Work) (other : StoredTable) (en : IsEntering (session_at state.sessions s)) → indexed other ≡ indexed (table_at tables now.table)
      → IsCollecting tables sessions s now (phase_after_row other en.work en.work.phase)
  row_collects tables sessions s now other en columns =
      subst (λ p. IsCollecting tables sessions s now (phase_after_row other en.work p)) (sym en.phase) (with_collects tables sessions s now en.work.statement (indexed other) (en.done ++ en.change ∷ []) en.left columns)

  -- a session that has failed for want of room keeps what it has collected
  full_collects : (s : ℕ) (new : SessionState) (en : IsEntering (session_at state.sessions s)) → IsActive state s → new.notes ≡ (session_at state.sessions s).notes
      → IsCollecting state.tables (slice_set state.sessions s new) s (failed_full en.work) en.work.phase
  full_collects s new en active notes =
      let c : HasCollected state.tables state.sessions s en.work en.change en.e = subst (IsCollecting state.tables state.sessions s en.work) en.phase (o.collected s en.work en.goes_on.at_work) in
      subst (IsCollecting state.tables (slice_set state.sessions s new) s (failed_full en.work)) (sym en.phase)
      (record { lies = c.lies; pending = λ column number has. same_pending s new active notes number (c.pending column number has); columns = c.columns })

  columns_at : (number : ℕ) (work : Work) → number ≡ work.table → indexed (table_at state.tables number) ≡ indexed (table_at state.tables work.table)
  columns_at number work is = ap (λ n. indexed (table_at state.tables n)) is

  pub collected_each : EachKeeps m state (λ (st : State). HaveCollected st.tables st.sessions)
  collected_each = record {
    still = o.collected;
    purge = λ some k work at. collecting_on (tables_purged state.locks state.queue state.tables) state.sessions k work work.phase (lie_purged state.queue refl) (columns_purged state.queue) (λ number h. h) (o.collected k work at);
    end = λ s over active. without_work s _ active refl;
    answer = λ s reply active at. without_work s _ active refl;
    undo = λ s entry more active at. undone s _ _ active (change_leaves_trees entry.table (table_with_row entry.key (restored entry.image)) state.tables (λ t. refl)) refl refl;
    create = λ s over name schema leaf roots active at may. created s _ _ active at.setup refl;
    refuse = λ s on ds active at may. refused ds;
    lock_table = λ s statement number mode active at none. begins s number _ (begun_work (table_at state.tables number) number statement (m.ways (table_at state.tables number).schema statement) (length (session_at state.sessions s).undo)) active refl
        (first_collects state.tables _ s (begun_work (table_at state.tables number) number statement (m.ways (table_at state.tables number).schema statement) (length (session_at state.sessions s).undo))
        (table_at state.tables number) statement (m.ways (table_at state.tables number).schema statement) refl);
    lock_key = λ s number key mode active at none. own_work s state.tables _ _ at.work active lie_same columns_same at.goes_on.at_work refl
        (key_collects state.tables _ s (work_after_key (table_at state.tables number) (row_of (present (table_at state.tables number) key)) at.work) at.work (table_at state.tables number) key at.keys _ at.phase (columns_at number at.work at.number_is));
    lock_row = λ s number key mode active at none. own_work s state.tables _ _ at.work active lie_same columns_same at.goes_on.at_work refl
        (row_key_collects state.tables _ s (work_after_key (table_at state.tables number) (row_of (present (table_at state.tables number) key)) at.work) at.work (table_at state.tables number) at.done at.change at.left _ at.phase
        (columns_at number at.work at.number_is));
    visit = λ s number column predicate active at. own_work s state.tables _ _ at.work active lie_same columns_same at.goes_on.at_work refl
        (visit_collects state.tables _ s (work_after_visit (table_at state.tables number) (seen_now m state o s number column predicate at) at.work) (table_at state.tables number) at.work.statement (seen_now m state o s number column predicate at)
        (columns_at number at.work at.number_is));
    scan = λ s number leaf active at. own_work s state.tables _ _ at.work active lie_same columns_same at.goes_on.at_work refl
        (scan_collects state.tables _ s (work_after_scan (table_at state.tables number) leaf at.work) (table_at state.tables number) at.work.statement leaf (at.work.read ++ map as_read (rows_in leaf)) (columns_at number at.work at.number_is));
    step = λ s d q active at may. own_work s state.tables _ _ at.descending.entering.work active lie_same columns_same at.descending.entering.goes_on.at_work refl
        (entry_collects s _ (change_entering (stepped (tree_for state d) q) at.descending.entering.work) (stepped (tree_for state d) q) at.descending.entering active refl refl refl refl);
    stale = λ s d active at. own_work s state.tables _ _ at.descending.entering.work active lie_same columns_same at.descending.entering.goes_on.at_work refl
        (entry_collects s _ (change_entering without_path at.descending.entering.work) without_path at.descending.entering active refl refl refl refl);
    full = λ s active at. own_work s state.tables _ _ at.work active lie_same columns_same at.goes_on.at_work refl
        (full_collects s _ at active refl);
    place = λ s d q ds active at may. own_work s _ _ _ at.descending.entering.work active (λ k e p h. lie_place s d q ds at may e h)
        (λ n. indexed_stay d.table d.column (tree_after_place d state.entries q ds) state.tables n) at.descending.entering.goes_on.at_work refl
        (place_collects s d q ds _ (change_entering (with_placed d.column state.entries) at.descending.entering.work) at may active refl refl);
    row = λ s number change placed p active at may. own_work s _ _ _ at.entering.work active
        (lie_trees _ (change_leaves_trees number (table_after_row p change placed change.new) state.tables (λ t. after_row_leaves_trees p change placed change.new t)))
        (same_indexed state.tables _ (change_leaves_trees number (table_after_row p change placed change.new) state.tables (λ t. after_row_leaves_trees p change placed change.new t))) at.entering.goes_on.at_work refl
        (row_collects (change_table number (table_after_row p change placed change.new) state.tables) _ s (work_after_row (table_at state.tables number) at.entering.work) (table_at state.tables number) at.entering
        (columns_at number at.entering.work at.number_is
        ∙ sym (same_indexed state.tables (change_table number (table_after_row p change placed change.new) state.tables)
        (change_leaves_trees number (table_after_row p change placed change.new) state.tables (λ t. after_row_leaves_trees p change placed change.new t)) at.entering.work.table)));
  }

pub collected_kept : (m : Machine) (state : State) (actor : Actor) (choice : Choice) → IsProper m → InOrder m state → MayHappen m state actor choice
    → HaveCollected (after m state actor choice).tables (after m state actor choice).sessions
collected_kept m state actor choice good o h = event_keeps m state good o (λ (st : State). HaveCollected st.tables st.sessions) (collected_each m state good o) actor choice h
