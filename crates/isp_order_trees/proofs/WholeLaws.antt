-- Each tree of each table stays a forest.
use Rattle.std.proofs.Common.{◌≡◌, inl, inr, refl, sym, subst, ℕ, ℤ, Bool, true, false, cond, Option, Some, None, List, [], ◌∷◌, ◌++◌}
use Rattle.isp_base.specs.Lists.{Has}
use Rattle.isp_mbr.specs.Boxes.{IsBox}
use Rattle.isp_plain.specs.declared.value.Row.{Row}
use Rattle.isp_plain.specs.declared.value.Schema.{Schema}
use Rattle.isp_reclock.specs.declared.entries.Lock.{Lock}
use Rattle.isp_forest.specs.Tree.{Tree}
use Rattle.isp_forest.specs.Forest.{Forest}
use Rattle.isp_forest.specs.Place.{Stands}
use Rattle.isp_laws.proofs.PlaceLaws.{place_forest}
use Rattle.isp_laws.proofs.RemoveLaws.{remove_keeps}
use Rattle.isp_events.specs.Stored.{StoredTable, change_table, indexed, table_at, tree_of}
use Rattle.isp_events.specs.Sessions.{Change, SessionState, session_at}
use Rattle.isp_events.specs.State.{State, Queued, dead_entry, dead_row}
use Rattle.isp_events.specs.Ways.{Machine}
use Rattle.isp_events.specs.Next.{Descent}
use Rattle.isp_events.specs.Placing.{tree_after_place, tree_for}
use Rattle.isp_events.specs.Writing.{Put, table_after_row}
use Rattle.isp_events.specs.Ending.{indexed_in, new_table}
use Rattle.isp_events.specs.Purging.{may_leave, table_without, tables_purged, without_entry}
use Rattle.isp_events.specs.Events.{Actor, Choice, MayHappen, after}
use Rattle.isp_event_laws.proofs.StandsLaws.{stands_by_test}
use Rattle.isp_order.specs.Trees.{AreWhole}
use Rattle.isp_order.specs.InOrder.{InOrder, IsProper}
use Rattle.isp_causes.specs.Causes.{IsPlacing}
use Rattle.isp_causes.proofs.EventCases.{EachKeeps, event_keeps}
use Rattle.isp_order_trees.proofs.TreeParts.{SameTrees, change_leaves_trees, empty_trees_whole, indexed_stay, new_box, new_from, row_leaves_trees, same_indexed, same_tree, tree_keeps, with_tree}

-- ---- trees that stay

pub whole_same : (tables after : List StoredTable) → SameTrees tables after → AreWhole tables → AreWhole after
whole_same tables after same whole i k listed =
    subst Forest (sym (same_tree tables after same i k)) (whole i k (subst (λ columns. Has columns k) (same_indexed tables after same i) listed))

pub after_row_leaves_trees : (p : Put) (change : Change) (placed : List (ℕ × ℕ)) (new : Option Row) (table : StoredTable) → (table_after_row p change placed new table).trees ≡ table.trees
after_row_leaves_trees p change placed None table = refl
after_row_leaves_trees p change placed (Some new) table = row_leaves_trees p change.key placed new table

pub purged_row_leaves_trees : (b : Bool) (number : ℕ) (key : ℤ) (tables : List StoredTable) → SameTrees tables (cond b (change_table number (table_without key) tables) tables)
purged_row_leaves_trees true number key tables = change_leaves_trees number (table_without key) tables (λ t. refl)
purged_row_leaves_trees false number key tables = λ i. refl

-- ---- trees that change

pub whole_with : (n c : ℕ) (g : Tree → Tree) (tables : List StoredTable) → (Forest (tree_of (table_at tables n) c) → Forest (g (tree_of (table_at tables n) c))) → AreWhole tables
    → AreWhole (change_table n (with_tree c g) tables)
whole_with n c g tables keeps whole i k listed =
    let listed' : Has (indexed (table_at tables i)) k = subst (λ columns. Has columns k) (indexed_stay n c g tables i) listed in
    tree_keeps Forest n c g tables keeps i k listed' (whole i k listed')

whole_purged : (locks : List Lock) (queue : List Queued) (tables : List StoredTable) → AreWhole tables → AreWhole (tables_purged locks queue tables)
whole_purged locks [] tables whole = whole
whole_purged locks (dead_entry e ∷ queue) tables whole = whole_with e.table e.column (without_entry e.number) tables (λ f. remove_keeps (tree_of (table_at tables e.table) e.column) e.number f) whole
whole_purged locks (dead_row number key ∷ queue) tables whole =
    whole_same tables (cond (may_leave locks (table_at tables number) number key) (change_table number (table_without key) tables) tables)
    (purged_row_leaves_trees (may_leave locks (table_at tables number) number key) number key tables) whole

-- what a placing has at hand
pub placing_stands : (state : State) (session : SessionState) (d : Descent) → IsPlacing state session d → Stands (tree_for state d) d.path
placing_stands state session d at = stands_by_test (tree_for state d) d.path at.stands

pub placing_box : (state : State) (session : SessionState) (d : Descent) → IsPlacing state session d → IsBox d.box
placing_box state session d at = subst (λ (x : Descent). IsBox x.box) (sym at.descending.descent) (new_box at.descending.entering.change.new at.descending.column)

whole_new : (tables : List StoredTable) (name : List ℕ) (schema : Schema) (leaf : ℕ) (roots : List ℕ) → AreWhole tables → AreWhole (tables ++ new_table name schema leaf roots ∷ [])
whole_new tables name schema leaf roots whole i k listed = elim (new_from 1 i (new_table name schema leaf roots) tables) [
  | inl was ↦ subst (λ (t : StoredTable). Forest (tree_of t k)) (sym was) (whole i k (subst (λ (t : StoredTable). Has (indexed t) k) was listed))
  | inr new ↦ subst (λ (t : StoredTable). Forest (tree_of t k)) (sym new) (empty_trees_whole (indexed_in schema) roots k (subst (λ (t : StoredTable). Has (indexed t) k) new listed))
]

pub whole_kept : (m : Machine) (state : State) (actor : Actor) (choice : Choice) → IsProper m → InOrder m state → MayHappen m state actor choice
    → AreWhole (after m state actor choice).tables
whole_kept m state actor choice good o h = event_keeps m state good o (λ (st : State). AreWhole st.tables) each actor choice h
  where
    each : EachKeeps m state (λ (st : State). AreWhole st.tables)
    each = record {
      still = o.whole;
      purge = λ some. whole_purged state.locks state.queue state.tables o.whole;
      end = λ s over active. o.whole;
      answer = λ s reply active at. o.whole;
      undo = λ s entry more active at. whole_same state.tables _ (change_leaves_trees entry.table _ state.tables (λ t. refl)) o.whole;
      create = λ s over name schema leaf roots active at may. whole_new state.tables name schema leaf roots o.whole;
      refuse = λ s on ds active at may. o.whole;
      lock_table = λ s statement number mode active at none. o.whole;
      lock_key = λ s number key mode active at none. o.whole;
      lock_row = λ s number key mode active at none. o.whole;
      visit = λ s number column predicate active at. o.whole;
      scan = λ s number leaf active at. o.whole;
      step = λ s d q active at may. o.whole;
      stale = λ s d active at. o.whole;
      full = λ s active at. o.whole;
      place = λ s d q ds active at may. whole_with d.table d.column (tree_after_place d state.entries q ds) state.tables
          (λ f. place_forest (tree_for state d) d.path d.box d.key state.entries q ds f (placing_stands state (session_at state.sessions s) d at) (placing_box state (session_at state.sessions s) d at) may.can) o.whole;
      row = λ s number change placed p active at may. whole_same state.tables _ (change_leaves_trees number (table_after_row p change placed change.new) state.tables
          (λ t. after_row_leaves_trees p change placed change.new t)) o.whole;
    }
