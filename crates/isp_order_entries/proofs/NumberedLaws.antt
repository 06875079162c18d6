-- No number lies on two places, and each was given.
use Rattle.std.proofs.Common.{◌≡◌, ◌+◌, ◌≤◌, ◌<◌, refl, sym, ap, subst, ℕ, zero, suc, ◌==◌, Bool, true, false, cond, List, [], ◌∷◌, arith, eqb-true}
use Rattle.isp_base.specs.Lists.{Has, times}
use Rattle.isp_reclock.specs.declared.entries.Lock.{Lock}
use Rattle.isp_forest.specs.Tree.{Tree}
use Rattle.isp_forest.specs.Place.{Division}
use Rattle.isp_laws.proofs.ListLaws.{Has-times, times-Has}
use Rattle.isp_leaf_laws.specs.LeafLaws.{leaf_numbers as numbers_of_leaves}
use Rattle.isp_leaf_laws.proofs.LeafLaws.{place_numbers, remove_numbers}
use Rattle.isp_events.specs.Stored.{StoredTable, change_table, indexed, table_at, tree_of}
use Rattle.isp_events.specs.Sessions.{session_at}
use Rattle.isp_events.specs.State.{State, Queued, dead_entry, dead_row}
use Rattle.isp_events.specs.Ways.{Machine}
use Rattle.isp_events.specs.Next.{Descent}
use Rattle.isp_events.specs.Placing.{MayPlaceEntry, table_after_place, tree_after_place, tree_for}
use Rattle.isp_events.specs.Writing.{table_after_row}
use Rattle.isp_events.specs.Ending.{indexed_in, new_table}
use Rattle.isp_events.specs.Purging.{may_leave, table_without, table_without_entry, tables_purged, without_entry}
use Rattle.isp_events.specs.Events.{Actor, Choice, MayHappen, after}
use Rattle.isp_order.specs.Trees.{AreNumbered, IsKeyed, all_numbers, leaf_numbers}
use Rattle.isp_order.specs.InOrder.{InOrder, IsProper}
use Rattle.isp_causes.specs.Causes.{IsPlacing}
use Rattle.isp_causes.proofs.EventCases.{EachKeeps, event_keeps}
use Rattle.isp_order_trees.proofs.WholeLaws.{after_row_leaves_trees, placing_box, placing_stands}
use Rattle.isp_order_trees.proofs.CoveredLaws.{placing_whole}
use Rattle.isp_order_entries.proofs.CountParts.{columns_once, each_table, new_bound, same_leaves, table_bound, tree_bound, trees_bound}

fewer_numbers : (tables after : List StoredTable) (entries : ℕ) → ((m : ℕ) → times m (all_numbers after) ≤ times m (all_numbers tables)) → AreNumbered tables entries → AreNumbered after entries
fewer_numbers tables after entries less n = record {
  once = λ m. omega (arith, less m, n.once m);
  given = λ m h. n.given m (Has-times m (all_numbers tables) (omega (arith, less m, times-Has m (all_numbers after) h)));
}

more_numbers : (tables after : List StoredTable) (entries : ℕ) → ((m : ℕ) → times m (all_numbers after) ≤ times m (all_numbers tables) + times m (entries ∷ []))
    → AreNumbered tables entries → AreNumbered after (entries + 1)
more_numbers tables after entries more n = record {
  once = λ m. once m (times m (all_numbers tables)) refl (entries == m) refl;
  given = λ m h. given m (times m (all_numbers tables)) refl (entries == m) refl h;
}
  where
    once : (m k : ℕ) → times m (all_numbers tables) ≡ k → (b : Bool) → (entries == m) ≡ b → times m (all_numbers after) ≤ 1
    once m zero none b e = omega (arith, more m, none, at_most b (entries == m))
      where
        at_most : (b c : Bool) → cond c 1 0 + 0 ≤ 1
        at_most b true = omega arith
        at_most b false = omega arith
    once m (suc k) some true e =
        let at : entries ≡ m = eqb-true entries m e in
        absurd (omega (arith, at, n.given m (Has-times m (all_numbers tables) (omega (arith, some)))))
    once m (suc k) some false e =
        let none : cond (entries == m) 1 0 + 0 ≡ 0 = ap (λ b. cond b 1 0 + 0) e in
        omega (arith, more m, none, n.once m)

    given : (m k : ℕ) → times m (all_numbers tables) ≡ k → (b : Bool) → (entries == m) ≡ b → Has (all_numbers after) m → m < entries + 1
    given m (suc k) some b e h = omega (arith, n.given m (Has-times m (all_numbers tables) (omega (arith, some))))
    given m zero none true e h = let at : entries ≡ m = eqb-true entries m e in omega (arith, at)
    given m zero none false e h =
        let no : cond (entries == m) 1 0 + 0 ≡ 0 = ap (λ b. cond b 1 0 + 0) e in
        absurd (omega (arith, more m, none, no, times-Has m (all_numbers after) h))

module _ (m : Machine) (state : State) (o : InOrder m state) where
  -- a table has one tree for a column
  pub one_column : (n c : ℕ) → times c (indexed (table_at state.tables n)) ≤ 1
  one_column n c = each_table (λ (t : StoredTable). times c (indexed t) ≤ 1) 1 n state.tables (omega arith) (λ t has. (
      let k : IsKeyed t = o.keyed.each t has in
      subst (λ columns. times c columns ≤ 1) (sym k.columns) (columns_once 0 c t.schema.columns)))

  purge_numbers : (locks : List Lock) (queue : List Queued) → AreNumbered (tables_purged locks queue state.tables) state.entries
  purge_numbers locks [] = o.numbered
  purge_numbers locks (dead_entry e ∷ queue) = fewer_numbers state.tables (change_table e.table (table_without_entry e) state.tables) state.entries (λ n. (
      let tree : Tree = tree_of (table_at state.tables e.table) e.column in
      let less : times n (leaf_numbers (without_entry e.number tree)) ≤ times n (leaf_numbers tree) + 0 = fewer n tree e.number in
      let h : times n (all_numbers (change_table e.table (table_without_entry e) state.tables)) ≤ times n (all_numbers state.tables) + 0 =
      table_bound e.table (table_without_entry e) state.tables n 0 (tree_bound e.column (without_entry e.number) (table_at state.tables e.table).trees n 0 (one_column e.table e.column) less) in
      omega (arith, h))) o.numbered
    where
      at_most : (b : Bool) (k : ℕ) → cond b 0 k ≤ k
      at_most true k = omega arith
      at_most false k = omega arith

      fewer : (n : ℕ) (tree : Tree) (number : ℕ) → times n (leaf_numbers (without_entry number tree)) ≤ times n (leaf_numbers tree) + 0
      fewer n tree number =
          let a : times n (leaf_numbers (without_entry number tree)) ≡ times n (numbers_of_leaves (without_entry number tree)) = ap (times n) (same_leaves (without_entry number tree)) in
          let b : times n (leaf_numbers tree) ≡ times n (numbers_of_leaves tree) = ap (times n) (same_leaves tree) in
          omega (arith, a, b, remove_numbers tree number n, at_most (n == number) (times n (numbers_of_leaves tree)))
  purge_numbers locks (dead_row number key ∷ queue) = fewer_numbers state.tables _ state.entries
      (λ n. by_test (may_leave locks (table_at state.tables number) number key) n) o.numbered
    where
      by_test : (b : Bool) (n : ℕ) → times n (all_numbers (cond b (change_table number (table_without key) state.tables) state.tables)) ≤ times n (all_numbers state.tables)
      by_test true n = trees_bound number (table_without key) state.tables n (λ t. refl)
      by_test false n = omega arith

  placed_numbers : (s : ℕ) (d : Descent) (q : ℕ) (ds : List Division) → IsPlacing state (session_at state.sessions s) d → MayPlaceEntry state s d q ds
      → AreNumbered (change_table d.table (table_after_place d state.entries q ds) state.tables) (state.entries + 1)
  placed_numbers s d q ds at may = more_numbers state.tables (change_table d.table (table_after_place d state.entries q ds) state.tables) state.entries (λ n. (
      let tree : Tree = tree_for state d in
      let after : Tree = tree_after_place d state.entries q ds tree in
      let a : times n (leaf_numbers after) ≡ times n (numbers_of_leaves after) = ap (times n) (same_leaves after) in
      let b : times n (leaf_numbers tree) ≡ times n (numbers_of_leaves tree) = ap (times n) (same_leaves tree) in
      let c : times n (numbers_of_leaves after) ≡ times n (numbers_of_leaves tree) + times n (state.entries ∷ []) =
      place_numbers tree d.path d.box d.key state.entries q ds (placing_whole m state o s d at) (placing_stands state (session_at state.sessions s) d at)
      (placing_box state (session_at state.sessions s) d at) may.can n in
      table_bound d.table (table_after_place d state.entries q ds) state.tables n (times n (state.entries ∷ []))
      (tree_bound d.column (tree_after_place d state.entries q ds) (table_at state.tables d.table).trees n (times n (state.entries ∷ [])) (one_column d.table d.column) (omega (arith, a, b, c))))) o.numbered

pub numbered_kept : (m : Machine) (state : State) (actor : Actor) (choice : Choice) → IsProper m → InOrder m state → MayHappen m state actor choice
    → AreNumbered (after m state actor choice).tables (after m state actor choice).entries
numbered_kept m state actor choice good o h = event_keeps m state good o (λ (st : State). AreNumbered st.tables st.entries) each actor choice h
  where
    each : EachKeeps m state (λ (st : State). AreNumbered st.tables st.entries)
    each = record {
      still = o.numbered;
      purge = λ some. purge_numbers m state o state.locks state.queue;
      end = λ s over active. o.numbered;
      answer = λ s reply active at. o.numbered;
      undo = λ s entry more active at. fewer_numbers state.tables _ state.entries (λ n. trees_bound entry.table _ state.tables n (λ t. refl)) o.numbered;
      create = λ s over name schema leaf roots active at may. fewer_numbers state.tables _ state.entries
          (λ n. new_bound state.tables (new_table name schema leaf roots) (indexed_in schema) roots n refl) o.numbered;
      refuse = λ s on ds active at may. o.numbered;
      lock_table = λ s statement number mode active at none. o.numbered;
      lock_key = λ s number key mode active at none. o.numbered;
      lock_row = λ s number key mode active at none. o.numbered;
      visit = λ s number column predicate active at. o.numbered;
      scan = λ s number leaf active at. o.numbered;
      step = λ s d q active at may. o.numbered;
      stale = λ s d active at. o.numbered;
      full = λ s active at. o.numbered;
      place = λ s d q ds active at may. placed_numbers m state o s d q ds at may;
      row = λ s number change placed p active at may. fewer_numbers state.tables _ state.entries
          (λ n. trees_bound number (table_after_row p change placed change.new) state.tables n (λ t. after_row_leaves_trees p change placed change.new t)) o.numbered;
    }
