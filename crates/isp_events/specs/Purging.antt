-- A purge turn: the first of the queue goes. An entry leaves its leaf; a row leaves where it is still marked and nobody holds X on it
-- (purge as in the MySQL 8.0 manual on InnoDB multi-versioning; the queue and its order are this project's own).
use Rattle.std.specs.Prelude.{ℕ, ℤ, ◌&&◌, Bool, not, cond, List, [], ◌∷◌, drop, filter, map}
use Rattle.std.specs.List.{list_any}
use Rattle.std.specs.Ordering.{int_eq}
use Rattle.isp_reclock.specs.declared.entries.Lock.{Lock}
use Rattle.isp_reclock.specs.Tables.{takes}
use Rattle.isp_forest.specs.Tree.{Tree}
use Rattle.isp_forest.specs.Steps.{remove}
use Rattle.isp_events.specs.Stored.{Leaf, StoredTable, change_table, change_tree, kept_at, table_at}
use Rattle.isp_events.specs.Sessions.{EntryAt}
use Rattle.isp_events.specs.State.{State, Queued, dead_entry, dead_row}
use Rattle.isp_events.specs.Lines.{Traced, purged_entry, purged_row, left_row}
use Rattle.isp_events.specs.Ending.{is_marked}

-- somebody holds X on the key or on its table
abbrev pub is_taken : List Lock → ℕ → ℤ → Bool
is_taken locks table key = list_any (λ lock. takes locks table key lock.trx) locks

-- the row may leave
abbrev pub may_leave : List Lock → StoredTable → ℕ → ℤ → Bool
may_leave locks table number key = is_marked (kept_at table key) && not (is_taken locks number key)

abbrev pub leaf_without : ℤ → Leaf → Leaf
leaf_without key leaf = record leaf { rows = filter (λ e. not (int_eq e.0 key)) leaf.rows }

abbrev pub table_without : ℤ → StoredTable → StoredTable
table_without key table = record table { leaves = map (leaf_without key) table.leaves }

abbrev pub without_entry : ℕ → Tree → Tree
without_entry number tree = remove tree number

abbrev pub table_without_entry : EntryAt → StoredTable → StoredTable
table_without_entry entry table = record table { trees = change_tree entry.column (without_entry entry.number) table.trees }

-- the tables after the first of the queue went
abbrev pub tables_purged : List Lock → List Queued → List StoredTable → List StoredTable
tables_purged locks [] tables = tables
tables_purged locks (dead_entry entry ∷ queue) tables = change_table entry.table (table_without_entry entry) tables
tables_purged locks (dead_row number key ∷ queue) tables =
    cond (may_leave locks (table_at tables number) number key) (change_table number (table_without key) tables) tables

abbrev pub after_purge : State → State
after_purge state = record state { tables = tables_purged state.locks state.queue state.tables; queue = drop 1 state.queue }

-- what its line tells
abbrev pub purge_told : List Lock → List StoredTable → Queued → Traced
purge_told locks tables (dead_entry entry) = purged_entry entry.table entry.column entry.key entry.number
purge_told locks tables (dead_row number key) =
    cond (may_leave locks (table_at tables number) number key) (purged_row number key) (left_row number key)
