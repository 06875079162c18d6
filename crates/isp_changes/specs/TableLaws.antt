-- What holds of tables by place and key: which row stands where after a change, and that this, with the definitions, is all there
-- is to a list of tables.
use Rattle.std.specs.Prelude.{◌≡◌, ℕ, ℤ, ◌==◌, ◌&&◌, Bool, is_some, List, map, slice_get, if◌then◌else◌}
use Rattle.std.specs.Ordering.{int_eq}
use Rattle.isp_plain.specs.Tables.{Table, definition_of}
use Rattle.isp_changes.specs.Rows.{AreRisingTables}
use Rattle.isp_changes.specs.Changes.{RowChange, after_change, row_in}

-- the change is of this key of the table at this place, which is there
abbrev pub is_changed : List Table → RowChange → ℕ → ℤ → Bool
is_changed tables change place key = (place == change.table) && int_eq key change.key && is_some (slice_get tables place)

-- one row of one table changes, and nothing else: no other row, and no definition
pub record IsInTables (tables : List Table) (change : RowChange) (after : List Table) : Type 0 where
  pub definitions : map definition_of after ≡ map definition_of tables
  pub rises : AreRisingTables after
  pub each : (place : ℕ) (key : ℤ)
      → row_in after place key ≡ (if is_changed tables change place key then change.new else row_in tables place key)

abbrev pub ChangeInTables : Type 0
ChangeInTables = (tables : List Table) (change : RowChange) → AreRisingTables tables →
    IsInTables tables change (after_change tables change)

-- two lists of tables with the same definitions and the same row at each place and key are one list
abbrev pub SameTables : Type 0
SameTables = (tables others : List Table) → AreRisingTables tables → AreRisingTables others →
    map definition_of tables ≡ map definition_of others → ((place : ℕ) (key : ℤ) → row_in tables place key ≡ row_in others place key) → tables ≡ others
