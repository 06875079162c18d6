-- What holds of rows by key: which row stands at each key after a change, that keys go on rising, and that this is all there is
-- to a list of rows.
use Rattle.std.specs.Prelude.{◌≡◌, ℤ, Bool, not, List, filter, map, if◌then◌else◌, Option}
use Rattle.std.specs.Option.{option_map, option_or}
use Rattle.std.specs.Ordering.{int_eq}
use Rattle.isp_plain.specs.declared.value.Row.{Row}
use Rattle.isp_plain.specs.declared.statement.Statement.{Statement}
use Rattle.isp_plain.specs.Does.{does}
use Rattle.isp_plain.specs.Entries.{with_rows}
use Rattle.isp_plain.specs.Tables.{Table}
use Rattle.isp_changes.specs.Rows.{AreRising, AreRisingTables, last_with, row_at, unless}
use Rattle.isp_changes.specs.Changes.{with_new}

-- two lists whose keys rise, with the same row at each key, are one list
abbrev pub SameRows : Type 0
SameRows = (rows others : List (ℤ × Row)) → AreRising rows → AreRising others →
    ((key : ℤ) → row_at rows key ≡ row_at others key) → rows ≡ others

-- rows whose keys rise, and the row at each key
pub record HasRows (rows : List (ℤ × Row)) (at : ℤ → Option Row) : Type 0 where
  pub rises : AreRising rows
  pub each : (key : ℤ) → row_at rows key ≡ at key

-- one row put or taken out: it stands there, and every other as it did
abbrev pub RowsWithNew : Type 0
RowsWithNew = (rows : List (ℤ × Row)) (at : ℤ) (new : Option Row) → AreRising rows →
    HasRows (with_new rows at new) (λ key. if int_eq key at then new else row_at rows key)

-- the rows of INSERT: the last one with the key, or what stood there
abbrev pub RowsWithRows : Type 0
RowsWithRows = (rows : List (ℤ × Row)) (new : List Row) → AreRising rows →
    HasRows (with_rows rows new) (λ key. option_or (last_with new key) (row_at rows key))

-- the rows of UPDATE, whatever each one becomes
abbrev pub RowsMapped : Type 0
RowsMapped = (rows : List (ℤ × Row)) (becomes : Row → Row) → AreRising rows →
    HasRows (map (λ e. (e.0, becomes e.1)) rows) (λ key. option_map becomes (row_at rows key))

-- the rows that DELETE leaves, whichever leave
abbrev pub RowsKept : Type 0
RowsKept = (rows : List (ℤ × Row)) (leaves : Row → Bool) → AreRising rows →
    HasRows (filter (λ e. not (leaves e.1)) rows) (λ key. unless leaves (row_at rows key))

-- a statement on tables whose keys rise leaves such tables
abbrev pub KeysRise : Type 0
KeysRise = (tables : List Table) (statement : Statement) → AreRisingTables tables → AreRisingTables (does tables statement).tables
