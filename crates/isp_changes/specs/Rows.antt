-- The rows of a table by key: each key is below those behind it, and a key has at most one row.
use Rattle.std.specs.Prelude.{Bool, ◌≡◌, ℤ, List, [], ◌∷◌, if◌then◌else◌, Option, Some, None}
use Rattle.std.specs.List.{AllByRecursion}
use Rattle.std.specs.List.Sorted.{IsStrictlySortedBy}
use Rattle.std.specs.Map.{keys_of, lookup}
use Rattle.std.specs.BTreeMap.{is_at}
use Rattle.std.specs.Option.{option_or}
use Rattle.std.specs.Ordering.{int_cmp, int_eq}
use Rattle.isp_plain.specs.declared.value.Row.{Row}
use Rattle.isp_plain.specs.Tables.{Table}
use Rattle.isp_plain.specs.Values.{key_of}

-- the keys rise
abbrev pub AreRising : List (ℤ × Row) → Type 0
AreRising rows = IsStrictlySortedBy int_cmp (keys_of rows)

-- those of each table do
abbrev pub AreRisingTables : List Table → Type 0
AreRisingTables tables = AllByRecursion (λ table. AreRising table.rows) tables

-- the row at the key
abbrev pub row_at : List (ℤ × Row) → ℤ → Option Row
row_at rows key = lookup (is_at (int_cmp key)) rows

-- each row stands at its own key
abbrev pub AreKeyed : List (ℤ × Row) → Type 0
AreKeyed rows = AllByRecursion (λ e. key_of e.1 ≡ e.0) rows

-- the row, unless it leaves
abbrev pub unless : (Row → Bool) → Option Row → Option Row
unless leaves (Some row) = if leaves row then None else Some row
unless leaves None = None

-- the last of the rows that has the key
abbrev pub last_with : List Row → ℤ → Option Row
last_with [] key = None
last_with (row ∷ rows) key = option_or (last_with rows key) (if int_eq key (key_of row) then Some row else None)
