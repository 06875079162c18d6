-- The rows of a table as a finite map: pairs of a key and its row, keys rising.
use Rattle.std.specs.Prelude.{ℤ, Bool, List, [], ◌∷◌, is_some, if◌then◌else◌, Option, Some, None}
use Rattle.std.specs.BTreeMap.{insert_entry, is_at}
use Rattle.std.specs.Map.{lookup, remove_entry, set_value}
use Rattle.std.specs.Ordering.{int_cmp}
use Rattle.isp_plain.specs.declared.value.Row.{Row}
use Rattle.isp_plain.specs.Values.{key_of}

-- whether a row has the key
abbrev pub has_key : List (ℤ × Row) → ℤ → Bool
has_key entries key = is_some (lookup (is_at (int_cmp key)) entries)

-- the row at the key, and every other as it was
abbrev pub with_row : List (ℤ × Row) → ℤ → Row → List (ℤ × Row)
with_row entries key row = insert_entry int_cmp entries key row

-- the row in the place of the one at the key, if there is one
abbrev pub with_value : List (ℤ × Row) → ℤ → Row → List (ℤ × Row)
with_value entries key row = set_value (is_at (int_cmp key)) entries row

abbrev pub without_row : List (ℤ × Row) → ℤ → List (ℤ × Row)
without_row entries key = remove_entry (is_at (int_cmp key)) entries

abbrev pub with_rows : List (ℤ × Row) → List Row → List (ℤ × Row)
with_rows entries [] = entries
with_rows entries (row ∷ rows) = with_rows (with_row entries (key_of row) row) rows

-- the first key, in the order of the rows, that is there already or that an earlier one of them has
abbrev pub first_duplicate : List (ℤ × Row) → List Row → Option ℤ
first_duplicate entries [] = None
first_duplicate entries (row ∷ rows) =
    if has_key entries (key_of row) then Some (key_of row) else first_duplicate (with_row entries (key_of row) row) rows

-- the rows taken out, the last first
abbrev pub without_rows : List (ℤ × Row) → List Row → List (ℤ × Row)
without_rows entries [] = entries
without_rows entries (row ∷ rows) = without_row (without_rows entries rows) (key_of row)
