-- A definition read from the bytes of its page, as the code does. `Catalogue` says what it means.
use Rattle.std.specs.Prelude.{◌≡◌, ℕ, zero, suc, ◌+◌, ◌==◌, ◌&&◌, Bool, true, false, nat_le, nat_lt, List, [], ◌∷◌, Option, Some, None, Result, Ok, Err, slice_index, if◌then◌else◌}
use Rattle.isp_disk.specs.Moments.{image_of, slice}
use Rattle.isp_format.specs.Definition.{bigint_kind, column_count_place, column_flag_place, column_kind_place, column_size, column_size_place, columns_place, first_tree_place, geometry_kind, most_columns, most_name, root_place, second_tree_place, varchar_kind}
use Rattle.isp_format.specs.Empty.{first_fresh}
use Rattle.isp_format.specs.Header.{number_in}
use Rattle.isp_plain.specs.declared.value.Column.{Column}
use Rattle.isp_plain.specs.declared.value.Kind.{Kind}
use Rattle.isp_plain.specs.declared.value.Kind.TheVariants as kind
use Rattle.isp_catalog.specs.Limits.{are_within_limits, is_size}
use Rattle.isp_catalog.specs.declared.unread.Unread.{Unread}
use Rattle.isp_catalog.specs.declared.unread.Unread.TheVariants.{Broken, Lacking}
use Rattle.isp_catalog.specs.declared.table.TableDef.{TableDef}

infixl 10 ◌>>=◌
abbrev pub ◌>>=◌ : {A B : Type 0} → Option A → (A → Option B) → Option B
(Some x) >>= f = f x
None >>= f = None

-- what a call answered is what reading gives
abbrev pub Finds : {X : Type 0} → Result X Unread → Option X → Type 0
Finds (Ok x) read = read ≡ Some x
Finds (Err Broken) read = read ≡ None
Finds (Err Lacking) read = Unit {0}

-- where a name stands in its field, behind its length
abbrev pub name_place : ℕ
name_place = 1

-- the name in the field at that place
abbrev pub name_in : List ℕ → ℕ → Option (List ℕ)
name_in bytes at = if nat_le 1 (slice_index bytes at) && nat_le (slice_index bytes at) most_name then Some (slice (image_of bytes) (at + name_place) (slice_index bytes at)) else None

abbrev pub varchar_in : ℕ → Option Kind
varchar_in size = if is_size size then Some (kind.VarChar size) else None

-- the kind of a column with that byte and that size
abbrev pub kind_in : ℕ → ℕ → Option Kind
kind_in byte size = if byte == bigint_kind then Some kind.BigInt else (if byte == varchar_kind then varchar_in size else (if byte == geometry_kind then Some kind.Geo else None))

abbrev pub flag_in : ℕ → Option Bool
flag_in byte = if byte == 0 then Some false else (if byte == 1 then Some true else None)

-- the column in the field at that place
abbrev pub column_in : List ℕ → ℕ → Option Column
column_in bytes at = do
  name ← name_in bytes at
  kind ← kind_in (slice_index bytes (at + column_kind_place)) (number_in 2 bytes (at + column_size_place))
  indexed ← flag_in (slice_index bytes (at + column_flag_place))
  Some (record { name = name; kind = kind; indexed = indexed })

-- so many columns, in fields one after another
abbrev pub columns_in : List ℕ → ℕ → ℕ → Option (List Column)
columns_in bytes at zero = Some []
columns_in bytes at (suc more) = do
  column ← column_in bytes at
  columns ← columns_in bytes (at + column_size) more
  Some (column ∷ columns)

-- the columns of a definition, within their limits
abbrev pub all_columns_in : List ℕ → ℕ → ℕ → Option (List Column)
all_columns_in bytes at count = if nat_le 1 count && nat_le count most_columns then (columns_in bytes at count >>= λ columns. (if are_within_limits columns then Some columns else None)) else None

-- the page of a root
abbrev pub root_in : ℕ → ℕ → Option ℕ
root_in pages root = if nat_le first_fresh root && nat_lt root pages then Some root else None

-- the definition of that number at that place
unfoldable pub table_in : ℕ → ℕ → List ℕ → ℕ → Option TableDef
table_in pages number bytes at = do
  name ← name_in bytes at
  columns ← all_columns_in bytes (at + columns_place) (slice_index bytes (at + column_count_place))
  root ← root_in pages (number_in 4 bytes (at + root_place))
  Some (record {
    number = number;
    name = name;
    schema = record { columns = columns };
    root = record { 0 = root };
    trees = record { 0 = number_in 4 bytes (at + first_tree_place) } ∷ record { 0 = number_in 4 bytes (at + second_tree_place) } ∷ [];
  })
