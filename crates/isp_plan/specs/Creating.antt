-- The table that a CREATE TABLE makes, within the limits of a definition.
use Rattle.std.specs.Prelude.{ℕ, ◌+◌, Bool, true, false, not, ◌&&◌, nat_lt, nat_le, List, [], ◌∷◌, length, Result, Ok}
use Rattle.std.specs.List.{list_all, list_any}
use Rattle.std.specs.Str.{bytes_eq}
use Rattle.isp_plain.specs.declared.value.Column.{Column}
use Rattle.isp_plain.specs.declared.value.Kind.{Kind}
use Rattle.isp_plain.specs.declared.value.Kind.TheVariants as kind
use Rattle.isp_plain.specs.declared.value.Schema.{Schema}
use Rattle.isp_sql.specs.declared.parsed.ParsedColumn.{ParsedColumn}
use Rattle.isp_sql.specs.declared.parsed.ParsedKind.{ParsedKind}
use Rattle.isp_sql.specs.declared.parsed.ParsedKind.TheVariants as parsed
use Rattle.isp_plain.specs.declared.refusal.Refusal.{Refusal}
use Rattle.isp_plain.specs.declared.refusal.Refusal.TheVariants.{OutOfLimits}
use Rattle.isp_plan.specs.Numbers.{value_of}
use Rattle.isp_plan.specs.Refusals.{◌>>=◌, ensure, each}

-- ---- limits

abbrev pub table_limit : ℕ
table_limit = 64

-- the key is one of them
abbrev pub column_limit : ℕ
column_limit = 16

abbrev pub index_limit : ℕ
index_limit = 2

-- bytes of a name
abbrev pub name_limit : ℕ
name_limit = 32

-- bytes of a VARCHAR column
abbrev pub size_limit : ℕ
size_limit = 500

abbrev pub is_short : List ℕ → Bool
is_short name = nat_le (length name) name_limit

abbrev pub are_short_columns : List ParsedColumn → Bool
are_short_columns columns = list_all (λ column. is_short column.name) columns

-- the names of the key and of all columns are short
abbrev pub are_short : List ℕ → List ParsedColumn → Bool
are_short key columns = is_short key && are_short_columns columns

abbrev pub has_column : List ParsedColumn → List ℕ → Bool
has_column columns name = list_any (λ column. bytes_eq column.name name) columns

-- no column is named twice
abbrev pub are_distinct : List ParsedColumn → Bool
are_distinct [] = true
are_distinct (column ∷ columns) = not (has_column columns column.name) && are_distinct columns

abbrev pub is_geo : ParsedKind → Bool
is_geo parsed.Geo = true
is_geo _ = false

-- a column of geometries, with this name
abbrev pub is_geo_named : ParsedColumn → List ℕ → Bool
is_geo_named column name = is_geo column.kind && bytes_eq column.name name

abbrev pub has_geo : List ParsedColumn → List ℕ → Bool
has_geo columns name = list_any (λ column. is_geo_named column name) columns

abbrev pub has_name : List (List ℕ) → List ℕ → Bool
has_name names name = list_any (λ other. bytes_eq other name) names

-- an index is on a column of geometries that no other is on
abbrev pub is_index : List ParsedColumn → List ℕ → List (List ℕ) → Bool
is_index columns name others = has_geo columns name && not (has_name others name)

abbrev pub are_indexes : List ParsedColumn → List (List ℕ) → Bool
are_indexes columns [] = true
are_indexes columns (name ∷ names) = is_index columns name names && are_indexes columns names

-- ---- columns

abbrev pub varchar : ℕ → Result Kind Refusal
varchar size = do
  some ← ensure OutOfLimits (nat_lt 0 size)
  few ← ensure OutOfLimits (nat_le size size_limit)
  Ok (kind.VarChar size)

abbrev pub kind_of : ParsedKind → Result Kind Refusal
kind_of parsed.BigInt = Ok kind.BigInt
kind_of (parsed.VarChar digits) = varchar (value_of digits)
kind_of parsed.Geo = Ok kind.Geo

abbrev pub column_of : List (List ℕ) → ParsedColumn → Result Column Refusal
column_of indexes column = do
  kind ← kind_of column.kind
  Ok (record { name = column.name; kind = kind; indexed = has_name indexes column.name })

abbrev pub key_column : List ℕ → Column
key_column key = record { name = key; kind = kind.BigInt; indexed = false }

-- the columns behind the key, and it in front of them
abbrev pub keyed : List ℕ → Result (List Column) Refusal → Result (List Column) Refusal
keyed key behind = behind >>= λ columns. Ok (key_column key ∷ columns)

-- the columns, the key first, where they are within the limits
unfoldable pub schema_of : List ℕ → List ParsedColumn → List (List ℕ) → Result Schema Refusal
schema_of key columns indexes = do
  few ← ensure OutOfLimits (nat_le (length columns + 1) column_limit)
  short ← ensure OutOfLimits (are_short key columns)
  other ← ensure OutOfLimits (not (has_column columns key))
  distinct ← ensure OutOfLimits (are_distinct columns)
  indexed ← ensure OutOfLimits (nat_le (length indexes) index_limit)
  fit ← ensure OutOfLimits (are_indexes columns indexes)
  found ← keyed key (each (column_of indexes) columns)
  Ok (record { columns = found })
