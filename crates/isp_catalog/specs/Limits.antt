-- The limits of a table's definition: those of CREATE TABLE, and what has a place in its bytes.
use Rattle.std.specs.Prelude.{◌≡◌, ℕ, ◌≤◌, Bool, true, false, not, ◌&&◌, nat_le, List, [], ◌∷◌, All, length, if◌then◌else◌}
use Rattle.std.specs.List.{list_all, list_any}
use Rattle.std.specs.Str.{bytes_eq}
use Rattle.isp_format.specs.Definition.{most_columns, most_name}
use Rattle.isp_plain.specs.RowBytes.{indexed_columns}
use Rattle.isp_plain.specs.declared.value.Column.{Column}
use Rattle.isp_plain.specs.declared.value.Kind.{Kind}
use Rattle.isp_plain.specs.declared.value.Kind.TheVariants as kind

-- how many bytes a VARCHAR column has at most
abbrev pub most_size : ℕ
most_size = 500

-- how many columns of a table have an index at most
abbrev pub most_indexed : ℕ
most_indexed = 2

abbrev pub has_column : List Column → List ℕ → Bool
has_column columns name = list_any (λ column. bytes_eq column.name name) columns

-- no column is named twice
abbrev pub are_distinct : List Column → Bool
are_distinct [] = true
are_distinct (column ∷ columns) = not (has_column columns column.name) && are_distinct columns

-- the first column holds whole numbers: the keys
abbrev pub is_number : Kind → Bool
is_number kind.BigInt = true
is_number _ = false

abbrev pub has_key : List Column → Bool
has_key [] = false
has_key (column ∷ columns) = is_number column.kind

-- a VARCHAR has a size from 1 to 500
abbrev pub is_size : ℕ → Bool
is_size size = nat_le 1 size && nat_le size most_size

abbrev pub has_size : Kind → Bool
has_size (kind.VarChar size) = is_size size
has_size _ = true

abbrev pub is_sized : Column → Bool
is_sized column = has_size column.kind

-- an index is on geometries
abbrev pub is_geometry : Kind → Bool
is_geometry kind.Geo = true
is_geometry _ = false

abbrev pub is_indexable : Column → Bool
is_indexable column = if column.indexed then is_geometry column.kind else true

abbrev pub are_within_limits : List Column → Bool
are_within_limits columns =
    has_key columns && (list_all is_indexable columns && (nat_le (indexed_columns columns) most_indexed && are_distinct columns))

-- a name has a place in its field
pub record IsName (name : List ℕ) : Type 0 where
  pub some : 1 ≤ length name
  pub most : length name ≤ most_name

-- the columns of a definition
pub record AreColumns (columns : List Column) : Type 0 where
  pub some : 1 ≤ length columns
  pub most : length columns ≤ most_columns
  pub names : All (λ column. IsName column.name) columns
  pub sizes : list_all is_sized columns ≡ true
  pub limits : are_within_limits columns ≡ true
