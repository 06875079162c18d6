-- The definition of a table as it stands in the catalogue: its name, the roots of its trees, and its columns. Names stand in
-- fields of one size; the bytes behind a name, and behind the last column, are free.
use Rattle.std.specs.Prelude.{◌≡◌, ℕ, ◌+◌, ◌*◌, ◌-◌, ◌/◌, ◌%◌, ◌^◌, ◌<◌, ◌≤◌, Bool, true, false, List, [], ◌∷◌, ◌++◌, length}
use Rattle.isp_format.specs.Kinds.{content_place}
use Rattle.isp_format.specs.Numbers.{bytes_of}

-- how many bytes a name has at most
abbrev pub most_name : ℕ
most_name = 32

abbrev pub most_columns : ℕ
most_columns = 16

abbrev pub most_tables : ℕ
most_tables = 64

-- how many bytes a definition takes, and how many stand on a page
abbrev pub definition_size : ℕ
definition_size = 800

abbrev pub definitions_a_page : ℕ
definitions_a_page = 5

-- where the definition of the table of that number, from 1, stands: its page, and its place in it
abbrev pub definition_page : ℕ → ℕ
definition_page table = 2 + (table - 1) / definitions_a_page

abbrev pub definition_place : ℕ → ℕ
definition_place table = content_place + (table - 1) % definitions_a_page * definition_size

-- what a column holds, as its byte says
abbrev pub bigint_kind : ℕ
bigint_kind = 1

abbrev pub varchar_kind : ℕ
varchar_kind = 2

abbrev pub geometry_kind : ℕ
geometry_kind = 3

-- how many bytes the field of a name has: its length, and as many as a name has at most
abbrev pub name_field_size : ℕ
name_field_size = 33

-- how many bytes the field of a column has, and where its kind, its size and its flag stand in them
abbrev pub column_size : ℕ
column_size = 37

abbrev pub column_kind_place : ℕ
column_kind_place = 33

abbrev pub column_size_place : ℕ
column_size_place = 34

abbrev pub column_flag_place : ℕ
column_flag_place = 36

-- where the number of columns, the roots of the trees and the columns stand in a definition
abbrev pub column_count_place : ℕ
column_count_place = 33

abbrev pub root_place : ℕ
root_place = 34

abbrev pub first_tree_place : ℕ
first_tree_place = 38

abbrev pub second_tree_place : ℕ
second_tree_place = 42

abbrev pub columns_place : ℕ
columns_place = 46

-- how many bytes the fields of as many columns as there may be have, and the definition with them
abbrev pub most_column_bytes : ℕ
most_column_bytes = 592

abbrev pub most_definition : ℕ
most_definition = 638

pub record DefinedColumn : Type 0 where
  pub name : List ℕ
  pub kind : ℕ
  -- the greatest number of bytes of a VARCHAR
  pub size : ℕ
  pub indexed : Bool

pub record DefinedTable : Type 0 where
  pub name : List ℕ
  pub root : ℕ
  -- the roots of its R-trees in the order of their columns, 0 where there is none
  pub first_tree : ℕ
  pub second_tree : ℕ
  pub columns : List DefinedColumn

abbrev pub flag_byte : Bool → ℕ
flag_byte true = 1
flag_byte false = 0

-- a name in its field
pub record SpellsName (name bytes : List ℕ) : Type 0 where
  pub some : 1 ≤ length name
  pub most : length name ≤ most_name
  pub rest : List ℕ
  pub filled : length name + length rest ≡ most_name
  pub spelled : bytes ≡ length name ∷ (name ++ rest)

-- a column in its field
pub record SpellsColumn (column : DefinedColumn) (bytes : List ℕ) : Type 0 where
  pub name_field : List ℕ
  pub name : SpellsName column.name name_field
  pub kind : column.kind < 256
  pub size : column.size < 256 ^ 2
  pub spelled : bytes ≡ name_field ++ (column.kind ∷ (bytes_of 2 column.size ++ flag_byte column.indexed ∷ []))

-- columns one after another
abbrev pub SpellsColumns : List DefinedColumn → List ℕ → Type 0
SpellsColumns [] bytes = bytes ≡ []
SpellsColumns (column ∷ columns) bytes =
    (field : List ℕ) × (others : List ℕ) × SpellsColumn column field × SpellsColumns columns others × (bytes ≡ field ++ others)

-- a definition, up to its last column
pub record SpellsTable (table : DefinedTable) (bytes : List ℕ) : Type 0 where
  pub name_field : List ℕ
  pub column_fields : List ℕ
  pub name : SpellsName table.name name_field
  pub columns : SpellsColumns table.columns column_fields
  pub some : 1 ≤ length table.columns
  pub most : length table.columns ≤ most_columns
  pub root : table.root < 256 ^ 4
  pub first_tree : table.first_tree < 256 ^ 4
  pub second_tree : table.second_tree < 256 ^ 4
  pub spelled : bytes ≡ name_field ++ (length table.columns ∷ (bytes_of 4 table.root ++ (bytes_of 4 table.first_tree ++ (bytes_of 4 table.second_tree ++ column_fields))))

-- these bytes of a page begin with the definition
pub record StartsTable (table : DefinedTable) (piece : List ℕ) : Type 0 where
  pub bytes : List ℕ
  pub more : List ℕ
  pub spells : SpellsTable table bytes
  pub starts : piece ≡ bytes ++ more
