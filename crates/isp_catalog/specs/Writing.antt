-- The bytes of a definition as they are written, every free byte 0. `Catalogue` says what they mean.
use Rattle.std.specs.Prelude.{◌≡◌, ℕ, ◌^◌, ◌<◌, List, [], ◌∷◌, ◌++◌, length, map, drop, get_or, replicate}
use Rattle.std.specs.List.{flat_map}
use Rattle.isp_disk.specs.Moments.{image_of, put}
use Rattle.isp_format.specs.Definition.{bigint_kind, definition_page, definition_place, flag_byte, geometry_kind, most_name, varchar_kind}
use Rattle.isp_format.specs.Numbers.{bytes_of}
use Rattle.isp_format.specs.Ranges.{Contents, page_of}
use Rattle.isp_plain.specs.declared.value.Column.{Column}
use Rattle.isp_plain.specs.declared.value.Kind.{Kind}
use Rattle.isp_plain.specs.declared.value.Kind.TheVariants as kind
use Rattle.isp_catalog.specs.declared.table.TableDef.{TableDef}

-- zeros behind a name
abbrev pub filling : List ℕ → List ℕ
filling name = drop (length name) (replicate most_name 0)

-- a name in its field
abbrev pub name_field : List ℕ → List ℕ
name_field name = length name ∷ (name ++ filling name)

abbrev pub kind_byte : Kind → ℕ
kind_byte kind.BigInt = bigint_kind
kind_byte (kind.VarChar most) = varchar_kind
kind_byte kind.Geo = geometry_kind

abbrev pub kind_size : Kind → ℕ
kind_size (kind.VarChar most) = most
kind_size _ = 0

abbrev pub column_field : Column → List ℕ
column_field column = name_field column.name ++ (kind_byte column.kind ∷ (bytes_of 2 (kind_size column.kind) ++ flag_byte column.indexed ∷ []))

-- the roots of a definition
abbrev pub first_tree : TableDef → ℕ
first_tree def = (get_or def.trees 0 (record { 0 = 0 })).0

abbrev pub second_tree : TableDef → ℕ
second_tree def = (get_or def.trees 1 (record { 0 = 0 })).0

abbrev pub roots_field : TableDef → List ℕ
roots_field def = bytes_of 4 def.root.0 ++ (bytes_of 4 (first_tree def) ++ bytes_of 4 (second_tree def))

abbrev pub table_bytes : TableDef → List ℕ
table_bytes def = name_field def.name ++ (length def.schema.columns ∷ (roots_field def ++ flat_map column_field def.schema.columns))

-- it has the roots of two R-trees, and each root fits its field
pub record HasRoots (def : TableDef) : Type 0 where
  pub root : def.root.0 < 256 ^ 4
  pub are : map (λ page. page.0) def.trees ≡ first_tree def ∷ second_tree def ∷ []
  pub first : first_tree def < 256 ^ 4
  pub second : second_tree def < 256 ^ 4

-- the definition was put into its place, and every other byte of its page is as it was
pub record Wrote (def : TableDef) (old new : Contents) : Type 0 where
  pub put_is : image_of (page_of new (definition_page def.number)) ≡ put (image_of (page_of old (definition_page def.number))) (definition_place def.number) (table_bytes def)
  pub roots : HasRoots def
