-- The one spelling of a row in bytes, this project's own: first the numbers of its entries in R-trees, one for each indexed
-- column in their order, in eight bytes each; then the values after the key. A whole number takes eight bytes, in two's
-- complement; a text and a geometry stand behind their length in two. Numbers have their highest byte first. The key stands
-- beside a row's bytes, and not in them.
use Rattle.std.specs.Prelude.{◌≡◌, ℕ, ◌^◌, ◌<◌, ◌≤◌, ℤ, List, [], ◌∷◌, ◌++◌, All, FitsSigned, length, drop}
use Rattle.std.specs.Int.{cast_unsigned, w64}
use Rattle.std.specs.List.{flat_map}
use Rattle.byteorder.specs.Endian.{big_bytes}
use Rattle.isp_geom.specs.Rules.{IsGeometry}
use Rattle.isp_geom.specs.Spelling.{spelling}
use Rattle.isp_plain.specs.RowBytes.{indexed_columns}
use Rattle.isp_plain.specs.declared.value.Column.{Column}
use Rattle.isp_plain.specs.declared.value.Kind.{Kind}
use Rattle.isp_plain.specs.declared.value.Kind.TheVariants as kind
use Rattle.isp_plain.specs.declared.value.Row.{Row}
use Rattle.isp_plain.specs.declared.value.Schema.{Schema}
use Rattle.isp_plain.specs.declared.value.Value.{Value}
use Rattle.isp_plain.specs.declared.value.Value.TheVariants.{Int, Text, Geo}

-- ---- rows of a schema

-- a column of that kind may hold the value
abbrev pub IsValueOf : Kind → Value → Type 0
IsValueOf kind.BigInt (Int number) = Unit {0}
IsValueOf (kind.VarChar most) (Text text) = length text ≤ most
IsValueOf kind.Geo (Geo form) = Unit {0}
IsValueOf _ _ = ⊥

-- one value for each column
abbrev pub AreValuesOf : List Column → List Value → Type 0
AreValuesOf [] [] = Unit {0}
AreValuesOf (column ∷ columns) (value ∷ values) = IsValueOf column.kind value × AreValuesOf columns values
AreValuesOf _ _ = ⊥

-- the first value is that number
abbrev pub StartsWith : ℤ → List Value → Type 0
StartsWith key (Int number ∷ values) = number ≡ key
StartsWith key _ = ⊥

-- a row with that key of a table with these columns
pub record IsRowOf (schema : Schema) (key : ℤ) (row : Row) : Type 0 where
  pub values : AreValuesOf schema.columns row.values
  pub first : StartsWith key row.values

-- ---- their bytes

abbrev pub number_spelling : ℕ → List ℕ
number_spelling number = big_bytes 8 number

-- bytes behind their length
abbrev pub measured : List ℕ → List ℕ
measured bytes = big_bytes 2 (length bytes) ++ bytes

abbrev pub value_spelling : Value → List ℕ
value_spelling (Int number) = number_spelling (cast_unsigned w64 number)
value_spelling (Text text) = measured text
value_spelling (Geo form) = measured (spelling form)

-- the value has a spelling: a number that fits eight bytes, a text or a geometry whose length fits two
abbrev pub IsSpelled : Value → Type 0
IsSpelled (Int number) = FitsSigned w64 number
IsSpelled (Text text) = length text < 256 ^ 2
IsSpelled (Geo form) = IsGeometry form × (length (spelling form) < 256 ^ 2)

-- the bytes are those of that row of the schema, with these numbers of entries
pub record Spells (schema : Schema) (key : ℤ) (bytes : List ℕ) (row : Row) (numbers : List ℕ) : Type 0 where
  pub is_row : IsRowOf schema key row
  pub values : All IsSpelled (drop 1 row.values)
  pub count : length numbers ≡ indexed_columns schema.columns
  pub small : All (λ number. number < 256 ^ 8) numbers
  pub spelled : bytes ≡ flat_map number_spelling numbers ++ flat_map value_spelling (drop 1 row.values)
