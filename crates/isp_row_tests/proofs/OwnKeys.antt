-- A row that was read is one with its own key.
use Rattle.std.proofs.Common.{ℕ, ℤ, List, [], ◌∷◌, refl}
use Rattle.isp_plain.specs.Values.{first_number, key_of}
use Rattle.isp_plain.specs.declared.value.Row.{Row}
use Rattle.isp_plain.specs.declared.value.Schema.{Schema}
use Rattle.isp_plain.specs.declared.value.Value.{Value}
use Rattle.isp_plain.specs.declared.value.Value.TheVariants.{Int, Text, Geo}
use Rattle.isp_row.specs.RowSpelling.{IsRowOf, Spells, StartsWith}

starts_own : (key : ℤ) (values : List Value) → StartsWith key values → StartsWith (first_number values) values
starts_own key [] is = absurd is
starts_own key (Int number ∷ values) is = refl
starts_own key (Text text ∷ values) is = absurd is
starts_own key (Geo form ∷ values) is = absurd is

pub row_is : (schema : Schema) (key : ℤ) (bytes : List ℕ) (row : Row) (numbers : List ℕ) → Spells schema key bytes row numbers → IsRowOf schema (key_of row) row
row_is schema key bytes row numbers is = record { values = is.is_row.values; first = starts_own key row.values is.is_row.first }
