-- What holds of all spellings of rows.
use Rattle.std.specs.Prelude.{◌≡◌, ℕ, ℤ, List}
use Rattle.isp_plain.specs.declared.value.Row.{Row}
use Rattle.isp_plain.specs.declared.value.Schema.{Schema}
use Rattle.isp_row.specs.RowSpelling.{Spells}

-- the same bytes under the same key spell one row of a schema, and one list of numbers, at most
abbrev pub BytesAreOneRow : Type 0
BytesAreOneRow =
    (schema : Schema) (key : ℤ) (bytes : List ℕ) (row other : Row) (numbers others : List ℕ)
    → Spells schema key bytes row numbers → Spells schema key bytes other others → (row ≡ other) × (numbers ≡ others)

-- a row with its numbers is spelled by one list of bytes at most
abbrev pub RowIsOneSpelling : Type 0
RowIsOneSpelling =
    (schema : Schema) (key : ℤ) (bytes others : List ℕ) (row : Row) (numbers : List ℕ)
    → Spells schema key bytes row numbers → Spells schema key others row numbers → bytes ≡ others
