-- How many bytes a row takes on its page, in this project's own format: a number of 8 bytes for each indexed column, and
-- then the values after the key, a whole number in 8 bytes and a text or a geometry behind its length in two.
use Rattle.std.specs.Prelude.{ℕ, ◌+◌, ◌*◌, List, length, drop}
use Rattle.std.specs.List.{sum_by, count_by}
use Rattle.isp_geom.specs.Spelling.{spelling}
use Rattle.isp_plain.specs.declared.value.Column.{Column}
use Rattle.isp_plain.specs.declared.value.Row.{Row}
use Rattle.isp_plain.specs.declared.value.Schema.{Schema}
use Rattle.isp_plain.specs.declared.value.Value.{Value}
use Rattle.isp_plain.specs.declared.value.Value.TheVariants.{Int, Text, Geo}

-- the bytes of one value
abbrev pub value_bytes : Value → ℕ
value_bytes (Int number) = 8
value_bytes (Text text) = 2 + length text
value_bytes (Geo form) = 2 + length (spelling form)

-- how many columns have an index
abbrev pub indexed_columns : List Column → ℕ
indexed_columns columns = count_by (λ column. column.indexed) columns

-- the bytes of a row of a table with these columns
abbrev pub row_bytes : Schema → Row → ℕ
row_bytes schema row = 8 * indexed_columns schema.columns + sum_by value_bytes (drop 1 row.values)

-- the most bytes that a row may have
abbrev pub row_limit : ℕ
row_limit = 1000
