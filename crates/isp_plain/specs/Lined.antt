-- Rows whose texts stand on one line. A value's text is printed as it is, so an answer with such rows is one line.
use Rattle.std.specs.Prelude.{ℕ, Bool, true, not, ◌==◌, List}
use Rattle.std.specs.List.{list_all}
use Rattle.std.specs.Map.{values_of}
use Rattle.isp_plain.specs.declared.value.Row.{Row}
use Rattle.isp_plain.specs.declared.value.Value.{Value}
use Rattle.isp_plain.specs.declared.value.Value.TheVariants.{Text}
use Rattle.isp_plain.specs.declared.statement.Reply.{Reply}
use Rattle.isp_plain.specs.declared.statement.Reply.TheVariants as reply
use Rattle.isp_plain.specs.declared.statement.Statement.{Statement}
use Rattle.isp_plain.specs.declared.statement.Statement.TheVariants.{Insert, Update}
use Rattle.isp_plain.specs.Tables.{Table}

-- no line feed is among the bytes
abbrev pub is_one_line : List ℕ → Bool
is_one_line bytes = list_all (λ b. not (b == 10)) bytes

-- a text has no line feed; other values have none in their printed form
abbrev pub is_lined_value : Value → Bool
is_lined_value (Text text) = is_one_line text
is_lined_value _ = true

abbrev pub is_lined_row : Row → Bool
is_lined_row row = list_all is_lined_value row.values

abbrev pub are_lined_rows : List Row → Bool
are_lined_rows rows = list_all is_lined_row rows

abbrev pub is_lined_table : Table → Bool
is_lined_table table = are_lined_rows (values_of table.rows)

-- no text in any table has a line feed
abbrev pub are_lined : List Table → Bool
are_lined tables = list_all is_lined_table tables

-- no text that the statement puts into a table has a line feed
abbrev pub is_lined_statement : Statement → Bool
is_lined_statement (Insert name rows) = are_lined_rows rows
is_lined_statement (Update name sets condition) = list_all (λ set. is_lined_value set.v) sets
is_lined_statement _ = true

-- no text in the rows of the reply has a line feed
abbrev pub is_lined_reply : Reply → Bool
is_lined_reply (reply.Rows rows) = are_lined_rows rows
is_lined_reply _ = true
