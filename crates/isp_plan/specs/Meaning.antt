-- What the texts of statements mean on the tables that are there, and what they do to transactions: the whole language.
use Rattle.std.specs.Prelude.{ℕ, List, map, Option, Some, None}
use Rattle.isp_serial.specs.declared.script.Place.{Place}
use Rattle.isp_plain.specs.declared.statement.Statement.{Statement}
use Rattle.isp_plain.specs.declared.statement.Statement.TheVariants.{Refused}
use Rattle.isp_plain.specs.declared.value.Schema.{Schema}
use Rattle.isp_plain.specs.Tables.{Table}
use Rattle.isp_serial.specs.Transactions.{Effect, Language, begins, commits, rolls_back, stays}
use Rattle.isp_sql.specs.declared.parsed.Parsed.{Parsed}
use Rattle.isp_sql.specs.declared.parsed.Parsed.TheVariants as parsed
use Rattle.isp_sql.specs.Reading.{parsed_of}
use Rattle.isp_plain.specs.declared.refusal.Refusal.TheVariants.{Syntax}
use Rattle.isp_plan.specs.Binding.{bound}

-- a statement that was read, or the refusal of a text that is none
abbrev pub meaning_in : List (List ℕ × Schema) → Place → Option Parsed → Statement
meaning_in tables place (Some p) = bound tables p place
meaning_in tables place None = Refused Syntax

-- what the text means on tables of these names and columns
unfoldable pub meaning : List (List ℕ × Schema) → Place → List ℕ → Statement
meaning tables place text = meaning_in tables place (parsed_of text)

abbrev pub effect_in : Option Parsed → Effect
effect_in (Some parsed.Begin) = begins
effect_in (Some parsed.Commit) = commits
effect_in (Some parsed.Rollback) = rolls_back
effect_in _ = stays

-- what the text does to transactions where it is answered OK
unfoldable pub effect : List ℕ → Effect
effect text = effect_in (parsed_of text)

-- the names and columns of tables
abbrev pub definitions : List Table → List (List ℕ × Schema)
definitions tables = map (λ table. (table.name, table.schema)) tables

unfoldable pub whole : Language
whole = record { meaning = λ tables place text. meaning (definitions tables) place text; effect = effect }
