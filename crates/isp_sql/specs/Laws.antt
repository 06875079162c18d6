-- What holds of all texts.
use Rattle.std.specs.Prelude.{◌≡◌, ◌↔◌, ℕ, List, Result, Ok, Err, Some}
use Rattle.isp_tokens.specs.declared.error.SqlError.{SqlError}
use Rattle.isp_tokens.specs.declared.error.SqlError.TheVariants.{Syntax, OutOfMemory}
use Rattle.isp_sql.specs.declared.parsed.Parsed.{Parsed}
use Rattle.isp_sql.specs.Grammar.{IsStatement}
use Rattle.isp_sql.specs.Reading.{parsed_of}

-- this statement was read, unless memory ran out
abbrev pub IsRead : Result Parsed SqlError → Parsed → Type 0
IsRead (Ok read) p = read ≡ p
IsRead (Err Syntax) p = ⊥
IsRead (Err OutOfMemory) p = Unit {0}

-- a text is one statement at most
abbrev pub OneMeaning : Type 0
OneMeaning = (p q : Parsed) (text : List ℕ) → IsStatement p text → IsStatement q text → p ≡ q

-- reading from left to right finds the statement that the grammar says
abbrev pub ReadAsWritten : Type 0
ReadAsWritten = (p : Parsed) (text : List ℕ) → IsStatement p text ↔ (parsed_of text ≡ Some p)
