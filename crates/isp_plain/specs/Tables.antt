-- Plain tables: what a database is to those who use it. No page, tree, lock or log is in them.
use Rattle.std.specs.Prelude.{ℕ, ℤ, List}
use Rattle.isp_plain.specs.declared.value.Row.{Row}
use Rattle.isp_plain.specs.declared.value.Schema.{Schema}

-- a table: its rows are a finite map from keys, as the pairs of a key and its row, keys rising
pub record Table : Type 0 where
  pub name : List ℕ
  pub schema : Schema
  pub rows : List (ℤ × Row)

-- its name and its columns
abbrev pub definition_of : Table → List ℕ × Schema
definition_of table = (table.name, table.schema)
