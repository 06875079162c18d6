-- Definitions of tables by their places: which table has a name, and where its root is.
use Rattle.std.specs.Prelude.{ℕ, Bool, List, map, Option}
use Rattle.std.specs.List.{list_all, position}
use Rattle.std.specs.Str.{bytes_eq}
use Rattle.isp_catalog.specs.Limits.{has_key}
use Rattle.isp_catalog.specs.declared.table.TableDef.{TableDef}
use Rattle.isp_plain.specs.declared.value.Schema.{Schema}

-- the place of the table of that name
abbrev pub place_in : List TableDef → List ℕ → Option ℕ
place_in defs name = position (λ def. bytes_eq def.name name) defs

-- the roots of the tables' trees
abbrev pub roots_of : List TableDef → List ℕ
roots_of defs = map (λ (def : TableDef). def.root.0) defs

-- their names and columns
abbrev pub definitions_of : List TableDef → List (List ℕ × Schema)
definitions_of defs = map (λ (def : TableDef). (def.name, def.schema)) defs

-- the first column of each holds the keys
abbrev pub are_keyed : List TableDef → Bool
are_keyed defs = list_all (λ (def : TableDef). has_key def.schema.columns) defs
