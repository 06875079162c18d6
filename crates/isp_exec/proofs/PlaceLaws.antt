-- The place of the table that a statement is on.
use Rattle.std.proofs.Common.{◌≡◌, List, refl}
use Rattle.isp_catalog.specs.declared.table.TableDef.{TableDef}
use Rattle.isp_image.specs.Databases.{Database, tables_of}
use Rattle.isp_plain.specs.declared.statement.Statement.{Statement}
use Rattle.isp_plain.specs.declared.statement.Statement.TheVariants.{Create, Insert, Select, Update, Delete, Begin, Commit, Rollback, Refused}
use Rattle.isp_work.specs.Starting.{place_for}
use Rattle.isp_tables.specs.Opened.{defs_in}
use Rattle.isp_tables.proofs.TableLaws.{place_is}
use Rattle.isp_exec.specs.Starting.{place_by}

pub place_by_is : (d : Database) (defs : List TableDef) (s : Statement) → defs_in d ≡ defs → place_by defs s ≡ place_for (tables_of d) s
place_by_is d defs (Create name schema) are = refl
place_by_is d defs (Insert name rows) are = place_is d defs name are
place_by_is d defs (Select name columns w) are = place_is d defs name are
place_by_is d defs (Update name sets w) are = place_is d defs name are
place_by_is d defs (Delete name w) are = place_is d defs name are
place_by_is d defs Begin are = refl
place_by_is d defs Commit are = refl
place_by_is d defs Rollback are = refl
place_by_is d defs (Refused refusal) are = refl
