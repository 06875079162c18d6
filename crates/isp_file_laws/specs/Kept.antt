-- What a kept file's tables are like, as plain tables, and the database of a file without tables.
use Rattle.std.specs.Prelude.{◌≡◌, true, List, []}
use Rattle.std.specs.List.{AllByRecursion}
use Rattle.isp_format.specs.Empty.{first_fresh}
use Rattle.isp_plain.specs.Lined.{are_lined}
use Rattle.isp_plain.specs.Tables.{Table}
use Rattle.isp_changes.specs.Rows.{AreKeyed, AreRisingTables}
use Rattle.isp_space.specs.Spaces.{Space}
use Rattle.isp_image.specs.Databases.{Database}

-- texts have no line feed, keys rise, and each row stands at its own key
pub record ArePlain (tables : List Table) : Type 0 where
  pub lined : are_lined tables ≡ true
  pub rise : AreRisingTables tables
  pub keyed : AllByRecursion (λ (table : Table). AreKeyed table.rows) tables

-- nothing is free but the pages that were never used
abbrev pub empty_space : Space
empty_space = record { free = []; fresh = first_fresh; tables = 0; entries = 0; bytes = 0 }

abbrev pub empty_database : Database
empty_database = record { space = empty_space; tables = []; images = [] }
