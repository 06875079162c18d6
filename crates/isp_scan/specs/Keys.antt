-- The key that a statement names.
use Rattle.std.specs.Prelude.{ℤ, Option, Some, None}
use Rattle.isp_catalog.specs.declared.table.TableDef.{TableDef}
use Rattle.isp_paths.specs.Paths.{path_of}
use Rattle.isp_paths.specs.declared.access.Path.{Path}
use Rattle.isp_paths.specs.declared.access.Path.TheVariants.{Key}
use Rattle.isp_plain.specs.declared.statement.Statement.{Statement}

abbrev pub key_of_path : Path → Option ℤ
key_of_path (Key key) = Some key
key_of_path _ = None

-- by the path to the rows of its condition
abbrev pub named_key : TableDef → Statement → Option ℤ
named_key def statement = key_of_path (path_of def.schema statement)
