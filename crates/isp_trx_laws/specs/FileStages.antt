-- A statement on its way, on a file: its tables are those of now, and what it noted are the newest of the file's old rows.
use Rattle.std.specs.Prelude.{◌≡◌, List, ◌++◌, map}
use Rattle.isp_changes.specs.Stages.{Stage}
use Rattle.isp_image.specs.Databases.{Database, FileImage, back_of, tables_of}

-- The stage is that of the database. Behind the old rows that it noted stand those that were noted before it began.
pub record IsStageOf (before : List FileImage) (d : Database) (stage : Stage) : Type 0 where
  pub tables : stage.tables ≡ tables_of d
  pub since : List FileImage
  pub images : d.images ≡ since ++ before
  pub noted : stage.noted ≡ map back_of since
