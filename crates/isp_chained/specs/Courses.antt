-- How a file goes from one database to another: by steps of one row of one table, of one chain, or of one table more, each of them
-- kept in some contents.
use Rattle.std.specs.Prelude.{◌≡◌, ◌⊎◌, ℕ, ℤ, Bool, List, [], ◌∷◌, length, if◌then◌else◌}
use Rattle.isp_format.specs.Ranges.{Contents}
use Rattle.isp_space.specs.Giving.{with_chain}
use Rattle.isp_space.specs.Spaces.{Space, taken}
use Rattle.isp_image.specs.Courses.{IsAdded, IsDropped, IsPutSpace}
use Rattle.isp_image.specs.Databases.{Database, FileImage, FileRow, FileTable}
use Rattle.isp_undo.specs.Chains.{Chain}
use Rattle.isp_chained.specs.Chained.{ChainedFile}
use Rattle.isp_chained.specs.Steps.{FinishesAmong, NotesAmong, UndoesAmong}

-- the space, where an old row is noted: a page is taken for it, or none
abbrev pub noted_space : Bool → Space → Space
noted_space takes s = if takes then taken s else s

-- a row is written, and what stood there is noted
pub record IsWritten (place : ℕ) (key : ℤ) (row : FileRow) (newer older : List FileImage) (old new : Database) : Type 0 where
  pub notes : NotesAmong place key row newer older old new
  pub takes : Bool
  pub space : (new.space ≡ noted_space takes old.space) ⊎ IsPutSpace (length row.stored.row) (noted_space takes old.space) new.space

-- the newest old row of a slot is put back, and noted no more; pages of its chain may go
pub record IsUndone (place : ℕ) (key : ℤ) (row : FileRow) (newer : List FileImage) (image : FileImage) (older : List FileImage) (old new : Database) : Type 0 where
  pub undoes : UndoesAmong place key row newer image older old new
  pub gone : List ℕ
  pub space : new.space ≡ with_chain gone old.space

-- the old rows of a slot are noted no more, and the pages of its chain go
pub record IsFinished (newer mine older : List FileImage) (old new : Database) : Type 0 where
  pub finishes : FinishesAmong newer mine older old new
  pub gone : List ℕ
  pub space : new.space ≡ with_chain gone old.space

-- one step
pub data Step : Database → Database → Type 0 where
  writes : {old new : Database} (place : ℕ) (key : ℤ) (row : FileRow) (newer older : List FileImage) → IsWritten place key row newer older old new → Step old new
  undoes : {old new : Database} (place : ℕ) (key : ℤ) (row : FileRow) (newer : List FileImage) (image : FileImage) (older : List FileImage) → IsUndone place key row newer image older old new → Step old new
  drops : {old new : Database} (place : ℕ) (key : ℤ) → IsDropped place key old new → Step old new
  finishes : {old new : Database} (newer mine older : List FileImage) → IsFinished newer mine older old new → Step old new
  adds : {old new : Database} (table : FileTable) → IsAdded table old new → Step old new

-- the database is that of some contents, with some chains
abbrev pub IsKept : ℕ → Database → Type 0
IsKept pages db = (contents : Contents) × (chains : List Chain) × ChainedFile pages contents db chains

-- from one to the other by way of these
abbrev pub Course : ℕ → Database → List Database → Database → Type 0
Course pages old [] new = new ≡ old
Course pages old (next ∷ way) new = Step old next × IsKept pages next × Course pages next way new

-- the second is on the way from the first
abbrev pub Reaches : ℕ → Database → Database → Type 0
Reaches pages old new = (way : List Database) × Course pages old way new
