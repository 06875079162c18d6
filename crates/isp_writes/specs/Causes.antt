-- Why a statement is answered that the file is full: there is no room for one more change.
use Rattle.std.specs.Prelude.{◌≡◌, ℕ, false}
use Rattle.isp_chained.specs.Courses.{Reaches}
use Rattle.isp_image.specs.Databases.{Database}
use Rattle.isp_space.specs.Spaces.{has_room}

-- the database of a file of so many pages has no room
abbrev pub IsFull : ℕ → Database → Type 0
IsFull pages d = has_room pages d.space ≡ false

-- a database on the way from one to the other has none
pub record FillsUp (pages : ℕ) (old new : Database) : Type 0 where
  pub at : Database
  pub before : Reaches pages old at
  pub behind : Reaches pages at new
  pub full : IsFull pages at
