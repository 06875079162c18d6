-- What changes of a database with chains: a row is written and what stood there noted, the newest old row of a slot is put back, and
-- the old rows of a slot go. Old rows of slots behind it are newer ones, those before it older ones.
use Rattle.std.specs.Prelude.{◌≡◌, ◌≢◌, ℕ, ◌==◌, ◌&&◌, ℤ, Bool, true, false, List, ◌∷◌, ◌++◌, slice_get, Some}
use Rattle.std.specs.List.{AllByRecursion, list_any}
use Rattle.std.specs.Ordering.{int_eq}
use Rattle.isp_format.specs.Undo.{OldImage}
use Rattle.isp_image.specs.Courses.{Exchanges, change_at, names, stood_at}
use Rattle.isp_image.specs.Databases.{Database, FileImage, FileRow, back_of, image_of}
use Rattle.isp_undo.specs.Chains.{Chain, images_of}

-- none of these old rows was noted of that key
abbrev pub IsUnnamed : ℕ → ℤ → List FileImage → Type 0
IsUnnamed place key images = list_any (names place key) images ≡ false

-- a row is written, and what stood there is noted between newer and older ones; no newer one is of its key
pub record NotesAmong (place : ℕ) (key : ℤ) (row : FileRow) (newer older : List FileImage) (old new : Database) : Type 0 where
  pub at : row.stored.key ≡ key
  pub exchanges : Exchanges place key (Some row) old new
  pub was : old.images ≡ newer ++ older
  pub noted : new.images ≡ newer ++ image_of place key (stood_at place key old) ∷ older
  pub free : IsUnnamed place key newer

-- an old row between newer and older ones is put back and noted no more; no newer one is of its key, which keeps a row, marked where
-- there was none
pub record UndoesAmong (place : ℕ) (key : ℤ) (row : FileRow) (newer : List FileImage) (image : FileImage) (older : List FileImage) (old new : Database) : Type 0 where
  pub at : row.stored.key ≡ key
  pub exchanges : Exchanges place key (Some row) old new
  pub was : old.images ≡ newer ++ image ∷ older
  pub noted : new.images ≡ newer ++ older
  pub back : back_of image ≡ change_at place key (Some row)
  pub free : IsUnnamed place key newer

-- two old rows are of one key
abbrev pub are_of_one : OldImage → OldImage → Bool
are_of_one one other = (one.table == other.table) && int_eq one.key other.key

-- none of the first old rows is of the key of one of the second
abbrev pub AreApart : List OldImage → List OldImage → Type 0
AreApart images others = AllByRecursion (λ (image : OldImage). list_any (are_of_one image) others ≡ false) images

-- the old rows of a slot go, none of which is of the key of another slot's
pub record FinishesAmong (newer mine older : List FileImage) (old new : Database) : Type 0 where
  pub tables : new.tables ≡ old.tables
  pub was : old.images ≡ newer ++ (mine ++ older)
  pub noted : new.images ≡ newer ++ older
  pub apart : (place : ℕ) (key : ℤ) → list_any (names place key) mine ≡ true → IsUnnamed place key newer × IsUnnamed place key older

-- no other slot has an old row of its key
abbrev pub IsFreeIn : OldImage → ℕ → List Chain → Type 0
IsFreeIn image slot chains = (other : ℕ) (more : Chain) → slot ≢ other → slice_get chains other ≡ Some more → list_any (are_of_one image) (images_of more) ≡ false

-- no two slots have old rows of one key
abbrev pub AreDisjoint : List Chain → Type 0
AreDisjoint chains = (slot other : ℕ) (chain more : Chain) → slot ≢ other → slice_get chains slot ≡ Some chain → slice_get chains other ≡ Some more → AreApart (images_of chain) (images_of more)
