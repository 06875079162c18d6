-- Laws of databases whose old rows stand in chains.
use Rattle.std.specs.Prelude.{◌≡◌, ℕ, suc, ◌<◌, ℤ, true, false, List, [], ◌∷◌, ◌++◌, drop, map, reverse, take, slice_get, slice_set, Some}
use Rattle.std.specs.List.{list_any}
use Rattle.isp_format.specs.Ranges.{Contents, page_of}
use Rattle.isp_format.specs.Undo.{IsUndoDirectory, OldImage, undo_slots}
use Rattle.isp_plain.specs.Tables.{definition_of}
use Rattle.isp_changes.specs.Changes.{after_change, row_in}
use Rattle.isp_space.specs.Giving.{with_chain}
use Rattle.isp_space.specs.Spaces.{Space, next_free}
use Rattle.isp_image.specs.Courses.{change_at, names}
use Rattle.isp_image.specs.Databases.{Database, FileImage, FileRow, committed, tables_of}
use Rattle.isp_image.specs.Files.{KeptFile, is_owner, of_slot}
use Rattle.isp_undo.specs.Calls.{HasStack, Restacks, page_taken, space_after}
use Rattle.isp_undo.specs.Chains.{Chain, ends_of, gone, images_of, pages_of, popped, pushed, without_last}
use Rattle.isp_chained.specs.Chained.{ChainedFile, Holds, StandsChained, alone, images_in, no_chains, no_slots, old_of}
use Rattle.isp_chained.specs.Courses.{Reaches, Step}
use Rattle.isp_chained.specs.Steps.{AreDisjoint, FinishesAmong, IsFreeIn, NotesAmong, UndoesAmong}

-- ---- steps of databases

-- the tables that are committed stay, and those of now change at the key alone
pub record Noting (place : ℕ) (key : ℤ) (row : FileRow) (old new : Database) : Type 0 where
  pub same : committed new ≡ committed old
  pub now : tables_of new ≡ after_change (tables_of old) (change_at place key (Some row))

abbrev pub NotingKeeps : Type 0
NotingKeeps = (pages : ℕ) (contents : Contents) (old new : Database) (chains : List Chain) (place : ℕ) (key : ℤ) (row : FileRow) (newer older : List FileImage)
    → Holds pages contents old chains → NotesAmong place key row newer older old new → Noting place key row old new

abbrev pub UndoingKeeps : Type 0
UndoingKeeps = (pages : ℕ) (contents : Contents) (old new : Database) (chains : List Chain) (place : ℕ) (key : ℤ) (row : FileRow) (newer : List FileImage) (image : FileImage) (older : List FileImage)
    → Holds pages contents old chains → UndoesAmong place key row newer image older old new → Noting place key row old new

-- the tables of now stay, and at the keys of these old rows, and at no others, the committed rows are those of now
pub record Finishing (old new : Database) (mine : List FileImage) : Type 0 where
  pub now : tables_of new ≡ tables_of old
  pub defined : map definition_of (committed new) ≡ map definition_of (committed old)
  pub named : (place : ℕ) (key : ℤ) → list_any (names place key) mine ≡ true → row_in (committed new) place key ≡ row_in (tables_of old) place key
  pub others : (place : ℕ) (key : ℤ) → list_any (names place key) mine ≡ false → row_in (committed new) place key ≡ row_in (committed old) place key

abbrev pub FinishingCommits : Type 0
FinishingCommits = (pages : ℕ) (contents : Contents) (old new : Database) (chains : List Chain) (newer mine older : List FileImage)
    → Holds pages contents old chains → FinishesAmong newer mine older old new → Finishing old new mine

-- ---- the calls on chains

-- what the calls on the chain of a slot stand on
abbrev pub SlotsHaveStacks : Type 0
SlotsHaveStacks = (pages : ℕ) (contents : Contents) (db : Database) (chains : List Chain) (slot : ℕ) (chain : Chain)
    → Holds pages contents db chains → slice_get chains slot ≡ Some chain → HasStack pages contents (map ends_of chains) slot chain db.space

abbrev pub with_space : Database → Space → Database
with_space db s = record { space = s; tables = db.tables; images = db.images }

-- after each of them the database and the chains stand beside each other
abbrev pub PushingHolds : Type 0
PushingHolds = (pages : ℕ) (old new : Contents) (db : Database) (chains : List Chain) (slot : ℕ) (chain : Chain) (image : OldImage)
    → Holds pages old db chains → slice_get chains slot ≡ Some chain
    → Restacks pages old new (map ends_of chains) slot chain (pushed (next_free db.space) image chain) (space_after image chain db.space) (page_taken image chain db.space)
    → Holds pages new (with_space db (space_after image chain db.space)) (slice_set chains slot (pushed (next_free db.space) image chain))

abbrev pub PoppingHolds : Type 0
PoppingHolds = (pages : ℕ) (old new : Contents) (db : Database) (chains : List Chain) (slot : ℕ) (chain : Chain)
    → Holds pages old db chains → slice_get chains slot ≡ Some chain
    → Restacks pages old new (map ends_of chains) slot chain (popped chain) (with_chain (gone chain) db.space) []
    → Holds pages new (with_space db (with_chain (gone chain) db.space)) (slice_set chains slot (popped chain))

abbrev pub FinishingHolds : Type 0
FinishingHolds = (pages : ℕ) (old new : Contents) (db : Database) (chains : List Chain) (slot : ℕ) (chain : Chain)
    → Holds pages old db chains → slice_get chains slot ≡ Some chain
    → Restacks pages old new (map ends_of chains) slot chain [] (with_chain (pages_of chain) db.space) []
    → Holds pages new (with_space db (with_chain (pages_of chain) db.space)) (slice_set chains slot [])

-- ---- which old rows are newer

-- the old rows of the slots behind it, which are put back first, and those of the slots before it
abbrev pub newer_of : ℕ → List Chain → List OldImage
newer_of slot chains = images_in (drop (suc slot) chains)

abbrev pub older_of : ℕ → List Chain → List OldImage
older_of slot chains = images_in (take slot chains)

-- those of a slot stand between them, the newest first, whichever chain it has
abbrev pub SlotsStandInOrder : Type 0
SlotsStandInOrder = (chains : List Chain) (slot : ℕ) (chain after : Chain) → slice_get chains slot ≡ Some chain
    → images_in (slice_set chains slot after) ≡ newer_of slot chains ++ (reverse (images_of after) ++ older_of slot chains)

-- so one that is pushed is the newest of its slot
abbrev pub PushingNotes : Type 0
PushingNotes = (chains : List Chain) (slot : ℕ) (chain after : Chain) (image : OldImage) → slice_get chains slot ≡ Some chain → images_of after ≡ images_of chain ++ image ∷ []
    → images_in (slice_set chains slot after) ≡ newer_of slot chains ++ image ∷ (reverse (images_of chain) ++ older_of slot chains)

-- ---- no two chains name one key

abbrev pub PushingKeepsDisjoint : Type 0
PushingKeepsDisjoint = (chains : List Chain) (slot : ℕ) (chain after : Chain) (image : OldImage) → AreDisjoint chains → slice_get chains slot ≡ Some chain
    → images_of after ≡ images_of chain ++ image ∷ [] → IsFreeIn image slot chains → AreDisjoint (slice_set chains slot after)

abbrev pub PoppingKeepsDisjoint : Type 0
PoppingKeepsDisjoint = (chains : List Chain) (slot : ℕ) (chain after : Chain) → AreDisjoint chains → slice_get chains slot ≡ Some chain
    → images_of after ≡ without_last (images_of chain) → AreDisjoint (slice_set chains slot after)

abbrev pub FinishingKeepsDisjoint : Type 0
FinishingKeepsDisjoint = (chains : List Chain) (slot : ℕ) (chain : Chain) → AreDisjoint chains → slice_get chains slot ≡ Some chain → AreDisjoint (slice_set chains slot [])

-- ---- files without chains

-- a kept file without old rows, of whose pages in use none is a slot's
pub record IsPlainFile (pages : ℕ) (contents : Contents) (db : Database) : Type 0 where
  pub kept : KeptFile pages contents db
  pub directory : IsUndoDirectory (page_of contents 1) no_slots
  pub none : db.images ≡ []
  pub slots : (slot page : ℕ) → is_owner (of_slot slot) (kept.owner page) ≡ false

-- it is a file with chains that has none
abbrev pub PlainIsChained : Type 0
PlainIsChained = (pages : ℕ) (contents : Contents) (db : Database) → IsPlainFile pages contents db → ChainedFile pages contents db no_chains

abbrev pub ChainedIsPlain : Type 0
ChainedIsPlain = (pages : ℕ) (contents : Contents) (db : Database) → ChainedFile pages contents db no_chains → IsPlainFile pages contents db

-- and it stands for the tables of now
abbrev pub PlainStands : Type 0
PlainStands = (pages : ℕ) (contents : Contents) (db : Database) → IsPlainFile pages contents db → StandsChained pages contents no_chains (tables_of db)

-- ---- files with one chain

-- where one slot alone has a chain the old rows are its own, the newest first, and no two slots name one key
pub record OneChain (slot : ℕ) (chain : Chain) (db : Database) : Type 0 where
  pub own : slice_get (alone slot chain) slot ≡ Some chain
  pub images : map old_of db.images ≡ reverse (images_of chain)
  pub newer : newer_of slot (alone slot chain) ≡ []
  pub older : older_of slot (alone slot chain) ≡ []
  pub disjoint : AreDisjoint (alone slot chain)
  pub free : (image : OldImage) → IsFreeIn image slot (alone slot chain)
  pub next : (after : Chain) → slice_set (alone slot chain) slot after ≡ alone slot after

abbrev pub AloneIsOne : Type 0
AloneIsOne = (pages : ℕ) (contents : Contents) (db : Database) (slot : ℕ) (chain : Chain) → slot < undo_slots → ChainedFile pages contents db (alone slot chain) → OneChain slot chain db

-- an empty one is none
abbrev pub AloneIsNone : Type 0
AloneIsNone = (slot : ℕ) → alone slot [] ≡ no_chains

-- ---- what isn't named, and pages that aren't used

-- where no old row is of a key the committed row is that of now
abbrev pub UnnamedIsCommitted : Type 0
UnnamedIsCommitted = (pages : ℕ) (contents : Contents) (db : Database) (chains : List Chain) (place : ℕ) (key : ℤ) → Holds pages contents db chains
    → list_any (names place key) db.images ≡ false → row_in (committed db) place key ≡ row_in (tables_of db) place key

-- pages that were never used may have any bytes
abbrev pub ChainedIsLocal : Type 0
ChainedIsLocal = (pages : ℕ) (old new : Contents) (db : Database) (chains : List Chain) → ChainedFile pages old db chains
    → ((page : ℕ) → page < db.space.fresh → page_of new page ≡ page_of old page) → ChainedFile pages new db chains

-- a course goes on by what is kept
abbrev pub CourseGoesOn : Type 0
CourseGoesOn = (pages : ℕ) (contents : Contents) (chains : List Chain) (first d after : Database) → Reaches pages first d → Step d after → ChainedFile pages contents after chains → Reaches pages first after
