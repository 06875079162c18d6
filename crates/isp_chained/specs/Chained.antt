-- Files whose old rows stand in undo chains on their pages, one chain a slot: a kept file, page 1 says the chains, and the pages of each
-- belong to its slot.
use Rattle.std.specs.Prelude.{◌≡◌, ℕ, List, [], ◌∷◌, ◌++◌, map, replicate, reverse, slice_get, slice_set, Some}
use Rattle.isp_disk.specs.Moments.{Image}
use Rattle.isp_format.specs.Contents.{StandsFor}
use Rattle.isp_format.specs.Control.{pages_in}
use Rattle.isp_format.specs.Ranges.{Contents, page_of}
use Rattle.isp_format.specs.Undo.{IsUndoDirectory, OldImage, undo_slots}
use Rattle.isp_plain.specs.Tables.{Table}
use Rattle.isp_image.specs.Databases.{Database, FileImage, HasNoMarked, committed}
use Rattle.isp_image.specs.Files.{KeptFile, Owns, of_slot}
use Rattle.isp_undo.specs.Chains.{Chain, IsUndoChain, ends_of, images_of, pages_of}

-- The contents of a file of so many pages are this database, and have these chains, from slot 0 on. Which of the old rows the chains
-- have is open.
pub record Holds (pages : ℕ) (contents : Contents) (db : Database) (chains : List Chain) : Type 0 where
  pub kept : KeptFile pages contents db
  pub directory : IsUndoDirectory (page_of contents 1) (map ends_of chains)
  pub stands : (slot : ℕ) (chain : Chain) → slice_get chains slot ≡ Some chain → IsUndoChain pages contents chain
  pub stacks : (slot : ℕ) (chain : Chain) → slice_get chains slot ≡ Some chain → Owns kept.owner (of_slot slot) (pages_of chain)

abbrev pub old_of : FileImage → OldImage
old_of i = i.image

-- the old rows of all chains, the newest first within a chain, and from the last slot to the first
abbrev pub images_in : List Chain → List OldImage
images_in [] = []
images_in (chain ∷ chains) = images_in chains ++ reverse (images_of chain)

-- the chains have the old rows of the database
abbrev pub IsNoted : Database → List Chain → Type 0
IsNoted db chains = map old_of db.images ≡ images_in chains

-- a kept file whose old rows are those of its chains
pub record ChainedFile (pages : ℕ) (contents : Contents) (db : Database) (chains : List Chain) : Type 0 where
  pub holds : Holds pages contents db chains
  pub noted : IsNoted db chains

-- no slot has a chain
unfoldable pub no_chains : List Chain
no_chains = replicate undo_slots []

-- a directory without chains
unfoldable pub no_slots : List (ℕ × ℕ)
no_slots = replicate undo_slots (0, 0)

-- that slot alone has one, if it isn't empty
abbrev pub alone : ℕ → Chain → List Chain
alone slot chain = slice_set no_chains slot chain

-- the contents stand for these tables, those of now with the old rows of the chains put back
pub record StandsChained (pages : ℕ) (contents : Contents) (chains : List Chain) (tables : List Table) : Type 0 where
  pub db : Database
  pub kept : ChainedFile pages contents db chains
  pub stand : committed db ≡ tables

-- the image is that of a kept file, which stands for these tables; no transaction is unfinished, and no row is marked
pub record IsKeptFile (image : Image) (tables : List Table) : Type 0 where
  pub contents : Contents
  pub stands_for : StandsFor image contents
  pub stands : StandsChained (pages_in image) contents no_chains tables
  pub tidy : HasNoMarked stands.db
