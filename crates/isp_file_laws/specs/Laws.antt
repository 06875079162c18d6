-- Laws of kept files: their tables as plain tables, by key, and an empty file.
use Rattle.std.specs.Prelude.{◌≡◌, ◌*◌, ◌<◌, ◌≤◌, ℕ, ℤ, is_some, [], length, slice_get, Some}
use Rattle.std.specs.List.{AllByRecursion}
use Rattle.std.specs.Option.{option_map}
use Rattle.isp_disk.specs.Moments.{Image}
use Rattle.isp_format.specs.Contents.{StandsFor}
use Rattle.isp_format.specs.Control.{IsPages}
use Rattle.isp_format.specs.Empty.{empty_contents, first_fresh}
use Rattle.isp_format.specs.Leaf.{Stored, most_slot}
use Rattle.isp_format.specs.Ranges.{Contents, page_bytes}
use Rattle.isp_plain.specs.declared.value.Row.{Row}
use Rattle.isp_row.specs.RowSpelling.{IsRowOf}
use Rattle.isp_catalog.specs.Catalogue.{IsTableOf}
use Rattle.isp_changes.specs.Changes.{row_in}
use Rattle.isp_clustered.specs.Cells.{kept_of}
use Rattle.isp_clustered.specs.Rows.{find}
use Rattle.isp_clustered.specs.Trees.{rows_of}
use Rattle.isp_image.specs.Courses.{stood_at}
use Rattle.isp_image.specs.Databases.{Database, FileTable, committed, seen, shown, tables_of}
use Rattle.isp_image.specs.Files.{KeptFile}
use Rattle.isp_chained.specs.Chained.{ChainedFile, IsKeptFile, no_chains}
use Rattle.isp_file_laws.specs.Kept.{ArePlain, empty_database}
use Rattle.isp_file_laws.specs.Seen.{StandsAt, is_live}

-- the tables of now, and the committed ones, are such plain tables
abbrev pub KeptIsPlain : Type 0
KeptIsPlain = (pages : ℕ) (contents : Contents) (d : Database) → KeptFile pages contents d → ArePlain (tables_of d)

abbrev pub CommittedIsPlain : Type 0
CommittedIsPlain = (pages : ℕ) (contents : Contents) (d : Database) → KeptFile pages contents d → ArePlain (committed d)

-- each row of now is one of its table's columns
abbrev pub ShownAreRows : Type 0
ShownAreRows = (pages : ℕ) (contents : Contents) (d : Database) (place : ℕ) (t : FileTable) → KeptFile pages contents d → slice_get d.tables place ≡ Some t
    → AllByRecursion (λ e. IsRowOf t.def.schema e.0 e.1) (shown t.rows)

-- a table's columns are within the limits of a definition, and its root is a page of the file
abbrev pub TablesAreDefined : Type 0
TablesAreDefined = (pages : ℕ) (contents : Contents) (d : Database) (place : ℕ) (t : FileTable) → KeptFile pages contents d → slice_get d.tables place ≡ Some t → IsTableOf pages t.def

-- the row of now at a key is what is seen of the row that the file has there
abbrev pub RowIsSeen : Type 0
RowIsSeen = (pages : ℕ) (contents : Contents) (d : Database) (place : ℕ) (key : ℤ) → KeptFile pages contents d → row_in (tables_of d) place key ≡ seen (stood_at place key d)

-- there is one exactly where `get` answers a row that isn't marked
abbrev pub GetSeesRow : Type 0
GetSeesRow = (pages : ℕ) (contents : Contents) (d : Database) (place : ℕ) (t : FileTable) (key : ℤ) → KeptFile pages contents d → slice_get d.tables place ≡ Some t
    → is_some (row_in (tables_of d) place key) ≡ is_live (option_map kept_of (find key (rows_of t.tree)))

-- a row of now stands in the tree
abbrev pub RowStands : Type 0
RowStands = (pages : ℕ) (contents : Contents) (d : Database) (place : ℕ) (t : FileTable) (key : ℤ) (row : Row) → KeptFile pages contents d → slice_get d.tables place ≡ Some t
    → row_in (tables_of d) place key ≡ Some row → StandsAt t key row

-- no row of a tree is longer than a slot may be
abbrev pub RowsAreShort : Type 0
RowsAreShort = (pages : ℕ) (contents : Contents) (d : Database) (place : ℕ) (t : FileTable) (key : ℤ) (s : Stored) → KeptFile pages contents d → slice_get d.tables place ≡ Some t
    → find key (rows_of t.tree) ≡ Some s → length s.row ≤ most_slot

-- contents that begin as an empty file's do are a kept file without tables and without chains
abbrev pub EmptyIsKept : Type 0
EmptyIsKept = (pages : ℕ) (contents : Contents) → IsPages pages → ((place : ℕ) → place < first_fresh * page_bytes → contents place ≡ empty_contents place) → ChainedFile pages contents empty_database no_chains

-- so an image of such contents stands for no table
abbrev pub EmptyStandsForNone : Type 0
EmptyStandsForNone = (image : Image) (contents : Contents) → StandsFor image contents → ((place : ℕ) → place < first_fresh * page_bytes → contents place ≡ empty_contents place) → IsKeptFile image []
