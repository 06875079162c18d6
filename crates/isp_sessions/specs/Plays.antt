-- What a script that is run leaves of a file's pages, and what it prints.
use Rattle.std.specs.Prelude.{◌≡◌, ℕ, ◌+◌, ◌<◌, ◌^◌, true, false, List, ◌++◌, length, Result, IfErr, OnOk}
use Rattle.std.specs.List.{flat_map}
use Rattle.isp_disk.specs.Outside.{PrintsPart, Rose}
use Rattle.isp_writes.specs.Causes.{FillsUp, IsFull}
use Rattle.isp_format.specs.Ranges.{Contents}
use Rattle.isp_chained.specs.Courses.{Reaches}
use Rattle.isp_image.specs.Databases.{Database, tables_of}
use Rattle.isp_image.specs.Databases.{HasNoMarked}
use Rattle.isp_chained.specs.Chained.{ChainedFile, no_chains}
use Rattle.isp_format.specs.Undo.{undo_slots}
use Rattle.isp_page.specs.declared.fault.Fault.{Fault}
use Rattle.isp_page.specs.declared.fault.Fault.TheVariants.{Memory, Store}
use Rattle.isp_page.specs.declared.fault.StoreFault.TheVariants.{Damaged, Disk, Print}
use Rattle.isp_page.specs.declared.pages.Pages.{Ghosts}
use Rattle.isp_serial.specs.Alone.{AreSmall, Full, run_after, run_answers}
use Rattle.isp_serial.specs.Spelling.{line_of}
use Rattle.isp_serial.specs.declared.script.Script.{Script}
use Rattle.isp_serial.specs.declared.script.Session.{Session}
use Rattle.isp_sessions.specs.Sql.{sql}

-- No transaction is open: no slot has a chain, and no row is marked.
pub record IsAtRest (pages : ℕ) (contents : Contents) (d : Database) : Type 0 where
  pub kept : ChainedFile pages contents d no_chains
  pub tidy : HasNoMarked d

-- a database that is reached from the first has no room
pub record ReachesFull (pages : ℕ) (first : Database) : Type 0 where
  pub at : Database
  pub before : Reaches pages first at
  pub full : IsFull pages at

-- the session's number is that of an undo slot
abbrev pub HasSlot : Session → Type 0
HasSlot session = session.number < undo_slots

-- the numbers of the script's answers fit into 64 bits
abbrev pub IsSmall : Script → Type 0
IsSmall script = (length script.setup + 1 < 2 ^ 64) × AreSmall script.sessions

-- the lines that the script's run prints, from the tables of this database, where these statements find the file full
abbrev pub lines_of : Full → Script → Database → List ℕ
lines_of full script d = flat_map line_of (run_answers sql full (tables_of d) script)

-- The script was run to its end: its lines were printed, and the pages are a database with the tables that the run leaves.
pub record Played (pages : ℕ) (script : Script) (d : Database) (new : Contents) (before now : List ℕ) : Type 0 where
  pub full : Full
  pub printed : now ≡ before ++ lines_of full script d
  pub last : Database
  pub rests : IsAtRest pages new last
  pub tables : tables_of last ≡ run_after sql full (tables_of d) script
  pub course : Reaches pages d last
  pub was_full : (session number : ℕ) → full session number ≡ true → FillsUp pages d last

-- it was not: a part of such lines was printed, from the first byte on
pub record PlayedPart (pages : ℕ) (script : Script) (d : Database) (before now : List ℕ) : Type 0 where
  pub full : Full
  pub part : PrintsPart before (lines_of full script d) now
  pub was_full : (session number : ℕ) → full session number ≡ true → ReachesFull pages d

module _ {S : Type 0} (g : Ghosts S) where
  -- the counts of faults: those of the disk and of the printer
  pub record SameCounts (old new : S) : Type 0 where
    pub disk : g.disk_faults new ≡ g.disk_faults old
    pub printer : g.print_faults new ≡ g.print_faults old

  -- why it ended before its end: by the disk or by the printer where its count rose, and the other's did not
  abbrev pub StopsBy : S → S → Fault → Type 0
  StopsBy old new Memory = SameCounts old new
  StopsBy old new (Store Disk) = Rose (g.disk_faults old) (g.disk_faults new) × (g.print_faults new ≡ g.print_faults old)
  StopsBy old new (Store Print) = Rose (g.print_faults old) (g.print_faults new) × (g.disk_faults new ≡ g.disk_faults old)
  StopsBy old new (Store (Damaged page rule)) = SameCounts old new

  -- What stays: the file's shape; at its end no call has failed, and no mini-transaction is begun.
  pub record StaysPlaying {T : Type 0} (old new : S) (result : Result T Fault) : Type 0 where
    pub shape : g.shape new ≡ g.shape old
    pub counts : OnOk result (SameCounts old new)
    pub usable : OnOk result (g.usable new ≡ true)
    pub none : OnOk result ((g.mini new).is_begun ≡ false)
    pub cause : IfErr result (StopsBy old new)
