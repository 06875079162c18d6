-- What the commands leave of a database file, and which statuses its bytes allow.
use Rattle.std.specs.Prelude.{◌≡◌, ◌≢◌, ◌⊎◌, ℕ, ◌<◌, ⊤, List, [], Option, Some, None, Result}
use Rattle.isp_disk.specs.Moments.{Image}
use Rattle.isp_disk.specs.Outside.{HasCause}
use Rattle.isp_disk.specs.declared.world.World.{Ghosts}
use Rattle.isp_format.specs.Contents.{StandsFor}
use Rattle.isp_format.specs.Control.{fanout_in, made_gate, pages_in}
use Rattle.isp_format.specs.Doublewrite.{area, doublewrite_gate}
use Rattle.isp_format.specs.Ranges.{Contents}
use Rattle.isp_format.specs.Rules.{log_rule}
use Rattle.isp_chained.specs.Chained.{IsKeptFile}
use Rattle.isp_opening.specs.Opening.{BreaksFirst}
use Rattle.isp_page.specs.State.{FileShape}
use Rattle.isp_page.specs.declared.fault.Fault.{Fault}
use Rattle.isp_page.specs.declared.fault.Fault.TheVariants as fault
use Rattle.isp_page.specs.declared.fault.StoreFault.TheVariants as store
use Rattle.isp_plain.specs.Tables.{Table}
use Rattle.isp_words.specs.declared.Command.{Command}
use Rattle.isp_words.specs.declared.Command.TheVariants as commands
use Rattle.isp_run.specs.declared.status.Status.{Status}
use Rattle.isp_run.specs.declared.status.Status.TheVariants.{Done, Usage, BadScript, NotMade, AlreadyMade, Damaged, ReadFault, DiskFault, PrintFault, OutOfMemory}

-- ---- what is left

-- every page stands in its place: no copy of one counts, and the log is empty
pub record IsTidy (image : Image) : Type 0 where
  pub closed : image doublewrite_gate ≢ 1
  pub in_place : StandsFor image (area image)
  pub empty : in_place.batches ≡ []

-- the same of these contents, in a file of this shape
pub record IsFullyPlaced (shape : FileShape) (image : Image) (contents : Contents) : Type 0 where
  pub stands : StandsFor image contents
  pub pages : pages_in image ≡ shape.pages
  pub fanout : fanout_in image ≡ shape.fanout
  pub tidy : IsTidy image

-- an empty file of this shape: it is kept, and stands for no table
pub record IsMadeFile (pages fanout : ℕ) (image : Image) : Type 0 where
  pub kept : IsKeptFile image []
  pub pages_are : pages_in image ≡ pages
  pub fanout_are : fanout_in image ≡ fanout
  pub tidy : IsTidy image

-- ---- the made-gate, byte 63

-- AlreadyMade of `make` exactly where the gate is 1; NotMade of `run` exactly where it isn't; but that the disk may fail
abbrev pub ByGate : Option Command → Image → Status → Type 0
ByGate None image status = (status ≢ NotMade) × (status ≢ AlreadyMade)
ByGate (Some (commands.Make pages fanout)) image status =
    (status ≢ NotMade) × (status ≡ AlreadyMade → image made_gate ≡ 1) × (image made_gate ≡ 1 → (status ≡ AlreadyMade) ⊎ (status ≡ DiskFault))
ByGate (Some (commands.Run frames)) image status =
    (status ≢ AlreadyMade) × (status ≡ NotMade → image made_gate ≢ 1) × (image made_gate ≢ 1 → (status ≡ NotMade) ⊎ (status ≡ DiskFault))

-- ---- damaged files

-- the file is kept, whatever tables it stands for
abbrev pub IsSomeKeptFile : Image → Type 0
IsSomeKeptFile image = (tables : List Table) × IsKeptFile image tables

-- Damaged names page 0 and the first of the rules 1 to 3 that the image breaks; or a later rule, and then the file isn't kept.
abbrev pub IsDamage : Image → Status → Type 0
IsDamage image (Damaged page rule) = ((page ≡ 0) × BreaksFirst rule image) ⊎ ((log_rule < rule) × (IsSomeKeptFile image → ⊥))
IsDamage image _ = ⊤

-- a damaged page that is named breaks a later rule than those
abbrev pub NamesLaterRule : Status → Type 0
NamesLaterRule (Damaged page rule) = log_rule < rule
NamesLaterRule _ = ⊤

abbrev pub IsNotDamaged : Status → Type 0
IsNotDamaged (Damaged page rule) = ⊥
IsNotDamaged _ = ⊤

-- the image breaks this rule first: no work begins on it, and nothing else is named
abbrev pub NeverWorks : ℕ → Status → Type 0
NeverWorks rule Done = ⊥
NeverWorks rule PrintFault = ⊥
NeverWorks rule (Damaged page named) = (page ≡ 0) × (named ≡ rule)
NeverWorks rule _ = ⊤

-- ---- which statuses there are

abbrev pub IsMakeStatus : Status → Type 0
IsMakeStatus Done = ⊤
IsMakeStatus AlreadyMade = ⊤
IsMakeStatus DiskFault = ⊤
IsMakeStatus _ = ⊥

-- of the work on a file
abbrev pub IsWorkStatus : Status → Type 0
IsWorkStatus Done = ⊤
IsWorkStatus (Damaged page rule) = ⊤
IsWorkStatus DiskFault = ⊤
IsWorkStatus PrintFault = ⊤
IsWorkStatus OutOfMemory = ⊤
IsWorkStatus _ = ⊥

-- of a script that is read, and the work
abbrev pub IsScriptStatus : Status → Type 0
IsScriptStatus (BadScript line) = ⊤
IsScriptStatus ReadFault = ⊤
IsScriptStatus status = IsWorkStatus status

abbrev pub IsRunStatus : Status → Type 0
IsRunStatus NotMade = ⊤
IsRunStatus status = IsScriptStatus status

abbrev pub status_of : Fault → Status
status_of fault.Memory = OutOfMemory
status_of (fault.Store store.Disk) = DiskFault
status_of (fault.Store store.Print) = PrintFault
status_of (fault.Store (store.Damaged page rule)) = Damaged page rule

-- ---- what each status leaves alone

-- a look at the disk: nothing but its time changes
pub record LooksOnly {W T E : Type 0} (g : Ghosts W) (old new : W) (result : Result T E) : Type 0 where
  pub image : g.image new ≡ g.image old
  pub printed : g.printed new ≡ g.printed old
  pub printer : g.print_faults new ≡ g.print_faults old
  pub cause : HasCause (g.disk_faults old) (g.disk_faults new) result

-- the statuses before any work on the file: its bytes are as they were, and nothing was printed
abbrev pub IsBefore : Image → Status → Type 0
IsBefore image Usage = ⊤
IsBefore image NotMade = ⊤
IsBefore image AlreadyMade = ⊤
IsBefore image (BadScript line) = ⊤
IsBefore image ReadFault = ⊤
IsBefore image (Damaged page rule) = BreaksFirst rule image
IsBefore image _ = ⊥

-- the statuses with which nothing is taken from the source
abbrev pub TakesNothing : Status → Type 0
TakesNothing Usage = ⊤
TakesNothing NotMade = ⊤
TakesNothing AlreadyMade = ⊤
TakesNothing _ = ⊥
