-- The work on an open file: what it leaves of the world below.
use Rattle.std.specs.Prelude.{◌≡◌, ℕ}
use Rattle.isp_disk.specs.declared.world.World.{Ghosts}
use Rattle.isp_format.specs.Ranges.{Contents}
use Rattle.isp_image.specs.Databases.{Database}
use Rattle.isp_opening.specs.Opening.{BreaksFirst}
use Rattle.isp_page.specs.State.{FileShape}
use Rattle.isp_serial.specs.Alone.{IsAlone}
use Rattle.isp_serial.specs.declared.script.Script.{Script}
use Rattle.isp_sessions.specs.Plays.{IsAtRest, IsSmall, Played, PlayedPart}
use Rattle.isp_run.specs.Causes.{CountsAt}
use Rattle.isp_run.specs.Files.{IsBefore, IsDamage, IsFullyPlaced, IsNotDamaged, IsTidy, IsWorkStatus, NamesLaterRule, NeverWorks}
use Rattle.isp_run.specs.Ran.{FrontOn, RanOn}
use Rattle.isp_run.specs.declared.status.Status.{Status}
use Rattle.isp_run.specs.declared.status.Status.TheVariants.{Done, DiskFault, PrintFault}

-- The script was played to its end, and the pages of the file now stand in their places.
pub record HasPlayed {W : Type 0} (g : Ghosts W) (script : Script) (shape : FileShape) (d : Database) (old new : W) : Type 0 where
  pub contents : Contents
  pub played : Played shape.pages script d contents (g.printed old) (g.printed new)
  pub placed : IsFullyPlaced shape (g.image new) contents

-- What was done, of a file whose contents were these; and why no more.
pub record HasWorked {W : Type 0} (g : Ghosts W) (script : Script) (old : W) (contents : Contents) (shape : FileShape) (status : Status) (new : W) : Type 0 where
  pub statuses : IsWorkStatus status
  pub small : IsSmall script
  pub done : g.tells → IsAlone script.sessions → status ≡ Done → (d : Database) → IsAtRest shape.pages contents d → HasPlayed g script shape d old new
  pub part : g.tells → IsAlone script.sessions → (d : Database) → IsAtRest shape.pages contents d → PlayedPart shape.pages script d (g.printed old) (g.printed new)
  pub sound : g.tells → (d : Database) → IsAtRest shape.pages contents d → IsNotDamaged status
  pub later : NamesLaterRule status
  pub tidy : g.tells → status ≡ Done → IsTidy (g.image new)
  pub disk : CountsAt DiskFault status (g.disk_faults old) (g.disk_faults new)
  pub printer : CountsAt PrintFault status (g.print_faults old) (g.print_faults new)

-- What a run of a script makes of a world whose file is made.
pub record RunsOn {W : Type 0} (g : Ghosts W) (script : Script) (old : W) (status : Status) (new : W) : Type 0 where
  pub statuses : IsWorkStatus status
  pub ran : g.tells → IsAlone script.sessions → status ≡ Done → RanOn script (g.printed old) (g.printed new) (g.image old) (g.image new)
  pub front : g.tells → IsAlone script.sessions → FrontOn script (g.printed old) (g.printed new) (g.image old)
  pub before : g.tells → IsBefore (g.image old) status → (g.image new ≡ g.image old) × (g.printed new ≡ g.printed old)
  pub damaged : g.tells → IsDamage (g.image old) status
  pub broken : g.tells → (rule : ℕ) → BreaksFirst rule (g.image old) → NeverWorks rule status
  pub tidy : g.tells → status ≡ Done → IsTidy (g.image new)
  pub disk : CountsAt DiskFault status (g.disk_faults old) (g.disk_faults new)
  pub printer : CountsAt PrintFault status (g.print_faults old) (g.print_faults new)
