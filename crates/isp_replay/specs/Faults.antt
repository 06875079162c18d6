-- Why the log isn't put into the pages: within this crate, and as it is told.
use Rattle.std.specs.Prelude.{◌≡◌, Result, Ok, Err}
use Rattle.isp_disk.specs.Outside.{Rose}
use Rattle.isp_disk.specs.declared.world.Failed.{Failed}
use Rattle.isp_disk.specs.declared.world.World.{Ghosts}
use Rattle.isp_format.specs.Rules.{log_rule}
use Rattle.isp_page.specs.declared.fault.StoreFault.{StoreFault}
use Rattle.isp_page.specs.declared.fault.StoreFault.TheVariants as store
use Rattle.isp_replay.specs.declared.fault.ReplayFault.{ReplayFault}
use Rattle.isp_replay.specs.declared.fault.ReplayFault.TheVariants.{DiskFailed, NoSuchPage}

-- page 0 has the blocks in which the rules show
abbrev pub fault_of : ReplayFault → StoreFault
fault_of DiskFailed = store.Disk
fault_of NoSuchPage = store.Damaged 0 log_rule

-- what the disk answered: a page that the file doesn't have is no failure of it
abbrev pub disk_part : {T : Type 0} → Result T ReplayFault → Result (Unit {0}) Failed
disk_part (Ok done) = Ok tt
disk_part (Err DiskFailed) = Err (record {})
disk_part (Err NoSuchPage) = Ok tt

-- The disk failed, and its count of faults rose. Or a range lies in a page that the file doesn't have: rule 3, told with
-- page 0, on a world that doesn't tell its bytes; no call failed then. No print is at fault.
abbrev pub ReplayFails : {W : Type 0} → Ghosts W → W → W → StoreFault → Type 0
ReplayFails g old new store.Disk = Rose (g.disk_faults old) (g.disk_faults new)
ReplayFails g old new store.Print = ⊥
ReplayFails g old new (store.Damaged page rule) = (page ≡ 0) × (rule ≡ log_rule) × (g.disk_faults new ≡ g.disk_faults old) × (g.tells → ⊥)
