-- What the tests of the first three page rules find, and what laying the copies makes of the file.
use Rattle.std.specs.Prelude.{◌≡◌, ◌≢◌, List, Result, Ok, Err}
use Rattle.isp_disk.specs.Moments.{Image}
use Rattle.isp_disk.specs.declared.world.Failed.{Failed}
use Rattle.isp_format.specs.Control.{IsControl, control_size, fanout_in, pages_in}
use Rattle.isp_format.specs.Doublewrite.{HasCopies, area, doublewrite_gate, laid}
use Rattle.isp_format.specs.Log.{IsLog, Transaction, log_bytes, log_of, log_place}
use Rattle.isp_format.specs.Ranges.{SameIn}
use Rattle.isp_page.specs.declared.fault.StoreFault.{StoreFault}
use Rattle.isp_page.specs.declared.fault.StoreFault.TheVariants as store
use Rattle.isp_opening.specs.Opening.{BreaksFirst}
use Rattle.isp_opening.specs.declared.rules.FileParts.{FileParts}
use Rattle.isp_opening.specs.declared.rules.OpenFault.{OpenFault}
use Rattle.isp_opening.specs.declared.rules.OpenFault.TheVariants.{Broken, Disk}
use Rattle.isp_stable.specs.declared.stable.Stable.{Stable}

-- the image keeps the first three page rules, and these are its numbers and its log
pub record KeepsRules (image : Image) (found : FileParts) : Type 0 where
  pub control : IsControl image
  pub pages : pages_in image ≡ found.control.pages
  pub fanout : fanout_in image ≡ found.control.fanout
  pub copies : HasCopies found.control.pages image
  pub batches : List (List Transaction)
  pub log : IsLog found.control.pages (log_of image) 0 batches found.log.end

-- the rule that is named is the first that the image breaks
abbrev pub IsBroken : Image → OpenFault → Type 0
IsBroken image Disk = Unit {0}
IsBroken image (Broken rule) = BreaksFirst rule image

-- no copy counts, and what the copies were laid over stands in its place, with the same control block and log
pub record AreInPlace (before now : Image) : Type 0 where
  pub closed : now doublewrite_gate ≢ 1
  pub placed : area now ≡ laid before
  pub control : SameIn 0 control_size before now
  pub log : SameIn log_place log_bytes before now

-- the fault of a store of pages; page 0 has the blocks in which the rules show
abbrev pub fault_of : OpenFault → StoreFault
fault_of Disk = store.Disk
fault_of (Broken rule) = store.Damaged 0 rule

-- what the disk answered: a broken rule is no failure of it
abbrev pub disk_part : {T : Type 0} → Result T OpenFault → Result (Unit {0}) Failed
disk_part (Ok found) = Ok tt
disk_part (Err Disk) = Err (record {})
disk_part (Err (Broken rule)) = Ok tt

-- the file that was found in a world
abbrev pub file_of : {W : Type 0} → W → FileParts → Stable W
file_of world found = record { world = world; log = found.log; pages = found.control.pages; fanout = found.control.fanout }
