-- The number with which the program ends.
use Rattle.std.specs.Prelude.{ℕ}
use Rattle.isp_run.specs.declared.status.Status.{Status}
use Rattle.isp_run.specs.declared.status.Status.TheVariants.{Done, Usage, BadScript, NotMade, AlreadyMade, Damaged, ReadFault, DiskFault, PrintFault, OutOfMemory}

abbrev pub number_of : Status → ℕ
number_of Done = 0
number_of Usage = 2
number_of (BadScript line) = 3
number_of NotMade = 4
number_of AlreadyMade = 5
number_of (Damaged page rule) = 6
number_of ReadFault = 7
number_of DiskFault = 8
number_of PrintFault = 9
number_of OutOfMemory = 10
