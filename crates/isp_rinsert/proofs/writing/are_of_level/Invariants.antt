use Rattle.std.proofs.Common.{take}
use Rattle.isp_rinsert.specs.Applying.{AreOfLevel}
use Rattle.isp_rinsert.proofs.writing.are_of_level.Given as goal

abbrev pub invariant-loop-e : goal.invariant-loop-e
invariant-loop-e l = AreOfLevel l.level (take l.e-index l.entries)
