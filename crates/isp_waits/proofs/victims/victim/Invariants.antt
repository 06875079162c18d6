use Rattle.std.proofs.Common.{◌<◌, take, All, IsTrue}
use Rattle.isp_waits.specs.Graphs.{has}
use Rattle.isp_waits.specs.Victims.{GivesWay}
use Rattle.isp_waits.proofs.victims.victim.Given as goal

abbrev pub invariant-loop-s : goal.invariant-loop-s
invariant-loop-s l = IsTrue (has l.members l.best) × (l.best < 17) × All (GivesWay l.undo l.best) (take l.s-index l.members)
