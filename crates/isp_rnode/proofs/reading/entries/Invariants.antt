use Rattle.std.proofs.Common.{◌≡◌, take}
use Rattle.isp_rnode.specs.Nodes.{node_of}
use Rattle.isp_rnode.proofs.reading.entries.Given as goal

abbrev pub invariant-loop-i : goal.invariant-loop-i
invariant-loop-i l = l.entries.items ≡ take l.i (node_of l.p.bytes).entries
