use Rattle.std.proofs.Common.{◌≡◌, ◌≤◌, take}
use Rattle.isp_rnode.specs.Nodes.{node_of}
use Rattle.isp_rtree.specs.Removing.{others_of}
use Rattle.isp_rtree.proofs.removing.copy_others.Given as goal

abbrev pub invariant-loop-i : goal.invariant-loop-i
invariant-loop-i l = record {
  few : l.count ≤ l.i;
  kept : take l.count l.kept ≡ others_of l.number (take l.i (node_of l.p.bytes).entries);
}
