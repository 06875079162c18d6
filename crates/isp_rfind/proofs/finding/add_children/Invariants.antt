use Rattle.std.proofs.Common.{◌≡◌, ◌++◌, drop}
use Rattle.std.specs.List.{filter_map}
use Rattle.isp_rnode.specs.Nodes.{node_of}
use Rattle.isp_rfind.specs.Stack.{pending_of}
use Rattle.isp_rfind.proofs.finding.add_children.Given as goal

abbrev pub invariant-loop-i : goal.invariant-loop-i
invariant-loop-i l = l.stack.items ++ filter_map (pending_of l.above l.b) (drop l.i (node_of l.p.bytes).entries) ≡ l.fn.stack.items ++ filter_map (pending_of l.above l.b) (node_of l.p.bytes).entries
