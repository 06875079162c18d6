use Rattle.isp_rnode.specs.Nodes.{node_of}
use Rattle.isp_rfind.proofs.StackLaws.{add_more}
use Rattle.isp_rfind.proofs.finding.add_children.Goals as goal

pub loop-i-preserved : goal.loop-i-preserved
loop-i-preserved c = add_more c.args.b.now c.level_of-above.result (node_of c.args.p.now.bytes).entries c.loop-i.i c.entry.result c.loop-i.stack.items c.add_child.new.stack.items _ c.entry.ensures c.in_ok-add_child.ensures c.loop-i.invariant
