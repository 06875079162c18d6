use Rattle.isp_rnode.specs.Nodes.{node_of}
use Rattle.isp_rnode.proofs.NodeLaws.{read_next}
use Rattle.isp_rnode.proofs.reading.entries.Goals as goal

pub loop-i-preserved : goal.loop-i-preserved
loop-i-preserved c =
    let pushed = c.in_ok-push.ensures.items in
    read_next (node_of c.args.p.now.bytes).entries c.loop-i.entries.items c.push.new.self.items c.loop-i.i c.entry.result c.entry.ensures c.loop-i.invariant pushed
