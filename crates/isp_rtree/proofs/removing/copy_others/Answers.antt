use Rattle.std.proofs.Common.{arith}
use Rattle.isp_rnode.specs.Nodes.{node_of}
use Rattle.isp_rnode.proofs.NodeLaws.{count_is}
use Rattle.isp_rtree.proofs.RemoveLaws.{others_more}
use Rattle.isp_rtree.proofs.removing.copy_others.Goals as goal

pub keep-count-requires : goal.keep-count-requires
keep-count-requires c = omega (arith, count_is c.args.p.now.bytes, c.requires.count, c.loop-i.invariant.few, c.loop-i-test.true, c.entry_count-i-end.ensures)

pub loop-i-preserved : goal.loop-i-preserved
loop-i-preserved c = record {
  few = omega (arith, c.loop-i.invariant.few, c.keep-count.ensures.within);
  kept = others_more c.args.number c.loop-i.i c.loop-i.count c.keep-count.result (node_of c.args.p.now.bytes).entries c.loop-i.kept c.keep-count.new.kept c.entry.result c.entry.ensures c.loop-i.invariant.kept c.keep-count.ensures.kept;
}

pub returns-clause-within : goal.returns-clause-within
returns-clause-within c = omega (arith, count_is c.args.p.now.bytes, c.requires.count, c.loop-i.invariant.few, c.entry_count-i-end.ensures)
