use Rattle.std.proofs.Common.{◌+◌, sym, subst, arith}
use Rattle.isp_rnode.specs.Nodes.{node_of}
use Rattle.isp_rnode.specs.declared.choosing.Candidate.{Candidate}
use Rattle.isp_rnode.proofs.NodeLaws.{inner_child}
use Rattle.isp_rnode.proofs.ChoiceLaws.{IsBestOf, chosen, step}
use Rattle.isp_rnode.proofs.choosing.choose_in.Goals as goal

pub candidate_of-best-requires : goal.candidate_of-best-requires
candidate_of-best-requires c = inner_child c.args.p.now.bytes 0 c.entry.result c.requires.inner c.requires.some c.entry.ensures

pub candidate_of-requires : goal.candidate_of-requires
candidate_of-requires c = inner_child c.args.p.now.bytes c.loop-i.i c.entry-in-loop-i.result c.requires.inner (omega (arith, c.entry_count-i-end.ensures)) c.entry-in-loop-i.ensures

pub loop-i-preserved : goal.loop-i-preserved
loop-i-preserved c =
    let entries = (node_of c.args.p.now.bytes).entries in
    subst (λ (x : Candidate). IsBestOf entries c.args.b.now (c.loop-i.i + 1) x) (sym c.better_of-best.ensures)
    (step entries c.args.b.now c.loop-i.i c.entry-in-loop-i.result c.loop-i.best c.candidate_of.result c.entry-in-loop-i.ensures c.candidate_of.ensures c.loop-i.invariant)

pub returns : goal.returns
returns c = chosen (node_of c.args.p.now.bytes).entries c.args.b.now c.loop-i.i c.loop-i.best (omega (arith, c.entry_count-i-end.ensures)) c.loop-i.invariant
