use Rattle.std.proofs.Common.{◌≡◌, false, Some, subst, arith}
use Rattle.std.specs.Prelude.{IsTrue}
use Rattle.std.proofs.lemmas.Option.{slice_get_within}
use Rattle.isp_forest.specs.declared.entry.Entry.{Entry}
use Rattle.isp_forest.specs.Tree.{child_of}
use Rattle.isp_rnode.specs.Nodes.{node_of}
use Rattle.isp_rnode.proofs.PutLaws.{Placed, each_next, has_there, there_has}
use Rattle.isp_rtree.proofs.paths.entry_for.Goals as goal

false_true : IsTrue false → ⊥
false_true h = cc

pub loop-i-preserved : goal.loop-i-preserved
loop-i-preserved c = each_next (λ (e : Entry). child_of e ≡ Some c.args.child.0 → ⊥) (node_of c.args.p.now.bytes).entries c.loop-i.i c.entry-e.result c.entry-e.ensures (λ to. false_true (subst IsTrue c.if-leads_to.false (c.leads_to.ensures.1 to))) c.loop-i.invariant

pub returns-then-leads_to-clause-some : goal.returns-then-leads_to-clause-some
returns-then-leads_to-clause-some c = (has_there (node_of c.args.p.now.bytes).entries c.loop-i.i c.entry-e.result c.entry-e.ensures, c.leads_to.ensures.0 c.if-leads_to.true)

pub returns-clause-none : goal.returns-clause-none
returns-clause-none c none e has to =
    let p : Placed (node_of c.args.p.now.bytes).entries e = there_has (node_of c.args.p.now.bytes).entries e has in
    c.loop-i.invariant p.k e (omega (arith, slice_get_within (node_of c.args.p.now.bytes).entries p.k e p.there, c.entry_count-i-end.ensures)) p.there to
