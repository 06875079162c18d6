use Rattle.std.proofs.Common.{false, refl, subst, arith}
use Rattle.std.specs.Prelude.{IsTrue}
use Rattle.std.proofs.lemmas.Option.{slice_get_within}
use Rattle.isp_forest.specs.declared.entry.Entry.{Entry}
use Rattle.isp_forest.specs.Tree.{child_of}
use Rattle.isp_rnode.specs.Nodes.{node_of}
use Rattle.isp_rnode.proofs.PutLaws.{Placed, each_next, has_there, there_has}
use Rattle.isp_rtree.specs.Trees.{IsInside}
use Rattle.isp_rtree.proofs.nodes.leads_inside.Goals as goal

false_true : IsTrue false → ⊥
false_true h = cc

pub loop-i-preserved : goal.loop-i-preserved
loop-i-preserved c = each_next (λ (e : Entry). IsInside c.args.pages (child_of e)) (node_of c.args.p.now.bytes).entries c.loop-i.i c.entry.result c.entry.ensures (c.is_inside.ensures.0 c.if-not-is_inside.false) c.loop-i.invariant

pub returns-then-not-is_inside : goal.returns-then-not-is_inside
returns-then-not-is_inside c = (
  λ no. absurd (false_true no),
  λ leads. subst IsTrue c.if-not-is_inside.true (c.is_inside.ensures.1 (leads c.entry.result (has_there (node_of c.args.p.now.bytes).entries c.loop-i.i c.entry.result c.entry.ensures))),
)

pub returns : goal.returns
returns c = (
  λ yes. λ e has. (let p : Placed (node_of c.args.p.now.bytes).entries e = there_has (node_of c.args.p.now.bytes).entries e has in
      c.loop-i.invariant p.k e (omega (arith, slice_get_within (node_of c.args.p.now.bytes).entries p.k e p.there, c.entry_count-i-end.ensures)) p.there),
  λ leads. refl,
)
