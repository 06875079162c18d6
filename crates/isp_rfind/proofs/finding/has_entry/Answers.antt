use Rattle.std.proofs.Common.{false, refl, subst, arith}
use Rattle.std.specs.Prelude.{IsTrue}
use Rattle.std.proofs.lemmas.Option.{slice_get_within}
use Rattle.isp_forest.specs.declared.entry.Entry.{Entry}
use Rattle.isp_rnode.specs.Nodes.{node_of}
use Rattle.isp_rnode.proofs.PutLaws.{Placed, each_next, has_there, there_has}
use Rattle.isp_rfind.specs.Finding.{IsSought}
use Rattle.isp_rfind.proofs.finding.has_entry.Goals as goal

false_true : IsTrue false → ⊥
false_true h = cc

pub loop-i-preserved : goal.loop-i-preserved
loop-i-preserved c = each_next (λ (e : Entry). IsSought c.args.b.now c.args.number e → ⊥) (node_of c.args.p.now.bytes).entries c.loop-i.i c.entry.result c.entry.ensures (λ is. false_true (subst IsTrue c.if-is_sought.false (c.is_sought.ensures.1 is))) c.loop-i.invariant

pub returns-then-is_sought : goal.returns-then-is_sought
returns-then-is_sought c = (
  λ yes. (c.entry.result, has_there (node_of c.args.p.now.bytes).entries c.loop-i.i c.entry.result c.entry.ensures, c.is_sought.ensures.0 c.if-is_sought.true),
  λ has. refl,
)

pub returns : goal.returns
returns c = (
  λ no. absurd (false_true no),
  λ has. (let p : Placed (node_of c.args.p.now.bytes).entries has.0 = there_has (node_of c.args.p.now.bytes).entries has.0 has.1 in
      absurd (c.loop-i.invariant p.k has.0 (omega (arith, slice_get_within (node_of c.args.p.now.bytes).entries p.k has.0 p.there, c.entry_count-i-end.ensures)) p.there has.2)),
)
