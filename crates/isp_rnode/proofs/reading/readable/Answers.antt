use Rattle.std.proofs.Common.{sym, ◌∙◌, subst, arith, refl, false}
use Rattle.std.specs.Prelude.{IsTrue}
use Rattle.isp_rnode.proofs.NodeLaws.{box_there, is_readable}
use Rattle.isp_rnode.proofs.reading.readable.Goals as goal

false_true : IsTrue false → ⊥
false_true h = cc

pub returns-then-not-is_box : goal.returns-then-not-is_box
returns-then-not-is_box c = (
  λ no. absurd (false_true no),
  λ readable. subst IsTrue c.if-not-is_box.true (c.is_box.ensures.1 (box_there c.args.p.now.bytes c.loop-i.i readable (omega (arith, c.from-count.ensures, c.count_of.ensures)))),
)

pub returns : goal.returns
returns c = (
  λ yes. is_readable c.args.p.now.bytes (sym c.kind_of.ensures ∙ c.if-kind_of-ne-RTREE_KIND.false) (omega (arith, c.from-count.ensures, c.count_of.ensures)) (λ i low. c.loop-i.invariant i (omega (arith, c.from-count.ensures, c.count_of.ensures))),
  λ readable. refl,
)
