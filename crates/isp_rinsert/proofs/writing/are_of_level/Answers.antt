use Rattle.std.proofs.Common.{◌≡◌, ◌==◌, false, subst}
use Rattle.std.specs.Prelude.{IsTrue, is_none}
use Rattle.isp_forest.specs.declared.entry.Entry.{Entry}
use Rattle.isp_forest.specs.Tree.{child_of}
use Rattle.isp_rinsert.proofs.WriteLaws.{all_next, item_of}
use Rattle.isp_rinsert.proofs.writing.are_of_level.Goals as goal

false_true : IsTrue false → ⊥
false_true h = cc

pub returns-then-not-is_of_level : goal.returns-then-not-is_of_level
returns-then-not-is_of_level c = (
  λ no. absurd (false_true no),
  λ all. subst IsTrue c.if-not-is_of_level.true (c.is_of_level.ensures.1 (all c.e-item.result (item_of c.args.entries.now c.loop-e.e-index c.e-item.result c.e-item.is c.loop-e-test.true))),
)

pub loop-e-preserved : goal.loop-e-preserved
loop-e-preserved c =
    let P : Entry → Type 0 = λ x. is_none (child_of x) ≡ (c.args.level == 0) in
    all_next P c.args.entries.now c.loop-e.e-index c.e-item.result c.loop-e-test.true c.loop-e.invariant (subst P c.e-item.is (c.is_of_level.ensures.0 c.if-not-is_of_level.false))
