use Rattle.std.proofs.Common.{rules, ap}
use Rattle.isp_page.specs.State.{FileShape}
use Rattle.isp_trx.proofs.SweepLaws.{tree_moved}
use Rattle.isp_trx.proofs.sweeping.begin_drop.Goals as goal

pub returns-in_err-drop_tree-clause-sound : goal.returns-in_err-drop_tree-clause-sound
returns-in_err-drop_tree-clause-sound g c tells table tree is marked =
    let moved = tree_moved _ _ _ _ table _ tree (ap (λ (shape : FileShape). shape.pages) c.begin.ensures.kept.keeps.same_shape) (c.begin.ensures.contents tells) is in
    let sound = c.in_err-drop_tree.ensures.sound tells table tree moved marked in
    search (rules, sound, c.from_residual.ensures)
