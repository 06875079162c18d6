use Rattle.std.proofs.Common.{rules, suc, ap}
use Rattle.isp_page.specs.State.{FileShape}
use Rattle.isp_trx.specs.Roots.{numbers_of}
use Rattle.isp_trx.proofs.UndoLaws.{can_undo_moved}
use Rattle.isp_trx.proofs.undoing.begin_undo.Goals as goal

pub returns-in_err-take_newest-clause-sound : goal.returns-in_err-take_newest-clause-sound
returns-in_err-take_newest-clause-sound g c tells count chains chain d can =
    let moved = can_undo_moved _ _ _ _ chains c.args.slot chain (suc count) (numbers_of c.args.roots.now) d (ap (λ (shape : FileShape). shape.pages) c.begin.ensures.kept.keeps.same_shape) (c.begin.ensures.contents tells) can in
    let sound = c.in_err-take_newest.ensures.sound tells count chains chain d moved in
    search (rules, sound, c.from_residual.ensures)
