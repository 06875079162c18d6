use Rattle.std.proofs.Common.{rules, map, ap}
use Rattle.isp_page.specs.State.{FileShape}
use Rattle.isp_undo.specs.Chains.{ends_of}
use Rattle.isp_undo_pages.specs.Entries.{image_in}
use Rattle.isp_trx.proofs.UndoLaws.{may_pop, takes_of, tree_fits}
use Rattle.isp_trx.proofs.undoing.put_and_pop.Goals as goal

pub returns-in_err-put_back-clause-sound : goal.returns-in_err-put_back-clause-sound
returns-in_err-put_back-clause-sound g c tells chains chain d can =
    let t = tree_fits _ _ chains c.args.slot chain (image_in c.args.old.now) _ d can in
    let sound = c.in_err-put_back.ensures.sound tells t.0 t.1 t.2 t.3 in
    search (rules, sound, c.from_residual.ensures)

pub returns-in_err-pop-clause-sound : goal.returns-in_err-pop-clause-sound
returns-in_err-pop-clause-sound g c tells chains chain d can =
    let shape = ap (λ (s : FileShape). s.pages) c.in_ok-put_back.ensures.kept.keeps.same_shape in
    let sound = c.in_err-pop.ensures.sound tells (map ends_of chains) chain d.space (may_pop _ _ _ _ chains c.args.slot chain (image_in c.args.old.now) _ d shape can (c.in_ok-put_back.ensures.put tells)) in
    search (rules, sound, c.from_residual-in_err-pop.ensures)

pub returns-clause-taken : goal.returns-clause-taken
returns-clause-taken g c tells =
    let pages = λ (s : FileShape). s.pages in
    takes_of _ _ _ _ _ _ c.args.slot (image_in c.args.old.now) _ (ap pages c.in_ok-put_back.ensures.kept.keeps.same_shape) (ap pages c.in_ok-pop.ensures.changes.kept.keeps.same_shape) (c.in_ok-put_back.ensures.put tells) (c.in_ok-pop.ensures.popped tells)
