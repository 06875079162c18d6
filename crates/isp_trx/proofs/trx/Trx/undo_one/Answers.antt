use Rattle.std.proofs.Common.{pred, true, sym, ◌∙◌}
use Rattle.isp_page.specs.Steps.{FailsOnPages}
use Rattle.isp_trx.specs.Roots.{numbers_of}
use Rattle.isp_trx.proofs.Makes.{makes_done, makes_failed}
use Rattle.isp_trx.proofs.UndoLaws.{can_undo_is, count_some, undoes_is, undoes_none}
use Rattle.isp_trx.proofs.trx.Trx.undo_one.Goals as goal

pub returns-then-undo_count-eq0-clause-undone : goal.returns-then-undo_count-eq0-clause-undone
returns-then-undo_count-eq0-clause-undone g c tells = undoes_none _ _ c.args.self.now.session c.args.self.now.count (numbers_of c.args.roots.now) (sym c.undo_count.ensures ∙ c.if-undo_count-eq0.true)

pub returns-in-Ok-clause-made : goal.returns-in-Ok-clause-made
returns-in-Ok-clause-made g c =
    let count = c.args.self.now.count in
    let some = count_some count (λ is. c.if-undo_count-eq0.false (c.undo_count.ensures ∙ is)) in
    makes_done FailsOnPages g.P.Pages _ _ _ _ _ true (λ tells contents done. undoes_is _ _ contents _ _ _ _ _ c.session.ensures.is some done) (c.in-Ok.ensures.made (pred count))

pub returns-in-Ok-clause-undone : goal.returns-in-Ok-clause-undone
returns-in-Ok-clause-undone g c tells =
    let count = c.args.self.now.count in
    let some = count_some count (λ is. c.if-undo_count-eq0.false (c.undo_count.ensures ∙ is)) in
    undoes_is _ _ _ _ _ _ _ _ c.session.ensures.is some (c.in-Ok.ensures.undone tells (pred count))

pub returns-in-Err-clause-made : goal.returns-in-Err-clause-made
returns-in-Err-clause-made g c =
    let count = c.args.self.now.count in
    let some = count_some count (λ is. c.if-undo_count-eq0.false (c.undo_count.ensures ∙ is)) in
    makes_failed FailsOnPages g.P.Pages _ _ _ _ _ (λ tells contents done. undoes_is _ _ contents _ _ _ _ _ c.session.ensures.is some done) (c.in-Err.ensures.made (pred count))

pub returns-in-Err-clause-sound : goal.returns-in-Err-clause-sound
returns-in-Err-clause-sound g c tells chains chain d can =
    let count = c.args.self.now.count in
    let some = count_some count (λ is. c.if-undo_count-eq0.false (c.undo_count.ensures ∙ is)) in
    c.in-Err.ensures.sound tells (pred count) chains chain d (can_undo_is _ _ chains _ _ chain _ count (numbers_of c.args.roots.now) d c.session.ensures.is some can)
