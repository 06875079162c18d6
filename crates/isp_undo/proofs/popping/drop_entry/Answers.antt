use Rattle.std.proofs.Common.{rules, ◌≢◌, [], ◌∷◌, ◌∙◌, ap}
use Rattle.isp_format.specs.Undo.{Slot as Ends}
use Rattle.isp_undo_walks.specs.Chains.{first_page}
use Rattle.isp_undo.proofs.PopLaws.{at_front, can_cut, cut_stays}
use Rattle.isp_undo.proofs.popping.drop_entry.Goals as goal

pub returns-in_err-shorten-clause-sound : goal.returns-in_err-shorten-clause-sound
returns-in_err-shorten-clause-sound g c tells same slots chain s may =
    let sound = c.in_err-shorten.ensures.sound tells same slots may.stopped.back.front may.images (may.image ∷ []) may.stopped.back.behind s (can_cut _ _ slots c.args.slot c.args.ends c.args.stop c.args.at chain s may) in
    search (rules, sound, c.from_residual.ensures)

pub returns-in_ok-shorten-clause-popped : goal.returns-in_ok-shorten-clause-popped
returns-in_ok-shorten-clause-popped g c tells dir same slots chain s may =
    cut_stays _ _ _ _ slots c.args.slot c.args.ends c.args.stop c.args.at chain s may (c.stays.ensures.stays c.if-stays.true)
    (c.in_ok-shorten.ensures.cut tells dir same slots may.stopped.back.front may.images (may.image ∷ []) may.stopped.back.behind s (can_cut _ _ slots c.args.slot c.args.ends c.args.stop c.args.at chain s may))

pub returns-in_err-drop_page-clause-sound : goal.returns-in_err-drop_page-clause-sound
returns-in_err-drop_page-clause-sound g c tells same slots chain s may =
    let other : first_page 0 chain ≢ c.args.stop.page.0 = λ at. c.stays.ensures.other c.if-stays.false (ap (λ (e : Ends). e.0) may.ends_are ∙ at) in
    let sound = c.in_err-drop_page.ensures.sound tells same slots chain s (at_front _ _ slots c.args.slot c.args.ends c.args.stop c.args.at chain s may (c.stays.ensures.empty c.if-stays.false), other) in
    search (rules, sound, c.from_residual-in_err-drop_page.ensures)

pub returns-in_ok-drop_page-clause-popped : goal.returns-in_ok-drop_page-clause-popped
returns-in_ok-drop_page-clause-popped g c tells dir same slots chain s may =
    let other : first_page 0 chain ≢ c.args.stop.page.0 = λ at. c.stays.ensures.other c.if-stays.false (ap (λ (e : Ends). e.0) may.ends_are ∙ at) in
    c.in_ok-drop_page.ensures.popped tells dir same slots chain s (at_front _ _ slots c.args.slot c.args.ends c.args.stop c.args.at chain s may (c.stays.ensures.empty c.if-stays.false), other)
