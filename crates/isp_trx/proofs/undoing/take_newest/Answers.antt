use Rattle.std.proofs.Common.{rules, Bool, suc, map, sym, ◌∙◌, ap}
use Rattle.isp_page.specs.State.{FileShape}
use Rattle.isp_undo.specs.Calls.{image_if}
use Rattle.isp_undo.specs.Chains.{ends_of}
use Rattle.isp_undo_pages.specs.Entries.{image_in}
use Rattle.isp_trx.specs.Roots.{numbers_of}
use Rattle.isp_trx.proofs.UndoLaws.{can_undo_moved, has_chain, never_none, undoes_on}
use Rattle.isp_trx.proofs.undoing.take_newest.Goals as goal

pub returns-in_err-there-clause-sound : goal.returns-in_err-there-clause-sound
returns-in_err-there-clause-sound g c tells count chains chain d can =
    let sound = c.in_err-there.ensures.sound tells (map ends_of chains) chain (has_chain _ _ chains c.args.slot chain (suc count) (numbers_of c.args.roots.now) d can) in
    search (rules, sound, c.from_residual.ensures)

pub returns-then-there-clause-undone : goal.returns-then-there-clause-undone
returns-then-there-clause-undone g c tells count =
    let l = c.in_ok-there.ensures in
    let shape = ap (λ (s : FileShape). s.pages) l.reads.kept.keeps.same_shape in
    undoes_on c.take_back.result _ _ _ _ _ c.args.slot (image_in c.last.new.into) count (numbers_of c.args.roots.now) shape (l.reads.contents tells)
    (λ chains chain d can. sym (l.newest tells (map ends_of chains) chain (has_chain _ _ chains c.args.slot chain (suc count) (numbers_of c.args.roots.now) d can)) ∙ ap (λ (b : Bool). image_if b c.last.new.into) c.if-there.true)
    (c.take_back.ensures.taken tells)

pub returns-then-there-clause-sound : goal.returns-then-there-clause-sound
returns-then-there-clause-sound g c tells count chains chain d can =
    let l = c.in_ok-there.ensures in
    let shape = ap (λ (s : FileShape). s.pages) l.reads.kept.keeps.same_shape in
    c.take_back.ensures.sound tells chains chain count d (can_undo_moved _ _ _ _ chains c.args.slot chain (suc count) (numbers_of c.args.roots.now) d shape (l.reads.contents tells) can)
    (sym (l.newest tells (map ends_of chains) chain (has_chain _ _ chains c.args.slot chain (suc count) (numbers_of c.args.roots.now) d can)) ∙ ap (λ (b : Bool). image_if b c.last.new.into) c.if-there.true)

pub returns-else-there-clause-sound : goal.returns-else-there-clause-sound
returns-else-there-clause-sound g c tells count chains chain d can =
    let l = c.in_ok-there.ensures in
    absurd (never_none _ _ chains c.args.slot chain count (numbers_of c.args.roots.now) d can
    (sym (l.newest tells (map ends_of chains) chain (has_chain _ _ chains c.args.slot chain (suc count) (numbers_of c.args.roots.now) d can)) ∙ ap (λ (b : Bool). image_if b c.last.new.into) c.if-there.false))
