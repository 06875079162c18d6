use Rattle.std.proofs.Common.{ℕ, List, Option, refl, sym, ◌∙◌, ap, subst}
use Rattle.std.specs.Option.{option_map}
use Rattle.isp_format.specs.Undo.{IsUndoDirectory}
use Rattle.isp_undo_pages.specs.Directory.{ends_in}
use Rattle.isp_undo_pages.specs.declared.directory.Slot.{Slot}
use Rattle.isp_undo_walks.specs.Slots.{IsInside}
use Rattle.isp_undo_walks.proofs.ChainLaws.{found_is, no_err, same_ok}
use Rattle.isp_undo_walks.proofs.reading.read_slot.Goals as goal

pub returns-in_err-found-clause-sound : goal.returns-in_err-found-clause-sound
returns-in_err-found-clause-sound g c tells slots chain has =
    let s = c.slot_in.result in
    let at = c.slot_in.ensures.ends slots (subst (λ (bytes : List ℕ). IsUndoDirectory bytes slots) (sym (c.in_ok-read.ensures.page tells)) has.directory) ∙ has.ends in
    let e = c.in_err-found.ensures in
    let is = found_is (g.P.Pages.shape c.args.pages.now).pages chain s _ has.stands.inside at e.none (λ inside. e.some (subst (λ (n : ℕ). IsInside n s) (sym c.pages-count.ensures.count) inside)) in
    absurd (no_err _ is.0 _ is.1 refl)

pub returns-clause-found : goal.returns-clause-found
returns-clause-found g c tells slots chain has =
    let s = c.slot_in.result in
    let at = c.slot_in.ensures.ends slots (subst (λ (bytes : List ℕ). IsUndoDirectory bytes slots) (sym (c.in_ok-read.ensures.page tells)) has.directory) ∙ has.ends in
    let e = c.in_ok-found.ensures in
    let is = found_is (g.P.Pages.shape c.args.pages.now).pages chain s _ has.stands.inside at e.none (λ inside. e.some (subst (λ (n : ℕ). IsInside n s) (sym c.pages-count.ensures.count) inside)) in
    ap (λ (o : Option Slot). option_map ends_in o) (same_ok _ is.0 c.in_ok-found.found is.1 refl) ∙ is.2
