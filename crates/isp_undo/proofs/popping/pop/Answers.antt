use Rattle.std.proofs.Common.{rules, [], length, Option, sym, ◌∙◌, ap, arith}
use Rattle.std.specs.Option.{option_map}
use Rattle.isp_format.specs.Ranges.{Contents, page_of}
use Rattle.isp_page.specs.State.{FileShape}
use Rattle.isp_undo_pages.specs.Directory.{ends_in}
use Rattle.isp_undo_pages.specs.declared.directory.Slot.{Slot}
use Rattle.isp_undo_walks.specs.Chains.{Chain, images_of}
use Rattle.isp_undo_walks.proofs.ChainLaws.{ends_found, none_found}
use Rattle.isp_undo.proofs.CutLaws.{stack_now}
use Rattle.isp_undo.proofs.PopLaws.{restacks_from}
use Rattle.isp_undo.proofs.popping.pop.Goals as goal

pub returns-in_err-pop_from-in-Some-clause-sound : goal.returns-in_err-pop_from-in-Some-clause-sound
returns-in_err-pop_from-in-Some-clause-sound g c tells slots chain s can =
    let f = c.in_ok-found.ensures in
    let ends = ends_found chain c.in-Some.ends (ap (λ (o : Option Slot). option_map ends_in o) (sym c.in-Some.is) ∙ f.found tells slots chain can.stack.stack) in
    let now = stack_now _ _ _ _ slots c.args.slot chain s (ap (λ (s : FileShape). s.pages) f.reads.kept.keeps.same_shape) (f.reads.contents tells) can.stack in
    let sound = c.in_err-pop_from-in-Some.ensures.sound tells slots chain s (record { stack = now; some = can.some }) ends in
    search (rules, sound, c.from_residual-in_err-pop_from-in-Some.ensures)

pub returns-in_ok-pop_from-in-Some-clause-popped : goal.returns-in_ok-pop_from-in-Some-clause-popped
returns-in_ok-pop_from-in-Some-clause-popped g c tells slots chain s can =
    let f = c.in_ok-found.ensures in
    let contents = f.reads.contents tells in
    let ends = ends_found chain c.in-Some.ends (ap (λ (o : Option Slot). option_map ends_in o) (sym c.in-Some.is) ∙ f.found tells slots chain can.stack.stack) in
    let now = stack_now _ _ _ _ slots c.args.slot chain s (ap (λ (s : FileShape). s.pages) f.reads.kept.keeps.same_shape) contents can.stack in
    let done = c.in_ok-pop_from-in-Some.ensures.popped tells (f.page tells ∙ sym (ap (λ (contents : Contents). page_of contents 1) contents)) slots chain s (record { stack = now; some = can.some }) ends in
    restacks_from _ _ _ _ slots c.args.slot chain _ _ [] contents done

pub returns-in-None-clause-sound : goal.returns-in-None-clause-sound
returns-in-None-clause-sound g c tells slots chain s can =
    let none = none_found chain (ap (λ (o : Option Slot). option_map ends_in o) (sym c.in-None.is) ∙ c.in_ok-found.ensures.found tells slots chain can.stack.stack) in
    let long = ap (λ (c : Chain). length (images_of c)) none in
    let some = can.some in
    absurd (omega (arith, long, some))
