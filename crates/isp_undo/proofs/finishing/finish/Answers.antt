use Rattle.std.proofs.Common.{rules, ℕ, [], Option, sym, ◌∙◌, ap, subst}
use Rattle.std.specs.Option.{option_map}
use Rattle.isp_format.specs.Ranges.{Contents, page_of}
use Rattle.isp_page.specs.State.{FileShape}
use Rattle.isp_space.specs.Giving.{with_chain}
use Rattle.isp_undo_pages.specs.Directory.{ends_in}
use Rattle.isp_undo_pages.specs.declared.directory.Slot.{Slot}
use Rattle.isp_undo.specs.Calls.{HasStack, Restacks}
use Rattle.isp_undo_walks.specs.Chains.{Chain, pages_of}
use Rattle.isp_undo_walks.proofs.ChainLaws.{ends_found, none_found}
use Rattle.isp_undo.proofs.CutLaws.{none_given, stack_now}
use Rattle.isp_undo.proofs.PopLaws.{restacks_from}
use Rattle.isp_undo.proofs.finishing.finish.Goals as goal

pub returns-in_err-give_all-in-Some-clause-sound : goal.returns-in_err-give_all-in-Some-clause-sound
returns-in_err-give_all-in-Some-clause-sound g c tells slots chain s was =
    let f = c.in_ok-found.ensures in
    let ends = ends_found chain c.in-Some.ends (ap (λ (o : Option Slot). option_map ends_in o) (sym c.in-Some.is) ∙ f.found tells slots chain was.stack) in
    let now = stack_now _ _ _ _ slots c.args.slot chain s (ap (λ (s : FileShape). s.pages) f.reads.kept.keeps.same_shape) (f.reads.contents tells) was in
    let sound = c.in_err-give_all-in-Some.ensures.sound tells slots chain s now ends in
    search (rules, sound, c.from_residual-in_err-give_all-in-Some.ensures)

pub returns-in_ok-give_all-in-Some-clause-finished : goal.returns-in_ok-give_all-in-Some-clause-finished
returns-in_ok-give_all-in-Some-clause-finished g c tells slots chain s was =
    let f = c.in_ok-found.ensures in
    let contents = f.reads.contents tells in
    let ends = ends_found chain c.in-Some.ends (ap (λ (o : Option Slot). option_map ends_in o) (sym c.in-Some.is) ∙ f.found tells slots chain was.stack) in
    let now = stack_now _ _ _ _ slots c.args.slot chain s (ap (λ (s : FileShape). s.pages) f.reads.kept.keeps.same_shape) contents was in
    let done = c.in_ok-give_all-in-Some.ensures.finished tells (f.page tells ∙ sym (ap (λ (contents : Contents). page_of contents 1) contents)) slots chain s now ends in
    restacks_from _ _ _ _ slots c.args.slot chain [] _ [] contents done

pub returns-in-None-clause-finished : goal.returns-in-None-clause-finished
returns-in-None-clause-finished g c tells slots chain s was =
    let f = c.in_ok-found.ensures in
    let old = g.P.Pages.contents c.args.pages.now in
    let new = g.P.Pages.contents c.read_slot.new.pages in
    let none = none_found chain (ap (λ (o : Option Slot). option_map ends_in o) (sym c.in-None.is) ∙ f.found tells slots chain was.stack) in
    let done = none_given _ old new slots c.args.slot s c.requires.slot (f.reads.contents tells) (subst (λ (chain : Chain). HasStack (g.P.Pages.shape c.args.pages.now).pages old slots c.args.slot chain s) none was) in
    subst (λ (n : ℕ). Restacks n old new slots c.args.slot chain [] (with_chain (pages_of chain) s) []) (sym (ap (λ (s : FileShape). s.pages) f.reads.kept.keeps.same_shape))
    (subst (λ (chain : Chain). Restacks (g.P.Pages.shape c.args.pages.now).pages old new slots c.args.slot chain [] (with_chain (pages_of chain) s) []) (sym none) done)
