use Rattle.std.proofs.Common.{rules, Option, sym, ◌∙◌, ap}
use Rattle.std.specs.Option.{option_map}
use Rattle.isp_page.specs.State.{FileShape}
use Rattle.isp_undo_pages.specs.Directory.{ends_in}
use Rattle.isp_undo_pages.specs.declared.directory.Slot.{Slot}
use Rattle.isp_undo_walks.specs.Chains.{Chain}
use Rattle.isp_undo.specs.Chains.{newest_of}
use Rattle.isp_undo_walks.proofs.ChainLaws.{ends_found, none_found}
use Rattle.isp_undo_walks.proofs.WalkLaws.{way_now, way_of}
use Rattle.isp_undo.proofs.popping.last.Goals as goal

pub returns-in_err-there-in-Some-clause-sound : goal.returns-in_err-there-in-Some-clause-sound
returns-in_err-there-in-Some-clause-sound g c tells slots chain has =
    let f = c.in_ok-found.ensures in
    let ends = ends_found chain c.in-Some.ends (ap (λ (o : Option Slot). option_map ends_in o) (sym c.in-Some.is) ∙ f.found tells slots chain has) in
    let way = way_now _ _ 0 _ _ chain (ap (λ (s : FileShape). s.pages) f.reads.kept.keeps.same_shape) (f.reads.contents tells) (way_of _ _ chain has.stands) in
    let sound = c.in_err-there-in-Some.ensures.sound tells chain way ends in
    search (rules, sound, c.from_residual-in_err-there-in-Some.ensures)

pub returns-in_ok-there-in-Some-clause-newest : goal.returns-in_ok-there-in-Some-clause-newest
returns-in_ok-there-in-Some-clause-newest g c tells slots chain has =
    let f = c.in_ok-found.ensures in
    let ends = ends_found chain c.in-Some.ends (ap (λ (o : Option Slot). option_map ends_in o) (sym c.in-Some.is) ∙ f.found tells slots chain has) in
    let way = way_now _ _ 0 _ _ chain (ap (λ (s : FileShape). s.pages) f.reads.kept.keeps.same_shape) (f.reads.contents tells) (way_of _ _ chain has.stands) in
    c.in_ok-there-in-Some.ensures.newest tells chain way ends

pub returns-in-None-clause-newest : goal.returns-in-None-clause-newest
returns-in-None-clause-newest g c tells slots chain has =
    let none = none_found chain (ap (λ (o : Option Slot). option_map ends_in o) (sym c.in-None.is) ∙ c.in_ok-found.ensures.found tells slots chain has) in
    sym (ap (λ (chain : Chain). newest_of chain) none)
