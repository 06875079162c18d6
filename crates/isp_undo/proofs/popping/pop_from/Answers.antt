use Rattle.std.proofs.Common.{rules, ℕ, List, [], ◌∷◌, ◌++◌, sym, ◌∙◌, ap, subst}
use Rattle.isp_format.specs.Ranges.{Contents, page_of}
use Rattle.isp_format.specs.Undo.{IsUndoPage, Slot as Ends}
use Rattle.isp_page.specs.State.{FileShape}
use Rattle.isp_undo_pages.specs.Directory.{ends_in}
use Rattle.isp_undo_pages.specs.declared.entries.Spot.{Spot}
use Rattle.std.proofs.lemmas.Result.{err_from_is_err_and}
use Rattle.isp_page.specs.Steps.{IsNoDamage}
use Rattle.isp_undo.proofs.PopLaws.{err_is, may_pop_now, may_pop_of, no_spot, one_spot, restacks_from, some_used, stopped_some}
use Rattle.isp_undo_walks.proofs.WalkLaws.{some_pages, way_of}
use Rattle.isp_undo.proofs.popping.pop_from.Goals as goal

pub returns-in_err-stop-clause-sound : goal.returns-in_err-stop-clause-sound
returns-in_err-stop-clause-sound g c tells slots chain s can ends =
    let way = way_of _ _ chain can.stack.stack.stands in
    let sound = c.in_err-stop.ensures.sound tells chain way (some_pages chain (ends_in c.args.ends) ends c.requires.ends.first_from) (sym (ap (λ (e : Ends). e.0) ends)) (sym (ap (λ (e : Ends). e.1) ends)) in
    search (rules, sound, c.from_residual.ensures)

pub returns-in_err-drop_entry-in-Some-clause-sound : goal.returns-in_err-drop_entry-in-Some-clause-sound
returns-in_err-drop_entry-in-Some-clause-sound g c tells slots chain s can ends =
    let way = way_of _ _ chain can.stack.stack.stands in
    let l = c.in_ok-stop.ensures in
    let found = l.found tells chain way (some_pages chain (ends_in c.args.ends) ends c.requires.ends.first_from) (sym (ap (λ (e : Ends). e.0) ends)) (sym (ap (λ (e : Ends). e.1) ends)) in
    let n = stopped_some _ _ 0 chain c.in_ok-stop.stop found way (some_used chain c.in_ok-stop.stop found can.some) in
    let stands = subst (λ (bytes : List ℕ). IsUndoPage bytes c.in_ok-stop.stop.page.0 n.before n.next (n.images ++ n.image ∷ [])) (sym (l.page tells)) n.stands in
    let spot = one_spot _ _ (sym c.in-Some.is ∙ c.newest.ensures.spot c.in_ok-stop.stop.page.0 n.before n.next n.images n.image stands n.used) in
    let may = may_pop_of _ _ slots c.args.slot c.args.ends c.in_ok-stop.stop c.in-Some.spot.at chain s can.stack ends found n (ap (λ (s : Spot). s.at) spot) in
    let now = may_pop_now _ _ _ _ slots c.args.slot c.args.ends c.in_ok-stop.stop c.in-Some.spot.at chain s (ap (λ (s : FileShape). s.pages) l.reads.kept.keeps.same_shape) (l.reads.contents tells) may in
    let bytes = l.page tells ∙ sym (ap (λ (contents : Contents). page_of contents c.in_ok-stop.stop.page.0) (l.reads.contents tells)) in
    let sound = c.in_err-drop_entry-in-Some.ensures.sound tells bytes slots chain s now in
    let p = err_from_is_err_and c.from_residual-in_err-drop_entry-in-Some.result c.from_residual-in_err-drop_entry-in-Some.ensures.1 in
    err_is IsNoDamage c.from_residual-in_err-drop_entry-in-Some.result _ _ p.1 p.2 sound

pub returns-in_ok-drop_entry-in-Some-clause-popped : goal.returns-in_ok-drop_entry-in-Some-clause-popped
returns-in_ok-drop_entry-in-Some-clause-popped g c tells dir slots chain s can ends =
    let way = way_of _ _ chain can.stack.stack.stands in
    let l = c.in_ok-stop.ensures in
    let found = l.found tells chain way (some_pages chain (ends_in c.args.ends) ends c.requires.ends.first_from) (sym (ap (λ (e : Ends). e.0) ends)) (sym (ap (λ (e : Ends). e.1) ends)) in
    let n = stopped_some _ _ 0 chain c.in_ok-stop.stop found way (some_used chain c.in_ok-stop.stop found can.some) in
    let stands = subst (λ (bytes : List ℕ). IsUndoPage bytes c.in_ok-stop.stop.page.0 n.before n.next (n.images ++ n.image ∷ [])) (sym (l.page tells)) n.stands in
    let spot = one_spot _ _ (sym c.in-Some.is ∙ c.newest.ensures.spot c.in_ok-stop.stop.page.0 n.before n.next n.images n.image stands n.used) in
    let may = may_pop_of _ _ slots c.args.slot c.args.ends c.in_ok-stop.stop c.in-Some.spot.at chain s can.stack ends found n (ap (λ (s : Spot). s.at) spot) in
    let contents = l.reads.contents tells in
    let now = may_pop_now _ _ _ _ slots c.args.slot c.args.ends c.in_ok-stop.stop c.in-Some.spot.at chain s (ap (λ (s : FileShape). s.pages) l.reads.kept.keeps.same_shape) contents may in
    let bytes = l.page tells ∙ sym (ap (λ (contents : Contents). page_of contents c.in_ok-stop.stop.page.0) contents) in
    let done = c.in_ok-drop_entry-in-Some.ensures.popped tells (dir ∙ sym (ap (λ (contents : Contents). page_of contents 1) contents)) bytes slots chain s now in
    restacks_from _ _ _ _ slots c.args.slot chain _ _ [] contents done

pub returns-in-None-clause-sound : goal.returns-in-None-clause-sound
returns-in-None-clause-sound g c tells slots chain s can ends =
    let way = way_of _ _ chain can.stack.stack.stands in
    let l = c.in_ok-stop.ensures in
    let found = l.found tells chain way (some_pages chain (ends_in c.args.ends) ends c.requires.ends.first_from) (sym (ap (λ (e : Ends). e.0) ends)) (sym (ap (λ (e : Ends). e.1) ends)) in
    let n = stopped_some _ _ 0 chain c.in_ok-stop.stop found way (some_used chain c.in_ok-stop.stop found can.some) in
    let stands = subst (λ (bytes : List ℕ). IsUndoPage bytes c.in_ok-stop.stop.page.0 n.before n.next (n.images ++ n.image ∷ [])) (sym (l.page tells)) n.stands in
    absurd (no_spot _ (sym c.in-None.is ∙ c.newest.ensures.spot c.in_ok-stop.stop.page.0 n.before n.next n.images n.image stands n.used))
