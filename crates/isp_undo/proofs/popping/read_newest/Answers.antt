use Rattle.std.proofs.Common.{rules, ℕ, List, [], ◌∷◌, ◌++◌, Some, sym, ◌∙◌, ap, subst}
use Rattle.isp_format.specs.Undo.{IsUndoPage, OldImage, Slot as Ends}
use Rattle.isp_undo_pages.specs.Directory.{ends_in}
use Rattle.isp_undo.specs.Chains.{newest_in}
use Rattle.isp_undo.proofs.PopLaws.{stopped_none, stopped_some}
use Rattle.isp_undo_walks.proofs.WalkLaws.{some_pages}
use Rattle.isp_undo.proofs.popping.read_newest.Goals as goal

pub returns-in_err-stop-clause-sound : goal.returns-in_err-stop-clause-sound
returns-in_err-stop-clause-sound g c tells chain is ends =
    let sound = c.in_err-stop.ensures.sound tells chain is (some_pages chain (ends_in c.args.ends) ends c.requires.ends.first_from) (sym (ap (λ (e : Ends). e.0) ends)) (sym (ap (λ (e : Ends). e.1) ends)) in
    search (rules, sound, c.from_residual.ensures)

pub returns-then-stop-eq-CONTENT_PLACE-clause-newest : goal.returns-then-stop-eq-CONTENT_PLACE-clause-newest
returns-then-stop-eq-CONTENT_PLACE-clause-newest g c tells chain is ends =
    let found = c.in_ok-stop.ensures.found tells chain is (some_pages chain (ends_in c.args.ends) ends c.requires.ends.first_from) (sym (ap (λ (e : Ends). e.0) ends)) (sym (ap (λ (e : Ends). e.1) ends)) in
    sym (ap newest_in (stopped_none chain c.in_ok-stop.stop found c.if-stop-eq-CONTENT_PLACE.true))

pub returns-in_err-read_image-clause-sound : goal.returns-in_err-read_image-clause-sound
returns-in_err-read_image-clause-sound g c tells chain is ends =
    let found = c.in_ok-stop.ensures.found tells chain is (some_pages chain (ends_in c.args.ends) ends c.requires.ends.first_from) (sym (ap (λ (e : Ends). e.0) ends)) (sym (ap (λ (e : Ends). e.1) ends)) in
    let n = stopped_some _ _ 0 chain c.in_ok-stop.stop found is c.if-stop-eq-CONTENT_PLACE.false in
    let stands = subst (λ (bytes : List ℕ). IsUndoPage bytes c.in_ok-stop.stop.page.0 n.before n.next (n.images ++ n.image ∷ [])) (sym (c.in_ok-stop.ensures.page tells)) n.stands in
    let sound = c.in_err-read_image.ensures.sound c.in_ok-stop.stop.page.0 n.before n.next n.images n.image stands n.used in
    search (rules, sound, c.from_residual-in_err-read_image.ensures)

pub returns-clause-newest : goal.returns-clause-newest
returns-clause-newest g c tells chain is ends =
    let found = c.in_ok-stop.ensures.found tells chain is (some_pages chain (ends_in c.args.ends) ends c.requires.ends.first_from) (sym (ap (λ (e : Ends). e.0) ends)) (sym (ap (λ (e : Ends). e.1) ends)) in
    let n = stopped_some _ _ 0 chain c.in_ok-stop.stop found is c.if-stop-eq-CONTENT_PLACE.false in
    let stands = subst (λ (bytes : List ℕ). IsUndoPage bytes c.in_ok-stop.stop.page.0 n.before n.next (n.images ++ n.image ∷ [])) (sym (c.in_ok-stop.ensures.page tells)) n.stands in
    ap (λ (i : OldImage). Some i) (c.in_ok-read_image.ensures.read c.in_ok-stop.stop.page.0 n.before n.next n.images n.image stands n.used) ∙ sym n.found
