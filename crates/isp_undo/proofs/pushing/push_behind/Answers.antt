use Rattle.std.proofs.Common.{rules, ◌≡◌, ℕ, not, [], ◌∷◌, ◌++◌, sym, ◌∙◌, ap, subst}
use Rattle.isp_format.specs.Ranges.{Contents, page_of}
use Rattle.isp_format.specs.Undo.{IsUndoPage, Slot as Ends}
use Rattle.isp_page.specs.State.{FileShape, is_among}
use Rattle.isp_page.specs.Touched.{KeepsPages}
use Rattle.isp_space.specs.Spaces.{next_free}
use Rattle.isp_undo_pages.specs.Entries.{image_in}
use Rattle.isp_undo.specs.Calls.{Restacks, page_taken, space_after}
use Rattle.isp_undo_walks.specs.Chains.{last_page}
use Rattle.isp_undo.specs.Chains.{pushed}
use Rattle.isp_undo_walks.proofs.LinkLaws.{last_is}
use Rattle.isp_undo.proofs.PopLaws.{restacks_from}
use Rattle.isp_undo.proofs.PushLaws.{can_push_now, parts_of, pushed_stays, takes_by}
use Rattle.isp_undo.proofs.pushing.push_behind.Goals as goal

pub returns-in_err-used-clause-sound : goal.returns-in_err-used-clause-sound
returns-in_err-used-clause-sound g c tells slots front p s can ends =
    let last : c.args.ends.last.0 ≡ p.page = ap (λ (e : Ends). e.1) ends ∙ last_is 0 front p in
    let parts = parts_of _ _ slots c.args.slot front p [] s can.stack in
    let stands = subst (λ (k : ℕ). IsUndoPage (page_of (g.P.Pages.contents c.args.pages.now) k) k (last_page 0 front) 0 p.images) (sym last) parts.page in
    let sound = c.in_err-used.ensures.sound tells (last_page 0 front) 0 p.images stands in
    search (rules, sound, c.from_residual.ensures)

pub returns-in_err-extend-clause-sound : goal.returns-in_err-extend-clause-sound
returns-in_err-extend-clause-sound g c tells slots front p s can ends =
    let last : c.args.ends.last.0 ≡ p.page = ap (λ (e : Ends). e.1) ends ∙ last_is 0 front p in
    let parts = parts_of _ _ slots c.args.slot front p [] s can.stack in
    let stands = subst (λ (k : ℕ). IsUndoPage (page_of (g.P.Pages.contents c.args.pages.now) k) k (last_page 0 front) 0 p.images) (sym last) parts.page in
    let u = c.in_ok-used.ensures in
    let used = u.used tells (last_page 0 front) 0 p.images stands in
    let takes = takes_by (image_in c.args.old.now) front p c.in_ok-used.used c.entry_size.result c.has_room.result used c.entry_size.ensures.size c.has_room.ensures ∙ ap not c.if-has_room.false in
    let now = can_push_now _ _ _ _ slots c.args.slot (front ++ p ∷ []) s (image_in c.args.old.now) (ap (λ (s : FileShape). s.pages) u.reads.kept.keeps.same_shape) (u.reads.contents tells) can in
    let sound = c.in_err-extend.ensures.sound tells slots (front ++ p ∷ []) s now takes in
    search (rules, sound, c.from_residual-in_err-extend.ensures)

pub returns-in_ok-push_on-clause-pushed : goal.returns-in_ok-push_on-clause-pushed
returns-in_ok-push_on-clause-pushed g c tells dir slots front p s can ends =
    let pages = λ (shape : FileShape). shape.pages in
    let image = image_in c.args.old.now in
    let old = g.P.Pages.contents c.args.pages.now in
    let mid = g.P.Pages.contents c.read_undo.new.pages in
    let new = g.P.Pages.contents c.push_on.new.pages in
    let last : c.args.ends.last.0 ≡ p.page = ap (λ (e : Ends). e.1) ends ∙ last_is 0 front p in
    let parts = parts_of _ _ slots c.args.slot front p [] s can.stack in
    let stands = subst (λ (k : ℕ). IsUndoPage (page_of old k) k (last_page 0 front) 0 p.images) (sym last) parts.page in
    let u = c.in_ok-used.ensures in
    let w = c.in_ok-push_on.ensures in
    let contents = u.reads.contents tells in
    let used = u.used tells (last_page 0 front) 0 p.images stands in
    let takes = takes_by image front p c.in_ok-used.used c.entry_size.result c.has_room.result used c.entry_size.ensures.size c.has_room.ensures ∙ ap not c.if-has_room.true in
    let stands_mid = subst (λ (k : Contents). IsUndoPage (page_of k c.args.ends.last.0) c.args.ends.last.0 (last_page 0 front) 0 p.images) (sym contents) stands in
    let bytes = u.page tells ∙ sym (ap (λ (k : Contents). page_of k c.args.ends.last.0) contents) in
    let longer = subst (λ (k : ℕ). IsUndoPage (page_of new k) k (last_page 0 front) 0 (p.images ++ image ∷ [])) last (w.page tells bytes (last_page 0 front) 0 p.images stands_mid used) in
    let keeps = subst (λ (k : Contents). KeepsPages (λ page. is_among page (p.page ∷ [])) k new) contents (subst (λ (k : ℕ). KeepsPages (λ page. is_among page (k ∷ [])) mid new) last (w.changes.changes.others tells)) in
    let done = pushed_stays _ old new slots c.args.slot front p s image c.requires.slot can.stack takes keeps longer in
    let shape = ap pages w.changes.kept.keeps.same_shape ∙ ap pages u.reads.kept.keeps.same_shape in
    subst (λ (k : ℕ). Restacks k old new slots c.args.slot (front ++ p ∷ []) (pushed (next_free s) image (front ++ p ∷ [])) (space_after image (front ++ p ∷ []) s) (page_taken image (front ++ p ∷ []) s)) (sym shape) done

pub returns-in_ok-extend-clause-pushed : goal.returns-in_ok-extend-clause-pushed
returns-in_ok-extend-clause-pushed g c tells dir slots front p s can ends =
    let image = image_in c.args.old.now in
    let old = g.P.Pages.contents c.args.pages.now in
    let last : c.args.ends.last.0 ≡ p.page = ap (λ (e : Ends). e.1) ends ∙ last_is 0 front p in
    let parts = parts_of _ _ slots c.args.slot front p [] s can.stack in
    let stands = subst (λ (k : ℕ). IsUndoPage (page_of old k) k (last_page 0 front) 0 p.images) (sym last) parts.page in
    let u = c.in_ok-used.ensures in
    let contents = u.reads.contents tells in
    let used = u.used tells (last_page 0 front) 0 p.images stands in
    let takes = takes_by image front p c.in_ok-used.used c.entry_size.result c.has_room.result used c.entry_size.ensures.size c.has_room.ensures ∙ ap not c.if-has_room.false in
    let now = can_push_now _ _ _ _ slots c.args.slot (front ++ p ∷ []) s image (ap (λ (s : FileShape). s.pages) u.reads.kept.keeps.same_shape) contents can in
    let bytes = u.page tells ∙ sym (ap (λ (k : Contents). page_of k c.args.ends.last.0) contents) in
    let done = c.in_ok-extend.ensures.pushed tells (dir ∙ sym (ap (λ (k : Contents). page_of k 1) contents)) bytes slots front p s now ends used takes in
    restacks_from _ _ _ _ slots c.args.slot (front ++ p ∷ []) _ _ _ contents done
