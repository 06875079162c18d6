use Rattle.std.proofs.Common.{rules, ◌≡◌, ℕ, List, [], ◌∷◌, ◌++◌, sym, ◌∙◌, ap, subst, arith}
use Rattle.isp_format.specs.Ranges.{page_of}
use Rattle.isp_format.specs.Undo.{IsUndoPage, OldImage, Slot as Ends}
use Rattle.isp_page.specs.State.{FileShape, is_among}
use Rattle.isp_page.specs.Touched.{KeepsPages}
use Rattle.std.proofs.lemmas.List.{append-nil}
use Rattle.isp_space.proofs.ChangesLaws.{among_two, changes_on, changes_two}
use Rattle.isp_space.specs.Spaces.{IsSpace, next_free, taken}
use Rattle.isp_undo_pages.specs.Entries.{image_in}
use Rattle.isp_undo.specs.Calls.{Restacks, page_taken, space_after}
use Rattle.isp_undo_walks.specs.Chains.{last_page}
use Rattle.isp_undo.specs.Chains.{pushed}
use Rattle.isp_undo_walks.proofs.LinkLaws.{last_is}
use Rattle.isp_undo_walks.proofs.PageLaws.{changes_three}
use Rattle.isp_undo.proofs.PushLaws.{extended}
use Rattle.isp_undo.proofs.pushing.extend.Goals as goal

pub write_slot-requires-clause-can : goal.write_slot-requires-clause-can
write_slot-requires-clause-can g c =
    let p = c.in_ok-p.p.0 in
    let take = c.in_ok-p.ensures in
    let can = c.requires.can in
    let whole = changes_three g.P.Pages p c.args.ends.last.0 _ _ _ _ (changes_two g.P.Pages p _ _ take.grown take.others) c.in_ok-make_page.ensures.changes.changes c.in_ok-cut_page.ensures.changes.changes in
    let within = whole.grows.within in
    let room = can.room in
    record {
      usable = search rules;
      begun = whole.grows.begun ∙ can.begun;
      room = omega (arith, within, room);
    }

pub returns-clause-changes : goal.returns-clause-changes
returns-clause-changes g c =
    let p = c.in_ok-p.p.0 in
    let last = c.args.ends.last.0 in
    let take = c.in_ok-p.ensures in
    let write = c.in_ok-write_slot.ensures.changes in
    record {
      kept = search rules;
      changes = record {
        list = (0 ∷ p ∷ last ∷ []) ++ 1 ∷ [];
        few = omega arith;
        changes = changes_on g.P.Pages (0 ∷ p ∷ last ∷ []) (1 ∷ []) _ _ _ (changes_three g.P.Pages p last _ _ _ _ (changes_two g.P.Pages p _ _ take.grown take.others) c.in_ok-make_page.ensures.changes.changes c.in_ok-cut_page.ensures.changes.changes) write.changes;
      };
      names = tt;
    }

pub returns-clause-pushed : goal.returns-clause-pushed
returns-clause-pushed g c tells dir bytes slots front p s can ends used takes =
    let pages = λ (shape : FileShape). shape.pages in
    let n = c.in_ok-p.p.0 in
    let image = image_in c.args.old.now in
    let old = g.P.Pages.contents c.args.pages.now in
    let mid = g.P.Pages.contents c.take_page.new.pages in
    let made = g.P.Pages.contents c.make_page.new.pages in
    let linked = g.P.Pages.contents c.cut_page.new.pages in
    let new = g.P.Pages.contents c.write_slot.new.pages in
    let take = c.in_ok-p.ensures in
    let make = c.in_ok-make_page.ensures in
    let cut = c.in_ok-cut_page.ensures in
    let write = c.in_ok-write_slot.ensures in
    let shape_take = ap pages take.kept.keeps.same_shape in
    let shape = ap pages write.changes.kept.keeps.same_shape ∙ ap pages cut.changes.kept.keeps.same_shape ∙ ap pages make.changes.kept.keeps.same_shape ∙ shape_take in
    let free = can.free takes in
    let space = subst (λ (k : ℕ). IsSpace k mid (taken s)) shape_take (take.taken tells s can.stack.space free) in
    let last : c.args.ends.last.0 ≡ p.page = ap (λ (e : Ends). e.1) ends ∙ last_is 0 front p in
    let page = subst (λ (k : ℕ). IsUndoPage (page_of made n) n k 0 (image ∷ [])) last (make.page tells) in
    let third = subst (λ (k : ℕ). KeepsPages (λ page. is_among page (k ∷ [])) made linked) last (cut.changes.changes.others tells) in
    let links = subst (λ (k : ℕ). c.args.page.now.bytes ≡ page_of made k → IsUndoPage (page_of made k) k (last_page 0 front) 0 p.images → IsUndoPage (page_of linked k) k (last_page 0 front) n p.images) last
    (λ same stands. cut.page tells same (last_page 0 front) 0 p.images [] (subst (λ (images : List OldImage). IsUndoPage (page_of made c.args.ends.last.0) c.args.ends.last.0 (last_page 0 front) 0 images) (sym (append-nil p.images)) stands) used) in
    let done = extended _ old mid made linked new slots c.args.slot n front p s image c.args.directory.now.bytes c.args.page.now.bytes _ c.requires.slot (take.page tells s can.stack.space free) can.stack takes space
    (among_two n old mid (take.others tells)) (make.changes.changes.others tells) third (write.changes.changes.others tells) page (subst (λ (k : ℕ). c.args.page.now.bytes ≡ page_of old k) last bytes) links dir ends (λ same is. write.slots tells same slots is) in
    subst (λ (k : ℕ). Restacks k old new slots c.args.slot (front ++ p ∷ []) (pushed (next_free s) image (front ++ p ∷ [])) (space_after image (front ++ p ∷ []) s) (page_taken image (front ++ p ∷ []) s)) (sym shape) done
