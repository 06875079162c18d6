use Rattle.std.proofs.Common.{rules, ℕ, ◌≤◌, List, [], ◌∷◌, ◌++◌, set, refl, sym, ◌∙◌, ap, subst, arith}
use Rattle.isp_format.specs.Header.{Header, header_of}
use Rattle.isp_format.specs.Ranges.{page_of}
use Rattle.isp_format.specs.Undo.{IsUndoDirectory, Slot as Ends}
use Rattle.isp_page.specs.State.{FileShape}
use Rattle.isp_space.proofs.ChangesLaws.{changes_on}
use Rattle.isp_space.proofs.SpaceLaws.{space_behind}
use Rattle.isp_space.specs.Giving.{with_chain}
use Rattle.isp_space.specs.Spaces.{IsSpace}
use Rattle.isp_undo.specs.Calls.{Restacks}
use Rattle.isp_undo_walks.specs.Chains.{Chain, first_page, last_page, pages_of, undo_page}
use Rattle.isp_undo.proofs.CutLaws.{behind_cut, cut_behind, directory_stays, given_pages, last_at_end}
use Rattle.isp_undo.proofs.PushLaws.{here_of, parts_of}
use Rattle.isp_undo.proofs.popping.give_behind.Goals as goal

pub returns-in_err-give_chain-clause-sound : goal.returns-in_err-give_chain-clause-sound
returns-in_err-give_chain-clause-sound g c tells same slots front images more q rest s can =
    let pages = λ (shape : FileShape). shape.pages in
    let w = c.in_ok-cut_page.ensures.changes in
    let next = ap (λ (h : Header). h.next) c.head.ensures ∙ ap (λ (b : List ℕ). (header_of b).next) same in
    let b = behind_cut _ _ _ slots c.args.slot front c.args.stop.page.0 (images ++ more) q rest s c.head.result.next.0 c.args.ends.last.0 c.args.stop.passed can.stack (w.changes.others tells) next (last_at_end front (undo_page c.args.stop.page.0 (images ++ more)) q rest _ can.ends_are) can.passed in
    let sound = c.in_err-give_chain.ensures.sound tells s (pages_of (q ∷ rest)) (space_behind _ _ _ _ s (ap pages w.kept.keeps.same_shape) refl b.space) b.given in
    search (rules, sound, c.from_residual-in_err-give_chain.ensures)

pub returns-clause-changes : goal.returns-clause-changes
returns-clause-changes g c =
    let page = c.args.stop.page.0 in
    let last = c.args.ends.last.0 in
    let cut = c.in_ok-cut_page.ensures.changes in
    let given = c.in_ok-give_chain.ensures in
    let write = c.in_ok-write_slot.ensures.changes in
    record {
      kept = search rules;
      changes = record {
        list = (page ∷ last ∷ 0 ∷ []) ++ 1 ∷ [];
        few = omega arith;
        changes = changes_on g.P.Pages (page ∷ last ∷ 0 ∷ []) (1 ∷ []) _ _ _ (changes_on g.P.Pages (page ∷ []) (last ∷ 0 ∷ []) _ _ _ cut.changes (record { grows = given.grown; others = λ tells. given_pages last _ _ (given.others tells) })) write.changes;
      };
      names = tt;
    }

pub returns-clause-cut : goal.returns-clause-cut
returns-clause-cut g c tells dir same slots front images more q rest s can =
    let page = c.args.stop.page.0 in
    let p = undo_page page (images ++ more) in
    let chain : Chain = front ++ p ∷ q ∷ rest in
    let pages = λ (shape : FileShape). shape.pages in
    let old = g.P.Pages.contents c.args.pages.now in
    let cut = c.in_ok-cut_page.ensures in
    let given = c.in_ok-give_chain.ensures in
    let write = c.in_ok-write_slot.ensures in
    let shape_cut = ap pages cut.changes.kept.keeps.same_shape in
    let shape_given = ap pages given.kept.keeps.same_shape ∙ shape_cut in
    let shape = ap pages write.changes.kept.keeps.same_shape ∙ shape_given in
    let first = cut.changes.changes.others tells in
    let next = ap (λ (h : Header). h.next) c.head.ensures ∙ ap (λ (b : List ℕ). (header_of b).next) same in
    let last = last_at_end front p q rest _ can.ends_are in
    let b = behind_cut _ old _ slots c.args.slot front page (images ++ more) q rest s c.head.result.next.0 c.args.ends.last.0 c.args.stop.passed can.stack first next last can.passed in
    let parts = parts_of _ old slots c.args.slot front p (q ∷ rest) s can.stack in
    let stands = cut.page tells same (last_page 0 front) (first_page 0 (q ∷ rest)) images more parts.page can.used in
    let second = given_pages c.args.ends.last.0 _ _ (given.others tells) in
    let space = subst (λ (n : ℕ). IsSpace n (g.P.Pages.contents c.give_chain.new.pages) (with_chain (pages_of (q ∷ rest)) s)) shape_given (given.given tells s (pages_of (q ∷ rest)) (space_behind _ _ _ _ s shape_cut refl b.space) b.given) in
    let third = write.changes.changes.others tells in
    let page_from = here_of (λ x. 16 ≤ x) (pages_of front) page (pages_of (q ∷ rest)) parts.from in
    let one_stays = directory_stays old _ (g.P.Pages.contents c.give_chain.new.pages) page c.args.ends.last.0 page_from c.requires.ends.last_from first second in
    let says = write.slots tells (dir ∙ sym one_stays) slots (subst (λ (bytes : List ℕ). IsUndoDirectory bytes slots) (sym one_stays) can.stack.stack.directory) in
    let says_first : IsUndoDirectory (page_of (g.P.Pages.contents c.write_slot.new.pages) 1) (set slots c.args.slot (first_page 0 chain, page)) = subst (λ (n : ℕ). IsUndoDirectory (page_of (g.P.Pages.contents c.write_slot.new.pages) 1) (set slots c.args.slot (n, page))) (ap (λ (e : Ends). e.0) can.ends_are) says in
    let done = cut_behind _ old _ _ _ slots c.args.slot front page c.args.ends.last.0 images more q rest s c.requires.slot can.stack last first stands second space third says_first in
    subst (λ (n : ℕ). Restacks n old (g.P.Pages.contents c.write_slot.new.pages) slots c.args.slot chain (front ++ undo_page page images ∷ []) (with_chain (pages_of (q ∷ rest)) s) []) (sym shape) done
