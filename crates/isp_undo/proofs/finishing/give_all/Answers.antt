use Rattle.std.proofs.Common.{rules, ◌≡◌, ℕ, List, [], ◌∷◌, ◌++◌, sym, ◌∙◌, ap, subst, arith}
use Rattle.isp_format.specs.Ranges.{Contents, page_of}
use Rattle.isp_format.specs.Undo.{IsUndoDirectory}
use Rattle.isp_page.specs.State.{FileShape}
use Rattle.isp_space.proofs.ChangesLaws.{behind_read, changes_on}
use Rattle.isp_space.specs.Giving.{with_chain}
use Rattle.isp_space.specs.Spaces.{IsSpace}
use Rattle.isp_undo_pages.specs.Directory.{ends_in}
use Rattle.isp_undo.specs.Calls.{Restacks}
use Rattle.isp_undo_walks.specs.Chains.{pages_of}
use Rattle.isp_undo.proofs.CutLaws.{all_back, given_all, given_pages, one_stays, stack_now}
use Rattle.isp_undo.proofs.PopLaws.{restacks_from}
use Rattle.isp_undo_walks.proofs.WalkLaws.{way_of}
use Rattle.isp_undo.proofs.finishing.give_all.Goals as goal

pub returns-in_err-count-clause-sound : goal.returns-in_err-count-clause-sound
returns-in_err-count-clause-sound g c tells slots chain s was ends =
    let sound = c.in_err-count.ensures.sound tells chain (way_of _ _ chain was.stack.stands) ends in
    search (rules, sound, c.from_residual.ensures)

pub returns-in_err-give_chain-clause-sound : goal.returns-in_err-give_chain-clause-sound
returns-in_err-give_chain-clause-sound g c tells slots chain s was ends =
    let n = c.in_ok-count.ensures in
    let now = stack_now _ _ _ _ slots c.args.slot chain s (ap (λ (s : FileShape). s.pages) n.reads.kept.keeps.same_shape) (n.reads.contents tells) was in
    let count = n.count tells chain (way_of _ _ chain was.stack.stands) ends in
    let given = given_all _ _ slots c.args.slot chain s (ends_in c.args.ends) c.in_ok-count.count now ends c.requires.ends.first_from count in
    let sound = c.in_err-give_chain.ensures.sound tells s (pages_of chain) now.space given in
    search (rules, sound, c.from_residual-in_err-give_chain.ensures)

pub returns-clause-changes : goal.returns-clause-changes
returns-clause-changes g c =
    let last = c.args.ends.last.0 in
    let n = c.in_ok-count.ensures.reads in
    let given = c.in_ok-give_chain.ensures in
    let write = c.in_ok-write_slot.ensures.changes in
    record {
      kept = search rules;
      changes = behind_read g.P.Pages ((last ∷ 0 ∷ []) ++ 1 ∷ []) 4 _ _ _ n.contents n.mini (omega arith) (changes_on g.P.Pages (last ∷ 0 ∷ []) (1 ∷ []) _ _ _ (record { grows = given.grown; others = λ tells. given_pages last _ _ (given.others tells) }) write.changes);
      names = tt;
    }

pub returns-clause-finished : goal.returns-clause-finished
returns-clause-finished g c tells dir slots chain s was ends =
    let pages = λ (shape : FileShape). shape.pages in
    let n = c.in_ok-count.ensures in
    let given = c.in_ok-give_chain.ensures in
    let write = c.in_ok-write_slot.ensures in
    let contents = n.reads.contents tells in
    let now = stack_now _ _ _ _ slots c.args.slot chain s (ap pages n.reads.kept.keeps.same_shape) contents was in
    let count = n.count tells chain (way_of _ _ chain was.stack.stands) ends in
    let is_given = given_all _ _ slots c.args.slot chain s (ends_in c.args.ends) c.in_ok-count.count now ends c.requires.ends.first_from count in
    let shape_given = ap pages given.kept.keeps.same_shape in
    let shape = ap pages write.changes.kept.keeps.same_shape ∙ shape_given in
    let mid = g.P.Pages.contents c.count_pages.new.pages in
    let gives = g.P.Pages.contents c.give_chain.new.pages in
    let new = g.P.Pages.contents c.write_slot.new.pages in
    let first = given_pages c.args.ends.last.0 _ _ (given.others tells) in
    let space = subst (λ (k : ℕ). IsSpace k gives (with_chain (pages_of chain) s)) shape_given (given.given tells s (pages_of chain) now.space is_given) in
    let stays : page_of gives 1 ≡ page_of mid 1 = one_stays mid gives c.args.ends.last.0 c.requires.ends.last_from first in
    let says = write.slots tells (dir ∙ sym (ap (λ (contents : Contents). page_of contents 1) contents) ∙ sym stays) slots (subst (λ (bytes : List ℕ). IsUndoDirectory bytes slots) (sym stays) now.stack.directory) in
    let done = all_back _ mid gives new slots c.args.slot (ends_in c.args.ends) chain s c.requires.slot now ends c.requires.ends.first_from first space (write.changes.changes.others tells) says in
    restacks_from _ _ mid new slots c.args.slot chain [] _ [] contents (subst (λ (k : ℕ). Restacks k mid new slots c.args.slot chain [] (with_chain (pages_of chain) s) []) (sym shape) done)
