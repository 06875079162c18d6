use Rattle.std.proofs.Common.{ℕ, List, [], ◌∷◌, ◌++◌, sym, subst}
use Rattle.isp_format.specs.Undo.{IsUndoPage}
use Rattle.isp_undo_pages.specs.Entries.{image_in}
use Rattle.isp_undo_walks.proofs.writing.push_on.Goals as goal

pub returns-clause-page : goal.returns-clause-page
returns-clause-page g c tells same before next images stands used =
    let now = c.in_ok-replace.ensures.page tells same in
    subst (λ (bytes : List ℕ). IsUndoPage bytes c.args.last.0 before next (images ++ image_in c.args.old.now ∷ [])) (sym now)
    (c.with_entry-new.ensures c.args.last.0 before next images (subst (λ (bytes : List ℕ). IsUndoPage bytes c.args.last.0 before next images) (sym same) stands) used)
