use Rattle.std.proofs.Common.{ℕ, List, ◌++◌, sym, subst}
use Rattle.isp_format.specs.Undo.{IsUndoPage}
use Rattle.isp_undo_walks.proofs.writing.cut_page.Goals as goal

pub returns-clause-page : goal.returns-clause-page
returns-clause-page g c tells same before was images gone stands used =
    let now = c.in_ok-replace.ensures.page tells same in
    subst (λ (bytes : List ℕ). IsUndoPage bytes c.args.p.0 before c.args.next.0 images) (sym now)
    (c.cut-new.ensures c.args.p.0 before was images gone (subst (λ (bytes : List ℕ). IsUndoPage bytes c.args.p.0 before was (images ++ gone)) (sym same) stands) used)
