use Rattle.std.proofs.Common.{ℕ, List, [], ◌∷◌, refl, sym, ◌∙◌, ap, subst}
use Rattle.isp_format.specs.Ranges.{Contents, page_of}
use Rattle.isp_format.specs.Undo.{IsUndoPage}
use Rattle.isp_undo_pages.specs.Entries.{image_in}
use Rattle.isp_undo_walks.proofs.writing.make_page.Goals as goal

pub returns-clause-page : goal.returns-clause-page
returns-clause-page g c tells =
    let r = c.in_ok-read.ensures in
    let read = r.page tells ∙ sym (ap (λ (contents : Contents). page_of contents c.args.p.0) (r.contents tells)) in
    let now = c.in_ok-replace.ensures.page tells read in
    subst (λ (bytes : List ℕ). IsUndoPage bytes c.args.p.0 c.args.before.0 0 (image_in c.args.old.now ∷ [])) (sym now)
    (c.with_entry-new.ensures c.args.p.0 c.args.before.0 0 [] c.fresh-empty.ensures refl)
