use Rattle.std.proofs.Common.{FitsSigned, sym, ◌∙◌, ap, subst, w64}
use Rattle.std.specs.Prelude.{ℤ}
use Rattle.std.proofs.lemmas.Int.{to_z-of_z}
use Rattle.isp_page.specs.State.{FileShape}
use Rattle.isp_undo_pages.specs.Entries.{image_in}
use Rattle.isp_trx.proofs.UndoLaws.{none_fits, put_none_on, put_row_on, row_fits}
use Rattle.isp_trx.proofs.undoing.put_back.Goals as goal

pub returns-then-old-eq-ABSENT_KIND-clause-put : goal.returns-then-old-eq-ABSENT_KIND-clause-put
returns-then-old-eq-ABSENT_KIND-clause-put g c tells =
    let k = c.key_in-key.ensures in
    let key = to_z-of_z w64 c.key_in-key.result (subst (λ (n : ℤ). FitsSigned w64 n) (sym k.key) k.fits) ∙ k.key in
    put_none_on c.mark.result _ _ _ _ (image_in c.args.old.now) _ _ key (ap (λ (shape : FileShape). shape.pages) c.mark.ensures.changes.kept.keeps.same_shape) c.if-old-eq-ABSENT_KIND.true (c.mark.ensures.marked tells)

pub returns-then-old-eq-ABSENT_KIND-clause-sound : goal.returns-then-old-eq-ABSENT_KIND-clause-sound
returns-then-old-eq-ABSENT_KIND-clause-sound g c tells table tree is fits =
    let k = c.key_in-key.ensures in
    let key = to_z-of_z w64 c.key_in-key.result (subst (λ (n : ℤ). FitsSigned w64 n) (sym k.key) k.fits) ∙ k.key in
    c.mark.ensures.sound tells table tree is (none_fits (image_in c.args.old.now) tree _ key c.if-old-eq-ABSENT_KIND.true fits)

pub returns-else-old-eq-ABSENT_KIND-clause-put : goal.returns-else-old-eq-ABSENT_KIND-clause-put
returns-else-old-eq-ABSENT_KIND-clause-put g c tells =
    let k = c.key_in-key.ensures in
    let key = to_z-of_z w64 c.key_in-key.result (subst (λ (n : ℤ). FitsSigned w64 n) (sym k.key) k.fits) ∙ k.key in
    put_row_on c.rewrite.result _ _ _ _ (image_in c.args.old.now) _ _ _ key c.row_in.ensures (ap (λ (shape : FileShape). shape.pages) c.rewrite.ensures.changes.kept.keeps.same_shape) c.if-old-eq-ABSENT_KIND.false (c.rewrite.ensures.written tells)

pub returns-else-old-eq-ABSENT_KIND-clause-sound : goal.returns-else-old-eq-ABSENT_KIND-clause-sound
returns-else-old-eq-ABSENT_KIND-clause-sound g c tells table tree is fits =
    let k = c.key_in-key.ensures in
    let key = to_z-of_z w64 c.key_in-key.result (subst (λ (n : ℤ). FitsSigned w64 n) (sym k.key) k.fits) ∙ k.key in
    c.rewrite.ensures.sound tells table tree is (row_fits (image_in c.args.old.now) tree _ _ key c.row_in.ensures c.if-old-eq-ABSENT_KIND.false fits)
