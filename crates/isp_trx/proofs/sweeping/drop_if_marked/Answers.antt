use Rattle.std.proofs.Common.{rules, FitsSigned, sym, ◌∙◌, ap, w64}
use Rattle.std.specs.Prelude.{ℤ}
use Rattle.std.proofs.lemmas.Int.{to_z-of_z}
use Rattle.isp_clustered.specs.Trees.{has_marked}
use Rattle.isp_page.specs.State.{FileShape}
use Rattle.isp_trx.proofs.Makes.{behind_done, behind_failed}
use Rattle.isp_trx.proofs.SweepLaws.{swept_behind, tree_moved, unmarked_at}
use Rattle.isp_trx.proofs.sweeping.drop_if_marked.Goals as goal

pub returns-in-Ok-clause-made : goal.returns-in-Ok-clause-made
returns-in-Ok-clause-made g c =
    let fits : FitsSigned w64 c.args.at.key = search rules in
    behind_done g.P.Pages _ _ _ _ _ _
    (λ tells contents dropped. swept_behind _ _ _ _ contents c.args.at c.args.root.0 (ap (λ (shape : FileShape). shape.pages) c.in-Ok-true.ensures.kept.keeps.same_shape) (c.in-Ok-true.ensures.contents tells)
    (λ table tree is. sym c.in-Ok-true.field-0-test ∙ c.in-Ok-true.ensures.marked tells table tree is ∙ ap (λ (k : ℤ). has_marked k tree) (to_z-of_z w64 c.args.at.key fits)) dropped)
    c.in-Ok-true.ensures.kept tt tt c.in-Ok.ensures.made

pub returns-in-Ok-clause-swept : goal.returns-in-Ok-clause-swept
returns-in-Ok-clause-swept g c tells =
    let fits : FitsSigned w64 c.args.at.key = search rules in
    swept_behind _ _ _ _ _ c.args.at c.args.root.0 (ap (λ (shape : FileShape). shape.pages) c.in-Ok-true.ensures.kept.keeps.same_shape) (c.in-Ok-true.ensures.contents tells)
    (λ table tree is. sym c.in-Ok-true.field-0-test ∙ c.in-Ok-true.ensures.marked tells table tree is ∙ ap (λ (k : ℤ). has_marked k tree) (to_z-of_z w64 c.args.at.key fits)) (c.in-Ok.ensures.dropped tells)

pub returns-in-Err-drop_row-clause-made : goal.returns-in-Err-drop_row-clause-made
returns-in-Err-drop_row-clause-made g c =
    let fits : FitsSigned w64 c.args.at.key = search rules in
    behind_failed g.P.Pages _ _ _ _ _ _
    (λ tells contents dropped. swept_behind _ _ _ _ contents c.args.at c.args.root.0 (ap (λ (shape : FileShape). shape.pages) c.in-Ok-true.ensures.kept.keeps.same_shape) (c.in-Ok-true.ensures.contents tells)
    (λ table tree is. sym c.in-Ok-true.field-0-test ∙ c.in-Ok-true.ensures.marked tells table tree is ∙ ap (λ (k : ℤ). has_marked k tree) (to_z-of_z w64 c.args.at.key fits)) dropped)
    c.in-Ok-true.ensures.kept c.in-Err-drop_row.fault c.in-Err-drop_row.ensures.made

pub returns-in-Err-drop_row-clause-sound : goal.returns-in-Err-drop_row-clause-sound
returns-in-Err-drop_row-clause-sound g c tells table tree is =
    let fits : FitsSigned w64 c.args.at.key = search rules in
    c.in-Err-drop_row.ensures.sound tells table tree
    (tree_moved _ _ _ _ table _ tree (ap (λ (shape : FileShape). shape.pages) c.in-Ok-true.ensures.kept.keeps.same_shape) (c.in-Ok-true.ensures.contents tells) is)
    (sym (ap (λ (k : ℤ). has_marked k tree) (to_z-of_z w64 c.args.at.key fits)) ∙ sym (c.in-Ok-true.ensures.marked tells table tree is) ∙ c.in-Ok-true.field-0-test)

pub returns-in-Ok-false-clause-swept : goal.returns-in-Ok-false-clause-swept
returns-in-Ok-false-clause-swept g c tells =
    let fits : FitsSigned w64 c.args.at.key = search rules in
    unmarked_at _ _ _ c.args.at c.args.root.0
    (λ table tree is. sym c.in-Ok-false.field-0-test ∙ c.in-Ok-false.ensures.marked tells table tree is ∙ ap (λ (k : ℤ). has_marked k tree) (to_z-of_z w64 c.args.at.key fits)) (c.in-Ok-false.ensures.contents tells)
