use Rattle.std.proofs.Common.{rules, FitsSigned, ◌∙◌, ap, w64}
use Rattle.std.specs.Prelude.{ℤ}
use Rattle.std.proofs.lemmas.Int.{to_z-of_z}
use Rattle.isp_clustered.specs.Trees.{has_marked}
use Rattle.isp_page.specs.State.{FileShape}
use Rattle.isp_trx.proofs.SweepLaws.{drops_on}
use Rattle.isp_trx.proofs.sweeping.drop_tree.Goals as goal

pub returns-clause-dropped : goal.returns-clause-dropped
returns-clause-dropped g c tells =
    let fits : FitsSigned w64 c.args.at.key = search rules in
    drops_on c.drop_marked.result _ _ _ _ _ c.args.at _ (to_z-of_z w64 c.args.at.key fits) (ap (λ (shape : FileShape). shape.pages) c.drop_marked.ensures.changes.kept.keeps.same_shape) (c.drop_marked.ensures.dropped tells)

pub returns-clause-sound : goal.returns-clause-sound
returns-clause-sound g c tells table tree is marked =
    let fits : FitsSigned w64 c.args.at.key = search rules in
    c.drop_marked.ensures.sound tells table tree is (ap (λ (k : ℤ). has_marked k tree) (to_z-of_z w64 c.args.at.key fits) ∙ marked)
