use Rattle.std.proofs.Common.{rules, FitsSigned, sym, ◌∙◌, ap, w64}
use Rattle.std.proofs.lemmas.Int.{to_z-of_z}
use Rattle.isp_page.specs.State.{FileShape}
use Rattle.isp_trx.specs.Noting.{write_at}
use Rattle.isp_trx.proofs.PartLaws.{edit_on, edit_sound, put_on, put_sound}
use Rattle.isp_trx.proofs.writing.write_tree.Goals as goal

pub returns-then-is_put-clause-written : goal.returns-then-is_put-clause-written
returns-then-is_put-clause-written g c tells =
    let fits : FitsSigned w64 c.args.at.key = search rules in
    let w = write_at c.args.at c.args.root.0 c.args.old.now c.args.row.now c.args.marked in
    put_on c.put.result _ _ _ _ w _ (to_z-of_z w64 c.args.at.key fits) (ap (λ (shape : FileShape). shape.pages) c.put.ensures.changes.kept.keeps.same_shape) (sym c.is_put.ensures ∙ c.if-is_put.true) (c.put.ensures.put tells)

pub returns-then-is_put-clause-sound : goal.returns-then-is_put-clause-sound
returns-then-is_put-clause-sound g c tells table tree s can =
    let fits : FitsSigned w64 c.args.at.key = search rules in
    let w = write_at c.args.at c.args.root.0 c.args.old.now c.args.row.now c.args.marked in
    c.put.ensures.sound tells table tree s (put_sound _ _ w table tree s _ (to_z-of_z w64 c.args.at.key fits) (sym c.is_put.ensures ∙ c.if-is_put.true) can)

pub returns-else-is_put-clause-written : goal.returns-else-is_put-clause-written
returns-else-is_put-clause-written g c tells =
    let fits : FitsSigned w64 c.args.at.key = search rules in
    let w = write_at c.args.at c.args.root.0 c.args.old.now c.args.row.now c.args.marked in
    edit_on c.rewrite.result _ _ _ _ w _ (to_z-of_z w64 c.args.at.key fits) (ap (λ (shape : FileShape). shape.pages) c.rewrite.ensures.changes.kept.keeps.same_shape) (sym c.is_put.ensures ∙ c.if-is_put.false) (c.rewrite.ensures.written tells)

pub returns-else-is_put-clause-sound : goal.returns-else-is_put-clause-sound
returns-else-is_put-clause-sound g c tells table tree s can =
    let fits : FitsSigned w64 c.args.at.key = search rules in
    let w = write_at c.args.at c.args.root.0 c.args.old.now c.args.row.now c.args.marked in
    c.rewrite.ensures.sound tells table tree can.is_tree (edit_sound _ _ w table tree s _ (to_z-of_z w64 c.args.at.key fits) (sym c.is_put.ensures ∙ c.if-is_put.false) can)
