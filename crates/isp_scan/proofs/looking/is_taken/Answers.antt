use Rattle.std.proofs.Common.{rules, ◌∙◌, ap, w64}
use Rattle.std.specs.Prelude.{ℤ}
use Rattle.std.specs.Option.{option_map}
use Rattle.std.proofs.lemmas.Int.{to_z-of_z}
use Rattle.isp_clustered.specs.Cells.{kept_of}
use Rattle.isp_clustered.specs.Rows.{find}
use Rattle.isp_clustered.specs.Trees.{rows_of}
use Rattle.isp_scan.proofs.TakenLaws.{key_taken, tree_of}
use Rattle.isp_scan.proofs.looking.is_taken.Goals as goal

pub returns-in_err-got-clause-sound : goal.returns-in_err-got-clause-sound
returns-in_err-got-clause-sound g c tells t has =
    let sound = c.in_err-got.ensures.sound tells c.args.def.now.number t.tree (tree_of g.P.Pages c.args.pages.now c.args.def.now t has) in
    search (rules, sound, c.from_residual.ensures)

pub returns-clause-taken : goal.returns-clause-taken
returns-clause-taken g c tells t has =
    c.is_shown.ensures
    ∙ key_taken g.P.Pages c.args.pages.now c.args.def.now t c.args.key c.in_ok-got.got has
    (c.in_ok-got.ensures.row tells c.args.def.now.number t.tree (tree_of g.P.Pages c.args.pages.now c.args.def.now t has)
    ∙ ap (λ (k : ℤ). option_map kept_of (find k (rows_of t.tree))) (to_z-of_z w64 c.args.key c.ranges.key))
