use Rattle.std.proofs.Common.{rules, ◌∙◌, ap, w64}
use Rattle.std.specs.Prelude.{ℤ}
use Rattle.std.specs.Option.{option_map}
use Rattle.std.proofs.lemmas.Int.{to_z-of_z}
use Rattle.isp_clustered.specs.Cells.{kept_of}
use Rattle.isp_clustered.specs.Rows.{find}
use Rattle.isp_clustered.specs.Trees.{rows_of}
use Rattle.isp_trx.specs.Writes.{kept_mark}
use Rattle.isp_trx.proofs.SweepLaws.{kept_mark_is}
use Rattle.isp_trx.proofs.sweeping.finds_mark.Goals as goal

pub returns-in_err-got-clause-sound : goal.returns-in_err-got-clause-sound
returns-in_err-got-clause-sound g c tells table tree is =
    let sound = c.in_err-got.ensures.sound tells table tree is in
    search (rules, sound, c.from_residual.ensures)

pub returns-clause-marked : goal.returns-clause-marked
returns-clause-marked g c tells table tree is =
    c.has_mark.ensures
    ∙ ap kept_mark (c.in_ok-got.ensures.row tells table tree is ∙ ap (λ (k : ℤ). option_map kept_of (find k (rows_of tree))) (to_z-of_z w64 c.args.key c.ranges.key))
    ∙ kept_mark_is (find c.args.key (rows_of tree))
