use Rattle.std.proofs.Common.{sym, ◌∙◌, ap, Some}
use Rattle.std.proofs.lemmas.Result.{err_from_is_err_and}
use Rattle.std.proofs.lemmas.Option.{slice_get-get_or}
use Rattle.isp_scan.proofs.HeldLaws.{held_on, memory_lacks, stands_there}
use Rattle.isp_scan.proofs.held.held_in.Goals as goal

pub returns-in_err-push_shown-clause-sound : goal.returns-in_err-push_shown-clause-sound
returns-in_err-push_shown-clause-sound c rows are =
    let got = slice_get-get_or c.args.leaf.now c.loop-at.at-index c.at-item.result c.loop-at-test.true ∙ ap Some (sym c.at-item.is) in
    let s = stands_there c.args.schema.now c.args.leaf.now rows c.loop-at.at-index c.at-item.result are got in
    let p = err_from_is_err_and c.from_residual.result c.from_residual.ensures.1 in
    memory_lacks c.from_residual.result _ _ p.1 p.2 (c.in_err-push_shown.ensures.sound s.row s.kept)

pub loop-at-preserved : goal.loop-at-preserved
loop-at-preserved c =
    let got = slice_get-get_or c.args.leaf.now c.loop-at.at-index c.at-item.result c.loop-at-test.true ∙ ap Some (sym c.at-item.is) in (
      c.in_ok-push_shown.ensures.rows c.loop-at.invariant.0,
      λ rows are.
          let s = stands_there c.args.schema.now c.args.leaf.now rows c.loop-at.at-index c.at-item.result are got in
          held_on c.args.schema.now c.args.w.now rows c.loop-at.at-index c.at-item.result c.loop-at.rows _ s (c.in_ok-push_shown.ensures.held s.row s.kept) (c.loop-at.invariant.1 rows are),
    )
