use Rattle.std.proofs.Common.{rules, map, ◌∙◌, ap}
use Rattle.isp_page.specs.State.{FileShape}
use Rattle.isp_undo.specs.Chains.{ends_of}
use Rattle.isp_trx.proofs.CommitLaws.{commits_of, may_finish}
use Rattle.isp_trx.proofs.ending.begin_commit.Goals as goal

pub returns-in_err-finish-clause-sound : goal.returns-in_err-finish-clause-sound
returns-in_err-finish-clause-sound g c tells chains chain d can =
    let shape = ap (λ (s : FileShape). s.pages) c.begin.ensures.kept.keeps.same_shape in
    let sound = c.in_err-finish.ensures.sound tells (map ends_of chains) chain d.space (may_finish _ _ _ _ chains c.args.slot chain d shape (c.begin.ensures.contents tells) can) in
    search (rules, sound, c.from_residual.ensures)

pub returns-clause-commits : goal.returns-clause-commits
returns-clause-commits g c tells =
    let pages = λ (s : FileShape). s.pages in
    let shape = ap pages c.begin.ensures.kept.keeps.same_shape in
    commits_of _ _ _ _ _ _ c.args.slot shape (ap pages c.in_ok-finish.ensures.changes.kept.keeps.same_shape ∙ shape) (c.begin.ensures.contents tells) (c.in_ok-finish.ensures.finished tells)
