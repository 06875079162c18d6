use Rattle.std.proofs.Common.{⊎_elim, subst}
use Rattle.isp_disk.specs.Moments.{Image}
use Rattle.isp_doublewrite.specs.Restores.{IsRestored}
use Rattle.isp_doublewrite.specs.declared.restoring.Restored.{Restored}
use Rattle.isp_opening.proofs.Standing.{all_laid, nothing_laid}
use Rattle.isp_opening.proofs.opening.lay_copies.Goals as goal

pub returns-in-Nothing-clause-laid : goal.returns-in-Nothing-clause-laid
returns-in-Nothing-clause-laid g c = λ tells.
    let before : Image = g.W.World.image c.args.world.now in
    let now : Image = g.W.World.image c.restore.new.world in
    let done = c.in_ok-restore.ensures.done tells in
    ⊎_elim
    (λ nothing. let is = subst (λ (r : Restored). IsRestored c.args.pages before now r) nothing done in nothing_laid before now is.0 is.1)
    (λ laid. all_laid c.args.pages before now (subst (λ (r : Restored). IsRestored c.args.pages before now r) laid done))
    c.in-Nothing.is
