use Rattle.std.proofs.Common.{◌≤◌, ℕ, refl, subst}
use Rattle.isp_stable.proofs.FileLaws.{reads_stable}
use Rattle.isp_stable.proofs.stable.Stable.read_range.Goals as goal

pub returns-clause-reads : goal.returns-clause-reads
returns-clause-reads g c = reads_stable g.W.World c.args.self.now _ _ (record { pages = refl; fanout = refl }) refl c.read_range.ensures.reads

pub returns-clause-found : goal.returns-clause-found
returns-clause-found g c = λ tells file ranges at.
    c.read_range.ensures.found tells c.args.self.now.pages (subst (λ (n : ℕ). n ≤ 65536) file.pages file.control.pages.1) ranges at
