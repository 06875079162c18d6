use Rattle.std.proofs.Common.{rules, ◌≡◌, subst, ℕ}
use Rattle.isp_clustered.specs.Calls.{Creates as Plants}
use Rattle.isp_creating.proofs.creating.plant.Goals as goal

pub returns-clause-made : goal.returns-clause-made
returns-clause-made g c = λ tells s has free.
    let same : c.in_ok-page.page.0 ≡ c.in_ok-root.root.0 = search rules in
    subst (λ (p : ℕ). Plants g.P.Pages c.args.pages.now c.create.new.pages c.args.number s p) same (c.in_ok-page.ensures.made tells s has free)
