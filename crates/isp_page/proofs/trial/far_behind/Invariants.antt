use Rattle.std.proofs.Common.{◌≡◌, ◌<◌}
use Rattle.isp_page.specs.Calls.{Continued}
use Rattle.isp_page.proofs.trial.far_behind.Given as goal

abbrev pub invariant-loop-step : goal.invariant-loop-step
invariant-loop-step g l = Continued g.P.Pages l.fn.pages l.pages × (g.P.Pages.tells → g.P.Pages.contents l.pages ≡ g.P.Pages.contents l.fn.pages) × (l.at.0 < (g.P.Pages.shape l.fn.pages).pages)
