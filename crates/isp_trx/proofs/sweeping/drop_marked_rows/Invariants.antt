use Rattle.std.proofs.Common.{◌≡◌, false, take}
use Rattle.std.specs.Prelude.{⊤}
use Rattle.isp_trx.specs.Roots.{numbers_of}
use Rattle.isp_trx.specs.Writes.{Sweeps, SweepsSome}
use Rattle.isp_trx.proofs.MoreMakes.{MakesAll, so_far}
use Rattle.isp_trx.proofs.sweeping.drop_marked_rows.Given as goal

abbrev pub invariant-loop-at : goal.invariant-loop-at
invariant-loop-at g l =
    MakesAll {T = ⊤} g.P.Pages (SweepsSome (g.P.Pages.shape l.fn.pages).pages (g.P.Pages.contents l.fn.pages) (numbers_of l.fn.roots) l.fn.keys) l.fn.pages l.pages so_far
    × ((g.P.Pages.mini l.pages).is_begun ≡ false)
    × (g.P.Pages.tells → Sweeps (g.P.Pages.shape l.fn.pages).pages (g.P.Pages.contents l.fn.pages) (numbers_of l.fn.roots) l.fn.keys (take l.at-index l.fn.keys) (g.P.Pages.contents l.pages))
