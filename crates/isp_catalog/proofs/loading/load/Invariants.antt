use Rattle.std.proofs.Common.{◌≡◌, ◌<◌, length}
use Rattle.std.specs.Prelude.{All, ⊤}
use Rattle.isp_page.specs.Calls.{ContinuesOrLacks}
use Rattle.isp_catalog.specs.Catalogue.{IsCatalogue}
use Rattle.isp_catalog.proofs.Turns.{so_far}
use Rattle.isp_catalog.proofs.loading.load.Given as goal

abbrev pub invariant-loop-k : goal.invariant-loop-k
invariant-loop-k g l =
    ContinuesOrLacks {T = ⊤} g.P.Pages l.fn.pages l.pages so_far
    × (g.P.Pages.tells → g.P.Pages.contents l.pages ≡ g.P.Pages.contents l.fn.pages)
    × (g.P.Pages.mini l.pages ≡ g.P.Pages.mini l.fn.pages)
    × (length l.defs.items ≡ l.k)
    × All (λ def. def.root.0 < (g.P.Pages.shape l.fn.pages).pages) l.defs.items
    × (g.P.Pages.tells → IsCatalogue (g.P.Pages.shape l.fn.pages).pages (g.P.Pages.contents l.fn.pages) l.defs.items)
