-- What holds between two calls of a test.
use Rattle.std.specs.Prelude.{◌≡◌, ◌≤◌, true, false}
use Rattle.isp_page.specs.declared.pages.Pages.{Ghosts}

-- the store can be used, no mini-transaction is begun, and it has as many pages as are looked at
pub record IsReady {S : Type 0} (g : Ghosts S) (now : S) : Type 0 where
  pub usable : g.usable now ≡ true
  pub none : (g.mini now).is_begun ≡ false
  pub pages : 24 ≤ (g.shape now).pages
