-- What calls that change pages ask of a store of pages, and what they leave alone; at a bound `P: Pages`, cited as
-- `ChangesPages P.Pages (space_number ∷ root.0 ∷ []) NamesSpace pages.old pages.new result`.
use Rattle.std.specs.Prelude.{◌≡◌, ℕ, ◌+◌, ◌≤◌, true, List, Result, length, IfErr, OnOk}
use Rattle.isp_page.specs.Calls.{Continues}
use Rattle.isp_page.specs.State.{is_among, most_changed}
use Rattle.isp_page.specs.Touched.{Grows, KeepsPages}
use Rattle.isp_page.specs.declared.fault.StoreFault.{StoreFault}
use Rattle.isp_page.specs.declared.pages.Pages.{Ghosts}

-- the store can be used, and a mini-transaction is begun that has room for so many pages
pub record MayChange {S : Type 0} (g : Ghosts S) (most : ℕ) (now : S) : Type 0 where
  pub usable : g.usable now ≡ true
  pub begun : (g.mini now).is_begun ≡ true
  pub room : length (g.mini now).changed + most ≤ most_changed

-- these pages are changed, and no others
pub record ChangesOf {S : Type 0} (g : Ghosts S) (list : List ℕ) (old new : S) : Type 0 where
  pub grows : Grows list (g.mini old) (g.mini new)
  pub others : g.tells → KeepsPages (λ page. is_among page list) (g.contents old) (g.contents new)

-- pages of a list of at most so many are changed
pub record ChangesBy {S : Type 0} (g : Ghosts S) (most : ℕ) (old new : S) : Type 0 where
  pub list : List ℕ
  pub few : length list ≤ most
  pub changes : ChangesOf g list old new

-- a call that changes these pages
pub record ChangesPages {S T : Type 0} (g : Ghosts S) (list : List ℕ) (Names : StoreFault → Type 0) (old new : S) (result : Result T StoreFault) : Type 0 where
  pub kept : Continues g old new result
  pub changes : OnOk result (ChangesOf g list old new)
  pub names : IfErr result Names

-- a call that reads pages, and names such pages where they aren't what they should be
pub record ReadsPages {S T : Type 0} (g : Ghosts S) (Names : StoreFault → Type 0) (old new : S) (result : Result T StoreFault) : Type 0 where
  pub kept : Continues g old new result
  pub contents : g.tells → OnOk result (g.contents new ≡ g.contents old)
  pub mini : OnOk result (g.mini new ≡ g.mini old)
  pub names : IfErr result Names
