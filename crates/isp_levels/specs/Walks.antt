-- What calls that go down a tree leave alone, and what they name; at a bound `P: Pages`, cited as
-- `GoesDown P.Pages root.0 pages.old pages.new result`.
use Rattle.std.specs.Prelude.{◌≡◌, ℕ, ◌<◌, Result, IfErr, IfOk, OnOk, ⊤}
use Rattle.isp_base.specs.declared.page_no.PageNo.{PageNo}
use Rattle.isp_format.specs.Header.{header_of}
use Rattle.isp_format.specs.Ranges.{page_of}
use Rattle.isp_format.specs.Rules.{tree_rule}
use Rattle.isp_page.specs.Calls.{Continues}
use Rattle.isp_page.specs.declared.fault.StoreFault.{StoreFault}
use Rattle.isp_page.specs.declared.fault.StoreFault.TheVariants.{Damaged, Disk, Print}
use Rattle.isp_page.specs.declared.pages.Pages.{Ghosts}
use Rattle.isp_cells.specs.LeafPages.{SaysTree}

-- it is a page of the file, and breaks that rule
abbrev pub NamesAny : ℕ → StoreFault → Type 0
NamesAny pages Disk = ⊤
NamesAny pages Print = ⊤
NamesAny pages (Damaged page rule) = (page < pages) × (rule ≡ tree_rule)

-- A call that reads a page of a tree, which says that it is one where the call answers.
pub record ReadsPage {S T : Type 0} (g : Ghosts S) (page : ℕ) (old new : S) (result : Result T StoreFault) : Type 0 where
  pub kept : Continues g old new result
  pub contents : g.tells → OnOk result (g.contents new ≡ g.contents old)
  pub mini : OnOk result (g.mini new ≡ g.mini old)
  pub says : g.tells → OnOk result (SaysTree page (header_of (page_of (g.contents old) page)))
  pub names : IfErr result (NamesAny (g.shape old).pages)

-- a call that goes down a tree to a page of the file
pub record GoesDown {S : Type 0} (g : Ghosts S) (root : ℕ) (old new : S) (result : Result PageNo StoreFault) : Type 0 where
  pub kept : Continues g old new result
  pub contents : g.tells → OnOk result (g.contents new ≡ g.contents old)
  pub mini : OnOk result (g.mini new ≡ g.mini old)
  pub says : g.tells → OnOk result (SaysTree root (header_of (page_of (g.contents old) root)))
  pub inside : IfOk result (λ page. page.0 < (g.shape old).pages)
  pub names : IfErr result (NamesAny (g.shape old).pages)
