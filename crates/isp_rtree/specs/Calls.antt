-- What the calls of a tree ask of a store of pages, and what they leave alone; at a bound `P: Pages`, cited as
-- `HasTree P.Pages pages.old owner root.0 tree`.
use Rattle.std.specs.Prelude.{◌≡◌, ℕ, ◌<◌, Result, IfErr, OnOk, ⊤}
use Rattle.isp_forest.specs.Tree.{Tree}
use Rattle.isp_format.specs.Ranges.{page_of}
use Rattle.isp_format.specs.Rules.{rtree_rule}
use Rattle.isp_page.specs.Calls.{ContinuesOrLacks}
use Rattle.isp_page.specs.declared.fault.Fault.{Fault}
use Rattle.isp_page.specs.declared.fault.Fault.TheVariants.{Memory, Store}
use Rattle.isp_page.specs.declared.fault.StoreFault.{StoreFault}
use Rattle.isp_page.specs.declared.fault.StoreFault.TheVariants.{Damaged, Disk, Print}
use Rattle.isp_page.specs.declared.pages.Pages.{Ghosts}
use Rattle.isp_rtree.specs.Trees.{IsPageOf, IsRootOf, IsTreeAt}

-- what stands in a store of pages: a tree; a page of one; a root
abbrev pub HasTree : {S : Type 0} → Ghosts S → S → ℕ → ℕ → Tree → Type 0
HasTree g now owner root tree = IsTreeAt (g.contents now) (g.shape now) owner root tree

abbrev pub HasPage : {S : Type 0} → Ghosts S → S → ℕ → ℕ → Type 0
HasPage g now owner q = IsPageOf (g.shape now).pages owner q (page_of (g.contents now) q)

abbrev pub HasRoot : {S : Type 0} → Ghosts S → S → ℕ → ℕ → Type 0
HasRoot g now owner q = IsRootOf (g.shape now).pages owner q (page_of (g.contents now) q)

-- a damaged page that is named is that one, and breaks the rule of R-trees
abbrev pub NamesPage : ℕ → StoreFault → Type 0
NamesPage q Disk = ⊤
NamesPage q Print = ⊤
NamesPage q (Damaged page rule) = (page ≡ q) × (rule ≡ rtree_rule)

-- it is a page of the file, and breaks that rule
abbrev pub NamesTree : ℕ → StoreFault → Type 0
NamesTree pages Disk = ⊤
NamesTree pages Print = ⊤
NamesTree pages (Damaged page rule) = (page < pages) × (rule ≡ rtree_rule)

abbrev pub NamesTreeOrLacks : ℕ → Fault → Type 0
NamesTreeOrLacks pages (Store fault) = NamesTree pages fault
NamesTreeOrLacks pages Memory = ⊤

-- a call that reads pages and takes memory, and names such pages where they aren't what they should be
pub record ReadsPagesOrLacks {S T : Type 0} (g : Ghosts S) (Names : Fault → Type 0) (old new : S) (result : Result T Fault) : Type 0 where
  pub kept : ContinuesOrLacks g old new result
  pub contents : g.tells → OnOk result (g.contents new ≡ g.contents old)
  pub mini : OnOk result (g.mini new ≡ g.mini old)
  pub names : IfErr result Names
