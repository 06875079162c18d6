-- Which page a call names that reads a tree's pages one by one, and what is wrong with it.
use Rattle.std.specs.Prelude.{◌≡◌, ℕ, suc, ◌⊎◌, ◌<◌, List, ⊤}
use Rattle.isp_base.specs.Lists.{Has}
use Rattle.isp_format.specs.Header.{header_of}
use Rattle.isp_format.specs.Ranges.{Contents, page_of}
use Rattle.isp_format.specs.Rules.{rtree_rule, walk_rule}
use Rattle.isp_page.specs.declared.fault.Fault.{Fault}
use Rattle.isp_page.specs.declared.fault.Fault.TheVariants.{Memory, Store}
use Rattle.isp_page.specs.declared.fault.StoreFault.{StoreFault}
use Rattle.isp_page.specs.declared.fault.StoreFault.TheVariants.{Damaged, Disk, Print}
use Rattle.isp_page.specs.declared.pages.Pages.{Ghosts}
use Rattle.isp_rnode.specs.Nodes.{node_of}
use Rattle.isp_rtree.specs.Paths.{LeadsTo}
use Rattle.isp_rtree.specs.Trees.{IsPageOf, IsRootOf}
use Rattle.isp_rfind.specs.declared.pending.Pending.{Pending}

-- a page of the file that breaks the rule of R-trees, or the one at which more pages were read than the file has
abbrev pub NamesWalk : ℕ → StoreFault → Type 0
NamesWalk pages Disk = ⊤
NamesWalk pages Print = ⊤
NamesWalk pages (Damaged page rule) = (page < pages) × ((rule ≡ rtree_rule) ⊎ (rule ≡ walk_rule))

abbrev pub NamesWalkOrLacks : ℕ → Fault → Type 0
NamesWalkOrLacks pages (Store fault) = NamesWalk pages fault
NamesWalkOrLacks pages Memory = ⊤

-- ---- what is wrong with a page

-- a page of that owner on this level leads to page q
pub record IsChild (contents : Contents) (pages owner level q : ℕ) : Type 0 where
  pub from : ℕ
  pub page : IsPageOf pages owner from (page_of contents from)
  pub level_is : (header_of (page_of contents from)).level ≡ level
  pub leads : LeadsTo (node_of (page_of contents from)) q

-- and page q is no page of that owner, or isn't on the level below
pub record IsBadChild (contents : Contents) (pages owner q : ℕ) : Type 0 where
  pub level : ℕ
  pub child : IsChild contents pages owner level q
  pub bad : IsPageOf pages owner q (page_of contents q) → level ≡ suc (header_of (page_of contents q)).level → ⊥

-- it is named with the root, and that is a root of no owner
pub record IsBadRoot (contents : Contents) (pages root q : ℕ) : Type 0 where
  pub is_root : q ≡ root
  pub bad : (owner : ℕ) → IsRootOf pages owner root (page_of contents root) → ⊥

-- or it is a child on the way down from it
abbrev pub IsBad : Contents → ℕ → ℕ → ℕ → Type 0
IsBad contents pages root q = IsBadRoot contents pages root q ⊎ ((owner : ℕ) × IsRootOf pages owner root (page_of contents root) × IsBadChild contents pages owner q)

-- a page that is named by the rule of R-trees breaks it so
abbrev pub ShowsChildOrLacks : Contents → ℕ → ℕ → Fault → Type 0
ShowsChildOrLacks contents pages owner Memory = ⊤
ShowsChildOrLacks contents pages owner (Store Disk) = ⊤
ShowsChildOrLacks contents pages owner (Store Print) = ⊤
ShowsChildOrLacks contents pages owner (Store (Damaged page rule)) = rule ≡ rtree_rule → IsBadChild contents pages owner page

abbrev pub ShowsOrLacks : Contents → ℕ → ℕ → Fault → Type 0
ShowsOrLacks contents pages root Memory = ⊤
ShowsOrLacks contents pages root (Store Disk) = ⊤
ShowsOrLacks contents pages root (Store Print) = ⊤
ShowsOrLacks contents pages root (Store (Damaged page rule)) = rule ≡ rtree_rule → IsBad contents pages root page

-- ---- on the way

-- a page of that owner leads to each that is still to be read, from the level that is named with it
abbrev pub AreChildren : Contents → ℕ → ℕ → List Pending → Type 0
AreChildren contents pages owner stack = (s : Pending) → Has stack s → IsChild contents pages owner s.above s.page.0

-- these are the bytes of such a page, and so it is with the others
pub record IsOnWay (contents : Contents) (pages owner : ℕ) (bytes : List ℕ) (stack : List Pending) : Type 0 where
  pub at : ℕ
  pub page : IsPageOf pages owner at bytes
  pub read : bytes ≡ page_of contents at
  pub others : AreChildren contents pages owner stack

-- ---- the same in a store of pages

abbrev pub Shows : {S : Type 0} → Ghosts S → S → ℕ → Fault → Type 0
Shows g now root = ShowsOrLacks (g.contents now) (g.shape now).pages root

abbrev pub ShowsChild : {S : Type 0} → Ghosts S → S → ℕ → Fault → Type 0
ShowsChild g now owner = ShowsChildOrLacks (g.contents now) (g.shape now).pages owner

abbrev pub HasChildren : {S : Type 0} → Ghosts S → S → ℕ → List Pending → Type 0
HasChildren g now owner stack = AreChildren (g.contents now) (g.shape now).pages owner stack

abbrev pub HasWay : {S : Type 0} → Ghosts S → S → ℕ → List ℕ → List Pending → Type 0
HasWay g now owner bytes stack = IsOnWay (g.contents now) (g.shape now).pages owner bytes stack
