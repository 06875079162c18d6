-- Pages that are taken one after another, and pages that are written.
use Rattle.std.specs.Prelude.{◌≡◌, ℕ, ◌+◌, ◌<◌, ◌≤◌, ◌==◌, true, is_none, List, ◌∷◌, ◌++◌, Result, length, map, IfErr, OnOk}
use Rattle.isp_base.specs.Lists.{Has}
use Rattle.isp_base.specs.declared.page_no.PageNo.{PageNo}
use Rattle.isp_format.specs.Empty.{first_fresh}
use Rattle.isp_format.specs.Ranges.{Contents, page_of}
use Rattle.isp_format.specs.Rules.{space_number}
use Rattle.isp_page.specs.Calls.{Continues}
use Rattle.isp_page.specs.State.{most_changed}
use Rattle.isp_page.specs.Touched.{unchanged_of}
use Rattle.isp_page.specs.declared.fault.StoreFault.{StoreFault}
use Rattle.isp_page.specs.declared.pages.Pages.{Ghosts}
use Rattle.isp_space.specs.Changes.{ChangesOf}
use Rattle.isp_space.specs.Spaces.{NamesSpace, Space}
use Rattle.isp_growth.specs.Growing.{IsSpaceBeside}
use Rattle.isp_growing.specs.Taking.{taken_times, takes}
use Rattle.isp_forest.specs.declared.entry.Entry.{Entry}
use Rattle.isp_forest.specs.Tree.{child_of}
use Rattle.isp_rnode.specs.Nodes.{IsNode, most_entries}
use Rattle.isp_rsettle.specs.Placed.{page_number}
use Rattle.isp_rsettle.specs.Settling.{node_with}
use Rattle.isp_rsettle.specs.declared.outcome.Settled.{Settled}
use Rattle.isp_rtree.specs.Calls.{NamesTree}
use Rattle.isp_rtree.specs.Making.{HasSpace}

abbrev pub numbers_of : List PageNo → List ℕ
numbers_of list = map page_number list

-- a call that takes these pages
pub record TakesPages {S T : Type 0} (g : Ghosts S) (news : List PageNo) (old new : S) (result : Result T StoreFault) : Type 0 where
  pub kept : Continues g old new result
  pub changes : OnOk result (ChangesOf g (space_number ∷ numbers_of news) old new)
  pub inside : OnOk result ((p : PageNo) → Has news p → p.0 < (g.shape old).pages)
  pub names : IfErr result NamesSpace

-- they are so many pages that were free next, one after another, and beside a tree with them lies the rest of the space
pub record AreTaken {S : Type 0} (g : Ghosts S) (count : ℕ) (s : Space) (news : List PageNo) (old new : S) : Type 0 where
  pub are : numbers_of news ≡ takes count s
  pub is_space : HasSpace g new (taken_times count s)
  pub from : (p : PageNo) → Has news p → first_fresh ≤ p.0
  pub beside : (all : List ℕ) → IsSpaceBeside (g.shape old).pages (g.contents old) all s
      → IsSpaceBeside (g.shape new).pages (g.contents new) (all ++ numbers_of news) (taken_times count s)

-- ---- pages that are written

abbrev pub settled_number : Settled → ℕ
settled_number w = w.page.0

abbrev pub written_numbers : List Settled → List ℕ
written_numbers list = map settled_number list

-- entries of a leaf lead to rows, and those of other pages to pages
abbrev pub AreOfLevel : ℕ → List Entry → Type 0
AreOfLevel level entries = (e : Entry) → Has entries e → is_none (child_of e) ≡ (level == 0)

-- a page can hold the entries, and they are those of its level
pub record Fits (w : Settled) : Type 0 where
  pub few : length w.entries.items ≤ most_entries
  pub kinds : AreOfLevel w.head.level w.entries.items

-- these pages can be changed: all of them are or there is room for the others
pub record MayWrite {S : Type 0} (g : Ghosts S) (list : List ℕ) (now : S) : Type 0 where
  pub usable : g.usable now ≡ true
  pub begun : (g.mini now).is_begun ≡ true
  pub room : length (g.mini now).changed + unchanged_of list (g.mini now).changed ≤ most_changed

-- the page stands in the contents as a node
abbrev pub IsWritten : ℕ → Contents → Settled → Type 0
IsWritten owner contents w = IsNode owner w.page.0 (node_with w.head w.entries.items) (page_of contents w.page.0)

-- so do all of these
abbrev pub AreWritten : ℕ → Contents → List Settled → Type 0
AreWritten owner contents list = (w : Settled) → Has list w → IsWritten owner contents w

-- a call that writes these pages
pub record WritesPages {S T : Type 0} (g : Ghosts S) (list : List ℕ) (old new : S) (result : Result T StoreFault) : Type 0 where
  pub kept : Continues g old new result
  pub changes : OnOk result (ChangesOf g list old new)
  pub names : IfErr result (NamesTree (g.shape old).pages)
