-- The pages of a path as they are read, from the root down.
use Rattle.std.specs.Prelude.{◌≡◌, ℕ, ◌<◌, ◌≤◌, List, ◌++◌, length, map}
use Rattle.isp_base.specs.Lists.{Has}
use Rattle.isp_base.specs.declared.page_no.PageNo.{PageNo}
use Rattle.isp_format.specs.Header.{header_of}
use Rattle.isp_forest.specs.Tree.{Tree}
use Rattle.isp_rnode.specs.Nodes.{node_of}
use Rattle.isp_rplan.specs.declared.steps.PathPage.{PathPage}
use Rattle.isp_rsettle.specs.Placed.{IsPathPage, page_number, path_number}

-- the page is read from these bytes
pub record IsReadAs (page : PageNo) (bytes : List ℕ) (p : PathPage) : Type 0 where
  pub page_is : p.page ≡ page
  pub level : p.head.level ≡ (header_of bytes).level
  pub ssn : p.head.ssn ≡ (header_of bytes).ssn
  pub next : p.head.next.0 ≡ (header_of bytes).next
  pub entries : p.entries.items ≡ (node_of bytes).entries

-- pages with these numbers were added behind those that were read before, each on a lower level than the one before it
pub record GoesDown (pages level : ℕ) (rest : List PageNo) (before now : List PathPage) : Type 0 where
  pub added : List PathPage
  pub is : now ≡ before ++ added
  pub numbers : map path_number added ≡ map page_number rest
  pub few : length added ≤ level
  pub low : (p : PathPage) → Has added p → p.head.level < level
  pub inside : (p : PathPage) → Has added p → p.page.0 < pages

-- each of them is the tree's
pub record GoesDownIn (tree : Tree) (before now : List PathPage) : Type 0 where
  pub added : List PathPage
  pub is : now ≡ before ++ added
  pub are : (p : PathPage) → Has added p → IsPathPage tree p
