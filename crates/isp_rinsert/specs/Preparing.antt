-- What an insert has before it changes a page: the plan, and all memory.
use Rattle.std.specs.Prelude.{◌≡◌, ℕ, ◌<◌, ◌≤◌, List, [], length, map, reverse, vec_capacity}
use Rattle.isp_base.specs.Lists.{Has}
use Rattle.isp_format.specs.Control.{IsFanout}
use Rattle.isp_mbr.specs.Boxes.{IsBox}
use Rattle.isp_mbr.specs.Corners.{Corners}
use Rattle.isp_space.specs.Spaces.{most_counted}
use Rattle.isp_forest.specs.Tree.{Tree, counter}
use Rattle.isp_rplan.specs.Plans.{IsPlan}
use Rattle.isp_rplan.specs.declared.steps.Carry.TheVariants.{Added}
use Rattle.isp_rplan.specs.declared.steps.PathPage.{PathPage}
use Rattle.isp_rplan.specs.declared.steps.Planned.{Planned}
use Rattle.isp_rsettle.specs.Placed.{ArePathPages, path_number}
use Rattle.isp_rsettle.specs.Settling.{AreLow, HasRoomFor, HaveSome}
use Rattle.isp_rtree.specs.Growing.{AreGrowths}
use Rattle.isp_rtree.specs.Trees.{most_level}
use Rattle.isp_rinsert.specs.Calls.{most_path, most_taken}
use Rattle.isp_rinsert.specs.declared.preparing.Prepared.{Prepared}
use Rattle.isp_rinsert.specs.declared.way.Way.{Way}

-- these are the pages of the path, in a file of so many, and it leads down from no higher level than a root has
pub record IsWay (pages : ℕ) (path : List ℕ) (way : Way) : Type 0 where
  pub numbers : map path_number way.pages.items ≡ path
  pub few : length way.pages.items ≤ most_path
  pub low : (p : PathPage) → Has way.pages.items p → p.head.level ≤ most_level
  pub inside : (p : PathPage) → Has way.pages.items p → p.page.0 < pages

-- they are those of the tree
pub record IsWayOf (owner : ℕ) (tree : Tree) (path : List ℕ) (way : Way) : Type 0 where
  pub owner_is : way.owner ≡ owner
  pub counter_is : way.counter ≡ counter tree
  pub are : ArePathPages tree path way.pages.items

abbrev pub step_number : Planned → ℕ
step_number s = s.page.0

-- a plan for the path that can be settled, and room for what comes of it
pub record IsReady (pages : ℕ) (path : List ℕ) (w : Prepared) : Type 0 where
  pub path_is : map step_number w.steps.items ≡ path
  pub few : length w.steps.items ≤ most_path
  pub inside : (s : Planned) → Has w.steps.items s → s.page.0 < pages
  pub low : AreLow w.steps.items
  pub some : HaveSome w.steps.items
  pub counter : w.counter < most_counted
  pub room : HasRoomFor (length w.steps.items) w.room
  pub none : w.news.items ≡ []
  pub news : most_taken ≤ vec_capacity w.news

-- it is the plan for a tree
pub record IsPrepared (fanout owner : ℕ) (tree : Tree) (path : List ℕ) (b : Corners) (w : Prepared) : Type 0 where
  pub owner_is : w.owner ≡ owner
  pub counter_is : w.counter ≡ counter tree
  pub fan : IsFanout fanout
  pub box : IsBox b
  pub pages : List PathPage
  pub are : ArePathPages tree path pages
  pub plan : IsPlan fanout b (reverse pages) (Added b) (reverse w.steps.items)
  pub growths : AreGrowths tree b path w.growths.items
