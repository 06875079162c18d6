-- What an insert makes of a tree, of the space beside it, and of the contents.
use Rattle.std.specs.Prelude.{◌≡◌, ℕ, ℤ, ◌+◌, ◌<◌, ◌≤◌, List, ◌∷◌, ◌++◌, length, reverse}
use Rattle.isp_base.specs.Lists.{times}
use Rattle.isp_mbr.specs.Corners.{Corners}
use Rattle.isp_page.specs.State.{is_among}
use Rattle.isp_page.specs.Touched.{KeepsPages}
use Rattle.isp_page.specs.declared.pages.Pages.{Ghosts}
use Rattle.isp_space.specs.Spaces.{Space, free_pages, most_counted}
use Rattle.isp_growth.specs.Growing.{IsSpaceBeside}
use Rattle.isp_growing.specs.Taking.{taken_times, takes}
use Rattle.isp_forest.specs.Place.{CanRelieve, Division, Stands, place}
use Rattle.isp_forest.specs.Steps.{add}
use Rattle.isp_forest.specs.Tree.{Tree, counter, numbers}
use Rattle.isp_rplan.specs.Plans.{DividesAll}
use Rattle.isp_rsettle.specs.Placed.{AreParted, IsRaised, pages_taken}
use Rattle.isp_rtree.specs.Calls.{HasTree}
use Rattle.isp_rtree.specs.Growing.{AreGrowths}
use Rattle.isp_rinsert.specs.Calls.{most_taken}
use Rattle.isp_rinsert.specs.declared.inserting.Changes.{Changes}
use Rattle.isp_format.specs.Rules.{space_number}

-- the store has the tree and the space of its file beside it, a path stands in the tree, enough pages are free, and the counters
-- can still rise
pub record CanInsert {S : Type 0} (g : Ghosts S) (now : S) (owner root : ℕ) (tree : Tree) (s : Space) (path : List ℕ) : Type 0 where
  pub is_tree : HasTree g now owner root tree
  pub stands : Stands tree path
  pub beside : IsSpaceBeside (g.shape now).pages (g.contents now) (numbers tree.pages) s
  pub free : most_taken ≤ free_pages (g.shape now).pages s
  pub numbers : counter tree < most_counted
  pub entries : s.entries < most_counted

-- the space once the number of an entry was drawn
abbrev pub drawn : Space → Space
drawn s = record s { entries = s.entries + 1 }

-- The tree now is the one in which the entry was placed: with the number that was drawn, with free pages, and with exactly the pages
-- divided that had more entries than the fan-out, by the quadratic split with the least fill. Other pages than page 0, those of the
-- path and those that were taken are as before.
pub record IsInserted {S : Type 0} (g : Ghosts S) (old new : S) (owner root : ℕ) (tree : Tree) (s : Space) (path : List ℕ) (b : Corners) (key : ℤ) (changes : Changes) : Type 0 where
  pub q : ℕ
  pub ds : List Division
  pub can : CanRelieve (add tree path b key s.entries) q (reverse path) ds
  pub divides : DividesAll (g.shape old).fanout (add tree path b key s.entries) q (reverse path) ds
  pub is_tree : HasTree g new owner root (place tree path b key s.entries q ds)
  pub counted : counter (place tree path b key s.entries q ds) ≡ counter tree + length ds
  -- the pages that were taken are the tree's now, and the rest of the space lies beside it
  pub count : ℕ
  pub taken : pages_taken q (reverse path) ds ≡ takes count (drawn s)
  pub all : (x : ℕ) → times x (numbers (place tree path b key s.entries q ds).pages) ≡ times x (numbers tree.pages) + times x (takes count (drawn s))
  pub beside : IsSpaceBeside (g.shape new).pages (g.contents new) (numbers (place tree path b key s.entries q ds).pages) (taken_times count (drawn s))
  pub others : KeepsPages (λ p. is_among p (space_number ∷ (path ++ takes count (drawn s)))) (g.contents old) (g.contents new)
  -- what is told of it
  pub number : changes.number ≡ s.entries
  pub growths : AreGrowths tree b path changes.growths.items
  pub raised : IsRaised (add tree path b key s.entries) q (reverse path) ds changes.raised
  pub parted : AreParted q (reverse path) ds changes.divisions.items
