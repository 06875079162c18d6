-- When the pages of a tree fit together. It holds of a tree whose page has just been split as of one at rest, and has no
-- bound on the entries of a page, so that it holds between the small steps of an insert too.
use Rattle.std.specs.Prelude.{◌≡◌, ℕ, suc, ◌<◌, ◌≤◌, ◌==◌, true, cond, Some, None, is_none, ◌∷◌, length}
use Rattle.isp_mbr.specs.Boxes.{IsBox, covers}
use Rattle.isp_forest.specs.declared.entry.Entry.{Entry}
use Rattle.isp_base.specs.Lists.{Has, times}
use Rattle.isp_forest.specs.Tree.{Node, Tree, page_at, counter, child_of, numbers, named}

-- how a page that an entry names stands to the entry's own page: one level below, and in the entry's box
pub record IsBelow (e : Entry) (above below : Node) : Type 0 where
  pub level : above.level ≡ suc below.level
  pub inside : (f : Entry) → Has below.entries f → covers e.b f.b ≡ true

-- what holds of each page by itself: leaves name rows and the others pages, each box is one, and no page but a leaf or
-- the root has fewer than two entries, nor a root that is no leaf none
pub record IsPage (tree : Tree) (q : ℕ) (page : Node) : Type 0 where
  pub kinds : (e : Entry) → Has page.entries e → is_none (child_of e) ≡ (page.level == 0)
  pub boxes : (e : Entry) → Has page.entries e → IsBox e.b
  pub filled : 0 < page.level → cond (q == tree.root) 1 2 ≤ length page.entries
  pub numbered : page.ssn ≤ counter tree

-- a right link leads to a page of the same level
pub record IsLinked (tree : Tree) (page : Node) (r : ℕ) : Type 0 where
  pub right : Node
  pub there : page_at tree r ≡ Some right
  pub level : right.level ≡ page.level

pub record Forest (tree : Tree) : Type 0 where
  pub top : Node
  pub rooted : page_at tree tree.root ≡ Some top
  -- the root has no right link
  pub alone : top.next ≡ None
  -- each page has one number, and each but the root is named by exactly one entry, the root by none
  pub once : (q : ℕ) → times q (numbers tree.pages) ≤ 1
  pub by_one : (q : ℕ) → times q (tree.root ∷ named tree.pages) ≡ times q (numbers tree.pages)
  pub each : (q : ℕ) (page : Node) → page_at tree q ≡ Some page → IsPage tree q page
  pub below : (p q : ℕ) (above below : Node) (e : Entry) → page_at tree p ≡ Some above → Has above.entries e
      → child_of e ≡ Some q → page_at tree q ≡ Some below → IsBelow e above below
  pub linked : (q r : ℕ) (page : Node) → page_at tree q ≡ Some page → page.next ≡ Some r → IsLinked tree page r
