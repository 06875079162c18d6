-- What the boxes on a path grow to where an entry is added at its end.
use Rattle.std.specs.Prelude.{◌≡◌, ℕ, Some, List, [], ◌∷◌}
use Rattle.isp_base.specs.Lists.{Has}
use Rattle.isp_mbr.specs.Boxes.{union}
use Rattle.isp_mbr.specs.Corners.{Corners}
use Rattle.isp_forest.specs.declared.entry.Entry.{Entry}
use Rattle.isp_forest.specs.Place.{Names}
use Rattle.isp_forest.specs.Tree.{Node, Tree, child_of}
use Rattle.isp_rtree.specs.declared.growing.Growth.{Growth}

-- the entry of page p for page q, by its boxes before and after the box b is added below it
pub record IsGrowth (tree : Tree) (b : Corners) (p q : ℕ) (g : Growth) : Type 0 where
  pub parent_is : g.parent.0 ≡ p
  pub child_is : g.child.0 ≡ q
  pub entry : Entry
  pub names : Names tree p q entry
  pub old_is : g.old ≡ entry.b
  pub new_is : g.new ≡ union entry.b b

-- the same of a page by itself
pub record IsGrowthOf (page : Node) (b : Corners) (p q : ℕ) (g : Growth) : Type 0 where
  pub parent_is : g.parent.0 ≡ p
  pub child_is : g.child.0 ≡ q
  pub entry : Entry
  pub has : Has page.entries entry
  pub to : child_of entry ≡ Some q
  pub old_is : g.old ≡ entry.b
  pub new_is : g.new ≡ union entry.b b

-- one for each page of the path but the first
abbrev pub AreGrowths : Tree → Corners → List ℕ → List Growth → Type 0
AreGrowths tree b [] grown = grown ≡ []
AreGrowths tree b (p ∷ []) grown = grown ≡ []
AreGrowths tree b (p ∷ q ∷ rest) [] = ⊥
AreGrowths tree b (p ∷ q ∷ rest) (g ∷ grown) = IsGrowth tree b p q g × AreGrowths tree b (q ∷ rest) grown
