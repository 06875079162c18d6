-- An entry that is taken out.
use Rattle.std.specs.Prelude.{◌≡◌, ℕ, true, not, Some, List, filter}
use Rattle.isp_base.specs.Lists.{Has}
use Rattle.isp_forest.specs.declared.entry.Entry.{Entry}
use Rattle.isp_forest.specs.Steps.{is_row}
use Rattle.isp_forest.specs.Tree.{Node, Tree, page_at}

-- page q is the tree's, is a leaf, and no other has an entry with that number
pub record IsAlone (tree : Tree) (q number : ℕ) : Type 0 where
  pub leaf : Node
  pub there : page_at tree q ≡ Some leaf
  pub level : leaf.level ≡ 0
  pub others : (p : ℕ) (page : Node) (e : Entry) → page_at tree p ≡ Some page → Has page.entries e → is_row number e.to ≡ true → p ≡ q

-- the entries with other numbers
abbrev pub others_of : ℕ → List Entry → List Entry
others_of number entries = filter (λ e. not (is_row number e.to)) entries
