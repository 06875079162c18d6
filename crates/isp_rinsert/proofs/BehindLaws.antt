-- An insert behind calls that only read.
use Rattle.std.proofs.Common.{◌≡◌, ℕ, ℤ, ◌≤◌, List, ◌∷◌, ◌++◌, reverse, sym, subst}
use Rattle.isp_format.specs.Ranges.{Contents}
use Rattle.isp_mbr.specs.Corners.{Corners}
use Rattle.isp_growth.specs.Growing.{IsSpaceBeside}
use Rattle.isp_page.specs.State.{FileShape, is_among}
use Rattle.isp_page.specs.Touched.{KeepsPages}
use Rattle.isp_page.specs.declared.pages.Pages.{Ghosts}
use Rattle.isp_space.specs.Spaces.{Space, free_pages}
use Rattle.isp_growing.specs.Taking.{takes}
use Rattle.isp_forest.specs.Steps.{add}
use Rattle.isp_forest.specs.Tree.{Tree, numbers}
use Rattle.isp_rplan.specs.Plans.{DividesAll}
use Rattle.isp_rtree.specs.Trees.{IsTreeAt}
use Rattle.isp_rinsert.specs.Calls.{most_taken}
use Rattle.isp_rinsert.specs.Inserting.{CanInsert, IsInserted, drawn}
use Rattle.isp_rinsert.specs.declared.inserting.Changes.{Changes}

pub can_behind : {S : Type 0} (g : Ghosts S) (old mid : S) (owner root : ℕ) (tree : Tree) (s : Space) (path : List ℕ) → g.shape mid ≡ g.shape old → g.contents mid ≡ g.contents old → CanInsert g old owner root tree s path → CanInsert g mid owner root tree s path
can_behind g old mid owner root tree s path shape contents can = record {
  is_tree = subst (λ (x : FileShape). IsTreeAt (g.contents mid) x owner root tree) (sym shape) (subst (λ (c : Contents). IsTreeAt c (g.shape old) owner root tree) (sym contents) can.is_tree);
  stands = can.stands;
  beside = subst (λ (x : FileShape). IsSpaceBeside x.pages (g.contents mid) (numbers tree.pages) s) (sym shape) (subst (λ (c : Contents). IsSpaceBeside (g.shape old).pages c (numbers tree.pages) s) (sym contents) can.beside);
  free = subst (λ (x : FileShape). most_taken ≤ free_pages x.pages s) (sym shape) can.free;
  numbers = can.numbers;
  entries = can.entries;
}

pub inserted_behind : {S : Type 0} (g : Ghosts S) (old mid new : S) (owner root : ℕ) (tree : Tree) (s : Space) (path : List ℕ) (b : Corners) (key : ℤ) (changes : Changes) → g.shape mid ≡ g.shape old → g.contents mid ≡ g.contents old → IsInserted g mid new owner root tree s path b key changes → IsInserted g old new owner root tree s path b key changes
inserted_behind g old mid new owner root tree s path b key changes shape contents is = record {
  q = is.q;
  ds = is.ds;
  can = is.can;
  divides = subst (λ (x : FileShape). DividesAll x.fanout (add tree path b key s.entries) is.q (reverse path) is.ds) shape is.divides;
  is_tree = is.is_tree;
  counted = is.counted;
  count = is.count;
  taken = is.taken;
  all = is.all;
  beside = is.beside;
  others = subst (λ (c : Contents). KeepsPages (λ p. is_among p (0 ∷ (path ++ takes is.count (drawn s)))) c (g.contents new)) contents is.others;
  number = is.number;
  growths = is.growths;
  raised = is.raised;
  parted = is.parted;
}
