-- Which subtree a new entry goes to (Guttman 1984, ChooseLeaf): of a page's entries the one whose box is enlarged least, then
-- the one with the least area, then the first. The laws of the forest hold for any choice; this is the one that is made.
use Rattle.std.specs.Prelude.{◌≡◌, ◌⊎◌, ℕ, ◌<◌, Some, List, slice_get}
use Rattle.isp_mbr.specs.Corners.{Corners}
use Rattle.isp_mbr.specs.Boxes.{area, enlargement}
use Rattle.isp_forest.specs.declared.entry.Entry.{Entry}
use Rattle.isp_forest.specs.Tree.{child_of}

-- e is a better place for the box b than f: it is enlarged less, or as much and has a smaller area
abbrev pub IsBetter : Corners → Entry → Entry → Type 0
IsBetter b e f =
    (enlargement e.b b < enlargement f.b b)
    ⊎ ((enlargement e.b b ≡ enlargement f.b b) × (area e.b < area f.b))

-- page q is the child of the entry than which none is better, and which is better than each before it
pub record IsChoice (entries : List Entry) (b : Corners) (q : ℕ) : Type 0 where
  pub place : ℕ
  pub entry : Entry
  pub there : slice_get entries place ≡ Some entry
  pub best : (k : ℕ) (e : Entry) → slice_get entries k ≡ Some e → IsBetter b e entry → ⊥
  pub first : (k : ℕ) (e : Entry) → k < place → slice_get entries k ≡ Some e → IsBetter b entry e
  pub to : child_of entry ≡ Some q
