-- What upper crates rest on of a page's division and of the choice of a subtree: the parts are those of a division that a
-- split of the forest may take, with the least fill, and there is one division and one choice.
use Rattle.std.specs.Prelude.{◌≡◌, ℕ, ◌*◌, ◌<◌, ◌≤◌, List, filter_map, length, map, slice_get}
use Rattle.isp_mbr.specs.Corners.{Corners}
use Rattle.isp_split.specs.Division.{IsQuadraticSplit}
use Rattle.isp_forest.specs.declared.entry.Entry.{Entry}
use Rattle.isp_forest.specs.Choice.{IsChoice}
use Rattle.isp_forest.specs.Place.{IsDivision}

abbrev pub boxes_of : List Entry → List Corners
boxes_of entries = map (λ e. e.b) entries

-- what stands at these places
abbrev pub picked : {X : Type 0} → List X → List ℕ → List X
picked xs places = filter_map (slice_get xs) places

-- the two parts of the entries of a page of that level
pub record AreParts (level least : ℕ) (entries left right : List Entry) : Type 0 where
  pub division : IsDivision level entries left right
  pub left_fill : least ≤ length left
  pub right_fill : least ≤ length right

-- the quadratic split of the boxes, with a least fill of one entry at least, or of two on an inner page, gives two parts
abbrev pub SplitGivesParts : Type 0
SplitGivesParts =
    (level least : ℕ) (entries : List Entry) (first second : List ℕ) → 1 ≤ least → (0 < level → 2 ≤ least) → 2 * least ≤ length entries
    → IsQuadraticSplit (boxes_of entries) least first second → AreParts level least entries (picked entries first) (picked entries second)

abbrev pub OneDivision : Type 0
OneDivision =
    (boxes : List Corners) (least : ℕ) (first second other_first other_second : List ℕ)
    → IsQuadraticSplit boxes least first second → IsQuadraticSplit boxes least other_first other_second
    → (first ≡ other_first) × (second ≡ other_second)

abbrev pub OneChoice : Type 0
OneChoice = (entries : List Entry) (b : Corners) (p q : ℕ) → IsChoice entries b p → IsChoice entries b q → p ≡ q
