-- The two boxes that waste most area when they are put together: what each of the two groups of a division begins with
-- (Guttman 1984, the quadratic method). The waste of a pair is the area of the union less both areas. It can be below zero,
-- where the boxes overlap, so two pairs are compared by sums, with what one pair would lose added on the other's side.
use Rattle.std.specs.Prelude.{◌≡◌, ◌⊎◌, ℕ, ◌+◌, ◌<◌, ◌≤◌, List, slice_index_or, length, pos}
use Rattle.isp_mbr.specs.Corners.{Corners}
use Rattle.isp_mbr.specs.Boxes.{area, union}

abbrev pub no_box : Corners
no_box = record { x1 = pos 0; y1 = pos 0; x2 = pos 0; y2 = pos 0 }

-- the box at a place of the list
abbrev pub box_at : List Corners → ℕ → Corners
box_at boxes place = slice_index_or boxes place no_box

-- the area of the union of two of the boxes, and the sum of their own
unfoldable pub together : List Corners → ℕ → ℕ → ℕ
together boxes i j = area (union (box_at boxes i) (box_at boxes j))

unfoldable pub apart : List Corners → ℕ → ℕ → ℕ
apart boxes i j = area (box_at boxes i) + area (box_at boxes j)

-- the pair i, j wastes more than the pair k, l; and at least as much
abbrev pub WastesMore : List Corners → ℕ → ℕ → ℕ → ℕ → Type 0
WastesMore boxes i j k l = together boxes k l + apart boxes i j < together boxes i j + apart boxes k l

abbrev pub WastesAsMuch : List Corners → ℕ → ℕ → ℕ → ℕ → Type 0
WastesAsMuch boxes i j k l = together boxes k l + apart boxes i j ≤ together boxes i j + apart boxes k l

-- the pair k, l stands before the pair i, j
abbrev pub IsBefore : ℕ → ℕ → ℕ → ℕ → Type 0
IsBefore k l i j = (k < i) ⊎ ((k ≡ i) × (l < j))

-- no pair wastes more than i, j, and none that stands before it as much
pub record AreSeeds (boxes : List Corners) (i j : ℕ) : Type 0 where
  pub order : i < j
  pub inside : j < length boxes
  pub most : (k l : ℕ) → k < l → l < length boxes → WastesAsMuch boxes i j k l
  pub first : (k l : ℕ) → k < l → l < length boxes → IsBefore k l i j → WastesMore boxes i j k l

-- the same of the pairs that stand before a, b, where the first pair counts as seen
pub record AreBestBefore (boxes : List Corners) (a b i j : ℕ) : Type 0 where
  pub order : i < j
  pub inside : j < length boxes
  pub seen : IsBefore i j a b ⊎ ((i ≡ 0) × (j ≡ 1))
  pub most : (k l : ℕ) → k < l → l < length boxes → IsBefore k l a b → WastesAsMuch boxes i j k l
  pub first : (k l : ℕ) → k < l → l < length boxes → IsBefore k l a b → IsBefore k l i j → WastesMore boxes i j k l
