-- What the code has computed of boxes and of pairs of them is so.
use Rattle.std.specs.Prelude.{◌≡◌, ℕ, ◌<◌, ◌^◌, List, length, slice_index}
use Rattle.isp_mbr.specs.Corners.{Corners}
use Rattle.isp_mbr.specs.Boxes.{IsBox, area}
use Rattle.isp_split.specs.Seeds.{apart, box_at, together}
use Rattle.isp_split.specs.declared.seeds.Pair.{Pair}

-- these are the areas of the boxes, each of which has its corners in order
pub record AreAreas (boxes : List Corners) (areas : List ℕ) : Type 0 where
  pub size : length areas ≡ length boxes
  pub each : (k : ℕ) → k < length boxes → slice_index areas k ≡ area (box_at boxes k)
  pub small : (k : ℕ) → k < length boxes → slice_index areas k < 2 ^ 64
  pub ordered : (k : ℕ) → k < length boxes → IsBox (box_at boxes k)

-- the pair has the areas of its boxes
pub record IsPair (boxes : List Corners) (pair : Pair) : Type 0 where
  pub together_is : pair.together ≡ together boxes pair.first pair.second
  pub apart_is : pair.apart ≡ apart boxes pair.first pair.second
  pub small_together : pair.together < 2 ^ 64
  pub small_apart : pair.apart < 2 ^ 65
