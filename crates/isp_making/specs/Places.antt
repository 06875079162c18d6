-- Which places of the file are written, and what they then read.
use Rattle.std.specs.Prelude.{◌≡◌, ℕ, ◌*◌, ◌<◌}
use Rattle.isp_disk.specs.Moments.{Image, Region, either, in_range, slice}
use Rattle.isp_format.specs.Control.{control_bytes, made_gate}
use Rattle.isp_format.specs.Doublewrite.{area, area_place, doublewrite_gate}
use Rattle.isp_format.specs.Empty.{empty_contents, first_fresh}
use Rattle.isp_format.specs.Log.{log_of, log_place}
use Rattle.isp_format.specs.Ranges.{page_bytes}

abbrev pub made_place : Region
made_place = in_range made_gate 1

-- the first pages
abbrev pub first_places : Region
first_places = in_range area_place (first_fresh * page_bytes)

-- all but the made-gate: the control block before it, the two other gates, the first pages
abbrev pub content_places : Region
content_places = either (in_range 0 made_gate) (either (in_range doublewrite_gate 1) (either (in_range log_place 1) first_places))

-- all that is written
abbrev pub file_places : Region
file_places = either made_place content_places

-- a made file but for its made-gate
pub record IsWritten (pages fanout : ℕ) (image : Image) : Type 0 where
  pub control : slice image 0 made_gate ≡ control_bytes pages fanout
  pub copies : image doublewrite_gate ≡ 0
  pub log : log_of image 0 ≡ 0
  pub first : (place : ℕ) → place < first_fresh * page_bytes → area image place ≡ empty_contents place
