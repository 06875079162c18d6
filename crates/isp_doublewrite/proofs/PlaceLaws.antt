-- Which places of the file the calls leave alone.
use Rattle.std.proofs.Common.{◌≡◌, ℕ, ◌+◌, ◌*◌, ◌<◌, false, List, [], ◌∷◌, refl, arith}
use Rattle.isp_disk.specs.Moments.{in_range}
use Rattle.isp_doublewrite.specs.Places.{page_places}
use Rattle.isp_format.specs.Doublewrite.{area_place}
use Rattle.isp_format.specs.Ranges.{page_bytes}
use Rattle.isp_format.proofs.Places.{below, neither}

-- pages stand behind everything else
pub pages_above : (numbers : List ℕ) (place : ℕ) → place < area_place → page_places numbers place ≡ false
pages_above [] place low = refl
pages_above (number ∷ numbers) place low = neither (in_range (area_place + number * page_bytes) page_bytes place) (page_places numbers place) (below (area_place + number * page_bytes) page_bytes place (omega (arith, low))) (pages_above numbers place low)
