use Rattle.std.proofs.Common.{◌≡◌, ◌<◌, ◌^◌, ℕ, length, get_or}
use Rattle.isp_mbr.specs.Boxes.{IsBox, area}
use Rattle.isp_split.specs.Seeds.{box_at}
use Rattle.isp_split.proofs.areas.areas_of.Given as goal

abbrev pub invariant-loop-b : goal.invariant-loop-b
invariant-loop-b l = record {
  size : length l.areas.items ≡ l.b-index;
  each : (k : ℕ) → k < l.b-index → get_or l.areas.items k 0 ≡ area (box_at l.boxes k);
  small : (k : ℕ) → k < l.b-index → get_or l.areas.items k 0 < 2 ^ 64;
  ordered : (k : ℕ) → k < l.b-index → IsBox (box_at l.boxes k);
}
