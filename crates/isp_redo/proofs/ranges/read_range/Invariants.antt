use Rattle.std.proofs.Common.{◌≤◌, ◌<◌, ◌-◌, ℕ, List, Ok}
use Rattle.isp_disk.specs.Phases.{OnlyReads}
use Rattle.isp_disk.specs.declared.world.Failed.{Failed}
use Rattle.isp_format.specs.Log.{log_bytes, log_of}
use Rattle.isp_format.specs.Ranges.{Range}
use Rattle.isp_redo.specs.Places.{IsAt, place_of}
use Rattle.isp_redo.proofs.ranges.read_range.Given as goal

abbrev pub invariant-seeking : goal.invariant-seeking
invariant-seeking g l = record {
  reads : OnlyReads {T = ℕ} {E = Failed} g.W.World l.fn.world l.world (Ok 0);
  inside : l.place.at ≤ l.place.end;
  end : l.place.end < log_bytes;
  few : l.place.left < 65536;
  onward : (place_of l.fn.from).at ≤ l.place.at;
  ahead : g.W.World.tells → (pages : ℕ) → pages ≤ 65536 → (ranges : List Range) → IsAt pages (log_of (g.W.World.image l.fn.world)) (place_of l.fn.from) ranges → IsAt pages (log_of (g.W.World.image l.fn.world)) l.place ranges;
}

abbrev pub decreases-seeking : goal.decreases-seeking
decreases-seeking g l = log_bytes - l.place.at
