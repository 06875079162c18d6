use Rattle.std.proofs.Common.{◌≡◌, ◌≤◌, ◌+◌, List, length, ℕ, Ok}
use Rattle.isp_disk.specs.Phases.{OnlyReads}
use Rattle.isp_disk.specs.declared.world.Failed.{Failed}
use Rattle.isp_format.specs.Log.{log_of}
use Rattle.isp_format.specs.Ranges.{Range}
use Rattle.isp_redo.specs.Reading.{AreRangesAt}
use Rattle.isp_redo.proofs.scan.transaction_end.Given as goal

abbrev pub invariant-loop-range : goal.invariant-loop-range
invariant-loop-range g l = record {
  reads : OnlyReads {T = ℕ} {E = Failed} g.W.World l.fn.world l.world (Ok 0);
  onward : l.fn.at + 2 ≤ l.place;
  inside : l.place ≤ l.fn.end;
  so_far : g.W.World.tells → (so_far : List Range) × (length so_far ≡ l._range) × AreRangesAt l.fn.pages (log_of (g.W.World.image l.fn.world)) (l.fn.at + 2) so_far l.place;
}
