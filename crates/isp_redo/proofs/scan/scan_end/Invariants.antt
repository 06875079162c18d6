use Rattle.std.proofs.Common.{◌<◌, ◌-◌, List, ℕ, Ok}
use Rattle.isp_disk.specs.Phases.{OnlyReads}
use Rattle.isp_disk.specs.declared.world.Failed.{Failed}
use Rattle.isp_format.specs.Log.{Transaction, log_bytes, log_of}
use Rattle.isp_format.proofs.LogWalks.{IsWalk}
use Rattle.isp_redo.proofs.scan.scan_end.Given as goal

abbrev pub invariant-batches : goal.invariant-batches
invariant-batches g l = record {
  reads : OnlyReads {T = ℕ} {E = Failed} g.W.World l.fn.world l.world (Ok 0);
  inside : l.end < log_bytes;
  so_far : g.W.World.tells → (so_far : List (List Transaction)) × IsWalk l.fn.pages (log_of (g.W.World.image l.fn.world)) 0 so_far l.end;
}

abbrev pub decreases-batches : goal.decreases-batches
decreases-batches g l = log_bytes - l.end
