use Rattle.std.proofs.Common.{Ok}
use Rattle.isp_replay.specs.Putting.{KeepsFrames, PutsOn, way_left}
use Rattle.isp_stable.specs.File.{IsFile, placed}
use Rattle.isp_replay.proofs.replaying.put_ranges.Given as goal

abbrev pub invariant-putting : goal.invariant-putting
invariant-putting g l = record {
  put : g.W.World.tells → (file : IsFile g.W.World l.fn.cache.stable) → PutsOn g.W.World {T = Unit {0}} (λ done. l.ahead) (placed g.W.World l.fn.cache.stable) file.batches l.fn.cache l.cache (Ok tt);
  kept : KeepsFrames g.W.World {T = Unit {0}} l.fn.cache l.cache (Ok tt);
}

abbrev pub decreases-putting : goal.decreases-putting
decreases-putting g l = way_left l.ahead
