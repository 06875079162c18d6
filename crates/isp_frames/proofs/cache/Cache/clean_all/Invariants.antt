use Rattle.std.proofs.Common.{◌≡◌, ◌≤◌, Ok, count_by}
use Rattle.isp_disk.specs.declared.world.Failed.{Failed}
use Rattle.isp_frames.specs.Cached.{KeepsCache}
use Rattle.isp_frames.specs.Held.{IsCleaned}
use Rattle.isp_pool.specs.Frames.{is_dirty}
use Rattle.isp_frames.proofs.cache.Cache.clean_all.Given as goal

abbrev pub invariant-cleaning : goal.invariant-cleaning
invariant-cleaning g l = record {
  kept : KeepsCache g.W.World {T = Unit {0}} {E = Failed} l.fn.self l.self (Ok tt);
  cleaned : IsCleaned l.fn.self.pool l.self.pool;
  fewer : count_by is_dirty l.self.pool.frames ≤ count_by is_dirty l.fn.self.pool.frames;
  untouched : count_by is_dirty l.fn.self.pool.frames ≡ 0 → l.self.stable ≡ l.fn.self.stable;
}

abbrev pub decreases-cleaning : goal.decreases-cleaning
decreases-cleaning g l = count_by is_dirty l.self.pool.frames
