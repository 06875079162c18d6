use Rattle.std.proofs.Common.{◌≡◌, drop}
use Rattle.isp_frames.specs.Cached.{with_pool}
use Rattle.isp_store.specs.Running.{IsUnpinned}
use Rattle.isp_store.proofs.logging.unpin_all.Given as goal

abbrev pub invariant-loop-extent : goal.invariant-loop-extent
invariant-loop-extent g l = record {
  pool : IsUnpinned l.fn.cache.stable.pages l.fn.cache.pool l.cache.pool (drop l.extent-index l.fn.extents);
  others : l.cache ≡ with_pool l.fn.cache l.cache.pool;
}
