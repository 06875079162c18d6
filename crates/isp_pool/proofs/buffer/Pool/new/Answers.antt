use Rattle.isp_pool.proofs.PoolLaws.{all_free}
use Rattle.isp_pool.proofs.buffer.Pool.new.Goals as goal

pub invariant_of-result : goal.invariant_of-result
invariant_of-result c =
    all_free c.args.frames c.in_ok-frames.frames.items c.in_ok-chains.chains c.in_ok-recency.recency c.in_ok-unpinned.unpinned.items c.in_ok-cleanable.cleanable.items
    c.requires.least c.requires.most c.in_ok-frames.ensures c.in_ok-chains.ensures c.in_ok-recency.ensures c.in_ok-unpinned.ensures c.in_ok-cleanable.ensures
