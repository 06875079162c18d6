use Rattle.std.proofs.Common.{◌≡◌, Some, rules}
use Rattle.isp_frames.proofs.NowLaws.{pool_apart}
use Rattle.isp_pool.specs.Frames.{frame_at, page_of as page_in}
use Rattle.isp_frames.proofs.cache.Cache.frame_of.Goals as goal

pub returns-clause-only : goal.returns-clause-only
returns-clause-only g c = λ i here.
    let s = c.args.self.now.pool in
    let found : page_in (frame_at s c.in-Some.frame) ≡ Some c.args.p = search rules in
    (pool_apart s c.frames.ensures.kept).distinct i c.in-Some.frame c.args.p here found
