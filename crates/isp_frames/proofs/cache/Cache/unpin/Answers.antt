use Rattle.std.proofs.Common.{false, ◌∙◌, ℕ, sym, ap}
use Rattle.isp_pool.specs.Frames.{with_frame}
use Rattle.isp_frames.proofs.cache.Cache.unpin.Goals as goal

pub returns-clause-pool : goal.returns-clause-pool
returns-clause-pool g c = λ i here.
    c.unpin.ensures ∙ ap (λ (n : ℕ). with_frame c.args.self.now.pool n (λ f. record f { pinned = false })) (sym (c.frame_of-frame.ensures.only i here))
