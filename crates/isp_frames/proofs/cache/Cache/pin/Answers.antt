use Rattle.std.proofs.Common.{true, ◌∙◌, ℕ, sym, ap}
use Rattle.isp_pool.specs.Frames.{with_frame}
use Rattle.isp_frames.proofs.cache.Cache.pin.Goals as goal

pub returns-clause-pool : goal.returns-clause-pool
returns-clause-pool g c = λ i here.
    c.pin.ensures ∙ ap (λ (n : ℕ). with_frame c.args.self.now.pool n (λ f. record f { pinned = true })) (sym (c.frame_of-frame.ensures.only i here))
