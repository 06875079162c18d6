use Rattle.std.proofs.Common.{ap, ◌∙◌, ◌≡◌, true}
use Rattle.isp_recency.specs.Recent.{has}
use Rattle.isp_pool.specs.Frames.{frame_at, is_held}
use Rattle.isp_pool.proofs.PoolLaws.{used_again}
use Rattle.isp_pool.proofs.buffer.Pool.used.Goals as goal

pub invariant_of-self : goal.invariant_of-self
invariant_of-self c =
    let p = c.self.inside in
    let there : has p.recency.members c.args.frame ≡ true = c.self.invariant.recent c.args.frame ∙ ap (λ v. is_held (frame_at v c.args.frame)) c.self.view_is ∙ c.requires in
    used_again p.frames.items p.chains p.recency c.touch.new.self p.unpinned.items p.cleanable.items p.dirty p.fresh c.self.invariant c.args.frame there c.touch.ensures
