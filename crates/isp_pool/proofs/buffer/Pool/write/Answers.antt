use Rattle.std.proofs.Common.{ap, ◌∙◌}
use Rattle.isp_pool.specs.Frames.{frame_at, is_held}
use Rattle.isp_pool.proofs.PoolLaws.{written}
use Rattle.isp_pool.proofs.buffer.Pool.write.Goals as goal

pub invariant_of-self : goal.invariant_of-self
invariant_of-self c =
    let p = c.self.inside in
    written p.frames.items c.overwrite.new.frames.items p.chains p.recency p.unpinned.items p.cleanable.items p.dirty p.fresh c.self.invariant
    c.args.frame c.args.at c.args.bytes.now (ap (λ v. is_held (frame_at v c.args.frame)) c.self.view_is ∙ c.requires.held) c.requires.range c.overwrite.ensures
