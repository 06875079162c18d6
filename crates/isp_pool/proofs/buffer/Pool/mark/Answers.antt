use Rattle.std.proofs.Common.{arith, sym, ap, subst, ◌∙◌, ◌+◌, not, set}
use Rattle.isp_pool.specs.Frames.{frame_at, is_held, is_dirty, one_if}
use Rattle.isp_pool.specs.Kept.{Keeps}
use Rattle.isp_pool.proofs.PoolLaws.{marked, few_dirty}
use Rattle.isp_pool.proofs.buffer.Pool.mark.Goals as goal

pub recount-self-inside-requires-clause-few : goal.recount-self-inside-requires-clause-few
recount-self-inside-requires-clause-few c =
    let p = c.self.inside in
    omega (arith, few_dirty p.frames.items p.chains p.recency p.unpinned.items p.cleanable.items p.dirty p.fresh c.self.invariant, c.self.invariant.most)

pub invariant_of-self : goal.invariant_of-self
invariant_of-self c =
    let p = c.self.inside in
    let was = ap (λ v. is_dirty (frame_at v c.args.frame)) c.self.view_is ∙ sym c.is_dirty-was.ensures in
    subst (λ b. Keeps c.set_flags.new.frames.items p.chains p.recency (set p.unpinned.items c.args.frame (not c.args.pinned)) (set p.cleanable.items c.args.frame b) c.recount-self-inside.result p.fresh)
    (sym c.may_be_cleaned.ensures)
    (marked p.frames.items c.set_flags.new.frames.items p.chains p.recency p.unpinned.items p.cleanable.items p.dirty p.fresh c.self.invariant
    c.args.frame c.args.dirty c.args.pinned c.recount-self-inside.result (ap (λ v. is_held (frame_at v c.args.frame)) c.self.view_is ∙ c.requires) c.set_flags.ensures
    (ap (λ b. c.recount-self-inside.result + one_if b) was ∙ c.recount-self-inside.ensures))
