use Rattle.std.proofs.Common.{sym, ap, subst, ◌∙◌, ◌<◌, length, true, false, Some, set}
use Rattle.isp_pool.specs.Frames.{frame_at, is_dirty, page_of, IsFirstFree}
use Rattle.isp_pool.specs.Kept.{Keeps}
use Rattle.isp_pool.proofs.PoolLaws.{put_in}
use Rattle.isp_pool.proofs.buffer.Pool.load.Goals as goal

pub invariant_of-self : goal.invariant_of-self
invariant_of-self c =
    let p = c.self.inside in
    let read = c.deref.ensures.value ∙ ap (λ f. set p.frames.items c.args.frame (Some f)) c.newly_read.ensures.frame in
    let all = put_in p.frames.items p.chains c.link.new.self p.recency c.bring_forward.new.recency p.unpinned.items p.cleanable.items p.dirty p.fresh c.self.invariant
    c.args.frame c.args.p c.args.page.now c.first_free-self-inside.result
    (subst (λ v. c.args.frame < length v.frames) (sym c.self.view_is) c.requires.below)
    c.newly_read.ensures.whole
    (ap (λ v. is_dirty (frame_at v c.args.frame)) c.self.view_is ∙ c.requires.clean)
    (λ j e. c.requires.absent j (ap (λ v. page_of (frame_at v j)) (sym c.self.view_is) ∙ e))
    c.bring_forward.ensures
    (c.link.ensures ∙ ap (λ ps. set ps c.args.frame (Some c.args.p)) c.unlink.ensures)
    (subst (λ fs. IsFirstFree fs c.first_free-self-inside.result) read c.first_free-self-inside.ensures) in
    subst (λ f. Keeps (set p.frames.items c.args.frame (Some f)) c.link.new.self c.bring_forward.new.recency (set p.unpinned.items c.args.frame true)
    (set p.cleanable.items c.args.frame false) p.dirty c.first_free-self-inside.result) (sym c.newly_read.ensures.frame) all
