use Rattle.std.proofs.Common.{ap, ◌∙◌, ◌≡◌, true}
use Rattle.isp_pool.specs.Frames.{with_frame, overwritten}
use Rattle.isp_pool.proofs.PoolLaws.{changed_by}
use Rattle.isp_pool.proofs.StateLaws.{held_below}
use Rattle.isp_pool.proofs.buffer.Pool.change.Goals as goal

pub returns : goal.returns
returns c =
    let s = c.args.self.now in
    let i = c.args.frame in
    let b = c.is_pinned-pinned.result in
    let wrote : c.write.new.self ≡ with_frame s i (λ f. record f { content = record { bytes = overwritten f.content.bytes c.args.at c.args.bytes.now } }) = c.write.ensures in
    let marked : c.mark.new.self ≡ with_frame c.write.new.self i (λ f. record f { dirty = true; pinned = b }) = c.mark.ensures in
    marked ∙ ap (λ v. with_frame v i (λ f. record f { dirty = true; pinned = b })) wrote
    ∙ changed_by s i c.args.at c.args.bytes.now b (held_below s.frames i c.requires.held) c.is_pinned-pinned.ensures
