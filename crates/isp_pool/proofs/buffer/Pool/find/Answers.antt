use Rattle.std.proofs.Common.{ap, subst, ◌∙◌}
use Rattle.isp_pool.specs.Chains.{IsFound, page_of_frame}
use Rattle.isp_pool.specs.Frames.{frame_at, page_of}
use Rattle.isp_pool.proofs.PoolLaws.{page_at_map}
use Rattle.isp_pool.proofs.buffer.Pool.find.Goals as goal

pub returns-clause-none : goal.returns-clause-none
returns-clause-none c = λ e frame h.
    subst (IsFound c.self.inside.chains c.args.p) e c.find.ensures frame
    (ap (λ ps. page_of_frame ps frame) c.self.invariant.by_page ∙ page_at_map c.self.inside.frames.items frame ∙ ap (λ v. page_of (frame_at v frame)) c.self.view_is ∙ h)
