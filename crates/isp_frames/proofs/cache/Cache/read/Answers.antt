use Rattle.std.proofs.Common.{◌≡◌, sym, ◌∙◌, ap}
use Rattle.isp_format.specs.Ranges.{Contents, page_of}
use Rattle.isp_frames.specs.Cached.{now}
use Rattle.isp_frames.proofs.HeldLaws.{held_page, holding}
use Rattle.isp_frames.proofs.NowLaws.{now_page, pool_apart, some_is}
use Rattle.isp_frames.proofs.StayLaws.{kept_failed, kept_ok}
use Rattle.isp_format.specs.declared.page.Page.{Page}
use Rattle.isp_base.specs.declared.page_no.PageNo.{PageNo}
use Rattle.isp_pool.specs.Frames.{content_of}
use Rattle.isp_stable.specs.File.{placed}
use Rattle.isp_frames.proofs.cache.Cache.read.Goals as goal

pub returns-clause-kept : goal.returns-clause-kept
returns-clause-kept g c = kept_ok g.W.World c.args.self.now c.hold.new.self c.in_ok-frame.frame tt c.in_ok-frame.ensures.kept

pub returns-in_err-frame-clause-kept : goal.returns-in_err-frame-clause-kept
returns-in_err-frame-clause-kept g c = kept_failed g.W.World c.args.self.now c.hold.new.self _ _ c.from_residual.ensures.0 c.in_err-frame.ensures.kept

pub returns-clause-held : goal.returns-clause-held
returns-clause-held g c = (c.in_ok-frame.frame, c.in_ok-frame.ensures.held)

pub returns-clause-page : goal.returns-clause-page
returns-clause-page g c = λ tells.
    let w = g.W.World in
    let new = c.hold.new.self in
    let i = c.in_ok-frame.frame in
    let kept = c.in_ok-frame.ensures.kept.stays tells (c.requires.steady.cached tells) in
    let f = holding new.pool i c.args.p (held_page c.args.p i c.args.self.now.pool new.pool c.in_ok-frame.ensures.held) in
    let content : f.0.content ≡ _ = some_is f.0.content _ (sym (ap content_of f.1) ∙ c.page.ensures) in
    sym (ap (λ (page : Page). page.bytes) content)
    ∙ sym (now_page new.pool.frames (placed w new.stable) (pool_apart new.pool c.frames.ensures.kept) i f.0 f.1)
    ∙ ap (λ (p : PageNo). page_of (now w new) p.0) f.2
    ∙ ap (λ (contents : Contents). page_of contents c.args.p.0) kept.after.contents_are
