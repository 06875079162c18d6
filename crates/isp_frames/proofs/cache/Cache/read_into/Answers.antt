use Rattle.std.proofs.Common.{refl, sym, subst}
use Rattle.isp_frames.specs.Held.{AreBelow}
use Rattle.isp_frames.proofs.CacheLaws.{stays_loaded}
use Rattle.isp_frames.proofs.HeldLaws.{loaded_below}
use Rattle.isp_frames.proofs.StayLaws.{kept_failed, kept_read, kept_unread}
use Rattle.isp_pool.specs.Frames.{PoolState}
use Rattle.isp_frames.proofs.cache.Cache.read_into.Goals as goal

pub returns-clause-kept : goal.returns-clause-kept
returns-clause-kept g c =
    let w = g.W.World in
    let s = c.args.self.now in
    let page = c.read_page.new.into in
    let new = record s { stable = c.read_page.new.self; pool = c.load.new.self; page = page } in
    let reads = c.in_ok-read_page.ensures.reads in
    kept_read w s new tt refl
    (subst (λ (pool : PoolState). AreBelow s.stable.pages pool.frames) (sym c.load.ensures) (loaded_below s.pool c.args.frame c.args.p page s.stable.pages c.requires.frame.within c.requires.page c.requires.steady.below))
    c.requires.steady reads
    (λ tells cached. stays_loaded w s new cached c.args.frame c.args.p page c.frames.ensures.kept reads.reads.same reads.log reads.shape
    (record { below = c.requires.frame.within; clean = c.requires.frame.clean; absent = c.requires.frame.absent; read = c.in_ok-read_page.ensures.page tells })
    c.requires.frame.unpinned c.load.ensures)

pub returns-in_err-read_page-clause-kept : goal.returns-in_err-read_page-clause-kept
returns-in_err-read_page-clause-kept g c =
    let s = c.args.self.now in
    kept_failed g.W.World s _ _ _ c.from_residual.ensures.0 (kept_unread g.W.World s (record s { stable = c.read_page.new.self; page = c.read_page.new.into }) _ refl c.in_err-read_page.ensures.reads)
