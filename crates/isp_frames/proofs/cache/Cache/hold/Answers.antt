use Rattle.std.proofs.Common.{◌∙◌, Ok, inr, refl, sym, subst, ap}
use Rattle.isp_frames.specs.Held.{AreBelow}
use Rattle.isp_pool.specs.Frames.{PoolState, loaded}
use Rattle.isp_frames.proofs.CacheLaws.{loaded_cleaned, stays_used}
use Rattle.isp_frames.proofs.StayLaws.{kept_failed, kept_ok, kept_still, kept_twice}
use Rattle.isp_frames.proofs.cache.Cache.hold.Goals as goal

pub returns-in-Some-clause-kept : goal.returns-in-Some-clause-kept
returns-in-Some-clause-kept g c =
    let w = g.W.World in
    let s = c.args.self.now in
    let new = record s { pool = c.used.new.self } in
    kept_still w s new c.in-Some.frame refl refl c.requires.steady (λ left printed since. g.met.W.World.only_now s.stable.world left printed since)
    (subst (λ (pool : PoolState). AreBelow s.stable.pages pool.frames) (sym c.used.ensures) c.requires.steady.below)
    (λ cached. stays_used w s new cached c.in-Some.frame refl c.used.ensures)

pub returns-clause-kept : goal.returns-clause-kept
returns-clause-kept g c =
    let w = g.W.World in
    let mid = c.make_room.new.self in
    let new = c.read_into.new.self in
    let room = c.in_ok-frame.ensures.kept in
    kept_ok w c.args.self.now new tt c.in_ok-frame.frame (kept_twice w c.args.self.now mid new c.in_ok-frame.frame (Ok tt) room c.in_ok-read_into.ensures.kept)

pub returns-in_err-read_into-clause-kept : goal.returns-in_err-read_into-clause-kept
returns-in_err-read_into-clause-kept g c =
    let w = g.W.World in
    let mid = c.make_room.new.self in
    let new = c.read_into.new.self in
    let room = c.in_ok-frame.ensures.kept in
    kept_failed w c.args.self.now new _ _ c.from_residual-in_err-read_into.ensures.0 (kept_twice w c.args.self.now mid new c.in_ok-frame.frame _ room c.in_err-read_into.ensures.kept)

pub returns-clause-held : goal.returns-clause-held
returns-clause-held g c =
    let s = c.args.self.now.pool in
    let frame = c.in_ok-frame.frame in
    let room = c.in_ok-frame.ensures in
    let page = c.read_into.new.self.page in
    inr (
      page,
      c.find.ensures.none c.in_default.is,
      room.frame.next,
      room.frame.unpinned,
      room.frame.within,
      c.in_ok-read_into.ensures.pool ∙ ap (λ (t : PoolState). loaded t frame c.args.p page) room.pool ∙ loaded_cleaned s frame c.args.p page,
    )
