use Rattle.std.proofs.Common.{refl, arith}
use Rattle.isp_frames.proofs.CacheLaws.{stays_still}
use Rattle.isp_frames.proofs.PinLaws.{all_pinned}
use Rattle.isp_frames.proofs.StayLaws.{kept_still}
use Rattle.isp_frames.proofs.cache.Cache.make_room.Goals as goal

pub unreachable-requires : goal.unreachable-requires
unreachable-requires g c = omega (arith, all_pinned c.args.self.now.pool.frames (c.victim.ensures.none c.in_default.is), c.requires.unpinned)

pub returns-else-is_dirty-clause-kept : goal.returns-else-is_dirty-clause-kept
returns-else-is_dirty-clause-kept g c =
    let s = c.args.self.now in
    kept_still g.W.World s s _ refl refl c.requires.steady (λ left printed since. g.met.W.World.only_now s.stable.world left printed since) c.requires.steady.below (stays_still g.W.World s)
