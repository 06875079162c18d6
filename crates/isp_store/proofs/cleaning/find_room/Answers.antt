use Rattle.isp_store.proofs.Cleaned.{stays_still}
use Rattle.isp_store.proofs.cleaning.find_room.Goals as goal

pub returns-then-has_room-clause-kept : goal.returns-then-has_room-clause-kept
returns-then-has_room-clause-kept g c =
    let s = c.args.cache.now in
    stays_still g.W.World s _ _ (λ left printed since. g.met.W.World.only_now s.stable.world left printed since) c.requires
