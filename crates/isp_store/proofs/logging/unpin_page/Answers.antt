use Rattle.isp_store.proofs.Keeping.{pinned_holds}
use Rattle.isp_store.proofs.logging.unpin_page.Goals as goal

pub unpin-requires : goal.unpin-requires
unpin-requires g c = pinned_holds c.args.cache.now.pool c.args.extent.now c.requires

pub returns-clause-pool : goal.returns-clause-pool
returns-clause-pool g c =
    let held = pinned_holds c.args.cache.now.pool c.args.extent.now c.requires in
    (held.0, held.1, c.unpin.ensures.pool held.0 held.1)
