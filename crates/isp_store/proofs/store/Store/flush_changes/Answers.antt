use Rattle.std.proofs.Common.{Ok, refl, subst}
use Rattle.isp_disk.specs.declared.world.Failed.{Failed}
use Rattle.isp_page.specs.Calls.{Flushes}
use Rattle.isp_store.specs.Calls.{StandsNow}
use Rattle.isp_store.specs.State.{StoreState, store}
use Rattle.isp_store.proofs.Fields.{flushes, running_closed, stands_closed}
use Rattle.isp_store.proofs.Cleaned.{stays_still}
use Rattle.isp_store.proofs.store.Store.flush_changes.Goals as goal

pub returns-clause-flushed : goal.returns-clause-flushed
returns-clause-flushed g c =
    let w = g.W.World in
    let s = c.self.inside in
    let running = running_closed w s c.args.self.now c.self.view_is c.requires.usable c.self.invariant c.requires.none in
    let nothing : Unit {0} = tt in
    subst (λ (state : StoreState g.row.W.Denot). Flushes {T = Unit {0}} (store w) c.args.self.now state (Ok nothing)) c.self.view_is
    (flushes w s c.args.self.now c.self.view_is c.requires.usable s nothing nothing g.met.W.World.counts_now refl
    (stays_still w {E = Failed} s.cache _ nothing (λ left printed since. g.met.W.World.only_now s.cache.stable.world left printed since) running))

pub returns-clause-image : goal.returns-clause-image
returns-clause-image g c =
    let w = g.W.World in
    let s = c.self.inside in
    let running = running_closed w s c.args.self.now c.self.view_is c.requires.usable c.self.invariant c.requires.none in
    λ tells. subst (StandsNow w) c.self.view_is (stands_closed w s running tells)
