use Rattle.std.proofs.Common.{false, refl}
use Rattle.isp_store.specs.declared.store.Store.TheInside.{Inside}
use Rattle.isp_store.proofs.Fields.{continues_whole, fails_whole, running_here}
use Rattle.isp_store.proofs.store.Store.read_page.Goals as goal

pub returns-in-Ok-clause-kept : goal.returns-in-Ok-clause-kept
returns-in-Ok-clause-kept g c =
    let w = g.W.World in
    let s = c.self.inside in
    let new : Inside g.row.W.Denot = record s { cache = c.read_page.new.cache } in
    continues_whole w s c.args.self.now c.self.view_is c.requires.usable new s.changes _ _ g.met.W.World.counts_now refl (c.in-Ok.ensures.kept s.changes (running_here w s c.args.self.now c.self.view_is c.requires.usable c.self.invariant))

pub returns-in-Err-clause-kept : goal.returns-in-Err-clause-kept
returns-in-Err-clause-kept g c =
    let w = g.W.World in
    let s = c.self.inside in
    let new : Inside g.row.W.Denot = record s { cache = c.read_page.new.cache; is_usable = false } in
    fails_whole w s c.args.self.now c.self.view_is c.requires.usable new _ s.changes _ g.met.W.World.counts_now (c.in-Err.ensures.kept s.changes (running_here w s c.args.self.now c.self.view_is c.requires.usable c.self.invariant))
