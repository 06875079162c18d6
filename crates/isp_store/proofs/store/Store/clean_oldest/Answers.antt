use Rattle.std.proofs.Common.{false, [], refl}
use Rattle.isp_store.specs.declared.store.Store.TheInside.{Inside}
use Rattle.isp_store.proofs.Fields.{continues_whole, fails_whole}
use Rattle.isp_store.proofs.store.Store.clean_oldest.Goals as goal

pub returns-in-Ok-clause-kept : goal.returns-in-Ok-clause-kept
returns-in-Ok-clause-kept g c =
    let s = c.self.inside in
    let new : Inside g.row.W.Denot = record s { cache = c.clean_pages.new.cache } in
    continues_whole g.W.World s c.args.self.now c.self.view_is c.requires.usable new [] _ _ g.met.W.World.counts_now refl c.in-Ok.ensures.kept

pub returns-in-Err-clause-kept : goal.returns-in-Err-clause-kept
returns-in-Err-clause-kept g c =
    let s = c.self.inside in
    let new : Inside g.row.W.Denot = record s { cache = c.clean_pages.new.cache; is_usable = false } in
    fails_whole g.W.World s c.args.self.now c.self.view_is c.requires.usable new _ [] _ g.met.W.World.counts_now c.in-Err.ensures.kept
