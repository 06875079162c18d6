use Rattle.std.proofs.Common.{◌≢◌, ◌++◌, ◌∷◌, [], false, refl, rules, subst}
use Rattle.isp_disk.specs.declared.world.Failed.{Failed}
use Rattle.isp_mini.specs.Extents.{ranges_in}
use Rattle.isp_stable.specs.File.{HasBatches, IsFile}
use Rattle.isp_store.specs.State.{StoreState, contents}
use Rattle.isp_store.specs.declared.store.Store.TheInside.{Inside}
use Rattle.isp_store.proofs.Fields.{makes_failed_whole, makes_whole, running_here, whole}
use Rattle.isp_store.proofs.Cleaned.{stays_still}
use Rattle.isp_store.proofs.store.Store.finish_changes.Goals as goal

pub returns-in-Ok-clause-made : goal.returns-in-Ok-clause-made
returns-in-Ok-clause-made g c =
    let s = c.self.inside in
    let new : Inside g.row.W.Denot = record s { cache = c.log_changes.new.cache; changes = c.log_changes.new.changes; body = c.log_changes.new.body } in
    makes_whole g.W.World s c.args.self.now c.self.view_is c.requires.usable (record new { is_begun = false }) _ _ g.met.W.World.counts_now refl c.in-Ok.ensures.kept

pub returns-in-Err-clause-made : goal.returns-in-Err-clause-made
returns-in-Err-clause-made g c =
    let s = c.self.inside in
    let new : Inside g.row.W.Denot = record s { cache = c.log_changes.new.cache; changes = c.log_changes.new.changes; body = c.log_changes.new.body; is_usable = false } in
    makes_failed_whole g.W.World s c.args.self.now c.self.view_is c.requires.usable new _ _ g.met.W.World.counts_now c.in-Err.ensures.kept

pub returns-in-Ok-clause-logged : goal.returns-in-Ok-clause-logged
returns-in-Ok-clause-logged g c =
    let w = g.W.World in
    record {
      batch = subst (λ (s : StoreState g.row.W.Denot). w.tells → (file : IsFile w s.stable) → s.open_ranges ≢ [] → HasBatches w c.log_changes.new.cache.stable (file.batches ++ (ranges_in (contents w s) s.open_ranges ∷ []) ∷ [])) c.self.view_is
          (λ tells file some. c.in-Ok.ensures.logged tells file);
      nothing = search rules;
    }

pub returns-then-is_empty-clause-made : goal.returns-then-is_empty-clause-made
returns-then-is_empty-clause-made g c =
    let w = g.W.World in
    let s = c.self.inside in
    let running = running_here w s c.args.self.now c.self.view_is c.requires.usable c.self.invariant in
    let nothing : Unit {0} = tt in
    record {
      along = search rules;
      whole = whole w s c.args.self.now c.self.view_is c.requires.usable (record s { is_begun = false }) s.changes nothing nothing
          (stays_still w {E = Failed} s.cache s.changes nothing (λ left printed since. g.met.W.World.only_now s.cache.stable.world left printed since) running);
    }
