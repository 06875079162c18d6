use Rattle.std.proofs.Common.{false, refl}
use Rattle.isp_store.specs.declared.store.Store.TheInside.{Inside}
use Rattle.isp_store.proofs.Fields.{flush_failed_whole, flushes_whole, stands_closed}
use Rattle.isp_store.proofs.store.Store.checkpoint.Goals as goal

pub returns-in-Ok-clause-flushed : goal.returns-in-Ok-clause-flushed
returns-in-Ok-clause-flushed g c =
    let s = c.self.inside in
    let new : Inside g.row.W.Denot = record s { cache = c.checkpoint_pages.new.cache } in
    flushes_whole g.W.World s c.args.self.now c.self.view_is c.requires.usable new _ _ g.met.W.World.counts_now refl c.in-Ok.ensures.kept

pub returns-in-Err-clause-flushed : goal.returns-in-Err-clause-flushed
returns-in-Err-clause-flushed g c =
    let s = c.self.inside in
    let new : Inside g.row.W.Denot = record s { cache = c.checkpoint_pages.new.cache; is_usable = false } in
    flush_failed_whole g.W.World s c.args.self.now c.self.view_is c.requires.usable new _ _ g.met.W.World.counts_now c.in-Err.ensures.kept

pub returns-in-Ok-clause-in_place : goal.returns-in-Ok-clause-in_place
returns-in-Ok-clause-in_place g c =
    let s = c.self.inside in
    let new : Inside g.row.W.Denot = record s { cache = c.checkpoint_pages.new.cache } in
    let done = c.in-Ok.ensures in
    let checkpoint = done.checkpoint in
    record {
      quiet = checkpoint.idle.steady.quiet;
      clean = checkpoint.clean;
      empty = checkpoint.empty;
      placed_is = λ tells. (checkpoint.in_place tells).placed_is;
      emptied = λ tells. (checkpoint.in_place tells).emptied;
      stands = λ tells. stands_closed g.W.World new done.kept.running tells;
    }
