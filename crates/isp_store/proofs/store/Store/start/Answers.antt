use Rattle.std.proofs.Common.{true, List, false, map, refl, ◌∙◌, ap}
use Rattle.isp_mini.specs.Extents.{page_number}
use Rattle.isp_mini.specs.declared.changes.Extent.{Extent}
use Rattle.isp_page.specs.State.{MiniTransaction}
use Rattle.isp_pool.proofs.StateLaws.{none_dirty}
use Rattle.isp_store.specs.Inside.{seen}
use Rattle.isp_store.specs.declared.store.Store.TheInside.{Inside}
use Rattle.isp_store.proofs.Fields.{stands_closed}
use Rattle.isp_store.proofs.Passing.{flushed_alone}
use Rattle.isp_store.proofs.Cleaned.{stands_running}
use Rattle.isp_store.proofs.store.Store.start.Goals as goal

pub returns-in-Ok-recover-clause-started : goal.returns-in-Ok-recover-clause-started
returns-in-Ok-recover-clause-started g c =
    let w = g.W.World in
    let cache = c.in-Ok-recover.cache in
    let done = c.in-Ok-recover.ensures.recovered in
    let checkpoint = done.checkpoint in
    let new : Inside g.row.W.Denot = record { cache = cache; changes = c.in-Ok.parts.changes; body = c.in-Ok.parts.body; is_begun = false; is_usable = true } in
    record {
      in_place = record {
        quiet = checkpoint.idle.steady.quiet;
        clean = checkpoint.clean;
        empty = checkpoint.empty;
        placed_is = λ tells. (checkpoint.in_place tells).placed_is;
        emptied = λ tells. (checkpoint.in_place tells).emptied;
        stands = λ tells. stands_closed w new done.running tells;
      };
      stood = done.stood;
      pages = λ tells. (done.shape tells).0;
      fanout = λ tells. (done.shape tells).1;
      alone = λ tells. flushed_alone w (seen new) checkpoint.idle.steady.quiet (stands_running w cache done.running tells);
    }

pub returns-in-Ok-recover-clause-fresh : goal.returns-in-Ok-recover-clause-fresh
returns-in-Ok-recover-clause-fresh g c =
    let done = c.in-Ok-recover.ensures.recovered in
    record {
      can = refl;
      mini_is = ap (λ (extents : List Extent). let mini : MiniTransaction = record { is_begun = false; changed = map page_number extents } in mini) c.in-Ok.ensures.none;
      clean = none_dirty c.in-Ok-recover.cache.pool.frames done.checkpoint.clean;
      frames_are = done.count ∙ c.in-Ok.ensures.count;
      steady = done.steady;
    }
