use Rattle.std.proofs.Common.{◌≡◌, ◌≤◌, ◌∙◌, ℕ, rules, sym, ap, subst, length}
use Rattle.std.specs.Prelude.{vec_capacity}
use Rattle.isp_format.specs.Control.{IsFanout, IsPages}
use Rattle.isp_frames.proofs.NowLaws.{pool_apart}
use Rattle.isp_opening.specs.Opening.{KeepsWorld}
use Rattle.isp_pool.specs.Frames.{IsPool, PoolState}
use Rattle.isp_store.proofs.Opened.{alike_stands, fresh_cache, keeps_replayed, keeps_opened, opened_as}
use Rattle.isp_store.proofs.Cleaned.{running_started}
use Rattle.isp_store.proofs.starting.recover.Goals as goal

pub replay-requires : goal.replay-requires
replay-requires g c =
    let made = c.new-cache.ensures in
    let opened = opened_as g.W.World c.args.world c.in_ok-stable.stable c.new-cache.result.stable made.stable c.in_ok-stable.ensures.opened in
    let size : vec_capacity c.new-cache.result.batch ≡ vec_capacity c.args.batch = search (rules, made.batch) in
    fresh_cache g.W.World c.new-cache.result opened.quiet opened.file c.args.pool (vec_capacity c.args.batch) made.pool size c.requires.free c.requires.many c.requires.room

pub returns-in-Ok-clause-recovered : goal.returns-in-Ok-clause-recovered
returns-in-Ok-clause-recovered g c =
    let w = g.W.World in
    let made = c.new-cache.ensures in
    let stable = c.new-cache.result.stable in
    let new = c.replay.new.cache in
    let opened = opened_as w c.args.world c.in_ok-stable.stable stable made.stable c.in_ok-stable.ensures.opened in
    let done = c.in-Ok.ensures in
    let count : length new.pool.frames ≡ length c.args.pool.frames = done.kept.count ∙ ap (λ (s : PoolState). length s.frames) made.pool in
    record {
      running = running_started w new done.checkpoint (pool_apart new.pool (subst IsPool c.pool-in-Ok.ensures c.frames.ensures.kept)) (subst (λ (n : ℕ). 64 ≤ n) (sym count) c.requires.many);
      checkpoint = done.checkpoint;
      count = count;
      possible = (subst IsPages (sym done.kept.shape.pages) opened.possible.0, subst IsFanout (sym done.kept.shape.fanout) opened.possible.1);
      steady = done.kept.steady ∙ opened.steady;
      shape = λ tells. let shape = opened.shape tells in (shape.0 ∙ sym done.kept.shape.pages, shape.1 ∙ sym done.kept.shape.fanout);
      stood = λ tells. alike_stands (w.image c.args.world) (w.image stable.world) (opened.alike tells) _ (done.stood tells);
    }

pub returns-in-Ok-clause-kept : goal.returns-in-Ok-clause-kept
returns-in-Ok-clause-kept g c =
    let w = g.W.World in
    let made = c.new-cache.ensures in
    let stable = c.new-cache.result.stable in
    let opened = c.in_ok-stable.ensures in
    let kept = c.in-Ok.ensures.kept in
    keeps_replayed w c.args.world stable c.replay.new.cache.stable.world (opened_as w c.args.world c.in_ok-stable.stable stable made.stable opened.opened) (keeps_opened w c.args.world c.in_ok-stable.stable stable made.stable opened.kept)
    kept.printed kept.printer c.replay.ensures.stops

pub returns-in-Err-clause-kept : goal.returns-in-Err-clause-kept
returns-in-Err-clause-kept g c =
    let w = g.W.World in
    let made = c.new-cache.ensures in
    let stable = c.new-cache.result.stable in
    let opened = c.in_ok-stable.ensures in
    let kept = c.in-Err.ensures.kept in
    subst (KeepsWorld w c.args.world) (sym c.into_world.ensures)
    (keeps_replayed w c.args.world stable c.replay.new.cache.stable.world (opened_as w c.args.world c.in_ok-stable.stable stable made.stable opened.opened) (keeps_opened w c.args.world c.in_ok-stable.stable stable made.stable opened.kept)
    kept.printed kept.printer c.replay.ensures.stops)
