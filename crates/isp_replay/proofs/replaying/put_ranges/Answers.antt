use Rattle.std.proofs.Common.{◌∙◌, Ok, arith, refl, rules, ap, subst}
use Rattle.std.specs.Prelude.{Option, ℕ}
use Rattle.isp_frames.proofs.StayLaws.{shape_same, shape_twice, stands_still}
use Rattle.isp_disk.proofs.PhaseLaws.{calls_on}
use Rattle.isp_pool.specs.Frames.{is_pinned}
use Rattle.isp_replay.specs.Putting.{IsPut}
use Rattle.isp_replay.proofs.PoolAfter.{free_below}
use Rattle.isp_replay.proofs.PutLaws.{none_put}
use Rattle.isp_stable.specs.File.{placed}
use Rattle.isp_stable.proofs.FileLaws.{stands_on}
use Rattle.isp_replay.proofs.replaying.put_ranges.Goals as goal

pub putting-init : goal.putting-init
putting-init g c =
    let w = g.W.World in
    let s = c.args.cache.now in
    record {
      put = λ tells file. record {
        put = none_put w s file c.requires.free;
        stops = stands_still w s.stable file c.requires.quiet (λ left printed since. g.met.W.World.only_now s.stable.world left printed since);
        tested = tt;
      };
      kept = record {
        calls = record { printed = refl; printer = refl; cause = record { later = omega arith; steady = refl; failed = tt } };
        shape = shape_same w s.stable;
        room = refl;
        ready = record { quiet = c.requires.quiet; below = free_below s.pool s.stable.pages c.requires.free; unpinned = λ i. ap is_pinned (c.requires.free i); some = omega (arith, c.requires.many) };
        count = refl;
      };
    }

pub put_next-requires-clause-cached : goal.put_next-requires-clause-cached
put_next-requires-clause-cached g c = λ tells. (c.putting.invariant.put tells (c.requires.file tells)).put.cached

pub putting-preserved : goal.putting-preserved
putting-preserved g c =
    let w = g.W.World in
    let s = c.args.cache.now in
    let mid = c.putting.cache in
    let new = c.put_next.new.cache in
    let so_far = c.putting.invariant in
    let more = c.in_ok-ahead.ensures in
    record {
      put = λ tells file.
          let there = so_far.put tells file in
          let next = more.put tells (placed w s.stable) file.batches (subst (λ (ahead : Option ℕ). IsPut w (placed w s.stable) file.batches mid ahead) c.in-Some.is there.put) in
          record {
            put = next.put;
            stops = stands_on w s.stable mid.stable new.stable.world _ so_far.kept.shape so_far.kept.calls.printed there.stops next.stops;
            tested = tt;
          };
      kept = record {
        calls = calls_on w s.stable.world mid.stable.world new.stable.world tt (Ok tt) so_far.kept.calls more.kept.calls;
        shape = shape_twice w s.stable mid.stable new.stable so_far.kept.shape more.kept.shape;
        room = more.kept.room ∙ so_far.kept.room;
        ready = more.kept.ready;
        count = more.kept.count ∙ so_far.kept.count;
      };
    }

pub returns-in_err-ahead-clause-put : goal.returns-in_err-ahead-clause-put
returns-in_err-ahead-clause-put g c = λ tells file.
    let w = g.W.World in
    let s = c.args.cache.now in
    let so_far = c.putting.invariant in
    let there = so_far.put tells file in
    let next = c.in_err-ahead.ensures.put tells (placed w s.stable) file.batches (subst (λ (ahead : Option ℕ). IsPut w (placed w s.stable) file.batches c.putting.cache ahead) c.in-Some.is there.put) in
    let tested = next.tested in
    record {
      put = search rules;
      stops = stands_on w s.stable c.putting.cache.stable c.put_next.new.cache.stable.world _ so_far.kept.shape so_far.kept.calls.printed there.stops next.stops;
      tested = search (rules, tested);
    }

pub returns-clause-put : goal.returns-clause-put
returns-clause-put g c = λ tells file.
    let w = g.W.World in
    let s = c.args.cache.now in
    let there = c.putting.invariant.put tells file in
    record {
      put = subst (λ (ahead : Option ℕ). IsPut w (placed w s.stable) file.batches c.putting.cache ahead) c.in_default.is there.put;
      stops = there.stops;
      tested = tt;
    }
