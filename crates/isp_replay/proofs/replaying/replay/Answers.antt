use Rattle.std.proofs.Common.{◌∙◌, arith}
use Rattle.isp_replay.proofs.PutLaws.{put_now, put_stands}
use Rattle.isp_replay.proofs.Replayed.{replay_fails, stood_for, stops_put, stops_replayed}
use Rattle.isp_stable.specs.File.{placed}
use Rattle.isp_replay.proofs.replaying.replay.Goals as goal

pub checkpoint-requires : goal.checkpoint-requires
checkpoint-requires g c =
    let put = c.in_ok-put_ranges.ensures in
    record {
      steady = record {
        quiet = put.kept.ready.quiet;
        below = put.kept.ready.below;
        cached = λ tells. (put.put tells (c.requires.file tells)).put.cached;
      };
      unpinned = put.kept.ready.unpinned;
      room = omega (arith, put.kept.room, c.requires.room);
    }

pub returns-in_err-put_ranges-clause-kept : goal.returns-in_err-put_ranges-clause-kept
returns-in_err-put_ranges-clause-kept g c =
    replay_fails g.W.World c.args.cache.now c.put_ranges.new.cache c.in_err-put_ranges.field-0.0 _ c.from_residual.ensures.1 c.in_err-put_ranges.ensures.kept
    (λ tells. (c.in_err-put_ranges.ensures.put tells (c.requires.file tells)).tested)

pub returns-in_err-put_ranges-clause-stops : goal.returns-in_err-put_ranges-clause-stops
returns-in_err-put_ranges-clause-stops g c = λ tells.
    let file = c.requires.file tells in
    stops_put g.W.World c.args.cache.now c.put_ranges.new.cache.stable.world file (c.in_err-put_ranges.ensures.put tells file).stops

pub returns-in-Ok-clause-stood : goal.returns-in-Ok-clause-stood
returns-in-Ok-clause-stood g c = λ tells.
    let w = g.W.World in
    let s = c.args.cache.now in
    let file = c.requires.file tells in
    let put = (c.in_ok-put_ranges.ensures.put tells file).put in
    stood_for w s c.checkpoint.new.self.stable.world file _ (c.in-Ok.ensures.contents tells ∙ put_now w (placed w s.stable) file.batches c.put_ranges.new.cache put)

pub returns-in-Ok-clause-stops : goal.returns-in-Ok-clause-stops
returns-in-Ok-clause-stops g c = λ tells.
    let w = g.W.World in
    let s = c.args.cache.now in
    let mid = c.put_ranges.new.cache in
    let file = c.requires.file tells in
    let ranges = c.in_ok-put_ranges.ensures in
    let put = ranges.put tells file in
    stops_replayed w s mid c.checkpoint.new.self.stable.world file put.put ranges.kept.shape ranges.kept.calls.printed put.stops (c.checkpoint.ensures.stops tells (put_stands w (placed w s.stable) file.batches mid put.put))

pub returns-in-Err-clause-stops : goal.returns-in-Err-clause-stops
returns-in-Err-clause-stops g c = λ tells.
    let w = g.W.World in
    let s = c.args.cache.now in
    let mid = c.put_ranges.new.cache in
    let file = c.requires.file tells in
    let ranges = c.in_ok-put_ranges.ensures in
    let put = ranges.put tells file in
    stops_replayed w s mid c.checkpoint.new.self.stable.world file put.put ranges.kept.shape ranges.kept.calls.printed put.stops (c.checkpoint.ensures.stops tells (put_stands w (placed w s.stable) file.batches mid put.put))
