use Rattle.std.proofs.Common.{◌≡◌, ◌≤◌, length, rules}
use Rattle.std.specs.Prelude.{vec_capacity}
use Rattle.isp_frames.specs.Held.{AreFree}
use Rattle.isp_frames_tests.proofs.Fresh.{fresh_opened}
use Rattle.isp_frames_tests.proofs.replay.started.Goals as goal

pub replay-done-requires : goal.replay-done-requires
replay-done-requires c =
    let made = c.new-cache.ensures in
    let size : vec_capacity c.new-cache.result.batch ≡ vec_capacity c.in_ok-batch.batch = search (rules, made.batch) in
    let free : AreFree c.in_ok-pool.pool = search rules in
    let many : 64 ≤ length c.in_ok-pool.pool.frames = search rules in
    let room : 64 ≤ vec_capacity c.in_ok-batch.batch = search rules in
    fresh_opened _ c.args.world c.new-cache.result c.in-Ok.stable c.in_ok-pool.pool (vec_capacity c.in_ok-batch.batch) made.stable made.pool size c.in-Ok.ensures.opened free many room
