use Rattle.std.proofs.Common.{◌+◌, ◌≤◌, length, ap, arith, rules}
use Rattle.isp_disk.specs.InMemory.{LogState}
use Rattle.isp_disk.proofs.Storing.{replay_failed_write, replay_write}
use Rattle.isp_disk.proofs.mem_world.MemWorld.write_kept.Goals as goal

pub invariant_of-self-then-not-is_good : goal.invariant_of-self-then-not-is_good
invariant_of-self-then-not-is_good c =
    let kept = c.self.inside in
    let calls = ap (λ (log : LogState). log.calls) c.push.ensures in
    let room = ap (λ (log : LogState). log.room) c.push.ensures in
    (replay_failed_write kept.first.items kept.image.items kept.printed.items kept.log.calls c.push.new.self.calls c.args.at c.args.bytes.now c.is_good_write-is_good.result c.if-not-is_good.true c.self.invariant.0 calls, omega (arith, c.self.invariant.1, room))

pub invariant_of-self-2 : goal.invariant_of-self-2
invariant_of-self-2 c =
    let kept = c.self.inside in
    let calls = ap (λ (log : LogState). log.calls) c.push.ensures in
    let room = ap (λ (log : LogState). log.room) c.push.ensures in
    let inside : c.args.at + length c.args.bytes.now ≤ length kept.image.items = search rules in
    (replay_write kept.first.items kept.image.items c.put_over.new.image.items kept.printed.items kept.log.calls c.push.new.self.calls c.args.at c.args.bytes.now c.is_good_write-is_good.result c.if-not-is_good.false c.self.invariant.0 calls c.put_over.ensures.size inside c.put_over.ensures.put, omega (arith, c.self.invariant.1, room))
