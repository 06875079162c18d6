use Rattle.std.proofs.Common.{ap, arith}
use Rattle.isp_disk.specs.InMemory.{LogState}
use Rattle.isp_disk.proofs.Storing.{replay_sync}
use Rattle.isp_disk.proofs.mem_world.MemWorld.sync_kept.Goals as goal

pub invariant_of-self-then-fails : goal.invariant_of-self-then-fails
invariant_of-self-then-fails c =
    let kept = c.self.inside in
    let calls = ap (λ (log : LogState). log.calls) c.push.ensures in
    let room = ap (λ (log : LogState). log.room) c.push.ensures in
    (replay_sync kept.first.items kept.image.items kept.printed.items kept.log.calls c.push.new.self.calls _ c.self.invariant.0 calls, omega (arith, c.self.invariant.1, room))

pub invariant_of-self-else-fails : goal.invariant_of-self-else-fails
invariant_of-self-else-fails c =
    let kept = c.self.inside in
    let calls = ap (λ (log : LogState). log.calls) c.push.ensures in
    let room = ap (λ (log : LogState). log.room) c.push.ensures in
    (replay_sync kept.first.items kept.image.items kept.printed.items kept.log.calls c.push.new.self.calls _ c.self.invariant.0 calls, omega (arith, c.self.invariant.1, room))
