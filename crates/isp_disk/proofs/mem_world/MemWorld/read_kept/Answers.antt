use Rattle.std.proofs.Common.{ap, arith}
use Rattle.isp_disk.specs.InMemory.{LogState}
use Rattle.isp_disk.proofs.Storing.{replay_read}
use Rattle.isp_disk.proofs.mem_world.MemWorld.read_kept.Goals as goal

pub invariant_of-self-then-fails : goal.invariant_of-self-then-fails
invariant_of-self-then-fails c =
    let kept = c.self.inside in
    let calls = ap (λ (log : LogState). log.calls) c.push.ensures in
    let room = ap (λ (log : LogState). log.room) c.push.ensures in
    (replay_read kept.first.items kept.image.items kept.printed.items kept.log.calls c.push.new.self.calls _ c.self.invariant.0 calls, omega (arith, c.self.invariant.1, room))

pub invariant_of-self-2 : goal.invariant_of-self-2
invariant_of-self-2 c =
    let kept = c.self.inside in
    let calls = ap (λ (log : LogState). log.calls) c.push.ensures in
    let room = ap (λ (log : LogState). log.room) c.push.ensures in
    (replay_read kept.first.items kept.image.items kept.printed.items kept.log.calls c.push.new.self.calls _ c.self.invariant.0 calls, omega (arith, c.self.invariant.1, room))
