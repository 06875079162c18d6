use Rattle.std.proofs.Common.{not, length, sym, ◌∙◌, ap, arith, length-append}
use Rattle.isp_disk.specs.InMemory.{LogState}
use Rattle.isp_disk.proofs.Keeping.{has_room}
use Rattle.isp_disk.proofs.Storing.{replay_failed_print, replay_print}
use Rattle.isp_disk.proofs.mem_world.MemWorld.print_kept.Goals as goal

pub invariant_of-self-then-fails : goal.invariant_of-self-then-fails
invariant_of-self-then-fails c =
    let kept = c.self.inside in
    let calls = ap (λ (log : LogState). log.calls) c.push.ensures in
    let room = ap (λ (log : LogState). log.room) c.push.ensures in
    (replay_failed_print kept.first.items kept.image.items kept.printed.items kept.log.calls c.push.new.self.calls c.args.bytes.now (not c.is_to_fail-fails.result) (ap not c.if-fails.true) c.self.invariant.0 calls, omega (arith, c.self.invariant.1, room))

pub invariant_of-self-2 : goal.invariant_of-self-2
invariant_of-self-2 c =
    let kept = c.self.inside in
    let calls = ap (λ (log : LogState). log.calls) c.push.ensures in
    let room = ap (λ (log : LogState). log.room) c.push.ensures in
    (replay_print kept.first.items kept.image.items kept.printed.items c.extend_from_slice.new.self.items kept.log.calls c.push.new.self.calls c.args.bytes.now (not c.is_to_fail-fails.result) (ap not c.if-fails.false) c.self.invariant.0 calls c.in-Ok.ensures.items, omega (arith, c.self.invariant.1, room, has_room kept.log (length c.args.bytes.now) (sym c.is_spent.ensures ∙ c.if-is_spent.false), ap length c.in-Ok.ensures.items, length-append kept.printed.items c.args.bytes.now, c.in-Ok.ensures.capacity))
