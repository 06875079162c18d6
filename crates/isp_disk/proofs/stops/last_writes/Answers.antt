use Rattle.std.proofs.Common.{◌-◌, length, arith}
use Rattle.isp_disk.proofs.Stopping.{back_step, below_at}
use Rattle.isp_disk.proofs.stops.last_writes.Goals as goal

pub take_first-requires : goal.take_first-requires
take_first-requires c =
    let below = below_at c.args.size c.args.writes.now (length c.args.writes.now - 1 - c.loop-i.i) (0, 0) c.requires (omega arith) in
    omega (arith, below, c.loop-i.invariant.1)

pub loop-i-preserved : goal.loop-i-preserved
loop-i-preserved c =
    let first = below_at c.args.size c.args.writes.now (length c.args.writes.now - 1 - c.loop-i.i) (0, 0) c.requires (omega arith) in
    back_step c.args.size c.loop-i.i c.args.writes.now c.loop-i.last.items c.take_first.new.taken.items c.loop-i.seen.items c.take_first.new.seen.items (omega arith) first c.loop-i.invariant c.in_ok-take_first.ensures.taken c.in_ok-take_first.ensures.seen
