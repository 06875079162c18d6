use Rattle.std.proofs.Common.{length, arith}
use Rattle.isp_disk.proofs.Stopping.{below_at}
use Rattle.isp_disk.proofs.stops.put_writes.Goals as goal

pub index_mut-requires : goal.index_mut-requires
index_mut-requires c =
    let below = below_at (length c.args.image.now.items) c.args.writes.now c.loop-i.i (0, 0) c.requires (omega arith) in
    omega (arith, below, c.loop-i.invariant.0)
