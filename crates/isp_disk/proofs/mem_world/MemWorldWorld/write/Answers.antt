use Rattle.std.proofs.Common.{length}
use Rattle.isp_disk.specs.InMemory.{wrote, is_spent, is_written}
use Rattle.isp_disk.proofs.Meets.{disk_time}
use Rattle.isp_disk.proofs.mem_world.MemWorldWorld.write.Goals as goal

pub returns-clause-time : goal.returns-clause-time
returns-clause-time c =
    let world = c.args.self.now in
    let bytes = c.args.bytes.now in
    let good = is_written world c.args.at (length bytes) in
    disk_time (is_spent world.log (length bytes)) good (wrote c.args.at bytes good) (length bytes) world c.write_kept.new.self c.write_kept.ensures.after
