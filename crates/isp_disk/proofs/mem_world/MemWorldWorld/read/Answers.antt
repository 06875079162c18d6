use Rattle.std.proofs.Common.{not}
use Rattle.isp_disk.specs.InMemory.{read, is_spent, is_to_fail}
use Rattle.isp_disk.proofs.Meets.{disk_time}
use Rattle.isp_disk.proofs.mem_world.MemWorldWorld.read.Goals as goal

pub returns-clause-time : goal.returns-clause-time
returns-clause-time c =
    let world = c.args.self.now in
    let good = not (is_to_fail world) in
    disk_time (is_spent world.log 0) good (read good) 0 world c.read_kept.new.self c.read_kept.ensures.after
