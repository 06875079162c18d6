use Rattle.std.proofs.Common.{not, length}
use Rattle.isp_disk.specs.InMemory.{printed, is_spent, is_to_fail}
use Rattle.isp_disk.proofs.Meets.{print_time}
use Rattle.isp_disk.proofs.mem_world.MemWorldWorld.print.Goals as goal

pub returns-clause-time : goal.returns-clause-time
returns-clause-time c =
    let world = c.args.self.now in
    let bytes = c.args.bytes.now in
    let good = not (is_to_fail world) in
    print_time (is_spent world.log (length bytes)) good (printed bytes good) (length bytes) world c.print_kept.new.self c.print_kept.ensures.after
