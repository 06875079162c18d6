use Rattle.std.proofs.Common.{◌≡◌, length, arith, rules}
use Rattle.isp_disk.specs.Moments.{image_of}
use Rattle.isp_disk.proofs.Images.{slice_at}
use Rattle.isp_disk.proofs.mem_world.read_out.Goals as goal

pub returns : goal.returns
returns c =
    let long : length c.loop-count.into ≡ length c.args.into.now = search rules in
    slice_at c.loop-count.into (image_of c.args.image.now) c.args.at (length c.args.into.now) long (λ k below. c.loop-count.invariant k (omega arith))
