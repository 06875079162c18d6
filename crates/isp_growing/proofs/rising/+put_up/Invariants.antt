use Rattle.std.proofs.Common.{◌-◌}
use Rattle.isp_growing.proofs.rising.+put_up.Given as goal

abbrev pub decreases-put_up : goal.decreases-put_up
decreases-put_up g l = l.path.now.height - l.level
