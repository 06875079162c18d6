use Rattle.std.proofs.Common.{false}
use Rattle.std.specs.Prelude.{replicate}
use Rattle.isp_waits.proofs.LevelLemmas.{alone_at, none_on}
use Rattle.isp_waits.proofs.cycles.alone.Goals as goal

pub returns : goal.returns
returns c = alone_at (replicate 17 false) c.args.s (none_on 17) c.requires
