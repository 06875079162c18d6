use Rattle.isp_drain.proofs.AwakeLaws.{somebody_is_awake}
use Rattle.isp_drain.proofs.drain.law_somebody_is_awake.Goals as goal

pub returns : goal.returns
returns c = somebody_is_awake
