use Rattle.isp_causes.proofs.CauseLaws.{is_caused}
use Rattle.isp_causes.proofs.causes.law_next_has_cause.Goals as goal

pub returns : goal.returns
returns c = is_caused
