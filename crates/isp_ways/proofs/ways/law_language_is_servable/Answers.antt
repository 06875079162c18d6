use Rattle.isp_ways.proofs.ServedLaws.{language_is_servable}
use Rattle.isp_ways.proofs.ways.law_language_is_servable.Goals as goal

pub returns : goal.returns
returns c = language_is_servable
