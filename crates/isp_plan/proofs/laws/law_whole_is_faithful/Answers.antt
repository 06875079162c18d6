use Rattle.isp_plan.proofs.FaithfulLaws.{whole_is_faithful}
use Rattle.isp_plan.proofs.laws.law_whole_is_faithful.Goals as goal

pub returns : goal.returns
returns c = whole_is_faithful
