use Rattle.isp_searches.proofs.AddSearchLaws.{add_covered}
use Rattle.isp_searches.proofs.reach.law_add_keeps_covered.Goals as goal

pub returns : goal.returns
returns c = add_covered
