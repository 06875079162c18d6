use Rattle.isp_searches.proofs.RemoveSearchLaws.{remove_covered}
use Rattle.isp_searches.proofs.reach.law_remove_keeps_covered.Goals as goal

pub returns : goal.returns
returns c = remove_covered
