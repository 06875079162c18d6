use Rattle.isp_searches.proofs.RemoveSearchLaws.{remove_known}
use Rattle.isp_searches.proofs.knowledge.law_remove_keeps_known.Goals as goal

pub returns : goal.returns
returns c = remove_known
