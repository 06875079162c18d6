use Rattle.isp_searches.proofs.SplitSearchLaws.{split_known}
use Rattle.isp_searches.proofs.knowledge.law_split_keeps_known.Goals as goal

pub returns : goal.returns
returns c = split_known
