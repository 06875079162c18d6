use Rattle.isp_searches.proofs.SplitSearchLaws.{split_covered}
use Rattle.isp_searches.proofs.reach.law_split_keeps_covered.Goals as goal

pub returns : goal.returns
returns c = split_covered
