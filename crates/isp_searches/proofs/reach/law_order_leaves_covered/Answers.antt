use Rattle.isp_searches.proofs.LikeLaws.{like_covered}
use Rattle.isp_searches.proofs.reach.law_order_leaves_covered.Goals as goal

pub returns : goal.returns
returns c = like_covered
