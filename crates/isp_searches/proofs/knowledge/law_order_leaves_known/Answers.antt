use Rattle.isp_searches.proofs.LikeLaws.{like_known}
use Rattle.isp_searches.proofs.knowledge.law_order_leaves_known.Goals as goal

pub returns : goal.returns
returns c = like_known
