use Rattle.isp_order_searches.proofs.BelongsLaws.{belongs_kept}
use Rattle.isp_order_searches.proofs.searches.law_belongs_kept.Goals as goal

pub returns : goal.returns
returns c = belongs_kept
