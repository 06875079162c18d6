use Rattle.isp_order_paths.proofs.CollectedLaws.{collected_kept}
use Rattle.isp_order_paths.proofs.paths.law_collected_kept.Goals as goal

pub returns : goal.returns
returns c = collected_kept
