use Rattle.isp_order_paths.proofs.PathLaws.{paths_kept}
use Rattle.isp_order_paths.proofs.paths.law_paths_kept.Goals as goal

pub returns : goal.returns
returns c = paths_kept
