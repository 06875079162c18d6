use Rattle.isp_leaf_laws.proofs.PathLaws.{place_changes_path}
use Rattle.isp_leaf_laws.proofs.trees.law_place_changes_path.Goals as goal

pub returns : goal.returns
returns c = place_changes_path
