use Rattle.isp_laws.proofs.RemoveLaws.{remove_keeps, remove_links}
use Rattle.isp_laws.proofs.trees.law_remove_keeps.Goals as goal

pub returns : goal.returns
returns c = λ tree number whole. record { forest = remove_keeps tree number whole.forest; links = remove_links tree number whole.links }
