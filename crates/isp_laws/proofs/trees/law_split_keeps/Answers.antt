use Rattle.isp_laws.proofs.SplitLaws.{split_keeps}
use Rattle.isp_laws.proofs.SplitWalkLaws.{split_links}
use Rattle.isp_laws.proofs.trees.law_split_keeps.Goals as goal

pub returns : goal.returns
returns c = λ tree o above left right n whole can. record { forest = split_keeps tree o above left right n whole.forest can; links = split_links tree o above left right n whole.forest can whole.links }
