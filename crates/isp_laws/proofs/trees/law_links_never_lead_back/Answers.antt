use Rattle.isp_laws.proofs.WalkLaws.{never_back}
use Rattle.isp_laws.proofs.trees.law_links_never_lead_back.Goals as goal

pub returns : goal.returns
returns c = λ tree whole n p h. never_back tree whole.links n p h
