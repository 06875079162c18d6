use Rattle.isp_laws.proofs.AddLaws.{add_keeps, add_links}
use Rattle.isp_laws.proofs.trees.law_add_keeps.Goals as goal

pub returns : goal.returns
returns c = λ tree path box key number whole stands is_box. record { forest = add_keeps tree path box key number whole.forest stands is_box; links = add_links tree path box key number whole.links }
