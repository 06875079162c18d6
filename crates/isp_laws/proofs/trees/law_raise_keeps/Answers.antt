use Rattle.isp_laws.proofs.RaiseLaws.{raise_keeps, raise_links}
use Rattle.isp_laws.proofs.trees.law_raise_keeps.Goals as goal

pub returns : goal.returns
returns c = λ tree q whole can. record { forest = raise_keeps tree whole.forest q can; links = raise_links tree whole.forest q can.free whole.links }
