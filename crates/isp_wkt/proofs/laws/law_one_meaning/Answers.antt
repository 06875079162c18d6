use Rattle.isp_wkt.proofs.CompleteForms.{same_form, text_again}
use Rattle.isp_wkt.proofs.laws.law_one_meaning.Goals as goal

pub returns : goal.returns
returns c = λ g h text m n. same_form g h text (text_again g text m) n
