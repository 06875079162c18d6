use Rattle.isp_searches.proofs.PlaceSearchLaws.{place_known}
use Rattle.isp_searches.proofs.knowledge.law_place_keeps_known.Goals as goal

pub returns : goal.returns
returns c = λ tree path box key number q divisions x items session statement whole stands is_box can may covered known. place_known tree path box key number q divisions x items session statement whole stands is_box can may covered known
