use Rattle.isp_searches.proofs.PlaceSearchLaws.{place_covered}
use Rattle.isp_searches.proofs.reach.law_place_keeps_covered.Goals as goal

pub returns : goal.returns
returns c = λ tree path box key number q divisions x whole stands is_box can covered. place_covered tree path box key number q divisions x whole stands is_box can covered
