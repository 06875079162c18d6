use Rattle.isp_catalog.proofs.CatalogueLaws.{one}
use Rattle.isp_catalog.proofs.laws.law_catalogue_is_one.Goals as goal

pub returns : goal.returns
returns c = one
