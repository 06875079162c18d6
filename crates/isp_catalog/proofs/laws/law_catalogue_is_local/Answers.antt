use Rattle.isp_catalog.proofs.CatalogueLaws.{local}
use Rattle.isp_catalog.proofs.laws.law_catalogue_is_local.Goals as goal

pub returns : goal.returns
returns c = local
