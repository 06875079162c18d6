use Rattle.isp_catalog.proofs.CatalogueLaws.{tables_one}
use Rattle.isp_catalog.proofs.laws.law_tables_are_one.Goals as goal

pub returns : goal.returns
returns c = tables_one
