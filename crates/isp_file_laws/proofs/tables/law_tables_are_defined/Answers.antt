use Rattle.isp_file_laws.proofs.KeptLaws.{tables_are_defined}
use Rattle.isp_file_laws.proofs.tables.law_tables_are_defined.Goals as goal

pub returns : goal.returns
returns c = tables_are_defined
