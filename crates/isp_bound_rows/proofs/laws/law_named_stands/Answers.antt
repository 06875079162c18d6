use Rattle.isp_bound_rows.proofs.NameLaws.{named_stands}
use Rattle.isp_bound_rows.proofs.laws.law_named_stands.Goals as goal

pub returns : goal.returns
returns c = named_stands
