use Rattle.isp_locality.proofs.TableLocal.{statements_are_local}
use Rattle.isp_locality.proofs.local.law_statements_are_local.Goals as goal

pub returns : goal.returns
returns c = statements_are_local
