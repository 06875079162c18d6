use Rattle.isp_trx_laws.proofs.MarkLaws.{commit_adds_none}
use Rattle.isp_trx_laws.proofs.keys.law_commit_adds_none.Goals as goal

pub returns : goal.returns
returns c = commit_adds_none
