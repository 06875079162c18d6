use Rattle.isp_tokens.proofs.LawsOfTokens.{as_written}
use Rattle.isp_tokens.proofs.laws.law_tokens_as_written.Goals as goal

pub returns : goal.returns
returns c = as_written
