use Rattle.isp_tokens.proofs.LawsOfTokens.{words_known}
use Rattle.isp_tokens.proofs.laws.law_words_are_known.Goals as goal

pub returns : goal.returns
returns c = words_known
