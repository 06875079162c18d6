use Rattle.isp_serial.proofs.SpellingLaws.{spelled_once}
use Rattle.isp_serial.proofs.laws.law_spelled_once.Goals as goal

pub returns : goal.returns
returns c = spelled_once
