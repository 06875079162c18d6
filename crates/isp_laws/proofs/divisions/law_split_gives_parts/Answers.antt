use Rattle.isp_laws.proofs.PartLaws.{split_gives_parts}
use Rattle.isp_laws.proofs.divisions.law_split_gives_parts.Goals as goal

pub returns : goal.returns
returns c = split_gives_parts
