use Rattle.std.proofs.Common.{◌∙◌}
use Rattle.isp_undo_walks.proofs.ChainLaws.{begun_is}
use Rattle.isp_undo_walks.proofs.reading.is_begun.Goals as goal

pub returns-clause-begun : goal.returns-clause-begun
returns-clause-begun g c tells slots chain has = c.is_some.ensures ∙ begun_is chain c.in_ok-found.found (c.in_ok-found.ensures.found tells slots chain has)
