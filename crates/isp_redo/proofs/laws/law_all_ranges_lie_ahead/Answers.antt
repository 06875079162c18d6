use Rattle.isp_redo.proofs.PlaceLaws.{begins_at}
use Rattle.isp_redo.proofs.laws.law_all_ranges_lie_ahead.Goals as goal

pub returns : goal.returns
returns c pages log batches end is = begins_at pages log batches end is
