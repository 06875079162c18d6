use Rattle.isp_wkt.proofs.Places.{fault_cause, ends_early, stands_behind, goes_deeper}
use Rattle.isp_wkt.proofs.Marks.{breaks_numbers, passes_limits}
use Rattle.isp_wkt.proofs.laws.law_fault_causes.Goals as goal

pub returns : goal.returns
returns c = record { hold = fault_cause; truncated = ends_early; trailing = stands_behind; deep = goes_deeper; not_whole = breaks_numbers; out_of_range = passes_limits }
