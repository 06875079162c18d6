use Rattle.std.proofs.Common.{◌≡◌, ◌++◌, drop}
use Rattle.isp_wkt.specs.Printed.{chained, printed}
use Rattle.isp_wkt.proofs.printer.+forms.Given as goal

abbrev pub invariant-print_members-loop-member : goal.invariant-print_members-loop-member
invariant-print_members-loop-member l = l.out.items ++ chained printed l.before (drop l.member-index l.members) ≡ l.initial.out.items ++ chained printed 40 l.members
