use Rattle.std.proofs.Common.{◌≡◌, ◌++◌, drop}
use Rattle.isp_wkt.specs.Printed.{chained}
use Rattle.isp_wkt.proofs.printer.print_items.Given as goal

abbrev pub invariant-loop-item : goal.invariant-loop-item
invariant-loop-item g l = l.out.items ++ chained g.T.Text.text l.before (drop l.item-index l.items) ≡ l.initial.out.items ++ chained g.T.Text.text 40 l.items
