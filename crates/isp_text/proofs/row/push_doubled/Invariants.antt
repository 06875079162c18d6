use Rattle.std.proofs.Common.{◌≡◌, ◌++◌, drop}
use Rattle.std.specs.List.{flat_map}
use Rattle.isp_plain.specs.Texts.{doubled}
use Rattle.isp_text.proofs.row.push_doubled.Given as goal

abbrev pub invariant-loop-b : goal.invariant-loop-b
invariant-loop-b l = l.out.items ++ flat_map doubled (drop l.b-index l.text) ≡ l.fn.out.items ++ flat_map doubled l.text
