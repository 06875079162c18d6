use Rattle.std.proofs.Common.{◌≡◌, ◌++◌, drop}
use Rattle.isp_laws.specs.DivisionLaws.{picked}
use Rattle.isp_rplan.proofs.boxes.picked.Given as goal

abbrev pub invariant-loop-place : goal.invariant-loop-place
invariant-loop-place l = l.some.items ++ picked l.entries (drop l.place-index l.places) ≡ picked l.entries l.places
