use Rattle.std.proofs.Common.{◌≡◌, ◌++◌, drop}
use Rattle.isp_split.specs.Groups.{is_in, places_from, places_in}
use Rattle.isp_split.proofs.division.places.Given as goal

abbrev pub invariant-loop-place : goal.invariant-loop-place
invariant-loop-place l = l.places.items ++ places_from (is_in l.side) l.place (drop l.place l.sides) ≡ places_in l.side l.sides
