use Rattle.std.proofs.Common.{◌≡◌, ◌-◌, ◌+◌, ◌*◌}
use Rattle.isp_wkt.specs.Reading.{items_at, geometry_at, members_at}
use Rattle.isp_wkt.proofs.Sequences.{with_front}
use Rattle.isp_wkt.proofs.reader.+geometries.Given as goal

abbrev pub invariant-forms-loop : goal.invariant-forms-loop
invariant-forms-loop l = with_front l.found (items_at (geometry_at (members_at l.depth)) (l.most - l.counter) l.from) ≡ items_at (geometry_at (members_at l.depth)) l.most l.fn.from

-- a geometry calls for the members of a collection, and those for geometries with one collection less
abbrev pub decreases-geometry : goal.decreases-geometry
decreases-geometry l = 4 * l.depth + 3

abbrev pub decreases-members : goal.decreases-members
decreases-members l = 4 * l.depth + 2

abbrev pub decreases-forms : goal.decreases-forms
decreases-forms l = 4 * l.depth + 5

abbrev pub decreases-add_form : goal.decreases-add_form
decreases-add_form l = 4 * l.depth + 4
