use Rattle.std.proofs.Common.{◌≡◌, ◌-◌, ◌*◌, ◌+◌}
use Rattle.isp_geom.specs.Reading.{items_at, form_at}
use Rattle.isp_geom.proofs.Sequences.{with_front}
use Rattle.isp_geom.proofs.read.+forms.Given as goal

abbrev pub invariant-so_many-loop : goal.invariant-so_many-loop
invariant-so_many-loop l = with_front l.found (items_at (form_at l.levels) (l.count - l.counter) l.from) ≡ items_at (form_at l.levels) l.count l.fn.from

-- a form calls for its members with one level less, and those for each member
abbrev pub decreases-form : goal.decreases-form
decreases-form l = 3 * l.levels

abbrev pub decreases-so_many : goal.decreases-so_many
decreases-so_many l = 3 * l.levels + 1

abbrev pub decreases-members : goal.decreases-members
decreases-members l = 3 * l.levels + 2
