use Rattle.std.proofs.Common.{◌≡◌, ◌-◌}
use Rattle.isp_geom.specs.Reading.{items_at}
use Rattle.isp_geom.proofs.Sequences.{with_front}
use Rattle.isp_geom.proofs.read.items.Given as goal

abbrev pub invariant-loop : goal.invariant-loop
invariant-loop g l = with_front l.found (items_at g.T.Read.read_at (l.count - l.counter) l.from) ≡ items_at g.T.Read.read_at l.count l.fn.from
