use Rattle.std.proofs.Common.{◌≡◌, ◌-◌}
use Rattle.isp_wkt.specs.Reading.{items_at}
use Rattle.isp_wkt.proofs.Sequences.{with_front}
use Rattle.isp_wkt.proofs.reader.items.Given as goal

abbrev pub invariant-loop : goal.invariant-loop
invariant-loop g l = with_front l.found (items_at (g.I.Item.item_at l.item) (l.most - l.counter) l.from) ≡ items_at (g.I.Item.item_at l.item) l.most l.fn.from
