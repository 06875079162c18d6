use Rattle.std.proofs.Common.{◌≡◌, ◌-◌}
use Rattle.isp_sql.specs.Following.{with_front}
use Rattle.isp_sql.specs.Reading.{others_at, more_at}
use Rattle.isp_sql.proofs.members.others.Given as goal

abbrev pub invariant-loop : goal.invariant-loop
invariant-loop g l = with_front l.found (others_at l.going (g.I.Item.item_at l.item) (l.most - l.counter) l.from) ≡ with_front l.fn.found (more_at l.going (g.I.Item.item_at l.item) l.fn.from)
