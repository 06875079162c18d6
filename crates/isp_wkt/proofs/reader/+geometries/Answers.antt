use Rattle.isp_wkt.specs.Reading.{items_at, geometry_at, members_at}
use Rattle.isp_wkt.proofs.Sequences.{goes_on, is_done}
use Rattle.isp_wkt.proofs.reader.+geometries.Goals as goal

pub forms-loop-preserved : goal.forms-loop-preserved
forms-loop-preserved t c =
    let added = c.in_ok-goes_on.ensures in
    goes_on (geometry_at (members_at c.args.depth)) c.loop.found c.add_form.new.found c.args.most c.loop.counter c.loop.from added.0 c.in_ok-goes_on.goes_on c.add_form.new.from (items_at (geometry_at (members_at c.args.depth)) c.args.most c.args.from.now)
    c.loop-test.true added.2 c.if-not-goes_on.false added.1 c.loop.invariant

pub forms-returns-then-not-goes_on : goal.forms-returns-then-not-goes_on
forms-returns-then-not-goes_on t c =
    let added = c.in_ok-goes_on.ensures in
    is_done (geometry_at (members_at c.args.depth)) c.loop.found c.add_form.new.found c.args.most c.loop.counter c.loop.from added.0 c.in_ok-goes_on.goes_on c.add_form.new.from (items_at (geometry_at (members_at c.args.depth)) c.args.most c.args.from.now)
    c.loop-test.true added.2 c.if-not-goes_on.true added.1 c.loop.invariant
