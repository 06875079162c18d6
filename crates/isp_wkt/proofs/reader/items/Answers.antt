use Rattle.isp_wkt.specs.Reading.{items_at}
use Rattle.isp_wkt.proofs.Sequences.{goes_on, is_done}
use Rattle.isp_wkt.proofs.reader.items.Goals as goal

pub loop-preserved : goal.loop-preserved
loop-preserved g c =
    let added = c.in_ok-goes_on.ensures in
    goes_on (g.I.Item.item_at c.args.item.now) c.loop.found c.add.new.found c.args.most c.loop.counter c.loop.from added.0 c.in_ok-goes_on.goes_on c.add.new.from (items_at (g.I.Item.item_at c.args.item.now) c.args.most c.args.from.now)
    c.loop-test.true added.2 c.if-not-goes_on.false added.1 c.loop.invariant

pub returns-then-not-goes_on : goal.returns-then-not-goes_on
returns-then-not-goes_on g c =
    let added = c.in_ok-goes_on.ensures in
    is_done (g.I.Item.item_at c.args.item.now) c.loop.found c.add.new.found c.args.most c.loop.counter c.loop.from added.0 c.in_ok-goes_on.goes_on c.add.new.from (items_at (g.I.Item.item_at c.args.item.now) c.args.most c.args.from.now)
    c.loop-test.true added.2 c.if-not-goes_on.true added.1 c.loop.invariant
