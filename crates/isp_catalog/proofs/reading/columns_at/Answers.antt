use Rattle.isp_catalog.specs.Reading.{columns_in}
use Rattle.isp_catalog.proofs.ColumnLoop.{goes_on}
use Rattle.isp_catalog.proofs.reading.columns_at.Goals as goal

pub loop-k-preserved : goal.loop-k-preserved
loop-k-preserved c =
    goes_on c.args.p.now.bytes c.args.at c.args.count c.loop-k.k c.loop-k.columns c.push.new.self c.in_ok-column.column (columns_in c.args.p.now.bytes c.args.at c.args.count) c.loop-k-test.true c.in_ok-column.ensures c.in_ok-push.ensures.ok c.loop-k.invariant
