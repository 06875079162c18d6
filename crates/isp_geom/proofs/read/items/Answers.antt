use Rattle.std.proofs.lemmas.Result.{err_from_is_err_and}
use Rattle.isp_geom.specs.Reading.{items_at}
use Rattle.isp_geom.proofs.Sequences.{ends, is_done, goes_on}
use Rattle.isp_geom.proofs.read.items.Goals as goal

pub returns-in_err-read : goal.returns-in_err-read
returns-in_err-read g c =
    let p = err_from_is_err_and c.from_residual.result c.from_residual.ensures.1 in
    rw (p.1, p.2) (ends g.T.Read.read_at c.in_err-read.field-0.0 c.loop.found c.args.count c.loop.counter c.loop.from c.read.new.from (items_at g.T.Read.read_at c.args.count c.args.from.now) c.loop-test.true c.in_err-read.ensures c.loop.invariant)

pub loop-preserved : goal.loop-preserved
loop-preserved g c = goes_on g.T.Read.read_at c.loop.found c.push.new.self c.args.count c.loop.counter c.loop.from c.in_ok-read.field-0 c.read.new.from (items_at g.T.Read.read_at c.args.count c.args.from.now) c.loop-test.true c.in_ok-read.ensures c.in_ok-push.ensures.ok c.loop.invariant

pub returns : goal.returns
returns g c = is_done g.T.Read.read_at c.loop.found c.args.count c.loop.counter c.loop.from (items_at g.T.Read.read_at c.args.count c.args.from.now) c.loop-test.false c.loop.invariant
