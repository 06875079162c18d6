use Rattle.std.proofs.lemmas.Result.{err_from_is_err_and}
use Rattle.isp_geom.specs.Reading.{items_at, form_at}
use Rattle.isp_geom.proofs.Sequences.{ends, is_done, goes_on}
use Rattle.isp_geom.proofs.read.+forms.Goals as goal

pub so_many-returns-in_err-form : goal.so_many-returns-in_err-form
so_many-returns-in_err-form t c =
    let p = err_from_is_err_and c.from_residual.result c.from_residual.ensures.1 in
    rw (p.1, p.2) (ends (form_at c.args.levels) c.in_err-form.field-0.0 c.loop.found c.args.count c.loop.counter c.loop.from c.form.new.from (items_at (form_at c.args.levels) c.args.count c.args.from.now) c.loop-test.true c.in_err-form.ensures c.loop.invariant)

pub so_many-loop-preserved : goal.so_many-loop-preserved
so_many-loop-preserved t c = goes_on (form_at c.args.levels) c.loop.found c.push.new.self c.args.count c.loop.counter c.loop.from c.in_ok-form.field-0 c.form.new.from (items_at (form_at c.args.levels) c.args.count c.args.from.now) c.loop-test.true c.in_ok-form.ensures c.in_ok-push.ensures.ok c.loop.invariant

pub so_many-returns : goal.so_many-returns
so_many-returns t c = is_done (form_at c.args.levels) c.loop.found c.args.count c.loop.counter c.loop.from (items_at (form_at c.args.levels) c.args.count c.args.from.now) c.loop-test.false c.loop.invariant
