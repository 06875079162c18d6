use Rattle.std.proofs.Common.{sym, ap}
use Rattle.isp_exec.specs.declared.step.Step.TheVariants.{Ready}
use Rattle.isp_exec.proofs.AtLaws.{ready_at}
use Rattle.isp_exec.proofs.GoesLaws.{goes_as, rolls_on, was_ready}
use Rattle.isp_exec.proofs.stepping.step.Goals as goal

pub returns-in-RollingBack-clause-rolls : goal.returns-in-RollingBack-clause-rolls
returns-in-RollingBack-clause-rolls g c tells d opened phase =
    rolls_on g.P.Pages c.step_rolling_back.new.pages c.args.tables.now c.step_rolling_back.new.trx c.args.work.now d phase c.step_rolling_back.result (c.step_rolling_back.ensures.rolls tells d opened)

pub returns-in-RollingBack-clause-back : goal.returns-in-RollingBack-clause-back
returns-in-RollingBack-clause-back g c tells d opened phase = c.step_rolling_back.ensures.back tells d opened

pub returns-in-Ready-clause-goes : goal.returns-in-Ready-clause-goes
returns-in-Ready-clause-goes g c tells start at =
    let work = c.args.work.now in
    let old = c.args.pages.now in
    let defs = c.args.tables.now in
    let trx = c.args.trx.now in
    let phase = sym c.in-Ready.ensures in
    goes_as g.P.Pages old defs trx start work at old defs trx _ _ _ (Ready work.reply) c.answer.ensures.rest (ap Ready c.answer.ensures.result)
    (was_ready g.P.Pages old defs trx start work at old defs trx phase (ready_at g.P.Pages old defs trx start work at phase))
