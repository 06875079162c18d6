use Rattle.std.proofs.Common.{length-set, arith}
use Rattle.isp_waits.proofs.LevelLemmas.{level_filled, level_whole}
use Rattle.isp_waits.proofs.graph.Waits.before.Goals as goal

pub loop-v-preserved : goal.loop-v-preserved
loop-v-preserved c =
    let size = c.loop-v.invariant.2 in
    let lt = c.loop-v-test.true in (
      level_filled c.args.self.now c.args.level.now c.loop-v.found c.loop-v.v c.leads_to.result c.loop-v.invariant.0 c.leads_to.ensures.on (omega arith),
      λ _. c.leads_to.ensures.sessions,
      omega (arith, length-set c.loop-v.found c.loop-v.v c.leads_to.result),
    )

pub returns-clause-on : goal.returns-clause-on
returns-clause-on c =
    let t = c.loop-v-test.false in
    level_whole c.args.self.now c.args.level.now c.loop-v.found (λ k lt. c.loop-v.invariant.0 k (omega arith)) (c.loop-v.invariant.1 (omega arith)) c.loop-v.invariant.2
