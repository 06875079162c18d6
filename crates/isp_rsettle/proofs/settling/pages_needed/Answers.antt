use Rattle.std.proofs.Common.{rules, ◌≤◌, length}
use Rattle.isp_rsettle.proofs.NeedLaws.{counted_all}
use Rattle.isp_rsettle.proofs.settling.pages_needed.Goals as goal

pub returns : goal.returns
returns c =
    let all : length c.args.steps.now ≤ c.loop-step.step-index = search rules in
    counted_all c.args.steps.now c.loop-step.step-index c.loop-step.count all c.loop-step.invariant.0
