use Rattle.std.proofs.Common.{◌≡◌, ◌+◌, ◌≤◌, drop}
use Rattle.isp_rsettle.specs.Settling.{root_needs}
use Rattle.isp_rsettle.proofs.NeedLaws.{all_needs}
use Rattle.isp_rsettle.proofs.settling.pages_needed.Given as goal

abbrev pub invariant-loop-step : goal.invariant-loop-step
invariant-loop-step l = (l.count + all_needs (drop l.step-index l.steps) ≡ root_needs l.steps + all_needs l.steps) × (l.count ≤ l.step-index + 1)
