use Rattle.std.proofs.Common.{◌≡◌, ◌∙◌, ◌==◌, ◌+◌, suc, false, length, length-set, refl, ap, sym, arith, ⊎_elim}
use Rattle.std.specs.Prelude.{replicate}
use Rattle.std.proofs.lemmas.Bool.{cases_lt}
use Rattle.isp_waits.specs.Cycles.{IsLeastCycle}
use Rattle.isp_waits.specs.Levels.{reaches, walk}
use Rattle.isp_waits.proofs.LevelLemmas.{first_level, level_more}
use Rattle.isp_waits.proofs.Rounds.{idle_free, no_cycle, least_cycle, cycle_sessions}
use Rattle.isp_waits.proofs.graph.Waits.cycle_from.Goals as goal

pub returns-then-is_empty-clause-none : goal.returns-then-is_empty-clause-none
returns-then-is_empty-clause-none c =
    idle_free c.args.self.now c.args.s (ap (λ list. length list == 0) (sym c.waits_for.ensures.list) ∙ sym c.is_empty.ensures ∙ c.if-is_empty.true)

pub loop-steps-init : goal.loop-steps-init
loop-steps-init c =
    (first_level c.args.self.now c.args.s c.alone.result (replicate 17 (replicate 17 false)) c.alone.ensures, λ k lt. absurd (omega arith), λ lt. absurd (omega arith), refl)

pub trace-requires-clause-levels : goal.trace-requires-clause-levels
trace-requires-clause-levels c =
    let n = c.loop-steps.steps in
    let long = c.loop-steps.invariant.3 in
    let lt = c.loop-steps-test.true in
    λ k low. level_more c.args.self.now c.args.s n c.loop-steps.levels c.before-in-loop-steps.result c.loop-steps.invariant.0 (omega arith) c.before-in-loop-steps.ensures.on k (omega arith)

-- the cycle that is found is the least
found : (c : goal.After-trace) → IsLeastCycle c.args.self.now c.args.s c.trace.result.items
found c =
    let n = c.loop-steps.steps in
    let long = c.loop-steps.invariant.3 in
    let lt = c.loop-steps-test.true in
    let on = (level_more c.args.self.now c.args.s n c.loop-steps.levels c.before-in-loop-steps.result c.loop-steps.invariant.0 (omega arith) c.before-in-loop-steps.ensures.on (n + 1) (omega arith)).1 in
    let next : suc n ≡ n + 1 = omega arith in
    least_cycle c.args.self.now c.args.s n
    (ap (λ k. reaches c.args.self.now c.args.s k c.args.s) next ∙ sym (on c.args.s) ∙ sym c.is_on.ensures ∙ c.if-is_on.true)
    c.loop-steps.invariant.1 c.trace.result.items
    (c.trace.ensures ∙ ap (λ k. walk c.args.self.now c.args.s k c.args.s) (sym next))

pub returns-then-is_on-clause-found : goal.returns-then-is_on-clause-found
returns-then-is_on-clause-found c = found c

pub returns-then-is_on-clause-sessions : goal.returns-then-is_on-clause-sessions
returns-then-is_on-clause-sessions c =
    cycle_sessions c.args.self.now 17 c.trace.result.items (found c).cycle c.before-in-loop-steps.ensures.sessions

pub loop-steps-preserved : goal.loop-steps-preserved
loop-steps-preserved c =
    let n = c.loop-steps.steps in
    let long = c.loop-steps.invariant.3 in
    let lt = c.loop-steps-test.true in
    let more = level_more c.args.self.now c.args.s n c.loop-steps.levels c.before-in-loop-steps.result c.loop-steps.invariant.0 (omega arith) c.before-in-loop-steps.ensures.on in
    let here = (more (n + 1) (omega arith)).1 c.args.s in (
      more,
      λ k low. ⊎_elim (c.loop-steps.invariant.1 k)
          (λ top. let next : suc k ≡ n + 1 = omega arith in
          ap (λ i. reaches c.args.self.now c.args.s i c.args.s) next ∙ sym here ∙ sym c.is_on.ensures ∙ c.if-is_on.false)
          (cases_lt k n),
      λ _. c.before-in-loop-steps.ensures.sessions,
      omega (arith, length-set c.loop-steps.levels (n + 1) c.before-in-loop-steps.result),
    )

pub returns-clause-none : goal.returns-clause-none
returns-clause-none c =
    let long = c.loop-steps-test.false in
    let size = c.loop-steps.invariant.2 (omega arith) in
    no_cycle c.args.self.now c.args.s (λ k lt. c.loop-steps.invariant.1 k (omega arith))
