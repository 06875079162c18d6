use Rattle.std.proofs.Common.{◌∙◌, ◌==◌, not, filter, ap, sym, arith, ⊎_elim}
use Rattle.std.proofs.lemmas.Bool.{cases_lt}
use Rattle.isp_waits.proofs.Lists.{waits_past}
use Rattle.isp_waits.proofs.graph.Waits.ended.Goals as goal

pub returns-clause-others : goal.returns-clause-others
returns-clause-others c =
    λ k ne. c.stop_waiting.ensures.others k ne
    ∙ ⊎_elim (λ lt. c.loop-k.invariant.0 k (let t = c.loop-k-test.false in omega arith))
    (λ past.
    let t = c.loop-k-test.false in
    let size = c.loop-k.invariant.2 (omega arith) in
    let same = c.loop-k.invariant.1 k (let top = c.loop-k.auto.k-end in omega arith) in
    let none = waits_past c.loop-k.self k (omega arith) in
    none ∙ ap (filter (λ b. not (b == c.args.s))) (sym none ∙ same)) (cases_lt k 17)
