use Rattle.std.proofs.Common.{◌≡◌, ◌∙◌, length, arith, rules, ⊎_elim}
use Rattle.std.proofs.lemmas.Bool.{cases_lt}
use Rattle.std.proofs.lemmas.List.{length-map}
use Rattle.isp_waits.proofs.Lists.{graph_of, waits_at, waits_past, no_list}
use Rattle.isp_waits.proofs.graph.Waits.new.Goals as goal

pub returns : goal.returns
returns c =
    λ s. ⊎_elim (λ lt. waits_at c.from_fn.result s ∙ (let made = c.from_fn.ensures.items.at s no_list lt in search (rules, made)))
    (λ past.
    let long : length c.from_fn.result ≡ 17 = c.from_fn.ensures.items.long in
    waits_past (graph_of c.from_fn.result) s (omega (arith, length-map c.from_fn.result (λ list. list.items))))
    (cases_lt s 17)
