use Rattle.std.proofs.Common.{ℕ, ℤ, rules}
use Rattle.std.proofs.lemmas.List.Sorted.{answers_always}
use Rattle.isp_trx.specs.declared.keys.RowKey.{RowKey}
use Rattle.isp_trx.proofs.order.rising.Goals as goal

abbrev pair_of : RowKey → ℕ × ℤ
pair_of at = (at.table, at.key)

pub returns-clause-order : goal.returns-clause-order
returns-clause-order c =
    let h = c.sort_unstable_by_key.ensures.sorted pair_of (answers_always _ _ _ (λ f a r q k. search rules)) in
    λ k d low high. h k d low high
