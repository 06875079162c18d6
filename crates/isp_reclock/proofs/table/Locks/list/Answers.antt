use Rattle.std.proofs.Common.{◌+◌, ◌∙◌, sym, ap, ℕ, ℤ, Bool, is_some, Option, rules, get_or}
use Rattle.std.specs.Ordering.{is_lt}
use Rattle.std.proofs.lemmas.List.Sorted.{answers_always}
use Rattle.isp_reclock.specs.declared.entries.Held.{Held}
use Rattle.isp_reclock.specs.declared.modes.Mode.{Mode}
use Rattle.isp_reclock.proofs.LockLemmas.{tuple_order}
use Rattle.isp_reclock.proofs.table.Locks.list.Goals as goal

abbrev key_of : Held → Bool × ℕ × Option ℤ × Mode
key_of held = (is_some held.key, held.table, held.key, held.mode)

pub returns-clause-order : goal.returns-clause-order
returns-clause-order c =
    let h = c.in_ok-sort_by_key.ensures.sorted key_of (answers_always _ _ _ (λ f a r q k. search rules)) in
    λ k d low high.
    sym (ap is_lt (tuple_order (get_or c.sort_by_key.new.self.items (k + 1) d) (get_or c.sort_by_key.new.self.items k d))) ∙ h k d low high
