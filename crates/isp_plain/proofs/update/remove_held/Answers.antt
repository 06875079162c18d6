use Rattle.std.proofs.Common.{not, rules, arith, length, ap, ◌∙◌}
use Rattle.std.proofs.lemmas.Map.Made.{filter_same_pairs}
use Rattle.isp_plain.specs.Conditions.{holds}
use Rattle.isp_plain.proofs.EntriesChanged.{counted}
use Rattle.isp_plain.proofs.update.remove_held.Goals as goal

pub returns-clause-rest : goal.returns-clause-rest
returns-clause-rest c =
    filter_same_pairs _ (λ e. not (holds c.args.condition.now e.1)) _ (λ k v b w f t. search rules) c.args.entries.now.entries c.retain.new.self.entries c.retain.ensures.filtered

pub returns-clause-count : goal.returns-clause-count
returns-clause-count c =
    let rest = filter_same_pairs _ (λ e. not (holds c.args.condition.now e.1)) _ (λ k v b w f t. search rules) c.args.entries.now.entries c.retain.new.self.entries c.retain.ensures.filtered in
    let left = c.len.ensures.len ∙ ap length rest in
    let all = counted (holds c.args.condition.now) c.args.entries.now.entries in
    omega (arith, left, all, c.len-before.ensures.len)
