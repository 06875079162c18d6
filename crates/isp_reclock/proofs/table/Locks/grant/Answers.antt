use Rattle.std.proofs.Common.{◌∙◌, ap, cond, [], ◌∷◌, ◌++◌}
use Rattle.isp_reclock.proofs.LockLemmas.{any_same}
use Rattle.isp_reclock.proofs.table.Locks.grant.Goals as goal

pub returns-clause-granted : goal.returns-clause-granted
returns-clause-granted c =
    rw (← c.self.view_is) (c.in_ok-insert-2.ensures.keys ∙ ap (λ b. cond b c.self.inside.locks.keys (c.self.inside.locks.keys ++ c.args.lock ∷ [])) (any_same c.args.lock c.self.inside.locks.keys))
