use Rattle.std.proofs.Common.{rules, ◌==◌, not, ap, ◌∙◌, sym}
use Rattle.std.proofs.lemmas.Fn.{filter_same}
use Rattle.isp_reclock.specs.Tables.{holds}
use Rattle.isp_reclock.proofs.BlockerLemmas.{apart_at}
use Rattle.isp_reclock.proofs.LockLemmas.{holds-without}
use Rattle.isp_reclock.proofs.table.Locks.release_all.Goals as goal

pub invariant_of-self : goal.invariant_of-self
invariant_of-self c =
    let kept = filter_same _ (λ lock. not (lock.trx == c.args.trx)) _ (λ x b f' k. search rules) _ _ c.retain.ensures.filtered in
    record {
      known = λ lock h.
          let was = holds-without c.self.inside.locks.keys c.args.trx lock (sym (ap (λ ks. holds ks lock) kept) ∙ h) in
          c.remove.ensures.updates.2 lock.trx (apart_at c.args.trx lock.trx was.1) ∙ c.self.invariant.known lock was.0;
    }

pub returns : goal.returns
returns c = rw (← c.self.view_is) (filter_same _ (λ lock. not (lock.trx == c.args.trx)) _ (λ x b f' k. search rules) _ _ c.retain.ensures.filtered)
