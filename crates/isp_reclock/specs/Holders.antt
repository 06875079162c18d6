-- What a lock table keeps of itself.
use Rattle.std.specs.Prelude.{true, ◌≡◌}
use Rattle.std.specs.Ordering.{nat_cmp}
use Rattle.std.specs.BTreeSet.{contains}
use Rattle.isp_reclock.specs.declared.entries.Lock.{Lock}
use Rattle.isp_reclock.specs.declared.table.Locks.TheInside.{Inside}
use Rattle.isp_reclock.specs.Tables.{holds}

-- who holds a lock is among the holders
pub record KnowsHolders (table : Inside) : Type 0 where
  pub known : (lock : Lock) → holds table.locks.keys lock ≡ true → contains nat_cmp table.holders lock.trx ≡ true
