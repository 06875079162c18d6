-- Who stands in the way of a lock, and what an asker is told.
use Rattle.std.specs.Prelude.{List, [], ℕ, Option, None, Some, ◌≡◌, ◌==◌, ◌<◌, ◌&&◌, if◌then◌else◌, ◌↔◌, find, map, length, Contains}
use Rattle.std.specs.Option.{option_map}
use Rattle.std.specs.List.Sorted.{IsStrictlyIncreasing}
use Rattle.isp_reclock.specs.declared.entries.Lock.{Lock}
use Rattle.isp_reclock.specs.declared.entries.Blocker.{Blocker}
use Rattle.isp_reclock.specs.declared.entries.Asked.{Asked}
use Rattle.isp_reclock.specs.declared.entries.Asked.TheVariants.{Granted, Conflict}
use Rattle.isp_reclock.specs.declared.modes.Mode.{Mode}
use Rattle.isp_reclock.specs.Modes.{conflicts, modes}
use Rattle.isp_reclock.specs.Tables.{holds, with_lock}

-- the lock of a transaction on what another asks for
abbrev pub lock_of : ℕ → Lock → Mode → Lock
lock_of trx asked mode = record { trx = trx; held = record { table = asked.held.table; key = asked.held.key; mode = mode } }

-- the first of the transaction's modes on what is asked for that conflicts, in the order IS, IX, S, X
abbrev pub first_conflict : List Lock → Lock → ℕ → Option Mode
first_conflict locks asked trx = find (λ mode. conflicts mode asked.held.mode && holds locks (lock_of trx asked mode)) modes

-- how a transaction stands in the way: never in its own, and with the first of its modes that conflicts
abbrev pub blocker_of : List Lock → Lock → ℕ → Option Blocker
blocker_of locks asked trx =
    if trx == asked.trx then None else option_map (λ mode. record { trx = trx; held = mode }) (first_conflict locks asked trx)

-- the list names, rising and so each once, exactly the transactions that stand in the way
pub record AreBlockers (locks : List Lock) (asked : Lock) (by : List Blocker) : Type 0 where
  pub rising : IsStrictlyIncreasing (map (λ b. b.trx) by)
  pub exact : (b : Blocker) → Contains by b ↔ (blocker_of locks asked b.trx ≡ Some b)

-- the answer to one that asks, and the table then: granted where nobody stands in the way; else nothing changes
abbrev pub Answers : List Lock → Lock → Asked → List Lock → Type 0
Answers old asked Granted new = AreBlockers old asked [] × (new ≡ with_lock old asked)
Answers old asked (Conflict by) new = (0 < length by.items) × AreBlockers old asked by.items × (new ≡ old)
