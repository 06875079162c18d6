use Rattle.std.proofs.Common.{◌≡◌, ◌&&◌, drop}
use Rattle.std.specs.List.{find}
use Rattle.isp_reclock.specs.Modes.{conflicts, modes}
use Rattle.isp_reclock.specs.Tables.{holds}
use Rattle.isp_reclock.specs.Blockers.{lock_of, first_conflict}
use Rattle.isp_reclock.proofs.table.Locks.first_conflict.Given as goal

abbrev pub invariant-loop-mode : goal.invariant-loop-mode
invariant-loop-mode l =
    first_conflict l.self l.asked l.trx ≡ find (λ mode. conflicts mode l.asked.held.mode && holds l.self (lock_of l.trx l.asked mode)) (drop l.mode-index modes)
