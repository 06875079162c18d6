-- A lock table is a list of locks: who holds which table or key, and how.
use Rattle.std.specs.Prelude.{Bool, List, ◌∷◌, [], ◌++◌, ℕ, ℤ, Some, None, ◌==◌, ◌&&◌, ◌||◌, not, filter, map, if◌then◌else◌, IsTrue}
use Rattle.std.specs.List.{list_any}
use Rattle.std.specs.Option.{option_eq}
use Rattle.std.specs.Ordering.{int_eq}
use Rattle.isp_reclock.specs.declared.entries.Held.{Held}
use Rattle.isp_reclock.specs.declared.entries.Lock.{Lock}
use Rattle.isp_reclock.specs.declared.modes.Mode.{Mode}
use Rattle.isp_reclock.specs.declared.modes.Mode.TheVariants.{X}
use Rattle.isp_reclock.specs.Modes.{is_mode}

-- a lock on a table, and one on a key, which need not have a row
abbrev pub table_lock : ℕ → ℕ → Mode → Lock
table_lock trx table mode = record { trx = trx; held = record { table = table; key = None; mode = mode } }

abbrev pub key_lock : ℕ → ℕ → ℤ → Mode → Lock
key_lock trx table key mode = record { trx = trx; held = record { table = table; key = Some key; mode = mode } }

-- the same transaction, the same thing, the same mode
abbrev pub is_lock : Lock → Lock → Bool
is_lock a b = (a.trx == b.trx) && ((a.held.table == b.held.table) && (option_eq int_eq a.held.key b.held.key && is_mode a.held.mode b.held.mode))

-- the lock is one of those held
abbrev pub holds : List Lock → Lock → Bool
holds locks lock = list_any (is_lock lock) locks

-- the table with one more lock, which is there once
abbrev pub with_lock : List Lock → Lock → List Lock
with_lock locks lock = if holds locks lock then locks else locks ++ lock ∷ []

-- the table without what the transaction holds
abbrev pub without : List Lock → ℕ → List Lock
without locks trx = filter (λ lock. not (lock.trx == trx)) locks

-- what the transaction holds
abbrev pub held_by : List Lock → ℕ → List Held
held_by locks trx = map (λ lock. lock.held) (filter (λ lock. lock.trx == trx) locks)

-- the transaction holds X on the key or on its table
abbrev pub takes : List Lock → ℕ → ℤ → ℕ → Bool
takes locks table key trx = holds locks (key_lock trx table key X) || holds locks (table_lock trx table X)

-- some transaction does
abbrev pub IsTaken : List Lock → ℕ → ℤ → Type 0
IsTaken locks table key = (trx : ℕ) × IsTrue (takes locks table key trx)
