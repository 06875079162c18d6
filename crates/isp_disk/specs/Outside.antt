-- What a program may rely on of what lies outside it: what was printed, what is left to read, and counts of faults that
-- name the cause of each `Failed`. This project's own words.
use Rattle.std.specs.Prelude.{◌≡◌, ◌⊎◌, ℕ, ◌-◌, ◌^◌, ◌<◌, ◌≤◌, List, [], ◌++◌, length, take, Result, IfOk, OnOk, OnErr}

-- where every count of faults stops
abbrev pub last_count : ℕ
last_count = 2 ^ 64 - 1

-- a count of faults rose: it is greater than it was, or stands at its last value
abbrev pub Rose : ℕ → ℕ → Type 0
Rose before now = (before < now) ⊎ (last_count ≤ now)

-- What a call does to its count of faults: the count never falls, an `Ok` leaves it where it was, and it rose at an `Err`.
pub record HasCause {T E : Type 0} (before now : ℕ) (result : Result T E) : Type 0 where
  pub later : before ≤ now
  pub steady : OnOk result (now ≡ before)
  pub failed : OnErr result (Rose before now)

-- the first bytes of a piece were printed, and no others
pub record PrintsPart (before piece now : List ℕ) : Type 0 where
  pub count : ℕ
  pub within : count ≤ length piece
  pub printed : now ≡ before ++ take count piece

-- A call of `print`: the whole piece was printed behind what was before, or at a failure a part of it.
pub record Prints {T E : Type 0} (before piece now : List ℕ) (result : Result T E) : Type 0 where
  pub whole : OnOk result (now ≡ before ++ piece)
  pub part : OnErr result (PrintsPart before piece now)

-- The first `count` bytes of the piece are the next ones of the source; it gives none only at its end.
pub record Gives (before : List ℕ) (count : ℕ) (piece now : List ℕ) : Type 0 where
  pub fits : count ≤ length piece
  pub next : before ≡ take count piece ++ now
  pub end : count ≡ 0 → before ≡ []

-- A call of `next`: it gives the next bytes, and a failure leaves all of them to be read.
pub record Reads {E : Type 0} (before piece now : List ℕ) (result : Result ℕ E) : Type 0 where
  pub given : IfOk result (λ count. Gives before count piece now)
  pub kept : OnErr result (now ≡ before)
