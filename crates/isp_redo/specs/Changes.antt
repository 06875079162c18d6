-- What a change of the log makes of it, and what a stop within one leaves.
use Rattle.std.specs.Prelude.{◌≡◌, ◌⊎◌, ℕ, ◌+◌, List, [], ◌∷◌, ◌++◌, length, Result, OnErr, OnOk}
use Rattle.isp_disk.specs.Calls.{DiskCall}
use Rattle.isp_disk.specs.Moments.{Image, Region, Agree, LeavesOnly, Quiet, in_range, slice}
use Rattle.isp_disk.specs.declared.world.World.{Ghosts}
use Rattle.isp_format.specs.Log.{IsLog, Transaction, batch_head, log_bytes, log_of, log_place}
use Rattle.isp_format.specs.Numbers.{bytes_of}

-- the places of the log
abbrev pub in_log : Region
in_log = in_range log_place log_bytes

-- a length, a body and a closed gate behind the gate at a place of the disk
pub record HasBody (image : Image) (at : ℕ) (body : List ℕ) : Type 0 where
  pub size : slice image (at + 1) 4 ≡ bytes_of 4 (length body)
  pub stands : slice image (at + batch_head) (length body) ≡ body
  pub gate : image (at + batch_head + length body) ≡ 0

-- the batches of a log, and the place of the closed gate behind them
pub record LogState : Type 0 where
  pub batches : List (List Transaction)
  pub end : ℕ

-- these batches and one more, whose body has so many bytes
abbrev pub with_batch : List (List Transaction) → List Transaction → ℕ → ℕ → LogState
with_batch batches batch end size = record { batches = batches ++ batch ∷ []; end = end + batch_head + size }

-- the image has this log
abbrev pub HasLog : ℕ → LogState → Image → Type 0
HasLog pages log image = IsLog pages (log_of image) 0 log.batches log.end

-- an image with one of two logs, which is outside the log as it was
pub record HasLogOf (pages : ℕ) (old : Image) (one other : LogState) (left : Image) : Type 0 where
  pub log : HasLog pages one left ⊎ HasLog pages other left
  pub others : Agree in_log old left

-- A call that makes another log of one: each stop within it leaves one of the two, with nothing printed, and an Ok the other.
pub record TurnsLog {W T E : Type 0} (g : Ghosts W) (pages : ℕ) (one other : LogState) (old new : W) (result : Result T E) : Type 0 where
  pub stops : LeavesOnly g.clock g.left_since old new (λ left told. HasLogOf pages (g.image old) one other left × (told ≡ g.printed old))
  pub done : OnOk result (HasLog pages other (g.image new))

-- a call that changes no byte outside the log; an Ok leaves nothing pending
pub record ChangesLog {W T E : Type 0} (g : Ghosts W) (old new : W) (result : Result T E) : Type 0 where
  pub others : Agree in_log (g.image old) (g.image new)
  pub quiet : OnOk result (Quiet (g.pending new))
  pub calls : DiskCall g old new result

-- an Ok moves the end of the log to this place, and an Err leaves it
pub record MovesEnd {T E : Type 0} (old to new : ℕ) (result : Result T E) : Type 0 where
  pub moved : OnOk result (new ≡ to)
  pub kept : OnErr result (new ≡ old)
