-- The log as it is read, from a place on: ranges, mini-transactions and batches, each with the place behind it.
use Rattle.std.specs.Prelude.{◌≡◌, ◌≢◌, ℕ, ◌+◌, ◌^◌, ◌<◌, ◌≤◌, List, [], ◌∷◌, ◌++◌, length, Option, Some, None}
use Rattle.isp_disk.specs.Moments.{Image, slice}
use Rattle.isp_format.specs.Log.{IsBatch, IsLog, Transaction, count_size, log_bytes, range_head}
use Rattle.isp_format.specs.Numbers.{bytes_of}
use Rattle.isp_format.specs.Ranges.{IsRange, Range}
use Rattle.isp_redo.specs.declared.scan.Step.{Step}
use Rattle.isp_redo.specs.declared.scan.Step.TheVariants as step

-- a range, and the place behind it
pub record IsRangeAt (pages : ℕ) (log : Image) (at : ℕ) (range : Range) (next : ℕ) : Type 0 where
  pub header : slice log at range_head ≡ bytes_of 4 range.page ++ (bytes_of 2 range.at ++ bytes_of 2 (length range.bytes))
  pub stands : slice log (at + range_head) (length range.bytes) ≡ range.bytes
  pub is : IsRange pages range
  pub behind : next ≡ at + range_head + length range.bytes

-- ranges one behind the other
abbrev pub AreRangesAt : ℕ → Image → ℕ → List Range → ℕ → Type 0
AreRangesAt pages log at [] next = next ≡ at
AreRangesAt pages log at (range ∷ ranges) next = (mid : ℕ) × IsRangeAt pages log at range mid × AreRangesAt pages log mid ranges next

-- a mini-transaction: how many ranges, and the ranges
pub record IsTransactionAt (pages : ℕ) (log : Image) (at : ℕ) (ranges : Transaction) (next : ℕ) : Type 0 where
  pub count : slice log at count_size ≡ bytes_of 2 (length ranges)
  pub few : length ranges < 256 ^ 2
  pub each : AreRangesAt pages log (at + count_size) ranges next

abbrev pub AreTransactionsAt : ℕ → Image → ℕ → List Transaction → ℕ → Type 0
AreTransactionsAt pages log at [] next = next ≡ at
AreTransactionsAt pages log at (first ∷ others) next = (mid : ℕ) × IsTransactionAt pages log at first mid × AreTransactionsAt pages log mid others next

-- the place behind the range there, or none where no range is there that ends by the end
abbrev pub FindsRange : ℕ → Image → ℕ → ℕ → Option ℕ → Type 0
FindsRange pages log at end (Some next) = (range : Range) × IsRangeAt pages log at range next
FindsRange pages log at end None = (range : Range) (next : ℕ) → next ≤ end → IsRangeAt pages log at range next → ⊥

abbrev pub FindsTransaction : ℕ → Image → ℕ → ℕ → Option ℕ → Type 0
FindsTransaction pages log at end (Some next) = (ranges : Transaction) × IsTransactionAt pages log at ranges next
FindsTransaction pages log at end None = (ranges : Transaction) (next : ℕ) → next ≤ end → IsTransactionAt pages log at ranges next → ⊥

-- whether the bytes from a place to the end are mini-transactions, one or more
abbrev pub FindsBody : ℕ → Image → ℕ → ℕ → Option ℕ → Type 0
FindsBody pages log at end (Some next) = (transactions : List Transaction) × (1 ≤ length transactions) × AreTransactionsAt pages log at transactions end × (next ≡ end)
FindsBody pages log at end None = (transactions : List Transaction) → 1 ≤ length transactions → AreTransactionsAt pages log at transactions end → ⊥

-- what stands at the place of a gate
abbrev pub FindsBatch : ℕ → Image → ℕ → Step → Type 0
FindsBatch pages log at step.End = log at ≢ 1
FindsBatch pages log at (step.Batch next) = (batch : List Transaction) × IsBatch pages log at batch next
FindsBatch pages log at step.Broken = (log at ≡ 1) × ((batch : List Transaction) (next : ℕ) → IsBatch pages log at batch next → ⊥)

-- a place behind another one, by the end
abbrev pub IsOnward : ℕ → ℕ → Option ℕ → Type 0
IsOnward at end (Some next) = (at < next) × (next ≤ end)
IsOnward at end None = Unit {0}

abbrev pub StepsOn : ℕ → Step → Type 0
StepsOn at step.End = Unit {0}
StepsOn at (step.Batch next) = (at < next) × (next < log_bytes)
StepsOn at step.Broken = Unit {0}

-- the place of the gate that ends the log, or none where it can't be read to its end
abbrev pub FindsEnd : ℕ → Image → Option ℕ → Type 0
FindsEnd pages log (Some end) = (batches : List (List Transaction)) × IsLog pages log 0 batches end
FindsEnd pages log None = (batches : List (List Transaction)) (end : ℕ) → IsLog pages log 0 batches end → ⊥
