-- Places of the log: they rise from range to range, and all of the log lies ahead of its beginning.
use Rattle.std.proofs.Common.{ℕ, ◌+◌, ◌≤◌, List, [], ◌∷◌, refl, arith}
use Rattle.isp_disk.specs.Moments.{Image}
use Rattle.isp_format.specs.Contents.{ranges_of}
use Rattle.isp_format.specs.Log.{IsLog, Transaction}
use Rattle.isp_format.specs.Ranges.{Range}
use Rattle.isp_redo.specs.Places.{IsAt}
use Rattle.isp_redo.specs.Reading.{AreRangesAt, AreTransactionsAt, IsRangeAt, IsTransactionAt}

pub range_forward : (pages : ℕ) (log : Image) (at : ℕ) (range : Range) (next : ℕ) → IsRangeAt pages log at range next → at + 9 ≤ next
range_forward pages log at range next is = omega (arith, is.behind, is.is.some)

pub ranges_forward : (pages : ℕ) (log : Image) (at : ℕ) (ranges : List Range) (next : ℕ) → AreRangesAt pages log at ranges next → at ≤ next
ranges_forward pages log at [] next is = omega (arith, is)
ranges_forward pages log at (range ∷ ranges) next (mid, is, rest) = omega (arith, range_forward pages log at range mid is, ranges_forward pages log mid ranges next rest)

pub transaction_forward : (pages : ℕ) (log : Image) (at : ℕ) (ranges : Transaction) (next : ℕ) → IsTransactionAt pages log at ranges next → at + 2 ≤ next
transaction_forward pages log at ranges next is = ranges_forward pages log (at + 2) ranges next is.each

pub transactions_forward : (pages : ℕ) (log : Image) (at : ℕ) (ts : List Transaction) (next : ℕ) → AreTransactionsAt pages log at ts next → at ≤ next
transactions_forward pages log at [] next is = omega (arith, is)
transactions_forward pages log at (t ∷ ts) next (mid, is, rest) = omega (arith, transaction_forward pages log at t mid is, transactions_forward pages log mid ts next rest)

-- all of the log lies ahead of its beginning
pub begins_at : (pages : ℕ) (log : Image) (batches : List (List Transaction)) (end : ℕ) → IsLog pages log 0 batches end → IsAt pages log (record { at = 0; left = 0; end = 0 }) (ranges_of batches)
begins_at pages log batches end is = record { first = []; inside = []; behind = batches; mid = 0; last = end; count = refl; here = refl; rest = refl; log_is = is; ranges_are = refl }
