-- What lies ahead of a place of the log is read from the log's bytes alone.
use Rattle.std.proofs.Common.{◌≡◌, ℕ, ◌+◌, ◌<◌, ◌≤◌, List, [], ◌∷◌, length, sym, ◌∙◌, arith}
use Rattle.isp_disk.specs.Moments.{Image}
use Rattle.isp_format.specs.Log.{IsLog, Transaction, log_bytes, log_of, log_place}
use Rattle.isp_format.specs.Ranges.{Range, SameIn}
use Rattle.isp_format.proofs.LogWalks.{log_inside, log_same}
use Rattle.isp_format.proofs.Slices.{slice_agree}
use Rattle.isp_redo.specs.Places.{IsAt, place_of}
use Rattle.isp_redo.specs.Reading.{AreRangesAt, AreTransactionsAt, IsRangeAt, IsTransactionAt}
use Rattle.isp_redo.specs.declared.ranges.LogPlace.{LogPlace}
use Rattle.isp_redo.proofs.PlaceLaws.{ranges_forward, transaction_forward, transactions_forward}

pub place_inside : (n : ℕ) → (place_of n).end < log_bytes
place_inside n = omega arith

-- two logs with the same bytes
abbrev pub SameBytes : Image → Image → Type 0
SameBytes one other = (place : ℕ) → place < log_bytes → one place ≡ other place

pub same_bytes : (one other : Image) → SameIn log_place log_bytes one other → SameBytes (log_of one) (log_of other)
same_bytes one other same place inside = same (log_place + place) (omega arith) (omega (arith, inside))

range_same : (pages : ℕ) (one other : Image) (at : ℕ) (range : Range) (next : ℕ) → SameBytes one other → next ≤ log_bytes → IsRangeAt pages one at range next → IsRangeAt pages other at range next
range_same pages one other at range next same fits is =
    let behind = is.behind in
    record {
      header = sym (slice_agree one other at 8 (λ place low high. same place (omega (arith, high, behind, fits)))) ∙ is.header;
      stands = sym (slice_agree one other (at + 8) (length range.bytes) (λ place low high. same place (omega (arith, high, behind, fits)))) ∙ is.stands;
      is = is.is;
      behind = is.behind;
    }

ranges_same : (pages : ℕ) (one other : Image) (at : ℕ) (ranges : List Range) (next : ℕ) → SameBytes one other → next ≤ log_bytes → AreRangesAt pages one at ranges next → AreRangesAt pages other at ranges next
ranges_same pages one other at [] next same fits is = is
ranges_same pages one other at (range ∷ ranges) next same fits (mid, is, rest) =
    let forward = ranges_forward pages one mid ranges next rest in
    (mid, range_same pages one other at range mid same (omega (arith, forward, fits)) is, ranges_same pages one other mid ranges next same fits rest)

transaction_same : (pages : ℕ) (one other : Image) (at : ℕ) (ranges : Transaction) (next : ℕ) → SameBytes one other → next ≤ log_bytes → IsTransactionAt pages one at ranges next → IsTransactionAt pages other at ranges next
transaction_same pages one other at ranges next same fits is =
    let forward = transaction_forward pages one at ranges next is in
    record {
      count = sym (slice_agree one other at 2 (λ place low high. same place (omega (arith, high, forward, fits)))) ∙ is.count;
      few = is.few;
      each = ranges_same pages one other (at + 2) ranges next same fits is.each;
    }

transactions_same : (pages : ℕ) (one other : Image) (at : ℕ) (transactions : List Transaction) (next : ℕ) → SameBytes one other → next ≤ log_bytes → AreTransactionsAt pages one at transactions next → AreTransactionsAt pages other at transactions next
transactions_same pages one other at [] next same fits is = is
transactions_same pages one other at (first ∷ others) next same fits (mid, is, rest) =
    let forward = transactions_forward pages one mid others next rest in
    (mid, transaction_same pages one other at first mid same (omega (arith, forward, fits)) is, transactions_same pages one other mid others next same fits rest)

batches_same : (pages : ℕ) (one other : Image) (at : ℕ) (batches : List (List Transaction)) (end : ℕ) → SameBytes one other → at < log_bytes → IsLog pages one at batches end → IsLog pages other at batches end
batches_same pages one other at batches end same inside is =
    let within = log_inside pages one at batches end is inside in
    log_same pages one other at batches end is (λ k small. same (at + k) (omega (arith, small, within)))

-- the same ranges lie ahead
pub ahead_same : (pages : ℕ) (one other : Image) (place : LogPlace) (ranges : List Range) → SameBytes one other → place.end < log_bytes → IsAt pages one place ranges → IsAt pages other place ranges
ahead_same pages one other place ranges same inside is =
    let forward = transactions_forward pages one is.mid is.inside place.end is.rest in
    record {
      first = is.first;
      inside = is.inside;
      behind = is.behind;
      mid = is.mid;
      last = is.last;
      count = is.count;
      here = ranges_same pages one other place.at is.first is.mid same (omega (arith, forward, inside)) is.here;
      rest = transactions_same pages one other is.mid is.inside place.end same (omega (arith, inside)) is.rest;
      log_is = batches_same pages one other place.end is.behind is.last same inside is.log_is;
      ranges_are = is.ranges_are;
    }
