-- A place between the ranges of the log, as the ranges that lie ahead of it. It is told as one number that callers don't
-- look into.
use Rattle.std.specs.Prelude.{◌≡◌, ℕ, ◌+◌, ◌/◌, ◌%◌, ◌<◌, ◌≤◌, List, [], ◌∷◌, ◌++◌, ◌*◌, length, take, Option, Some, None}
use Rattle.std.specs.List.{flat_map}
use Rattle.isp_disk.specs.Moments.{Image}
use Rattle.isp_format.specs.Contents.{ranges_of}
use Rattle.isp_format.specs.Log.{IsLog, Transaction, log_bytes}
use Rattle.isp_format.specs.Ranges.{Range, page_bytes}
use Rattle.isp_redo.specs.Reading.{AreRangesAt, AreTransactionsAt}
use Rattle.isp_base.specs.declared.page_no.PageNo.{PageNo}
use Rattle.isp_redo.specs.declared.ranges.LogPlace.{LogPlace}
use Rattle.isp_redo.specs.declared.ranges.LogRange.{LogRange}

-- one more than how many ranges a mini-transaction may have
abbrev pub most_left : ℕ
most_left = 65536

-- the place that a number tells: a place of the log, how many ranges of its mini-transaction lie ahead, and the end of
-- its body
abbrev pub place_of : ℕ → LogPlace
place_of n = record { at = n % log_bytes; left = n / log_bytes % most_left; end = n / (log_bytes * most_left) % log_bytes }

-- these ranges lie ahead: those of the mini-transaction, those of the body behind it, those of the batches behind that
pub record IsAt (pages : ℕ) (log : Image) (place : LogPlace) (ranges : List Range) : Type 0 where
  pub first : List Range
  pub inside : List Transaction
  pub behind : List (List Transaction)
  pub mid : ℕ
  pub last : ℕ
  pub count : length first ≡ place.left
  pub here : AreRangesAt pages log place.at first mid
  pub rest : AreTransactionsAt pages log mid inside place.end
  pub log_is : IsLog pages log place.end behind last
  pub ranges_are : ranges ≡ first ++ (flat_map (λ transaction. transaction) inside ++ ranges_of behind)

-- the same ranges lie ahead of the next place; or none do
abbrev pub LeadsOn : ℕ → Image → LogPlace → Option LogPlace → Type 0
LeadsOn pages log place (Some next) = (ranges : List Range) → IsAt pages log place ranges → IsAt pages log next ranges
LeadsOn pages log place None = (ranges : List Range) → IsAt pages log place ranges → ranges ≡ []

-- a place further on in the log
abbrev pub GoesOn : LogPlace → Option LogPlace → Type 0
GoesOn place (Some next) = (place.at < next.at) × (next.at ≤ next.end) × (next.end < log_bytes) × (next.left < most_left)
GoesOn place None = Unit {0}

abbrev pub number : PageNo → ℕ
number page = page.0

-- the first of the ranges that lie ahead, and a number that tells the place behind it; none where none lies ahead
abbrev pub TakesRange : ℕ → Image → List Range → List ℕ → Option LogRange → Type 0
TakesRange pages log ranges into (Some found) =
    (range : Range) × (rest : List Range) × (ranges ≡ range ∷ rest)
    × (number found.page ≡ range.page) × (found.at ≡ range.at) × (found.len ≡ length range.bytes) × (take found.len into ≡ range.bytes)
    × IsAt pages log (place_of found.next) rest
TakesRange pages log ranges into None = ranges ≡ []

-- the range lies in a page and has a byte
abbrev pub LiesInPage : Option LogRange → Type 0
LiesInPage (Some found) = (1 ≤ found.len) × (found.at + found.len ≤ page_bytes)
LiesInPage None = Unit {0}

-- the range leads to a place further on in the log
abbrev pub IsFurther : ℕ → Option LogRange → Type 0
IsFurther from (Some found) = ((place_of from).at < (place_of found.next).at) × ((place_of found.next).at < log_bytes)
IsFurther from None = Unit {0}
