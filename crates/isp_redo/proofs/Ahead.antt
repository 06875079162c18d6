-- What lies ahead of a place of the log, step by step.
use Rattle.std.proofs.Common.{◌≡◌, ◌≢◌, ℕ, ◌+◌, ◌-◌, ◌^◌, ◌<◌, ◌≤◌, List, [], ◌∷◌, ◌++◌, length, refl, sym, ◌∙◌, ap, subst, arith}
use Rattle.std.specs.List.{flat_map}
use Rattle.std.proofs.lemmas.List.{append_assoc}
use Rattle.isp_disk.specs.Moments.{Image, slice}
use Rattle.isp_format.specs.Contents.{ranges_of}
use Rattle.isp_format.specs.Log.{IsBatch, IsLog, Transaction, log_bytes}
use Rattle.isp_format.specs.Numbers.{bytes_of}
use Rattle.isp_format.specs.Ranges.{Range}
use Rattle.isp_redo.specs.Places.{IsAt}
use Rattle.isp_redo.specs.Reading.{AreRangesAt, AreTransactionsAt, IsRangeAt, IsTransactionAt}
use Rattle.isp_redo.specs.declared.ranges.LogPlace.{LogPlace}
use Rattle.isp_redo.proofs.PlaceLaws.{ranges_forward, transaction_forward, transactions_forward}
use Rattle.isp_redo.proofs.Positions.{batch_read, count_is, size_is}

-- places rise to the end of the body
pub at_forward : (pages : ℕ) (log : Image) (place : LogPlace) (ranges : List Range) → IsAt pages log place ranges → place.at ≤ place.end
at_forward pages log place ranges is = omega (arith, ranges_forward pages log place.at is.first is.mid is.here, transactions_forward pages log is.mid is.inside place.end is.rest)

-- the parts of what lies ahead, where no range of a mini-transaction does
pub record NoneLeft (pages : ℕ) (log : Image) (at end : ℕ) (ranges : List Range) : Type 0 where
  pub inside : List Transaction
  pub behind : List (List Transaction)
  pub last : ℕ
  pub rest : AreTransactionsAt pages log at inside end
  pub log_is : IsLog pages log end behind last
  pub ranges_are : ranges ≡ flat_map (λ transaction. transaction) inside ++ ranges_of behind

none_first : (first : List Range) → length first ≡ 0 → first ≡ []
none_first [] none = refl
none_first (range ∷ first) none = absurd (omega (arith, none))

pub none_left : (pages : ℕ) (log : Image) (at end : ℕ) (ranges : List Range) → IsAt pages log (record { at = at; left = 0; end = end }) ranges → NoneLeft pages log at end ranges
none_left pages log at end ranges is =
    let none : is.first ≡ [] = none_first is.first is.count in
    let mid : is.mid ≡ at = subst (λ (first : List Range). AreRangesAt pages log at first is.mid) none is.here in
    record {
      inside = is.inside;
      behind = is.behind;
      last = is.last;
      rest = subst (λ (p : ℕ). AreTransactionsAt pages log p is.inside end) mid is.rest;
      log_is = is.log_is;
      ranges_are = is.ranges_are ∙ ap (λ (first : List Range). first ++ (flat_map (λ transaction. transaction) is.inside ++ ranges_of is.behind)) none;
    }

-- ---- at the end of a body

none_inside : (pages : ℕ) (log : Image) (at : ℕ) (inside : List Transaction) → AreTransactionsAt pages log at inside at → inside ≡ []
none_inside pages log at [] are = refl
none_inside pages log at (t ∷ ts) (mid, is, more) = absurd (omega (arith, transaction_forward pages log at t mid is, transactions_forward pages log mid ts at more))

pub record AtEnd (pages : ℕ) (log : Image) (end : ℕ) (ranges : List Range) : Type 0 where
  pub behind : List (List Transaction)
  pub last : ℕ
  pub log_is : IsLog pages log end behind last
  pub ranges_are : ranges ≡ ranges_of behind

pub at_end : (pages : ℕ) (log : Image) (end : ℕ) (ranges : List Range) → IsAt pages log (record { at = end; left = 0; end = end }) ranges → AtEnd pages log end ranges
at_end pages log end ranges is =
    let parts = none_left pages log end end ranges is in
    let none = none_inside pages log end parts.inside parts.rest in
    record { behind = parts.behind; last = parts.last; log_is = parts.log_is; ranges_are = parts.ranges_are ∙ ap (λ (inside : List Transaction). flat_map (λ transaction. transaction) inside ++ ranges_of parts.behind) none }

closed_behind : (pages : ℕ) (log : Image) (end : ℕ) (behind : List (List Transaction)) (last : ℕ) → IsLog pages log end behind last → log end ≢ 1 → ranges_of behind ≡ []
closed_behind pages log end [] last is shut = refl
closed_behind pages log end (batch ∷ behind) last (next, is, more) shut = absurd (shut is.gate)

-- behind a closed gate nothing lies ahead
pub ends_at : (pages : ℕ) (log : Image) (end : ℕ) (ranges : List Range) → log end ≢ 1 → IsAt pages log (record { at = end; left = 0; end = end }) ranges → ranges ≡ []
ends_at pages log end ranges shut is =
    let parts = at_end pages log end ranges is in
    parts.ranges_are ∙ closed_behind pages log end parts.behind parts.last parts.log_is shut

-- behind an open one a batch does
opened_behind : (pages : ℕ) (log : Image) (end : ℕ) (behind : List (List Transaction)) (last : ℕ) → IsLog pages log end behind last → log end ≡ 1
    → (batch : List Transaction) × (others : List (List Transaction)) × (next : ℕ) × IsBatch pages log end batch next × IsLog pages log next others last × (ranges_of behind ≡ flat_map (λ transaction. transaction) batch ++ ranges_of others)
opened_behind pages log end [] last is gate = absurd (is.0 gate)
opened_behind pages log end (batch ∷ behind) last (next, is, more) gate = (batch, behind, next, is, more, refl)

-- an open gate with no room for a length behind it is in no log
pub no_room_at : (pages : ℕ) (log : Image) (end : ℕ) (ranges : List Range) → log end ≡ 1 → log_bytes - end < 6 → IsAt pages log (record { at = end; left = 0; end = end }) ranges → ranges ≡ []
no_room_at pages log end ranges gate short is =
    let parts = at_end pages log end ranges is in
    let batch = opened_behind pages log end parts.behind parts.last parts.log_is gate in
    absurd (omega (arith, short, batch.3.behind, batch.3.inside))

pub too_long_at : (pages : ℕ) (log : Image) (end size : ℕ) (ranges : List Range) → log end ≡ 1 → size < 256 ^ 4 → slice log (end + 1) 4 ≡ bytes_of 4 size → log_bytes - end - 6 < size → IsAt pages log (record { at = end; left = 0; end = end }) ranges → ranges ≡ []
too_long_at pages log end size ranges gate small stands long is =
    let parts = at_end pages log end ranges is in
    let batch = opened_behind pages log end parts.behind parts.last parts.log_is gate in
    absurd (omega (arith, long, size_is pages log end size batch.0 batch.2 small stands batch.3, batch.3.inside))

pub opens_at : (pages : ℕ) (log : Image) (end size : ℕ) (ranges : List Range) → log end ≡ 1 → size < 256 ^ 4 → slice log (end + 1) 4 ≡ bytes_of 4 size → IsAt pages log (record { at = end; left = 0; end = end }) ranges → IsAt pages log (record { at = end + 5; left = 0; end = end + 5 + size }) ranges
opens_at pages log end size ranges gate small stands is =
    let parts = at_end pages log end ranges is in
    let batch = opened_behind pages log end parts.behind parts.last parts.log_is gate in
    let next : batch.2 ≡ end + 5 + size = size_is pages log end size batch.0 batch.2 small stands batch.3 in
    record {
      first = [];
      inside = batch.0;
      behind = batch.1;
      mid = end + 5;
      last = parts.last;
      count = refl;
      here = refl;
      rest = subst (λ (p : ℕ). AreTransactionsAt pages log (end + 5) batch.0 p) next (batch_read pages log end batch.0 batch.2 batch.3);
      log_is = subst (λ (p : ℕ). IsLog pages log p batch.1 parts.last) next batch.4;
      ranges_are = parts.ranges_are ∙ batch.5;
    }

-- ---- within a body

some_inside : (pages : ℕ) (log : Image) (at end : ℕ) (inside : List Transaction) → at < end → AreTransactionsAt pages log at inside end
    → (t : Transaction) × (others : List Transaction) × (mid : ℕ) × IsTransactionAt pages log at t mid × AreTransactionsAt pages log mid others end × (flat_map (λ transaction. transaction) inside ≡ t ++ flat_map (λ transaction. transaction) others)
some_inside pages log at end [] less are = absurd (omega (arith, less, are))
some_inside pages log at end (t ∷ ts) less (mid, is, more) = (t, ts, mid, is, more, refl)

pub no_count_at : (pages : ℕ) (log : Image) (at end : ℕ) (ranges : List Range) → at < end → end - at < 2 → IsAt pages log (record { at = at; left = 0; end = end }) ranges → ranges ≡ []
no_count_at pages log at end ranges less short is =
    let parts = none_left pages log at end ranges is in
    let first = some_inside pages log at end parts.inside less parts.rest in
    absurd (omega (arith, short, transaction_forward pages log at first.0 first.2 first.3, transactions_forward pages log first.2 first.1 end first.4))

pub counts_at : (pages : ℕ) (log : Image) (at end count : ℕ) (ranges : List Range) → at < end → count < 65536 → slice log at 2 ≡ bytes_of 2 count → IsAt pages log (record { at = at; left = 0; end = end }) ranges → IsAt pages log (record { at = at + 2; left = count; end = end }) ranges
counts_at pages log at end count ranges less few stands is =
    let parts = none_left pages log at end ranges is in
    let first = some_inside pages log at end parts.inside less parts.rest in
    record {
      first = first.0;
      inside = first.1;
      behind = parts.behind;
      mid = first.2;
      last = parts.last;
      count = sym (count_is pages log at count first.0 first.2 (omega (arith, few)) stands first.3);
      here = first.3.each;
      rest = first.4;
      log_is = parts.log_is;
      ranges_are = parts.ranges_are ∙ ap (λ (inside : List Range). inside ++ ranges_of parts.behind) first.5 ∙ append_assoc first.0 (flat_map (λ transaction. transaction) first.1) (ranges_of parts.behind);
    }

-- ---- at a range

-- the first range that lies ahead, and what lies ahead of the place behind it
pub record Taken (pages : ℕ) (log : Image) (place : LogPlace) (ranges : List Range) : Type 0 where
  pub range : Range
  pub others : List Range
  pub next : ℕ
  pub is : IsRangeAt pages log place.at range next
  pub inside : next ≤ place.end
  pub ranges_are : ranges ≡ range ∷ others
  pub then_at : (left : ℕ) → left + 1 ≡ place.left → IsAt pages log (record { at = next; left = left; end = place.end }) others

some_first : (pages : ℕ) (log : Image) (at : ℕ) (first : List Range) (mid : ℕ) → 0 < length first → AreRangesAt pages log at first mid
    → (range : Range) × (others : List Range) × (next : ℕ) × IsRangeAt pages log at range next × AreRangesAt pages log next others mid × (first ≡ range ∷ others)
some_first pages log at [] mid some are = absurd (omega (arith, some))
some_first pages log at (range ∷ others) mid some (next, is, more) = (range, others, next, is, more, refl)

pub takes_at : (pages : ℕ) (log : Image) (place : LogPlace) (ranges : List Range) → 0 < place.left → IsAt pages log place ranges → Taken pages log place ranges
takes_at pages log place ranges some is =
    let first = some_first pages log place.at is.first is.mid (omega (arith, some, is.count)) is.here in
    let count = is.count in
    let long = ap length first.5 in
    record {
      range = first.0;
      others = first.1 ++ (flat_map (λ transaction. transaction) is.inside ++ ranges_of is.behind);
      next = first.2;
      is = first.3;
      inside = omega (arith, ranges_forward pages log first.2 first.1 is.mid first.4, transactions_forward pages log is.mid is.inside place.end is.rest);
      ranges_are = is.ranges_are ∙ ap (λ (xs : List Range). xs ++ (flat_map (λ transaction. transaction) is.inside ++ ranges_of is.behind)) first.5;
      then_at = λ left one_less. record {
        first = first.1;
        inside = is.inside;
        behind = is.behind;
        mid = is.mid;
        last = is.last;
        count = omega (arith, long, count, one_less);
        here = first.4;
        rest = is.rest;
        log_is = is.log_is;
        ranges_are = refl;
      };
    }
