-- Reading the log from a place on: what is there is one, and is what the log's own definitions say.
use Rattle.std.proofs.Common.{◌≡◌, true, ◌&&◌, nat_le, nat_lt, ℕ, suc, ◌+◌, ◌-◌, ◌^◌, ◌<◌, ◌≤◌, List, [], ◌∷◌, ◌++◌, length, refl, sym, ◌∙◌, ap, subst, arith}
use Rattle.std.proofs.lemmas.Bool.Decides.{nat_tests}
use Rattle.std.specs.Prelude.{All}
use Rattle.std.specs.List.{flat_map}
use Rattle.std.proofs.lemmas.List.{append_assoc, length-append}
use Rattle.std.proofs.lemmas.List.Elements.{All-cons, All-nil}
use Rattle.byteorder.specs.Numbers.{length-bytes_high_first}
use Rattle.isp_disk.specs.Moments.{Image, slice}
use Rattle.isp_format.specs.Log.{IsBatch, IsLog, IsTransaction, Transaction, log_bytes, range_bytes, transaction_bytes}
use Rattle.isp_format.specs.Numbers.{bytes_of}
use Rattle.isp_format.specs.Ranges.{IsRange, Range}
use Rattle.isp_format.proofs.LogOnce.{batch_once, number_once}
use Rattle.isp_format.proofs.LogWalks.{IsWalk}
use Rattle.isp_format.proofs.Parts.{slice_cut, slice_parts}
use Rattle.isp_format.proofs.Slices.{length-slice}
use Rattle.isp_redo.specs.Reading.{AreRangesAt, AreTransactionsAt, IsRangeAt, IsTransactionAt}
use Rattle.isp_redo.proofs.PlaceLaws.{range_forward, ranges_forward, transaction_forward, transactions_forward}

-- ---- what is there is one

header_once : (page place len other_page other_place other_len : ℕ) → page < 256 ^ 4 → other_page < 256 ^ 4 → place < 256 ^ 2 → other_place < 256 ^ 2 → len < 256 ^ 2 → other_len < 256 ^ 2
    → bytes_of 4 page ++ (bytes_of 2 place ++ bytes_of 2 len) ≡ bytes_of 4 other_page ++ (bytes_of 2 other_place ++ bytes_of 2 other_len)
    → (page ≡ other_page) × (place ≡ other_place) × (len ≡ other_len)
header_once page place len other_page other_place other_len a b c d e f same =
    let first = number_once 4 page other_page _ _ a b same in
    let second = number_once 2 place other_place _ _ c d first.1 in
    let joined : bytes_of 2 len ++ [] ≡ bytes_of 2 other_len ++ [] = ap (λ (bytes : List ℕ). bytes ++ []) second.1 in
    let third = number_once 2 len other_len [] [] e f joined in
    (first.0, second.0, third.0)

-- the header that stands there is the range's
pub header_is : (pages : ℕ) (log : Image) (at page place len : ℕ) (range : Range) (next : ℕ) → pages ≤ 65536 → page < 256 ^ 4 → place < 256 ^ 2 → len < 256 ^ 2
    → slice log at 8 ≡ bytes_of 4 page ++ (bytes_of 2 place ++ bytes_of 2 len) → IsRangeAt pages log at range next
    → (page ≡ range.page) × (place ≡ range.at) × (len ≡ length range.bytes)
header_is pages log at page place len range next few a b c stands is =
    let in_page = is.is.page in
    let in_place = is.is.inside in
    header_once page place len range.page range.at (length range.bytes) a (omega (arith, in_page, few)) b (omega (arith, in_place)) c (omega (arith, in_place)) (sym stands ∙ is.header)

pub range_at_once : (pages : ℕ) (log : Image) (at : ℕ) (one other : Range) (next then_next : ℕ) → pages ≤ 65536 → IsRangeAt pages log at one next → IsRangeAt pages log at other then_next → (one ≡ other) × (next ≡ then_next)
range_at_once pages log at one other next then_next few one_is other_is =
    let in_page = one_is.is.page in
    let in_place = one_is.is.inside in
    let header = header_is pages log at one.page one.at (length one.bytes) other then_next few (omega (arith, in_page, few)) (omega (arith, in_place)) (omega (arith, in_place)) one_is.header other_is in
    let bytes : one.bytes ≡ other.bytes = sym one_is.stands ∙ ap (λ (n : ℕ). slice log (at + 8) n) header.2 ∙ other_is.stands in
    ((λ i. record { page = header.0 i; at = header.1 i; bytes = bytes i }), one_is.behind ∙ ap (λ (n : ℕ). at + 8 + n) header.2 ∙ sym other_is.behind)

-- ranges that were read are the first of those that stand there
pub ranges_rest : (pages : ℕ) (log : Image) (at : ℕ) (so_far all : List Range) (place next : ℕ) → pages ≤ 65536 → AreRangesAt pages log at so_far place → AreRangesAt pages log at all next → length so_far ≤ length all
    → (rest : List Range) × (all ≡ so_far ++ rest) × AreRangesAt pages log place rest next
ranges_rest pages log at [] all place next few so_far_are all_are less = (all, refl, subst (λ (p : ℕ). AreRangesAt pages log p all next) (sym so_far_are) all_are)
ranges_rest pages log at (x ∷ xs) [] place next few so_far_are all_are less = absurd (omega (arith, less))
ranges_rest pages log at (x ∷ xs) (y ∷ ys) place next few (mid, is, more) (then_mid, then_is, then_more) less =
    let first = range_at_once pages log at x y mid then_mid few is then_is in
    let moved = subst (λ (p : ℕ). AreRangesAt pages log p ys next) (sym first.1) then_more in
    let rest = ranges_rest pages log mid xs ys place next few more moved (omega (arith, less)) in
    (rest.0, (λ i. sym first.0 i ∷ rest.1 i), rest.2)

pub ranges_at_once : (pages : ℕ) (log : Image) (at : ℕ) (one other : List Range) (next then_next : ℕ) → pages ≤ 65536 → AreRangesAt pages log at one next → AreRangesAt pages log at other then_next → length one ≡ length other → (one ≡ other) × (next ≡ then_next)
ranges_at_once pages log at [] [] next then_next few one_is other_is long = (refl, one_is ∙ sym other_is)
ranges_at_once pages log at [] (y ∷ ys) next then_next few one_is other_is long = absurd (omega (arith, long))
ranges_at_once pages log at (x ∷ xs) [] next then_next few one_is other_is long = absurd (omega (arith, long))
ranges_at_once pages log at (x ∷ xs) (y ∷ ys) next then_next few (mid, is, more) (then_mid, then_is, then_more) long =
    let first = range_at_once pages log at x y mid then_mid few is then_is in
    let moved = subst (λ (p : ℕ). AreRangesAt pages log p ys then_next) (sym first.1) then_more in
    let rest = ranges_at_once pages log mid xs ys next then_next few more moved (omega (arith, long)) in
    ((λ i. first.0 i ∷ rest.0 i), rest.1)

-- a count of ranges that stands there is the mini-transaction's
pub count_is : (pages : ℕ) (log : Image) (at count : ℕ) (ranges : Transaction) (next : ℕ) → count < 256 ^ 2 → slice log at 2 ≡ bytes_of 2 count → IsTransactionAt pages log at ranges next → count ≡ length ranges
count_is pages log at count ranges next small stands is =
    let same : bytes_of 2 count ++ [] ≡ bytes_of 2 (length ranges) ++ [] = ap (λ (bytes : List ℕ). bytes ++ []) (sym stands ∙ is.count) in
    let few = is.few in
    (number_once 2 count (length ranges) [] [] small (omega (arith, few)) same).0

pub transaction_at_once : (pages : ℕ) (log : Image) (at : ℕ) (one other : Transaction) (next then_next : ℕ) → pages ≤ 65536 → IsTransactionAt pages log at one next → IsTransactionAt pages log at other then_next → (one ≡ other) × (next ≡ then_next)
transaction_at_once pages log at one other next then_next few one_is other_is =
    let one_few = one_is.few in
    let long = count_is pages log at (length one) other then_next (omega (arith, one_few)) one_is.count other_is in
    ranges_at_once pages log (at + 2) one other next then_next few one_is.each other_is.each long

-- mini-transactions that were read are the first of those that stand there
pub transactions_rest : (pages : ℕ) (log : Image) (at : ℕ) (so_far all : List Transaction) (place next : ℕ) → pages ≤ 65536 → AreTransactionsAt pages log at so_far place → AreTransactionsAt pages log at all next → place < next
    → (t : Transaction) × (mid : ℕ) × IsTransactionAt pages log place t mid × (mid ≤ next)
transactions_rest pages log at [] [] place next few so_far_are all_are less = absurd (omega (arith, so_far_are, all_are, less))
transactions_rest pages log at [] (y ∷ ys) place next few so_far_are (mid, is, more) less = (y, mid, subst (λ (p : ℕ). IsTransactionAt pages log p y mid) (sym so_far_are) is, transactions_forward pages log mid ys next more)
transactions_rest pages log at (x ∷ xs) [] place next few (mid, is, more) all_are less =
    absurd (omega (arith, transaction_forward pages log at x mid is, transactions_forward pages log mid xs place more, all_are, less))
transactions_rest pages log at (x ∷ xs) (y ∷ ys) place next few (mid, is, more) (then_mid, then_is, then_more) less =
    let first = transaction_at_once pages log at x y mid then_mid few is then_is in
    transactions_rest pages log mid xs ys place next few more (subst (λ (p : ℕ). AreTransactionsAt pages log p ys next) (sym first.1) then_more) less

-- one more at the end
pub ranges_on : (pages : ℕ) (log : Image) (at : ℕ) (so_far : List Range) (place : ℕ) (range : Range) (next : ℕ) → AreRangesAt pages log at so_far place → IsRangeAt pages log place range next → AreRangesAt pages log at (so_far ++ range ∷ []) next
ranges_on pages log at [] place range next are is = (next, subst (λ (p : ℕ). IsRangeAt pages log p range next) are is, refl)
ranges_on pages log at (x ∷ xs) place range next (mid, first, more) is = (mid, first, ranges_on pages log mid xs place range next more is)

pub transactions_on : (pages : ℕ) (log : Image) (at : ℕ) (so_far : List Transaction) (place : ℕ) (t : Transaction) (next : ℕ) → AreTransactionsAt pages log at so_far place → IsTransactionAt pages log place t next → AreTransactionsAt pages log at (so_far ++ t ∷ []) next
transactions_on pages log at [] place t next are is = (next, subst (λ (p : ℕ). IsTransactionAt pages log p t next) are is, refl)
transactions_on pages log at (x ∷ xs) place t next (mid, first, more) is = (mid, first, transactions_on pages log mid xs place t next more is)

-- ---- the same by their bytes

range_length : (range : Range) → length (range_bytes range) ≡ 8 + length range.bytes
range_length range =
    let a = length-append (bytes_of 4 range.page) (bytes_of 2 range.at ++ (bytes_of 2 (length range.bytes) ++ range.bytes)) in
    let b = length-append (bytes_of 2 range.at) (bytes_of 2 (length range.bytes) ++ range.bytes) in
    let c = length-append (bytes_of 2 (length range.bytes)) range.bytes in
    let d = length-bytes_high_first 4 range.page in
    let e = length-bytes_high_first 2 range.at in
    let f = length-bytes_high_first 2 (length range.bytes) in
    omega (arith, a, b, c, d, e, f)

range_parts : (range : Range) → range_bytes range ≡ (bytes_of 4 range.page ++ (bytes_of 2 range.at ++ bytes_of 2 (length range.bytes))) ++ range.bytes
range_parts range =
    sym (append_assoc (bytes_of 4 range.page) (bytes_of 2 range.at ++ bytes_of 2 (length range.bytes)) range.bytes
    ∙ ap (λ (rest : List ℕ). bytes_of 4 range.page ++ rest) (append_assoc (bytes_of 2 range.at) (bytes_of 2 (length range.bytes)) range.bytes))

header_length : (range : Range) → length (bytes_of 4 range.page ++ (bytes_of 2 range.at ++ bytes_of 2 (length range.bytes))) ≡ 8
header_length range =
    let a = length-append (bytes_of 4 range.page) (bytes_of 2 range.at ++ bytes_of 2 (length range.bytes)) in
    let b = length-append (bytes_of 2 range.at) (bytes_of 2 (length range.bytes)) in
    let d = length-bytes_high_first 4 range.page in
    let e = length-bytes_high_first 2 range.at in
    let f = length-bytes_high_first 2 (length range.bytes) in
    omega (arith, a, b, d, e, f)

-- to bytes
range_spelled : (pages : ℕ) (log : Image) (at : ℕ) (range : Range) (next : ℕ) → IsRangeAt pages log at range next → slice log at (next - at) ≡ range_bytes range
range_spelled pages log at range next is =
    let size : next - at ≡ 8 + length range.bytes = omega (arith, is.behind) in
    ap (slice log at) size ∙ slice_parts log at 8 (length range.bytes) ∙ (λ i. is.header i ++ is.stands i) ∙ sym (range_parts range)

-- the bytes of two parts
joined : (log : Image) (at mid next : ℕ) (first second : List ℕ) → at ≤ mid → mid ≤ next → slice log at (mid - at) ≡ first → slice log mid (next - mid) ≡ second → slice log at (next - at) ≡ first ++ second
joined log at mid next first second low high one other =
    let size : next - at ≡ (mid - at) + (next - mid) = omega (arith, low, high) in
    let place : at + (mid - at) ≡ mid = omega (arith, low) in
    ap (slice log at) size ∙ slice_parts log at (mid - at) (next - mid) ∙ ap (λ (p : ℕ). slice log at (mid - at) ++ slice log p (next - mid)) place ∙ (λ i. one i ++ other i)

nothing : (log : Image) (at next : ℕ) → next ≡ at → slice log at (next - at) ≡ []
nothing log at next here = let none : next - at ≡ 0 = omega (arith, here) in ap (slice log at) none

ranges_spelled : (pages : ℕ) (log : Image) (at : ℕ) (ranges : List Range) (next : ℕ) → AreRangesAt pages log at ranges next → slice log at (next - at) ≡ flat_map range_bytes ranges
ranges_spelled pages log at [] next are = nothing log at next are
ranges_spelled pages log at (range ∷ ranges) next (mid, is, more) =
    joined log at mid next (range_bytes range) (flat_map range_bytes ranges) (omega (arith, range_forward pages log at range mid is)) (ranges_forward pages log mid ranges next more) (range_spelled pages log at range mid is) (ranges_spelled pages log mid ranges next more)

transaction_spelled : (pages : ℕ) (log : Image) (at : ℕ) (ranges : Transaction) (next : ℕ) → IsTransactionAt pages log at ranges next → slice log at (next - at) ≡ transaction_bytes ranges
transaction_spelled pages log at ranges next is =
    let two : at + 2 - at ≡ 2 = omega arith in
    joined log at (at + 2) next (bytes_of 2 (length ranges)) (flat_map range_bytes ranges) (omega arith) (transaction_forward pages log at ranges next is) (ap (slice log at) two ∙ is.count) (ranges_spelled pages log (at + 2) ranges next is.each)

pub transactions_spelled : (pages : ℕ) (log : Image) (at : ℕ) (ts : List Transaction) (next : ℕ) → AreTransactionsAt pages log at ts next → slice log at (next - at) ≡ flat_map transaction_bytes ts
transactions_spelled pages log at [] next are = nothing log at next are
transactions_spelled pages log at (t ∷ ts) next (mid, is, more) =
    joined log at mid next (transaction_bytes t) (flat_map transaction_bytes ts) (omega (arith, transaction_forward pages log at t mid is)) (transactions_forward pages log mid ts next more) (transaction_spelled pages log at t mid is) (transactions_spelled pages log mid ts next more)

ranges_all : (pages : ℕ) (log : Image) (at : ℕ) (ranges : List Range) (next : ℕ) → AreRangesAt pages log at ranges next → All (IsRange pages) ranges
ranges_all pages log at [] next are = All-nil (IsRange pages)
ranges_all pages log at (range ∷ ranges) next (mid, is, more) = All-cons (IsRange pages) range ranges is.is (ranges_all pages log mid ranges next more)

pub transactions_all : (pages : ℕ) (log : Image) (at : ℕ) (ts : List Transaction) (next : ℕ) → AreTransactionsAt pages log at ts next → All (IsTransaction pages) ts
transactions_all pages log at [] next are = All-nil (IsTransaction pages)
transactions_all pages log at (t ∷ ts) next (mid, is, more) = All-cons (IsTransaction pages) t ts (is.few, ranges_all pages log (at + 2) t mid is.each) (transactions_all pages log mid ts next more)

-- from bytes
range_read : (pages : ℕ) (log : Image) (at : ℕ) (range : Range) → IsRange pages range → slice log at (length (range_bytes range)) ≡ range_bytes range → IsRangeAt pages log at range (at + length (range_bytes range))
range_read pages log at range is stands =
    let eight = header_length range in
    let parts = slice_cut log at (bytes_of 4 range.page ++ (bytes_of 2 range.at ++ bytes_of 2 (length range.bytes))) range.bytes (length (range_bytes range)) (stands ∙ range_parts range) (omega (arith, range_length range, eight)) in
    record {
      header = ap (slice log at) (sym eight) ∙ parts.0;
      stands = ap (λ (n : ℕ). slice log (at + n) (length range.bytes)) (sym eight) ∙ parts.1;
      is = is;
      behind = omega (arith, range_length range);
    }

ranges_read : (pages : ℕ) (log : Image) (at : ℕ) (ranges : List Range) → All (IsRange pages) ranges → slice log at (length (flat_map range_bytes ranges)) ≡ flat_map range_bytes ranges → AreRangesAt pages log at ranges (at + length (flat_map range_bytes ranges))
ranges_read pages log at [] all stands = omega arith
ranges_read pages log at (range ∷ ranges) all stands =
    let long = length-append (range_bytes range) (flat_map range_bytes ranges) in
    let parts = slice_cut log at (range_bytes range) (flat_map range_bytes ranges) (length (flat_map range_bytes (range ∷ ranges))) stands long in
    let rest = ranges_read pages log (at + length (range_bytes range)) ranges (λ k d h. all (suc k) d (omega (arith, h))) parts.1 in
    let end : at + length (range_bytes range) + length (flat_map range_bytes ranges) ≡ at + length (flat_map range_bytes (range ∷ ranges)) = omega (arith, long) in
    (at + length (range_bytes range), range_read pages log at range (all 0 range (omega arith)) parts.0, subst (λ (p : ℕ). AreRangesAt pages log (at + length (range_bytes range)) ranges p) end rest)

transaction_read : (pages : ℕ) (log : Image) (at : ℕ) (ranges : Transaction) → IsTransaction pages ranges → slice log at (length (transaction_bytes ranges)) ≡ transaction_bytes ranges → IsTransactionAt pages log at ranges (at + length (transaction_bytes ranges))
transaction_read pages log at ranges is stands =
    let two = length-bytes_high_first 2 (length ranges) in
    let long = length-append (bytes_of 2 (length ranges)) (flat_map range_bytes ranges) in
    let parts = slice_cut log at (bytes_of 2 (length ranges)) (flat_map range_bytes ranges) (length (transaction_bytes ranges)) stands long in
    let each = ranges_read pages log (at + 2) ranges is.1 (ap (λ (n : ℕ). slice log (at + n) (length (flat_map range_bytes ranges))) (sym two) ∙ parts.1) in
    let end : at + 2 + length (flat_map range_bytes ranges) ≡ at + length (transaction_bytes ranges) = omega (arith, long, two) in
    record {
      count = ap (slice log at) (sym two) ∙ parts.0;
      few = is.0;
      each = subst (λ (p : ℕ). AreRangesAt pages log (at + 2) ranges p) end each;
    }

pub transactions_read : (pages : ℕ) (log : Image) (at : ℕ) (ts : List Transaction) → All (IsTransaction pages) ts → slice log at (length (flat_map transaction_bytes ts)) ≡ flat_map transaction_bytes ts → AreTransactionsAt pages log at ts (at + length (flat_map transaction_bytes ts))
transactions_read pages log at [] all stands = omega arith
transactions_read pages log at (t ∷ ts) all stands =
    let long = length-append (transaction_bytes t) (flat_map transaction_bytes ts) in
    let parts = slice_cut log at (transaction_bytes t) (flat_map transaction_bytes ts) (length (flat_map transaction_bytes (t ∷ ts))) stands long in
    let rest = transactions_read pages log (at + length (transaction_bytes t)) ts (λ k d h. all (suc k) d (omega (arith, h))) parts.1 in
    let end : at + length (transaction_bytes t) + length (flat_map transaction_bytes ts) ≡ at + length (flat_map transaction_bytes (t ∷ ts)) = omega (arith, long) in
    (at + length (transaction_bytes t), transaction_read pages log at t (all 0 t (omega arith)) parts.0, subst (λ (p : ℕ). AreTransactionsAt pages log (at + length (transaction_bytes t)) ts p) end rest)

-- ---- batches

-- mini-transactions behind an open gate and their length are a batch
pub batch_made : (pages : ℕ) (log : Image) (at size : ℕ) (ts : List Transaction) → log at ≡ 1 → slice log (at + 1) 4 ≡ bytes_of 4 size → at + 5 + size < log_bytes → 1 ≤ length ts → AreTransactionsAt pages log (at + 5) ts (at + 5 + size) → IsBatch pages log at ts (at + 5 + size)
batch_made pages log at size ts gate stands inside some are =
    let long : length (slice log (at + 5) size) ≡ size = length-slice log (at + 5) size in
    let size_is : at + 5 + size - (at + 5) ≡ size = omega arith in
    record {
      body = slice log (at + 5) size;
      gate = gate;
      size = stands ∙ ap (bytes_of 4) (sym long);
      stands = ap (slice log (at + 5)) long;
      behind = omega (arith, long);
      inside = inside;
      means = record {
        bytes = ap (slice log (at + 5)) (sym size_is) ∙ transactions_spelled pages log (at + 5) ts (at + 5 + size) are;
        some = some;
        each = transactions_all pages log (at + 5) ts (at + 5 + size) are;
      };
    }

-- and the other way
pub batch_read : (pages : ℕ) (log : Image) (at : ℕ) (ts : List Transaction) (next : ℕ) → IsBatch pages log at ts next → AreTransactionsAt pages log (at + 5) ts next
batch_read pages log at ts next is =
    let bytes : is.body ≡ flat_map transaction_bytes ts = is.means.bytes in
    let stands : slice log (at + 5) (length (flat_map transaction_bytes ts)) ≡ flat_map transaction_bytes ts = ap (λ (b : List ℕ). slice log (at + 5) (length b)) (sym bytes) ∙ is.stands ∙ bytes in
    let end : at + 5 + length (flat_map transaction_bytes ts) ≡ next = ap (λ (b : List ℕ). at + 5 + length b) (sym bytes) ∙ sym is.behind in
    subst (λ (p : ℕ). AreTransactionsAt pages log (at + 5) ts p) end (transactions_read pages log (at + 5) ts is.means.each stands)

-- the length that stands there is the body's
pub size_is : (pages : ℕ) (log : Image) (at size : ℕ) (ts : List Transaction) (next : ℕ) → size < 256 ^ 4 → slice log (at + 1) 4 ≡ bytes_of 4 size → IsBatch pages log at ts next → next ≡ at + 5 + size
size_is pages log at size ts next small stands is =
    let body_small : length is.body < log_bytes = omega (arith, is.behind, is.inside) in
    let same : bytes_of 4 size ++ [] ≡ bytes_of 4 (length is.body) ++ [] = ap (λ (bytes : List ℕ). bytes ++ []) (sym stands ∙ is.size) in
    let long = (number_once 4 size (length is.body) [] [] small (omega (arith, body_small)) same).0 in
    omega (arith, is.behind, long)

-- batches that were walked are the first of the log
pub log_rest : (pages : ℕ) (log : Image) (at : ℕ) (so_far all : List (List Transaction)) (place end : ℕ) → pages ≤ 65536 → IsWalk pages log at so_far place → IsLog pages log at all end → log place ≡ 1 → (batch : List Transaction) × (next : ℕ) × IsBatch pages log place batch next
log_rest pages log at [] [] place end few walk is gate = absurd (is.0 (ap log (sym walk) ∙ gate))
log_rest pages log at [] (y ∷ ys) place end few walk (next, is, more) gate = (y, next, subst (λ (p : ℕ). IsBatch pages log p y next) (sym walk) is)
log_rest pages log at (x ∷ xs) [] place end few (next, first, more) is gate = absurd (is.0 first.gate)
log_rest pages log at (x ∷ xs) (y ∷ ys) place end few (next, first, more) (then_next, is, then_more) gate =
    let same = batch_once pages log at x y next then_next few first is in
    log_rest pages log next xs ys place end few more (subst (λ (p : ℕ). IsLog pages log p ys end) (sym same.1) then_more) gate

-- a header that was tested, and the bytes behind it, are a range
header_tested : (page pages len at : ℕ) → (nat_lt page pages && nat_lt 0 len && nat_le (at + len) 4096) ≡ true → (page < pages) × (1 ≤ len) × (at + len ≤ 4096)
header_tested page pages len at test = (grind (arith, nat_tests, test), grind (arith, nat_tests, test), grind (arith, nat_tests, test))

pub range_made : (pages : ℕ) (log : Image) (at page place len : ℕ) → (nat_lt page pages && nat_lt 0 len && nat_le (place + len) 4096) ≡ true → slice log at 8 ≡ bytes_of 4 page ++ (bytes_of 2 place ++ bytes_of 2 len)
    → IsRangeAt pages log at (record { page = page; at = place; bytes = slice log (at + 8) len }) (at + 8 + len)
range_made pages log at page place len test stands =
    let long : length (slice log (at + 8) len) ≡ len = length-slice log (at + 8) len in
    let facts = header_tested page pages len place test in
    record {
      header = stands ∙ ap (λ (n : ℕ). bytes_of 4 page ++ (bytes_of 2 place ++ bytes_of 2 n)) (sym long);
      stands = ap (slice log (at + 8)) long;
      is = record { page = facts.0; some = omega (arith, facts.1, long); inside = omega (arith, facts.2, long) };
      behind = omega (arith, long);
    }
