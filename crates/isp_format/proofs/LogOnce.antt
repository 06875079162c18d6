-- The bytes of a body are those of one list of mini-transactions, so that a log has one list of batches.
use Rattle.std.proofs.Common.{◌≡◌, ℕ, suc, ◌+◌, ◌^◌, ◌<◌, ◌≤◌, List, [], ◌∷◌, ◌++◌, drop, take, length, refl, sym, ◌∙◌, ap, subst, arith}
use Rattle.std.specs.Prelude.{All}
use Rattle.std.specs.List.{flat_map}
use Rattle.std.proofs.lemmas.List.{append_assoc, length-append}
use Rattle.std.proofs.Math.Seq.{drop-append_seam, take-append_seam}
use Rattle.byteorder.specs.Endian.{big_number}
use Rattle.byteorder.specs.Numbers.{big_number-reads_back, length-bytes_high_first}
use Rattle.isp_disk.specs.Moments.{Image, slice}
use Rattle.isp_format.specs.Log.{IsBatch, IsLog, IsTransaction, Transaction, log_bytes, range_bytes, transaction_bytes}
use Rattle.isp_format.specs.Numbers.{bytes_of}
use Rattle.isp_format.specs.Ranges.{IsRange, Range}

-- lists of one length at the front of the same list
pub cut : (one other more others : List ℕ) → length one ≡ length other → one ++ more ≡ other ++ others → (one ≡ other) × (more ≡ others)
cut one other more others long same = (
  sym (take-append_seam one more) ∙ ap (take (length one)) same ∙ ap (λ (n : ℕ). take n (other ++ others)) long ∙ take-append_seam other others,
  sym (drop-append_seam one more) ∙ ap (drop (length one)) same ∙ ap (λ (n : ℕ). drop n (other ++ others)) long ∙ drop-append_seam other others,
)

-- numbers of so many bytes
pub number_once : (size x y : ℕ) (more others : List ℕ) → x < 256 ^ size → y < 256 ^ size → bytes_of size x ++ more ≡ bytes_of size y ++ others → (x ≡ y) × (more ≡ others)
number_once size x y more others x_small y_small same =
    let number : x ≡ y = sym (big_number-reads_back size x more x_small) ∙ ap (big_number size) same ∙ big_number-reads_back size y others y_small in
    let long : length (bytes_of size x) ≡ length (bytes_of size y) = length-bytes_high_first size x ∙ sym (length-bytes_high_first size y) in
    (number, (cut (bytes_of size x) (bytes_of size y) more others long same).1)

range_made : (one other : Range) → one.page ≡ other.page → one.at ≡ other.at → one.bytes ≡ other.bytes → one ≡ other
range_made one other page at bytes = λ i. record { page = page i; at = at i; bytes = bytes i }

range_spread : (range : Range) (more : List ℕ) → range_bytes range ++ more ≡ bytes_of 4 range.page ++ (bytes_of 2 range.at ++ (bytes_of 2 (length range.bytes) ++ (range.bytes ++ more)))
range_spread range more =
    append_assoc (bytes_of 4 range.page) (bytes_of 2 range.at ++ (bytes_of 2 (length range.bytes) ++ range.bytes)) more
    ∙ ap (λ (rest : List ℕ). bytes_of 4 range.page ++ rest) (append_assoc (bytes_of 2 range.at) (bytes_of 2 (length range.bytes) ++ range.bytes) more)
    ∙ ap (λ (rest : List ℕ). bytes_of 4 range.page ++ (bytes_of 2 range.at ++ rest)) (append_assoc (bytes_of 2 (length range.bytes)) range.bytes more)

pub range_once : (pages : ℕ) (one other : Range) (more others : List ℕ) → pages ≤ 65536 → IsRange pages one → IsRange pages other → range_bytes one ++ more ≡ range_bytes other ++ others → (one ≡ other) × (more ≡ others)
range_once pages one other more others few one_is other_is same =
    let one_page = one_is.page in
    let other_page = other_is.page in
    let one_inside = one_is.inside in
    let other_inside = other_is.inside in
    let spread = sym (range_spread one more) ∙ same ∙ range_spread other others in
    let first = number_once 4 one.page other.page _ _ (omega (arith, one_page, few)) (omega (arith, other_page, few)) spread in
    let second = number_once 2 one.at other.at _ _ (omega (arith, one_inside)) (omega (arith, other_inside)) first.1 in
    let third = number_once 2 (length one.bytes) (length other.bytes) _ _ (omega (arith, one_inside)) (omega (arith, other_inside)) second.1 in
    let fourth = cut one.bytes other.bytes more others third.0 third.1 in
    (range_made one other first.0 second.0 fourth.0, fourth.1)

-- as many ranges
ranges_once : (pages : ℕ) (one other : List Range) (more others : List ℕ) → pages ≤ 65536 → All (IsRange pages) one → All (IsRange pages) other → length one ≡ length other → flat_map range_bytes one ++ more ≡ flat_map range_bytes other ++ others → (one ≡ other) × (more ≡ others)
ranges_once pages [] [] more others few ones all long same = (refl, same)
ranges_once pages [] (y ∷ ys) more others few ones all long same = absurd (omega (arith, long))
ranges_once pages (x ∷ xs) [] more others few ones all long same = absurd (omega (arith, long))
ranges_once pages (x ∷ xs) (y ∷ ys) more others few ones all long same =
    let joined = sym (append_assoc (range_bytes x) (flat_map range_bytes xs) more) ∙ same ∙ append_assoc (range_bytes y) (flat_map range_bytes ys) others in
    let first = range_once pages x y _ _ few (ones 0 x (omega arith)) (all 0 y (omega arith)) joined in
    let rest = ranges_once pages xs ys more others few (λ k d h. ones (suc k) d (omega (arith, h))) (λ k d h. all (suc k) d (omega (arith, h))) (omega (arith, long)) first.1 in
    ((λ i. first.0 i ∷ rest.0 i), rest.1)

pub transaction_once : (pages : ℕ) (one other : Transaction) (more others : List ℕ) → pages ≤ 65536 → IsTransaction pages one → IsTransaction pages other → transaction_bytes one ++ more ≡ transaction_bytes other ++ others → (one ≡ other) × (more ≡ others)
transaction_once pages one other more others few one_is other_is same =
    let one_few = one_is.0 in
    let other_few = other_is.0 in
    let spread = sym (append_assoc (bytes_of 2 (length one)) (flat_map range_bytes one) more) ∙ same ∙ append_assoc (bytes_of 2 (length other)) (flat_map range_bytes other) others in
    let count = number_once 2 (length one) (length other) _ _ (omega (arith, one_few)) (omega (arith, other_few)) spread in
    ranges_once pages one other more others few one_is.1 other_is.1 count.0 count.1

-- a mini-transaction takes two bytes at least
pub transaction_some : (transaction : Transaction) → 2 ≤ length (transaction_bytes transaction)
transaction_some transaction =
    let whole = length-append (bytes_of 2 (length transaction)) (flat_map range_bytes transaction) in
    let count = length-bytes_high_first 2 (length transaction) in
    omega (arith, whole, count)

none_is_some : (transaction : Transaction) (more : List ℕ) → [] ≡ transaction_bytes transaction ++ more → ⊥
none_is_some transaction more same =
    let whole = ap length same ∙ length-append (transaction_bytes transaction) more in
    let some = transaction_some transaction in
    omega (arith, whole, some)

pub transactions_once : (pages : ℕ) (one other : List Transaction) → pages ≤ 65536 → All (IsTransaction pages) one → All (IsTransaction pages) other → flat_map transaction_bytes one ≡ flat_map transaction_bytes other → one ≡ other
transactions_once pages [] [] few ones all same = refl
transactions_once pages [] (y ∷ ys) few ones all same = absurd (none_is_some y _ same)
transactions_once pages (x ∷ xs) [] few ones all same = absurd (none_is_some x _ (sym same))
transactions_once pages (x ∷ xs) (y ∷ ys) few ones all same =
    let first = transaction_once pages x y _ _ few (ones 0 x (omega arith)) (all 0 y (omega arith)) same in
    let rest = transactions_once pages xs ys few (λ k d h. ones (suc k) d (omega (arith, h))) (λ k d h. all (suc k) d (omega (arith, h))) first.1 in
    λ i. first.0 i ∷ rest i

-- a batch at a place is one, and so is the place of the next gate
pub batch_once : (pages : ℕ) (log : Image) (at : ℕ) (one other : List Transaction) (next then_next : ℕ) → pages ≤ 65536 → IsBatch pages log at one next → IsBatch pages log at other then_next → (one ≡ other) × (next ≡ then_next)
batch_once pages log at one other next then_next few one_is other_is =
    let one_small : length one_is.body < log_bytes = omega (arith, one_is.behind, one_is.inside) in
    let other_small : length other_is.body < log_bytes = omega (arith, other_is.behind, other_is.inside) in
    let sizes : bytes_of 4 (length one_is.body) ++ [] ≡ bytes_of 4 (length other_is.body) ++ [] = ap (λ (bytes : List ℕ). bytes ++ []) (sym one_is.size ∙ other_is.size) in
    let long : length one_is.body ≡ length other_is.body = (number_once 4 (length one_is.body) (length other_is.body) [] [] (omega (arith, one_small)) (omega (arith, other_small)) sizes).0 in
    let bodies : one_is.body ≡ other_is.body = sym one_is.stands ∙ ap (λ (n : ℕ). slice log (at + 5) n) long ∙ other_is.stands in
    let bytes = sym one_is.means.bytes ∙ bodies ∙ other_is.means.bytes in
    (transactions_once pages one other few one_is.means.each other_is.means.each bytes, one_is.behind ∙ ap (λ (n : ℕ). at + 5 + n) long ∙ sym other_is.behind)

pub log_once : (pages : ℕ) (log : Image) (at : ℕ) (one other : List (List Transaction)) (end then_end : ℕ) → pages ≤ 65536 → IsLog pages log at one end → IsLog pages log at other then_end → (one ≡ other) × (end ≡ then_end)
log_once pages log at [] [] end then_end few one_is other_is = (refl, one_is.1 ∙ sym other_is.1)
log_once pages log at [] (y ∷ ys) end then_end few one_is (next, is, rest) = absurd (one_is.0 is.gate)
log_once pages log at (x ∷ xs) [] end then_end few (next, is, rest) other_is = absurd (other_is.0 is.gate)
log_once pages log at (x ∷ xs) (y ∷ ys) end then_end few (next, is, rest) (then_next, then_is, then_rest) =
    let first = batch_once pages log at x y next then_next few is then_is in
    let others = log_once pages log then_next xs ys end then_end few (subst (λ (place : ℕ). IsLog pages log place xs end) first.1 rest) then_rest in
    ((λ i. first.0 i ∷ others.0 i), others.1)
