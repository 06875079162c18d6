-- Who has which page, where a slot takes a page and gives pages back.
use Rattle.std.proofs.Common.{◌≡◌, ℕ, zero, suc, ◌+◌, ◌<◌, ◌≤◌, ◌==◌, Bool, true, false, ◌||◌, List, [], ◌∷◌, ◌++◌, refl, sym, ◌∙◌, ap, arith, if◌then◌else◌}
use Rattle.std.specs.Prelude.{◌≢◌, nat_le}
use Rattle.std.proofs.lemmas.Bool.Decides.{nat_tests}
use Rattle.isp_base.specs.Lists.{times}
use Rattle.isp_page.specs.State.{is_among}
use Rattle.isp_space.specs.Giving.{with_chain}
use Rattle.isp_space.specs.Spaces.{Space, fresh_after, next_free, next_of, rest_of, taken}
use Rattle.isp_image.specs.Files.{Owner, Owns, OwnsSpace, is_owner, nobody, of_free, of_slot, of_table}
use Rattle.isp_image.proofs.ListLaws.{counted, page_itself}
use Rattle.isp_image.proofs.OwnerLaws.{Differ, after_takes, apart, given, has_owner, not_owned, table_is, taken_shared}

bool_bad : false ≡ true → ⊥
bool_bad is = cc

-- ---- owners with no page in common

number_apart : (n m k : ℕ) → n ≢ m → (n == k) ≡ true → (m == k) ≡ false
number_apart n m k differ is = by (m == k) refl
  where
    by : (b : Bool) → (m == k) ≡ b → b ≡ false
    by true at = let one : n ≡ k = grind (arith, is) in let other : m ≡ k = grind (arith, at) in absurd (differ (one ∙ sym other))
    by false at = refl

pub slots_differ : (n m : ℕ) → n ≢ m → Differ (of_slot n) (of_slot m)
slots_differ n m differ nobody is = refl
slots_differ n m differ of_free is = refl
slots_differ n m differ (of_table k) is = refl
slots_differ n m differ (of_slot k) is = number_apart n m k differ is

pub table_slot : (n m : ℕ) → Differ (of_table n) (of_slot m)
table_slot n m nobody is = refl
table_slot n m of_free is = refl
table_slot n m (of_table k) is = refl
table_slot n m (of_slot k) is = absurd (bool_bad is)

pub slot_table : (n m : ℕ) → Differ (of_slot n) (of_table m)
slot_table n m nobody is = refl
slot_table n m of_free is = refl
slot_table n m (of_table k) is = absurd (bool_bad is)
slot_table n m (of_slot k) is = refl

pub free_slot : (m : ℕ) → Differ of_free (of_slot m)
free_slot m nobody is = refl
free_slot m of_free is = refl
free_slot m (of_table k) is = absurd (bool_bad is)
free_slot m (of_slot k) is = absurd (bool_bad is)

pub slot_free : (m : ℕ) → Differ (of_slot m) of_free
slot_free m nobody is = refl
slot_free m of_free is = absurd (bool_bad is)
slot_free m (of_table k) is = refl
slot_free m (of_slot k) is = refl

pub free_table : (n : ℕ) → Differ of_free (of_table n)
free_table n nobody is = refl
free_table n of_free is = refl
free_table n (of_table k) is = absurd (bool_bad is)
free_table n (of_slot k) is = refl

pub slot_is : (n : ℕ) → is_owner (of_slot n) (of_slot n) ≡ true
slot_is n = page_itself n

slot_some : (n : ℕ) → of_slot n ≢ nobody
slot_some n is = bool_bad (sym (ap (is_owner (of_slot n)) is) ∙ slot_is n)

-- ---- the next page goes to a slot

front_free : (owner : ℕ → Owner) (page : ℕ) (rest : List ℕ) → Owns owner of_free (page ∷ rest) → is_owner of_free (owner page) ≡ true
front_free owner page rest has =
    let one : counted (page == page) ≡ 1 = ap counted (page_itself page) in
    has_owner owner of_free (page ∷ rest) page has (omega (arith, one))

not_nobody : (owner : ℕ → Owner) (page : ℕ) → is_owner of_free (owner page) ≡ true → owner page ≢ nobody
not_nobody owner page is none = bool_bad (sym (ap (is_owner of_free) none) ∙ is)

from_first : (owner : ℕ → Owner) (page : ℕ) → owner page ≢ nobody → ((p : ℕ) → p < 16 → owner p ≡ nobody) → 16 ≤ page
from_first owner page some first = by (nat_le 16 page) refl
  where
    by : (b : Bool) → nat_le 16 page ≡ b → 16 ≤ page
    by true is = grind (arith, nat_tests, is)
    by false is = let less : page < 16 = grind (arith, nat_tests, is) in absurd (some (first page less))

next_from : (owner : ℕ → Owner) (free : List ℕ) (fresh : ℕ) → Owns owner of_free free → ((p : ℕ) → p < 16 → owner p ≡ nobody) → 16 ≤ fresh → 16 ≤ next_of free fresh
next_from owner [] fresh has first from = from
next_from owner (page ∷ rest) fresh has first from = from_first owner page (not_nobody owner page (front_free owner page rest has)) first

-- the next page is none of those who don't share with the free chain
pub next_other : (owner : ℕ → Owner) (who : Owner) (s : Space) → Differ of_free who → is_owner who nobody ≡ false → OwnsSpace owner s → is_owner who (owner (next_free s)) ≡ false
next_other owner who s differ none has = by s.free s.fresh has.free has.never
  where
    by : (free : List ℕ) (fresh : ℕ) → Owns owner of_free free → ((p : ℕ) → fresh ≤ p → owner p ≡ nobody) → is_owner who (owner (next_of free fresh)) ≡ false
    by [] fresh mine never = ap (is_owner who) (never fresh (omega arith)) ∙ none
    by (page ∷ rest) fresh mine never = differ (owner page) (front_free owner page rest mine)

one_at_most : (b : Bool) → counted b ≤ 1
one_at_most true = omega arith
one_at_most false = omega arith

free_now : (owner : ℕ → Owner) (n : ℕ) (free : List ℕ) (fresh : ℕ) → Owns owner of_free free → Owns (given (of_slot n) (next_of free fresh) owner) of_free (rest_of free)
free_now owner n [] fresh has page = by (fresh == page)
  where
    by : (b : Bool) → 0 ≡ counted (is_owner of_free (if b then of_slot n else owner page))
    by true = refl
    by false = has page
free_now owner n (first ∷ rest) fresh has page = by (first == page) (has page)
  where
    by : (b : Bool) → counted b + times page rest ≡ counted (is_owner of_free (owner page)) → times page rest ≡ counted (is_owner of_free (if b then of_slot n else owner page))
    by true sum = let most = one_at_most (is_owner of_free (owner page)) in omega (arith, sum, most)
    by false sum = omega (arith, sum)

first_now : (owner : ℕ → Owner) (n next page : ℕ) → 16 ≤ next → page < 16 → owner page ≡ nobody → given (of_slot n) next owner page ≡ nobody
first_now owner n next page from low none =
    let other : (next == page) ≡ false = grind (arith, from, low) in
    ap (λ (b : Bool). if b then of_slot n else owner page) other ∙ none

used_now : (owner : ℕ → Owner) (n : ℕ) (free : List ℕ) (fresh page : ℕ) → ((p : ℕ) → 16 ≤ p → p < fresh → owner p ≢ nobody) → 16 ≤ page → page < fresh_after free fresh → given (of_slot n) (next_of free fresh) owner page ≢ nobody
used_now owner n [] fresh page used from to = by (fresh == page) refl
  where
    below : (a b : ℕ) → (a == b) ≡ false → b < a + 1 → b < a
    below a b is to = grind (arith, is, to)

    by : (b : Bool) → (fresh == page) ≡ b → (if b then of_slot n else owner page) ≢ nobody
    by true is = slot_some n
    by false is = used page from (below fresh page is to)
used_now owner n (first ∷ rest) fresh page used from to = by (first == page)
  where
    by : (b : Bool) → (if b then of_slot n else owner page) ≢ nobody
    by true = slot_some n
    by false = used page from to

never_now : (owner : ℕ → Owner) (n : ℕ) (free : List ℕ) (fresh page : ℕ) → Owns owner of_free free → ((p : ℕ) → fresh ≤ p → owner p ≡ nobody) → fresh_after free fresh ≤ page → given (of_slot n) (next_of free fresh) owner page ≡ nobody
never_now owner n [] fresh page has never from =
    let other : (fresh == page) ≡ false = grind (arith, from) in
    ap (λ (b : Bool). if b then of_slot n else owner page) other ∙ never page (omega (arith, from))
never_now owner n (first ∷ rest) fresh page has never from = by (first == page) refl
  where
    by : (b : Bool) → (first == page) ≡ b → (if b then of_slot n else owner page) ≡ nobody
    by true is =
        let same : first ≡ page = grind (arith, is) in
        absurd (not_nobody owner first (front_free owner first rest has) (ap owner same ∙ never page from))
    by false is = never page from

pub slot_taken : (owner : ℕ → Owner) (n : ℕ) (s : Space) → OwnsSpace owner s → 16 ≤ s.fresh → OwnsSpace (given (of_slot n) (next_free s) owner) (taken s)
slot_taken owner n s has from = record {
  free = free_now owner n s.free s.fresh has.free;
  first = λ page low. first_now owner n (next_free s) page (next_from owner s.free s.fresh has.free has.first from) low (has.first page low);
  used = λ page low high. used_now owner n s.free s.fresh page has.used low high;
  never = λ page high. never_now owner n s.free s.fresh page has.free has.never high;
}

-- others keep their pages where one page is given to somebody else
pub given_stays : (owner : ℕ → Owner) (who other : Owner) (next : ℕ) (xs : List ℕ) → is_owner other who ≡ false → is_owner other (owner next) ≡ false → Owns owner other xs → Owns (given who next owner) other xs
given_stays owner who other next xs differ apart has page = has page ∙ by (next == page) refl
  where
    by : (b : Bool) → (next == page) ≡ b → ◌≡◌ {A = ℕ} (counted (is_owner other (owner page))) (counted (is_owner other (if b then who else owner page)))
    by true is =
        let same : next ≡ page = grind (arith, is) in
        ap counted (ap (λ (p : ℕ). is_owner other (owner p)) (sym same) ∙ apart ∙ sym differ)
    by false is = refl

times_more : (page : ℕ) (xs ys : List ℕ) → times page (xs ++ ys) ≡ times page xs + times page ys
times_more page [] ys = omega arith
times_more page (x ∷ xs) ys = let rest = times_more page xs ys in omega (arith, rest)

-- and the one that gets it has it behind its own
pub given_grows : (owner : ℕ → Owner) (who : Owner) (next : ℕ) (xs : List ℕ) → is_owner who who ≡ true → is_owner who (owner next) ≡ false → Owns owner who xs → Owns (given who next owner) who (xs ++ next ∷ [])
given_grows owner who next xs mine apart has page = by (next == page) refl
  where
    sum : times page (xs ++ next ∷ []) ≡ times page xs + (counted (next == page) + 0)
    sum = times_more page xs (next ∷ [])

    by : (b : Bool) → (next == page) ≡ b → times page (xs ++ next ∷ []) ≡ counted (is_owner who (if b then who else owner page))
    by true is =
        let same : next ≡ page = grind (arith, is) in
        let none : times page xs ≡ 0 = not_owned owner who xs page has (ap (λ (p : ℕ). is_owner who (owner p)) (sym same) ∙ apart) in
        let one : counted (is_owner who who) ≡ 1 = ap counted mine in
        let here : counted (next == page) ≡ 1 = ap counted is in
        omega (arith, sum, none, one, here)
    by false is =
        let here : counted (next == page) ≡ 0 = ap counted is in
        let had = has page in
        omega (arith, sum, here, had)

-- ---- pages are given back

-- these pages are free now
abbrev pub given_back : List ℕ → (ℕ → Owner) → ℕ → Owner
given_back gone owner page = if is_among page gone then of_free else owner page

pub among_times : (page : ℕ) (xs : List ℕ) → is_among page xs ≡ true → 1 ≤ times page xs
among_times page [] is = absurd (let bad : false ≡ true = is in bool_bad bad)
among_times page (x ∷ xs) is = by (x == page) is (among_times page xs)
  where
    by : (b : Bool) → (b || is_among page xs) ≡ true → (is_among page xs ≡ true → 1 ≤ times page xs) → 1 ≤ counted b + times page xs
    by true is rest = omega arith
    by false is rest = let more = rest is in omega (arith, more)

pub none_times : (page : ℕ) (xs : List ℕ) → is_among page xs ≡ false → times page xs ≡ 0
none_times page [] is = refl
none_times page (x ∷ xs) is = by (x == page) is (none_times page xs)
  where
    by : (b : Bool) → (b || is_among page xs) ≡ false → (is_among page xs ≡ false → times page xs ≡ 0) → counted b + times page xs ≡ 0
    by true is rest = absurd (let bad : true ≡ false = is in bool_bad (sym bad))
    by false is rest = let none = rest is in omega (arith, none)

once_owned : (owner : ℕ → Owner) (who : Owner) (xs : List ℕ) (page : ℕ) → Owns owner who xs → times page xs ≤ 1
once_owned owner who xs page has = let is = has page in let most = one_at_most (is_owner who (owner page)) in omega (arith, is, most)

-- a page that goes was the slot's, once
gone_owner : (owner : ℕ → Owner) (n : ℕ) (kept gone : List ℕ) (page : ℕ) → Owns owner (of_slot n) (kept ++ gone) → is_among page gone ≡ true → (is_owner (of_slot n) (owner page) ≡ true) × (times page gone ≡ 1) × (times page kept ≡ 0)
gone_owner owner n kept gone page mine is =
    let some = among_times page gone is in
    let sum = times_more page kept gone in
    let once = once_owned owner (of_slot n) (kept ++ gone) page mine in
    (has_owner owner (of_slot n) (kept ++ gone) page mine (omega (arith, some, sum)), omega (arith, some, sum, once), omega (arith, some, sum, once))

pub back_shared : (owner : ℕ → Owner) (n : ℕ) (kept gone : List ℕ) (s : Space) → Owns owner (of_slot n) (kept ++ gone) → OwnsSpace owner s → OwnsSpace (given_back gone owner) (with_chain gone s)
back_shared owner n kept gone s mine has = record {
  free = λ page. free page;
  first = λ page low. first page low;
  used = λ page low high. used page low high;
  never = λ page high. never page high;
}
  where
    free_by : (page : ℕ) (b : Bool) → is_among page gone ≡ b → times page (gone ++ s.free) ≡ counted (is_owner of_free (if b then of_free else owner page))
    free_by page true is =
        let g = gone_owner owner n kept gone page mine is in
        let none : times page s.free ≡ 0 = not_owned owner of_free s.free page has.free (slot_free n (owner page) g.0) in
        let sum = times_more page gone s.free in
        let one = g.1 in
        omega (arith, none, sum, one)
    free_by page false is =
        let none = none_times page gone is in
        let sum = times_more page gone s.free in
        let had = has.free page in
        omega (arith, none, sum, had)

    free : (page : ℕ) → times page (gone ++ s.free) ≡ counted (is_owner of_free (given_back gone owner page))
    free page = free_by page (is_among page gone) refl

    not_gone : (page : ℕ) (b : Bool) → is_among page gone ≡ b → owner page ≡ nobody → (if b then of_free else owner page) ≡ nobody
    not_gone page true is none = absurd (bool_bad (sym (ap (is_owner (of_slot n)) none) ∙ (gone_owner owner n kept gone page mine is).0))
    not_gone page false is none = none

    first : (page : ℕ) → page < 16 → given_back gone owner page ≡ nobody
    first page low = not_gone page (is_among page gone) refl (has.first page low)

    never : (page : ℕ) → s.fresh ≤ page → given_back gone owner page ≡ nobody
    never page high = not_gone page (is_among page gone) refl (has.never page high)

    free_bad : of_free ≡ nobody → ⊥
    free_bad is = bool_bad (sym (ap (is_owner of_free) is))

    used_by : (page : ℕ) (b : Bool) → owner page ≢ nobody → (if b then of_free else owner page) ≢ nobody
    used_by page true some = free_bad
    used_by page false some = some

    used : (page : ℕ) → 16 ≤ page → page < s.fresh → given_back gone owner page ≢ nobody
    used page low high = used_by page (is_among page gone) (has.used page low high)

pub back_stays : (owner : ℕ → Owner) (n : ℕ) (kept gone : List ℕ) (who : Owner) (xs : List ℕ) → is_owner who of_free ≡ false → Differ (of_slot n) who → Owns owner (of_slot n) (kept ++ gone) → Owns owner who xs → Owns (given_back gone owner) who xs
back_stays owner n kept gone who xs not_free differ mine has page = by (is_among page gone) refl
  where
    by : (b : Bool) → is_among page gone ≡ b → times page xs ≡ counted (is_owner who (if b then of_free else owner page))
    by true is =
        let none = not_owned owner who xs page has (differ (owner page) (gone_owner owner n kept gone page mine is).0) in
        none ∙ sym (ap counted not_free)
    by false is = has page

pub back_shrinks : (owner : ℕ → Owner) (n : ℕ) (kept gone : List ℕ) → Owns owner (of_slot n) (kept ++ gone) → Owns (given_back gone owner) (of_slot n) kept
back_shrinks owner n kept gone mine page = by (is_among page gone) refl
  where
    by : (b : Bool) → is_among page gone ≡ b → times page kept ≡ counted (is_owner (of_slot n) (if b then of_free else owner page))
    by true is = (gone_owner owner n kept gone page mine is).2
    by false is =
        let none = none_times page gone is in
        let sum = times_more page kept gone in
        let had = mine page in
        omega (arith, none, sum, had)

-- ---- a table takes pages

pub slots_stay : (k : ℕ) (s : Space) (n m : ℕ) (owner : ℕ → Owner) (xs : List ℕ) → OwnsSpace owner s → 16 ≤ s.fresh → Owns owner (of_slot m) xs → Owns (after_takes k s n owner) (of_slot m) xs
slots_stay zero s n m owner xs has from mine = mine
slots_stay (suc k) s n m owner xs has from mine =
    slots_stay k (taken s) n m (given (of_table n) (next_free s) owner) xs (taken_shared owner n s has from) (fresh_on s.free s.fresh from)
    (given_stays owner (of_table n) (of_slot m) (next_free s) xs (table_slot n m (of_table n) (table_is n)) (next_other owner (of_slot m) s (free_slot m) refl has) mine)
  where
    fresh_on : (free : List ℕ) (fresh : ℕ) → 16 ≤ fresh → 16 ≤ fresh_after free fresh
    fresh_on [] fresh from = omega (arith, from)
    fresh_on (page ∷ rest) fresh from = from
