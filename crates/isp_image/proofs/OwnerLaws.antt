-- Who has which page, where a table's tree takes pages that were free.
use Rattle.std.proofs.Common.{◌≡◌, ℕ, zero, suc, ◌+◌, ◌<◌, ◌≤◌, ◌==◌, Bool, true, false, List, [], ◌∷◌, refl, sym, ◌∙◌, ap, arith, if◌then◌else◌}
use Rattle.std.specs.Prelude.{◌≢◌, ◌&&◌, nat_le}
use Rattle.std.proofs.lemmas.Bool.{and_from, and_parts}
use Rattle.std.proofs.lemmas.Bool.Decides.{nat_tests}
use Rattle.isp_base.specs.Lists.{times}
use Rattle.isp_space.specs.Spaces.{Space, fresh_after, next_free, next_of, rest_of, taken}
use Rattle.isp_clustered.specs.Puts.{takes, taken_times}
use Rattle.isp_image.specs.Files.{Owner, Owns, OwnsSpace, is_known, is_owner, nobody, of_free, of_slot, of_table}
use Rattle.isp_image.proofs.ListLaws.{counted, page_itself}

bool_bad : false ≡ true → ⊥
bool_bad is = cc

-- ---- owners with no page in common

abbrev pub Differ : Owner → Owner → Type 0
Differ x y = (w : Owner) → is_owner x w ≡ true → is_owner y w ≡ false

number_apart : (n m k : ℕ) → n ≢ m → (n == k) ≡ true → (m == k) ≡ false
number_apart n m k differ is = by (m == k) refl
  where
    by : (b : Bool) → (m == k) ≡ b → b ≡ false
    by true at = let one : n ≡ k = grind (arith, is) in let other : m ≡ k = grind (arith, at) in absurd (differ (one ∙ sym other))
    by false at = refl

pub tables_differ : (n m : ℕ) → n ≢ m → Differ (of_table n) (of_table m)
tables_differ n m differ nobody is = refl
tables_differ n m differ of_free is = refl
tables_differ n m differ (of_table k) is = number_apart n m k differ is
tables_differ n m differ (of_slot k) is = refl

pub free_differs : (n : ℕ) → Differ of_free (of_table n)
free_differs n nobody is = refl
free_differs n of_free is = refl
free_differs n (of_table k) is = absurd (bool_bad is)
free_differs n (of_slot k) is = refl

pub table_is : (n : ℕ) → is_owner (of_table n) (of_table n) ≡ true
table_is n = page_itself n

owned : (b : Bool) (n : ℕ) → n ≡ counted b → 1 ≤ n → b ≡ true
owned true n is some = refl
owned false n is some = absurd (omega (arith, is, some))

pub has_owner : (owner : ℕ → Owner) (who : Owner) (xs : List ℕ) (page : ℕ) → Owns owner who xs → 1 ≤ times page xs → is_owner who (owner page) ≡ true
has_owner owner who xs page has some = owned (is_owner who (owner page)) (times page xs) (has page) some

pub not_owned : (owner : ℕ → Owner) (who : Owner) (xs : List ℕ) (page : ℕ) → Owns owner who xs → is_owner who (owner page) ≡ false → times page xs ≡ 0
not_owned owner who xs page has out = has page ∙ ap counted out

-- a page of one isn't a page of the other
pub apart : (owner : ℕ → Owner) (x y : Owner) (xs ys : List ℕ) (page : ℕ) → Differ x y → Owns owner x xs → Owns owner y ys → 1 ≤ times page xs → times page ys ≡ 0
apart owner x y xs ys page differ mine theirs some = not_owned owner y ys page theirs (differ (owner page) (has_owner owner x xs page mine some))

pub nobody_none : (owner : ℕ → Owner) (n : ℕ) (xs : List ℕ) (page : ℕ) → Owns owner (of_table n) xs → owner page ≡ nobody → times page xs ≡ 0
nobody_none owner n xs page has none = not_owned owner (of_table n) xs page has (ap (is_owner (of_table n)) none)

-- ---- one page is given

abbrev pub given : Owner → ℕ → (ℕ → Owner) → ℕ → Owner
given who taken_page owner page = if taken_page == page then who else owner page

front_free : (owner : ℕ → Owner) (page : ℕ) (rest : List ℕ) → Owns owner of_free (page ∷ rest) → is_owner of_free (owner page) ≡ true
front_free owner page rest has =
    let one : counted (page == page) ≡ 1 = ap counted (page_itself page) in
    has_owner owner of_free (page ∷ rest) page has (omega (arith, one))

not_nobody : (owner : ℕ → Owner) (page : ℕ) → is_owner of_free (owner page) ≡ true → owner page ≢ nobody
not_nobody owner page is none = bool_bad (sym (ap (is_owner of_free) none) ∙ is)

from_first : (owner : ℕ → Owner) (page : ℕ) → owner page ≢ nobody → ((p : ℕ) → p < 16 → owner p ≡ nobody) → 16 ≤ page
from_first owner page some first = by (nat_le 16 page) refl
  where
    by : (b : Bool) → nat_le 16 page ≡ b → 16 ≤ page
    by true is = grind (arith, nat_tests, is)
    by false is = let less : page < 16 = grind (arith, nat_tests, is) in absurd (some (first page less))

pub next_from : (owner : ℕ → Owner) (free : List ℕ) (fresh : ℕ) → Owns owner of_free free → ((p : ℕ) → p < 16 → owner p ≡ nobody) → 16 ≤ fresh → 16 ≤ next_of free fresh
next_from owner [] fresh has first from = from
next_from owner (page ∷ rest) fresh has first from = from_first owner page (not_nobody owner page (front_free owner page rest has)) first

-- the next page isn't a table's
pub next_owner : (owner : ℕ → Owner) (free : List ℕ) (fresh n : ℕ) → Owns owner of_free free → ((p : ℕ) → fresh ≤ p → owner p ≡ nobody) → is_owner (of_table n) (owner (next_of free fresh)) ≡ false
next_owner owner [] fresh n has never = ap (is_owner (of_table n)) (never fresh (omega arith))
next_owner owner (page ∷ rest) fresh n has never = free_differs n (owner page) (front_free owner page rest has)

one_at_most : (b : Bool) → counted b ≤ 1
one_at_most true = omega arith
one_at_most false = omega arith

free_now : (owner : ℕ → Owner) (n : ℕ) (free : List ℕ) (fresh : ℕ) → Owns owner of_free free → Owns (given (of_table n) (next_of free fresh) owner) of_free (rest_of free)
free_now owner n [] fresh has page = by (fresh == page)
  where
    by : (b : Bool) → 0 ≡ counted (is_owner of_free (if b then of_table n else owner page))
    by true = refl
    by false = has page
free_now owner n (first ∷ rest) fresh has page = by (first == page) (has page)
  where
    by : (b : Bool) → counted b + times page rest ≡ counted (is_owner of_free (owner page)) → times page rest ≡ counted (is_owner of_free (if b then of_table n else owner page))
    by true sum = let most = one_at_most (is_owner of_free (owner page)) in omega (arith, sum, most)
    by false sum = omega (arith, sum)

nobody_bad : (n : ℕ) → of_table n ≡ nobody → ⊥
nobody_bad n is = bool_bad (sym (ap (is_owner (of_table n)) is) ∙ table_is n)

first_now : (owner : ℕ → Owner) (n next page : ℕ) → 16 ≤ next → page < 16 → owner page ≡ nobody → given (of_table n) next owner page ≡ nobody
first_now owner n next page from low none =
    let other : (next == page) ≡ false = grind (arith, from, low) in
    ap (λ (b : Bool). if b then of_table n else owner page) other ∙ none

used_now : (owner : ℕ → Owner) (n : ℕ) (free : List ℕ) (fresh page : ℕ) → ((p : ℕ) → 16 ≤ p → p < fresh → owner p ≢ nobody) → 16 ≤ page → page < fresh_after free fresh → given (of_table n) (next_of free fresh) owner page ≢ nobody
used_now owner n [] fresh page used from to = by (fresh == page) refl
  where
    by : (b : Bool) → (fresh == page) ≡ b → (if b then of_table n else owner page) ≢ nobody
    by true is = nobody_bad n
    by false is = let less : page < fresh = below fresh page is to in used page from less
      where
        below : (a b : ℕ) → (a == b) ≡ false → b < a + 1 → b < a
        below a b is to = grind (arith, is, to)
used_now owner n (first ∷ rest) fresh page used from to = by (first == page)
  where
    by : (b : Bool) → (if b then of_table n else owner page) ≢ nobody
    by true = nobody_bad n
    by false = used page from to

never_now : (owner : ℕ → Owner) (n : ℕ) (free : List ℕ) (fresh page : ℕ) → Owns owner of_free free → ((p : ℕ) → fresh ≤ p → owner p ≡ nobody) → fresh_after free fresh ≤ page → given (of_table n) (next_of free fresh) owner page ≡ nobody
never_now owner n [] fresh page has never from =
    let other : (fresh == page) ≡ false = grind (arith, from) in
    ap (λ (b : Bool). if b then of_table n else owner page) other ∙ never page (omega (arith, from))
never_now owner n (first ∷ rest) fresh page has never from = by (first == page) refl
  where
    by : (b : Bool) → (first == page) ≡ b → (if b then of_table n else owner page) ≡ nobody
    by true is =
        let same : first ≡ page = grind (arith, is) in
        absurd (not_nobody owner first (front_free owner first rest has) (ap owner same ∙ never page from))
    by false is = never page from

pub taken_shared : (owner : ℕ → Owner) (n : ℕ) (s : Space) → OwnsSpace owner s → 16 ≤ s.fresh → OwnsSpace (given (of_table n) (next_free s) owner) (taken s)
taken_shared owner n s has from = record {
  free = free_now owner n s.free s.fresh has.free;
  first = λ page low. first_now owner n (next_free s) page (next_from owner s.free s.fresh has.free has.first from) low (has.first page low);
  used = λ page low high. used_now owner n s.free s.fresh page has.used low high;
  never = λ page high. never_now owner n s.free s.fresh page has.free has.never high;
}

taken_stays : (owner : ℕ → Owner) (n m next : ℕ) (xs : List ℕ) → n ≢ m → is_owner (of_table m) (owner next) ≡ false → Owns owner (of_table m) xs → Owns (given (of_table n) next owner) (of_table m) xs
taken_stays owner n m next xs differ apart has page = has page ∙ by (next == page) refl
  where
    by : (b : Bool) → (next == page) ≡ b → ◌≡◌ {A = ℕ} (counted (is_owner (of_table m) (owner page))) (counted (is_owner (of_table m) (if b then of_table n else owner page)))
    by true is =
        let same : next ≡ page = grind (arith, is) in
        ap counted (ap (λ (p : ℕ). is_owner (of_table m) (owner p)) (sym same) ∙ apart ∙ sym (tables_differ n m differ (of_table n) (table_is n)))
    by false is = refl

taken_grows : (owner : ℕ → Owner) (n next : ℕ) (xs : List ℕ) → is_owner (of_table n) (owner next) ≡ false → Owns owner (of_table n) xs → Owns (given (of_table n) next owner) (of_table n) (next ∷ xs)
taken_grows owner n next xs apart has page = by (next == page) refl
  where
    by : (b : Bool) → (next == page) ≡ b → counted b + times page xs ≡ counted (is_owner (of_table n) (if b then of_table n else owner page))
    by true is =
        let same : next ≡ page = grind (arith, is) in
        let none : times page xs ≡ 0 = not_owned owner (of_table n) xs page has (ap (λ (p : ℕ). is_owner (of_table n) (owner p)) (sym same) ∙ apart) in
        let one : counted (is_owner (of_table n) (of_table n)) ≡ 1 = ap counted (table_is n) in
        omega (arith, none, one)
    by false is = let mine = has page in omega (arith, mine)

-- ---- so many pages are

abbrev pub after_takes : ℕ → Space → ℕ → (ℕ → Owner) → ℕ → Owner
after_takes zero s n owner = owner
after_takes (suc k) s n owner = after_takes k (taken s) n (given (of_table n) (next_free s) owner)

fresh_on : (free : List ℕ) (fresh : ℕ) → 16 ≤ fresh → 16 ≤ fresh_after free fresh
fresh_on [] fresh from = omega (arith, from)
fresh_on (page ∷ rest) fresh from = from

pub takes_shared : (k : ℕ) (s : Space) (n : ℕ) (owner : ℕ → Owner) → OwnsSpace owner s → 16 ≤ s.fresh → OwnsSpace (after_takes k s n owner) (taken_times k s)
takes_shared zero s n owner has from = has
takes_shared (suc k) s n owner has from = takes_shared k (taken s) n (given (of_table n) (next_free s) owner) (taken_shared owner n s has from) (fresh_on s.free s.fresh from)

pub takes_stay : (k : ℕ) (s : Space) (n m : ℕ) (owner : ℕ → Owner) (xs : List ℕ) → OwnsSpace owner s → 16 ≤ s.fresh → n ≢ m → Owns owner (of_table m) xs → Owns (after_takes k s n owner) (of_table m) xs
takes_stay zero s n m owner xs has from differ mine = mine
takes_stay (suc k) s n m owner xs has from differ mine =
    takes_stay k (taken s) n m (given (of_table n) (next_free s) owner) xs (taken_shared owner n s has from) (fresh_on s.free s.fresh from) differ
    (taken_stays owner n m (next_free s) xs differ (next_owner owner s.free s.fresh m has.free has.never) mine)

pub takes_grow : (k : ℕ) (s : Space) (n : ℕ) (owner : ℕ → Owner) (xs ys : List ℕ) → OwnsSpace owner s → 16 ≤ s.fresh → Owns owner (of_table n) xs
    → ((page : ℕ) → times page ys ≡ times page xs + times page (takes k s)) → Owns (after_takes k s n owner) (of_table n) ys
takes_grow zero s n owner xs ys has from mine sum = λ page. let one = sum page in let had = mine page in omega (arith, one, had)
takes_grow (suc k) s n owner xs ys has from mine sum =
    takes_grow k (taken s) n (given (of_table n) (next_free s) owner) (next_free s ∷ xs) ys (taken_shared owner n s has from) (fresh_on s.free s.fresh from)
    (taken_grows owner n (next_free s) xs (next_owner owner s.free s.fresh n has.free has.never) mine)
    (λ page. let one = sum page in omega (arith, one))

-- ---- owners that are there

pub takes_known : (k : ℕ) (s : Space) (n tables : ℕ) (owner : ℕ → Owner) → is_known tables (of_table n) ≡ true → ((page : ℕ) → is_known tables (owner page) ≡ true) → (page : ℕ) → is_known tables (after_takes k s n owner page) ≡ true
takes_known zero s n tables owner is all page = all page
takes_known (suc k) s n tables owner is all page = takes_known k (taken s) n tables (given (of_table n) (next_free s) owner) is (λ p. by p (next_free s == p)) page
  where
    by : (p : ℕ) (b : Bool) → is_known tables (if b then of_table n else owner p) ≡ true
    by p true = is
    by p false = all p

le_test : (a b : ℕ) → a ≤ b → nat_le a b ≡ true
le_test a b is = grind (arith, nat_tests, is)

test_le : (a b : ℕ) → nat_le a b ≡ true → a ≤ b
test_le a b is = grind (arith, nat_tests, is)

pub table_known : (place tables : ℕ) → place < tables → is_known tables (of_table (suc place)) ≡ true
table_known place tables below = and_from (nat_le 1 (suc place)) (nat_le (suc place) tables) (le_test 1 (suc place) (omega arith)) (le_test (suc place) tables (omega (arith, below)))

-- a table that isn't there has no page
pub table_none : (tables n : ℕ) (owner : ℕ → Owner) → tables < n → ((page : ℕ) → is_known tables (owner page) ≡ true) → Owns owner (of_table n) []
table_none tables n owner above all page = by (owner page) (all page)
  where
    far : (k : ℕ) → (nat_le 1 k && nat_le k tables) ≡ true → (n == k) ≡ false
    far k is = let most = test_le k tables (and_parts (nat_le 1 k) (nat_le k tables) is).1 in grind (arith, most, above)

    by : (w : Owner) → is_known tables w ≡ true → 0 ≡ counted (is_owner (of_table n) w)
    by nobody is = refl
    by of_free is = refl
    by (of_table k) is = sym (ap counted (far k is))
    by (of_slot k) is = refl

-- one table more
pub known_more : (tables : ℕ) (w : Owner) → is_known tables w ≡ true → is_known (suc tables) w ≡ true
known_more tables nobody is = refl
known_more tables of_free is = refl
known_more tables (of_table k) is =
    let parts = and_parts (nat_le 1 k) (nat_le k tables) is in
    let most = test_le k tables parts.1 in
    and_from (nat_le 1 k) (nat_le k (suc tables)) parts.0 (le_test k (suc tables) (omega (arith, most)))
known_more tables (of_slot k) is = is
