-- What stands at each key once the rows are changed at one, and that the keys go on rising.
use Rattle.std.proofs.Common.{◌≡◌, ℤ, Bool, true, false, List, [], ◌∷◌, ◌++◌, Option, Some, None, refl, sym, ◌∙◌, ap, subst, arith, if◌then◌else◌}
use Rattle.std.specs.Prelude.{int_lt}
use Rattle.std.specs.Ordering.{int_eq}
use Rattle.std.proofs.lemmas.Int.{ints}
use Rattle.isp_format.specs.Leaf.{Stored}
use Rattle.isp_cells.specs.Rows.{IsBelowAll, Rises, behind, below, exchanged, find, first_at, from, one_or_none, without_first_at}

-- ---- keys

lt_on : (a b c : ℤ) → int_lt a b ≡ true → int_lt b c ≡ true → int_lt a c ≡ true
lt_on a b c first second = grind (arith, ints)

not_below_nor_at : (a key : ℤ) → int_lt a key ≡ false → int_eq a key ≡ false → int_lt key a ≡ true
not_below_nor_at a key not_below not_at = grind (arith, ints)

pub is_key : (a key : ℤ) → int_eq a key ≡ true → a ≡ key
is_key a key is = grind (arith, ints)

key_itself : (a key : ℤ) → a ≡ key → int_eq a key ≡ true
key_itself a key is = grind (arith, ints)

below_not_at : (a b : ℤ) → int_lt a b ≡ true → int_eq a b ≡ false
below_not_at a b less = grind (arith, ints)

below_not_above : (a b : ℤ) → int_lt a b ≡ true → int_lt b a ≡ false
below_not_above a b less = grind (arith, ints)

not_below_itself : (a b : ℤ) → int_eq a b ≡ true → int_lt a b ≡ false
not_below_itself a b same = grind (arith, ints)

-- ---- the rows are those below a key, the one at it, and those behind

pub parted : (key : ℤ) (rows : List Stored) → rows ≡ below key rows ++ (one_or_none (find key rows) ++ behind key rows)
parted key [] = refl
parted key (s ∷ rows) = by (int_lt s.key key) (parted key rows)
  where
    here : (b : Bool) → s ∷ rows ≡ one_or_none (if b then Some s else None) ++ (if b then rows else s ∷ rows)
    here true = refl
    here false = refl

    by : (b : Bool) → rows ≡ below key rows ++ (one_or_none (find key rows) ++ behind key rows)
        → s ∷ rows ≡ (if b then s ∷ below key rows else []) ++ (one_or_none (first_at key (if b then from key rows else s ∷ rows)) ++ without_first_at key (if b then from key rows else s ∷ rows))
    by true rest = λ i. s ∷ rest i
    by false rest = here (int_eq s.key key)

-- ---- below all

pub below_joined : (x : ℤ) (first second : List Stored) → IsBelowAll x first → IsBelowAll x second → IsBelowAll x (first ++ second)
below_joined x [] second one other = other
below_joined x (s ∷ first) second one other = (one.0, below_joined x first second one.1 other)

below_first : (x : ℤ) (first second : List Stored) → IsBelowAll x (first ++ second) → IsBelowAll x first
below_first x [] second all = tt
below_first x (s ∷ first) second all = (all.0, below_first x first second all.1)

below_second : (x : ℤ) (first second : List Stored) → IsBelowAll x (first ++ second) → IsBelowAll x second
below_second x [] second all = all
below_second x (s ∷ first) second all = below_second x first second all.1

below_on : (x y : ℤ) (rows : List Stored) → int_lt x y ≡ true → IsBelowAll y rows → IsBelowAll x rows
below_on x y [] less all = tt
below_on x y (s ∷ rows) less all = (lt_on x y s.key less all.0, below_on x y rows less all.1)

-- a row put at a key has it
abbrev pub HasKey : ℤ → Option Stored → Type 0
HasKey key None = Unit {0}
HasKey key (Some s) = s.key ≡ key

below_one : (x key : ℤ) (row : Option Stored) → HasKey key row → int_lt x key ≡ true → IsBelowAll x (one_or_none row)
below_one x key None has less = tt
below_one x key (Some s) has less = (ap (int_lt x) has ∙ less, tt)

-- ---- the keys rise

rises_front : (key : ℤ) (row : Option Stored) (rows : List Stored) → HasKey key row → IsBelowAll key rows → Rises rows → Rises (one_or_none row ++ rows)
rises_front key None rows has all rises = rises
rises_front key (Some s) rows has all rises = (subst (λ (k : ℤ). IsBelowAll k rows) (sym has) all, rises)

exchanged_below : (x key : ℤ) (row : Option Stored) (rows : List Stored) → HasKey key row → int_lt x key ≡ true → IsBelowAll x rows → IsBelowAll x (exchanged key row rows)
exchanged_below x key row rows has less all =
    let parts = subst (IsBelowAll x) (parted key rows) all in
    let rest = below_second x (below key rows) (one_or_none (find key rows) ++ behind key rows) parts in
    below_joined x (below key rows) (one_or_none row ++ behind key rows) (below_first x (below key rows) _ parts)
    (below_joined x (one_or_none row) (behind key rows) (below_one x key row has less) (below_second x (one_or_none (find key rows)) (behind key rows) rest))

pub exchanged_rises : (key : ℤ) (row : Option Stored) (rows : List Stored) → HasKey key row → Rises rows → Rises (exchanged key row rows)
exchanged_rises key row [] has rises = rises_front key row [] has tt tt
exchanged_rises key row (s ∷ rows) has rises = by (int_lt s.key key) refl (exchanged_rises key row rows has rises.1)
  where
    here : (b : Bool) → int_eq s.key key ≡ b → int_lt s.key key ≡ false → Rises (one_or_none row ++ (if b then rows else s ∷ rows))
    here true at apart = rises_front key row rows has (subst (λ (k : ℤ). IsBelowAll k rows) (is_key s.key key at) rises.0) rises.1
    here false at apart =
        let less = not_below_nor_at s.key key apart at in
        rises_front key row (s ∷ rows) has (less, below_on key s.key rows less rises.0) rises

    by : (b : Bool) → int_lt s.key key ≡ b → Rises (exchanged key row rows)
        → Rises ((if b then s ∷ below key rows else []) ++ (one_or_none row ++ without_first_at key (if b then from key rows else s ∷ rows)))
    by true less rest = (exchanged_below s.key key row rows has less rises.0, rest)
    by false apart rest = here (int_eq s.key key) refl apart

-- ---- what stands at each key

-- the row of a key in a list that begins with that row
find_head : (k : ℤ) (s : Stored) (rows : List Stored) → find k (s ∷ rows) ≡ (if int_lt s.key k then find k rows else (if int_eq s.key k then Some s else None))
find_head k s rows = by (int_lt s.key k)
  where
    by : (b : Bool) → first_at k (if b then from k rows else s ∷ rows) ≡ (if b then find k rows else (if int_eq s.key k then Some s else None))
    by true = refl
    by false = refl

pub find_passes : (k : ℤ) (s : Stored) (rows : List Stored) → int_lt s.key k ≡ true → find k (s ∷ rows) ≡ find k rows
find_passes k s rows less = find_head k s rows ∙ (λ i. if less i then find k rows else (if int_eq s.key k then Some s else None))

pub find_stops : (k : ℤ) (s : Stored) (rows : List Stored) → int_lt s.key k ≡ false → find k (s ∷ rows) ≡ (if int_eq s.key k then Some s else None)
find_stops k s rows more = find_head k s rows ∙ (λ i. if more i then find k rows else (if int_eq s.key k then Some s else None))

pub find_none : (key : ℤ) (rows : List Stored) → IsBelowAll key rows → find key rows ≡ None
find_none key [] all = refl
find_none key (s ∷ rows) all =
    let above = all.0 in
    let not_at : int_eq s.key key ≡ false = grind (arith, ints, above) in
    find_stops key s rows (below_not_above key s.key above) ∙ (λ i. if not_at i then Some s else None)

-- keys in either order
not_at_either : (a b : ℤ) → int_eq a b ≡ false → int_eq b a ≡ false
not_at_either a b apart = grind (arith, ints)

at_either : (a b : ℤ) → int_eq a b ≡ true → int_eq b a ≡ true
at_either a b same = grind (arith, ints)

above_not_at : (a b : ℤ) → int_lt a b ≡ true → int_eq b a ≡ false
above_not_at a b less = grind (arith, ints)

lt_before : (a b c : ℤ) → int_lt a b ≡ false → int_lt a c ≡ true → int_eq b c ≡ false
lt_before a b c not_below less = grind (arith, ints)

find_front : (k key : ℤ) (row : Option Stored) (rows : List Stored) → HasKey key row → IsBelowAll key rows → find k (one_or_none row ++ rows) ≡ (if int_eq k key then row else find k rows)
find_front k key None rows has all = by (int_eq k key) refl
  where
    by : (b : Bool) → int_eq k key ≡ b → find k rows ≡ (if b then None else find k rows)
    by true same = ap (λ (j : ℤ). find j rows) (is_key k key same) ∙ find_none key rows all
    by false apart = refl
find_front k key (Some s) rows has all = by (int_lt s.key k) refl (int_eq s.key k) refl
  where
    by : (b : Bool) → int_lt s.key k ≡ b → (c : Bool) → int_eq s.key k ≡ c → find k (s ∷ rows) ≡ (if int_eq k key then Some s else find k rows)
    by true less c is =
        let other : int_eq k key ≡ false = above_not_at key k (ap (λ (j : ℤ). int_lt j k) (sym has) ∙ less) in
        find_passes k s rows less ∙ sym (λ i. if other i then Some s else find k rows)
    by false less true is =
        let same : int_eq k key ≡ true = at_either key k (ap (λ (j : ℤ). int_eq j k) (sym has) ∙ is) in
        find_stops k s rows less ∙ (λ i. if is i then Some s else None) ∙ sym (λ i. if same i then Some s else find k rows)
    by false less false is =
        let under : int_lt k key ≡ true = ap (int_lt k) (sym has) ∙ not_below_nor_at s.key k less is in
        let other : int_eq k key ≡ false = below_not_at k key under in
        find_stops k s rows less ∙ (λ i. if is i then Some s else None) ∙ sym (find_none k rows (below_on k key rows under all)) ∙ sym (λ i. if other i then Some s else find k rows)

pub find_exchanged : (k key : ℤ) (row : Option Stored) (rows : List Stored) → HasKey key row → Rises rows → find k (exchanged key row rows) ≡ (if int_eq k key then row else find k rows)
find_exchanged k key row [] has rises = find_front k key row [] has tt
find_exchanged k key row (s ∷ rows) has rises = by (int_lt s.key key) refl (find_exchanged k key row rows has rises.1)
  where
    passes : int_lt s.key key ≡ true → find k (exchanged key row rows) ≡ (if int_eq k key then row else find k rows) → (b : Bool) → int_lt s.key k ≡ b → find k (s ∷ exchanged key row rows) ≡ (if int_eq k key then row else find k (s ∷ rows))
    passes less rest true under = find_passes k s (exchanged key row rows) under ∙ rest ∙ sym (λ i. if int_eq k key then row else find_passes k s rows under i)
    passes less rest false under =
        let other : int_eq k key ≡ false = lt_before s.key k key under less in
        find_stops k s (exchanged key row rows) under ∙ sym (find_stops k s rows under) ∙ sym (λ i. if other i then row else find k (s ∷ rows))

    gone : int_eq s.key key ≡ true → (b : Bool) → int_eq k key ≡ b → (c : Bool) → int_lt s.key k ≡ c → (if b then row else find k rows) ≡ (if b then row else find k (s ∷ rows))
    gone at true same c under = refl
    gone at false other true under = sym (find_passes k s rows under)
    gone at false other false under =
        let apart : int_eq s.key k ≡ false = not_at_either k s.key (ap (int_eq k) (is_key s.key key at) ∙ other) in
        let less = not_below_nor_at s.key k under apart in
        find_none k rows (below_on k s.key rows less rises.0) ∙ sym (find_stops k s rows under ∙ (λ i. if apart i then Some s else None))

    here : (b : Bool) → int_eq s.key key ≡ b → int_lt s.key key ≡ false → find k (one_or_none row ++ (if b then rows else s ∷ rows)) ≡ (if int_eq k key then row else find k (s ∷ rows))
    here true at apart = find_front k key row rows has (subst (λ (j : ℤ). IsBelowAll j rows) (is_key s.key key at) rises.0) ∙ gone at (int_eq k key) refl (int_lt s.key k) refl
    here false at apart =
        let less = not_below_nor_at s.key key apart at in
        find_front k key row (s ∷ rows) has (less, below_on key s.key rows less rises.0)

    by : (b : Bool) → int_lt s.key key ≡ b → find k (exchanged key row rows) ≡ (if int_eq k key then row else find k rows)
        → find k ((if b then s ∷ below key rows else []) ++ (one_or_none row ++ without_first_at key (if b then from key rows else s ∷ rows))) ≡ (if int_eq k key then row else find k (s ∷ rows))
    by true less rest = passes less rest (int_lt s.key k) refl
    by false apart rest = here (int_eq s.key key) refl apart

some_stored : (a b : Stored) → Some a ≡ Some b → a ≡ b
some_stored a b same = cc

pub found_key : (key : ℤ) (rows : List Stored) (s : Stored) → find key rows ≡ Some s → s.key ≡ key
found_key key rows s is = by (from key rows) is
  where
    first : (x : Stored) (b : Bool) → int_eq x.key key ≡ b → (if b then Some x else None) ≡ Some s → s.key ≡ key
    first x true at same = let is : x ≡ s = some_stored x s same in ap (λ (r : Stored). r.key) (sym is) ∙ is_key x.key key at
    first x false at same = absurd (let bad : None ≡ Some s = same in cc)

    by : (xs : List Stored) → first_at key xs ≡ Some s → s.key ≡ key
    by [] at = absurd (let bad : None ≡ Some s = at in cc)
    by (x ∷ xs) at = first x (int_eq x.key key) refl at
