-- Lists that rise by a key, with what stands at a key exchanged: what is put twice, or put back, and what is kept.
use Rattle.std.proofs.Common.{◌≡◌, ℤ, Bool, true, false, List, [], ◌∷◌, map, Option, Some, None, refl, sym, ◌∙◌, ap, subst, arith, if◌then◌else◌}
use Rattle.std.specs.Prelude.{int_lt}
use Rattle.std.specs.List.{AllByRecursion}
use Rattle.std.specs.Ordering.{int_eq}
use Rattle.std.specs.Option.{option_map}
use Rattle.std.proofs.lemmas.Int.{ints}
use Rattle.isp_image.specs.Keyed.{IsAtKey, IsBelowEach, RisesBy, found, joined, placed}

-- ---- keys

lt_on : (a b c : ℤ) → int_lt a b ≡ true → int_lt b c ≡ true → int_lt a c ≡ true
lt_on a b c first second = grind (arith, ints)

above : (a key : ℤ) → int_lt a key ≡ false → int_eq a key ≡ false → int_lt key a ≡ true
above a key not_below not_at = grind (arith, ints)

pub same_key : (a key : ℤ) → int_eq a key ≡ true → a ≡ key
same_key a key is = grind (arith, ints)

pub key_is : (a key : ℤ) → a ≡ key → int_eq a key ≡ true
key_is a key is = grind (arith, ints)

not_below : (a key : ℤ) → a ≡ key → int_lt a key ≡ false
not_below a key is = grind (arith, ints)

pub above_not_below : (a key : ℤ) → int_lt key a ≡ true → int_lt a key ≡ false
above_not_below a key is = grind (arith, ints)

pub above_not_at : (a key : ℤ) → int_lt key a ≡ true → int_eq a key ≡ false
above_not_at a key is = grind (arith, ints)

below_apart : (a b : ℤ) → int_lt a b ≡ true → int_eq a b ≡ false
below_apart a b less = grind (arith, ints)

before_apart : (a b c : ℤ) → int_lt a b ≡ false → int_lt a c ≡ true → int_eq b c ≡ false
before_apart a b c not_below less = grind (arith, ints)

other_apart : (a b c : ℤ) → int_eq a c ≡ true → int_eq b c ≡ false → int_eq a b ≡ false
other_apart a b c same apart = grind (arith, ints)

-- what holds of the one that is put
abbrev pub OfSome : {X : Type 0} → (X → Type 0) → Option X → Type 0
OfSome P None = Unit {0}
OfSome P (Some x) = P x

module _ {X : Type 0} (key_of : X → ℤ) where
  pub below_on : (low key : ℤ) (xs : List X) → int_lt low key ≡ true → IsBelowEach key_of key xs → IsBelowEach key_of low xs
  below_on low key [] less all = tt
  below_on low key (x ∷ xs) less all = (lt_on low key (key_of x) less all.0, below_on low key xs less all.1)

  -- a key that is at the first one or before it is below the others
  pub below_rest : (key : ℤ) (x : X) (xs : List X) → RisesBy key_of (x ∷ xs) → int_lt (key_of x) key ≡ false → IsBelowEach key_of key xs
  below_rest key x xs rises far = by (int_eq (key_of x) key) refl
    where
      by : (b : Bool) → int_eq (key_of x) key ≡ b → IsBelowEach key_of key xs
      by true at = subst (λ (k : ℤ). IsBelowEach key_of k xs) (same_key (key_of x) key at) rises.0
      by false apart = below_on key (key_of x) xs (above (key_of x) key far apart) rises.0

  -- ---- in front of all

  joined_below : (low : ℤ) (key : ℤ) (one : Option X) (xs : List X) → IsAtKey key_of key one → int_lt low key ≡ true → IsBelowEach key_of low xs → IsBelowEach key_of low (joined one xs)
  joined_below low key None xs at less all = all
  joined_below low key (Some x) xs at less all = (ap (int_lt low) at ∙ less, all)

  joined_rises : (key : ℤ) (one : Option X) (xs : List X) → IsAtKey key_of key one → IsBelowEach key_of key xs → RisesBy key_of xs → RisesBy key_of (joined one xs)
  joined_rises key None xs at all rises = rises
  joined_rises key (Some x) xs at all rises = (subst (λ (k : ℤ). IsBelowEach key_of k xs) (sym at) all, rises)

  pub placed_front : (key : ℤ) (one : Option X) (xs : List X) → IsBelowEach key_of key xs → placed key_of key one xs ≡ joined one xs
  placed_front key one [] all = refl
  placed_front key one (x ∷ xs) all =
      (λ i. if above_not_below (key_of x) key all.0 i then x ∷ placed key_of key one xs else joined one (if above_not_at (key_of x) key all.0 i then xs else x ∷ xs))

  pub found_none : (key : ℤ) (xs : List X) → IsBelowEach key_of key xs → found key_of key xs ≡ None
  found_none key [] all = refl
  found_none key (x ∷ xs) all =
      (λ i. if above_not_below (key_of x) key all.0 i then found key_of key xs else (if above_not_at (key_of x) key all.0 i then Some x else None))

  -- ---- what is put at a key is exchanged for what is put there next

  placed_at : (key : ℤ) (one : Option X) (x : X) (xs : List X) → key_of x ≡ key → placed key_of key one (x ∷ xs) ≡ joined one xs
  placed_at key one x xs at =
      (λ i. if not_below (key_of x) key at i then x ∷ placed key_of key one xs else joined one (if key_is (key_of x) key at i then xs else x ∷ xs))

  placed_again : (key : ℤ) (one other : Option X) (xs : List X) → IsAtKey key_of key other → IsBelowEach key_of key xs → placed key_of key one (joined other xs) ≡ joined one xs
  placed_again key one None xs at all = placed_front key one xs all
  placed_again key one (Some x) xs at all = placed_at key one x xs at

  -- what comes from the key on, without what stands at it
  rest_below : (key : ℤ) (x : X) (xs : List X) → RisesBy key_of (x ∷ xs) → int_lt (key_of x) key ≡ false → IsBelowEach key_of key (if int_eq (key_of x) key then xs else x ∷ xs)
  rest_below key x xs rises far = by (int_eq (key_of x) key) refl
    where
      by : (b : Bool) → int_eq (key_of x) key ≡ b → IsBelowEach key_of key (if b then xs else x ∷ xs)
      by true at = below_rest key x xs rises far
      by false apart = (above (key_of x) key far apart, below_rest key x xs rises far)

  pub placed_twice : (key : ℤ) (one other : Option X) (xs : List X) → IsAtKey key_of key other → RisesBy key_of xs → placed key_of key one (placed key_of key other xs) ≡ placed key_of key one xs
  placed_twice key one other [] at rises = placed_again key one other [] at tt
  placed_twice key one other (x ∷ xs) at rises = by (int_lt (key_of x) key) refl (placed_twice key one other xs at rises.1)
    where
      by : (b : Bool) → int_lt (key_of x) key ≡ b → placed key_of key one (placed key_of key other xs) ≡ placed key_of key one xs
          → placed key_of key one (if b then x ∷ placed key_of key other xs else joined other (if int_eq (key_of x) key then xs else x ∷ xs)) ≡ (if b then x ∷ placed key_of key one xs else joined one (if int_eq (key_of x) key then xs else x ∷ xs))
      by true less rest = (λ i. if less i then x ∷ placed key_of key one (placed key_of key other xs) else joined one (if int_eq (key_of x) key then placed key_of key other xs else x ∷ placed key_of key other xs)) ∙ (λ i. x ∷ rest i)
      by false far rest = placed_again key one other (if int_eq (key_of x) key then xs else x ∷ xs) at (rest_below key x xs rises far)

  -- what stands at a key is put there
  pub placed_back : (key : ℤ) (xs : List X) → placed key_of key (found key_of key xs) xs ≡ xs
  placed_back key [] = refl
  placed_back key (x ∷ xs) = by (int_lt (key_of x) key) (int_eq (key_of x) key) (placed_back key xs)
    where
      by : (b c : Bool) → placed key_of key (found key_of key xs) xs ≡ xs
          → (if b then x ∷ placed key_of key (if b then found key_of key xs else (if c then Some x else None)) xs else joined (if b then found key_of key xs else (if c then Some x else None)) (if c then xs else x ∷ xs)) ≡ x ∷ xs
      by true c rest = (λ i. x ∷ rest i)
      by false true rest = refl
      by false false rest = refl

  -- ---- the keys go on rising

  placed_below : (low key : ℤ) (one : Option X) (xs : List X) → IsAtKey key_of key one → int_lt low key ≡ true → IsBelowEach key_of low xs → IsBelowEach key_of low (placed key_of key one xs)
  placed_below low key one [] at less all = joined_below low key one [] at less tt
  placed_below low key one (x ∷ xs) at less all = by (int_lt (key_of x) key) (placed_below low key one xs at less all.1)
    where
      rest : (c : Bool) → IsBelowEach key_of low (if c then xs else x ∷ xs)
      rest true = all.1
      rest false = all

      by : (b : Bool) → IsBelowEach key_of low (placed key_of key one xs) → IsBelowEach key_of low (if b then x ∷ placed key_of key one xs else joined one (if int_eq (key_of x) key then xs else x ∷ xs))
      by true later = (all.0, later)
      by false later = joined_below low key one (if int_eq (key_of x) key then xs else x ∷ xs) at less (rest (int_eq (key_of x) key))

  pub placed_rises : (key : ℤ) (one : Option X) (xs : List X) → IsAtKey key_of key one → RisesBy key_of xs → RisesBy key_of (placed key_of key one xs)
  placed_rises key one [] at rises = joined_rises key one [] at tt tt
  placed_rises key one (x ∷ xs) at rises = by (int_lt (key_of x) key) refl (placed_rises key one xs at rises.1)
    where
      rest : (c : Bool) → RisesBy key_of (if c then xs else x ∷ xs)
      rest true = rises.1
      rest false = rises

      by : (b : Bool) → int_lt (key_of x) key ≡ b → RisesBy key_of (placed key_of key one xs) → RisesBy key_of (if b then x ∷ placed key_of key one xs else joined one (if int_eq (key_of x) key then xs else x ∷ xs))
      by true less later = (placed_below (key_of x) key one xs at less rises.0, later)
      by false far later = joined_rises key one (if int_eq (key_of x) key then xs else x ∷ xs) at (rest_below key x xs rises far) (rest (int_eq (key_of x) key))

-- ---- seen through a function that keeps the key

module _ {X Y : Type 0} (key_of : X → ℤ) (other_key : Y → ℤ) (f : X → Y) (same : (x : X) → other_key (f x) ≡ key_of x) where
  map_joined : (one : Option X) (xs : List X) → map f (joined one xs) ≡ joined (option_map f one) (map f xs)
  map_joined None xs = refl
  map_joined (Some x) xs = refl

  map_if : (b : Bool) (xs ys : List X) → map f (if b then xs else ys) ≡ (if b then map f xs else map f ys)
  map_if true xs ys = refl
  map_if false xs ys = refl

  pub map_placed : (key : ℤ) (one : Option X) (xs : List X) → map f (placed key_of key one xs) ≡ placed other_key key (option_map f one) (map f xs)
  map_placed key one [] = map_joined one []
  map_placed key one (x ∷ xs) =
      by (int_lt (key_of x) key) (int_eq (key_of x) key) (map_placed key one xs)
      ∙ sym (λ i. if int_lt (same x i) key then f x ∷ placed other_key key (option_map f one) (map f xs) else joined (option_map f one) (if int_eq (same x i) key then map f xs else f x ∷ map f xs))
    where
      by : (b c : Bool) → map f (placed key_of key one xs) ≡ placed other_key key (option_map f one) (map f xs)
          → map f (if b then x ∷ placed key_of key one xs else joined one (if c then xs else x ∷ xs)) ≡ (if b then f x ∷ placed other_key key (option_map f one) (map f xs) else joined (option_map f one) (if c then map f xs else f x ∷ map f xs))
      by true c rest = (λ i. f x ∷ rest i)
      by false true rest = map_joined one xs
      by false false rest = map_joined one (x ∷ xs)

  pub map_found : (key : ℤ) (xs : List X) → found other_key key (map f xs) ≡ option_map f (found key_of key xs)
  map_found key [] = refl
  map_found key (x ∷ xs) =
      (λ i. if int_lt (same x i) key then found other_key key (map f xs) else (if int_eq (same x i) key then Some (f x) else None))
      ∙ by (int_lt (key_of x) key) (int_eq (key_of x) key) (map_found key xs)
    where
      by : (b c : Bool) → found other_key key (map f xs) ≡ option_map f (found key_of key xs)
          → (if b then found other_key key (map f xs) else (if c then Some (f x) else None)) ≡ option_map f (if b then found key_of key xs else (if c then Some x else None))
      by true c rest = rest
      by false true rest = refl
      by false false rest = refl

-- ---- what stands at each key

module _ {X : Type 0} (key_of : X → ℤ) where
  some_same : (x y : X) → Some x ≡ Some y → x ≡ y
  some_same x y same = cc

  none_some : (x : X) → None ≡ Some x → ⊥
  none_some x same = cc

  pub found_key : (key : ℤ) (xs : List X) (y : X) → found key_of key xs ≡ Some y → key_of y ≡ key
  found_key key [] y is = absurd (none_some y is)
  found_key key (x ∷ xs) y is = by (int_lt (key_of x) key) (int_eq (key_of x) key) refl (found_key key xs y) is
    where
      by : (b c : Bool) → int_eq (key_of x) key ≡ c → (found key_of key xs ≡ Some y → key_of y ≡ key) → (if b then found key_of key xs else (if c then Some x else None)) ≡ Some y → key_of y ≡ key
      by true c at rest same = rest same
      by false true at rest same = ap key_of (sym (some_same x y same)) ∙ same_key (key_of x) key at
      by false false at rest same = absurd (none_some y same)

  pub found_at : (key : ℤ) (xs : List X) → IsAtKey key_of key (found key_of key xs)
  found_at key xs = by (found key_of key xs) refl
    where
      by : (o : Option X) → found key_of key xs ≡ o → IsAtKey key_of key o
      by None is = tt
      by (Some y) is = found_key key xs y is

  pub found_each : (P : X → Type 0) (key : ℤ) (xs : List X) (y : X) → AllByRecursion P xs → found key_of key xs ≡ Some y → P y
  found_each P key [] y all is = absurd (none_some y is)
  found_each P key (x ∷ xs) y all is = by (int_lt (key_of x) key) (int_eq (key_of x) key) (found_each P key xs y all.1) is
    where
      by : (b c : Bool) → (found key_of key xs ≡ Some y → P y) → (if b then found key_of key xs else (if c then Some x else None)) ≡ Some y → P y
      by true c rest same = rest same
      by false true rest same = subst P (some_same x y same) all.0
      by false false rest same = absurd (none_some y same)

  pub each_placed : (P : X → Type 0) (key : ℤ) (one : Option X) (xs : List X) → OfSome P one → AllByRecursion P xs → AllByRecursion P (placed key_of key one xs)
  each_placed P key None [] has all = tt
  each_placed P key (Some x) [] has all = (has, tt)
  each_placed P key one (x ∷ xs) has all = by (int_lt (key_of x) key) (int_eq (key_of x) key) (each_placed P key one xs has all.1)
    where
      front : (o : Option X) (ys : List X) → OfSome P o → AllByRecursion P ys → AllByRecursion P (joined o ys)
      front None ys got rest = rest
      front (Some y) ys got rest = (got, rest)

      by : (b c : Bool) → AllByRecursion P (placed key_of key one xs) → AllByRecursion P (if b then x ∷ placed key_of key one xs else joined one (if c then xs else x ∷ xs))
      by true c rest = (all.0, rest)
      by false true rest = front one xs has all.1
      by false false rest = front one (x ∷ xs) has all

  -- a key that isn't there
  found_front : (k key : ℤ) (one : Option X) (xs : List X) → IsAtKey key_of key one → IsBelowEach key_of key xs → found key_of k (joined one xs) ≡ (if int_eq k key then one else found key_of k xs)
  found_front k key None xs at all = by (int_eq k key) refl
    where
      by : (b : Bool) → int_eq k key ≡ b → found key_of k xs ≡ (if b then None else found key_of k xs)
      by true is = ap (λ (j : ℤ). found key_of j xs) (same_key k key is) ∙ found_none key_of key xs all
      by false is = refl
  found_front k key (Some x) xs at all = by (int_lt (key_of x) k) refl (int_eq (key_of x) k) refl
    where
      by : (b : Bool) → int_lt (key_of x) k ≡ b → (c : Bool) → int_eq (key_of x) k ≡ c → (if b then found key_of k xs else (if c then Some x else None)) ≡ (if int_eq k key then Some x else found key_of k xs)
      by true less c is =
          let other : int_eq k key ≡ false = above_not_at k key (ap (λ (j : ℤ). int_lt j k) (sym at) ∙ less) in
          sym (λ i. if other i then Some x else found key_of k xs)
      by false less true is =
          let same : int_eq k key ≡ true = key_is k key (sym (same_key (key_of x) k is) ∙ at) in
          sym (λ i. if same i then Some x else found key_of k xs)
      by false less false is =
          let under : int_lt k key ≡ true = ap (int_lt k) (sym at) ∙ above (key_of x) k less is in
          let other : int_eq k key ≡ false = below_apart k key under in
          sym (found_none key_of k xs (below_on key_of k key xs under all)) ∙ sym (λ i. if other i then Some x else found key_of k xs)

  pub found_placed : (k key : ℤ) (one : Option X) (xs : List X) → IsAtKey key_of key one → RisesBy key_of xs → found key_of k (placed key_of key one xs) ≡ (if int_eq k key then one else found key_of k xs)
  found_placed k key one [] at rises = found_front k key one [] at tt
  found_placed k key one (x ∷ xs) at rises = by (int_lt (key_of x) key) refl (found_placed k key one xs at rises.1)
    where
      here : (b : Bool) → int_lt (key_of x) key ≡ true → found key_of k (placed key_of key one xs) ≡ (if int_eq k key then one else found key_of k xs) → int_lt (key_of x) k ≡ b
          → (if b then found key_of k (placed key_of key one xs) else (if int_eq (key_of x) k then Some x else None)) ≡ (if int_eq k key then one else (if b then found key_of k xs else (if int_eq (key_of x) k then Some x else None)))
      here true less rest under = rest
      here false less rest under =
          let other : int_eq k key ≡ false = before_apart (key_of x) k key under less in
          sym (λ i. if other i then one else (if int_eq (key_of x) k then Some x else None))

      gone : (b : Bool) → int_eq k key ≡ b → int_eq (key_of x) key ≡ true → (c : Bool) → int_lt (key_of x) k ≡ c → (if b then one else found key_of k xs) ≡ (if b then one else (if c then found key_of k xs else (if int_eq (key_of x) k then Some x else None)))
      gone true same is c under = refl
      gone false apart is true under = refl
      gone false apart is false under =
          let not_at : int_eq (key_of x) k ≡ false = other_apart (key_of x) k key is apart in
          let less : int_lt k (key_of x) ≡ true = above (key_of x) k under not_at in
          found_none key_of k xs (below_on key_of k (key_of x) xs less rises.0) ∙ sym (λ i. if not_at i then Some x else None)

      from_key : (c : Bool) → int_eq (key_of x) key ≡ c → int_lt (key_of x) key ≡ false → found key_of k (joined one (if c then xs else x ∷ xs)) ≡ (if int_eq k key then one else found key_of k (x ∷ xs))
      from_key true is far = found_front k key one xs at (below_rest key_of key x xs rises far) ∙ gone (int_eq k key) refl is (int_lt (key_of x) k) refl
      from_key false is far = found_front k key one (x ∷ xs) at (above (key_of x) key far is, below_rest key_of key x xs rises far)

      by : (b : Bool) → int_lt (key_of x) key ≡ b → found key_of k (placed key_of key one xs) ≡ (if int_eq k key then one else found key_of k xs)
          → found key_of k (if b then x ∷ placed key_of key one xs else joined one (if int_eq (key_of x) key then xs else x ∷ xs)) ≡ (if int_eq k key then one else found key_of k (x ∷ xs))
      by true less rest = here (int_lt (key_of x) k) less rest refl
      by false far rest = from_key (int_eq (key_of x) key) refl far
