-- Lists that rise by a key, with what stands at a key exchanged.
use Rattle.std.specs.Prelude.{◌≡◌, ℤ, true, int_lt, List, [], ◌∷◌, Option, Some, None, if◌then◌else◌}
use Rattle.std.specs.Ordering.{int_eq}

-- one in front, if there is one
abbrev pub joined : {X : Type 0} → Option X → List X → List X
joined None xs = xs
joined (Some x) xs = x ∷ xs

module _ {X : Type 0} (key_of : X → ℤ) where
  -- what stands at a key
  abbrev pub found : ℤ → List X → Option X
  found key [] = None
  found key (x ∷ xs) = if int_lt (key_of x) key then found key xs else (if int_eq (key_of x) key then Some x else None)

  -- with this one, or with none, at a key
  abbrev pub placed : ℤ → Option X → List X → List X
  placed key one [] = joined one []
  placed key one (x ∷ xs) = if int_lt (key_of x) key then x ∷ placed key one xs else joined one (if int_eq (key_of x) key then xs else x ∷ xs)

  -- the key is below those of all
  abbrev pub IsBelowEach : ℤ → List X → Type 0
  IsBelowEach key [] = Unit {0}
  IsBelowEach key (x ∷ xs) = (int_lt key (key_of x) ≡ true) × IsBelowEach key xs

  -- the keys rise
  abbrev pub RisesBy : List X → Type 0
  RisesBy [] = Unit {0}
  RisesBy (x ∷ xs) = IsBelowEach (key_of x) xs × RisesBy xs

  -- what is put at a key has it
  abbrev pub IsAtKey : ℤ → Option X → Type 0
  IsAtKey key None = Unit {0}
  IsAtKey key (Some x) = key_of x ≡ key
