-- Changes of rows that are made at one key, and the leaf that the key goes to.
use Rattle.std.specs.Prelude.{◌≡◌, ℤ, true, false, int_lt, List, [], ◌∷◌, ◌++◌, Option, Some, None}
use Rattle.isp_format.specs.Leaf.{Stored}
use Rattle.isp_cells.specs.Rows.{exchanged, find}
use Rattle.isp_levels.specs.Levels.{TreeLeaf}

-- the row has that key, if it is there
abbrev pub IsOfKey : ℤ → Option Stored → Type 0
IsOfKey key None = Unit {0}
IsOfKey key (Some s) = s.key ≡ key

-- At that key stands then what this makes of what stood there, nothing of nothing; and all else stays.
pub record ChangesAt (key : ℤ) (change : List Stored → List Stored) : Type 0 where
  pub made : Option Stored → Option Stored
  pub none : made None ≡ None
  pub keyed : (s : Stored) → s.key ≡ key → IsOfKey key (made (Some s))
  pub is : (rows : List Stored) → change rows ≡ exchanged key (made (find key rows)) rows

-- the key lies below where each of these leaves begins
abbrev pub KeyBelow : ℤ → List TreeLeaf → Type 0
KeyBelow key [] = Unit {0}
KeyBelow key (leaf ∷ leaves) = (int_lt key leaf.low ≡ true) × KeyBelow key leaves

-- the leaf stands among these; the key lies from it on and below the next one
pub record IsAt (key : ℤ) (leaves : List TreeLeaf) (leaf : TreeLeaf) : Type 0 where
  pub before : List TreeLeaf
  pub after : List TreeLeaf
  pub is : leaves ≡ before ++ (leaf ∷ after)
  pub near : int_lt key leaf.low ≡ false
  pub under : KeyBelow key after
