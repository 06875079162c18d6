-- The entries of a page above the leaves with one more.
use Rattle.std.specs.Prelude.{ℤ, int_le, List, [], ◌∷◌, ◌++◌, if◌then◌else◌}
use Rattle.isp_format.specs.Inner.{Name}

-- the entries up to a key, and those behind
abbrev pub up_to : ℤ → List Name → List Name
up_to key [] = []
up_to key (name ∷ names) = if int_le name.0 key then name ∷ up_to key names else []

abbrev pub beyond : ℤ → List Name → List Name
beyond key [] = []
beyond key (name ∷ names) = if int_le name.0 key then beyond key names else name ∷ names

-- the entries with one more, in the order of their keys
abbrev pub with_name : Name → List Name → List Name
with_name new names = up_to new.0 names ++ (new ∷ beyond new.0 names)
