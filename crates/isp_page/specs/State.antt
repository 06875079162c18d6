-- What a store of pages has beside its contents: its shape, and the mini-transaction that is begun. A mini-transaction is a
-- row of changes that is there after a stop as a whole or not at all (the MySQL 8.0 source calls it mtr).
use Rattle.std.specs.Prelude.{◌≡◌, ℕ, ◌<◌, ◌==◌, Bool, true, false, List, [], ◌∷◌, ◌++◌, length, if◌then◌else◌}
use Rattle.std.specs.List.{list_any}

-- what never changes of a file: how many pages it has, and how many entries a page of an R-tree has at most
pub record FileShape : Type 0 where
  pub pages : ℕ
  pub fanout : ℕ

-- the mini-transaction that is begun, if one is, and the pages changed in it, each once, in the order of first change
pub record MiniTransaction : Type 0 where
  pub is_begun : Bool
  pub changed : List ℕ

abbrev pub none_begun : MiniTransaction
none_begun = record { is_begun = false; changed = [] }

abbrev pub just_begun : MiniTransaction
just_begun = record { is_begun = true; changed = [] }

-- how many pages a mini-transaction may change
abbrev pub most_changed : ℕ
most_changed = 48

-- whether the page is on the list
abbrev pub is_among : ℕ → List ℕ → Bool
is_among page pages = list_any (λ other. other == page) pages

abbrev pub with_page : ℕ → List ℕ → List ℕ
with_page page pages = if is_among page pages then pages else pages ++ page ∷ []

abbrev pub with_change : ℕ → MiniTransaction → MiniTransaction
with_change page mini = record mini { changed = with_page page mini.changed }

-- the page was changed in it before, or there is room for one more
abbrev pub HasRoom : ℕ → MiniTransaction → Type 0
HasRoom page mini = is_among page mini.changed ≡ false → length mini.changed < most_changed
