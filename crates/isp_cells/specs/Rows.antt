-- The rows of a clustered tree as a list that rises by key, and what calls make of it. That rows are found by key is of
-- clustered indexes (MySQL 8.0 manual).
use Rattle.std.specs.Prelude.{◌≡◌, ℕ, ◌+◌, ℤ, Bool, true, false, int_lt, nat_le, nat_lt, List, [], ◌∷◌, ◌++◌, drop, length, Option, Some, None, if◌then◌else◌}
use Rattle.std.specs.Ordering.{int_eq}
use Rattle.std.specs.Option.{option_map}
use Rattle.isp_format.specs.Kinds.{content_place}
use Rattle.isp_format.specs.Leaf.{Stored, slot_of, stored_head}
use Rattle.isp_format.specs.Ranges.{page_bytes}

-- the key is below those of all these rows
abbrev pub IsBelowAll : ℤ → List Stored → Type 0
IsBelowAll key [] = Unit {0}
IsBelowAll key (s ∷ rows) = (int_lt key s.key ≡ true) × IsBelowAll key rows

-- the keys rise
abbrev pub Rises : List Stored → Type 0
Rises [] = Unit {0}
Rises (s ∷ rows) = IsBelowAll s.key rows × Rises rows

-- how many bytes the rows take on a leaf
abbrev pub bytes_in : List Stored → ℕ
bytes_in [] = 0
bytes_in (s ∷ rows) = stored_head + slot_of s + bytes_in rows

-- the rows up to a key, and those from it on
abbrev pub below : ℤ → List Stored → List Stored
below key [] = []
below key (s ∷ rows) = if int_lt s.key key then s ∷ below key rows else []

abbrev pub from : ℤ → List Stored → List Stored
from key [] = []
from key (s ∷ rows) = if int_lt s.key key then from key rows else s ∷ rows

-- the first row, if it has that key, and the others
abbrev pub first_at : ℤ → List Stored → Option Stored
first_at key [] = None
first_at key (s ∷ rows) = if int_eq s.key key then Some s else None

abbrev pub without_first_at : ℤ → List Stored → List Stored
without_first_at key [] = []
without_first_at key (s ∷ rows) = if int_eq s.key key then rows else s ∷ rows

-- the row of a key
abbrev pub find : ℤ → List Stored → Option Stored
find key rows = first_at key (from key rows)

-- the rows behind a key
abbrev pub behind : ℤ → List Stored → List Stored
behind key rows = without_first_at key (from key rows)

abbrev pub one_or_none : Option Stored → List Stored
one_or_none None = []
one_or_none (Some s) = s ∷ []

-- the rows with this one, or with none, at a key
abbrev pub exchanged : ℤ → Option Stored → List Stored → List Stored
exchanged key row rows = below key rows ++ (one_or_none row ++ behind key rows)

-- a row stands there; its slot holds so many bytes, or fewer; it is marked
abbrev pub stands : Option Stored → Bool
stands None = false
stands (Some s) = true

abbrev pub slot_holds : ℕ → Option Stored → Bool
slot_holds size None = false
slot_holds size (Some s) = nat_le size (slot_of s)

abbrev pub slot_less : ℕ → Option Stored → Bool
slot_less size None = true
slot_less size (Some s) = nat_lt (slot_of s) size

abbrev pub is_marked : Option Stored → Bool
is_marked None = false
is_marked (Some s) = s.marked

-- the rows have the key; a row of so many bytes may be put at it, since the key isn't there or its slot is smaller; it may be
-- written into its slot; the row may be dropped, since it is marked
abbrev pub has_key : ℤ → List Stored → Bool
has_key key rows = stands (find key rows)

abbrev pub may_put : ℤ → ℕ → List Stored → Bool
may_put key size rows = slot_less size (find key rows)

abbrev pub can_rewrite : ℤ → ℕ → List Stored → Bool
can_rewrite key size rows = slot_holds size (find key rows)

abbrev pub can_drop : ℤ → List Stored → Bool
can_drop key rows = is_marked (find key rows)

-- a row as it is put: unmarked, in a slot of its own length
abbrev pub new_row : ℤ → List ℕ → Stored
new_row key row = record { key = key; marked = false; row = row; rest = [] }

-- a row that is written into the slot of another, which keeps its size
abbrev pub rewritten : List ℕ → Bool → Stored → Stored
rewritten row marked s = record s { marked = marked; row = row; rest = drop (length row) (s.row ++ s.rest) }

abbrev pub with_mark : Stored → Stored
with_mark s = record s { marked = true }

-- a row of so many bytes finds room on a leaf of these rows, at that key
abbrev pub is_fitting : ℤ → ℕ → List Stored → Bool
is_fitting key size rows = nat_le (content_place + bytes_in (below key rows) + (stored_head + size) + bytes_in (behind key rows)) page_bytes

-- the rows once a row is put; once it is written into the slot of its key; once the row of a key is marked; without it
abbrev pub with_put : ℤ → List ℕ → List Stored → List Stored
with_put key row rows = exchanged key (Some (new_row key row)) rows

abbrev pub with_row : ℤ → List ℕ → Bool → List Stored → List Stored
with_row key row marked rows = exchanged key (option_map (rewritten row marked) (find key rows)) rows

abbrev pub marked_at : ℤ → List Stored → List Stored
marked_at key rows = exchanged key (option_map with_mark (find key rows)) rows

abbrev pub without : ℤ → List Stored → List Stored
without key rows = exchanged key None rows
