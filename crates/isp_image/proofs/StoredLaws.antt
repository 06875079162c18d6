-- What the calls of a tree make of its rows, as rows with what they spell.
use Rattle.std.proofs.Common.{◌≡◌, ℤ, Bool, true, false, List, [], ◌∷◌, ◌++◌, map, Option, Some, None, refl, sym, ◌∙◌, if◌then◌else◌}
use Rattle.std.specs.Prelude.{int_lt}
use Rattle.std.specs.Option.{option_map}
use Rattle.std.specs.Ordering.{int_eq}
use Rattle.isp_format.specs.Leaf.{Stored}
use Rattle.isp_clustered.specs.Rows.{below, exchanged, find, first_at, from, one_or_none, without_first_at}
use Rattle.isp_image.specs.Databases.{FileRow, row_key}
use Rattle.isp_image.specs.Keyed.{found, joined, placed}
use Rattle.isp_image.proofs.FileLaws.{stored_of}
use Rattle.isp_image.proofs.KeyedLaws.{map_found, map_placed}

abbrev pub stored_key : Stored → ℤ
stored_key s = s.key

joined_is : (one : Option Stored) (rows : List Stored) → one_or_none one ++ rows ≡ joined one rows
joined_is None rows = refl
joined_is (Some s) rows = refl

pub exchanged_placed : (key : ℤ) (one : Option Stored) (rows : List Stored) → exchanged key one rows ≡ placed stored_key key one rows
exchanged_placed key one [] = joined_is one []
exchanged_placed key one (s ∷ rows) = by (int_lt s.key key) (exchanged_placed key one rows)
  where
    by : (b : Bool) → exchanged key one rows ≡ placed stored_key key one rows
        → (if b then s ∷ below key rows else []) ++ (one_or_none one ++ without_first_at key (if b then from key rows else s ∷ rows)) ≡ (if b then s ∷ placed stored_key key one rows else joined one (if int_eq s.key key then rows else s ∷ rows))
    by true rest = λ i. s ∷ rest i
    by false rest = joined_is one (if int_eq s.key key then rows else s ∷ rows)

pub find_found : (key : ℤ) (rows : List Stored) → find key rows ≡ found stored_key key rows
find_found key [] = refl
find_found key (s ∷ rows) = by (int_lt s.key key) (find_found key rows)
  where
    by : (b : Bool) → find key rows ≡ found stored_key key rows → first_at key (if b then from key rows else s ∷ rows) ≡ (if b then found stored_key key rows else (if int_eq s.key key then Some s else None))
    by true rest = rest
    by false rest = refl

-- the rows of a tree with one of them exchanged
pub exchanged_rows : (key : ℤ) (one : Option FileRow) (rows : List FileRow) → exchanged key (option_map stored_of one) (map stored_of rows) ≡ map stored_of (placed row_key key one rows)
exchanged_rows key one rows = exchanged_placed key (option_map stored_of one) (map stored_of rows) ∙ sym (map_placed row_key stored_key stored_of (λ r. refl) key one rows)

-- the row that a tree has at a key
pub find_row : (key : ℤ) (rows : List FileRow) → find key (map stored_of rows) ≡ option_map stored_of (found row_key key rows)
find_row key rows = find_found key (map stored_of rows) ∙ map_found row_key stored_key stored_of (λ r. refl) key rows
