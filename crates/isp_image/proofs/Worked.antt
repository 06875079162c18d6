-- The definitions on small lists of rows, by computation: a row that is written over another, one that is marked, and what the
-- old rows make of them.
use Rattle.std.proofs.Common.{◌≡◌, true, false, List, [], ◌∷◌, Some, None, refl}
use Rattle.std.specs.Prelude.{pos}
use Rattle.isp_plain.specs.declared.value.Row.{Row}
use Rattle.isp_image.specs.Databases.{FileRow, row_key, shown}
use Rattle.isp_image.specs.Keyed.{found, placed}

module _ (first second third : Row) where
  abbrev row_one : FileRow
  row_one = record { stored = record { key = pos 1; marked = false; row = 7 ∷ []; rest = [] }; row = first }

  abbrev row_two : FileRow
  row_two = record { stored = record { key = pos 2; marked = true; row = 8 ∷ []; rest = 9 ∷ [] }; row = second }

  abbrev row_six : FileRow
  row_six = record { stored = record { key = pos 6; marked = false; row = 6 ∷ []; rest = [] }; row = third }

  abbrev two_rows : List FileRow
  two_rows = row_one ∷ row_two ∷ []

  -- a marked row isn't seen
  one_shown : shown two_rows ≡ (pos 1, first) ∷ []
  one_shown = refl

  -- a key that wasn't there goes to its place, and one that was is exchanged
  six_behind : placed row_key (pos 6) (Some row_six) two_rows ≡ row_one ∷ row_two ∷ row_six ∷ []
  six_behind = refl

  two_gone : placed row_key (pos 2) None two_rows ≡ row_one ∷ []
  two_gone = refl

  two_stands : found row_key (pos 2) two_rows ≡ Some row_two
  two_stands = refl

  none_stands : found row_key (pos 3) two_rows ≡ None
  none_stands = refl

  -- what stood at the key, put back
  six_back : placed row_key (pos 6) None (placed row_key (pos 6) (Some row_six) two_rows) ≡ two_rows
  six_back = refl
