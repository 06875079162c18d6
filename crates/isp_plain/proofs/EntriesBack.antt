-- Rows that are added one by one, and taken out again, the last first, so that nothing of them is left.
use Rattle.std.proofs.Common.{◌≡◌, ℕ, ℤ, Bool, ◌<◌, ◌+◌, List, [], ◌∷◌, ◌++◌, refl, ap, false, true, ◌∙◌, sym, length, take, drop, get_or, is_some, cond, Some}
use Rattle.std.specs.declared.cmp.Ordering.{Ordering}
use Rattle.std.specs.declared.cmp.Ordering.TheVariants.{Less, Equal, Greater}
use Rattle.std.specs.Ordering.{int_cmp, is_eq, match_ordering}
use Rattle.std.specs.Cmp.{int_cmp_is}
use Rattle.std.specs.Map.{lookup}
use Rattle.std.specs.BTreeMap.{insert_entry, is_at}
use Rattle.std.proofs.lemmas.List.{drop_more, take_more}
use Rattle.isp_plain.specs.Entries.{has_key, with_row, with_rows, without_row, without_rows, first_duplicate}
use Rattle.isp_plain.specs.declared.value.Row.{Row}
use Rattle.isp_plain.specs.Values.{key_of}

-- one row more, and that one first taken out
pub without_rows-push : (entries : List (ℤ × Row)) (rows : List Row) (row : Row) → without_rows entries (rows ++ row ∷ []) ≡ without_rows (without_row entries (key_of row)) rows
without_rows-push entries [] row = refl
without_rows-push entries (first ∷ rows) row = ap (λ es. without_row es (key_of first)) (without_rows-push entries rows row)

if_not : {X : Type 0} (b : Bool) (x y : X) → b ≡ false → cond b x y ≡ y
if_not true x y is = cc
if_not false x y is = refl

if_so : {X : Type 0} (b : Bool) (x y : X) → b ≡ true → cond b x y ≡ x
if_so true x y is = refl
if_so false x y is = cc

same_key : (key : ℤ) → is_at (int_cmp key) key ≡ true
same_key key = ap is_eq (sym (int_cmp_is key key Equal refl))

-- the step, by how the key stands to the first one
at_first : (order : Ordering) (e : ℤ × Row) (entries : List (ℤ × Row)) (key : ℤ) (row : Row) →
    int_cmp key e.0 ≡ order → is_some (cond (is_eq order) (Some e.1) (lookup (is_at (int_cmp key)) entries)) ≡ false →
    (is_some (lookup (is_at (int_cmp key)) entries) ≡ false → without_row (with_row entries key row) key ≡ entries) →
    without_row (match_ordering order ((key, row) ∷ e ∷ entries) ((e.0, row) ∷ entries) (e ∷ insert_entry int_cmp entries key row)) key ≡ e ∷ entries
at_first Less e entries key row is absent later = if_so _ (e ∷ entries) _ (same_key key)
at_first Equal e entries key row is absent later = cc
at_first Greater e entries key row is absent later = rw is (ap (λ es. e ∷ es) (later absent))

-- a row put at a key that wasn't there, and taken out
pub without_row-with_row : (entries : List (ℤ × Row)) (key : ℤ) (row : Row) → has_key entries key ≡ false → without_row (with_row entries key row) key ≡ entries
without_row-with_row [] key row absent = if_so _ [] _ (same_key key)
without_row-with_row (e ∷ entries) key row absent = at_first (int_cmp key e.0) e entries key row refl absent (without_row-with_row entries key row)

-- the first i of the rows were added to what was there at first
pub record Adding (first now : List (ℤ × Row)) (rows : List Row) (i : ℕ) : Type 0 where
  pub duplicate : first_duplicate first rows ≡ first_duplicate now (drop i rows)
  pub all : with_rows first rows ≡ with_rows now (drop i rows)
  pub back : without_rows now (take i rows) ≡ first

-- one row more, whose key wasn't there
pub adding_more : (first now : List (ℤ × Row)) (rows : List Row) (i : ℕ) (row : Row) → i < length rows → row ≡ get_or rows i row →
    has_key now (key_of row) ≡ false → Adding first now rows i → Adding first (with_row now (key_of row) row) rows (i + 1)
adding_more first now rows i row within is absent so_far =
    let rest : drop i rows ≡ row ∷ drop (i + 1) rows = drop_more rows i row within ∙ ap (λ r. r ∷ drop (i + 1) rows) (sym is) in
    let taken : take (i + 1) rows ≡ take i rows ++ row ∷ [] = take_more rows i row within ∙ ap (λ r. take i rows ++ r ∷ []) (sym is) in
    record {
      duplicate = so_far.duplicate ∙ (ap (first_duplicate now) rest ∙ if_not _ _ _ absent);
      all = so_far.all ∙ ap (with_rows now) rest;
      back = ap (without_rows (with_row now (key_of row) row)) taken
          ∙ (without_rows-push (with_row now (key_of row) row) (take i rows) row
          ∙ (ap (λ es. without_rows es (take i rows)) (without_row-with_row now (key_of row) row absent) ∙ so_far.back));
    }

-- the next row's key is there already
pub adding_ends : (first now : List (ℤ × Row)) (rows : List Row) (i : ℕ) (row : Row) → i < length rows → row ≡ get_or rows i row →
    has_key now (key_of row) ≡ true → Adding first now rows i → first_duplicate first rows ≡ Some (key_of row)
adding_ends first now rows i row within is there so_far =
    let rest : drop i rows ≡ row ∷ drop (i + 1) rows = drop_more rows i row within ∙ ap (λ r. r ∷ drop (i + 1) rows) (sym is) in
    so_far.duplicate ∙ (ap (first_duplicate now) rest ∙ if_so _ _ _ there)
