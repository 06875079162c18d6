-- The rows of now by key: they rise, and at each key stands what is seen of the row that the file has there.
use Rattle.std.proofs.Common.{◌≡◌, ℕ, ℤ, Bool, true, false, cond, List, [], ◌∷◌, Option, Some, None, refl, sym, ◌∙◌, ap, arith, if◌then◌else◌}
use Rattle.std.specs.Prelude.{int_lt, slice_get}
use Rattle.std.specs.declared.cmp.Ordering.TheVariants.{Less, Equal, Greater}
use Rattle.std.specs.BTreeMap.{is_at}
use Rattle.std.specs.Option.{option_and_then, option_map}
use Rattle.std.specs.Ordering.{int_cmp, int_eq}
use Rattle.std.proofs.lemmas.Int.{ints}
use Rattle.isp_plain.specs.declared.value.Row.{Row}
use Rattle.isp_plain.specs.Tables.{Table}
use Rattle.isp_changes.specs.Rows.{AreRising, row_at}
use Rattle.isp_changes.specs.Changes.{row_in}
use Rattle.isp_changes.proofs.RowProofs.{Above, absent, at_is, if_not, if_so, no_rows, rising_first}
use Rattle.isp_format.specs.Ranges.{Contents}
use Rattle.isp_image.specs.Databases.{Database, FileRow, FileTable, row_key, seen, shown, table_of, tables_of}
use Rattle.isp_image.specs.Courses.{stood, stood_at}
use Rattle.isp_image.specs.Files.{KeptFile}
use Rattle.isp_image.specs.Keyed.{IsBelowEach, RisesBy, found}
use Rattle.isp_image.proofs.FileLaws.{rises_in}
use Rattle.isp_image.proofs.KeyedLaws.{below_rest}
use Rattle.isp_image.proofs.ListLaws.{get_map}
use Rattle.isp_image.proofs.SeenLaws.{Entry, below_shown, entry_key}

lt_cmp : (a b : ℤ) → int_lt a b ≡ true → int_cmp a b ≡ Less
lt_cmp a b less = λ i. cond (less i) Less (cond (int_lt b a) Greater Equal)

turned : (a b : ℤ) (c : Bool) → int_eq a b ≡ c → int_eq b a ≡ c
turned a b true same = grind (arith, ints, same)
turned a b false apart = grind (arith, ints, apart)

below_apart : (a b : ℤ) → int_lt a b ≡ true → int_eq b a ≡ false
below_apart a b less = grind (arith, ints, less)

pub above_of : (key : ℤ) (rows : List Entry) → IsBelowEach entry_key key rows → Above key rows
above_of key [] all = tt
above_of key (e ∷ rows) all = (lt_cmp key e.0 all.0, above_of key rows all.1)

pub rising_of : (rows : List Entry) → RisesBy entry_key rows → AreRising rows
rising_of [] rises = no_rows
rising_of (e ∷ rows) rises = rising_first e rows (above_of e.0 rows rises.0) (rising_of rows rises.1)

pub row_at_shown : (key : ℤ) (rows : List FileRow) → RisesBy row_key rows → row_at (shown rows) key ≡ seen (found row_key key rows)
row_at_shown key [] rises = refl
row_at_shown key (r ∷ rows) rises = by (int_lt r.stored.key key) refl (int_eq r.stored.key key) refl r.stored.marked refl (row_at_shown key rows rises.1)
  where
    none : int_lt r.stored.key key ≡ false → row_at (shown rows) key ≡ None
    none far = absent key (shown rows) (above_of key (shown rows) (below_shown key rows (below_rest row_key key r rows rises far)))

    later : int_eq key r.stored.key ≡ false → row_at ((r.stored.key, r.row) ∷ shown rows) key ≡ row_at (shown rows) key
    later apart = if_not (is_at (int_cmp key) r.stored.key) (Some r.row) (row_at (shown rows) key) (at_is key r.stored.key ∙ apart)

    first : int_eq key r.stored.key ≡ true → row_at ((r.stored.key, r.row) ∷ shown rows) key ≡ Some r.row
    first same = if_so (is_at (int_cmp key) r.stored.key) (Some r.row) (row_at (shown rows) key) (at_is key r.stored.key ∙ same)

    seen_is : (m : Bool) → r.stored.marked ≡ m → seen (Some r) ≡ (if m then None else Some r.row)
    seen_is m is = ap (λ (b : Bool). if b then None else Some r.row) is

    by : (b : Bool) → int_lt r.stored.key key ≡ b → (c : Bool) → int_eq r.stored.key key ≡ c → (m : Bool) → r.stored.marked ≡ m → row_at (shown rows) key ≡ seen (found row_key key rows)
        → row_at (if m then shown rows else (r.stored.key, r.row) ∷ shown rows) key ≡ seen (if b then found row_key key rows else (if c then Some r else None))
    by true less c at true is rest = rest
    by true less c at false is rest = later (below_apart r.stored.key key less) ∙ rest
    by false far true at true is rest = none far ∙ sym (seen_is true is)
    by false far true at false is rest = first (turned r.stored.key key true at) ∙ sym (seen_is false is)
    by false far false at true is rest = none far
    by false far false at false is rest = later (turned r.stored.key key false at) ∙ none far

-- the row of now at a key of a table
pub row_in_is : (pages : ℕ) (contents : Contents) (d : Database) (place : ℕ) (key : ℤ) → KeptFile pages contents d → row_in (tables_of d) place key ≡ seen (stood_at place key d)
row_in_is pages contents d place key kept = ap at (get_map table_of d.tables place) ∙ by (slice_get d.tables place) refl
  where
    at : Option Table → Option Row
    at found = option_and_then (λ (table : Table). row_at table.rows key) found

    by : (o : Option FileTable) → slice_get d.tables place ≡ o → option_and_then (λ (table : Table). row_at table.rows key) (option_map table_of o) ≡ seen (stood key o)
    by None is = refl
    by (Some t) is = row_at_shown key t.rows (rises_in pages contents d place t kept is)
