-- What a step of one row does to the tables of a file: those of now change at that row, and a marked row that goes leaves them.
use Rattle.std.proofs.Common.{◌≡◌, ℕ, ◌==◌, ℤ, Bool, true, false, List, map, Option, Some, None, refl, sym, ◌∙◌, ap, arith, if◌then◌else◌}
use Rattle.std.specs.Prelude.{◌&&◌, slice_get, slice_set}
use Rattle.std.specs.Ordering.{int_eq}
use Rattle.std.proofs.lemmas.Int.{ints}
use Rattle.isp_format.specs.Ranges.{Contents}
use Rattle.isp_changes.specs.Changes.{after_change}
use Rattle.isp_image.specs.Courses.{ChangesOnly, Exchanges, IsDropped, change_at, stood}
use Rattle.isp_image.specs.Databases.{Database, FileRow, FileTable, committed, put_back, row_key, shown, table_of, tables_of}
use Rattle.isp_image.specs.Files.{KeptFile}
use Rattle.isp_image.specs.Keyed.{IsAtKey, RisesBy, found, placed}
use Rattle.isp_image.proofs.FileLaws.{def_of, rises_in}
use Rattle.isp_image.proofs.ListLaws.{get_other, get_set, map_set_same}
use Rattle.isp_image.proofs.KeyedLaws.{found_placed, placed_back}
use Rattle.isp_image.proofs.SeenLaws.{entry_of, exchanged_is, shown_placed, entry_key}

some_table : (a b : FileTable) → Some a ≡ Some b → a ≡ b
some_table a b same = cc

-- the tables of now, where one row is exchanged
pub exchanged_now : (pages : ℕ) (contents : Contents) (old new : Database) (place : ℕ) (key : ℤ) (one : Option FileRow) → KeptFile pages contents old → IsAtKey row_key key one → Exchanges place key one old new
    → tables_of new ≡ after_change (tables_of old) (change_at place key one)
exchanged_now pages contents old new place key one kept at is =
    ap (map table_of) is.tables ∙ sym (exchanged_is old.tables place key one is.table is.tree is.is_there at (rises_in pages contents old place is.table kept is.is_there))

-- a marked row isn't seen
dropped_shown : (key : ℤ) (rows : List FileRow) (row : FileRow) → RisesBy row_key rows → found row_key key rows ≡ Some row → row.stored.marked ≡ true → shown (placed row_key key None rows) ≡ shown rows
dropped_shown key rows row rises is marked =
    let none : entry_of (found row_key key rows) ≡ None = ap entry_of is ∙ ap (λ (b : Bool). if b then None else Some (row.stored.key, row.row)) marked in
    shown_placed key None rows rises
    ∙ sym (ap (λ o. placed entry_key key o (shown rows)) none)
    ∙ sym (shown_placed key (found row_key key rows) rows rises)
    ∙ ap shown (placed_back row_key key rows)

pub dropped_now : (pages : ℕ) (contents : Contents) (old new : Database) (place : ℕ) (key : ℤ) → KeptFile pages contents old → IsDropped place key old new → tables_of new ≡ tables_of old
dropped_now pages contents old new place key kept is =
    let e = is.exchanges in
    let was : found row_key key e.table.rows ≡ Some is.row = sym (ap (stood key) e.is_there) ∙ is.stood in
    let rows = dropped_shown key e.table.rows is.row (rises_in pages contents old place e.table kept e.is_there) was is.marked in
    let same : table_of (record { def = e.table.def; tree = e.tree; rows = placed row_key key None e.table.rows }) ≡ table_of e.table = λ i. record { name = e.table.def.name; schema = e.table.def.schema; rows = rows i } in
    ap (map table_of) e.tables ∙ map_set_same table_of old.tables place e.table (record { def = e.table.def; tree = e.tree; rows = placed row_key key None e.table.rows }) e.is_there same

pub dropped_committed : (pages : ℕ) (contents : Contents) (old new : Database) (place : ℕ) (key : ℤ) → KeptFile pages contents old → IsDropped place key old new → committed new ≡ committed old
dropped_committed pages contents old new place key kept is = λ i. put_back (is.images i) (dropped_now pages contents old new place key kept is i)

-- ---- all other rows stay

-- what stands at a key once a row of one table is exchanged
pub exchanged_only : (pages : ℕ) (contents : Contents) (old new : Database) (place : ℕ) (key : ℤ) (one : Option FileRow) → KeptFile pages contents old → IsAtKey row_key key one → Exchanges place key one old new
    → ChangesOnly place key old new
exchanged_only pages contents old new place key one kept at is =
    record {
      defs = ap (map def_of) is.tables ∙ map_set_same def_of old.tables place is.table now is.is_there refl;
      others = λ p k apart. ap (λ (tables : List FileTable). stood k (slice_get tables p)) is.tables ∙ by p k (place == p) refl apart;
    }
  where
    now : FileTable
    now = record { def = is.table.def; tree = is.tree; rows = placed row_key key one is.table.rows }

    differ : (a b : ℕ) → (a == b) ≡ false → a ≡ b → ⊥
    differ a b no_same same = let at : (a == b) ≡ true = grind (arith, same) in let bad : true ≡ false = sym at ∙ no_same in cc

    turned : (a b : ℤ) → int_eq a b ≡ false → int_eq b a ≡ false
    turned a b apart = grind (arith, ints, apart)

    by : (p : ℕ) (k : ℤ) (b : Bool) → (place == p) ≡ b → (b && int_eq key k) ≡ false → stood k (slice_get (slice_set old.tables place now) p) ≡ stood k (slice_get old.tables p)
    by p k true same apart =
        let here : place ≡ p = grind (arith, same) in
        let after : slice_get (slice_set old.tables place now) p ≡ Some now = ap (slice_get (slice_set old.tables place now)) (sym here) ∙ get_set old.tables place is.table now is.is_there in
        let before : slice_get old.tables p ≡ Some is.table = ap (slice_get old.tables) (sym here) ∙ is.is_there in
        ap (stood k) after
        ∙ found_placed row_key k key one is.table.rows at (rises_in pages contents old place is.table kept is.is_there)
        ∙ ap (λ (b : Bool). if b then one else found row_key k is.table.rows) (turned key k apart)
        ∙ sym (ap (stood k) before)
    by p k false no_same apart = ap (stood k) (get_other old.tables place p now (differ place p no_same))
