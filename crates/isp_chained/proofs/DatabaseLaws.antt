-- What the steps of a database with chains do to its tables, those of now and the committed ones.
use Rattle.std.proofs.Common.{◌≡◌, ℕ, suc, ◌≤◌, ◌==◌, ◌&&◌, ◌||◌, ℤ, Bool, true, false, cond, List, [], ◌∷◌, ◌++◌, map, Option, Some, None, is_some, refl, sym, ◌∙◌, ap, subst}
use Rattle.std.specs.Prelude.{int_lt, slice_get}
use Rattle.std.specs.declared.cmp.Ordering.TheVariants.{Less, Equal, Greater}
use Rattle.std.specs.List.{AllByRecursion, list_any}
use Rattle.std.specs.Ordering.{int_eq}
use Rattle.isp_format.specs.Ranges.{Contents}
use Rattle.isp_plain.specs.Tables.{Table, definition_of}
use Rattle.isp_changes.specs.Rows.{AreRising, AreRisingTables}
use Rattle.isp_changes.specs.Changes.{RowChange, after_change, row_in}
use Rattle.isp_changes.proofs.ChangeProofs.{change_rises, changes_rise}
use Rattle.isp_changes.proofs.RowProofs.{Above, no_rows, rising_first}
use Rattle.isp_changes.proofs.TableProofs.{change_in_tables}
use Rattle.isp_image.specs.Courses.{Exchanges, change_at, names, stood, stood_at}
use Rattle.isp_image.specs.Databases.{Database, FileImage, FileRow, FileTable, back_of, committed, image_of, put_back, row_key, table_of, tables_of}
use Rattle.isp_image.specs.Files.{IsFileImage}
use Rattle.isp_image.specs.Keyed.{IsBelowEach, RisesBy, found}
use Rattle.isp_image.proofs.FileLaws.{rises_in}
use Rattle.isp_image.proofs.SeenLaws.{Entry, back_is, entry_key, goes_back, shown_rises}
use Rattle.isp_image.proofs.StepLaws.{exchanged_now as row_exchanged}
use Rattle.isp_undo.specs.Chains.{Chain}
use Rattle.isp_chained.specs.Chained.{Holds}
use Rattle.isp_chained.specs.Laws.{Finishing, UnnamedIsCommitted}
use Rattle.isp_chained.specs.Steps.{FinishesAmong, IsUnnamed, NotesAmong, UndoesAmong}
use Rattle.isp_chained.proofs.SwapLaws.{all_apart, back_among, back_append, image_other, there_is}

-- ---- the keys of plain tables rise

above_of : (key : ℤ) (rows : List Entry) → IsBelowEach entry_key key rows → Above key rows
above_of key [] all = tt
above_of key (e ∷ rows) all = ((λ i. cond (all.0 i) Less (cond (int_lt e.0 key) Greater Equal)), above_of key rows all.1)

rising_of : (rows : List Entry) → RisesBy entry_key rows → AreRising rows
rising_of [] rises = no_rows
rising_of (e ∷ rows) rises = rising_first e rows (above_of e.0 rows rises.0) (rising_of rows rises.1)

all_mapped : (P : Table → Type 0) (tables : List FileTable) → ((place : ℕ) (t : FileTable) → slice_get tables place ≡ Some t → P (table_of t)) → AllByRecursion P (map table_of tables)
all_mapped P [] each = tt
all_mapped P (t ∷ tables) each = (each 0 t refl, all_mapped P tables (λ place u got. each (suc place) u got))

pub tables_rise : (pages : ℕ) (contents : Contents) (db : Database) (chains : List Chain) → Holds pages contents db chains → AreRisingTables (tables_of db)
tables_rise pages contents db chains was = all_mapped (λ table. AreRising table.rows) db.tables (λ place t got. rising_of _ (shown_rises t.rows (rises_in pages contents db place t was.kept got)))

-- ---- one row is exchanged

pub exchanged_now : (pages : ℕ) (contents : Contents) (old new : Database) (chains : List Chain) (place : ℕ) (key : ℤ) (row : FileRow) → Holds pages contents old chains → row.stored.key ≡ key → Exchanges place key (Some row) old new
    → tables_of new ≡ after_change (tables_of old) (change_at place key (Some row))
exchanged_now pages contents old new chains place key row was at is = row_exchanged pages contents old new place key (Some row) was.kept at is

all_front : {X : Type 0} (P : X → Type 0) (xs ys : List X) → AllByRecursion P (xs ++ ys) → AllByRecursion P xs
all_front P [] ys all = tt
all_front P (x ∷ xs) ys all = (all.0, all_front P xs ys all.1)

all_rest : {X : Type 0} (P : X → Type 0) (xs ys : List X) → AllByRecursion P (xs ++ ys) → AllByRecursion P ys
all_rest P [] ys all = all
all_rest P (x ∷ xs) ys all = all_rest P xs ys all.1

-- old rows are of a table's number, from 1
from_one : (tables : List FileTable) (images : List FileImage) → AllByRecursion (IsFileImage tables) images → AllByRecursion (λ (i : FileImage). 1 ≤ i.image.table) images
from_one tables [] all = tt
from_one tables (i ∷ images) all = (all.0.from, from_one tables images all.1)

image_place : (place : ℕ) (key : ℤ) (one : Option FileRow) → ((back_of (image_of place key one)).table ≡ place) × ((back_of (image_of place key one)).key ≡ key)
image_place place key None = (refl, refl)
image_place place key (Some r) = (refl, refl)

pub noted_committed : (pages : ℕ) (contents : Contents) (old new : Database) (chains : List Chain) (place : ℕ) (key : ℤ) (row : FileRow) (newer older : List FileImage) → Holds pages contents old chains → NotesAmong place key row newer older old new → committed new ≡ committed old
noted_committed pages contents old new chains place key row newer older was is =
    let e = is.exchanges in
    let image : FileImage = image_of place key (stood_at place key old) in
    let rise = tables_rise pages contents old chains was in
    let now = exchanged_now pages contents old new chains place key row was is.at e in
    let rise_now : AreRisingTables (tables_of new) = subst (λ (tables : List Table). AreRisingTables tables) (sym now) (change_rises (tables_of old) (change_at place key (Some row)) rise) in
    let from = from_one old.tables newer (all_front (IsFileImage old.tables) newer older (subst (λ (images : List FileImage). AllByRecursion (IsFileImage old.tables) images) is.was was.kept.noted)) in
    let at = image_place place key (stood_at place key old) in
    let apart = all_apart place key newer (back_of image) from at.0 at.1 is.free in
    let stands : stood_at place key old ≡ found row_key key e.table.rows = ap (stood key) e.is_there in
    let back : back_of image ≡ change_at place key (found row_key key e.table.rows) = back_is place key (stood_at place key old) ∙ ap (change_at place key) stands in
    let goes : after_change (tables_of new) (back_of image) ≡ tables_of old =
    (λ i. after_change (map table_of (e.tables i)) (back i))
    ∙ goes_back old.tables place key (Some row) e.table e.tree e.is_there is.at (rises_in pages contents old place e.table was.kept e.is_there) in
    ap (λ (images : List FileImage). put_back images (tables_of new)) is.noted
    ∙ back_among (tables_of new) newer image older rise_now apart
    ∙ ap (put_back (newer ++ older)) goes
    ∙ sym (ap (λ (images : List FileImage). put_back images (tables_of old)) is.was)

pub undone_committed : (pages : ℕ) (contents : Contents) (old new : Database) (chains : List Chain) (place : ℕ) (key : ℤ) (row : FileRow) (newer : List FileImage) (image : FileImage) (older : List FileImage) → Holds pages contents old chains → UndoesAmong place key row newer image older old new → committed new ≡ committed old
undone_committed pages contents old new chains place key row newer image older was is =
    let rise = tables_rise pages contents old chains was in
    let now = exchanged_now pages contents old new chains place key row was is.at is.exchanges in
    let from = from_one old.tables newer (all_front (IsFileImage old.tables) newer (image ∷ older) (subst (λ (images : List FileImage). AllByRecursion (IsFileImage old.tables) images) is.was was.kept.noted)) in
    let apart = all_apart place key newer (back_of image) from (ap (λ (c : RowChange). c.table) is.back) (ap (λ (c : RowChange). c.key) is.back) is.free in
    ap (λ (images : List FileImage). put_back images (tables_of new)) is.noted
    ∙ ap (put_back (newer ++ older)) (now ∙ sym (ap (after_change (tables_of old)) is.back))
    ∙ sym (ap (λ (images : List FileImage). put_back images (tables_of old)) is.was ∙ back_among (tables_of old) newer image older rise apart)

-- ---- rows by place and key

pub back_rises : (tables : List Table) (images : List FileImage) → AreRisingTables tables → AreRisingTables (put_back images tables)
back_rises tables images rise = changes_rise tables (map back_of images) rise

back_defines : (tables : List Table) (images : List FileImage) → AreRisingTables tables → map definition_of (put_back images tables) ≡ map definition_of tables
back_defines tables [] rise = refl
back_defines tables (i ∷ images) rise =
    back_defines (after_change tables (back_of i)) images (change_rises tables (back_of i) rise) ∙ (change_in_tables tables (back_of i) rise).definitions

-- a key that none of them names keeps its row
unnamed_row : (tables : List Table) (images : List FileImage) (place : ℕ) (key : ℤ) → AreRisingTables tables → AllByRecursion (λ (i : FileImage). 1 ≤ i.image.table) images → IsUnnamed place key images → row_in (put_back images tables) place key ≡ row_in tables place key
unnamed_row tables [] place key rise from free = refl
unnamed_row tables (i ∷ images) place key rise from free =
    let parts = neither (names place key i) (list_any (names place key) images) free in
    let c = change_in_tables tables (back_of i) rise in
    let other = image_other place key i from.0 parts.0 in
    unnamed_row (after_change tables (back_of i)) images place key c.rises from.1 parts.1
    ∙ c.each place key
    ∙ (λ k. cond (other k && is_some (slice_get tables place)) (back_of i).new (row_in tables place key))
  where
    neither : (a b : Bool) → (a || b) ≡ false → (a ≡ false) × (b ≡ false)
    neither true b bad = cc
    neither false b is = (refl, is)

pub unnamed_committed : UnnamedIsCommitted
unnamed_committed pages contents db chains place key was free =
    unnamed_row (tables_of db) db.images place key (tables_rise pages contents db chains was) (from_one db.tables db.images was.kept.noted) free

-- the same old rows on tables with the same row there
same_row : (tables others : List Table) (images : List FileImage) (place : ℕ) (key : ℤ) → AreRisingTables tables → AreRisingTables others → map definition_of tables ≡ map definition_of others → row_in tables place key ≡ row_in others place key → row_in (put_back images tables) place key ≡ row_in (put_back images others) place key
same_row tables others [] place key rise rise_other defined same = same
same_row tables others (i ∷ images) place key rise rise_other defined same =
    let c = change_in_tables tables (back_of i) rise in
    let d = change_in_tables others (back_of i) rise_other in
    same_row (after_change tables (back_of i)) (after_change others (back_of i)) images place key c.rises d.rises (c.definitions ∙ defined ∙ sym d.definitions)
    (c.each place key
    ∙ (λ k. cond (((place == (back_of i).table) && int_eq key (back_of i).key) && there_is definition_of tables others place defined k) (back_of i).new (same k))
    ∙ sym (d.each place key))

-- ---- the old rows of a slot go

pub finished_rows : (pages : ℕ) (contents : Contents) (old new : Database) (chains : List Chain) (newer mine older : List FileImage) → Holds pages contents old chains → FinishesAmong newer mine older old new → Finishing old new mine
finished_rows pages contents old new chains newer mine older was is = record {
  now = now;
  defined = defined;
  named = λ place key is_named. mine_now place key is_named;
  others = λ place key free. others_stay place key free;
}
  where
    rise : AreRisingTables (tables_of old)
    rise = tables_rise pages contents old chains was

    now : tables_of new ≡ tables_of old
    now = ap (map table_of) is.tables

    from : AllByRecursion (λ (i : FileImage). 1 ≤ i.image.table) (newer ++ (mine ++ older))
    from = from_one old.tables (newer ++ (mine ++ older)) (subst (λ (images : List FileImage). AllByRecursion (IsFileImage old.tables) images) is.was was.kept.noted)

    after : committed new ≡ put_back (newer ++ older) (tables_of old)
    after = λ i. put_back (is.noted i) (now i)

    before : committed old ≡ put_back older (put_back mine (put_back newer (tables_of old)))
    before = ap (λ (images : List FileImage). put_back images (tables_of old)) is.was ∙ back_append (tables_of old) newer (mine ++ older) ∙ back_append (put_back newer (tables_of old)) mine older

    defined : map definition_of (committed new) ≡ map definition_of (committed old)
    defined = ap (map definition_of) after ∙ back_defines (tables_of old) (newer ++ older) rise
        ∙ sym (ap (λ (images : List FileImage). map definition_of (put_back images (tables_of old))) is.was ∙ back_defines (tables_of old) (newer ++ (mine ++ older)) rise)

    from_rest : AllByRecursion (λ (i : FileImage). 1 ≤ i.image.table) (mine ++ older)
    from_rest = all_rest (λ (i : FileImage). 1 ≤ i.image.table) newer (mine ++ older) from

    mine_now : (place : ℕ) (key : ℤ) → list_any (names place key) mine ≡ true → row_in (committed new) place key ≡ row_in (tables_of old) place key
    mine_now place key named =
        let apart = is.apart place key named in
        ap (λ (tables : List Table). row_in tables place key) (after ∙ back_append (tables_of old) newer older)
        ∙ unnamed_row (put_back newer (tables_of old)) older place key (back_rises (tables_of old) newer rise) (all_rest (λ (i : FileImage). 1 ≤ i.image.table) mine older from_rest) apart.1
        ∙ unnamed_row (tables_of old) newer place key rise (all_front (λ (i : FileImage). 1 ≤ i.image.table) newer (mine ++ older) from) apart.0

    others_stay : (place : ℕ) (key : ℤ) → IsUnnamed place key mine → row_in (committed new) place key ≡ row_in (committed old) place key
    others_stay place key free =
        let newer_rise = back_rises (tables_of old) newer rise in
        let same = unnamed_row (put_back newer (tables_of old)) mine place key newer_rise (all_front (λ (i : FileImage). 1 ≤ i.image.table) mine older from_rest) free in
        ap (λ (tables : List Table). row_in tables place key) (after ∙ back_append (tables_of old) newer older)
        ∙ same_row (put_back newer (tables_of old)) (put_back mine (put_back newer (tables_of old))) older place key newer_rise (back_rises (put_back newer (tables_of old)) mine newer_rise) (sym (back_defines (put_back newer (tables_of old)) mine newer_rise)) (sym same)
        ∙ sym (ap (λ (tables : List Table). row_in tables place key) before)
