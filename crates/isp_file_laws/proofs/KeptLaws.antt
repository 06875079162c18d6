-- The tables of a kept file as plain tables.
use Rattle.std.proofs.Common.{◌≡◌, ℕ, zero, suc, ◌+◌, ℤ, Bool, true, false, ◌==◌, List, [], ◌∷◌, map, Option, Some, None, ◌∙◌, ap, subst, if◌then◌else◌}
use Rattle.std.specs.Prelude.{slice_get}
use Rattle.std.specs.List.{AllByRecursion}
use Rattle.std.specs.Option.{option_map}
use Rattle.std.specs.Map.{values_of}
use Rattle.isp_format.specs.Ranges.{Contents}
use Rattle.isp_format.specs.Undo.{unmarked_kind}
use Rattle.isp_plain.specs.declared.value.Row.{Row}
use Rattle.isp_plain.specs.declared.value.Schema.{Schema}
use Rattle.isp_plain.specs.declared.value.Value.{Value}
use Rattle.isp_plain.specs.declared.value.Value.TheVariants.{Int, Text, Geo}
use Rattle.isp_plain.specs.Lined.{are_lined_rows, is_lined_row, is_lined_table}
use Rattle.isp_plain.specs.Tables.{Table}
use Rattle.isp_plain.specs.Values.{first_number, key_of}
use Rattle.isp_changes.specs.Changes.{RowChange, after_changes}
use Rattle.isp_changes.specs.Rows.{AreKeyed, AreRising, AreRisingTables}
use Rattle.isp_changes.proofs.ChangeProofs.{change_rises}
use Rattle.isp_catalog.specs.Catalogue.{AreDefined, IsTableOf}
use Rattle.isp_catalog.specs.declared.table.TableDef.{TableDef}
use Rattle.isp_row.specs.RowSpelling.{IsRowOf, StartsWith}
use Rattle.isp_image.specs.Databases.{Database, FileImage, FileRow, FileTable, back_of, committed, shown, table_of, tables_of}
use Rattle.isp_image.specs.Files.{IsFileImage, IsFileRow, IsOldRow, IsSpelling, KeptFile}
use Rattle.isp_image.proofs.FileLaws.{def_of, rises_in}
use Rattle.isp_image.proofs.KeyedLaws.{OfSome}
use Rattle.isp_image.proofs.ListLaws.{get_map}
use Rattle.isp_image.proofs.SeenLaws.{shown_rises}
use Rattle.isp_image.proofs.ShownLaws.{rising_of}
use Rattle.isp_file_laws.specs.Kept.{ArePlain}
use Rattle.isp_file_laws.specs.Laws.{CommittedIsPlain, KeptIsPlain, ShownAreRows, TablesAreDefined}
use Rattle.isp_file_laws.proofs.EachLaws.{AreEach, AreEachIn, OfChange, all_map, all_weaker, each_after, each_shown, passes_all}

-- ---- one row

-- a row as it is spelled at a key
pub record IsPlainAt (key : ℤ) (row : Row) : Type 0 where
  pub lined : is_lined_row row ≡ true
  pub own : key_of row ≡ key

starts_with : (key : ℤ) (values : List Value) → StartsWith key values → first_number values ≡ key
starts_with key [] is = absurd is
starts_with key (Int number ∷ values) is = is
starts_with key (Text text ∷ values) is = absurd is
starts_with key (Geo form ∷ values) is = absurd is

pub own_key : (schema : Schema) (key : ℤ) (row : Row) → IsRowOf schema key row → key_of row ≡ key
own_key schema key row is = starts_with key row.values is.first

spelled_plain : (schema : Schema) (key : ℤ) (bytes : List ℕ) (row : Row) → IsSpelling schema key bytes row → IsPlainAt key row
spelled_plain schema key bytes row is = record { lined = is.lined; own = own_key schema key row is.spells.is_row }

-- ---- tables of such rows

rows_lined : (rows : List (ℤ × Row)) → AreEach IsPlainAt rows → are_lined_rows (values_of rows) ≡ true
rows_lined rows all = passes_all is_lined_row (values_of rows) (each rows all)
  where
    each : (rows : List (ℤ × Row)) → AreEach IsPlainAt rows → AllByRecursion (λ (row : Row). is_lined_row row ≡ true) (values_of rows)
    each [] all = tt
    each (e ∷ rows) all = (all.0.lined, each rows all.1)

rows_keyed : (rows : List (ℤ × Row)) → AreEach IsPlainAt rows → AreKeyed rows
rows_keyed rows all = all_weaker (λ (e : ℤ × Row). IsPlainAt e.0 e.1) (λ (e : ℤ × Row). key_of e.1 ≡ e.0) rows (λ e is. is.own) all

are_plain : (tables : List Table) → AreRisingTables tables → AreEachIn IsPlainAt tables → ArePlain tables
are_plain tables rise all = record {
  lined = passes_all is_lined_table tables (all_weaker (λ (table : Table). AreEach IsPlainAt table.rows) (λ (table : Table). is_lined_table table ≡ true) tables (λ table each. rows_lined table.rows each) all);
  rise = rise;
  keyed = all_weaker (λ (table : Table). AreEach IsPlainAt table.rows) (λ (table : Table). AreKeyed table.rows) tables (λ table each. rows_keyed table.rows each) all;
}

-- ---- the tables of now

pub table_rises : (pages : ℕ) (contents : Contents) (d : Database) (place : ℕ) (t : FileTable) → KeptFile pages contents d → slice_get d.tables place ≡ Some t → AreRising (shown t.rows)
table_rises pages contents d place t kept is = rising_of (shown t.rows) (shown_rises t.rows (rises_in pages contents d place t kept is))

table_plain : (pages : ℕ) (contents : Contents) (d : Database) (place : ℕ) (t : FileTable) → KeptFile pages contents d → slice_get d.tables place ≡ Some t → AreEach IsPlainAt (shown t.rows)
table_plain pages contents d place t kept is =
    each_shown IsPlainAt t.rows (all_weaker (IsFileRow t.def.schema) (λ (r : FileRow). IsPlainAt r.stored.key r.row) t.rows
    (λ r spelled. spelled_plain t.def.schema r.stored.key r.stored.row r.row spelled) (kept.each place t is).each)

pub table_keyed : (pages : ℕ) (contents : Contents) (d : Database) (place : ℕ) (t : FileTable) → KeptFile pages contents d → slice_get d.tables place ≡ Some t → AreKeyed (shown t.rows)
table_keyed pages contents d place t kept is = rows_keyed (shown t.rows) (table_plain pages contents d place t kept is)

pub shown_are_rows : ShownAreRows
shown_are_rows pages contents d place t kept is =
    each_shown (IsRowOf t.def.schema) t.rows (all_weaker (IsFileRow t.def.schema) (λ (r : FileRow). IsRowOf t.def.schema r.stored.key r.row) t.rows (λ r spelled. spelled.spells.is_row) (kept.each place t is).each)

now_rises : (pages : ℕ) (contents : Contents) (d : Database) → KeptFile pages contents d → AreRisingTables (tables_of d)
now_rises pages contents d kept = all_map table_of (λ (table : Table). AreRising table.rows) d.tables (λ place t is. table_rises pages contents d place t kept is)

now_plain : (pages : ℕ) (contents : Contents) (d : Database) → KeptFile pages contents d → AreEachIn IsPlainAt (tables_of d)
now_plain pages contents d kept = all_map table_of (λ (table : Table). AreEach IsPlainAt table.rows) d.tables (λ place t is. table_plain pages contents d place t kept is)

pub kept_is_plain : KeptIsPlain
kept_is_plain pages contents d kept = are_plain (tables_of d) (now_rises pages contents d kept) (now_plain pages contents d kept)

-- ---- the committed ones

-- what an old row puts back
back_plain : (tables : List FileTable) (i : FileImage) → IsFileImage tables i → OfChange IsPlainAt (back_of i)
back_plain tables i is = by i.row is.means (i.image.kind == unmarked_kind)
  where
    by : (o : Option Row) → IsOldRow is.table.def.schema i.image o → (b : Bool) → OfSome (IsPlainAt i.image.key) (if b then o else None)
    by None means true = tt
    by None means false = tt
    by (Some row) means true = spelled_plain is.table.def.schema i.image.key i.image.row row means.2
    by (Some row) means false = tt

backs_plain : (tables : List FileTable) (images : List FileImage) → AllByRecursion (IsFileImage tables) images → AllByRecursion (OfChange IsPlainAt) (map back_of images)
backs_plain tables [] all = tt
backs_plain tables (i ∷ images) all = (back_plain tables i all.0, backs_plain tables images all.1)

all_rise : (changes : List RowChange) (tables : List Table) → AreRisingTables tables → AreRisingTables (after_changes tables changes)
all_rise [] tables rise = rise
all_rise (change ∷ changes) tables rise = all_rise changes _ (change_rises tables change rise)

pub committed_is_plain : CommittedIsPlain
committed_is_plain pages contents d kept =
    are_plain (committed d) (all_rise (map back_of d.images) (tables_of d) (now_rises pages contents d kept))
    (each_after IsPlainAt (map back_of d.images) (tables_of d) (backs_plain d.tables d.images kept.noted) (now_plain pages contents d kept))

-- ---- definitions

some_def : (x y : TableDef) → Some x ≡ Some y → x ≡ y
some_def x y is = cc

none_def : (x : TableDef) → None ≡ Some x → ⊥
none_def x is = cc

defined_at : (pages : ℕ) (contents : Contents) (defs : List TableDef) (number place : ℕ) (def : TableDef) → AreDefined pages contents number defs → slice_get defs place ≡ Some def → IsTableOf pages def
defined_at pages contents [] number place def are is = absurd (none_def def is)
defined_at pages contents (first ∷ defs) number zero def are is = subst (λ (x : TableDef). IsTableOf pages x) (some_def first def is) are.0.table
defined_at pages contents (first ∷ defs) number (suc place) def are is = defined_at pages contents defs (number + 1) place def are.1 is

pub tables_are_defined : TablesAreDefined
tables_are_defined pages contents d place t kept is = defined_at pages contents (map def_of d.tables) 1 place t.def kept.catalogue.catalogue.each (get_map def_of d.tables place ∙ ap (option_map def_of) is)
