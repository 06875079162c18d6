-- Rows that are to be deleted stand there, one after another, and rows that are put have no line feed.
use Rattle.std.proofs.Common.{◌≡◌, ℕ, suc, ◌+◌, ◌==◌, ◌&&◌, ℤ, Bool, true, false, cond, List, [], ◌∷◌, drop, map, slice_get, is_some, Option, Some, refl, sym, ◌∙◌, ap, subst, arith, if◌then◌else◌}
use Rattle.std.specs.Prelude.{filter}
use Rattle.std.specs.List.{AllByRecursion, list_all}
use Rattle.std.specs.Map.{values_of}
use Rattle.std.specs.BTreeMap.{is_at}
use Rattle.std.specs.Option.{option_and_then}
use Rattle.std.specs.Ordering.{int_cmp, int_eq}
use Rattle.std.specs.declared.cmp.Ordering.TheVariants.{Less, Equal}
use Rattle.isp_changes.specs.Changes.{after_change, row_in}
use Rattle.isp_changes.specs.Rows.{AreKeyed, AreRising, AreRisingTables, row_at}
use Rattle.isp_changes.specs.TableLaws.{is_changed}
use Rattle.isp_changes.proofs.ChangeProofs.{itself}
use Rattle.isp_changes.proofs.RowProofs.{Above, at_is, first_above, if_not, later_rise, rises_kept, row_first}
use Rattle.isp_changes.proofs.TableProofs.{change_in_tables}
use Rattle.isp_image.specs.Databases.{Database, tables_of}
use Rattle.isp_image.proofs.KeyedLaws.{same_key}
use Rattle.isp_plain.specs.Tables.{Table}
use Rattle.isp_plain.specs.Values.{key_of}
use Rattle.isp_plain.specs.declared.value.Row.{Row}
use Rattle.isp_work.specs.Works.{change_by}
use Rattle.isp_work.proofs.StageLaws.{Behind}
use Rattle.isp_tables.specs.Opened.{IsWritable, Stands}
use Rattle.isp_exec.specs.Standing.{AreDeletable, AreWritable}

abbrev pub keyed : Row → ℤ × Row
keyed row = (key_of row, row)

-- ---- keys that differ

pub differ : (a b : ℤ) → int_cmp a b ≡ Less → int_eq b a ≡ false
differ a b less = by (int_eq b a) refl
  where
    by : (c : Bool) → int_eq b a ≡ c → int_eq b a ≡ false
    by false is = is
    by true is =
        let same : b ≡ a = same_key b a is in
        let bad : Less ≡ Equal = sym less ∙ ap (int_cmp a) same ∙ itself a in cc

and_mid : (a b c : Bool) → b ≡ false → ((a && b) && c) ≡ false
and_mid true b c is = ap (λ x. x && c) is
and_mid false b c is = refl

-- ---- one row is deleted, and those behind it stand

module _ (place : ℕ) (row : Row) (d after : Database) (rises : AreRisingTables (tables_of d)) (tables : tables_of after ≡ after_change (tables_of d) (change_by true place row)) where
  one_stands : (r : Row) → Stands place r d → int_cmp (key_of row) (key_of r) ≡ Less → Stands place r after
  one_stands r had less =
      let change = change_by true place row in
      let not : is_changed (tables_of d) change place (key_of r) ≡ false = and_mid (place == place) (int_eq (key_of r) (key_of row)) (is_some (slice_get (tables_of d) place)) (differ (key_of row) (key_of r) less) in
      ap (λ (ts : List Table). row_in ts place (key_of r)) tables
      ∙ (change_in_tables (tables_of d) change rises).each place (key_of r)
      ∙ ap (λ (b : Bool). if b then change.new else row_in (tables_of d) place (key_of r)) not
      ∙ had

  all_stand : (rows : List Row) → AllByRecursion (λ (r : Row). Stands place r d) rows → Above (key_of row) (map keyed rows) → AllByRecursion (λ (r : Row). Stands place r after) rows
  all_stand [] all above = tt
  all_stand (r ∷ rows) all above = (one_stands r all.0 above.0, all_stand rows all.1 above.1)

  deletable_later : (rows : List Row) → AreDeletable place (row ∷ rows) d → AreDeletable place rows after
  deletable_later rows is = record {
    each = all_stand rows is.each.1 (first_above (keyed row) (map keyed rows) is.rise);
    rise = later_rise (keyed row) (map keyed rows) is.rise;
  }

pub one_more : (n : ℕ) → n + 1 ≡ suc n
one_more n = omega arith

later_by : (deletes : Bool) (place : ℕ) (row : Row) (rows : List Row) (d after : Database) → AreRisingTables (tables_of d) → AreWritable deletes place (row ∷ rows) d → tables_of after ≡ after_change (tables_of d) (change_by deletes place row)
    → AreWritable deletes place rows after
later_by true place row rows d after rises is tables = deletable_later place row d after rises tables rows is
later_by false place row rows d after rises is tables = is.1

pub later_writable : (deletes : Bool) (place : ℕ) (rows : List Row) (next : ℕ) (b : Behind rows next) (d after : Database) → AreRisingTables (tables_of d) → AreWritable deletes place (drop next rows) d
    → tables_of after ≡ after_change (tables_of d) (change_by deletes place b.item) → AreWritable deletes place (drop (next + 1) rows) after
later_writable deletes place rows next b d after rises is tables =
    subst (λ (n : ℕ). AreWritable deletes place (drop n rows) after) (sym (one_more next))
    (later_by deletes place b.item (drop (suc next) rows) d after rises (subst (λ (l : List Row). AreWritable deletes place l d) b.rest is) tables)

-- the next row can be written
pub first_writable : (deletes : Bool) (place : ℕ) (row : Row) (rows : List Row) (d : Database) → AreWritable deletes place (row ∷ rows) d → IsWritable deletes place row d
first_writable true place row rows d is = is.each.0
first_writable false place row rows d is = is.0

-- ---- rows that were read

each_later : (e : ℤ × Row) (rows fs : List (ℤ × Row)) → Above e.0 fs → AllByRecursion (λ (f : ℤ × Row). row_at rows f.0 ≡ Some f.1) fs → AllByRecursion (λ (f : ℤ × Row). row_at (e ∷ rows) f.0 ≡ Some f.1) fs
each_later e rows [] above all = tt
each_later e rows (f ∷ fs) above all =
    (if_not (is_at (int_cmp f.0) e.0) (Some e.1) (row_at rows f.0) (at_is f.0 e.0 ∙ differ e.0 f.0 above.0) ∙ all.0, each_later e rows fs above.1 all.1)

pub each_found : (rows : List (ℤ × Row)) → AreRising rows → AllByRecursion (λ (f : ℤ × Row). row_at rows f.0 ≡ Some f.1) rows
each_found [] rises = tt
each_found (e ∷ rows) rises = (row_first e rows, each_later e rows rows (first_above e rows rises) (each_found rows (later_rise e rows rises)))

same_entries : (rows : List (ℤ × Row)) → AreKeyed rows → map keyed (values_of rows) ≡ rows
same_entries [] all = refl
same_entries (e ∷ rows) all = λ i. (all.0 i, e.1) ∷ same_entries rows all.1 i

all_kept : (P : ℤ × Row → Type 0) (p : ℤ × Row → Bool) (rows : List (ℤ × Row)) → AllByRecursion P rows → AllByRecursion P (filter p rows)
all_kept P p [] all = tt
all_kept P p (e ∷ rows) all = by (p e) (all_kept P p rows all.1)
  where
    by : (b : Bool) → AllByRecursion P (filter p rows) → AllByRecursion P (cond b (e ∷ filter p rows) (filter p rows))
    by true later = (all.0, later)
    by false later = later

stand_there : (tables : List Table) (place : ℕ) (table : Table) (rows : List (ℤ × Row)) → slice_get tables place ≡ Some table → AreKeyed rows → AllByRecursion (λ (f : ℤ × Row). row_at table.rows f.0 ≡ Some f.1) rows
    → AllByRecursion (λ (row : Row). row_in tables place (key_of row) ≡ Some row) (values_of rows)
stand_there tables place table [] there own all = tt
stand_there tables place table (e ∷ rows) there own all = (
  ap (λ (t : Option Table). option_and_then (λ (table : Table). row_at table.rows (key_of e.1)) t) there ∙ ap (row_at table.rows) own.0 ∙ all.0,
  stand_there tables place table rows there own.1 all.1,
)

-- those that hold of a table's rows can be deleted
pub read_deletable : (place : ℕ) (d : Database) (table : Table) (p : ℤ × Row → Bool) → slice_get (tables_of d) place ≡ Some table → AreRising table.rows → AreKeyed table.rows → AreDeletable place (values_of (filter p table.rows)) d
read_deletable place d table p there rises own =
    let kept = all_kept (λ (e : ℤ × Row). key_of e.1 ≡ e.0) p table.rows own in
    record {
      each = stand_there (tables_of d) place table (filter p table.rows) there kept (all_kept (λ (f : ℤ × Row). row_at table.rows f.0 ≡ Some f.1) p table.rows (each_found table.rows rises));
      rise = subst AreRising (sym (same_entries (filter p table.rows) kept)) (rises_kept p table.rows rises);
    }

-- ---- no line feed

pub and_first : (a b : Bool) → (a && b) ≡ true → a ≡ true
and_first true b is = refl
and_first false b is = cc

pub and_rest : (a b : Bool) → (a && b) ≡ true → b ≡ true
and_rest true b is = is
and_rest false b is = cc

pub all_by : {X : Type 0} (p : X → Bool) (xs : List X) → list_all p xs ≡ true → AllByRecursion (λ (x : X). p x ≡ true) xs
all_by p [] is = tt
all_by p (x ∷ xs) is = (and_first (p x) (list_all p xs) is, all_by p xs (and_rest (p x) (list_all p xs) is))

values_all : (P : Row → Type 0) (rows : List (ℤ × Row)) → AllByRecursion (λ (e : ℤ × Row). P e.1) rows → AllByRecursion P (values_of rows)
values_all P [] all = tt
values_all P (e ∷ rows) all = (all.0, values_all P rows all.1)

values_each : (P : Row → Type 0) (rows : List (ℤ × Row)) → AllByRecursion P (values_of rows) → AllByRecursion (λ (e : ℤ × Row). P e.1) rows
values_each P [] all = tt
values_each P (e ∷ rows) all = (all.0, values_each P rows all.1)

-- of rows of which something holds it holds of those that a condition holds of
pub all_held : (P : Row → Type 0) (p : ℤ × Row → Bool) (rows : List (ℤ × Row)) → AllByRecursion P (values_of rows) → AllByRecursion P (values_of (filter p rows))
all_held P p rows all = values_all P (filter p rows) (all_kept (λ (e : ℤ × Row). P e.1) p rows (values_each P rows all))

pub all_mapped : (P Q : Row → Type 0) (f : Row → Row) (rows : List Row) → ((row : Row) → P row → Q (f row)) → AllByRecursion P rows → AllByRecursion Q (map f rows)
all_mapped P Q f [] makes all = tt
all_mapped P Q f (row ∷ rows) makes all = (makes row all.0, all_mapped P Q f rows makes all.1)
