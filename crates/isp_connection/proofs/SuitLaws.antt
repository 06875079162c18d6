-- What a text means suits the tables that it is bound to.
use Rattle.std.proofs.Common.{◌≡◌, ℕ, suc, ◌+◌, ◌<◌, Bool, true, false, not, ◌||◌, cond, List, [], ◌∷◌, length, slice_get, is_some, Some, None, refl, sym, ◌∙◌, ap, subst, arith, if◌then◌else◌}
use Rattle.std.specs.Prelude.{nat_lt}
use Rattle.std.specs.List.{AllByRecursion, position_or_len}
use Rattle.std.specs.Str.{bytes_eq}
use Rattle.isp_bound_rows.specs.Bound.{IsNewRow}
use Rattle.isp_bound_rows.proofs.MeaningLaws.{create_makes_table, insert_puts_rows, update_sets_rows}
use Rattle.isp_catalog.specs.Catalogue.{has_table}
use Rattle.isp_catalog.specs.Limits.{has_key}
use Rattle.isp_catalog.specs.declared.table.TableDef.{TableDef}
use Rattle.isp_tables.specs.Calls.{AreKeyed}
use Rattle.isp_scan.specs.Readings.{IsPutRow, SetsFit}
use Rattle.isp_exec.specs.Starting.{Suits}
use Rattle.isp_tables.specs.TableLists.{definitions_of, place_in}
use Rattle.isp_tables.proofs.TableLaws.{all_at}
use Rattle.isp_plain.specs.declared.statement.Statement.{Statement}
use Rattle.isp_plain.specs.declared.statement.Statement.TheVariants.{Create, Insert, Select, Update, Delete, Begin, Commit, Rollback, Refused}
use Rattle.isp_plain.specs.declared.value.Row.{Row}
use Rattle.isp_plain.specs.declared.value.Schema.{Schema}
use Rattle.isp_plan.specs.Binding.{is_table, schema_named}
use Rattle.isp_plan.specs.Meaning.{meaning}
use Rattle.isp_serial.specs.declared.script.Place.{Place}

-- ---- the columns of a table by its name

none_def : {A : Type 0} (def : TableDef) → None ≡ Some def → A
none_def def none = cc

some_def : (a b : TableDef) → Some a ≡ Some b → a ≡ b
some_def a b is = cc

some_schema : (a b : Schema) → Some a ≡ Some b → a ≡ b
some_schema a b is = cc

some_number : (a b : ℕ) → Some a ≡ Some b → a ≡ b
some_number a b is = cc

none_number : {A : Type 0} (b : ℕ) → None ≡ Some b → A
none_number b none = cc

one_more : (n : ℕ) → 1 + n ≡ suc n
one_more n = omega arith

first_named : (defs : List TableDef) (name : List ℕ) (def : TableDef) → slice_get defs (position_or_len (λ (d : TableDef). bytes_eq d.name name) defs) ≡ Some def → schema_named (definitions_of defs) name ≡ Some def.schema
first_named [] name def is = none_def def is
first_named (d ∷ defs) name def is = by (bytes_eq d.name name) is (first_named defs name def)
  where
    later : ℕ
    later = position_or_len (λ (d : TableDef). bytes_eq d.name name) defs

    by : (b : Bool) → slice_get (d ∷ defs) (cond (not b) (1 + later) 0) ≡ Some def → (slice_get defs later ≡ Some def → schema_named (definitions_of defs) name ≡ Some def.schema)
        → (if b then Some d.schema else schema_named (definitions_of defs) name) ≡ Some def.schema
    by true got rest = ap (λ (x : TableDef). Some x.schema) (some_def d def got)
    by false got rest = rest (sym (ap (λ (n : ℕ). slice_get (d ∷ defs) n) (one_more later)) ∙ got)

place_by : (k all n : ℕ) (b : Bool) → nat_lt k all ≡ b → cond b (Some k) None ≡ Some n → k ≡ n
place_by k all n true less is = some_number k n is
place_by k all n false less is = none_number n is

schema_at : (defs : List TableDef) (name : List ℕ) (place : ℕ) (def : TableDef) → place_in defs name ≡ Some place → slice_get defs place ≡ Some def → schema_named (definitions_of defs) name ≡ Some def.schema
schema_at defs name place def named is =
    let first = position_or_len (λ (d : TableDef). bytes_eq d.name name) defs in
    first_named defs name def (ap (slice_get defs) (place_by first (length defs) place (nat_lt first (length defs)) refl named) ∙ is)

-- ---- a new table

false_true : {X : Type 0} → true ≡ false → X
false_true is = cc

no_name : (defs : List TableDef) (name : List ℕ) → is_table (definitions_of defs) name ≡ false → has_table defs name ≡ false
no_name [] name none = refl
no_name (def ∷ defs) name none = by (bytes_eq def.name name) none (no_name defs name)
  where
    by : (b : Bool) → is_some (if b then Some def.schema else schema_named (definitions_of defs) name) ≡ false → (is_table (definitions_of defs) name ≡ false → has_table defs name ≡ false) → (b || has_table defs name) ≡ false
    by true found later = false_true found
    by false none later = later none

-- ---- rows

put_rows : (schema : Schema) (rows : List Row) → AllByRecursion (IsNewRow schema) rows → AllByRecursion (IsPutRow schema) rows
put_rows schema [] all = tt
put_rows schema (row ∷ rows) all = (record { is_row = all.0.is_row; small = all.0.small }, put_rows schema rows all.1)

as_many : (defs : List TableDef) → length (definitions_of defs) ≡ length defs
as_many [] = refl
as_many (def ∷ defs) = ap suc (as_many defs)

-- ---- statements

pub suits : (defs : List TableDef) (place : Place) (text : List ℕ) (s : Statement) → s ≡ meaning (definitions_of defs) place text → AreKeyed defs → Suits defs s
suits defs place text (Create name schema) is keyed =
    let m = create_makes_table (definitions_of defs) place text name schema (sym is) in
    record { new = no_name defs name m.new; few = subst (λ (n : ℕ). n < 64) (as_many defs) m.few; name_is = m.name_is; columns = m.columns }
suits defs place text (Insert name rows) is keyed = λ at def named there.
    let p = insert_puts_rows (definitions_of defs) place text name rows (sym is) in
    let same : p.schema ≡ def.schema = some_schema p.schema def.schema (sym p.there ∙ schema_at defs name at def named there) in
    let key : has_key p.schema.columns ≡ true = ap (λ (x : Schema). has_key x.columns) same ∙ all_at (λ (d : TableDef). has_key d.schema.columns ≡ true) defs at def keyed there in
    subst (λ (x : Schema). AllByRecursion (IsPutRow x) rows) same (put_rows p.schema rows (p.each key))
suits defs place text (Select name columns w) is keyed = tt
suits defs place text (Update name sets w) is keyed = λ at def named there.
    let p = update_sets_rows (definitions_of defs) place text name sets w (sym is) in
    let same : p.schema ≡ def.schema = some_schema p.schema def.schema (sym p.there ∙ schema_at defs name at def named there) in
    subst (λ (x : Schema). SetsFit x sets) same p.rows
suits defs place text (Delete name w) is keyed = tt
suits defs place text Begin is keyed = tt
suits defs place text Commit is keyed = tt
suits defs place text Rollback is keyed = tt
suits defs place text (Refused refusal) is keyed = tt
