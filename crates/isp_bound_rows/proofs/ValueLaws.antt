-- Rows that fit their columns are rows of them, and stay so with new values that fit.
use Rattle.std.proofs.Common.{◌≡◌, ℕ, zero, suc, ◌≤◌, ℤ, true, false, not, ◌==◌, nat_le, List, [], ◌∷◌, length, refl, arith}
use Rattle.std.specs.Prelude.{slice_get, slice_set}
use Rattle.std.specs.List.{AllByRecursion, fold, list_all}
use Rattle.std.proofs.lemmas.Bool.{and_from, and_parts}
use Rattle.std.proofs.lemmas.Bool.Decides.{nat_tests}
use Rattle.isp_plain.specs.declared.statement.Assign.{Assign}
use Rattle.isp_plain.specs.declared.value.Column.{Column}
use Rattle.isp_plain.specs.declared.value.Kind.{Kind}
use Rattle.isp_plain.specs.declared.value.Kind.TheVariants as kind
use Rattle.isp_plain.specs.declared.value.Row.{Row}
use Rattle.isp_plain.specs.declared.value.Schema.{Schema}
use Rattle.isp_plain.specs.declared.value.Value.{Value}
use Rattle.isp_plain.specs.declared.value.Value.TheVariants as value
use Rattle.isp_plain.specs.Does.{with_set}
use Rattle.isp_plain.specs.Lined.{are_lined_rows, is_lined_row, is_lined_value}
use Rattle.isp_plain.specs.RowBytes.{row_bytes, row_limit}
use Rattle.isp_plain.specs.Values.{first_number}
use Rattle.isp_plan.specs.Binding.{is_small}
use Rattle.isp_plan.specs.Fitting.{can_hold, column_passes, fit_values, fits_row, fits_set, kind_passes}
use Rattle.isp_row.specs.RowSpelling.{AreValuesOf, IsRowOf, IsValueOf, StartsWith}
use Rattle.isp_catalog.specs.Limits.{has_key, is_number}
use Rattle.isp_bound_rows.specs.Bound.{IsNewRow}

-- ---- values of columns

at_most : (a b : ℕ) → nat_le a b ≡ true → a ≤ b
at_most a b is = grind (arith, nat_tests, is)

value_of : (k : Kind) (v : Value) → can_hold k v ≡ true → IsValueOf k v
value_of kind.BigInt (value.Int n) is = tt
value_of kind.BigInt (value.Text text) is = absurd cc
value_of kind.BigInt (value.Geo form) is = absurd cc
value_of (kind.VarChar size) (value.Int n) is = absurd cc
value_of (kind.VarChar size) (value.Text text) is = at_most (length text) size is
value_of (kind.VarChar size) (value.Geo form) is = absurd cc
value_of kind.Geo (value.Int n) is = absurd cc
value_of kind.Geo (value.Text text) is = absurd cc
value_of kind.Geo (value.Geo form) is = tt

values_of : (columns : List Column) (values : List Value) → fit_values columns values ≡ true → AreValuesOf columns values
values_of [] [] fit = tt
values_of [] (v ∷ values) fit = absurd cc
values_of (column ∷ columns) [] fit = absurd cc
values_of (column ∷ columns) (v ∷ values) fit =
    let parts = and_parts (can_hold column.kind v) (fit_values columns values) fit in
    (value_of column.kind v parts.0, values_of columns values parts.1)

number_first : (k : Kind) (v : Value) (values : List Value) → is_number k ≡ true → can_hold k v ≡ true → StartsWith (first_number (v ∷ values)) (v ∷ values)
number_first kind.BigInt (value.Int n) values keyed is = refl
number_first kind.BigInt (value.Text text) values keyed is = absurd cc
number_first kind.BigInt (value.Geo form) values keyed is = absurd cc
number_first (kind.VarChar size) v values keyed is = absurd cc
number_first kind.Geo v values keyed is = absurd cc

starts_of : (columns : List Column) (values : List Value) → has_key columns ≡ true → fit_values columns values ≡ true → StartsWith (first_number values) values
starts_of [] values keyed fit = absurd cc
starts_of (column ∷ columns) [] keyed fit = absurd cc
starts_of (column ∷ columns) (v ∷ values) keyed fit = number_first column.kind v values keyed (and_parts (can_hold column.kind v) (fit_values columns values) fit).0

new_row : (schema : Schema) (row : Row) → has_key schema.columns ≡ true → fits_row schema row ≡ true → is_lined_row row ≡ true → IsNewRow schema row
new_row schema row keyed fits lined =
    let parts = and_parts (fit_values schema.columns row.values) (is_small schema row) fits in
    record {
      is_row = record { values = values_of schema.columns row.values parts.0; first = starts_of schema.columns row.values keyed parts.0 };
      small = at_most (row_bytes schema row) row_limit parts.1;
      lined = lined;
    }

pub new_rows : (schema : Schema) (rows : List Row) → has_key schema.columns ≡ true → list_all (fits_row schema) rows ≡ true → are_lined_rows rows ≡ true → AllByRecursion (IsNewRow schema) rows
new_rows schema [] keyed fit lined = tt
new_rows schema (row ∷ rows) keyed fit lined =
    let fits = and_parts (fits_row schema row) (list_all (fits_row schema) rows) fit in
    let lines = and_parts (is_lined_row row) (are_lined_rows rows) lined in
    (new_row schema row keyed fits.0 lines.0, new_rows schema rows keyed fits.1 lines.1)

-- ---- new values

values_set : (columns : List Column) (values : List Value) (n : ℕ) (v : Value) → kind_passes (λ k. can_hold k v) (slice_get columns n) ≡ true → AreValuesOf columns values → AreValuesOf columns (slice_set values n v)
values_set [] [] n v fits are = tt
values_set [] (w ∷ values) n v fits are = absurd are
values_set (column ∷ columns) [] n v fits are = absurd are
values_set (column ∷ columns) (w ∷ values) zero v fits are = (value_of column.kind v fits, are.1)
values_set (column ∷ columns) (w ∷ values) (suc n) v fits are = (are.0, values_set columns values n v fits are.1)

starts_set : (key : ℤ) (values : List Value) (n : ℕ) (v : Value) → not (n == 0) ≡ true → StartsWith key values → StartsWith key (slice_set values n v)
starts_set key [] n v other is = absurd is
starts_set key (value.Int number ∷ values) zero v other is = absurd (let bad : false ≡ true = other in let no_way : ⊥ = cc in no_way)
starts_set key (value.Int number ∷ values) (suc n) v other is = is
starts_set key (value.Text text ∷ values) n v other is = absurd is
starts_set key (value.Geo form ∷ values) n v other is = absurd is

lined_set : (values : List Value) (n : ℕ) (v : Value) → list_all is_lined_value values ≡ true → is_lined_value v ≡ true → list_all is_lined_value (slice_set values n v) ≡ true
lined_set [] n v all is = refl
lined_set (w ∷ values) zero v all is = and_from (is_lined_value v) (list_all is_lined_value values) is (and_parts (is_lined_value w) (list_all is_lined_value values) all).1
lined_set (w ∷ values) (suc n) v all is =
    let parts = and_parts (is_lined_value w) (list_all is_lined_value values) all in
    and_from (is_lined_value w) (list_all is_lined_value (slice_set values n v)) parts.0 (lined_set values n v parts.1 is)

pub sets_keep : (schema : Schema) (key : ℤ) (sets : List Assign) (values : List Value) → list_all (fits_set schema.columns) sets ≡ true → AreValuesOf schema.columns values → StartsWith key values
    → IsRowOf schema key (record { values = fold with_set values sets })
sets_keep schema key [] values fit are starts = record { values = are; first = starts }
sets_keep schema key (set ∷ sets) values fit are starts =
    let fits = and_parts (fits_set schema.columns set) (list_all (fits_set schema.columns) sets) fit in
    let parts = and_parts (not (set.column == 0)) (column_passes (λ k. can_hold k set.v) schema.columns set.column) fits.0 in
    sets_keep schema key sets (with_set values set) fits.1 (values_set schema.columns values set.column set.v parts.1 are) (starts_set key values set.column set.v parts.0 starts)

pub sets_lined : (sets : List Assign) (values : List Value) → list_all (λ (set : Assign). is_lined_value set.v) sets ≡ true → list_all is_lined_value values ≡ true → list_all is_lined_value (fold with_set values sets) ≡ true
sets_lined [] values new all = all
sets_lined (set ∷ sets) values new all =
    let parts = and_parts (is_lined_value set.v) (list_all (λ (s : Assign). is_lined_value s.v) sets) new in
    sets_lined sets (with_set values set) parts.1 (lined_set values set.column set.v all parts.0)
