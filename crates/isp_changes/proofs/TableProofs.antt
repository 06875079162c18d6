-- Tables by place and key.
use Rattle.std.proofs.Common.{◌≡◌, ℕ, zero, suc, ℤ, Bool, true, false, cond, ◌==◌, ◌&&◌, List, [], ◌∷◌, refl, ap, ◌∙◌, sym, map, slice_get, is_some, Some, None, Option, arith}
use Rattle.std.specs.Prelude.{slice_set}
use Rattle.std.specs.Option.{option_and_then}
use Rattle.std.specs.Ordering.{int_eq}
use Rattle.std.proofs.lemmas.Bool.Decides.{nat_tests}
use Rattle.isp_plain.specs.declared.value.Row.{Row}
use Rattle.isp_plain.specs.declared.value.Schema.{Schema}
use Rattle.isp_plain.specs.Tables.{Table, definition_of}
use Rattle.isp_changes.specs.Rows.{AreRisingTables, row_at}
use Rattle.isp_changes.specs.Changes.{RowChange, after_change, changed_table, row_in, with_changed}
use Rattle.isp_changes.specs.TableLaws.{ChangeInTables, IsInTables, SameTables, is_changed}
use Rattle.isp_changes.proofs.RowProofs.{rows_with_new, same_rows}
use Rattle.isp_changes.proofs.ChangeProofs.{change_rises, get_set, rising_get}

one_less : (n m : ℕ) → (suc n == suc m) ≡ false → (n == m) ≡ false
one_less n m is = grind (arith, nat_tests)

get_other : (tables : List Table) (place other : ℕ) (new : Table) → (other == place) ≡ false → slice_get (slice_set tables place new) other ≡ slice_get tables other
get_other [] place other new is = refl
get_other (t ∷ tables) zero zero new is = cc
get_other (t ∷ tables) zero (suc other) new is = refl
get_other (t ∷ tables) (suc place) zero new is = refl
get_other (t ∷ tables) (suc place) (suc other) new is = get_other tables place other new (one_less other place is)

some_is : (x y : Table) → Some x ≡ Some y → x ≡ y
some_is x y is = cc

definitions_set : (tables : List Table) (place : ℕ) (table new : Table) → slice_get tables place ≡ Some table → definition_of new ≡ definition_of table →
    map definition_of (slice_set tables place new) ≡ map definition_of tables
definitions_set [] place table new is same = refl
definitions_set (t ∷ tables) zero table new is same = ap (λ d. d ∷ map definition_of tables) (same ∙ ap definition_of (sym (some_is t table is)))
definitions_set (t ∷ tables) (suc place) table new is same = ap (λ ds. definition_of t ∷ ds) (definitions_set tables place table new is same)

abbrev row_of : Option Table → ℤ → Option Row
row_of found key = option_and_then (λ (table : Table). row_at table.rows key) found

module _ (tables : List Table) (change : RowChange) (rise : AreRisingTables tables) where
  definitions_stay : (found : Option Table) → slice_get tables change.table ≡ found → map definition_of (with_changed tables change found) ≡ map definition_of tables
  definitions_stay None is = refl
  definitions_stay (Some table) is = definitions_set tables change.table table (changed_table change table) is refl

  -- at the place of the change
  here : (found : Option Table) (key : ℤ) → slice_get tables change.table ≡ found →
      row_in (with_changed tables change found) change.table key ≡ cond (int_eq key change.key && is_some found) change.new (row_of found key)
  here None key is = ap (λ found. row_of found key) is ∙ none (int_eq key change.key)
    where
      none : (b : Bool) → None ≡ cond (b && false) change.new None
      none true = refl
      none false = refl
  here (Some table) key is =
      ap (λ found. row_of found key) (get_set tables change.table table (changed_table change table) is)
      ∙ ((rows_with_new table.rows change.key change.new (rising_get tables change.table table rise is)).each key ∙ some (int_eq key change.key))
    where
      some : (b : Bool) → cond b change.new (row_at table.rows key) ≡ cond (b && true) change.new (row_at table.rows key)
      some true = refl
      some false = refl

  elsewhere : (found : Option Table) (place : ℕ) (key : ℤ) → (place == change.table) ≡ false → row_in (with_changed tables change found) place key ≡ row_in tables place key
  elsewhere None place key other = refl
  elsewhere (Some table) place key other = ap (λ found. row_of found key) (get_other tables change.table place (changed_table change table) other)

  same_place : (place : ℕ) → (place == change.table) ≡ true → place ≡ change.table
  same_place place is = grind (arith, nat_tests)

  at_place : (b : Bool) (place : ℕ) (key : ℤ) → (place == change.table) ≡ b →
      row_in (after_change tables change) place key ≡ cond (b && int_eq key change.key && is_some (slice_get tables place)) change.new (row_in tables place key)
  at_place true place key is =
      let same = same_place place is in
      ap (λ p. row_in (after_change tables change) p key) same
      ∙ (here (slice_get tables change.table) key refl
      ∙ ap (λ p. cond (int_eq key change.key && is_some (slice_get tables p)) change.new (row_in tables p key)) (sym same))
  at_place false place key is = elsewhere (slice_get tables change.table) place key is

  in_tables : IsInTables tables change (after_change tables change)
  in_tables = record {
    definitions = definitions_stay (slice_get tables change.table) refl;
    rises = change_rises tables change rise;
    each = λ place key. at_place (place == change.table) place key refl;
  }

pub change_in_tables : ChangeInTables
change_in_tables tables change rise = in_tables tables change rise

table_is : (name other : List ℕ) (schema next : Schema) (rows more : List (ℤ × Row)) → ◌≡◌ {A = List ℕ × Schema} (name, schema) (other, next) → rows ≡ more →
    (let t : Table = record { name = name; schema = schema; rows = rows } in t) ≡ record { name = other; schema = next; rows = more }
table_is name other schema next rows more definition same i = record { name = (definition i).0; schema = (definition i).1; rows = same i }

pub same_tables : SameTables
same_tables [] [] rise others_rise definitions h = refl
same_tables [] (u ∷ others) rise others_rise definitions h = cc
same_tables (t ∷ tables) [] rise others_rise definitions h = cc
same_tables (t ∷ tables) (u ∷ others) rise others_rise definitions h =
    let first : definition_of t ≡ definition_of u = cc in
    let later : map definition_of tables ≡ map definition_of others = cc in
    let here : t ≡ u = table_is t.name u.name t.schema u.schema t.rows u.rows first (same_rows t.rows u.rows rise.0 others_rise.0 (h 0)) in
    let rest = same_tables tables others rise.1 others_rise.1 later (λ place key. h (suc place) key) in
    ap (λ x. x ∷ tables) here ∙ ap (λ ts. u ∷ ts) rest
