-- Each statement that is bound fits the tables.
use Rattle.std.proofs.Common.{◌≡◌, ℕ, zero, suc, ◌+◌, Bool, true, false, cond, not, ◌&&◌, ◌==◌, nat_le, nat_lt, List, [], ◌∷◌, length, take, Option, Some, None, Result, Ok, refl, sym, ap, subst, arith}
use Rattle.std.specs.List.{list_all}
use Rattle.std.specs.Str.{bytes_eq}
use Rattle.std.proofs.lemmas.Bool.{and_parts, and_from}
use Rattle.std.proofs.lemmas.Bool.Decides.{nat_tests}
use Rattle.isp_plain.specs.declared.statement.Assign.{Assign}
use Rattle.isp_plain.specs.declared.statement.Atom.{Atom}
use Rattle.isp_plain.specs.declared.statement.Condition.{Condition}
use Rattle.isp_plain.specs.declared.value.Column.{Column}
use Rattle.isp_plain.specs.declared.value.Kind.{Kind}
use Rattle.isp_plain.specs.declared.value.Kind.TheVariants as kind
use Rattle.isp_plain.specs.declared.value.Row.{Row}
use Rattle.isp_plain.specs.declared.value.Schema.{Schema}
use Rattle.isp_plain.specs.declared.value.Value.{Value}
use Rattle.isp_sql.specs.declared.parsed.Literal.{Literal}
use Rattle.isp_sql.specs.declared.parsed.Literal.TheVariants as literals
use Rattle.isp_sql.specs.declared.parsed.Parsed.{Parsed}
use Rattle.isp_sql.specs.declared.parsed.Parsed.TheVariants as parsed
use Rattle.isp_sql.specs.declared.parsed.ParsedAtom.{ParsedAtom}
use Rattle.isp_sql.specs.declared.parsed.ParsedAtom.TheVariants as written
use Rattle.isp_sql.specs.declared.parsed.ParsedColumn.{ParsedColumn}
use Rattle.isp_sql.specs.declared.parsed.ParsedSet.{ParsedSet}
use Rattle.isp_plain.specs.declared.refusal.Refusal.{Refusal}
use Rattle.isp_plain.specs.declared.refusal.Refusal.TheVariants.{NotAllowedHere, AlreadyBegun, TableExists, OutOfLimits, NoSuchTable, UnknownColumn, KeyCannotBeSet, ColumnCount, OutOfRange, TooLong, WrongType, RowTooLarge}
use Rattle.isp_plan.specs.Binding.{are_columns, are_counted, are_settable, atom_of, begins_again, checked, condition_of, create, delete, insert, is_allowed, is_geometry, is_key, is_other, is_small, is_table, meant, named, named_from, number_named, numbers_from, row_of, rows_of, schema_named, select, set_of, sets_of, shown, update, values_of}
use Rattle.isp_plan.specs.Creating.{column_limit, is_short, schema_of, table_limit}
use Rattle.isp_plan.specs.Fitting.{can_hold, can_meet, column_passes, fit_values, fits_atom, fits_set, fits_column, Fits, BoundFits}
use Rattle.isp_plan.specs.Literals.{compared, geometry_of, stored}
use Rattle.isp_plan.specs.Numbers.{number_of}
use Rattle.isp_plan.specs.Refusals.{ensure, known, each, stated}
use Rattle.isp_plan.proofs.BoundLaws.{carried, step, same}

-- ---- what checks leave behind

ensured : (r : Refusal) (b : Bool) (x : Unit {0}) → ensure r b ≡ Ok x → b ≡ true
ensured r true x is = refl
ensured r false x is = absurd cc

known_some : {X : Type 0} (r : Refusal) (o : Option X) (x : X) → known r o ≡ Ok x → o ≡ Some x
known_some r (Some y) x is = ap Some (same y x is)
known_some r None x is = absurd cc

absent : (b : Bool) → not b ≡ true → b ≡ false
absent true is = absurd cc
absent false is = refl

-- ---- columns by their names

-- a column of this number, counted from the first of these, has this kind
abbrev Found : ℕ → List Column → ℕ → Kind → Type 0
Found start columns n k = (i : ℕ) × (n ≡ start + i) × ((test : Kind → Bool) → test k ≡ true → column_passes test columns i ≡ true)

some_is : {A : Type 0} (x y : A) → ◌≡◌ {A = Option A} (Some x) (Some y) → x ≡ y
some_is x y e = cc

one_of : (start : ℕ) (column : Column) (columns : List Column) (found : Option (ℕ × Kind)) (n : ℕ) (k : Kind) (b : Bool)
    → (found ≡ Some (n, k) → Found (start + 1) columns n k) → cond b (Some (start, column.kind)) found ≡ Some (n, k) → Found start (column ∷ columns) n k
one_of start column columns found n k true later at =
    let pair : ◌≡◌ {A = ℕ × Kind} (start, column.kind) (n, k) = some_is (start, column.kind) (n, k) at in
    let first : start ≡ n = ap (λ q. q.0) pair in
    let kind : column.kind ≡ k = ap (λ q. q.1) pair in
    (0, omega arith, λ test passes. subst (λ k. test k ≡ true) (sym kind) passes)
one_of start column columns found n k false later at =
    let next = later at in
    (suc next.0, omega arith, next.2)

-- a column that is found among columns from a number on is there, and has the kind
found_from : (start : ℕ) (columns : List Column) (name : List ℕ) (n : ℕ) (k : Kind) → named_from start columns name ≡ Some (n, k) → Found start columns n k
found_from start [] name n k is = absurd cc
found_from start (column ∷ columns) name n k is =
    one_of start column columns (named_from (start + 1) columns name) n k (bytes_eq column.name name) (λ at. found_from (start + 1) columns name n k at) is

take_passes : (test : Kind → Bool) (most : ℕ) (columns : List Column) (i : ℕ) → column_passes test (take most columns) i ≡ true → column_passes test columns i ≡ true
take_passes test zero columns i is = absurd cc
take_passes test (suc most) [] i is = absurd cc
take_passes test (suc most) (column ∷ columns) zero is = is
take_passes test (suc most) (column ∷ columns) (suc i) is = take_passes test most columns i is

found : (columns : List Column) (name : List ℕ) (n : ℕ) (k : Kind) → named columns name ≡ Some (n, k)
    → (test : Kind → Bool) → test k ≡ true → column_passes test columns n ≡ true
found columns name n k is test passes =
    let at = found_from 0 (take column_limit columns) name n k is in
    let same_place : at.0 ≡ n = omega arith in
    subst (λ i. column_passes test columns i ≡ true) same_place (take_passes test column_limit columns at.0 (at.2 test passes))

-- a column that is not the key has another number
other_number : (columns : List Column) (name : List ℕ) (n : ℕ) (k : Kind) → named columns name ≡ Some (n, k) → not (is_key columns name) ≡ true → not (n == 0) ≡ true
other_number [] name n k is other = absurd cc
other_number (key ∷ columns) name n k is other = here (bytes_eq key.name name) is other
  where
    here : (b : Bool) → cond b (Some (0, key.kind)) (named_from 1 (take 15 columns) name) ≡ Some (n, k) → not b ≡ true → not (n == 0) ≡ true
    here true at none = absurd cc
    here false at none = let later = found_from 1 (take 15 columns) name n k at in grind (arith, nat_tests, later)

-- ---- values

stored_fits : (k : Kind) (l : Literal) (v : Value) → stored k l ≡ Ok v → can_hold k v ≡ true
stored_fits kind.BigInt (literals.Number minus d) v is =
    let got = step (known OutOfRange (number_of minus d)) _ v is in subst (λ v. can_hold kind.BigInt v ≡ true) (same _ v got.2) refl
stored_fits (kind.VarChar size) (literals.Text text) v is =
    let got = step (ensure TooLong (nat_le (length text) size)) _ v is in
    subst (λ v. can_hold (kind.VarChar size) v ≡ true) (same _ v got.2) (ensured TooLong (nat_le (length text) size) got.0 got.1)
stored_fits kind.Geo (literals.Wkt text) v is =
    let got = step (geometry_of text) _ v is in subst (λ v. can_hold kind.Geo v ≡ true) (same _ v got.2) refl
stored_fits kind.BigInt (literals.Text text) v is = absurd cc
stored_fits kind.BigInt (literals.Wkt text) v is = absurd cc
stored_fits (kind.VarChar size) (literals.Number minus d) v is = absurd cc
stored_fits (kind.VarChar size) (literals.Wkt text) v is = absurd cc
stored_fits kind.Geo (literals.Number minus d) v is = absurd cc
stored_fits kind.Geo (literals.Text text) v is = absurd cc

compared_fits : (k : Kind) (l : Literal) (v : Value) → compared k l ≡ Ok v → can_meet k v ≡ true
compared_fits kind.BigInt (literals.Number minus d) v is =
    let got = step (known OutOfRange (number_of minus d)) _ v is in subst (λ v. can_meet kind.BigInt v ≡ true) (same _ v got.2) refl
compared_fits (kind.VarChar size) (literals.Text text) v is = subst (λ v. can_meet (kind.VarChar size) v ≡ true) (same _ v is) refl
compared_fits kind.BigInt (literals.Text text) v is = absurd cc
compared_fits kind.BigInt (literals.Wkt text) v is = absurd cc
compared_fits (kind.VarChar size) (literals.Number minus d) v is = absurd cc
compared_fits (kind.VarChar size) (literals.Wkt text) v is = absurd cc
compared_fits kind.Geo l v is = absurd cc

-- ---- lists

each_fits : {A B : Type 0} (f : A → Result B Refusal) (p : A → Bool) (q : B → Bool) → ((x : A) (y : B) → f x ≡ Ok y → p x ≡ true → q y ≡ true)
    → (xs : List A) (ys : List B) → each f xs ≡ Ok ys → list_all p xs ≡ true → list_all q ys ≡ true
each_fits f p q h [] ys is all = subst (λ ys. list_all q ys ≡ true) (same [] ys is) refl
each_fits f p q h (x ∷ xs) ys is all =
    let one = step (f x) _ ys is in
    let others = step (each f xs) _ ys one.2 in
    let parts = and_parts (p x) (list_all p xs) all in
    subst (λ ys. list_all q ys ≡ true) (same (one.0 ∷ others.0) ys others.2)
    (and_from (q one.0) (list_all q others.0) (h x one.0 one.1 parts.0) (each_fits f p q h xs others.0 others.1 parts.1))

no_test : {A : Type 0} (xs : List A) → list_all (λ x. true) xs ≡ true
no_test [] = refl
no_test (x ∷ xs) = no_test xs

both : {A : Type 0} (p q : A → Bool) (xs : List A) → list_all p xs ≡ true → list_all q xs ≡ true → list_all (λ x. p x && q x) xs ≡ true
both p q [] first second = refl
both p q (x ∷ xs) first second =
    let a = and_parts (p x) (list_all p xs) first in
    let b = and_parts (q x) (list_all q xs) second in
    and_from (p x && q x) (list_all (λ x. p x && q x) xs) (and_from (p x) (q x) a.0 b.0) (both p q xs a.1 b.1)

-- ---- rows, new values, conditions, shown columns

values_fit : (columns : List Column) (literals : List Literal) (values : List Value) → values_of columns literals ≡ Ok values
    → (length literals == length columns) ≡ true → fit_values columns values ≡ true
values_fit [] [] values is counted = subst (λ vs. fit_values [] vs ≡ true) (same [] values is) refl
values_fit [] (literal ∷ literals) values is counted = absurd (grind (arith, nat_tests, counted))
values_fit (column ∷ columns) [] values is counted = absurd (grind (arith, nat_tests, counted))
values_fit (column ∷ columns) (literal ∷ literals) values is counted =
    let one = step (stored column.kind literal) _ values is in
    let others = step (values_of columns literals) _ values one.2 in
    let fewer : (length literals == length columns) ≡ true = grind (arith, nat_tests, counted) in
    subst (λ vs. fit_values (column ∷ columns) vs ≡ true) (same (one.0 ∷ others.0) values others.2)
    (and_from (can_hold column.kind one.0) (fit_values columns others.0) (stored_fits column.kind literal one.0 one.1) (values_fit columns literals others.0 others.1 fewer))

row_fits : (columns : List Column) (literals : List Literal) (row : Row) → row_of columns literals ≡ Ok row
    → (length literals == length columns) ≡ true → fit_values columns row.values ≡ true
row_fits columns literals row is counted =
    let got = step (values_of columns literals) _ row is in
    subst (λ r. fit_values columns r.values ≡ true) (same _ row got.2) (values_fit columns literals got.0 got.1 counted)

set_fits : (columns : List Column) (set : ParsedSet) (a : Assign) → set_of columns set ≡ Ok a → is_other columns set ≡ true → fits_set columns a ≡ true
set_fits columns set a is other =
    let column = step (known UnknownColumn (named columns set.column)) _ a is in
    let v = step (stored column.0.1 set.v) _ a column.2 in
    let there = known_some UnknownColumn (named columns set.column) column.0 column.1 in
    subst (λ a. fits_set columns a ≡ true) (same _ a v.2)
    (and_from (not (column.0.0 == 0)) (column_passes (λ k. can_hold k v.0) columns column.0.0)
    (other_number columns set.column column.0.0 column.0.1 there other)
    (found columns set.column column.0.0 column.0.1 there (λ k. can_hold k v.0) (stored_fits column.0.1 set.v v.0 v.1)))

atom_fits : (columns : List Column) (w : ParsedAtom) (a : Atom) → atom_of columns w ≡ Ok a → fits_atom columns a ≡ true
atom_fits columns (written.Cmp name op v) a is =
    let column = step (known UnknownColumn (named columns name)) _ a is in
    let got = step (compared column.0.1 v) _ a column.2 in
    let there = known_some UnknownColumn (named columns name) column.0 column.1 in
    subst (λ a. fits_atom columns a ≡ true) (same _ a got.2)
    (found columns name column.0.0 column.0.1 there (λ k. can_meet k got.0) (compared_fits column.0.1 v got.0 got.1))
atom_fits columns (written.Box name test text) a is =
    let column = step (known UnknownColumn (named columns name)) _ a is in
    let geo = step (ensure WrongType (is_geometry column.0.1)) _ a column.2 in
    let form = step (geometry_of text) _ a geo.2 in
    let there = known_some UnknownColumn (named columns name) column.0 column.1 in
    subst (λ a. fits_atom columns a ≡ true) (same _ a form.2)
    (found columns name column.0.0 column.0.1 there is_geometry (ensured WrongType (is_geometry column.0.1) geo.0 geo.1))

condition_fits : (columns : List Column) (w : List ParsedAtom) (c : Condition) → condition_of columns w ≡ Ok c → list_all (fits_atom columns) c.atoms ≡ true
condition_fits columns w c is =
    let got = step (each (λ a. atom_of columns a) w) _ c is in
    subst (λ c. list_all (fits_atom columns) c.atoms ≡ true) (same _ c got.2)
    (each_fits (λ a. atom_of columns a) (λ a. true) (fits_atom columns) (λ w a is _. atom_fits columns w a is) w got.0 got.1 (no_test w))

name_fits : (columns : List Column) (name : List ℕ) (n : ℕ) → number_named columns name ≡ Ok n → fits_column columns n ≡ true
name_fits columns name n is =
    let column = step (known UnknownColumn (named columns name)) _ n is in
    subst (λ n. fits_column columns n ≡ true) (same column.0.0 n column.2)
    (found columns name column.0.0 column.0.1 (known_some UnknownColumn (named columns name) column.0 column.1) (λ k. true) refl)

-- the columns behind the first ones are there
numbers_fit : (all : List Column) (start : ℕ) (columns : List Column) → ((i : ℕ) → fits_column columns i ≡ true → fits_column all (start + i) ≡ true)
    → list_all (fits_column all) (numbers_from start columns) ≡ true
numbers_fit all start [] h = refl
numbers_fit all start (column ∷ columns) h =
    let first : fits_column all start ≡ true = subst (λ i. fits_column all i ≡ true) (omega arith) (h 0 refl) in
    and_from (fits_column all start) (list_all (fits_column all) (numbers_from (start + 1) columns)) first
    (numbers_fit all (start + 1) columns (λ i fits. subst (λ i. fits_column all i ≡ true) (omega arith) (h (suc i) fits)))

shown_fits : (columns : List Column) (names : Option (List (List ℕ))) (numbers : List ℕ) → shown columns names ≡ Ok numbers → list_all (fits_column columns) numbers ≡ true
shown_fits columns None numbers is =
    subst (λ ns. list_all (fits_column columns) ns ≡ true) (same _ numbers is)
    (numbers_fit columns 0 (take column_limit columns) (λ i fits. subst (λ i. fits_column columns i ≡ true) (omega arith) (take_passes (λ k. true) column_limit columns i fits)))
shown_fits columns (Some names) numbers is =
    each_fits (λ name. number_named columns name) (λ name. true) (fits_column columns) (λ name n is _. name_fits columns name n is) names numbers is (no_test names)

-- ---- statements

module _ (tables : List (List ℕ × Schema)) where
  there : (name : List ℕ) (schema : Schema) → known NoSuchTable (schema_named tables name) ≡ Ok schema → schema_named tables name ≡ Some schema
  there name schema is = known_some NoSuchTable (schema_named tables name) schema is

  create_fits : (name key : List ℕ) (columns : List ParsedColumn) (indexes : List (List ℕ)) → Fits tables (stated (create tables name key columns indexes))
  unfolding create
  create_fits name key columns indexes =
      carried (Fits tables) (λ r. tt) (ensure TableExists (not (is_table tables name))) _ (λ fresh is.
      carried (Fits tables) (λ r. tt) (ensure OutOfLimits (nat_lt (length tables) table_limit)) _ (λ room _.
      carried (Fits tables) (λ r. tt) (ensure OutOfLimits (is_short name)) _ (λ short _.
      carried (Fits tables) (λ r. tt) (schema_of key columns indexes) _ (λ schema _. absent (is_table tables name) (ensured TableExists _ fresh is)))))

  insert_fits : (name : List ℕ) (rows : List (List Literal)) → Fits tables (stated (insert tables name rows))
  unfolding insert
  insert_fits name rows =
      carried (Fits tables) (λ r. tt) (known NoSuchTable (schema_named tables name)) _ (λ schema is.
      carried (Fits tables) (λ r. tt) (ensure ColumnCount (are_counted schema.columns rows)) _ (λ counted count_is.
      carried (Fits tables) (λ r. tt) (rows_of schema.columns rows) _ (λ bound rows_are.
      carried (Fits tables) (λ r. tt) (ensure RowTooLarge (list_all (is_small schema) bound)) _ (λ small small_is. (
        schema,
        there name schema is,
        both (λ row. fit_values schema.columns row.values) (is_small schema) bound
            (each_fits (λ row. row_of schema.columns row) (λ row. length row == length schema.columns) (λ row. fit_values schema.columns row.values) (row_fits schema.columns) rows bound rows_are (ensured ColumnCount _ counted count_is))
            (ensured RowTooLarge _ small small_is),
      )))))

  select_fits : (name : List ℕ) (names : Option (List (List ℕ))) (w : List ParsedAtom) → Fits tables (stated (select tables name names w))
  unfolding select
  select_fits name names w =
      carried (Fits tables) (λ r. tt) (known NoSuchTable (schema_named tables name)) _ (λ schema is.
      carried (Fits tables) (λ r. tt) (shown schema.columns names) _ (λ columns columns_are.
      carried (Fits tables) (λ r. tt) (ensure UnknownColumn (are_columns schema.columns w)) _ (λ all _.
      carried (Fits tables) (λ r. tt) (condition_of schema.columns w) _ (λ condition condition_is.
      (schema, there name schema is, (shown_fits schema.columns names columns columns_are, condition_fits schema.columns w condition condition_is))))))

  update_fits : (name : List ℕ) (sets : List ParsedSet) (w : List ParsedAtom) → Fits tables (stated (update tables name sets w))
  unfolding update
  update_fits name sets w =
      carried (Fits tables) (λ r. tt) (known NoSuchTable (schema_named tables name)) _ (λ schema is.
      carried (Fits tables) (λ r. tt) (ensure UnknownColumn (are_settable schema.columns sets)) _ (λ settable _.
      carried (Fits tables) (λ r. tt) (ensure UnknownColumn (are_columns schema.columns w)) _ (λ all _.
      carried (Fits tables) (λ r. tt) (ensure KeyCannotBeSet (list_all (is_other schema.columns) sets)) _ (λ others others_are.
      carried (Fits tables) (λ r. tt) (sets_of schema.columns sets) _ (λ bound sets_are.
      carried (Fits tables) (λ r. tt) (condition_of schema.columns w) _ (λ condition condition_is. (
        schema,
        there name schema is,
        (
          each_fits (λ set. set_of schema.columns set) (is_other schema.columns) (fits_set schema.columns) (set_fits schema.columns) sets bound sets_are (ensured KeyCannotBeSet _ others others_are),
          condition_fits schema.columns w condition condition_is,
        ),
      )))))))

  delete_fits : (name : List ℕ) (w : List ParsedAtom) → Fits tables (stated (delete tables name w))
  unfolding delete
  delete_fits name w =
      carried (Fits tables) (λ r. tt) (known NoSuchTable (schema_named tables name)) _ (λ schema is.
      carried (Fits tables) (λ r. tt) (ensure UnknownColumn (are_columns schema.columns w)) _ (λ all _.
      carried (Fits tables) (λ r. tt) (condition_of schema.columns w) _ (λ condition condition_is.
      (schema, there name schema is, condition_fits schema.columns w condition condition_is))))

  meant_fits : (p : Parsed) → Fits tables (stated (meant tables p))
  meant_fits (parsed.Create name key columns indexes) = create_fits name key columns indexes
  meant_fits (parsed.Insert name rows) = insert_fits name rows
  meant_fits (parsed.Select name columns w) = select_fits name columns w
  meant_fits (parsed.Update name sets w) = update_fits name sets w
  meant_fits (parsed.Delete name w) = delete_fits name w
  meant_fits parsed.Begin = tt
  meant_fits parsed.Commit = tt
  meant_fits parsed.Rollback = tt

pub bound_fits : BoundFits
unfolding checked
bound_fits tables p place =
    carried (Fits tables) (λ r. tt) (ensure NotAllowedHere (is_allowed place p)) _ (λ allowed _.
    carried (Fits tables) (λ r. tt) (ensure AlreadyBegun (not (begins_again place p))) _ (λ first _. meant_fits tables p))
