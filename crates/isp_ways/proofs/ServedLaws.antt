-- The whole language can be served.
use Rattle.std.proofs.Common.{◌≡◌, ◌⊎◌, ◌∙◌, inl, inr, refl, sym, ap, subst, ℕ, zero, suc, ◌+◌, ◌<◌, ◌==◌, ◌&&◌, ◌||◌, Bool, true, false, not, cond, is_some, List, [], ◌∷◌, length, map, Option, Some, None, Result, Ok, Err, slice_get, arith, eqb-true}
use Rattle.std.specs.Prelude.{All, IsNone, if◌then◌else◌, nat_lt, nat_le}
use Rattle.std.specs.List.{AllByRecursion, list_all, list_any, prefix_len}
use Rattle.std.specs.Str.{bytes_eq}
use Rattle.std.proofs.lemmas.Bool.{false≢true, and_parts, or_cases}
use Rattle.std.proofs.lemmas.Bool.Decides.{nat_tests}
use Rattle.std.proofs.lemmas.List.Elements.{All-cons, All-nil, recursion_from_All}
use Rattle.std.proofs.lemmas.Slice.Eq.{bytes_eq-Decides}
use Rattle.isp_plain.specs.declared.refusal.Refusal.{Refusal}
use Rattle.isp_plain.specs.declared.refusal.Refusal.TheVariants.{AlreadyBegun, ColumnCount, KeyCannotBeSet, NotAllowedHere, NoSuchTable, OutOfLimits, RowTooLarge, TableExists, UnknownColumn}
use Rattle.isp_plain.specs.declared.statement.Assign.{Assign}
use Rattle.isp_plain.specs.declared.statement.Condition.{Condition}
use Rattle.isp_plain.specs.declared.statement.Statement.{Statement}
use Rattle.isp_plain.specs.declared.statement.Statement.TheVariants as statement
use Rattle.isp_plain.specs.declared.value.Column.{Column}
use Rattle.isp_plain.specs.declared.value.Kind.{Kind}
use Rattle.isp_plain.specs.declared.value.Kind.TheVariants as kind
use Rattle.isp_plain.specs.declared.value.Row.{Row}
use Rattle.isp_plain.specs.declared.value.Schema.{Schema}
use Rattle.isp_plain.specs.declared.value.Value.{Value}
use Rattle.isp_plain.specs.declared.value.Value.TheVariants.{Int, Text, Geo}
use Rattle.isp_plain.specs.Does.{place_of, table_at, table_named}
use Rattle.isp_plain.specs.Tables.{Table, definition_of}
use Rattle.isp_serial.specs.declared.script.Place.{Place}
use Rattle.isp_serial.specs.declared.script.Place.TheVariants as place
use Rattle.isp_sql.specs.declared.parsed.Literal.{Literal}
use Rattle.isp_sql.specs.declared.parsed.Parsed.{Parsed}
use Rattle.isp_sql.specs.declared.parsed.Parsed.TheVariants as parsed
use Rattle.isp_sql.specs.declared.parsed.ParsedAtom.{ParsedAtom}
use Rattle.isp_sql.specs.declared.parsed.ParsedColumn.{ParsedColumn}
use Rattle.isp_sql.specs.declared.parsed.ParsedKind.{ParsedKind}
use Rattle.isp_sql.specs.declared.parsed.ParsedKind.TheVariants as read
use Rattle.isp_sql.specs.declared.parsed.ParsedSet.{ParsedSet}
use Rattle.isp_sql.specs.Reading.{parsed_of}
use Rattle.isp_plan.specs.Binding.{are_columns, are_counted, are_settable, begins_again, bound, checked, condition_of, create, delete, insert, is_allowed, is_other, is_small, is_table, meant, rows_of, schema_named, select, sets_of, shown, update}
use Rattle.isp_plan.specs.Creating.{are_distinct, are_indexes, are_short, column_limit, column_of, has_column, has_geo, has_name, index_limit, is_geo, is_geo_named, is_index, is_short, key_column, keyed, kind_of, schema_of, table_limit, varchar}
use Rattle.isp_plan.specs.Fitting.{Fits, OfTable, can_hold, column_passes, fit_values, fits_row, fits_set, kind_passes}
use Rattle.isp_plan.specs.Meaning.{definitions, meaning, meaning_in, whole}
use Rattle.isp_plan.specs.Numbers.{value_of}
use Rattle.isp_plan.specs.Refusals.{◌>>=◌, each, ensure, known, stated}
use Rattle.isp_plan.proofs.FitLaws.{bound_fits}
use Rattle.isp_events.specs.Ways.{AreDefinitions, CanServe, IsDefinition, IsSettable, IsStorable, IsThere, begins_with_number, is_geometry, is_indexed, is_indexed_column}
use Rattle.isp_ways.specs.Ways.{LanguageIsServable}

some_is : {X : Type 0} (x y : X) → Some x ≡ Some y → x ≡ y
some_is x y h = cc

none_some : {X : Type 0} (x : X) → None ≡ Some x → ⊥
none_some x h = cc

ok_is : {X : Type 0} (x y : X) → ◌≡◌ {A = Result X Refusal} (Ok x) (Ok y) → x ≡ y
ok_is x y h = cc

err_ok : {X : Type 0} (r : Refusal) (x : X) → ◌≡◌ {A = Result X Refusal} (Err r) (Ok x) → ⊥
err_ok r x h = cc

-- ---- chains

carried : {X : Type 0} (P : Statement → Type 0) → ((r : Refusal) → P (statement.Refused r)) → (c : Result X Refusal) (f : X → Result Statement Refusal)
    → ((x : X) → c ≡ Ok x → P (stated (f x))) → P (stated (c >>= f))
carried P refusals (Ok x) f h = h x refl
carried P refusals (Err r) f h = refusals r

bind_ok : {A B : Type 0} (c : Result A Refusal) (f : A → Result B Refusal) (y : B) → (c >>= f) ≡ Ok y → (x : A) × (c ≡ Ok x) × (f x ≡ Ok y)
bind_ok (Ok x) f y h = (x, refl, h)
bind_ok (Err r) f y h = absurd (err_ok r y h)

ensured : (r : Refusal) (b : Bool) (x : Unit {0}) → ensure r b ≡ Ok x → b ≡ true
ensured r true x h = refl
ensured r false x h = absurd (err_ok r x h)

-- ---- the table of a name

-- the table that is found by its definition is found by its name
found_from : (tables : List Table) (name : List ℕ) (schema : Schema) → schema_named (definitions tables) name ≡ Some schema
    → (table : Table) × (slice_get tables (prefix_len (λ (t : Table). not (bytes_eq t.name name)) tables) ≡ Some table) × (table.schema ≡ schema)
    × (prefix_len (λ (t : Table). not (bytes_eq t.name name)) tables < length tables)
found_from [] name schema h = absurd (none_some schema h)
found_from (t ∷ tables) name schema h = by_test (bytes_eq t.name name) (found_from tables name schema) h
  where
    by_test : (b : Bool)
        → (schema_named (definitions tables) name ≡ Some schema
        → (table : Table) × (slice_get tables (prefix_len (λ (x : Table). not (bytes_eq x.name name)) tables) ≡ Some table) × (table.schema ≡ schema)
        × (prefix_len (λ (x : Table). not (bytes_eq x.name name)) tables < length tables))
        → (if b then Some t.schema else schema_named (definitions tables) name) ≡ Some schema
        → (table : Table) × (slice_get (t ∷ tables) (cond (not b) (1 + prefix_len (λ (x : Table). not (bytes_eq x.name name)) tables) 0) ≡ Some table) × (table.schema ≡ schema)
        × (cond (not b) (1 + prefix_len (λ (x : Table). not (bytes_eq x.name name)) tables) 0 < length (t ∷ tables))
    by_test true again k = (t, refl, some_is t.schema schema k, omega arith)
    by_test false again k =
        let r = again k in
        let lt : prefix_len (λ (x : Table). not (bytes_eq x.name name)) tables < length tables = r.3 in
        let one : 1 + prefix_len (λ (x : Table). not (bytes_eq x.name name)) tables ≡ suc (prefix_len (λ (x : Table). not (bytes_eq x.name name)) tables) = omega arith in
        (r.0, ap (slice_get (t ∷ tables)) one ∙ r.1, r.2, omega (arith, lt))

named : (tables : List Table) (name : List ℕ) (schema : Schema) → schema_named (definitions tables) name ≡ Some schema → (table : Table) × (table_named tables name ≡ Some table) × (table.schema ≡ schema)
named tables name schema h =
    let f = found_from tables name schema h in
    (f.0, ap (table_at tables) (ap (λ b. cond b (Some (prefix_len (λ (t : Table). not (bytes_eq t.name name)) tables)) None) (below _ _ f.3)) ∙ f.1, f.2)
  where
    below : (a b : ℕ) → a < b → nat_lt a b ≡ true
    below a b lt = grind (arith, nat_tests)

-- and one that isn't has no place
not_found : (tables : List Table) (name : List ℕ) → schema_named (definitions tables) name ≡ None → prefix_len (λ (t : Table). not (bytes_eq t.name name)) tables ≡ length tables
not_found [] name h = refl
not_found (t ∷ tables) name h = by_test (bytes_eq t.name name) (not_found tables name) h
  where
    by_test : (b : Bool) → (schema_named (definitions tables) name ≡ None → prefix_len (λ (x : Table). not (bytes_eq x.name name)) tables ≡ length tables)
        → (if b then Some t.schema else schema_named (definitions tables) name) ≡ None
        → cond (not b) (1 + prefix_len (λ (x : Table). not (bytes_eq x.name name)) tables) 0 ≡ length (t ∷ tables)
    by_test true again k = absurd (none_some t.schema (sym k))
    by_test false again k = let r : prefix_len (λ (x : Table). not (bytes_eq x.name name)) tables ≡ length tables = again k in omega (arith, r)

no_place : (tables : List Table) (name : List ℕ) → is_table (definitions tables) name ≡ false → place_of tables name ≡ None
no_place tables name h =
    let at : prefix_len (λ (t : Table). not (bytes_eq t.name name)) tables ≡ length tables = not_found tables name (none_is (schema_named (definitions tables) name) h) in
    ap (λ b. cond b (Some (prefix_len (λ (t : Table). not (bytes_eq t.name name)) tables)) None) (past (prefix_len (λ (t : Table). not (bytes_eq t.name name)) tables) (length tables) at)
  where
    none_is : (o : Option Schema) → is_some o ≡ false → o ≡ None
    none_is None e = refl
    none_is (Some x) e = absurd (false≢true (sym e))

    past : (a b : ℕ) → a ≡ b → nat_lt a b ≡ false
    past a b e = grind (arith, nat_tests)

-- ---- values

all_at : (P : Table → Type 0) (tables : List Table) → AllByRecursion P tables → (place : ℕ) (table : Table) → slice_get tables place ≡ Some table → P table
all_at P [] all place table h = absurd (none_some table h)
all_at P (t ∷ tables) all zero table h = subst P (some_is t table h) all.0
all_at P (t ∷ tables) all (suc place) table h = all_at P tables all.1 place table h

definition_at : (tables : List Table) (name : List ℕ) (table : Table) → AreDefinitions tables → table_named tables name ≡ Some table → IsDefinition table.schema
definition_at tables name table all h = by_place (place_of tables name) h
  where
    by_place : (p : Option ℕ) → table_at tables p ≡ Some table → IsDefinition table.schema
    by_place None e = absurd (none_some table e)
    by_place (Some place) e = all_at (λ (t : Table). IsDefinition t.schema) tables (recursion_from_All (λ (t : Table). IsDefinition t.schema) tables all) place table e

key_holds : (k : Kind) (v : Value) (others : List Value) → k ≡ kind.BigInt → can_hold k v ≡ true → begins_with_number (v ∷ others) ≡ true
key_holds kind.BigInt (Int n) others is h = refl
key_holds kind.BigInt (Text t) others is h = absurd (false≢true h)
key_holds kind.BigInt (Geo form) others is h = absurd (false≢true h)
key_holds (kind.VarChar size) v others is h = let no : ⊥ = cc in absurd no
key_holds kind.Geo v others is h = let no : ⊥ = cc in absurd no

geo_holds : (k : Kind) (v : Value) → k ≡ kind.Geo → can_hold k v ≡ true → is_geometry (Some v) ≡ true
geo_holds kind.Geo (Geo form) is h = refl
geo_holds kind.Geo (Int n) is h = absurd (false≢true h)
geo_holds kind.Geo (Text t) is h = absurd (false≢true h)
geo_holds kind.BigInt v is h = let no : ⊥ = cc in absurd no
geo_holds (kind.VarChar size) v is h = let no : ⊥ = cc in absurd no

-- a column of a row that fits has a value that it can hold
value_at : (columns : List Column) (values : List Value) → fit_values columns values ≡ true → (n : ℕ) (column : Column) → slice_get columns n ≡ Some column
    → (v : Value) × (slice_get values n ≡ Some v) × (can_hold column.kind v ≡ true)
value_at [] values h n column is = absurd (none_some column is)
value_at (c ∷ columns) [] h n column is = absurd (false≢true h)
value_at (c ∷ columns) (v ∷ values) h zero column is =
    (v, refl, ap (λ (x : Column). can_hold x.kind v) (sym (some_is c column is)) ∙ (and_parts (can_hold c.kind v) (fit_values columns values) h).0)
value_at (c ∷ columns) (v ∷ values) h (suc n) column is = value_at columns values (and_parts (can_hold c.kind v) (fit_values columns values) h).1 n column is

begins : (values : List Value) (v : Value) → slice_get values 0 ≡ Some v → (others : List Value) × (values ≡ v ∷ others)
begins [] v h = absurd (none_some v h)
begins (x ∷ values) v h = (values, ap (λ y. y ∷ values) (some_is x v h))

-- the column that has a tree is one of geometries
indexed_column : (schema : Schema) → IsDefinition schema → (n : ℕ) → is_indexed schema n ≡ true → (column : Column) × (slice_get schema.columns n ≡ Some column) × (column.kind ≡ kind.Geo)
indexed_column schema d n h = by_column (slice_get schema.columns n) refl h
  where
    by_column : (o : Option Column) → slice_get schema.columns n ≡ o → is_indexed_column o ≡ true → (column : Column) × (slice_get schema.columns n ≡ Some column) × (column.kind ≡ kind.Geo)
    by_column None e k = absurd (false≢true k)
    by_column (Some column) e k = (column, e, d.trees n column e k)

storable : (schema : Schema) → IsDefinition schema → (row : Row) → fits_row schema row ≡ true → IsStorable schema row
storable schema d row h =
    let fits : fit_values schema.columns row.values ≡ true = (and_parts (fit_values schema.columns row.values) _ h).0 in
    record {
      key = (let v = value_at schema.columns row.values fits 0 d.first d.there in
          let b = begins row.values v.0 v.1 in
          ap begins_with_number b.1 ∙ key_holds d.first.kind v.0 b.0 d.key v.2);
      geometries = λ column is. (let c = indexed_column schema d column is in
          let v = value_at schema.columns row.values fits column c.0 c.1 in
          ap is_geometry v.1 ∙ geo_holds c.0.kind v.0 c.2 v.2);
    }

settable : (schema : Schema) → IsDefinition schema → (set : Assign) → fits_set schema.columns set ≡ true → IsSettable schema set
settable schema d set h =
    let parts = and_parts (not (set.column == 0)) (column_passes (λ k. can_hold k set.v) schema.columns set.column) h in
    record {
      not_key = not_true (set.column == 0) parts.0;
      geometry = λ is. (let c = indexed_column schema d set.column is in
          geo_holds c.0.kind set.v c.2 (sym (ap (kind_passes (λ k. can_hold k set.v)) c.1) ∙ parts.1));
    }
  where
    not_true : (b : Bool) → not b ≡ true → b ≡ false
    not_true true e = absurd (false≢true e)
    not_true false e = refl

all_of : {X : Type 0} (P : X → Type 0) (test : X → Bool) → ((x : X) → test x ≡ true → P x) → (xs : List X) → list_all test xs ≡ true → All P xs
all_of P test h [] e = All-nil P
all_of P test h (x ∷ xs) e = (let parts = and_parts (test x) (list_all test xs) e in All-cons P x xs (h x parts.0) (all_of P test h xs parts.1))

-- a statement that fits the tables, and isn't CREATE, can be served
serves : (tables : List Table) (at : Place) (st : Statement) → AreDefinitions tables → Fits (definitions tables) st
    → ((name : List ℕ) (schema : Schema) → st ≡ statement.Create name schema → (at ≡ place.Setup) × IsDefinition schema) → CanServe tables at st
serves tables at (statement.Create name schema) all fits made =
    (let c = made name schema refl in (c.0, subst (λ (o : Option ℕ). IsNone o) (sym (no_place tables name fits)) refl, c.1))
serves tables at (statement.Insert name rows) all fits made =
    (let t = named tables name fits.0 fits.1 in
    let d : IsDefinition t.0.schema = definition_at tables name t.0 all t.1 in
    (t.0, t.1, all_of (IsStorable t.0.schema) (fits_row t.0.schema) (storable t.0.schema d) rows (ap (λ (x : Schema). list_all (fits_row x) rows) t.2 ∙ fits.2)))
serves tables at (statement.Select name columns w) all fits made = (let t = named tables name fits.0 fits.1 in (t.0, t.1, tt))
serves tables at (statement.Update name sets w) all fits made =
    (let t = named tables name fits.0 fits.1 in
    let d : IsDefinition t.0.schema = definition_at tables name t.0 all t.1 in
    (t.0, t.1, all_of (IsSettable t.0.schema) (fits_set t.0.schema.columns) (settable t.0.schema d) sets (ap (λ (x : Schema). list_all (fits_set x.columns) sets) t.2 ∙ fits.2.0)))
serves tables at (statement.Delete name w) all fits made = (let t = named tables name fits.0 fits.1 in (t.0, t.1, tt))
serves tables at statement.Begin all fits made = tt
serves tables at statement.Commit all fits made = tt
serves tables at statement.Rollback all fits made = tt
serves tables at (statement.Refused refusal) all fits made = tt

-- ---- CREATE

-- a column with an index is one of geometries: its name is that of such a one, and no other has it
kind_geo : (k : ParsedKind) (kind' : Kind) → is_geo k ≡ true → kind_of k ≡ Ok kind' → kind' ≡ kind.Geo
kind_geo read.Geo kind' h is = sym (ok_is kind.Geo kind' is)
kind_geo read.BigInt kind' h is = absurd (false≢true h)
kind_geo (read.VarChar digits) kind' h is = absurd (false≢true h)

-- of names one is that of a column with it
named_geo : (columns : List ParsedColumn) (indexes : List (List ℕ)) (name : List ℕ) → are_indexes columns indexes ≡ true → has_name indexes name ≡ true → has_geo columns name ≡ true
named_geo columns [] name h is = absurd (false≢true is)
named_geo columns (n ∷ indexes) name h is =
    let parts = and_parts (is_index columns n indexes) (are_indexes columns indexes) h in
    elim (or_cases (bytes_eq n name) (has_name indexes name) is) [
      | inl e ↦ (let same : n ≡ name = (bytes_eq-Decides n name).0 e in
          ap (has_geo columns) (sym same) ∙ (and_parts (has_geo columns n) (not (has_name indexes n)) parts.0).0)
      | inr k ↦ named_geo columns indexes name parts.1 k
    ]

-- columns of distinct names: the one with the name of a column of geometries is that one
geo_named : (columns : List ParsedColumn) → are_distinct columns ≡ true → (n : ℕ) (column : ParsedColumn) → slice_get columns n ≡ Some column → has_geo columns column.name ≡ true → is_geo column.kind ≡ true
geo_named [] distinct n column is h = absurd (none_some column is)
geo_named (c ∷ columns) distinct zero column is h =
    let parts = and_parts (not (has_column columns c.name)) (are_distinct columns) distinct in
    let same : c ≡ column = some_is c column is in
    elim (or_cases (is_geo_named c column.name) (has_geo columns column.name) h) [
      | inl e ↦ (ap (λ (x : ParsedColumn). is_geo x.kind) (sym same) ∙ (and_parts (is_geo c.kind) (bytes_eq c.name column.name) e).0)
      | inr k ↦ absurd (false≢true (sym (not_true (has_column columns c.name) parts.0) ∙ ap (λ (x : ParsedColumn). has_column columns x.name) same ∙ geo_column columns column.name k))
    ]
  where
    not_true : (b : Bool) → not b ≡ true → b ≡ false
    not_true true e = absurd (false≢true e)
    not_true false e = refl

    geo_column : (cs : List ParsedColumn) (name : List ℕ) → has_geo cs name ≡ true → has_column cs name ≡ true
    geo_column [] name k = absurd (false≢true k)
    geo_column (x ∷ cs) name k = elim (or_cases (is_geo_named x name) (has_geo cs name) k) [
      | inl e ↦ ap (λ b. b || has_column cs name) (and_parts (is_geo x.kind) (bytes_eq x.name name) e).1
      | inr l ↦ (ap (λ b. bytes_eq x.name name || b) (geo_column cs name l) ∙ or_true (bytes_eq x.name name))
    ]
      where
        or_true : (b : Bool) → (b || true) ≡ true
        or_true true = refl
        or_true false = refl
geo_named (c ∷ columns) distinct (suc n) column is h =
    let parts = and_parts (not (has_column columns c.name)) (are_distinct columns) distinct in
    geo_named columns parts.1 n column is (by_first (or_cases (is_geo_named c column.name) (has_geo columns column.name) h) parts.0)
  where
    has_at : (cs : List ParsedColumn) (i : ℕ) → slice_get cs i ≡ Some column → has_column cs column.name ≡ true
    has_at [] i k = absurd (none_some column k)
    has_at (x ∷ cs) zero k = ap (λ b. b || has_column cs column.name) ((bytes_eq-Decides x.name column.name).1 (ap (λ (y : ParsedColumn). y.name) (some_is x column k)))
    has_at (x ∷ cs) (suc i) k = ap (λ b. bytes_eq x.name column.name || b) (has_at cs i k) ∙ or_true (bytes_eq x.name column.name)
      where
        or_true : (b : Bool) → (b || true) ≡ true
        or_true true = refl
        or_true false = refl

    by_first : (is_geo_named c column.name ≡ true) ⊎ (has_geo columns column.name ≡ true) → not (has_column columns c.name) ≡ true → has_geo columns column.name ≡ true
    by_first (inr k) apart = k
    by_first (inl e) apart =
        let same : c.name ≡ column.name = (bytes_eq-Decides c.name column.name).0 (and_parts (is_geo c.kind) (bytes_eq c.name column.name) e).1 in
        absurd (false≢true (sym (ap not (ap (has_column columns) same ∙ has_at columns n is)) ∙ apart))

-- a column that was made, and what it was made of
made_of : (indexes : List (List ℕ)) (columns : List ParsedColumn) (found : List Column) → each (column_of indexes) columns ≡ Ok found → (n : ℕ) (column : Column) → slice_get found n ≡ Some column
    → (c : ParsedColumn) × (slice_get columns n ≡ Some c) × (column_of indexes c ≡ Ok column)
made_of indexes [] found h n column is = absurd (none_some column (ap (λ (xs : List Column). slice_get xs n) (ok_is [] found h) ∙ is))
made_of indexes (c ∷ columns) found h n column is =
    let one = bind_ok (column_of indexes c) _ found h in
    let more = bind_ok (each (column_of indexes) columns) _ found one.2 in
    let all : one.0 ∷ more.0 ≡ found = ok_is (one.0 ∷ more.0) found more.2 in
    by_place n one.0 more.0 one.1 more.1 (ap (λ (xs : List Column). slice_get xs n) all ∙ is) (λ k. made_of indexes columns more.0 more.1 k column)
  where
    by_place : (k : ℕ) (first : Column) (rest : List Column) → column_of indexes c ≡ Ok first → each (column_of indexes) columns ≡ Ok rest → slice_get (first ∷ rest) k ≡ Some column
        → ((j : ℕ) → slice_get rest j ≡ Some column → (x : ParsedColumn) × (slice_get columns j ≡ Some x) × (column_of indexes x ≡ Ok column))
        → (x : ParsedColumn) × (slice_get (c ∷ columns) k ≡ Some x) × (column_of indexes x ≡ Ok column)
    by_place zero first rest e f i again = (c, refl, e ∙ ap (λ x. Ok x) (some_is first column i))
    by_place (suc k) first rest e f i again = again k i

abbrev column_with : List (List ℕ) → ParsedColumn → Kind → Column
column_with indexes c k = record { name = c.name; kind = k; indexed = has_name indexes c.name }

-- its kind, and whether it has an index
column_kind : (indexes : List (List ℕ)) (c : ParsedColumn) (column : Column) → column_of indexes c ≡ Ok column
    → (k : Kind) × (kind_of c.kind ≡ Ok k) × (column.kind ≡ k) × (column.indexed ≡ has_name indexes c.name)
column_kind indexes c column h = by_kind (kind_of c.kind) refl h
  where
    by_kind : (r : Result Kind Refusal) → kind_of c.kind ≡ r → (r >>= λ k. Ok (column_with indexes c k)) ≡ Ok column
        → (k : Kind) × (kind_of c.kind ≡ Ok k) × (column.kind ≡ k) × (column.indexed ≡ has_name indexes c.name)
    by_kind (Ok k) e i =
        (k, e, ap (λ (x : Column). x.kind) (sym (ok_is (column_with indexes c k) column i)), ap (λ (x : Column). x.indexed) (sym (ok_is (column_with indexes c k) column i)))
    by_kind (Err r) e i = absurd (err_ok r column i)

-- what is made is a definition
abbrev Defines : Result Schema Refusal → Type 0
Defines r = (schema : Schema) → r ≡ Ok schema → IsDefinition schema

defines : {X : Type 0} (c : Result X Refusal) (f : X → Result Schema Refusal) → ((x : X) → c ≡ Ok x → Defines (f x)) → Defines (c >>= f)
defines (Ok x) f h = h x refl
defines (Err r) f h = λ schema e. absurd (err_ok r schema e)

-- behind the key, the columns are of distinct names, and with an index only where they are of geometries
columns_defined : (key : List ℕ) (columns : List ParsedColumn) (indexes : List (List ℕ)) → are_distinct columns ≡ true → are_indexes columns indexes ≡ true
    → (all : List Column) → keyed key (each (column_of indexes) columns) ≡ Ok all → Defines (Ok (record { columns = all }))
columns_defined key columns indexes distinct fit all made schema same = by_columns (each (column_of indexes) columns) refl made
  where
    of_column : (found : List Column) → each (column_of indexes) columns ≡ Ok found
        → (n : ℕ) (column : Column) → slice_get (key_column key ∷ found) n ≡ Some column → column.indexed ≡ true → column.kind ≡ kind.Geo
    of_column found is zero column at indexed =
        absurd (false≢true (ap (λ (x : Column). x.indexed) (some_is (key_column key) column at) ∙ indexed))
    of_column found is (suc n) column at indexed =
        let c = made_of indexes columns found is n column at in
        let k = column_kind indexes c.0 column c.2 in
        k.2 ∙ kind_geo c.0.kind k.0 (geo_named columns distinct n c.0 c.1 (named_geo columns indexes c.0.name fit (sym k.3 ∙ indexed))) k.1

    of_schema : (found : List Column) → each (column_of indexes) columns ≡ Ok found → schema.columns ≡ key_column key ∷ found → IsDefinition schema
    of_schema found is columns_are = record {
      first = key_column key;
      there = ap (λ (xs : List Column). slice_get xs 0) columns_are;
      key = refl;
      trees = λ n column at indexed. of_column found is n column (sym (ap (λ (xs : List Column). slice_get xs n) columns_are) ∙ at) indexed;
    }

    by_columns : (r : Result (List Column) Refusal) → each (column_of indexes) columns ≡ r → keyed key r ≡ Ok all → IsDefinition schema
    by_columns (Ok found) e k =
        of_schema found e (ap (λ (x : Schema). x.columns) (sym (ok_is (record { columns = all }) schema same)) ∙ sym (ok_is (key_column key ∷ found) all k))
    by_columns (Err r) e k = absurd (err_ok r all k)

-- the steps behind each limit
abbrev with_columns : List ℕ → List ParsedColumn → List (List ℕ) → Result Schema Refusal
with_columns key columns indexes = keyed key (each (column_of indexes) columns) >>= λ found. Ok (record { columns = found })

abbrev with_fit : List ℕ → List ParsedColumn → List (List ℕ) → Result Schema Refusal
with_fit key columns indexes = ensure OutOfLimits (are_indexes columns indexes) >>= λ fit. with_columns key columns indexes

abbrev with_count : List ℕ → List ParsedColumn → List (List ℕ) → Result Schema Refusal
with_count key columns indexes = ensure OutOfLimits (nat_le (length indexes) index_limit) >>= λ indexed. with_fit key columns indexes

abbrev with_distinct : List ℕ → List ParsedColumn → List (List ℕ) → Result Schema Refusal
with_distinct key columns indexes = ensure OutOfLimits (are_distinct columns) >>= λ distinct. with_count key columns indexes

abbrev with_other : List ℕ → List ParsedColumn → List (List ℕ) → Result Schema Refusal
with_other key columns indexes = ensure OutOfLimits (not (has_column columns key)) >>= λ other. with_distinct key columns indexes

abbrev with_short : List ℕ → List ParsedColumn → List (List ℕ) → Result Schema Refusal
with_short key columns indexes = ensure OutOfLimits (are_short key columns) >>= λ short. with_other key columns indexes

defined : (key : List ℕ) (columns : List ParsedColumn) (indexes : List (List ℕ)) → Defines (schema_of key columns indexes)
unfolding schema_of
defined key columns indexes =
    defines (ensure OutOfLimits (nat_le (length columns + 1) column_limit)) (λ few. with_short key columns indexes) (λ few _.
    defines (ensure OutOfLimits (are_short key columns)) (λ short. with_other key columns indexes) (λ short _.
    defines (ensure OutOfLimits (not (has_column columns key))) (λ other. with_distinct key columns indexes) (λ other _.
    defines (ensure OutOfLimits (are_distinct columns)) (λ distinct. with_count key columns indexes) (λ distinct distinct_is.
    defines (ensure OutOfLimits (nat_le (length indexes) index_limit)) (λ indexed. with_fit key columns indexes) (λ count _.
    defines (ensure OutOfLimits (are_indexes columns indexes)) (λ fit. with_columns key columns indexes) (λ fit fit_is.
    defines (keyed key (each (column_of indexes) columns)) (λ found. Ok (record { columns = found })) (λ all made.
    columns_defined key columns indexes (ensured OutOfLimits (are_distinct columns) distinct distinct_is) (ensured OutOfLimits (are_indexes columns indexes) fit fit_is) all made)))))))

-- ---- what CREATE is

abbrev Made : Place → Statement → Type 0
Made at st = (name : List ℕ) (schema : Schema) → st ≡ statement.Create name schema → (at ≡ place.Setup) × IsDefinition schema

refused_made : (at : Place) (r : Refusal) → Made at (statement.Refused r)
refused_made at r name schema h = let no : ⊥ = cc in absurd no

create_plain : (name : List ℕ) (schema : Schema) → IsDefinition schema → Made place.Setup (statement.Create name schema)
create_plain name schema d other now same = (refl, subst IsDefinition (ap (schema_in schema) same) d)
  where
    schema_in : Schema → Statement → Schema
    schema_in x (statement.Create n s) = s
    schema_in x st = x

insert_plain : (at : Place) (name : List ℕ) (rows : List Row) → Made at (statement.Insert name rows)
insert_plain at name rows n s h = let no' : ⊥ = cc in absurd no'

select_plain : (at : Place) (name : List ℕ) (columns : List ℕ) (w : Condition) → Made at (statement.Select name columns w)
select_plain at name columns w n s h = let no' : ⊥ = cc in absurd no'

update_plain : (at : Place) (name : List ℕ) (sets : List Assign) (w : Condition) → Made at (statement.Update name sets w)
update_plain at name sets w n s h = let no' : ⊥ = cc in absurd no'

delete_plain : (at : Place) (name : List ℕ) (w : Condition) → Made at (statement.Delete name w)
delete_plain at name w n s h = let no' : ⊥ = cc in absurd no'

begin_plain : (at : Place) → Made at statement.Begin
begin_plain at n s h = let no' : ⊥ = cc in absurd no'

commit_plain : (at : Place) → Made at statement.Commit
commit_plain at n s h = let no' : ⊥ = cc in absurd no'

rollback_plain : (at : Place) → Made at statement.Rollback
rollback_plain at n s h = let no' : ⊥ = cc in absurd no'

create_made : (ds : List (List ℕ × Schema)) (name key : List ℕ) (columns : List ParsedColumn) (indexes : List (List ℕ)) → Made place.Setup (stated (create ds name key columns indexes))
unfolding create
create_made ds name key columns indexes =
    carried (Made place.Setup) (refused_made place.Setup) (ensure TableExists (not (is_table ds name))) _ (λ fresh _.
    carried (Made place.Setup) (refused_made place.Setup) (ensure OutOfLimits (nat_lt (length ds) table_limit)) _ (λ room _.
    carried (Made place.Setup) (refused_made place.Setup) (ensure OutOfLimits (is_short name)) _ (λ short _.
    carried (Made place.Setup) (refused_made place.Setup) (schema_of key columns indexes) _ (λ schema is.
    create_plain name schema (defined key columns indexes schema is)))))

insert_made : (at : Place) (ds : List (List ℕ × Schema)) (name : List ℕ) (rows : List (List Literal)) → Made at (stated (insert ds name rows))
unfolding insert
insert_made at ds name rows =
    carried (Made at) (refused_made at) (known NoSuchTable (schema_named ds name)) _ (λ schema _.
    carried (Made at) (refused_made at) (ensure ColumnCount (are_counted schema.columns rows)) _ (λ counted _.
    carried (Made at) (refused_made at) (rows_of schema.columns rows) _ (λ bound' _.
    carried (Made at) (refused_made at) (ensure RowTooLarge (list_all (is_small schema) bound')) _ (λ small _. insert_plain at name bound'))))

select_made : (at : Place) (ds : List (List ℕ × Schema)) (name : List ℕ) (names : Option (List (List ℕ))) (w : List ParsedAtom) → Made at (stated (select ds name names w))
unfolding select
select_made at ds name names w =
    carried (Made at) (refused_made at) (known NoSuchTable (schema_named ds name)) _ (λ schema _.
    carried (Made at) (refused_made at) (shown schema.columns names) _ (λ columns _.
    carried (Made at) (refused_made at) (ensure UnknownColumn (are_columns schema.columns w)) _ (λ there _.
    carried (Made at) (refused_made at) (condition_of schema.columns w) _ (λ condition _. select_plain at name columns condition))))

update_made : (at : Place) (ds : List (List ℕ × Schema)) (name : List ℕ) (sets : List ParsedSet) (w : List ParsedAtom) → Made at (stated (update ds name sets w))
unfolding update
update_made at ds name sets w =
    carried (Made at) (refused_made at) (known NoSuchTable (schema_named ds name)) _ (λ schema _.
    carried (Made at) (refused_made at) (ensure UnknownColumn (are_settable schema.columns sets)) _ (λ able _.
    carried (Made at) (refused_made at) (ensure UnknownColumn (are_columns schema.columns w)) _ (λ there _.
    carried (Made at) (refused_made at) (ensure KeyCannotBeSet (list_all (is_other schema.columns) sets)) _ (λ others _.
    carried (Made at) (refused_made at) (sets_of schema.columns sets) _ (λ bound' _.
    carried (Made at) (refused_made at) (condition_of schema.columns w) _ (λ condition _. update_plain at name bound' condition))))))

delete_made : (at : Place) (ds : List (List ℕ × Schema)) (name : List ℕ) (w : List ParsedAtom) → Made at (stated (delete ds name w))
unfolding delete
delete_made at ds name w =
    carried (Made at) (refused_made at) (known NoSuchTable (schema_named ds name)) _ (λ schema _.
    carried (Made at) (refused_made at) (ensure UnknownColumn (are_columns schema.columns w)) _ (λ there _.
    carried (Made at) (refused_made at) (condition_of schema.columns w) _ (λ condition _. delete_plain at name condition)))

meant_made : (at : Place) (ds : List (List ℕ × Schema)) (p : Parsed) → is_allowed at p ≡ true → Made at (stated (meant ds p))
meant_made place.Setup ds (parsed.Create name key columns indexes) h = create_made ds name key columns indexes
meant_made place.Session ds (parsed.Create name key columns indexes) h = absurd (false≢true h)
meant_made place.InTransaction ds (parsed.Create name key columns indexes) h = absurd (false≢true h)
meant_made at ds (parsed.Insert name rows) h = insert_made at ds name rows
meant_made at ds (parsed.Select name columns w) h = select_made at ds name columns w
meant_made at ds (parsed.Update name sets w) h = update_made at ds name sets w
meant_made at ds (parsed.Delete name w) h = delete_made at ds name w
meant_made at ds parsed.Begin h = begin_plain at
meant_made at ds parsed.Commit h = commit_plain at
meant_made at ds parsed.Rollback h = rollback_plain at

bound_made : (at : Place) (ds : List (List ℕ × Schema)) (p : Parsed) → Made at (bound ds p at)
unfolding checked
bound_made at ds p =
    carried (Made at) (refused_made at) (ensure NotAllowedHere (is_allowed at p)) _ (λ allowed is.
    carried (Made at) (refused_made at) (ensure AlreadyBegun (not (begins_again at p))) _ (λ first _. meant_made at ds p (ensured NotAllowedHere (is_allowed at p) allowed is)))

-- ---- the language

served : (tables : List Table) (at : Place) (o : Option Parsed) → AreDefinitions tables → CanServe tables at (meaning_in (definitions tables) at o)
served tables at None all = tt
served tables at (Some p) all = serves tables at (bound (definitions tables) p at) all (bound_fits (definitions tables) p at) (bound_made at (definitions tables) p)

pub language_is_servable : LanguageIsServable
unfolding whole meaning
language_is_servable = record {
  defined = λ tables others at text same. ap (λ ds. meaning_in ds at (parsed_of text)) same;
  served = λ tables at text all. served tables at (parsed_of text) all;
}
