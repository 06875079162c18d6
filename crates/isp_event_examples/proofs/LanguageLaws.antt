-- The language of numbered statements is faithful and can be served, and the way that the first test names is sound.
use Rattle.std.proofs.Common.{◌≡◌, ◌∙◌, refl, sym, ap, subst, ℕ, zero, suc, ℤ, ◌≤◌, ◌==◌, ◌&&◌, ◌||◌, Bool, true, false, not, cond, List, [], ◌∷◌, map, length, Option, Some, None, arith, eqb-true}
use Rattle.std.specs.Prelude.{All, find, nat_lt, slice_get, IfSome, IsNone, is_none, is_some}
use Rattle.std.specs.List.{list_all, position_or_len}
use Rattle.std.specs.Option.{option_map}
use Rattle.std.specs.Ordering.{int_eq}
use Rattle.std.specs.Str.{bytes_eq}
use Rattle.std.proofs.lemmas.Bool.{and_parts}
use Rattle.std.proofs.lemmas.Bool.Decides.{nat_tests}
use Rattle.std.proofs.lemmas.Int.{ints}
use Rattle.std.proofs.lemmas.List.Elements.{All-cons, All-nil}
use Rattle.std.proofs.lemmas.List.Folds.{find_at}
use Rattle.isp_mbr.specs.declared.predicate.Predicate.{Predicate}
use Rattle.isp_plain.specs.declared.statement.Assign.{Assign}
use Rattle.isp_plain.specs.declared.statement.Atom.{Atom}
use Rattle.isp_plain.specs.declared.statement.Atom.TheVariants as atom
use Rattle.isp_plain.specs.declared.statement.Condition.{Condition}
use Rattle.isp_plain.specs.declared.statement.Op.TheVariants.{Eq, Ne, Lt, Le, Gt, Ge}
use Rattle.isp_plain.specs.declared.statement.Statement.{Statement}
use Rattle.isp_plain.specs.declared.refusal.Refusal.TheVariants.{NoSuchTable}
use Rattle.isp_plain.specs.declared.statement.Statement.TheVariants.{Create, Insert, Select, Update, Delete, Begin, Commit, Rollback, Refused}
use Rattle.isp_plain.specs.declared.value.Column.{Column}
use Rattle.isp_plain.specs.declared.value.Kind.{Kind}
use Rattle.isp_plain.specs.declared.value.Kind.TheVariants.{BigInt, VarChar, Geo}
use Rattle.isp_plain.specs.declared.value.Row.{Row}
use Rattle.isp_plain.specs.declared.value.Schema.{Schema}
use Rattle.isp_plain.specs.declared.value.Value.{Value}
use Rattle.isp_plain.specs.declared.value.Value.TheVariants as value
use Rattle.isp_plain.specs.Conditions.{atom_holds, value_compares, value_satisfies}
use Rattle.isp_plain.specs.Does.{place_of, table_at, table_named}
use Rattle.isp_plain.specs.Lined.{is_lined_statement}
use Rattle.isp_plain.specs.Tables.{Table, definition_of}
use Rattle.isp_plain.specs.Values.{key_of}
use Rattle.isp_serial.specs.declared.script.Place.{Place}
use Rattle.isp_serial.specs.declared.script.Place.TheVariants as place
use Rattle.isp_serial.specs.Alone.{IsFaithful, MayMean, effect_by}
use Rattle.isp_events.specs.Ways.{AnySchema, CanServe, FindsAll, IsDefinition, IsServable, IsSettable, IsStorable, IsThere, by_key, by_box, by_scan, begins_with_number, condition_of, is_geometry, is_indexed, is_indexed_column}
use Rattle.isp_event_examples.specs.Language.{LanguageFits, can_serve, fits_tree, has_geometries, has_kind, is_definition, is_geometry_kind, is_number_kind, is_setup, is_settable, is_storable, key_of_equality, numbered, passes, schema_named, served_or_refused, statement_in, way_of_atoms, way_of_condition}

-- ---- faithful

either_way : (P : Statement → Type 0) (b : Bool) (statement : Statement) → (b ≡ true → P statement) → P (Refused NoSuchTable) → P (cond b statement (Refused NoSuchTable))
either_way P true statement h k = h refl
either_way P false statement h k = k

-- what can be served means itself
means : (definitions : List (List ℕ × Schema)) (at : Place) (statement : Statement) → can_serve definitions at statement ≡ true → MayMean (effect_by statement) statement
means definitions at (Create name schema) h = refl
means definitions at (Insert name rows) h = refl
means definitions at (Select name columns w) h = refl
means definitions at (Update name sets w) h = refl
means definitions at (Delete name w) h = refl
means definitions at Begin h = refl
means definitions at Commit h = refl
means definitions at Rollback h = refl
means definitions at (Refused refusal) h = h

begins_nothing : (definitions : List (List ℕ × Schema)) (statement : Statement) (b : Bool) → (b ≡ true → can_serve definitions place.Setup statement ≡ true)
    → cond b statement (Refused NoSuchTable) ≡ Begin → ⊥
begins_nothing definitions statement false h e = cc
begins_nothing definitions statement true h e =
    let no : can_serve definitions place.Setup Begin ≡ true = subst (λ s. can_serve definitions place.Setup s ≡ true) e (h refl) in cc

pub faithful : (statements : List Statement) → IsFaithful (numbered statements)
faithful statements = record {
  meant = λ tables at text.
      either_way (MayMean (effect_by (statement_in statements text))) (can_serve (map definition_of tables) at (statement_in statements text) && is_lined_statement (statement_in statements text))
      (statement_in statements text)
      (λ h. means (map definition_of tables) at (statement_in statements text) (and_parts (can_serve (map definition_of tables) at (statement_in statements text)) (is_lined_statement (statement_in statements text)) h).0)
      refl;
  setup = λ tables text. begins_nothing (map definition_of tables) (statement_in statements text) (can_serve (map definition_of tables) place.Setup (statement_in statements text) && is_lined_statement (statement_in statements text))
      (λ h. (and_parts (can_serve (map definition_of tables) place.Setup (statement_in statements text)) (is_lined_statement (statement_in statements text)) h).0);
  lined = λ tables at text.
      either_way (λ s. is_lined_statement s ≡ true) (can_serve (map definition_of tables) at (statement_in statements text) && is_lined_statement (statement_in statements text))
      (statement_in statements text)
      (λ h. (and_parts (can_serve (map definition_of tables) at (statement_in statements text)) (is_lined_statement (statement_in statements text)) h).1)
      refl;
}

-- ---- servable

past : {X : Type 0} (xs : List X) (i : ℕ) → length xs ≤ i → slice_get xs i ≡ None
past [] i h = refl
past (x ∷ xs) zero h = let no : ⊥ = omega (arith, h) in absurd no
past (x ∷ xs) (suc i) h = past xs i (omega (arith, h))

named_at : (tables : List Table) (name : List ℕ) (i : ℕ) (table : Table) (b : Bool) → nat_lt i (length tables) ≡ b → slice_get tables i ≡ Some table
    → table_at tables (cond b (Some i) None) ≡ Some table
named_at tables name i table true e h = h
named_at tables name i table false e h =
    let le : length tables ≤ i = grind (arith, nat_tests) in
    let no : None ≡ Some table = sym (past tables i le) ∙ h in cc

-- the table found by its name is the one at its place
named_is : (tables : List Table) (name : List ℕ) (table : Table) → find (λ t. bytes_eq t.name name) tables ≡ Some table → table_named tables name ≡ Some table
named_is tables name table h =
    let p : Table → Bool = λ t. bytes_eq t.name name in
    named_at tables name (position_or_len p tables) table (nat_lt (position_or_len p tables) (length tables)) refl (sym (find_at p tables) ∙ h)

schema_is : (tables : List Table) (name : List ℕ) → schema_named (map definition_of tables) name ≡ option_map (λ (t : Table). t.schema) (find (λ t. bytes_eq t.name name) tables)
schema_is [] name = refl
schema_is (table ∷ tables) name =
    elim (bytes_eq table.name name) as (λ b. cond b (Some table.schema) (schema_named (map definition_of tables) name) ≡ option_map (λ (t : Table). t.schema) (cond b (Some table) (find (λ t. bytes_eq t.name name) tables))) [
      | true ↦ refl
      | false ↦ schema_is tables name
    ]

there_at : (tables : List Table) (name : List ℕ) (test : Schema → Bool) (P : Schema → Type 0) → ((schema : Schema) → test schema ≡ true → P schema)
    → (o : Option Table) → find (λ t. bytes_eq t.name name) tables ≡ o → passes test (option_map (λ (t : Table). t.schema) o) ≡ true → IsThere tables name P
there_at tables name test P gives None e h = let no : ⊥ = cc in absurd no
there_at tables name test P gives (Some table) e h = (table, named_is tables name table e, gives table.schema h)

there : (tables : List Table) (name : List ℕ) (test : Schema → Bool) (P : Schema → Type 0) → ((schema : Schema) → test schema ≡ true → P schema)
    → passes test (schema_named (map definition_of tables) name) ≡ true → IsThere tables name P
there tables name test P gives h =
    there_at tables name test P gives (find (λ t. bytes_eq t.name name) tables) refl (sym (ap (passes test) (schema_is tables name)) ∙ h)

or_given : (b c : Bool) → (not b || c) ≡ true → b ≡ true → c ≡ true
or_given true c h e = h
or_given false c h e = cc

geometries : (columns : List Column) (values : List Value) → has_geometries columns values ≡ true → (n : ℕ) → is_indexed_column (slice_get columns n) ≡ true → is_geometry (slice_get values n) ≡ true
geometries [] values h n e = let no : ⊥ = cc in absurd no
geometries (column ∷ columns) [] h zero e =
    let parts : (not column.indexed ≡ true) × (has_geometries columns [] ≡ true) = and_parts (not column.indexed) (has_geometries columns []) h in
    let no : ⊥ = both column.indexed e parts.0 in absurd no
  where
    both : (b : Bool) → b ≡ true → not b ≡ true → ⊥
    both true x y = cc
    both false x y = cc
geometries (column ∷ columns) [] h (suc n) e = geometries columns [] (and_parts (not column.indexed) (has_geometries columns []) h).1 n e
geometries (column ∷ columns) (v ∷ values) h zero e =
    or_given column.indexed (is_geometry (Some v)) (and_parts (not column.indexed || is_geometry (Some v)) (has_geometries columns values) h).0 e
geometries (column ∷ columns) (v ∷ values) h (suc n) e = geometries columns values (and_parts (not column.indexed || is_geometry (Some v)) (has_geometries columns values) h).1 n e

storable : (schema : Schema) (row : Row) → is_storable schema row ≡ true → IsStorable schema row
storable schema row h =
    let parts : (begins_with_number row.values ≡ true) × (has_geometries schema.columns row.values ≡ true) = and_parts (begins_with_number row.values) (has_geometries schema.columns row.values) h in
    record { key = parts.0; geometries = λ column e. geometries schema.columns row.values parts.1 column e }

settable : (schema : Schema) (set : Assign) → is_settable schema set ≡ true → IsSettable schema set
settable schema set h =
    let parts : (not (set.column == 0) ≡ true) × ((not (is_indexed schema set.column) || is_geometry (Some set.v)) ≡ true) =
    and_parts (not (set.column == 0)) (not (is_indexed schema set.column) || is_geometry (Some set.v)) h in
    record { not_key = shut (set.column == 0) parts.0; geometry = or_given (is_indexed schema set.column) (is_geometry (Some set.v)) parts.1 }
  where
    shut : (b : Bool) → not b ≡ true → b ≡ false
    shut true e = cc
    shut false e = refl

all_by : {X : Type 0} (test : X → Bool) (P : X → Type 0) → ((x : X) → test x ≡ true → P x) → (xs : List X) → list_all test xs ≡ true → All P xs
all_by test P gives [] h = All-nil P
all_by test P gives (x ∷ xs) h =
    let parts : (test x ≡ true) × (list_all test xs ≡ true) = and_parts (test x) (list_all test xs) h in
    All-cons P x xs (gives x parts.0) (all_by test P gives xs parts.1)

setup_is : (at : Place) → is_setup at ≡ true → at ≡ place.Setup
setup_is place.Setup h = refl
setup_is place.Session h = let no : ⊥ = cc in absurd no
setup_is place.InTransaction h = let no : ⊥ = cc in absurd no

within : {X : Type 0} (xs : List X) (i : ℕ) → slice_get xs i ≡ None → length xs ≤ i
within [] i h = omega arith
within (x ∷ xs) zero h = let no : ⊥ = cc in absurd no
within (x ∷ xs) (suc i) h = let le : length xs ≤ i = within xs i h in omega (arith, le)

none_is : {X Y : Type 0} (f : X → Y) (o : Option X) → is_none (option_map f o) ≡ true → o ≡ None
none_is f None h = refl
none_is f (Some x) h = let no : ⊥ = cc in absurd no

-- a name that no definition has is no table's
new_is : (tables : List Table) (name : List ℕ) → is_none (option_map (λ (t : Table). t.schema) (find (λ t. bytes_eq t.name name) tables)) ≡ true → IsNone (place_of tables name)
new_is tables name h =
    let p : Table → Bool = λ t. bytes_eq t.name name in
    let none : find p tables ≡ None = none_is (λ (t : Table). t.schema) (find p tables) h in
    let le : length tables ≤ position_or_len p tables = within tables (position_or_len p tables) (sym (find_at p tables) ∙ none) in
    let far : nat_lt (position_or_len p tables) (length tables) ≡ false = grind (arith, nat_tests) in
    ap (λ b. is_some (cond b (Some (position_or_len p tables)) None)) far

number_kind : (k : Kind) → is_number_kind k ≡ true → k ≡ BigInt
number_kind BigInt h = refl
number_kind (VarChar n) h = let no : ⊥ = cc in absurd no
number_kind Geo h = let no : ⊥ = cc in absurd no

geometry_kind : (k : Kind) → is_geometry_kind k ≡ true → k ≡ Geo
geometry_kind Geo h = refl
geometry_kind BigInt h = let no : ⊥ = cc in absurd no
geometry_kind (VarChar n) h = let no : ⊥ = cc in absurd no

trees_at : (columns : List Column) → list_all fits_tree columns ≡ true → (n : ℕ) (column : Column) → slice_get columns n ≡ Some column → column.indexed ≡ true → column.kind ≡ Geo
trees_at [] h n column e i = let no : ⊥ = cc in absurd no
trees_at (c ∷ columns) h zero column e i =
    let same : c ≡ column = cc in
    let fits : fits_tree column ≡ true = subst (λ (x : Column). fits_tree x ≡ true) same (and_parts (fits_tree c) (list_all fits_tree columns) h).0 in
    geometry_kind column.kind (or_given column.indexed (is_geometry_kind column.kind) fits i)
trees_at (c ∷ columns) h (suc n) column e i = trees_at columns (and_parts (fits_tree c) (list_all fits_tree columns) h).1 n column e i

first_at : (schema : Schema) (o : Option Column) → slice_get schema.columns 0 ≡ o → has_kind is_number_kind o ≡ true → list_all fits_tree schema.columns ≡ true → IsDefinition schema
first_at schema None e h k = let no : ⊥ = cc in absurd no
first_at schema (Some column) e h k = record { first = column; there = e; key = number_kind column.kind h; trees = trees_at schema.columns k }

definition : (schema : Schema) → is_definition schema ≡ true → IsDefinition schema
definition schema h =
    let parts : (has_kind is_number_kind (slice_get schema.columns 0) ≡ true) × (list_all fits_tree schema.columns ≡ true) = and_parts (has_kind is_number_kind (slice_get schema.columns 0)) (list_all fits_tree schema.columns) h in
    first_at schema (slice_get schema.columns 0) refl parts.0 parts.1

can : (tables : List Table) (at : Place) (statement : Statement) → can_serve (map definition_of tables) at statement ≡ true → CanServe tables at statement
can tables at (Create name schema) h =
    let rest : Bool = is_none (schema_named (map definition_of tables) name) && is_definition schema in
    let parts : (is_setup at ≡ true) × (rest ≡ true) = and_parts (is_setup at) rest h in
    let more : (is_none (schema_named (map definition_of tables) name) ≡ true) × (is_definition schema ≡ true) = and_parts (is_none (schema_named (map definition_of tables) name)) (is_definition schema) parts.1 in
    (setup_is at parts.0, new_is tables name (sym (ap is_none (schema_is tables name)) ∙ more.0), definition schema more.1)
can tables at (Insert name rows) h =
    there tables name (λ schema. list_all (is_storable schema) rows) (λ schema. All (IsStorable schema) rows) (λ schema e. all_by (is_storable schema) (IsStorable schema) (storable schema) rows e) h
can tables at (Select name columns w) h = there tables name (λ schema. true) AnySchema (λ schema e. tt) h
can tables at (Update name sets w) h =
    there tables name (λ schema. list_all (is_settable schema) sets) (λ schema. All (IsSettable schema) sets) (λ schema e. all_by (is_settable schema) (IsSettable schema) (settable schema) sets e) h
can tables at (Delete name w) h = there tables name (λ schema. true) AnySchema (λ schema e. tt) h
can tables at Begin h = tt
can tables at Commit h = tt
can tables at Rollback h = tt
can tables at (Refused refusal) h = tt

pub servable : (statements : List Statement) → IsServable (numbered statements)
servable statements = record {
  defined = λ tables others at text same. ap (λ definitions. served_or_refused definitions at (statement_in statements text)) same;
  served = λ tables at text good.
      either_way (CanServe tables at) (can_serve (map definition_of tables) at (statement_in statements text) && is_lined_statement (statement_in statements text)) (statement_in statements text)
      (λ h. can tables at (statement_in statements text) (and_parts (can_serve (map definition_of tables) at (statement_in statements text)) (is_lined_statement (statement_in statements text)) h).0)
      tt;
}

-- ---- sound

same_key : (values : List Value) (key : ℤ) → begins_with_number values ≡ true → value_compares Eq (value.Int key) (slice_get values 0) ≡ true → key_of (record { values = values }) ≡ key
same_key [] key h e = let no : ⊥ = cc in absurd no
same_key (value.Int k ∷ others) key h e = same k key e
  where
    same : (a b : ℤ) → int_eq a b ≡ true → a ≡ b
    same a b eq = grind (arith, ints)
same_key (value.Text text ∷ others) key h e = let no : ⊥ = cc in absurd no
same_key (value.Geo form ∷ others) key h e = let no : ⊥ = cc in absurd no

by_equality : (schema : Schema) (column : ℕ) (v : Value) (atoms : List Atom) → FindsAll schema (record { atoms = atom.Cmp column Eq v ∷ atoms }) (key_of_equality column v by_scan)
by_equality schema column (value.Text text) atoms = tt
by_equality schema column (value.Geo form) atoms = tt
by_equality schema column (value.Int key) atoms = at (column == 0) refl
  where
    at : (b : Bool) → (column == 0) ≡ b → FindsAll schema (record { atoms = atom.Cmp column Eq (value.Int key) ∷ atoms }) (cond b (by_key key) by_scan)
    at false e = tt
    at true e = λ row begins h.
        (let first : value_compares Eq (value.Int key) (slice_get row.values column) ≡ true =
        (and_parts (value_compares Eq (value.Int key) (slice_get row.values column)) (list_all (atom_holds row) atoms) h).0 in
        same_key row.values key begins (sym (ap (λ c. value_compares Eq (value.Int key) (slice_get row.values c)) (eqb-true column 0 e)) ∙ first))

by_test : (schema : Schema) (column : ℕ) (p : Predicate) (atoms : List Atom) → FindsAll schema (record { atoms = atom.Box column p ∷ atoms }) (cond (is_indexed schema column) (by_box column p) by_scan)
by_test schema column p atoms = at (is_indexed schema column) refl
  where
    at : (b : Bool) → is_indexed schema column ≡ b → FindsAll schema (record { atoms = atom.Box column p ∷ atoms }) (cond b (by_box column p) by_scan)
    at false e = tt
    at true e = (e, λ row begins h. (and_parts (value_satisfies p (slice_get row.values column)) (list_all (atom_holds row) atoms) h).0)

by_atoms : (schema : Schema) (atoms : List Atom) → FindsAll schema (record { atoms = atoms }) (way_of_atoms schema atoms)
by_atoms schema [] = tt
by_atoms schema (atom.Cmp column Eq v ∷ atoms) = by_equality schema column v atoms
by_atoms schema (atom.Cmp column Ne v ∷ atoms) = tt
by_atoms schema (atom.Cmp column Lt v ∷ atoms) = tt
by_atoms schema (atom.Cmp column Le v ∷ atoms) = tt
by_atoms schema (atom.Cmp column Gt v ∷ atoms) = tt
by_atoms schema (atom.Cmp column Ge v ∷ atoms) = tt
by_atoms schema (atom.Box column p ∷ atoms) = by_test schema column p atoms

by_condition : (schema : Schema) (o : Option Condition) → IfSome o (λ w. FindsAll schema w (way_of_condition schema o))
by_condition schema None = tt
by_condition schema (Some w) = by_atoms schema w.atoms

pub language_fits : LanguageFits
language_fits = record { faithful = faithful; servable = servable; sound = λ schema statement. by_condition schema (condition_of statement) }
