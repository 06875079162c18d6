-- The rows and tables of statements that texts mean.
use Rattle.std.proofs.Common.{◌≡◌, ℕ, ◌<◌, ◌≤◌, true, false, not, nat_le, nat_lt, List, [], ◌∷◌, length, map, Option, Some, None, Ok, refl, subst, arith}
use Rattle.std.specs.List.{list_all}
use Rattle.std.proofs.lemmas.Bool.Decides.{nat_tests}
use Rattle.isp_serial.specs.declared.script.Place.{Place}
use Rattle.isp_serial.specs.declared.script.Place.TheVariants as places
use Rattle.isp_plain.specs.declared.refusal.Refusal.{Refusal}
use Rattle.isp_plain.specs.declared.refusal.Refusal.TheVariants.{AlreadyBegun, ColumnCount, KeyCannotBeSet, NoSuchTable, NotAllowedHere, OutOfLimits, RowTooLarge, Syntax, TableExists, UnknownColumn}
use Rattle.isp_plain.specs.declared.statement.Assign.{Assign}
use Rattle.isp_plain.specs.declared.statement.Statement.{Statement}
use Rattle.isp_plain.specs.declared.statement.Statement.TheVariants as statement
use Rattle.isp_plain.specs.declared.value.Schema.{Schema}
use Rattle.isp_plain.specs.Lined.{are_lined_rows, is_lined_statement, is_lined_value}
use Rattle.isp_plain.specs.Tables.{Table}
use Rattle.isp_sql.specs.declared.parsed.Literal.{Literal}
use Rattle.isp_sql.specs.declared.parsed.Parsed.{Parsed}
use Rattle.isp_sql.specs.declared.parsed.Parsed.TheVariants as parsed
use Rattle.isp_sql.specs.declared.parsed.ParsedAtom.{ParsedAtom}
use Rattle.isp_sql.specs.declared.parsed.ParsedColumn.{ParsedColumn}
use Rattle.isp_sql.specs.declared.parsed.ParsedSet.{ParsedSet}
use Rattle.isp_sql.specs.Reading.{parsed_of}
use Rattle.isp_plan.specs.Binding.{are_columns, are_counted, are_settable, begins_again, bound, checked, condition_of, create, delete, insert, is_allowed, is_other, is_small, is_table, meant, rows_of, schema_named, select, sets_of, shown, update}
use Rattle.isp_plan.specs.Creating.{is_short, schema_of, table_limit}
use Rattle.isp_plan.specs.Fitting.{Fits}
use Rattle.isp_plan.specs.Meaning.{definitions, meaning, meaning_in, whole}
use Rattle.isp_plan.specs.Refusals.{ensure, known, stated}
use Rattle.isp_plan.proofs.FaithfulLaws.{whole_is_faithful}
use Rattle.isp_plan.proofs.FitLaws.{bound_fits}
use Rattle.isp_bound_rows.specs.Bound.{MakesTable}
use Rattle.isp_bound_rows.specs.Laws.{CreateInSetup, CreateMakesTable, InsertPutsRows, UpdateSetsRows}
use Rattle.isp_bound_rows.proofs.ChainLaws.{absent, carried, ensured}
use Rattle.isp_bound_rows.proofs.NamedLaws.{AreNames, HasNames, name_some, parsed_named}
use Rattle.isp_bound_rows.proofs.SchemaLaws.{schema_columns}
use Rattle.isp_bound_rows.proofs.ValueLaws.{new_rows, sets_keep, sets_lined}

-- ---- a text and what it means

-- what holds of every refusal and of the bound statement holds of what the text means
read_by : (P : Statement → Type 0) (tables : List (List ℕ × Schema)) (place : Place) (o : Option Parsed) → ((r : Refusal) → P (statement.Refused r)) → ((p : Parsed) → o ≡ Some p → P (bound tables p place)) → P (meaning_in tables place o)
read_by P tables place None refusals parts = refusals Syntax
read_by P tables place (Some p) refusals parts = parts p refl

meaning_by : (P : Statement → Type 0) (tables : List (List ℕ × Schema)) (place : Place) (text : List ℕ) → ((r : Refusal) → P (statement.Refused r)) → ((p : Parsed) → parsed_of text ≡ Some p → P (bound tables p place)) → P (meaning tables place text)
unfolding meaning
meaning_by P tables place text refusals parts = read_by P tables place (parsed_of text) refusals parts

meaning_fits : (tables : List (List ℕ × Schema)) (place : Place) (text : List ℕ) → Fits tables (meaning tables place text)
meaning_fits tables place text = meaning_by (Fits tables) tables place text (λ r. tt) (λ p is. bound_fits tables p place)

abbrev empty_of : List ℕ × Schema → Table
empty_of d = record { name = d.0; schema = d.1; rows = [] }

defined : (tables : List (List ℕ × Schema)) → definitions (map empty_of tables) ≡ tables
defined [] = refl
defined (d ∷ tables) = λ i. d ∷ defined tables i

whole_lined : (tables : List Table) (place : Place) (text : List ℕ) → is_lined_statement (meaning (definitions tables) place text) ≡ true
unfolding whole
whole_lined tables place text = whole_is_faithful.lined tables place text

meaning_lined : (tables : List (List ℕ × Schema)) (place : Place) (text : List ℕ) → is_lined_statement (meaning tables place text) ≡ true
meaning_lined tables place text = subst (λ (ts : List (List ℕ × Schema)). is_lined_statement (meaning ts place text) ≡ true) (defined tables) (whole_lined (map empty_of tables) place text)

-- ---- INSERT and UPDATE

pub insert_puts_rows : InsertPutsRows
insert_puts_rows tables place text name rows is =
    let fits = subst (Fits tables) is (meaning_fits tables place text) in
    let lined : are_lined_rows rows ≡ true = subst (λ (s : Statement). is_lined_statement s ≡ true) is (meaning_lined tables place text) in
    record { schema = fits.0; there = fits.1; each = λ keyed. new_rows fits.0 rows keyed fits.2 lined }

pub update_sets_rows : UpdateSetsRows
update_sets_rows tables place text name sets w is =
    let fits = subst (Fits tables) is (meaning_fits tables place text) in
    let lined : list_all (λ (set : Assign). is_lined_value set.v) sets ≡ true = subst (λ (s : Statement). is_lined_statement s ≡ true) is (meaning_lined tables place text) in
    record {
      schema = fits.0;
      there = fits.1;
      rows = λ key row had. sets_keep fits.0 key sets row.values fits.2.0 had.values had.first;
      lined = λ row had. sets_lined sets row.values lined had;
    }

-- ---- CREATE

-- what holds of the statement that a CREATE means, and of no other
abbrev OfCreate : (List ℕ → Schema → Type 0) → Statement → Type 0
OfCreate Q (statement.Create name schema) = Q name schema
OfCreate Q (statement.Insert name rows) = Unit {0}
OfCreate Q (statement.Select name columns w) = Unit {0}
OfCreate Q (statement.Update name sets w) = Unit {0}
OfCreate Q (statement.Delete name w) = Unit {0}
OfCreate Q statement.Begin = Unit {0}
OfCreate Q statement.Commit = Unit {0}
OfCreate Q statement.Rollback = Unit {0}
OfCreate Q (statement.Refused refusal) = Unit {0}

module _ (tables : List (List ℕ × Schema)) (Q : List ℕ → Schema → Type 0) where
  abbrev P : Statement → Type 0
  P s = OfCreate Q s

  insert_none : (name : List ℕ) (rows : List (List Literal)) → P (stated (insert tables name rows))
  unfolding insert
  insert_none name rows =
      carried P (λ r. tt) (known NoSuchTable (schema_named tables name)) _ (λ schema is.
      carried P (λ r. tt) (ensure ColumnCount (are_counted schema.columns rows)) _ (λ counted count_is.
      carried P (λ r. tt) (rows_of schema.columns rows) _ (λ bound rows_are.
      carried P (λ r. tt) (ensure RowTooLarge (list_all (is_small schema) bound)) _ (λ small small_is. tt))))

  select_none : (name : List ℕ) (names : Option (List (List ℕ))) (w : List ParsedAtom) → P (stated (select tables name names w))
  unfolding select
  select_none name names w =
      carried P (λ r. tt) (known NoSuchTable (schema_named tables name)) _ (λ schema is.
      carried P (λ r. tt) (shown schema.columns names) _ (λ columns columns_are.
      carried P (λ r. tt) (ensure UnknownColumn (are_columns schema.columns w)) _ (λ all _.
      carried P (λ r. tt) (condition_of schema.columns w) _ (λ condition condition_is. tt))))

  update_none : (name : List ℕ) (sets : List ParsedSet) (w : List ParsedAtom) → P (stated (update tables name sets w))
  unfolding update
  update_none name sets w =
      carried P (λ r. tt) (known NoSuchTable (schema_named tables name)) _ (λ schema is.
      carried P (λ r. tt) (ensure UnknownColumn (are_settable schema.columns sets)) _ (λ settable _.
      carried P (λ r. tt) (ensure UnknownColumn (are_columns schema.columns w)) _ (λ all _.
      carried P (λ r. tt) (ensure KeyCannotBeSet (list_all (is_other schema.columns) sets)) _ (λ others others_are.
      carried P (λ r. tt) (sets_of schema.columns sets) _ (λ bound sets_are.
      carried P (λ r. tt) (condition_of schema.columns w) _ (λ condition condition_is. tt))))))

  delete_none : (name : List ℕ) (w : List ParsedAtom) → P (stated (delete tables name w))
  unfolding delete
  delete_none name w =
      carried P (λ r. tt) (known NoSuchTable (schema_named tables name)) _ (λ schema is.
      carried P (λ r. tt) (ensure UnknownColumn (are_columns schema.columns w)) _ (λ all _.
      carried P (λ r. tt) (condition_of schema.columns w) _ (λ condition condition_is. tt)))

  -- a bound statement, where it holds of a CREATE that is allowed at its place
  bound_of : (p : Parsed) (place : Place)
      → ((name key : List ℕ) (columns : List ParsedColumn) (indexes : List (List ℕ)) → p ≡ parsed.Create name key columns indexes → is_allowed place p ≡ true → P (stated (create tables name key columns indexes)))
      → P (bound tables p place)
  unfolding checked
  bound_of p place creates =
      carried P (λ r. tt) (ensure NotAllowedHere (is_allowed place p)) _ (λ allowed is.
      carried P (λ r. tt) (ensure AlreadyBegun (not (begins_again place p))) _ (λ first _. by p creates (ensured NotAllowedHere (is_allowed place p) allowed is)))
    where
      by : (q : Parsed) → ((name key : List ℕ) (columns : List ParsedColumn) (indexes : List (List ℕ)) → q ≡ parsed.Create name key columns indexes → is_allowed place q ≡ true → P (stated (create tables name key columns indexes)))
          → is_allowed place q ≡ true → P (stated (meant tables q))
      by (parsed.Create name key columns indexes) made allowed = made name key columns indexes refl allowed
      by (parsed.Insert name rows) made allowed = insert_none name rows
      by (parsed.Select name columns w) made allowed = select_none name columns w
      by (parsed.Update name sets w) made allowed = update_none name sets w
      by (parsed.Delete name w) made allowed = delete_none name w
      by parsed.Begin made allowed = tt
      by parsed.Commit made allowed = tt
      by parsed.Rollback made allowed = tt

  created_of : (name key : List ℕ) (columns : List ParsedColumn) (indexes : List (List ℕ))
      → ((schema : Schema) → is_table tables name ≡ false → nat_lt (length tables) table_limit ≡ true → is_short name ≡ true → schema_of key columns indexes ≡ Ok schema → Q name schema) → P (stated (create tables name key columns indexes))
  unfolding create
  created_of name key columns indexes made =
      carried P (λ r. tt) (ensure TableExists (not (is_table tables name))) _ (λ fresh fresh_is.
      carried P (λ r. tt) (ensure OutOfLimits (nat_lt (length tables) table_limit)) _ (λ room room_is.
      carried P (λ r. tt) (ensure OutOfLimits (is_short name)) _ (λ short short_is.
      carried P (λ r. tt) (schema_of key columns indexes) _ (λ schema schema_is.
      made schema (absent (is_table tables name) (ensured TableExists _ fresh fresh_is)) (ensured OutOfLimits (nat_lt (length tables) table_limit) room room_is) (ensured OutOfLimits (is_short name) short short_is) schema_is))))

below : (n : ℕ) → nat_lt n 64 ≡ true → n < 64
below n h = grind (arith, nat_tests, h)

at_most : (n : ℕ) → nat_le n 32 ≡ true → n ≤ 32
at_most n h = grind (arith, nat_tests, h)

made_of : (tables : List (List ℕ × Schema)) (name key : List ℕ) (columns : List ParsedColumn) (indexes : List (List ℕ)) (schema : Schema) → AreNames name key columns
    → is_table tables name ≡ false → nat_lt (length tables) table_limit ≡ true → is_short name ≡ true → schema_of key columns indexes ≡ Ok schema → MakesTable tables name schema
made_of tables name key columns indexes schema names fresh room short found = record {
  new = fresh;
  few = below (length tables) room;
  name_is = record { some = name_some name names.table_some; most = at_most (length name) short };
  columns = schema_columns key columns indexes schema found names.key_some names.columns_some;
}

pub create_makes_table : CreateMakesTable
create_makes_table tables place text name schema is =
    subst (OfCreate (MakesTable tables)) is
    (meaning_by (OfCreate (MakesTable tables)) tables place text (λ r. tt) (λ p read.
    bound_of tables (MakesTable tables) p place (λ table key columns indexes same allowed.
    created_of tables (MakesTable tables) table key columns indexes (λ found fresh room short schema_is.
    made_of tables table key columns indexes found (subst HasNames same (parsed_named text p read)) fresh room short schema_is))))

setup_only : (place : Place) (name key : List ℕ) (columns : List ParsedColumn) (indexes : List (List ℕ)) → is_allowed place (parsed.Create name key columns indexes) ≡ true → place ≡ places.Setup
setup_only places.Setup name key columns indexes allowed = refl
setup_only places.Session name key columns indexes allowed = absurd (let bad : false ≡ true = allowed in let no_way : ⊥ = cc in no_way)
setup_only places.InTransaction name key columns indexes allowed = absurd (let bad : false ≡ true = allowed in let no_way : ⊥ = cc in no_way)

pub create_in_setup : CreateInSetup
create_in_setup tables place text name schema is =
    subst (OfCreate (λ n s. place ≡ places.Setup)) is
    (meaning_by (OfCreate (λ n s. place ≡ places.Setup)) tables place text (λ r. tt) (λ p read.
    bound_of tables (λ n s. place ≡ places.Setup) p place (λ table key columns indexes same allowed.
    created_of tables (λ n s. place ≡ places.Setup) table key columns indexes (λ found fresh room short schema_is.
    setup_only place table key columns indexes (subst (λ (q : Parsed). is_allowed place q ≡ true) same allowed)))))
