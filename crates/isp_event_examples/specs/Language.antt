-- A language of numbered statements to try the machine with: a text is one byte, the statement's number.
use Rattle.std.specs.Prelude.{ℕ, pos, ◌==◌, ◌&&◌, ◌||◌, Bool, true, false, not, cond, is_none, List, [], ◌∷◌, map, slice_get, Option, Some, None}
use Rattle.std.specs.List.{list_all}
use Rattle.std.specs.Option.{unwrap_or}
use Rattle.std.specs.Str.{bytes_eq}
use Rattle.isp_mbr.specs.declared.predicate.Test.TheVariants.{Intersects}
use Rattle.isp_geom.specs.declared.form.Form.TheVariants.{Point}
use Rattle.isp_plain.specs.declared.refusal.Refusal.TheVariants.{NoSuchTable, Syntax}
use Rattle.isp_plain.specs.Refusals.{is_own}
use Rattle.isp_plain.specs.declared.statement.Assign.{Assign}
use Rattle.isp_plain.specs.declared.statement.Atom.{Atom}
use Rattle.isp_plain.specs.declared.statement.Atom.TheVariants as atom
use Rattle.isp_plain.specs.declared.statement.Condition.{Condition}
use Rattle.isp_plain.specs.declared.statement.Op.TheVariants.{Eq}
use Rattle.isp_plain.specs.declared.statement.Statement.{Statement}
use Rattle.isp_plain.specs.declared.statement.Statement.TheVariants.{Create, Insert, Select, Update, Delete, Begin, Refused}
use Rattle.isp_plain.specs.declared.value.Column.{Column}
use Rattle.isp_plain.specs.declared.value.Kind.{Kind}
use Rattle.isp_plain.specs.declared.value.Kind.TheVariants.{BigInt, Geo}
use Rattle.isp_plain.specs.declared.value.Row.{Row}
use Rattle.isp_plain.specs.declared.value.Schema.{Schema}
use Rattle.isp_plain.specs.declared.value.Value.{Value}
use Rattle.isp_plain.specs.declared.value.Value.TheVariants as value
use Rattle.isp_plain.specs.Lined.{is_lined_statement}
use Rattle.isp_plain.specs.Tables.{definition_of}
use Rattle.isp_serial.specs.declared.script.Place.{Place}
use Rattle.isp_serial.specs.declared.script.Place.TheVariants as place
use Rattle.isp_serial.specs.Alone.{IsFaithful, effect_by}
use Rattle.isp_serial.specs.Transactions.{Language}
use Rattle.isp_laws.specs.Examples.{box}
use Rattle.isp_events.specs.Ways.{AreSound, IsServable, Way, by_key, by_box, by_scan, Ways, begins_with_number, condition_of, is_geometry, is_indexed}

-- ---- texts

abbrev pub statement_in : List Statement → List ℕ → Statement
statement_in statements (n ∷ []) = unwrap_or (slice_get statements n) (Refused Syntax)
statement_in statements _ = Refused Syntax

-- ---- what can be served, by tests

abbrev pub schema_named : List (List ℕ × Schema) → List ℕ → Option Schema
schema_named [] name = None
schema_named (d ∷ definitions) name = cond (bytes_eq d.0 name) (Some d.1) (schema_named definitions name)

abbrev pub has_geometries : List Column → List Value → Bool
has_geometries [] values = true
has_geometries (column ∷ columns) [] = not column.indexed && has_geometries columns []
has_geometries (column ∷ columns) (v ∷ values) = (not column.indexed || is_geometry (Some v)) && has_geometries columns values

abbrev pub is_storable : Schema → Row → Bool
is_storable schema row = begins_with_number row.values && has_geometries schema.columns row.values

abbrev pub is_settable : Schema → Assign → Bool
is_settable schema set = not (set.column == 0) && (not (is_indexed schema set.column) || is_geometry (Some set.v))

abbrev pub passes : (Schema → Bool) → Option Schema → Bool
passes test None = false
passes test (Some schema) = test schema

abbrev pub is_setup : Place → Bool
is_setup place.Setup = true
is_setup _ = false

abbrev pub is_number_kind : Kind → Bool
is_number_kind BigInt = true
is_number_kind _ = false

abbrev pub is_geometry_kind : Kind → Bool
is_geometry_kind Geo = true
is_geometry_kind _ = false

abbrev pub has_kind : (Kind → Bool) → Option Column → Bool
has_kind test None = false
has_kind test (Some column) = test column.kind

abbrev pub fits_tree : Column → Bool
fits_tree column = not column.indexed || is_geometry_kind column.kind

abbrev pub is_definition : Schema → Bool
is_definition schema = has_kind is_number_kind (slice_get schema.columns 0) && list_all fits_tree schema.columns

-- the statement can be served on tables of these names and columns
abbrev pub can_serve : List (List ℕ × Schema) → Place → Statement → Bool
can_serve definitions at (Create name schema) = is_setup at && (is_none (schema_named definitions name) && is_definition schema)
can_serve definitions at (Insert name rows) = passes (λ schema. list_all (is_storable schema) rows) (schema_named definitions name)
can_serve definitions at (Select name columns w) = passes (λ schema. true) (schema_named definitions name)
can_serve definitions at (Update name sets w) = passes (λ schema. list_all (is_settable schema) sets) (schema_named definitions name)
can_serve definitions at (Delete name w) = passes (λ schema. true) (schema_named definitions name)
can_serve definitions place.Setup Begin = false
can_serve definitions at (Refused refusal) = is_own refusal
can_serve definitions at _ = true

-- the statement, where it can be served and puts no line feed into a table; else a refusal
abbrev pub served_or_refused : List (List ℕ × Schema) → Place → Statement → Statement
served_or_refused definitions at statement =
    cond (can_serve definitions at statement && is_lined_statement statement) statement (Refused NoSuchTable)

abbrev pub numbered : List Statement → Language
numbered statements = record {
  meaning = λ tables at text. served_or_refused (map definition_of tables) at (statement_in statements text);
  effect = λ text. effect_by (statement_in statements text);
}

-- ---- ways

abbrev pub key_of_equality : ℕ → Value → Way → Way
key_of_equality column (value.Int key) other = cond (column == 0) (by_key key) other
key_of_equality column _ other = other

-- the way that the first test names
abbrev pub way_of_atom : Schema → Atom → Way
way_of_atom schema (atom.Cmp column Eq v) = key_of_equality column v by_scan
way_of_atom schema (atom.Cmp column _ v) = by_scan
way_of_atom schema (atom.Box column p) = cond (is_indexed schema column) (by_box column p) by_scan

abbrev pub way_of_atoms : Schema → List Atom → Way
way_of_atoms schema [] = by_scan
way_of_atoms schema (a ∷ atoms) = way_of_atom schema a

abbrev pub way_of_condition : Schema → Option Condition → Way
way_of_condition schema None = by_scan
way_of_condition schema (Some w) = way_of_atoms schema w.atoms

abbrev pub by_first_atom : Ways
by_first_atom schema statement = way_of_condition schema (condition_of statement)

-- ---- points

abbrev pub point_at : ℕ → ℕ → Value
point_at x y = value.Geo (Point (record { x = pos x; y = pos y }))

-- ---- conditions

abbrev pub meeting : ℕ → ℕ → ℕ → ℕ → ℕ → Condition
meeting column x1 y1 x2 y2 = record { atoms = atom.Box column (record { test = Intersects; q = box x1 y1 x2 y2 }) ∷ [] }

abbrev pub with_key : ℕ → Condition
with_key key = record { atoms = atom.Cmp 0 Eq (value.Int (pos key)) ∷ [] }

abbrev pub any_row : Condition
any_row = record { atoms = [] }

-- ---- they are good parameters

pub record LanguageFits : Type 0 where
  pub faithful : (statements : List Statement) → IsFaithful (numbered statements)
  pub servable : (statements : List Statement) → IsServable (numbered statements)
  pub sound : AreSound by_first_atom
