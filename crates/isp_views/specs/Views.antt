-- What is committed and what each session saw as its statement began, by table and key and as lists of tables, and which events leave it.
use Rattle.std.specs.Prelude.{◌≡◌, ◌⊎◌, ◌==◌, ℕ, suc, ℤ, Bool, true, false, List, map, Option}
use Rattle.std.specs.Option.{option_map}
use Rattle.isp_plain.specs.declared.statement.Statement.{Statement}
use Rattle.isp_plain.specs.declared.value.Row.{Row}
use Rattle.isp_plain.specs.declared.value.Schema.{Schema}
use Rattle.isp_plain.specs.Tables.{Table, definition_of}
use Rattle.isp_changes.specs.Rows.{AreRisingTables}
use Rattle.isp_changes.specs.Changes.{row_in}
use Rattle.isp_events.specs.Stored.{StoredTable, present, row_of, table_at}
use Rattle.isp_events.specs.Sessions.{SessionState, session_at}
use Rattle.isp_events.specs.State.{State}
use Rattle.isp_events.specs.Views.{beginning_view, committed, committed_row, has_written, view_at, view_at_beginning}
use Rattle.isp_events.specs.Ways.{Machine}
use Rattle.isp_order.specs.InOrder.{InOrder, IsProper}
use Rattle.isp_answers.specs.Told.{gives_up}

-- a table's name and columns
abbrev pub definition_at : StoredTable → List ℕ × Schema
definition_at table = (table.name, table.schema)

-- tables that show at each place and key what the function has there
pub record IsShown (tables : List StoredTable) (row : ℕ → ℤ → Option Row) (plain : List Table) : Type 0 where
  pub definitions : map definition_of plain ≡ map definition_at tables
  pub rise : AreRisingTables plain
  pub each : (place : ℕ) (key : ℤ) → row_in plain place key ≡ row (suc place) key

-- what is committed, and what a session saw
pub record AreShown (state : State) : Type 0 where
  pub committed_shown : IsShown state.tables (committed_row state) (committed state)
  pub views_shown : (s : ℕ) → IsShown state.tables (view_at_beginning state s) (beginning_view state s)

abbrev pub StatesAreShown : Type 0
StatesAreShown = (m : Machine) (state : State) → InOrder m state → AreShown state

-- an event that leaves what is committed, and what each session saw that doesn't give its transaction up
pub record IsUnmoved (m : Machine) (before now : State) : Type 0 where
  pub definitions : map definition_at now.tables ≡ map definition_at before.tables
  pub committed_same : (table : ℕ) (key : ℤ) → committed_row now table key ≡ committed_row before table key
  pub going : (s : ℕ) → gives_up m now.tables s (session_at now.sessions s) ≡ false → gives_up m before.tables s (session_at before.sessions s) ≡ false
  pub inside : (s : ℕ) → (session_at now.sessions s).inside ≡ (session_at before.sessions s).inside
  pub views : (s : ℕ) → gives_up m before.tables s (session_at before.sessions s) ≡ false
      → (table : ℕ) (key : ℤ) → view_at_beginning now s table key ≡ view_at_beginning before s table key
