-- The theorem: what events tell is serial so far, and a run is serial (`Serial` of plain tables, in which no interleaving, page,
-- lock or log is).
use Rattle.std.specs.Prelude.{◌≡◌, ℕ, false, List, Some}
use Rattle.isp_serial.specs.Serial.{Serial, none_pending}
use Rattle.isp_events.specs.Stored.{present, row_of, table_at}
use Rattle.isp_events.specs.State.{State}
use Rattle.isp_events.specs.Views.{committed, seen}
use Rattle.isp_events.specs.Ways.{Machine}
use Rattle.isp_events.specs.Lines.{Line, answers_in}
use Rattle.isp_events.specs.Events.{Events}
use Rattle.isp_events.specs.Runs.{Run}
use Rattle.isp_event_laws.specs.SerialAfter.{serial_from}
use Rattle.isp_order.specs.Locks.{AreCompatible, AreLocked}
use Rattle.isp_order.specs.Searches.{AreCovered, AreKnown}
use Rattle.isp_order.specs.InOrder.{IsProper, IsRested}
use Rattle.isp_fits.specs.FitLaws.{AreFitting}
use Rattle.isp_serial_laws.specs.SerialLaws.{AreReplayed}

-- so far: what was told, done again in the order of ends, makes the tables committed now; what is open agrees on these; and the answers
-- fit the script but for being all
pub record AreSerialSoFar (m : Machine) (first : ℕ) (before : State) (lines : List Line) (left : State) : Type 0 where
  pub replayed : AreReplayed m before lines left
  pub fitting : AreFitting m first lines left

abbrev pub EventsAreSerial : Type 0
EventsAreSerial =
    (m : Machine) (first last : ℕ) (before left : State) (lines : List Line) → IsProper m → IsRested m before → Events m first last before lines left
    → AreSerialSoFar m first before lines left

-- so to compute them one transaction after another gives the committed tables
abbrev pub EventsCompute : Type 0
EventsCompute =
    (m : Machine) (first last : ℕ) (before left : State) (lines : List Line) → IsProper m → IsRested m before → Events m first last before lines left
    → serial_from m.language m.script (committed before) none_pending (answers_in lines) ≡ Some (committed left)

-- a whole run
abbrev pub RunIsSerial : Type 0
RunIsSerial =
    (m : Machine) (before left : State) (lines : List Line) → IsProper m → IsRested m before → Run m before lines left
    → Serial m.language m.script (committed before) (answers_in lines) (committed left)

-- without `stop` nothing is left to be undone, so the committed tables are the unmarked rows
abbrev pub RunLeavesRows : Type 0
RunLeavesRows =
    (m : Machine) (before left : State) (lines : List Line) → IsProper m → IsRested m before → Run m before lines left → m.script.stop ≡ false
    → committed left ≡ seen (λ table key. row_of (present (table_at left.tables table) key)) left.tables

-- at each moment: nobody holds what excludes another, what a session would undo is locked by it, and searches are covered and known
pub record IsGuarded (state : State) : Type 0 where
  pub no_conflict : AreCompatible state.locks
  pub written_locked : AreLocked state.locks state.sessions
  pub covered : AreCovered state.tables state.searches
  pub known : AreKnown state.tables state.searches state.sessions

abbrev pub EventsAreGuarded : Type 0
EventsAreGuarded =
    (m : Machine) (first last : ℕ) (before left : State) (lines : List Line) → IsProper m → IsRested m before → Events m first last before lines left → IsGuarded left
