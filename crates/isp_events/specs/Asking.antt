-- A lock is asked for: on the table of a statement, which begins its work, or on a key, which reads the row there (locks of tables
-- and rows as the MySQL 8.0 manual has them for InnoDB at SERIALIZABLE; that a key is locked whether or not a row has it is this
-- project's own). Who stands in the way is what `AreBlockers` says of the locks.
use Rattle.std.specs.Prelude.{ℕ, ℤ, Bool, cond, List, [], ◌∷◌, ◌++◌, length, map, slice_set, Option, Some, None}
use Rattle.std.specs.Option.{option_map}
use Rattle.isp_reclock.specs.declared.modes.Mode.{Mode}
use Rattle.isp_reclock.specs.Tables.{key_lock, table_lock, with_lock}
use Rattle.isp_plain.specs.declared.statement.Statement.{Statement}
use Rattle.isp_plain.specs.declared.statement.Statement.TheVariants.{Insert}
use Rattle.isp_plain.specs.declared.value.Row.{Row}
use Rattle.isp_events.specs.Stored.{StoredTable, indexed, present, row_of, table_at}
use Rattle.isp_events.specs.Sessions.{Failure, duplicate, too_large, Phase, locking, visiting, scanning, writing, unlocked, entering, SessionState, session_at, Work, adding, begun_entering, changes_of, outgrows_by, phase_with}
use Rattle.isp_events.specs.State.{State}
use Rattle.isp_events.specs.Ways.{Way, by_key, by_box, by_scan, Ways}

-- ---- a table's lock begins the work

abbrev pub phase_by : Way → Phase
phase_by (by_key key) = locking (key ∷ [])
phase_by (by_box column predicate) = visiting
phase_by by_scan = scanning None

abbrev pub first_phase : StoredTable → Statement → Way → Phase
first_phase table (Insert name rows) way = phase_with (Insert name rows) (indexed table) [] (map adding rows)
first_phase table _ way = phase_by way

abbrev pub begun_work : StoredTable → ℕ → Statement → Way → ℕ → Work
begun_work table number statement way undo = record {
  statement = statement;
  table = number;
  begun = undo;
  read = [];
  failure = None;
  phase = first_phase table statement way;
}

abbrev pub with_work : SessionState → Work → SessionState
with_work session work = record session { work = Some work }

abbrev pub after_table_lock : State → Ways → ℕ → Statement → ℕ → Mode → State
after_table_lock state ways s statement number mode =
    let table = table_at state.tables number in
    let session = session_at state.sessions s in
    record state {
      locks = with_lock state.locks (table_lock s number mode);
      sessions = slice_set state.sessions s (with_work session (begun_work table number statement (ways table.schema statement) (length session.undo)));
    }

-- ---- a key's lock reads the row

-- what was read of keys that a condition's way found; INSERT's look at its key isn't a read of its statement
abbrev pub read_with : Phase → List (ℤ × Option Row) → Option Row → List (ℤ × Option Row)
read_with (locking (key ∷ keys)) read row = read ++ (key, row) ∷ []
read_with _ read row = read

abbrev pub noted : Bool → Failure → Option Failure → Option Failure
noted fails failure other = cond fails (Some failure) other

-- UPDATE fails with a row that would get too large, INSERT with one that has its key
abbrev pub failure_of_found : StoredTable → Statement → Option Row → Option Failure → Option Failure
failure_of_found table statement None other = other
failure_of_found table statement (Some row) other = noted (outgrows_by table.schema statement row) too_large other

abbrev pub failure_of_duplicate : ℤ → Option Row → Option Failure → Option Failure
failure_of_duplicate key None other = other
failure_of_duplicate key (Some row) other = Some (duplicate key)

abbrev pub failure_with : StoredTable → Statement → Phase → Option Row → Option Failure → Option Failure
failure_with table statement (locking keys) row other = failure_of_found table statement row other
failure_with table statement (writing done (change ∷ left) unlocked) row other = failure_of_duplicate change.key row other
failure_with table statement _ row other = other

-- with the last key the changes are made, of all that was read
abbrev pub phase_of_keys : StoredTable → Statement → List ℤ → List (ℤ × Option Row) → Phase
phase_of_keys table statement [] read = phase_with statement (indexed table) [] (changes_of statement read)
phase_of_keys table statement (key ∷ keys) read = locking (key ∷ keys)

abbrev pub phase_after_key : StoredTable → Statement → Phase → List (ℤ × Option Row) → Phase
phase_after_key table statement (locking (key ∷ keys)) read = phase_of_keys table statement keys read
phase_after_key table statement (writing done (change ∷ left) unlocked) read = writing done (change ∷ left) (entering (begun_entering (indexed table) change))
phase_after_key table statement phase read = phase

-- the work after the lock on its next key, at which this row stands
abbrev pub work_after_key : StoredTable → Option Row → Work → Work
work_after_key table row work = record work {
  read = read_with work.phase work.read row;
  failure = failure_with table work.statement work.phase row work.failure;
  phase = phase_after_key table work.statement work.phase (read_with work.phase work.read row);
}

abbrev pub change_work : (Work → Work) → SessionState → SessionState
change_work f session = record session { work = option_map f session.work }

abbrev pub after_key_lock : State → ℕ → ℕ → ℤ → Mode → State
after_key_lock state s number key mode =
    let table = table_at state.tables number in
    record state {
      locks = with_lock state.locks (key_lock s number key mode);
      sessions = slice_set state.sessions s (change_work (work_after_key table (row_of (present table key))) (session_at state.sessions s));
    }
