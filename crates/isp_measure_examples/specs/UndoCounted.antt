-- Why the undo entries of those sessions alone are counted that undo. Were those of all counted, a row would take one step from its statement, and
-- give one to its session: the first of two rows of an INSERT leaves all ten numbers as they are, and that of an UPDATE, of which each
-- change is counted exactly, raises the last, since the second row's entry begins its path there.
use Rattle.std.specs.Prelude.{◌≡◌, ℕ, ◌+◌, cond, List, [], ◌∷◌, ◌++◌, length, Option, Some, None}
use Rattle.isp_plain.specs.declared.statement.Statement.{Statement}
use Rattle.isp_plain.specs.declared.statement.Statement.TheVariants.{Update}
use Rattle.isp_serial.specs.declared.script.Script.{Script}
use Rattle.isp_events.specs.Stored.{StoredTable, indexed, table_at}
use Rattle.isp_events.specs.Sessions.{Change, Phase, writing, SessionState, Work, begun_change}
use Rattle.isp_events.specs.State.{State, session_numbers}
use Rattle.isp_events.specs.Ways.{Machine}
use Rattle.isp_events.specs.Events.{acts, Event, MayFollow, MayHappen, after, after_all}
use Rattle.isp_measure.specs.Order.{IsLower}
use Rattle.isp_measure.specs.Measure.{answers_left, gives_up, leaves_left, one_if_awake, one_if_onward, pages_again, pages_away, pages_of_path, pages_remembered, phases_left, steps_of_change, steps_of_phase, total, total_of_sessions}
use Rattle.isp_event_examples.specs.Language.{meeting, point_at}
use Rattle.isp_event_examples.specs.Points.{five, goes_down, machine_of, named_p, nothing, puts_on}
use Rattle.isp_event_examples.specs.Overtaken.{overtaking}
use Rattle.isp_measure_examples.specs.Falling.{events_from, overtaking_events}

-- ---- with the undo entries of all sessions

-- each change left as it will be begun
abbrev pub steps_of_begun : Statement → List ℕ → Change → ℕ
steps_of_begun statement columns change = steps_of_change (length columns) (begun_change statement columns change)

abbrev pub exact_steps : Statement → List ℕ → Phase → ℕ
exact_steps statement columns (writing done (change ∷ left) progress) = steps_of_change (length columns) progress + total (steps_of_begun statement columns) left
exact_steps statement columns phase = steps_of_phase (length columns) phase

abbrev pub exact_steps_of_work : List StoredTable → Option Work → ℕ
exact_steps_of_work tables None = 0
exact_steps_of_work tables (Some work) = exact_steps work.statement (indexed (table_at tables work.table)) work.phase

abbrev pub steps_with_undo : List StoredTable → ℕ → SessionState → ℕ
steps_with_undo tables s session = length session.undo + cond (gives_up session) 0 (exact_steps_of_work tables session.work)

-- the measure, with the undo entries of all sessions among the steps
abbrev pub with_undo_counted : Script → State → List ℕ
with_undo_counted script state =
    total_of_sessions (answers_left script) state.sessions
    ∷ length state.queue
    ∷ total_of_sessions one_if_onward state.sessions
    ∷ total_of_sessions (phases_left state.searches) state.sessions
    ∷ total_of_sessions (steps_with_undo state.tables) state.sessions
    ∷ total_of_sessions (leaves_left state.tables) state.sessions
    ∷ total (one_if_awake state.waits) session_numbers
    ∷ total (pages_away state.tables) state.searches
    ∷ total pages_remembered state.searches
    ∷ (total_of_sessions (pages_of_path state.tables) state.sessions + total (pages_again state.tables) state.searches)
    ∷ []

-- ---- an INSERT of two rows

-- until the first row is placed: two events of session 1 and six of session 2 behind the first
abbrev pub first_eight : List Event → List Event
first_eight (a ∷ b ∷ c ∷ d ∷ e ∷ f ∷ g ∷ h ∷ rest) = a ∷ b ∷ c ∷ d ∷ e ∷ f ∷ g ∷ h ∷ []
first_eight events = events

abbrev pub before_row : State
before_row = after_all overtaking five (first_eight overtaking_events)

-- ---- an UPDATE of two rows

-- session 1 moves the points (0,0) and (10,0)
abbrev pub moving : Machine
moving = machine_of (Update named_p (record { column = 1; v = point_at 6 4 } ∷ []) (meeting 1 0 0 10 1) ∷ []) ((0 ∷ []) ∷ []) [] []

abbrev pub ones : List ℕ
ones = 1 ∷ 1 ∷ 1 ∷ 1 ∷ 1 ∷ 1 ∷ 1 ∷ 1 ∷ []

abbrev pub moving_events : List Event
moving_events = events_from 1 ones (nothing 5 ++ goes_down (17 ∷ 19 ∷ []))

abbrev pub before_move : State
before_move = after_all moving five moving_events

pub record UndoCountedIsNoMeasure : Type 0 where
  pub insert_before : with_undo_counted overtaking.script before_row ≡ (5 ∷ 0 ∷ 17 ∷ 79 ∷ 4 ∷ 0 ∷ 17 ∷ 2 ∷ 1 ∷ 0 ∷ [])
  pub insert_may : MayHappen overtaking before_row (acts 2) (puts_on 16 (18 ∷ []))
  pub insert_behind : with_undo_counted overtaking.script (after overtaking before_row (acts 2) (puts_on 16 (18 ∷ []))) ≡ (5 ∷ 0 ∷ 17 ∷ 79 ∷ 4 ∷ 0 ∷ 17 ∷ 2 ∷ 1 ∷ 0 ∷ [])
  pub moving_happen : MayFollow moving 1 8 five moving_events
  pub update_before : with_undo_counted moving.script before_move ≡ (3 ∷ 0 ∷ 17 ∷ 81 ∷ 3 ∷ 0 ∷ 17 ∷ 1 ∷ 0 ∷ 0 ∷ [])
  pub update_may : MayHappen moving before_move (acts 1) (puts_on 0 (18 ∷ []))
  pub update_behind : with_undo_counted moving.script (after moving before_move (acts 1) (puts_on 0 (18 ∷ []))) ≡ (3 ∷ 0 ∷ 17 ∷ 81 ∷ 3 ∷ 0 ∷ 17 ∷ 1 ∷ 0 ∷ 2 ∷ [])
  pub update_raises : IsLower (3 ∷ 0 ∷ 17 ∷ 81 ∷ 3 ∷ 0 ∷ 17 ∷ 1 ∷ 0 ∷ 0 ∷ []) (3 ∷ 0 ∷ 17 ∷ 81 ∷ 3 ∷ 0 ∷ 17 ∷ 1 ∷ 0 ∷ 2 ∷ [])
