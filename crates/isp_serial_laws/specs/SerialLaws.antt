-- Every run of the page machine is serial: its transactions, done again one by one on plain tables in the order of their ends, give
-- the same answers and the final tables (the order of ends is a serial order under strict two-phase locking: Eswaran, Gray, Lorie
-- and Traiger 1976; what was not found stays away because its search is on every page on the way to it: Kornacker, Mohan and
-- Hellerstein 1997).
use Rattle.std.specs.Prelude.{◌≡◌, ℕ, false, List, []}
use Rattle.isp_plain.specs.Tables.{Table}
use Rattle.isp_serial.specs.Answers.{Answer}
use Rattle.isp_serial.specs.Serial.{EndsAll, Pending, Replays, none_pending}
use Rattle.isp_events.specs.State.{State}
use Rattle.isp_events.specs.Views.{committed}
use Rattle.isp_events.specs.Ways.{Machine}
use Rattle.isp_events.specs.Lines.{Line, answers_in}
use Rattle.isp_events.specs.Events.{Actor, Choice, Events, MayHappen, after, lines_of}
use Rattle.isp_order.specs.InOrder.{InOrder, IsProper, IsRested}
use Rattle.isp_answers.specs.Course.{AreOnCourse}
use Rattle.isp_answers.specs.Told.{AreTold}

-- answers that lead from what was told to what is told then
pub record ToldAfter (m : Machine) (before : State) (pending : Pending) (answers : List Answer) (now : State) : Type 0 where
  pub left : Pending
  pub ended : EndsAll m.language m.script (committed before) pending answers (committed now) left
  pub told : AreTold m now left

-- every event
abbrev pub EventsTell : Type 0
EventsTell =
    (m : Machine) (state : State) (turn : ℕ) (actor : Actor) (choice : Choice) (pending : Pending) → IsProper m → InOrder m state → AreOnCourse state → AreTold m state pending
    → MayHappen m state actor choice → ToldAfter m state pending (answers_in (lines_of m state turn actor choice)) (after m state actor choice)

-- the answers of lines, done again from the tables before, make those committed now, and what is open agrees on these, and rests on what
-- is locked and searched now
pub record AreReplayed (m : Machine) (before : State) (lines : List Line) (left : State) : Type 0 where
  pub pending : Pending
  pub ended : EndsAll m.language m.script (committed before) none_pending (answers_in lines) (committed left) pending
  pub told : AreTold m left pending
  pub still_open : (s : ℕ) → (replayed : List Table) × Replays m.language m.script false (committed left) (pending s) replayed

-- all events from a rested state
abbrev pub EventsAreReplayed : Type 0
EventsAreReplayed =
    (m : Machine) (first last : ℕ) (before left : State) (lines : List Line) → IsProper m → IsRested m before → Events m first last before lines left
    → AreReplayed m before lines left
