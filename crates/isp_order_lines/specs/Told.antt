-- What lines tell of waits and deadlocks: who waits for whom, which cycle a deadlock's line shows, and whose answer is a deadlock's
-- (deadlock detection as the MySQL 8.0 manual has it for InnoDB).
use Rattle.std.specs.Prelude.{◌≡◌, ◌↔◌, ℕ, ◌+◌, true, List, [], ◌∷◌, ◌++◌, length, Option, Some, None}
use Rattle.isp_waits.specs.Cycles.{IsLeastCycle}
use Rattle.isp_waits.specs.Victims.{IsVictim}
use Rattle.isp_serial.specs.Answers.{Answer, answers_of, is_deadlock}
use Rattle.isp_forest.specs.Steps.{is_among}
use Rattle.isp_events.specs.State.{State, without}
use Rattle.isp_events.specs.Ways.{Machine}
use Rattle.isp_events.specs.Lines.{Line, Told, answer_in, answers_in, deadlock, edges_of, of_session}
use Rattle.isp_events.specs.Deadlocks.{undo_lengths}
use Rattle.isp_events.specs.Events.{Choice, Events, MayHappen, acts, lines_of}
use Rattle.isp_order.specs.Locks.{HaveNoCycle}
use Rattle.isp_order.specs.InOrder.{IsProper, IsRested}

-- ---- waits

-- from a rested state, who waits for whom is what the lines tell
abbrev pub LinesTellWhoWaits : Type 0
LinesTellWhoWaits =
    (m : Machine) (first last : ℕ) (before left : State) (lines : List Line) → IsProper m → IsRested m before → Events m first last before lines left
    → edges_of m.script m.language lines ≡ left.waits

-- and as they tell, nobody waits in a circle after an event
abbrev pub NoCycleIsTold : Type 0
NoCycleIsTold =
    (m : Machine) (first last : ℕ) (before left : State) (lines : List Line) → IsProper m → IsRested m before → Events m first last before lines left
    → HaveNoCycle (edges_of m.script m.language lines)

-- ---- deadlocks

-- The line tells a deadlock that the session's wait made: the cycle is a least one through it, of the waits that the lines before it
-- tell; and the victim is chosen by what each member would have had to undo as the session began to wait.
pub record IsToldDeadlock (m : Machine) (first : ℕ) (before : State) (earlier : List Line) (line : Line) (members : List ℕ) (victim : ℕ) : Type 0 where
  pub session : ℕ
  pub number : ℕ
  pub whose : line.whose ≡ of_session session number
  pub cycle : IsLeastCycle (edges_of m.script m.language earlier) session members
  -- the event that told it: where it happened, and its lines before this one and behind it
  pub at : State
  pub lines : List Line
  pub events : Events m first line.turn before lines at
  pub choice : Choice
  pub happens : MayHappen m at (acts session) choice
  pub own : List Line
  pub others : List Line
  pub told : lines_of m at line.turn (acts session) choice ≡ own ++ line ∷ others
  pub behind : lines ++ own ≡ earlier
  pub chosen : IsVictim members (undo_lengths at.sessions) victim

abbrev pub DeadlocksAreLeast : Type 0
DeadlocksAreLeast =
    (m : Machine) (first last : ℕ) (before left : State) (lines earlier later : List Line) (line : Line) (members : List ℕ) (victim : ℕ)
    → IsProper m → IsRested m before → Events m first last before lines left → lines ≡ earlier ++ line ∷ later → line.told ≡ deadlock members victim
    → IsToldDeadlock m first before earlier line members victim

-- ---- victims

abbrev pub victims_told : Told → List ℕ → List ℕ
victims_told (deadlock members victim) victims = victim ∷ victims
victims_told _ victims = victims

abbrev pub victims_answered : Option Answer → List ℕ → List ℕ
victims_answered None victims = victims
victims_answered (Some a) victims = without a.session victims

abbrev pub victims_after : List ℕ → List Line → List ℕ
victims_after victims [] = victims
victims_after victims (line ∷ lines) = victims_after (victims_answered (answer_in line) (victims_told line.told victims)) lines

-- the sessions that these lines name as victims and that got no answer since
abbrev pub victims_of : List Line → List ℕ
victims_of lines = victims_after [] lines

-- a line names the session as a victim, and none of the session's answers stands behind it
pub record IsNamedVictim (earlier : List Line) (session : ℕ) : Type 0 where
  pub before : List Line
  pub line : Line
  pub members : List ℕ
  pub behind : List Line
  pub parts : before ++ line ∷ behind ≡ earlier
  pub names : line.told ≡ deadlock members session
  pub unanswered : answers_of session (answers_in behind) ≡ []

abbrev pub VictimsAreNamed : Type 0
VictimsAreNamed = (earlier : List Line) (session : ℕ) → (is_among (victims_of earlier) session ≡ true) ↔ IsNamedVictim earlier session

-- an answer is a deadlock's exactly where its session is such a victim
abbrev pub VictimsAreAnswered : Type 0
VictimsAreAnswered =
    (m : Machine) (first last : ℕ) (before left : State) (lines earlier later : List Line) (line : Line) (a : Answer)
    → IsProper m → IsRested m before → Events m first last before lines left → lines ≡ earlier ++ line ∷ later → answer_in line ≡ Some a
    → is_deadlock a ≡ is_among (victims_of earlier) a.session

-- a session's answers are numbered 1, 2, 3 and so on: so the victim's next answer is that of the statement that waited
abbrev pub AnswersAreNumbered : Type 0
AnswersAreNumbered =
    (m : Machine) (first last : ℕ) (before left : State) (lines earlier later : List Line) (line : Line) (a : Answer)
    → IsProper m → IsRested m before → Events m first last before lines left → lines ≡ earlier ++ line ∷ later → answer_in line ≡ Some a
    → a.number ≡ 1 + length (answers_of a.session (answers_in earlier))
