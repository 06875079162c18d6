-- A full file's answer has its reason: the statement found no room for a change, which a line of a trace tells, or it is a CREATE and
-- there is no room.
use Rattle.std.specs.Prelude.{◌≡◌, ◌⊎◌, ℕ, true, false, List, Some}
use Rattle.isp_base.specs.Lists.{Has}
use Rattle.isp_serial.specs.Answers.{Answer, is_full}
use Rattle.isp_plain.specs.declared.value.Schema.{Schema}
use Rattle.isp_events.specs.Sessions.{session_at}
use Rattle.isp_events.specs.State.{State, has_room}
use Rattle.isp_events.specs.Ways.{Machine}
use Rattle.isp_events.specs.Lines.{Line, answers_in, found_full, of_session, traced}
use Rattle.isp_events.specs.Next.{creates, next}
use Rattle.isp_events.specs.Events.{Choice, Events, MayHappen, acts, lines_of}
use Rattle.isp_order.specs.InOrder.{IsProper, IsRested}

-- a line tells that the session's statement found no room
pub record IsFoundFull (lines : List Line) (s number : ℕ) : Type 0 where
  pub line : Line
  pub among : Has lines line
  pub whose : line.whose ≡ of_session s number
  pub told : line.told ≡ traced found_full

-- CREATE is next of the session, and there is no room
pub record IsWithoutRoom (m : Machine) (state : State) (s : ℕ) : Type 0 where
  pub name : List ℕ
  pub schema : Schema
  pub create : next m state s ≡ Some (creates name schema)
  pub no_room : has_room state ≡ false

abbrev pub FullIsCaused : Type 0
FullIsCaused =
    (m : Machine) (first last : ℕ) (before at : State) (earlier : List Line) → IsProper m → IsRested m before → Events m first last before earlier at
    → (s turn : ℕ) (choice : Choice) → MayHappen m at (acts s) choice → (a : Answer) → Has (answers_in (lines_of m at turn (acts s) choice)) a → is_full a ≡ true
    → IsFoundFull earlier s a.number ⊎ IsWithoutRoom m at s
