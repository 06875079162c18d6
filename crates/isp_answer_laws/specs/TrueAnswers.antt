-- An answer is what the statement would answer on plain tables, on those that its session saw as the statement began; and it leaves
-- what the session sees then.
use Rattle.std.specs.Prelude.{◌≡◌, ◌⊎◌, ℕ, Bool, List, Some}
use Rattle.isp_plain.specs.declared.statement.Reply.{Reply}
use Rattle.isp_plain.specs.declared.statement.Statement.{Statement}
use Rattle.isp_plain.specs.Does.{does}
use Rattle.isp_serial.specs.Script.{text_at}
use Rattle.isp_serial.specs.Serial.{place_at}
use Rattle.isp_events.specs.Sessions.{session_at}
use Rattle.isp_events.specs.State.{State}
use Rattle.isp_events.specs.Views.{beginning_view, view}
use Rattle.isp_events.specs.Ways.{Machine}
use Rattle.isp_events.specs.Events.{full_reply}
use Rattle.isp_order.specs.Locks.{without_rows}
use Rattle.isp_order.specs.InOrder.{InOrder, IsProper}
use Rattle.isp_replies.specs.Replies.{RepliesDone, RepliesFailed, RepliesFirst}
use Rattle.isp_answers.specs.Course.{AreOnCourse}
use Rattle.isp_answers.specs.Told.{Rests}

-- the session's text, what it means, what that does on the tables that were seen, and what the answer rests on
pub record IsTrueAnswer (m : Machine) (state : State) (s : ℕ) (reply : Reply) : Type 0 where
  pub text : List ℕ
  pub text_is : text_at m.script s (session_at state.sessions s).number ≡ Some text
  pub statement : Statement
  pub means : m.language.meaning (without_rows state.tables) (place_at s (session_at state.sessions s).inside) text ≡ statement
  pub reply_is : (does (beginning_view state s) statement).reply ≡ reply
  pub tables_are : (does (beginning_view state s) statement).tables ≡ view state s
  pub rests : Rests m state s (session_at state.sessions s).number (beginning_view state s) statement

-- so is each answer but those of a full file, of a victim and of an end
abbrev pub AnswersAreTrue : Type 0
AnswersAreTrue =
    (m : Machine) (state : State) (s : ℕ) (reply : Reply) (ends : Bool) → IsProper m → InOrder m state → AreOnCourse state
    → (RepliesFirst m state s (session_at state.sessions s) reply ends ⊎ (RepliesFailed (session_at state.sessions s) reply ends ⊎ RepliesDone (session_at state.sessions s) reply ends))
    → (reply ≡ full_reply → ⊥) → IsTrueAnswer m state s reply
