-- Why an answer comes next, with what it says and whether it ends the transaction; and why a session without work undoes.
use Rattle.std.specs.Prelude.{◌≡◌, ◌⊎◌, ℕ, ◌==◌, Bool, true, false, not, List, [], drop, Option, Some, None}
use Rattle.isp_plain.specs.declared.statement.Reply.{Reply}
use Rattle.isp_plain.specs.declared.statement.Reply.TheVariants as says
use Rattle.isp_plain.specs.declared.statement.Statement.{Statement}
use Rattle.isp_plain.specs.declared.statement.Statement.TheVariants.{Begin, Commit, Rollback, Refused}
use Rattle.isp_serial.specs.Script.{text_at}
use Rattle.isp_events.specs.Sessions.{Change, Failure, answering, SessionState, session_at, Work}
use Rattle.isp_events.specs.State.{State}
use Rattle.isp_events.specs.Ways.{Machine}
use Rattle.isp_events.specs.Next.{EventKind, answers, undoes, deadlock_reply, failure_reply, next, reply_of}
use Rattle.isp_causes.specs.Causes.{GoesOn, IsAtFirst}

-- a victim, which has undone all
pub record RepliesVictim (session : SessionState) (reply : Reply) (ends : Bool) : Type 0 where
  pub victim : session.victim ≡ true
  pub undone : session.undo ≡ []
  pub reply_is : reply ≡ deadlock_reply
  pub ends_is : ends ≡ true

-- a session without a statement left, which has undone all
pub record RepliesEnd (m : Machine) (s : ℕ) (session : SessionState) (reply : Reply) (ends : Bool) : Type 0 where
  pub undisturbed : session.victim ≡ false
  pub no_text : text_at m.script s session.number ≡ None
  pub not_setup : (s == 0) ≡ false
  pub undone : session.undo ≡ []
  pub reply_is : reply ≡ says.End
  pub ends_is : ends ≡ true

-- a statement that reads no table
abbrev pub AnswersFirst : SessionState → Statement → Reply → Bool → Type 0
AnswersFirst session (Refused refusal) reply ends = (reply ≡ says.Err refusal) × (ends ≡ not session.inside)
AnswersFirst session Begin reply ends = (reply ≡ says.Ok) × (ends ≡ false)
AnswersFirst session Commit reply ends = (reply ≡ says.Ok) × (ends ≡ true)
AnswersFirst session Rollback reply ends = (reply ≡ says.Ok) × (ends ≡ true) × (session.undo ≡ [])
AnswersFirst session _ reply ends = ⊥

pub record RepliesFirst (m : Machine) (state : State) (s : ℕ) (session : SessionState) (reply : Reply) (ends : Bool) : Type 0 where
  pub statement : Statement
  pub first : IsAtFirst m state s session statement
  pub answers : AnswersFirst session statement reply ends

-- a statement that has failed, and has undone what it did
pub record RepliesFailed (session : SessionState) (reply : Reply) (ends : Bool) : Type 0 where
  pub undisturbed : session.victim ≡ false
  pub work : Work
  pub at_work : session.work ≡ Some work
  pub failure : Failure
  pub failed : work.failure ≡ Some failure
  pub undone : drop work.begun session.undo ≡ []
  pub reply_is : reply ≡ failure_reply failure
  pub ends_is : ends ≡ not session.inside

-- one that has done all
pub record RepliesDone (session : SessionState) (reply : Reply) (ends : Bool) : Type 0 where
  pub work : Work
  pub goes_on : GoesOn session work
  pub done : List Change
  pub phase : work.phase ≡ answering done
  pub reply_is : reply ≡ reply_of work.statement work.read done
  pub ends_is : ends ≡ not session.inside

abbrev pub Replies : Machine → State → ℕ → SessionState → Reply → Bool → Type 0
Replies m state s session reply ends =
    RepliesVictim session reply ends ⊎ (RepliesEnd m s session reply ends
    ⊎ (RepliesFirst m state s session reply ends ⊎ (RepliesFailed session reply ends ⊎ RepliesDone session reply ends)))

-- who undoes without work rolls its transaction back
abbrev pub RollsBack : Machine → State → ℕ → SessionState → Type 0
RollsBack m state s session =
    session.work ≡ None → session.victim ≡ false → (text_at m.script s session.number ≡ None) ⊎ IsAtFirst m state s session Rollback

abbrev pub Reason : Machine → State → ℕ → SessionState → EventKind → Type 0
Reason m state s session (answers reply ends) = Replies m state s session reply ends
Reason m state s session (undoes entry) = RollsBack m state s session
Reason m state s session kind = Unit {0}

abbrev pub NextHasReason : Type 0
NextHasReason = (m : Machine) (state : State) (s : ℕ) (kind : EventKind) → next m state s ≡ Some kind → Reason m state s (session_at state.sessions s) kind
