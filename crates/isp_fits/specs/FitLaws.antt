-- The answers of events fit the script: turns never fall, each session's answers are numbered in order, and END stands where its
-- statements are over. A run is such events, from its first state to its last, and ends with all sessions over.
use Rattle.std.specs.Prelude.{◌≡◌, ◌↔◌, ℕ, ◌+◌, ◌≤◌, ◌==◌, Bool, true, false, List, [], length, map, All, Option, Some, None, if◌then◌else◌}
use Rattle.isp_serial.specs.declared.script.Script.{Script}
use Rattle.isp_serial.specs.Answers.{Answer, Fits, FitsSession, NeverFalls, answers_of, counted_from, is_end}
use Rattle.isp_serial.specs.Script.{answers_due, text_at, texts_of}
use Rattle.isp_events.specs.Sessions.{SessionState, session_at}
use Rattle.isp_events.specs.State.{State}
use Rattle.isp_events.specs.Ways.{Machine}
use Rattle.isp_events.specs.Lines.{Line, answers_in}
use Rattle.isp_events.specs.Events.{Events}
use Rattle.isp_events.specs.Runs.{Run}
use Rattle.isp_order.specs.InOrder.{IsProper, IsRested}

-- what a session was told so far, and how far it is: it is over exactly where all its answers are given
pub record HasTold (texts : List (List ℕ)) (s : ℕ) (session : SessionState) (answers : List Answer) : Type 0 where
  pub numbers : map (λ (a : Answer). a.number) answers ≡ counted_from 1 answers
  pub number : session.number ≡ length answers + 1
  pub most : length answers ≤ answers_due s texts
  pub ends : All (λ (a : Answer). (is_end a ≡ true) ↔ (a.number ≡ length texts + 1)) answers
  pub over : (session.over ≡ true) ↔ (length answers ≡ answers_due s texts)
  pub victim : session.victim ≡ true → session.number ≤ length texts

-- a session that the script doesn't have is over, and is told nothing
pub record HasNoTexts (session : SessionState) (answers : List Answer) : Type 0 where
  pub over : session.over ≡ true
  pub nothing : answers ≡ []

abbrev pub HasToldBy : Option (List (List ℕ)) → ℕ → SessionState → List Answer → Type 0
HasToldBy (Some texts) s session answers = HasTold texts s session answers
HasToldBy None s session answers = HasNoTexts session answers

abbrev pub HaveTold : Script → State → List Answer → Type 0
HaveTold script state answers = (s : ℕ) → HasToldBy (texts_of script s) s (session_at state.sessions s) (answers_of s answers)

-- what all events tell fits, but for being all
pub record AreFitting (m : Machine) (first : ℕ) (lines : List Line) (left : State) : Type 0 where
  pub turns : NeverFalls first (map (λ (a : Answer). a.turn) (answers_in lines))
  pub told : HaveTold m.script left (answers_in lines)

abbrev pub EventsFit : Type 0
EventsFit =
    (m : Machine) (first last : ℕ) (before left : State) (lines : List Line) → IsProper m → IsRested m before → Events m first last before lines left
    → AreFitting m first lines left

-- a run, as events
pub record RunLeads (m : Machine) (before : State) (lines : List Line) (left : State) : Type 0 where
  pub last : ℕ
  pub events : Events m 0 last before lines left
  pub prepared : (session_at left.sessions 0).over ≡ true
  pub all_over : m.script.stop ≡ false → (s : ℕ) → (session_at left.sessions s).over ≡ true

abbrev pub RunsLead : Type 0
RunsLead = (m : Machine) (before left : State) (lines : List Line) → IsProper m → IsRested m before → Run m before lines left → RunLeads m before lines left

-- what a run tells fits the script
abbrev pub RunsFit : Type 0
RunsFit = (m : Machine) (before left : State) (lines : List Line) → IsProper m → IsRested m before → Run m before lines left → Fits m.script (answers_in lines)
