-- What holds of sessions that run one after another.
use Rattle.std.specs.Prelude.{◌≡◌, ℕ, ◌+◌, ◌<◌, ◌^◌, true, List, length, All}
use Rattle.isp_serial.specs.declared.script.Script.{Script}
use Rattle.isp_plain.specs.Lined.{are_lined}
use Rattle.isp_plain.specs.Tables.{Table}
use Rattle.isp_serial.specs.Alone.{AreSmall, Full, IsAlone, IsAnswerAlone, IsFaithful, IsFullWhere, State, after_texts, answers_to, run_answers, run_after}
use Rattle.isp_serial.specs.Answers.{Answer}
use Rattle.isp_serial.specs.Serial.{Serial}
use Rattle.isp_serial.specs.Transactions.{Language}

-- in a faithful language the answers of a session that runs alone are serial, from the tables at first to those that it
-- leaves, whichever statements find the file full
abbrev pub AloneIsSerial : Type 0
AloneIsSerial =
    (language : Language) (full : Full) (first : List Table) (script : Script) → IsFaithful language → IsAlone script.sessions →
    Serial language script first (run_answers language full first script) (run_after language full first script)

-- what is answered to sessions that run one after another, and that no line feed comes into their tables
pub record HasAnswers (full : Full) (answers : List Answer) (after : List Table) : Type 0 where
  pub alone : All IsAnswerAlone answers
  pub full_where : All (IsFullWhere full) answers
  pub lined : are_lined after ≡ true

-- from tables without a line feed, where numbers fit into 64 bits
abbrev pub AloneAnswers : Type 0
AloneAnswers =
    (language : Language) (full : Full) (first : List Table) (script : Script) → IsFaithful language → are_lined first ≡ true →
    length script.setup + 1 < 2 ^ 64 → AreSmall script.sessions →
    HasAnswers full (run_answers language full first script) (run_after language full first script)

-- texts are answered alike, and leave alike, where the same of them find the file full
pub record AnswersAlike (language : Language) (full other : Full) (session number : ℕ) (texts : List (List ℕ)) (state : State) : Type 0 where
  pub answers : answers_to language full session number texts state ≡ answers_to language other session number texts state
  pub after : after_texts language full session number texts state ≡ after_texts language other session number texts state

abbrev pub FullDecides : Type 0
FullDecides =
    (language : Language) (full other : Full) (session number : ℕ) (texts : List (List ℕ)) (state : State) →
    ((k : ℕ) → k < length texts → full session (number + k) ≡ other session (number + k)) →
    AnswersAlike language full other session number texts state
