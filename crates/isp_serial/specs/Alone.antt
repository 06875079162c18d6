-- Sessions that run one after another, each statement on the tables that the one before it left. Outside of a
-- transaction every statement is committed by itself. BEGIN opens a transaction, COMMIT keeps what was done in it, and
-- ROLLBACK, as the end of the session, brings the committed tables back (the MySQL 8.0 manual on START TRANSACTION,
-- COMMIT and autocommit).
use Rattle.std.specs.Prelude.{◌≡◌, ℕ, ◌<◌, ◌^◌, ◌+◌, ◌==◌, ◌&&◌, not, Bool, true, false, List, [], ◌∷◌, ◌++◌, length, if◌then◌else◌}
use Rattle.isp_serial.specs.declared.script.Place.{Place}
use Rattle.isp_serial.specs.declared.script.Place.TheVariants as place
use Rattle.isp_serial.specs.declared.script.Script.{Script}
use Rattle.isp_serial.specs.declared.script.Session.{Session}
use Rattle.isp_plain.specs.declared.statement.Statement.{Statement}
use Rattle.isp_plain.specs.declared.statement.Statement.TheVariants.{Begin, Commit, Rollback, Refused}
use Rattle.isp_serial.specs.Answers.{Answer, is_end, is_full, is_deadlock}
use Rattle.isp_plain.specs.Does.{does}
use Rattle.isp_plain.specs.Lined.{is_lined_statement}
use Rattle.isp_plain.specs.Refusals.{is_own}
use Rattle.isp_serial.specs.Serial.{done, place_at}
use Rattle.isp_serial.specs.Spelling.{IsShown}
use Rattle.isp_plain.specs.Tables.{Table}
use Rattle.isp_plain.specs.Texts.{end_text, full_text, reply_text}
use Rattle.isp_serial.specs.Transactions.{Effect, Language, begins, commits, rolls_back, stays}

-- where a run stands: the committed tables, those that the next statement finds, and whether a transaction is open
pub record State : Type 0 where
  pub committed : List Table
  pub present : List Table
  pub inside : Bool

-- no transaction is open
abbrev pub settled : List Table → State
settled tables = record { committed = tables; present = tables; inside = false }

-- what was open is given up
abbrev pub rolled_back : State → State
rolled_back state = settled state.committed

-- the tables are these now, and outside of a transaction they are committed
abbrev pub changed : State → List Table → State
changed state tables = record {
  committed = if state.inside then state.committed else tables;
  present = tables;
  inside = state.inside;
}

abbrev pub after_statement : State → Statement → State
after_statement state Begin = record { committed = state.committed; present = state.present; inside = true }
after_statement state Commit = settled state.present
after_statement state Rollback = rolled_back state
after_statement state statement = changed state (does state.present statement).tables

-- The statements that find the file full, by their sessions and numbers. Such a one leaves everything as it is, and a
-- transaction that is open stays open.
abbrev pub Full : Type 0
Full = ℕ → ℕ → Bool

-- none does, as on tables in memory
abbrev pub none_full : Full
none_full session number = false

abbrev pub after_text : Language → Full → ℕ → ℕ → List ℕ → State → State
after_text language full session number text state =
    if full session number then state
    else after_statement state (language.meaning state.present (place_at session state.inside) text)

-- the setup has turn 0 throughout, and a session's turn is the statement's number
abbrev pub turn_of : ℕ → ℕ → ℕ
turn_of session number = if session == 0 then 0 else number

abbrev pub answer_with : ℕ → ℕ → List ℕ → Answer
answer_with session number text = record { turn = turn_of session number; session = session; number = number; text = text }

abbrev pub answer_to : Language → Full → ℕ → ℕ → List ℕ → State → Answer
answer_to language full session number text state =
    answer_with session number
    (if full session number then full_text else reply_text (done language state.present session state.inside text).reply)

-- the answers to the texts, the first of them of this number
abbrev pub answers_to : Language → Full → ℕ → ℕ → List (List ℕ) → State → List Answer
answers_to language full session number [] state = []
answers_to language full session number (text ∷ texts) state =
    answer_to language full session number text state
    ∷ answers_to language full session (number + 1) texts (after_text language full session number text state)

abbrev pub after_texts : Language → Full → ℕ → ℕ → List (List ℕ) → State → State
after_texts language full session number [] state = state
after_texts language full session number (text ∷ texts) state =
    after_texts language full session (number + 1) texts (after_text language full session number text state)

-- a session's answers, the last of them its END
abbrev pub session_answers : Language → Full → Session → State → List Answer
session_answers language full session state =
    answers_to language full session.number 1 session.texts state
    ++ answer_with session.number (length session.texts + 1) end_text ∷ []

abbrev pub after_session : Language → Full → Session → State → State
after_session language full session state = rolled_back (after_texts language full session.number 1 session.texts state)

abbrev pub sessions_answers : Language → Full → List Session → State → List Answer
sessions_answers language full [] state = []
sessions_answers language full (session ∷ sessions) state =
    session_answers language full session state
    ++ sessions_answers language full sessions (after_session language full session state)

abbrev pub after_sessions : Language → Full → List Session → State → State
after_sessions language full [] state = state
after_sessions language full (session ∷ sessions) state =
    after_sessions language full sessions (after_session language full session state)

-- the whole run, from the tables at first: the setup and then the sessions
abbrev pub after_setup : Language → Full → List Table → Script → State
after_setup language full first script = after_texts language full 0 1 script.setup (settled first)

abbrev pub run_answers : Language → Full → List Table → Script → List Answer
run_answers language full first script =
    answers_to language full 0 1 script.setup (settled first)
    ++ sessions_answers language full script.sessions (after_setup language full first script)

abbrev pub run_after : Language → Full → List Table → Script → List Table
run_after language full first script =
    (after_sessions language full script.sessions (after_setup language full first script)).committed

-- no session but one at the most, which isn't the setup
abbrev pub IsAlone : List Session → Type 0
IsAlone [] = Unit {0}
IsAlone (session ∷ []) = (session.number == 0) ≡ false
IsAlone (session ∷ other ∷ sessions) = ⊥

-- sessions with fewer texts than 64 bits count
abbrev pub AreSmall : List Session → Type 0
AreSmall [] = Unit {0}
AreSmall (session ∷ sessions) = (session.number < 2 ^ 64) × (length session.texts + 1 < 2 ^ 64) × AreSmall sessions

-- what a statement does to transactions
abbrev pub effect_by : Statement → Effect
effect_by Begin = begins
effect_by Commit = commits
effect_by Rollback = rolls_back
effect_by statement = stays

-- a text of this effect may mean the statement: it has the same effect, or is a refusal that is neither a full file's
-- nor a deadlock's
abbrev pub MayMean : Effect → Statement → Type 0
MayMean effect (Refused refusal) = is_own refusal ≡ true
MayMean effect statement = effect ≡ effect_by statement

-- What of a language makes sessions alone serial: texts do to transactions what the statements that they mean do, no
-- transaction begins in the setup, and no line feed is put into a table.
pub record IsFaithful (language : Language) : Type 0 where
  pub meant : (tables : List Table) (at : Place) (text : List ℕ) → MayMean (language.effect text) (language.meaning tables at text)
  pub setup : (tables : List Table) (text : List ℕ) → language.meaning tables place.Setup text ≡ Begin → ⊥
  pub lined : (tables : List Table) (at : Place) (text : List ℕ) → is_lined_statement (language.meaning tables at text) ≡ true

-- An answer as a session alone gets it: a line shows it, its turn is 0 in the setup and the statement's number in a session,
-- and it is no deadlock's, since there is nobody to wait for.
pub record IsAnswerAlone (answer : Answer) : Type 0 where
  pub shown : IsShown answer
  pub turn : answer.turn ≡ turn_of answer.session answer.number
  pub not_deadlock : is_deadlock answer ≡ false

-- the answer is a full file's exactly where its statement is one of those that find the file full; an END is no statement's
abbrev pub IsFullWhere : Full → Answer → Type 0
IsFullWhere full answer = is_full answer ≡ (full answer.session answer.number && not (is_end answer))
