-- Runs: the setup, the schedule's words turn by turn, and then the drain, in which the unfinished sessions take turns in rounds until
-- all are over, and the queue is purged. Each turn is one event, or none where its session is over or waits, or there is nothing
-- to purge.
use Rattle.std.specs.Prelude.{◌≡◌, ℕ, zero, suc, ◌+◌, ◌^◌, ◌-◌, min, Bool, true, false, not, ◌||◌, MatchBool, List, [], ◌∷◌, ◌++◌, filter, flat_map, length, map, replicate, drop}
use Rattle.isp_serial.specs.declared.script.Word.{Word}
use Rattle.isp_serial.specs.declared.script.Word.TheVariants as word
use Rattle.isp_events.specs.Sessions.{session_at}
use Rattle.isp_events.specs.State.{State, is_empty, is_waiting, session_numbers}
use Rattle.isp_events.specs.Ways.{Machine}
use Rattle.isp_events.specs.Lines.{Line}
use Rattle.isp_events.specs.Events.{Actor, acts, purges, flushes, lists_locks, Choice, MayHappen, after, lines_of}

-- ---- turns

-- turns count on, and stand at the last number of 64 bits once there
abbrev pub last_turn : ℕ
last_turn = 2 ^ 64 - 1

abbrev pub next_turn : ℕ → ℕ
next_turn turn = min (turn + 1) last_turn

abbrev pub is_over : State → ℕ → Bool
is_over state s = (session_at state.sessions s).over

-- the actor's turn is no event
abbrev pub is_idle : State → Actor → Bool
is_idle state (acts s) = is_over state s || is_waiting state.waits s
is_idle state purges = is_empty state.queue
is_idle state flushes = false
is_idle state lists_locks = false

-- one event of the actor leads from one state to the other
pub record Happens (m : Machine) (turn : ℕ) (before : State) (actor : Actor) (lines : List Line) (left : State) : Type 0 where
  pub choice : Choice
  pub may : MayHappen m before actor choice
  pub told : lines_of m before turn actor choice ≡ lines
  pub ends : after m before actor choice ≡ left

abbrev pub NothingHappens : State → List Line → State → Type 0
NothingHappens before lines left = (lines ≡ []) × (left ≡ before)

-- a turn of the actor
abbrev pub TakesTurn : Machine → ℕ → State → Actor → List Line → State → Type 0
TakesTurn m turn before actor lines left =
    MatchBool (is_idle before actor) (NothingHappens before lines left) (Happens m turn before actor lines left)

-- turns of these actors behind that of this number, one after another, and the number of the last one
abbrev pub TakeTurns : Machine → ℕ → State → List Actor → List Line → State → ℕ → Type 0
TakeTurns m turn before [] lines left last = NothingHappens before lines left × (last ≡ turn)
TakeTurns m turn before (actor ∷ actors) lines left last =
    (here rest : List Line) × (between : State) × TakesTurn m (next_turn turn) before actor here between
    × TakeTurns m (next_turn turn) between actors rest left last × (here ++ rest ≡ lines)

-- ---- the setup

-- events of session 0 in turn 0, until it is over, of which there are so many
abbrev pub PreparesIn : Machine → ℕ → State → List Line → State → Type 0
PreparesIn m zero before lines left = NothingHappens before lines left × (is_over before 0 ≡ true)
PreparesIn m (suc n) before lines left =
    (here rest : List Line) × (between : State) × Happens m 0 before (acts 0) here between
    × PreparesIn m n between rest left × (here ++ rest ≡ lines)

-- ---- the schedule

abbrev pub actors_in : Word → List Actor
actors_in (word.Turn session times) = replicate times (acts session)
actors_in word.Purge = purges ∷ []
actors_in word.Flush = flushes ∷ []
actors_in word.Locks = lists_locks ∷ []

abbrev pub actors_of : List Word → List Actor
actors_of words = flat_map actors_in words

-- ---- the drain

-- the sessions that aren't over, rising; the setup isn't one of them
abbrev pub unfinished : State → List ℕ
unfinished state = filter (λ s. not (is_over state s)) (drop 1 session_numbers)

abbrev pub round : State → List Actor
round state = map acts (unfinished state)

-- so many rounds, until all are over, and then purges until the queue is empty
abbrev pub DrainsIn : Machine → ℕ → ℕ → State → List Line → State → Type 0
DrainsIn m zero turn before lines left =
    (last : ℕ) × (unfinished before ≡ []) × TakeTurns m turn before (replicate (length before.queue) purges) lines left last
DrainsIn m (suc n) turn before lines left =
    (here rest : List Line) × (between : State) × (last : ℕ) × TakeTurns m turn before (round before) here between last
    × DrainsIn m n last between rest left × (here ++ rest ≡ lines)

-- ---- a run

pub record Run (m : Machine) (before : State) (lines : List Line) (left : State) : Type 0 where
  pub setup : List Line
  pub prepared : State
  pub prepares : (n : ℕ) × PreparesIn m n before setup prepared
  pub schedule : List Line
  pub scheduled : State
  pub turn : ℕ
  pub turns : TakeTurns m 0 prepared (actors_of m.script.words) schedule scheduled turn
  -- where the script doesn't stop
  pub drain : List Line
  pub drains : MatchBool m.script.stop (NothingHappens scheduled drain left) ((n : ℕ) × DrainsIn m n turn scheduled drain left)
  pub told : setup ++ (schedule ++ drain) ≡ lines
