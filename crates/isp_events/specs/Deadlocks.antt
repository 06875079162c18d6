-- A session that waits, and what comes of it where it closes a cycle of waits: a victim gives way (deadlock detection as the MySQL 8.0
-- manual has it for InnoDB; which cycle is told and which victim is chosen is this project's own).
use Rattle.std.specs.Prelude.{ℕ, ◌==◌, ◌≡◌, true, MatchBool, List, [], ◌∷◌, length, map, slice_set}
use Rattle.isp_waits.specs.Cycles.{IsFree, IsLeastCycle}
use Rattle.isp_waits.specs.Victims.{IsVictim}
use Rattle.isp_events.specs.Sessions.{SessionState, session_at}
use Rattle.isp_events.specs.State.{State}
use Rattle.isp_events.specs.Lines.{Line, Whose, deadlock}

-- a cycle of waits, which begins with the session that closed it, and the member that gives way
pub record Deadlock : Type 0 where
  pub members : List ℕ
  pub victim : ℕ

-- how much each session would have to undo
abbrev pub undo_lengths : List SessionState → List ℕ
undo_lengths sessions = map (λ session. length session.undo) sessions

-- the victims wait for nobody
abbrev pub broken : List (List ℕ) → List Deadlock → List (List ℕ)
broken waits [] = waits
broken waits (d ∷ ds) = broken (slice_set waits d.victim []) ds

-- and are known as victims
abbrev pub as_victim : SessionState → SessionState
as_victim session = record session { victim = true }

abbrev pub with_victims : List SessionState → List Deadlock → List SessionState
with_victims sessions [] = sessions
with_victims sessions (d ∷ ds) = with_victims (slice_set sessions d.victim (as_victim (session_at sessions d.victim))) ds

-- these are the deadlocks that the asker's wait makes, one after another: each has the least cycle through it and its victim,
-- until no cycle passes through it, or it is the victim itself
abbrev pub AreDeadlocks : List (List ℕ) → List ℕ → ℕ → List Deadlock → Type 0
AreDeadlocks waits undo asker [] = IsFree waits asker
AreDeadlocks waits undo asker (d ∷ ds) =
    IsLeastCycle waits asker d.members × IsVictim d.members undo d.victim
    × MatchBool (d.victim == asker) (ds ≡ []) (AreDeadlocks (slice_set waits d.victim []) undo asker ds)

-- whom each session waits for, once the session waits for these
abbrev pub waits_with : State → ℕ → List ℕ → List (List ℕ)
waits_with state s on = slice_set state.waits s on

-- the state in which the session waits for these, with the deadlocks that this made
abbrev pub after_refusal : State → ℕ → List ℕ → List Deadlock → State
after_refusal state s on ds = record state {
  waits = broken (waits_with state s on) ds;
  sessions = with_victims state.sessions ds;
}

abbrev pub MayWait : State → ℕ → List ℕ → List Deadlock → Type 0
MayWait state s on ds = AreDeadlocks (waits_with state s on) (undo_lengths state.sessions) s ds

-- a line for each of them
abbrev pub deadlock_lines : ℕ → Whose → List Deadlock → List Line
deadlock_lines turn whose ds = map (λ (d : Deadlock). record { turn = turn; whose = whose; told = deadlock d.members d.victim }) ds
