-- Every drain ends: events are no more than some number of the state, somebody that isn't over never waits, and so each round of a drain has an
-- event (waits without a cycle leave somebody who goes on; deadlocks as the MySQL 8.0 manual has them for InnoDB).
use Rattle.std.specs.Prelude.{◌≡◌, ◌≤◌, ℕ, zero, suc, true, false, List, [], ◌++◌, filter, length}
use Rattle.isp_events.specs.State.{State, is_waiting}
use Rattle.isp_events.specs.Ways.{Machine}
use Rattle.isp_events.specs.Lines.{Line}
use Rattle.isp_events.specs.Events.{acts, Choice, Event, Events, MayHappen}
use Rattle.isp_events.specs.Runs.{DrainsIn, NothingHappens, TakeTurns, is_over, round, unfinished}
use Rattle.isp_order.specs.InOrder.{InOrder, IsProper}
use Rattle.isp_measure.specs.Order.{IsLower}
use Rattle.isp_measure.specs.Measure.{measure}
use Rattle.isp_measure_laws.specs.Lowers.{is_progress}

-- ---- events

-- those but flushes and lists of the locks
abbrev pub progress : List Event → List Event
progress events = filter (λ (e : Event). is_progress e.actor) events

-- from a state in order there are no more of them than some number of that state, whoever acts and whatever is chosen
abbrev pub EventsEnd : Type 0
EventsEnd =
    (m : Machine) (state : State) → IsProper m → InOrder m state
    → (most : ℕ) × ((first last : ℕ) (lines : List Line) (left : State) (run : Events m first last state lines left) → length (progress run.events) ≤ most)

-- ---- waits

-- where somebody isn't over, somebody who isn't over waits for nobody
abbrev pub SomebodyIsAwake : Type 0
SomebodyIsAwake =
    (m : Machine) (state : State) (s : ℕ) → InOrder m state → is_over state s ≡ false → (k : ℕ) × (is_over state k ≡ false) × (is_waiting state.waits k ≡ false)

-- ---- rounds

-- so many rounds of the drain, one after another, each begun while a session isn't over
abbrev pub RoundsIn : Machine → ℕ → ℕ → State → List Line → State → ℕ → Type 0
RoundsIn m zero turn before lines left last = NothingHappens before lines left × (last ≡ turn)
RoundsIn m (suc n) turn before lines left last =
    (unfinished before ≡ [] → ⊥) × (here rest : List Line) × (between : State) × (middle : ℕ) × TakeTurns m turn before (round before) here between middle
    × RoundsIn m n middle between rest left last × (here ++ rest ≡ lines)

-- each such round lowers the measure
abbrev pub EachRoundLowers : Type 0
EachRoundLowers =
    (m : Machine) (turn last : ℕ) (before left : State) (lines : List Line) → IsProper m → InOrder m before → is_over before 0 ≡ true → (unfinished before ≡ [] → ⊥)
    → TakeTurns m turn before (round before) lines left last → IsLower (measure m.script left) (measure m.script before)

-- so there are no more of them than some number of the state, however they go
abbrev pub RoundsEnd : Type 0
RoundsEnd =
    (m : Machine) (state : State) → IsProper m → InOrder m state → is_over state 0 ≡ true
    → (most : ℕ) × ((n turn last : ℕ) (lines : List Line) (left : State) → RoundsIn m n turn state lines left last → n ≤ most)

-- ---- the drain

-- once the setup is over, each session that isn't over and waits for nobody has an event
abbrev pub HasEvents : Machine → Type 0
HasEvents m =
    (state : State) (s : ℕ) → InOrder m state → is_over state 0 ≡ true → is_over state s ≡ false → is_waiting state.waits s ≡ false
    → (choice : Choice) × MayHappen m state (acts s) choice

-- the drain of such a machine comes to its end
abbrev pub DrainEnds : Type 0
DrainEnds =
    (m : Machine) (turn : ℕ) (state : State) → IsProper m → HasEvents m → InOrder m state → is_over state 0 ≡ true
    → (n : ℕ) × (lines : List Line) × (left : State) × DrainsIn m n turn state lines left
