-- A run is a sequence of events, and two sequences joined are one.
use Rattle.std.proofs.Common.{◌≡◌, ◌∙◌, refl, sym, ap, subst, ℕ, zero, suc, ◌+◌, ◌≤◌, Bool, true, false, List, [], ◌∷◌, ◌++◌, append_assoc, append-nil, arith, length}
use Rattle.std.specs.Prelude.{MatchBool, min, replicate}
use Rattle.std.proofs.Math.Nat.{min-eq_left, min-eq_right}
use Rattle.isp_events.specs.State.{State}
use Rattle.isp_events.specs.Ways.{Machine}
use Rattle.isp_events.specs.Lines.{Line}
use Rattle.isp_events.specs.Events.{Actor, acts, purges, Event, Events, MayFollow, after, after_all, lines_of, lines_of_all}
use Rattle.isp_events.specs.Runs.{last_turn, next_turn, is_idle, Happens, NothingHappens, TakesTurn, TakeTurns, PreparesIn, DrainsIn, Run, actors_of, round}

-- ---- sequences

follow_from : (m : Machine) (first middle last : ℕ) (state : State) (events : List Event) → first ≤ middle → MayFollow m middle last state events → MayFollow m first last state events
follow_from m first middle last state [] le h = omega (arith, le, h)
follow_from m first middle last state (e ∷ events) le h = (omega (arith, le, h.0), h.1, h.2)

pub follow_append : (m : Machine) (first middle last : ℕ) (state : State) (events more : List Event)
    → MayFollow m first middle state events → MayFollow m middle last (after_all m state events) more → MayFollow m first last state (events ++ more)
follow_append m first middle last state [] more h k = follow_from m first middle last state more h k
follow_append m first middle last state (e ∷ events) more h k =
    (h.0, h.1, follow_append m e.turn middle last (after m state e.actor e.choice) events more h.2 k)

pub lines_append : (m : Machine) (state : State) (events more : List Event)
    → lines_of_all m state (events ++ more) ≡ lines_of_all m state events ++ lines_of_all m (after_all m state events) more
lines_append m state [] more = refl
lines_append m state (e ∷ events) more =
    ap (λ lines. lines_of m state e.turn e.actor e.choice ++ lines) (lines_append m (after m state e.actor e.choice) events more)
    ∙ sym (append_assoc (lines_of m state e.turn e.actor e.choice) (lines_of_all m (after m state e.actor e.choice) events) (lines_of_all m (after_all m (after m state e.actor e.choice) events) more))

pub after_append : (m : Machine) (state : State) (events more : List Event) → after_all m state (events ++ more) ≡ after_all m (after_all m state events) more
after_append m state [] more = refl
after_append m state (e ∷ events) more = after_append m (after m state e.actor e.choice) events more

pub events_join : (m : Machine) (first middle last : ℕ) (before between left : State) (lines more : List Line)
    → Events m first middle before lines between → Events m middle last between more left → Events m first last before (lines ++ more) left
events_join m first middle last before between left lines more h k = record {
  events = h.events ++ k.events;
  happen = follow_append m first middle last before h.events k.events h.happen (subst (λ (s : State). MayFollow m middle last s k.events) (sym h.ends) k.happen);
  told = lines_append m before h.events k.events ∙ ap (λ s. lines_of_all m before h.events ++ lines_of_all m s k.events) h.ends
      ∙ ap (λ xs. xs ++ lines_of_all m between k.events) h.told ∙ ap (λ xs. lines ++ xs) k.told;
  ends = after_append m before h.events k.events ∙ ap (λ s. after_all m s k.events) h.ends ∙ k.ends;
}

-- the lines of a joined sequence may be given
pub joined_as : (m : Machine) (first middle last : ℕ) (before between left : State) (lines more all : List Line)
    → lines ++ more ≡ all → Events m first middle before lines between → Events m middle last between more left → Events m first last before all left
joined_as m first middle last before between left lines more all is h k =
    subst (λ (xs : List Line). Events m first last before xs left) is (events_join m first middle last before between left lines more h k)

-- ---- turns

pub no_events : (m : Machine) (first last : ℕ) (before : State) (lines : List Line) (left : State) → first ≤ last → NothingHappens before lines left → Events m first last before lines left
no_events m first last before lines left le h = record { events = []; happen = le; told = sym h.0; ends = sym h.1 }

pub one_event : (m : Machine) (first turn last : ℕ) (before : State) (actor : Actor) (lines : List Line) (left : State)
    → first ≤ turn → turn ≤ last → Happens m turn before actor lines left → Events m first last before lines left
one_event m first turn last before actor lines left low high h = record {
  events = record { turn = turn; actor = actor; choice = h.choice } ∷ [];
  happen = (low, h.may, high);
  told = append-nil (lines_of m before turn actor h.choice) ∙ h.told;
  ends = h.ends;
}

pub turn_events : (m : Machine) (first turn last : ℕ) (before : State) (actor : Actor) (lines : List Line) (left : State)
    → first ≤ turn → turn ≤ last → TakesTurn m turn before actor lines left → Events m first last before lines left
turn_events m first turn last before actor lines left low high h =
    (elim (is_idle before actor) as (λ b. MatchBool b (NothingHappens before lines left) (Happens m turn before actor lines left) → Events m first last before lines left) [
      | true ↦ λ k. no_events m first last before lines left (omega (arith, low, high)) k
      | false ↦ λ k. one_event m first turn last before actor lines left low high k
    ]) h

-- turns count on
rises : (turn most : ℕ) → turn ≤ most → turn ≤ min (turn + 1) most
rises turn most le = grind (arith, min-eq_left, min-eq_right)

stays_below : (turn most : ℕ) → min (turn + 1) most ≤ most
stays_below turn most = grind (arith, min-eq_left, min-eq_right)

pub record TurnsEvents (m : Machine) (turn : ℕ) (before : State) (lines : List Line) (left : State) (last : ℕ) : Type 0 where
  pub onward : turn ≤ last
  pub bounded : last ≤ last_turn
  pub events : Events m turn last before lines left

pub turns_events : (m : Machine) (turn : ℕ) (before : State) (actors : List Actor) (lines : List Line) (left : State) (last : ℕ)
    → turn ≤ last_turn → TakeTurns m turn before actors lines left last → TurnsEvents m turn before lines left last
turns_events m turn before [] lines left last most h = record {
  onward = omega (arith, h.1);
  bounded = subst (λ (t : ℕ). t ≤ last_turn) (sym h.1) most;
  events = no_events m turn last before lines left (omega (arith, h.1)) h.0;
}
turns_events m turn before (actor ∷ actors) lines left last most h =
    let up : turn ≤ next_turn turn = rises turn last_turn most in
    let more : TurnsEvents m (next_turn turn) h.2 h.1 left last = turns_events m (next_turn turn) h.2 actors h.1 left last (stays_below turn last_turn) h.4 in
    record {
      onward = omega (arith, up, more.onward);
      bounded = more.bounded;
      events = joined_as m turn (next_turn turn) last before h.2 left h.0 h.1 lines h.5
          (turn_events m turn (next_turn turn) (next_turn turn) before actor h.0 h.2 up (omega arith) h.3) more.events;
    }

-- ---- the parts of a run

pub setup_events : (m : Machine) (n : ℕ) (before : State) (lines : List Line) (left : State) → PreparesIn m n before lines left → Events m 0 0 before lines left
setup_events m zero before lines left h = no_events m 0 0 before lines left (omega arith) h.0
setup_events m (suc n) before lines left h =
    joined_as m 0 0 0 before h.2 left h.0 h.1 lines h.5
    (one_event m 0 0 0 before (acts 0) h.0 h.2 (omega arith) (omega arith) h.3) (setup_events m n h.2 h.1 left h.4)

pub record Drained (m : Machine) (turn : ℕ) (before : State) (lines : List Line) (left : State) : Type 0 where
  pub last : ℕ
  pub events : Events m turn last before lines left

pub drain_events : (m : Machine) (n turn : ℕ) (before : State) (lines : List Line) (left : State) → turn ≤ last_turn → DrainsIn m n turn before lines left → Drained m turn before lines left
drain_events m zero turn before lines left most h =
    let t : TurnsEvents m turn before lines left h.0 = turns_events m turn before (replicate (length before.queue) purges) lines left h.0 most h.2 in
    record { last = h.0; events = t.events }
drain_events m (suc n) turn before lines left most h =
    let t : TurnsEvents m turn before h.0 h.2 h.3 = turns_events m turn before (round before) h.0 h.2 h.3 most h.4 in
    let d : Drained m h.3 h.2 h.1 left = drain_events m n h.3 h.2 h.1 left t.bounded h.5 in
    record { last = d.last; events = joined_as m turn h.3 d.last before h.2 left h.0 h.1 lines h.6 t.events d.events }

drain_or_stop : (m : Machine) (stop : Bool) (turn : ℕ) (before : State) (lines : List Line) (left : State) → turn ≤ last_turn
    → MatchBool stop (NothingHappens before lines left) ((n : ℕ) × DrainsIn m n turn before lines left) → Drained m turn before lines left
drain_or_stop m true turn before lines left most h = record { last = turn; events = no_events m turn turn before lines left (omega arith) h }
drain_or_stop m false turn before lines left most h = drain_events m h.0 turn before lines left most h.1

pub run_events : (m : Machine) (before : State) (lines : List Line) (left : State) → Run m before lines left → (last : ℕ) × Events m 0 last before lines left
run_events m before lines left r =
    let s : Events m 0 0 before r.setup r.prepared = setup_events m r.prepares.0 before r.setup r.prepared r.prepares.1 in
    let t : TurnsEvents m 0 r.prepared r.schedule r.scheduled r.turn = turns_events m 0 r.prepared (actors_of m.script.words) r.schedule r.scheduled r.turn (omega arith) r.turns in
    let d : Drained m r.turn r.scheduled r.drain left = drain_or_stop m m.script.stop r.turn r.scheduled r.drain left t.bounded r.drains in (
      d.last,
      joined_as m 0 0 d.last before r.prepared left r.setup (r.schedule ++ r.drain) lines r.told s
          (events_join m 0 r.turn d.last r.prepared r.scheduled left r.schedule r.drain t.events d.events),
    )
