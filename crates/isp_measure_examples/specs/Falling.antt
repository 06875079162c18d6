-- The measure at each state of a run: a split overtakes a search, from the five points. Each event lowers it.
use Rattle.std.specs.Prelude.{◌≡◌, ℕ, ◌+◌, List, [], ◌∷◌, ◌++◌, replicate}
use Rattle.isp_events.specs.State.{State}
use Rattle.isp_events.specs.Ways.{Machine}
use Rattle.isp_events.specs.Events.{acts, Choice, Event, Events, after}
use Rattle.isp_measure.specs.Order.{IsLower}
use Rattle.isp_measure.specs.Measure.{measure}
use Rattle.isp_event_examples.specs.Points.{five}
use Rattle.isp_event_examples.specs.Overtaken.{overtaking, overtaking_choices, overtaking_lines}

-- sessions act one after another, a turn each, with these choices
abbrev pub events_from : ℕ → List ℕ → List Choice → List Event
events_from turn [] choices = []
events_from turn (s ∷ sessions) [] = []
events_from turn (s ∷ sessions) (choice ∷ choices) = record { turn = turn; actor = acts s; choice = choice } ∷ events_from (turn + 1) sessions choices

abbrev pub overtaking_events : List Event
overtaking_events = events_from 1 (replicate 3 1 ++ replicate 12 2 ++ replicate 6 1 ++ 2 ∷ 1 ∷ []) overtaking_choices

-- the measure of a state, and behind each event
abbrev pub measures_along : Machine → State → List Event → List (List ℕ)
measures_along m state [] = measure m.script state ∷ []
measures_along m state (e ∷ events) = measure m.script state ∷ measures_along m (after m state e.actor e.choice) events

-- each is lower than the one before it
abbrev pub AllFall : List (List ℕ) → Type 0
AllFall [] = Unit {0}
AllFall (xs ∷ []) = Unit {0}
AllFall (xs ∷ ys ∷ rest) = IsLower ys xs × AllFall (ys ∷ rest)

-- answers, queue, sessions that undo nothing, phases, steps, leaves, sessions that wait for nobody, pages away, pages remembered, pages to go down or
-- to come to again
abbrev pub overtaking_measures : List (List ℕ)
overtaking_measures =
    (6 ∷ 0 ∷ 17 ∷ 85 ∷ 0 ∷ 0 ∷ 17 ∷ 0 ∷ 0 ∷ 0 ∷ [])
    ∷ (5 ∷ 0 ∷ 17 ∷ 85 ∷ 0 ∷ 0 ∷ 17 ∷ 0 ∷ 0 ∷ 0 ∷ [])
    ∷ (5 ∷ 0 ∷ 17 ∷ 84 ∷ 0 ∷ 0 ∷ 17 ∷ 0 ∷ 0 ∷ 0 ∷ [])
    ∷ (5 ∷ 0 ∷ 17 ∷ 83 ∷ 0 ∷ 0 ∷ 17 ∷ 2 ∷ 1 ∷ 0 ∷ [])
    ∷ (5 ∷ 0 ∷ 17 ∷ 79 ∷ 6 ∷ 0 ∷ 17 ∷ 2 ∷ 1 ∷ 0 ∷ [])
    ∷ (5 ∷ 0 ∷ 17 ∷ 79 ∷ 5 ∷ 0 ∷ 17 ∷ 2 ∷ 1 ∷ 2 ∷ [])
    ∷ (5 ∷ 0 ∷ 17 ∷ 79 ∷ 5 ∷ 0 ∷ 17 ∷ 2 ∷ 1 ∷ 1 ∷ [])
    ∷ (5 ∷ 0 ∷ 17 ∷ 79 ∷ 5 ∷ 0 ∷ 17 ∷ 2 ∷ 1 ∷ 0 ∷ [])
    ∷ (5 ∷ 0 ∷ 17 ∷ 79 ∷ 4 ∷ 0 ∷ 17 ∷ 2 ∷ 1 ∷ 0 ∷ [])
    ∷ (5 ∷ 0 ∷ 17 ∷ 79 ∷ 3 ∷ 0 ∷ 17 ∷ 2 ∷ 1 ∷ 0 ∷ [])
    ∷ (5 ∷ 0 ∷ 17 ∷ 79 ∷ 2 ∷ 0 ∷ 17 ∷ 2 ∷ 1 ∷ 2 ∷ [])
    ∷ (5 ∷ 0 ∷ 17 ∷ 79 ∷ 2 ∷ 0 ∷ 17 ∷ 2 ∷ 1 ∷ 1 ∷ [])
    ∷ (5 ∷ 0 ∷ 17 ∷ 79 ∷ 2 ∷ 0 ∷ 17 ∷ 2 ∷ 1 ∷ 0 ∷ [])
    ∷ (5 ∷ 0 ∷ 17 ∷ 79 ∷ 1 ∷ 0 ∷ 17 ∷ 3 ∷ 1 ∷ 0 ∷ [])
    ∷ (5 ∷ 0 ∷ 17 ∷ 78 ∷ 0 ∷ 0 ∷ 17 ∷ 3 ∷ 1 ∷ 0 ∷ [])
    ∷ (4 ∷ 0 ∷ 17 ∷ 83 ∷ 0 ∷ 0 ∷ 17 ∷ 3 ∷ 1 ∷ 0 ∷ [])
    ∷ (4 ∷ 0 ∷ 17 ∷ 83 ∷ 0 ∷ 0 ∷ 17 ∷ 2 ∷ 1 ∷ 0 ∷ [])
    ∷ (4 ∷ 0 ∷ 17 ∷ 82 ∷ 2 ∷ 0 ∷ 17 ∷ 1 ∷ 0 ∷ 0 ∷ [])
    ∷ (4 ∷ 0 ∷ 17 ∷ 82 ∷ 1 ∷ 0 ∷ 17 ∷ 1 ∷ 0 ∷ 0 ∷ [])
    ∷ (4 ∷ 0 ∷ 17 ∷ 80 ∷ 0 ∷ 0 ∷ 17 ∷ 1 ∷ 0 ∷ 0 ∷ [])
    ∷ (3 ∷ 0 ∷ 17 ∷ 85 ∷ 0 ∷ 0 ∷ 17 ∷ 1 ∷ 0 ∷ 0 ∷ [])
    ∷ (2 ∷ 0 ∷ 17 ∷ 85 ∷ 0 ∷ 0 ∷ 17 ∷ 0 ∷ 0 ∷ 0 ∷ [])
    ∷ (1 ∷ 0 ∷ 17 ∷ 85 ∷ 0 ∷ 0 ∷ 17 ∷ 0 ∷ 0 ∷ 0 ∷ [])
    ∷ (0 ∷ 0 ∷ 17 ∷ 85 ∷ 0 ∷ 0 ∷ 17 ∷ 0 ∷ 0 ∷ 0 ∷ [])
    ∷ []

pub record OvertakingFalls : Type 0 where
  pub left : State
  -- the events are those that tell the run's lines
  pub run : Events overtaking 1 23 five overtaking_lines left
  pub events : run.events ≡ overtaking_events
  pub numbers : measures_along overtaking five overtaking_events ≡ overtaking_measures
  pub falls : AllFall overtaking_measures
