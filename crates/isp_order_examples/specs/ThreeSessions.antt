-- The five points with a third session.
use Rattle.std.specs.Prelude.{ℕ, true, false, List, [], ◌∷◌, replicate}
use Rattle.isp_plain.specs.declared.statement.Statement.{Statement}
use Rattle.isp_events.specs.Sessions.{fresh}
use Rattle.isp_events.specs.State.{State}
use Rattle.isp_events.specs.Ways.{Machine}
use Rattle.isp_event_examples.specs.Language.{by_first_atom, numbered}
use Rattle.isp_event_examples.specs.Points.{five, session_of}

abbrev pub for_three : State
for_three = record five { sessions = fresh true ∷ fresh false ∷ fresh false ∷ fresh false ∷ replicate 13 (fresh true) }

abbrev pub machine_of_three : List Statement → List (List ℕ) → List (List ℕ) → List (List ℕ) → Machine
machine_of_three statements first second third = record {
  script = record { setup = []; sessions = session_of 1 first ∷ session_of 2 second ∷ session_of 3 third ∷ []; words = []; stop = false };
  language = numbered statements;
  ways = by_first_atom;
}
