-- Runs that are worked out: where a list has a choice for each turn that is an event, the run's lines are computed, and whether it is
-- one.
use Rattle.std.proofs.Common.{◌≡◌, ◌∙◌, refl, sym, ap, subst, ℕ, suc, zero, ◌&&◌, Bool, true, false, List, [], ◌∷◌, ◌++◌, length, drop}
use Rattle.std.specs.Prelude.{MatchBool, replicate}
use Rattle.std.proofs.lemmas.Bool.{and_parts}
use Rattle.isp_events.specs.State.{State, is_empty}
use Rattle.isp_events.specs.Ways.{Machine}
use Rattle.isp_events.specs.Lines.{Line}
use Rattle.isp_events.specs.Events.{Actor, acts, purges, Choice, with_nothing, after, lines_of}
use Rattle.isp_events.specs.Runs.{actors_of, DrainsIn, Happens, NothingHappens, PreparesIn, Run, TakesTurn, TakeTurns, is_idle, is_over, next_turn, round, unfinished}
use Rattle.isp_event_laws.proofs.EventTests.{happen_by_test, happen_test}
use Rattle.isp_event_laws.proofs.ListTests.{empty_is}

-- how turns went: their lines, the state behind them, the number of the last one, the choices that are left, and whether each event
-- may happen
pub record Played : Type 0 where
  pub lines : List Line
  pub left : State
  pub turn : ℕ
  pub choices : List Choice
  pub good : Bool

-- one of two, of which the other isn't computed
abbrev pub pick : Bool → (ℕ → Played) → (ℕ → Played) → Played
pick true f g = f 0
pick false f g = g 0

abbrev pub first_choice : List Choice → Choice
first_choice [] = with_nothing
first_choice (c ∷ choices) = c

abbrev pub happened : Machine → ℕ → State → Actor → Choice → Played → Played
happened m turn state actor choice rest = record {
  lines = lines_of m state turn actor choice ++ rest.lines;
  left = rest.left;
  turn = rest.turn;
  choices = rest.choices;
  good = happen_test m state actor choice && rest.good;
}

abbrev pub play : Machine → ℕ → State → List Actor → List Choice → Played
play m turn state [] choices = record { lines = []; left = state; turn = turn; choices = choices; good = true }
play m turn state (actor ∷ actors) choices =
    pick (is_idle state actor) (λ _. play m (next_turn turn) state actors choices)
    (λ _. happened m (next_turn turn) state actor (first_choice choices) (play m (next_turn turn) (after m state actor (first_choice choices)) actors (drop 1 choices)))

pub play_takes : (m : Machine) (turn : ℕ) (state : State) (actors : List Actor) (choices : List Choice) (p : Played) → play m turn state actors choices ≡ p → p.good ≡ true
    → TakeTurns m turn state actors p.lines p.left p.turn
play_takes m turn state [] choices p is good = ((ap (λ (x : Played). x.lines) (sym is), ap (λ (x : Played). x.left) (sym is)), ap (λ (x : Played). x.turn) (sym is))
play_takes m turn state (actor ∷ actors) choices p is good =
    let choice : Choice = first_choice choices in
    let now : ℕ = next_turn turn in
    let idle : Played = play m now state actors choices in
    let rest : Played = play m now (after m state actor choice) actors (drop 1 choices) in
    of_turn (is_idle state actor) refl (play_takes m now state actors choices idle refl) (play_takes m now (after m state actor choice) actors (drop 1 choices) rest refl) is
  where
    of_turn : (b : Bool) → is_idle state actor ≡ b
        → ((play m (next_turn turn) state actors choices).good ≡ true
        → TakeTurns m (next_turn turn) state actors (play m (next_turn turn) state actors choices).lines (play m (next_turn turn) state actors choices).left (play m (next_turn turn) state actors choices).turn)
        → ((play m (next_turn turn) (after m state actor (first_choice choices)) actors (drop 1 choices)).good ≡ true
        → TakeTurns m (next_turn turn) (after m state actor (first_choice choices)) actors (play m (next_turn turn) (after m state actor (first_choice choices)) actors (drop 1 choices)).lines
        (play m (next_turn turn) (after m state actor (first_choice choices)) actors (drop 1 choices)).left (play m (next_turn turn) (after m state actor (first_choice choices)) actors (drop 1 choices)).turn)
        → pick b (λ _. play m (next_turn turn) state actors choices)
        (λ _. happened m (next_turn turn) state actor (first_choice choices) (play m (next_turn turn) (after m state actor (first_choice choices)) actors (drop 1 choices))) ≡ p
        → TakeTurns m turn state (actor ∷ actors) p.lines p.left p.turn
    of_turn true e skip go same =
        let h : TakeTurns m (next_turn turn) state actors p.lines p.left p.turn = subst (λ (x : Played). x.good ≡ true → TakeTurns m (next_turn turn) state actors x.lines x.left x.turn) same skip good in
        let idle : TakesTurn m (next_turn turn) state actor [] state = subst (λ (b : Bool). MatchBool b (NothingHappens state [] state) (Happens m (next_turn turn) state actor [] state)) (sym e) (refl, refl) in
        ([], p.lines, state, idle, h, refl)
    of_turn false e skip go same =
        let choice : Choice = first_choice choices in
        let rest : Played = play m (next_turn turn) (after m state actor choice) actors (drop 1 choices) in
        let both : (happen_test m state actor choice ≡ true) × (rest.good ≡ true) = and_parts (happen_test m state actor choice) rest.good (ap (λ (x : Played). x.good) same ∙ good) in
        let event : Happens m (next_turn turn) state actor (lines_of m state (next_turn turn) actor choice) (after m state actor choice) =
        record { choice = choice; may = happen_by_test m state actor choice both.0; told = refl; ends = refl } in
        let takes : TakesTurn m (next_turn turn) state actor (lines_of m state (next_turn turn) actor choice) (after m state actor choice) =
        subst (λ (b : Bool). MatchBool b (NothingHappens state (lines_of m state (next_turn turn) actor choice) (after m state actor choice)) (Happens m (next_turn turn) state actor (lines_of m state (next_turn turn) actor choice) (after m state actor choice))) (sym e) event in
        subst (λ (x : Played). TakeTurns m turn state (actor ∷ actors) x.lines x.left x.turn) same
        (lines_of m state (next_turn turn) actor choice, rest.lines, after m state actor choice, takes, go both.1, refl)

-- ---- the drain

abbrev pub joined : Played → Played → Bool → Played
joined first second good = record { lines = first.lines ++ second.lines; left = second.left; turn = second.turn; choices = second.choices; good = first.good && (good && second.good) }

abbrev pub drained : Machine → ℕ → ℕ → State → List Choice → Played
drained m zero turn state choices = play m turn state (replicate (length state.queue) purges) choices
drained m (suc n) turn state choices =
    let first = play m turn state (round state) choices in
    joined first (drained m n first.turn first.left first.choices) true

-- so many rounds are enough
abbrev pub finished : Machine → ℕ → ℕ → State → List Choice → Bool
finished m zero turn state choices = is_empty (unfinished state)
finished m (suc n) turn state choices = let first = play m turn state (round state) choices in finished m n first.turn first.left first.choices

drains : (m : Machine) (n turn : ℕ) (state : State) (choices : List Choice) (p : Played) → drained m n turn state choices ≡ p → p.good ≡ true → finished m n turn state choices ≡ true
    → DrainsIn m n turn state p.lines p.left
drains m zero turn state choices p is good done =
    (p.turn, empty_is (unfinished state) done, play_takes m turn state (replicate (length state.queue) purges) choices p is good)
drains m (suc n) turn state choices p is good done =
    let first : Played = play m turn state (round state) choices in
    let second : Played = drained m n first.turn first.left first.choices in
    let good' : (first.good && (true && second.good)) ≡ true = ap (λ (x : Played). x.good) is ∙ good in
    let both : (first.good ≡ true) × (second.good ≡ true) = and_parts first.good second.good good' in
    subst (λ (x : Played). DrainsIn m (suc n) turn state x.lines x.left) is
    (first.lines, second.lines, first.left, first.turn, play_takes m turn state (round state) choices first refl both.0, drains m n first.turn first.left first.choices second refl both.1 done, refl)

-- ---- the setup

abbrev pub prepared : Machine → ℕ → State → List Choice → Played
prepared m zero state choices = record { lines = []; left = state; turn = 0; choices = choices; good = is_over state 0 }
prepared m (suc n) state choices = happened m 0 state (acts 0) (first_choice choices) (prepared m n (after m state (acts 0) (first_choice choices)) (drop 1 choices))

prepares : (m : Machine) (n : ℕ) (state : State) (choices : List Choice) (p : Played) → prepared m n state choices ≡ p → p.good ≡ true → PreparesIn m n state p.lines p.left
prepares m zero state choices p is good =
    ((ap (λ (x : Played). x.lines) (sym is), ap (λ (x : Played). x.left) (sym is)), ap (λ (x : Played). x.good) is ∙ good)
prepares m (suc n) state choices p is good =
    let choice : Choice = first_choice choices in
    let rest : Played = prepared m n (after m state (acts 0) choice) (drop 1 choices) in
    let both : (happen_test m state (acts 0) choice ≡ true) × (rest.good ≡ true) = and_parts (happen_test m state (acts 0) choice) rest.good (ap (λ (x : Played). x.good) is ∙ good) in
    subst (λ (x : Played). PreparesIn m (suc n) state x.lines x.left) is (
      lines_of m state 0 (acts 0) choice,
      rest.lines,
      after m state (acts 0) choice,
      record { choice = choice; may = happen_by_test m state (acts 0) choice both.0; told = refl; ends = refl },
      prepares m n (after m state (acts 0) choice) (drop 1 choices) rest refl both.1,
      refl,
    )

-- ---- a run that is drained, with so many events of the setup and so many rounds

abbrev pub whole : Machine → ℕ → ℕ → State → List Choice → Played
whole m k n state choices =
    let setup = prepared m k state choices in
    let schedule = play m 0 setup.left (actors_of m.script.words) setup.choices in
    joined setup (joined schedule (drained m n schedule.turn schedule.left schedule.choices) (finished m n schedule.turn schedule.left schedule.choices)) true

pub whole_runs : (m : Machine) (k n : ℕ) (state : State) (choices : List Choice) (lines : List Line) → m.script.stop ≡ false
    → (whole m k n state choices).good ≡ true → (whole m k n state choices).lines ≡ lines → Run m state lines (whole m k n state choices).left
whole_runs m k n state choices lines goes_on good told =
    let setup : Played = prepared m k state choices in
    let schedule : Played = play m 0 setup.left (actors_of m.script.words) setup.choices in
    let drain : Played = drained m n schedule.turn schedule.left schedule.choices in
    let test : Bool = finished m n schedule.turn schedule.left schedule.choices in
    let first : (setup.good ≡ true) × ((schedule.good && (test && drain.good)) ≡ true) = and_parts setup.good (schedule.good && (test && drain.good)) good in
    let parts : (schedule.good ≡ true) × ((test && drain.good) ≡ true) = and_parts schedule.good (test && drain.good) first.1 in
    let more : (test ≡ true) × (drain.good ≡ true) = and_parts test drain.good parts.1 in
    record {
      setup = setup.lines;
      prepared = setup.left;
      prepares = (k, prepares m k state choices setup refl first.0);
      schedule = schedule.lines;
      scheduled = schedule.left;
      turn = schedule.turn;
      turns = play_takes m 0 setup.left (actors_of m.script.words) setup.choices schedule refl parts.0;
      drain = drain.lines;
      drains = subst (λ (b : Bool). MatchBool b (NothingHappens schedule.left drain.lines drain.left) ((r : ℕ) × DrainsIn m r schedule.turn schedule.left drain.lines drain.left)) (sym goes_on)
          (n, drains m n schedule.turn schedule.left schedule.choices drain refl more.1 more.0);
      told = told;
    }
