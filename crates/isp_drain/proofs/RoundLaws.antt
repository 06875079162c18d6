-- Rounds of the drain: each has an event, so they are no more than events, and where each session that waits for nobody has one they go on to the end.
use Rattle.std.proofs.Common.{◌≡◌, ◌⊎◌, ◌∙◌, inl, inr, refl, sym, ap, subst, ℕ, zero, suc, ◌+◌, ◌≤◌, ◌<◌, ◌==◌, ◌||◌, not, cond, Bool, true, false, List, [], ◌∷◌, ◌++◌, arith, length, map, drop, eqb-true}
use Rattle.std.specs.Prelude.{MatchBool, filter, replicate, slice_set}
use Rattle.std.proofs.lemmas.Bool.{false≢true}
use Rattle.isp_base.specs.Lists.{Has}
use Rattle.isp_laws.proofs.ListLaws.{Has-map, Has-map_of, Source}
use Rattle.isp_events.specs.Sessions.{SessionState, session_at}
use Rattle.isp_events.specs.State.{Queued, State, is_empty, is_waiting, session_numbers}
use Rattle.isp_events.specs.Ways.{Machine}
use Rattle.isp_events.specs.Lines.{Line}
use Rattle.isp_events.specs.Purging.{after_purge}
use Rattle.isp_events.specs.Events.{Actor, acts, purges, Choice, with_nothing, Event, MayHappen, after, after_all, lines_of}
use Rattle.isp_events.specs.Runs.{DrainsIn, Happens, NothingHappens, TakeTurns, is_idle, is_over, next_turn, round, unfinished}
use Rattle.isp_order.specs.InOrder.{InOrder, IsProper}
use Rattle.isp_order.proofs.SessionLaws.{other_at, seated, victims_keep}
use Rattle.isp_order_whole.proofs.WholeLaws.{order_kept}
use Rattle.isp_causes.specs.Causes.{IsActive}
use Rattle.isp_causes.proofs.EventCases.{EachKeeps, event_keeps}
use Rattle.isp_measure.specs.Order.{IsLower}
use Rattle.isp_measure.specs.Measure.{measure}
use Rattle.isp_measure.proofs.ListFacts.{has_filter_of}
use Rattle.isp_measure.proofs.OrderLaws.{by_list, lower_trans}
use Rattle.isp_measure.proofs.SumLaws.{numbered}
use Rattle.isp_measure_laws.specs.Lowers.{is_progress}
use Rattle.isp_measure_laws.proofs.EventLaws.{each_event_lowers}
use Rattle.isp_drain.specs.Ends.{DrainEnds, EachRoundLowers, HasEvents, RoundsEnd, RoundsIn, progress}
use Rattle.isp_drain.proofs.EventLaws.{AreNext, HasBound, has_bound}
use Rattle.isp_drain.proofs.AwakeLaws.{somebody_is_awake}

-- ---- the setup stays over

module _ (m : Machine) (state : State) (good : IsProper m) (o : InOrder m state) (setup : is_over state 0 ≡ true) where
  -- who acts isn't the setup
  not_setup : (s : ℕ) → IsActive state s → (0 == s) ≡ false
  not_setup s active = by_test (0 == s) refl
    where
      by_test : (b : Bool) → (0 == s) ≡ b → b ≡ false
      by_test true e = absurd (false≢true (sym active.not_over ∙ ap (is_over state) (sym (eqb-true 0 s e)) ∙ setup))
      by_test false e = refl

  changed : (s : ℕ) (new : SessionState) → IsActive state s → (session_at (slice_set state.sessions s new) 0).over ≡ true
  changed s new active = ap (λ (x : SessionState). x.over) (other_at state.sessions s 0 new (not_setup s active)) ∙ setup

  setup_each : EachKeeps m state (λ (st : State). is_over st 0 ≡ true)
  setup_each = record {
    still = setup;
    purge = λ some. setup;
    end = λ s over active. changed s _ active;
    answer = λ s reply active at. changed s _ active;
    undo = λ s entry more active at. changed s _ active;
    create = λ s over name schema leaf roots active at may. changed s _ active;
    refuse = λ s on ds active at may. victims_keep (λ (x : SessionState). x.over) (λ x. refl) state.sessions ds 0 ∙ setup;
    lock_table = λ s statement number mode active at none. changed s _ active;
    lock_key = λ s number key mode active at none. changed s _ active;
    lock_row = λ s number key mode active at none. changed s _ active;
    visit = λ s number column predicate active at. changed s _ active;
    scan = λ s number leaf active at. changed s _ active;
    step = λ s d q active at may. changed s _ active;
    stale = λ s d active at. changed s _ active;
    full = λ s active at. changed s _ active;
    place = λ s d q ds active at may. changed s _ active;
    row = λ s number change placed p active at may. changed s _ active;
  }

  setup_stays : (actor : Actor) (choice : Choice) → MayHappen m state actor choice → is_over (after m state actor choice) 0 ≡ true
  setup_stays actor choice h = event_keeps m state good o (λ (st : State). is_over st 0 ≡ true) setup_each actor choice h

-- ---- events one behind another

next_append : (m : Machine) (state : State) (events more : List Event) → AreNext m state events → AreNext m (after_all m state events) more → AreNext m state (events ++ more)
next_append m state [] more h k = k
next_append m state (e ∷ events) more h k = (h.0, next_append m (after m state e.actor e.choice) events more h.1 k)

progress_append : (events more : List Event) → length (progress (events ++ more)) ≡ length (progress events) + length (progress more)
progress_append [] more = let zero_of : length (progress []) ≡ 0 = refl in omega (arith, zero_of)
progress_append (e ∷ events) more = by_actor (is_progress e.actor) (progress_append events more)
  where
    by_actor : (b : Bool) → length (progress (events ++ more)) ≡ length (progress events) + length (progress more)
        → length (cond b (e ∷ progress (events ++ more)) (progress (events ++ more))) ≡ length (cond b (e ∷ progress events) (progress events)) + length (progress more)
    by_actor true again = omega (arith, again)
    by_actor false again = again

-- ---- turns

-- so many events lead from one state to the other, which is in order, its setup over
record Leads (m : Machine) (state left : State) : Type 0 where
  pub events : List Event
  pub next : AreNext m state events
  pub ends : after_all m state events ≡ left
  pub order : InOrder m left
  pub setup : is_over left 0 ≡ true

-- they lower the measure; or nothing happened, and each actor was idle
abbrev Went : (m : Machine) (state left : State) → List Event → List Actor → Type 0
Went m state left events actors =
    (IsLower (measure m.script left) (measure m.script state) × (1 ≤ length (progress events)))
    ⊎ ((left ≡ state) × ((a : Actor) → Has actors a → is_idle state a ≡ true))

record Turned (m : Machine) (state left : State) (actors : List Actor) : Type 0 where
  pub leads : Leads m state left
  pub went : Went m state left leads.events actors

module _ (m : Machine) (good : IsProper m) where
  -- nothing
  stays : (state left : State) → left ≡ state → InOrder m state → is_over state 0 ≡ true → Turned m state left []
  stays state left is o setup = record {
    leads = record { events = []; next = tt; ends = sym is; order = subst (InOrder m) (sym is) o; setup = subst (λ st. is_over st 0 ≡ true) (sym is) setup };
    went = inr (is, λ a h. absurd h);
  }

  turns_went : (turn : ℕ) (state : State) (actors : List Actor) (lines : List Line) (left : State) (last : ℕ) → ((a : Actor) → Has actors a → is_progress a ≡ true) → InOrder m state → is_over state 0 ≡ true
      → TakeTurns m turn state actors lines left last → Turned m state left actors
  turns_went turn state [] lines left last all o setup h = stays state left h.0.1 o setup
  turns_went turn state (actor ∷ actors) lines left last all o setup h =
      by_turn (is_idle state actor) refl h.3 (λ between o' setup' k. turns_went (next_turn turn) between actors h.1 left last (λ a has. all a (inr has)) o' setup' k)
    where
      by_turn : (b : Bool) → is_idle state actor ≡ b
          → MatchBool b (NothingHappens state h.0 h.2) (Happens m (next_turn turn) state actor h.0 h.2)
          → ((between : State) → InOrder m between → is_over between 0 ≡ true → TakeTurns m (next_turn turn) between actors h.1 left last → Turned m between left actors)
          → Turned m state left (actor ∷ actors)
      by_turn true e nothing again =
          let rest : Turned m state left actors = again state o setup (subst (λ st. TakeTurns m (next_turn turn) st actors h.1 left last) nothing.1 h.4) in
          record { leads = rest.leads; went = with_idle rest.leads.events rest.went }
        where
          with_idle : (events : List Event) → Went m state left events actors → Went m state left events (actor ∷ actors)
          with_idle events (inl w) = inl w
          with_idle events (inr w) = inr (w.0, λ a has. by_has a has)
            where
              by_has : (a : Actor) → Has (actor ∷ actors) a → is_idle state a ≡ true
              by_has a (inl is) = subst (λ x. is_idle state x ≡ true) is e
              by_has a (inr has) = w.1 a has
      by_turn false e happens again = first (again (after m state actor happens.choice) order_then setup_then (subst (λ st. TakeTurns m (next_turn turn) st actors h.1 left last) (sym happens.ends) h.4))
        where
          order_then : InOrder m (after m state actor happens.choice)
          order_then = order_kept m state actor happens.choice good o happens.may

          setup_then : is_over (after m state actor happens.choice) 0 ≡ true
          setup_then = setup_stays m state good o setup actor happens.choice happens.may

          goes : is_progress actor ≡ true
          goes = all actor (inl refl)

          lower : IsLower (measure m.script (after m state actor happens.choice)) (measure m.script state)
          lower = each_event_lowers m state actor happens.choice good o happens.may goes

          event : Event
          event = record { turn = next_turn turn; actor = actor; choice = happens.choice }

          one_more : (events : List Event) → length (progress (event ∷ events)) ≡ suc (length (progress events))
          one_more events = ap (λ b. length (cond b (event ∷ progress events) (progress events))) goes

          first : Turned m (after m state actor happens.choice) left actors → Turned m state left (actor ∷ actors)
          first rest = record {
            leads = record { events = event ∷ rest.leads.events; next = (happens.may, rest.leads.next); ends = rest.leads.ends; order = rest.leads.order; setup = rest.leads.setup };
            went = inl (lower_all rest.went, many);
          }
            where
              many : 1 ≤ length (progress (event ∷ rest.leads.events))
              many = omega (arith, one_more rest.leads.events)

              lower_all : Went m (after m state actor happens.choice) left rest.leads.events actors → IsLower (measure m.script left) (measure m.script state)
              lower_all (inl w) = lower_trans (measure m.script left) (measure m.script (after m state actor happens.choice)) (measure m.script state) w.0 lower
              lower_all (inr w) = subst (λ st. IsLower (measure m.script st) (measure m.script state)) (sym w.0) lower

  -- ---- a round

  all_progress : (state : State) (a : Actor) → Has (round state) a → is_progress a ≡ true
  all_progress state a h = (let src : Source acts (unfinished state) a = Has-map acts (unfinished state) a h in ap is_progress (sym src.is))

  round_turned : (turn last : ℕ) (before left : State) (lines : List Line) → InOrder m before → is_over before 0 ≡ true → TakeTurns m turn before (round before) lines left last → Turned m before left (round before)
  round_turned turn last before left lines o setup h = turns_went turn before (round before) lines left last (all_progress before) o setup h

  -- somebody of the round is awake
  record Awake (state : State) : Type 0 where
    pub k : ℕ
    pub among : Has (round state) (acts k)
    pub goes_on : is_idle state (acts k) ≡ false

  filter_passes : (test : ℕ → Bool) (xs : List ℕ) (x : ℕ) → Has (filter test xs) x → test x ≡ true
  filter_passes test [] x h = absurd h
  filter_passes test (y ∷ xs) x h = by_test (test y) refl (filter_passes test xs x) h
    where
      by_test : (b : Bool) → test y ≡ b → (Has (filter test xs) x → test x ≡ true) → Has (cond b (y ∷ filter test xs) (filter test xs)) x → test x ≡ true
      by_test true e again (inl k) = ap test (sym k) ∙ e
      by_test true e again (inr k) = again k
      by_test false e again k = again k

  awake_in : (state : State) → InOrder m state → is_over state 0 ≡ true → (unfinished state ≡ [] → ⊥) → Awake state
  awake_in state o setup some = by_unfinished (unfinished state) refl
    where
      not_is : (b : Bool) → not b ≡ true → b ≡ false
      not_is true h = absurd (false≢true h)
      not_is false h = refl

      -- it is no setup, and so one of the session numbers behind it
      among : (k : ℕ) → is_over state k ≡ false → Has session_numbers k → Has (drop 1 session_numbers) k
      among k alive (inl e) = absurd (false≢true (sym alive ∙ ap (is_over state) (sym e) ∙ setup))
      among k alive (inr h) = h

      found : (k : ℕ) × (is_over state k ≡ false) × (is_waiting state.waits k ≡ false) → Awake state
      found w = record {
        k = w.0;
        among = Has-map_of acts (unfinished state) w.0
            (has_filter_of (λ s. not (is_over state s)) (drop 1 session_numbers) w.0
            (among w.0 w.1 (let seat : w.0 < length state.sessions = seated state.sessions w.0 w.1 in numbered w.0 (omega (arith, seat, o.counted.sessions))))
            (ap not w.1));
        goes_on = ap (λ b. b || is_waiting state.waits w.0) w.1 ∙ w.2;
      }

      by_unfinished : (xs : List ℕ) → unfinished state ≡ xs → Awake state
      by_unfinished [] e = absurd (some e)
      by_unfinished (s ∷ xs) e =
          let has : Has (unfinished state) s = subst (λ (ys : List ℕ). Has ys s) (sym e) (inl refl) in
          let alive : is_over state s ≡ false = not_is (is_over state s) (filter_passes (λ k. not (is_over state k)) (drop 1 session_numbers) s has) in
          found (somebody_is_awake m state s o alive)

  round_goes : (turn last : ℕ) (before left : State) (lines : List Line) (o : InOrder m before) (setup : is_over before 0 ≡ true) → (unfinished before ≡ [] → ⊥)
      → (h : TakeTurns m turn before (round before) lines left last)
      → IsLower (measure m.script left) (measure m.script before) × (1 ≤ length (progress (round_turned turn last before left lines o setup h).leads.events))
  round_goes turn last before left lines o setup some h = by_went (round_turned turn last before left lines o setup h).went
    where
      awake : Awake before
      awake = awake_in before o setup some

      by_went : Went m before left (round_turned turn last before left lines o setup h).leads.events (round before)
          → IsLower (measure m.script left) (measure m.script before) × (1 ≤ length (progress (round_turned turn last before left lines o setup h).leads.events))
      by_went (inl w) = w
      by_went (inr w) = absurd (false≢true (sym awake.goes_on ∙ w.1 (acts awake.k) awake.among))

  -- ---- rounds

  record Rounds (state : State) (n : ℕ) : Type 0 where
    pub events : List Event
    pub next : AreNext m state events
    pub many : n ≤ length (progress events)

  rounds_events : (n turn : ℕ) (before : State) (lines : List Line) (left : State) (last : ℕ) → InOrder m before → is_over before 0 ≡ true → RoundsIn m n turn before lines left last → Rounds before n
  rounds_events zero turn before lines left last o setup h = record { events = []; next = tt; many = omega arith }
  rounds_events (suc n) turn before lines left last o setup h =
      let t : Turned m before h.3 (round before) = round_turned turn h.4 before h.3 h.1 o setup h.5 in
      let goes = round_goes turn h.4 before h.3 h.1 o setup h.0 h.5 in
      let rest : Rounds h.3 n = rounds_events n h.4 h.3 h.2 left last t.leads.order t.leads.setup h.6 in
      let first : 1 ≤ length (progress t.leads.events) = goes.1 in
      let count : length (progress (t.leads.events ++ rest.events)) ≡ length (progress t.leads.events) + length (progress rest.events) = progress_append t.leads.events rest.events in
      let more : n ≤ length (progress rest.events) = rest.many in
      record {
        events = t.leads.events ++ rest.events;
        next = next_append m before t.leads.events rest.events t.leads.next (subst (λ st. AreNext m st rest.events) (sym t.leads.ends) rest.next);
        many = omega (arith, first, count, more);
      }

  -- ---- the drain

  record Taken (turn : ℕ) (state : State) (actors : List Actor) : Type 0 where
    pub lines : List Line
    pub left : State
    pub last : ℕ
    pub taken : TakeTurns m turn state actors lines left last

  -- a round can be taken
  can_take : HasEvents m → (ns : List ℕ) (turn : ℕ) (state : State) → InOrder m state → is_over state 0 ≡ true → Taken turn state (map acts ns)
  can_take has [] turn state o setup = record { lines = []; left = state; last = turn; taken = ((refl, refl), refl) }
  can_take has (s ∷ ns) turn state o setup = by_idle (is_idle state (acts s)) refl (can_take has ns (next_turn turn))
    where
      or_false : (a b : Bool) → (a || b) ≡ false → (a ≡ false) × (b ≡ false)
      or_false true b h = absurd (false≢true (sym h))
      or_false false b h = (refl, h)

      by_idle : (b : Bool) → is_idle state (acts s) ≡ b → ((st : State) → InOrder m st → is_over st 0 ≡ true → Taken (next_turn turn) st (map acts ns)) → Taken turn state (acts s ∷ map acts ns)
      by_idle true e again =
          let rest : Taken (next_turn turn) state (map acts ns) = again state o setup in
          record {
            lines = rest.lines;
            left = rest.left;
            last = rest.last;
            taken = ([], rest.lines, state, subst (λ b. MatchBool b (NothingHappens state [] state) (Happens m (next_turn turn) state (acts s) [] state)) (sym e) (refl, refl), rest.taken, refl);
          }
      by_idle false e again =
          let parts = or_false (is_over state s) (is_waiting state.waits s) e in
          let choice = has state s o setup parts.0 parts.1 in
          let between : State = after m state (acts s) choice.0 in
          let here : List Line = lines_of m state (next_turn turn) (acts s) choice.0 in
          let rest : Taken (next_turn turn) between (map acts ns) = again between (order_kept m state (acts s) choice.0 good o choice.1) (setup_stays m state good o setup (acts s) choice.0 choice.1) in
          record {
            lines = here ++ rest.lines;
            left = rest.left;
            last = rest.last;
            taken = (
              here,
              rest.lines,
              between,
              subst (λ b. MatchBool b (NothingHappens state here between) (Happens m (next_turn turn) state (acts s) here between)) (sym e)
                  (record { choice = choice.0; may = choice.1; told = refl; ends = refl }),
              rest.taken,
              refl,
            );
          }

  -- the queue is purged
  purge_all : (n turn : ℕ) (state : State) → length state.queue ≡ n → Taken turn state (replicate n purges)
  purge_all zero turn state long = record { lines = []; left = state; last = turn; taken = ((refl, refl), refl) }
  purge_all (suc n) turn state long =
      let rest : Taken (next_turn turn) (after_purge state) (replicate n purges) = purge_all n (next_turn turn) (after_purge state) (shorter state.queue long) in
      let here : List Line = lines_of m state (next_turn turn) purges with_nothing in
      record {
        lines = here ++ rest.lines;
        left = rest.left;
        last = rest.last;
        taken = (
          here,
          rest.lines,
          after_purge state,
          subst (λ b. MatchBool b (NothingHappens state here (after_purge state)) (Happens m (next_turn turn) state purges here (after_purge state))) (sym some)
              (record { choice = with_nothing; may = some; told = refl; ends = refl }),
          rest.taken,
          refl,
        );
      }
    where
      shorter : (queue : List Queued) → length queue ≡ suc n → length (drop 1 queue) ≡ n
      shorter [] e = absurd (omega (arith, e))
      shorter (x ∷ queue) e = omega (arith, e)

      some : is_empty state.queue ≡ false
      some = by_test (is_empty state.queue) refl
        where
          by_test : (b : Bool) → is_empty state.queue ≡ b → b ≡ false
          by_test true e = let none : length state.queue ≡ 0 = eqb-true (length state.queue) 0 e in absurd (omega (arith, none, long))
          by_test false e = refl

  abbrev Drains : ℕ → State → Type 0
  Drains turn state = (n : ℕ) × (lines : List Line) × (left : State) × DrainsIn m n turn state lines left

  drain_by : HasEvents m → (xs : List ℕ) → length xs ≡ 10 → (turn : ℕ) (state : State) → measure m.script state ≡ xs → InOrder m state → is_over state 0 ≡ true → Drains turn state
  drain_by has = by_list 10 (λ xs. (turn : ℕ) (state : State) → measure m.script state ≡ xs → InOrder m state → is_over state 0 ≡ true → Drains turn state) each
    where
      each : (xs : List ℕ) → length xs ≡ 10
          → ((ys : List ℕ) → length ys ≡ 10 → IsLower ys xs → (turn : ℕ) (state : State) → measure m.script state ≡ ys → InOrder m state → is_over state 0 ≡ true → Drains turn state)
          → (turn : ℕ) (state : State) → measure m.script state ≡ xs → InOrder m state → is_over state 0 ≡ true → Drains turn state
      each xs long lower turn state e o setup = by_left (unfinished state) refl
        where
          by_left : (ns : List ℕ) → unfinished state ≡ ns → Drains turn state
          by_left [] none = (let t : Taken turn state (replicate (length state.queue) purges) = purge_all (length state.queue) turn state refl in (0, t.lines, t.left, (t.last, none, t.taken)))
          by_left (s ∷ ns) is =
              let t : Taken turn state (round state) = can_take has (unfinished state) turn state o setup in
              let turned : Turned m state t.left (round state) = round_turned turn t.last state t.left t.lines o setup t.taken in
              let goes = round_goes turn t.last state t.left t.lines o setup (λ none. some_none s ns (sym is ∙ none)) t.taken in
              let d : Drains t.last t.left =
              lower (measure m.script t.left) refl (subst (λ ys. IsLower (measure m.script t.left) ys) e goes.0) t.last t.left refl turned.leads.order turned.leads.setup in
              (suc d.0, t.lines ++ d.1, d.2, (t.lines, d.1, t.left, t.last, t.taken, d.3, refl))
            where
              some_none : (x : ℕ) (xs : List ℕ) → x ∷ xs ≡ [] → ⊥
              some_none x xs h = cc

pub each_round_lowers : EachRoundLowers
each_round_lowers m turn last before left lines good o setup some h = (round_goes m good turn last before left lines o setup some h).0

pub rounds_end : RoundsEnd
rounds_end m state good o setup = (b.most, few)
  where
    b : HasBound m state
    b = has_bound m good state

    few : (n turn last : ℕ) (lines : List Line) (left : State) → RoundsIn m n turn state lines left last → n ≤ (has_bound m good state).most
    few n turn last lines left h =
        let r : Rounds m good state n = rounds_events m good n turn state lines left last o setup h in
        let many : n ≤ length (progress r.events) = r.many in
        let bound : length (progress r.events) ≤ (has_bound m good state).most = (has_bound m good state).bound o r.events r.next in
        omega (arith, many, bound)

pub drain_ends : DrainEnds
drain_ends m turn state good has o setup = drain_by m good has (measure m.script state) refl turn state refl o setup
