-- A run is events, one after another.
use Rattle.std.proofs.Common.{◌≡◌, ◌⊎◌, ◌∙◌, ◌≤◌, ◌<◌, ◌+◌, ◌-◌, ◌^◌, inl, inr, refl, sym, ap, subst, ℕ, zero, suc, ◌==◌, ◌||◌, Bool, true, false, not, cond, min, Option, Some, None, List, [], ◌∷◌, ◌++◌, length, map, append-nil, append_assoc, arith, le_refl, drop, eqb-true, eq-eqb}
use Rattle.std.specs.Prelude.{MatchBool, filter, if◌then◌else◌, replicate}
use Rattle.std.specs.List.{range_with_len}
use Rattle.std.proofs.lemmas.Bool.{cases_lt, false≢true}
use Rattle.std.proofs.Math.Nat.{le-min, min-le_right}
use Rattle.isp_base.specs.Lists.{Has}
use Rattle.isp_serial.specs.declared.script.Script.{Script}
use Rattle.isp_serial.specs.Answers.{Answer, Fits, FitsSession, FitsTexts, NeverFalls, answers_of}
use Rattle.isp_serial.specs.Script.{answers_due, texts_of}
use Rattle.isp_events.specs.Sessions.{SessionState, session_at}
use Rattle.isp_events.specs.State.{State, is_empty, session_numbers}
use Rattle.isp_events.specs.Ways.{Machine}
use Rattle.isp_events.specs.Lines.{Line, answers_in}
use Rattle.isp_events.specs.Events.{Actor, acts, purges, Event, Events, MayFollow, MayHappen, after, after_all, lines_of, lines_of_all}
use Rattle.isp_events.specs.Runs.{DrainsIn, Happens, NothingHappens, PreparesIn, Run, TakesTurn, TakeTurns, actors_of, is_idle, is_over, last_turn, next_turn, round, unfinished}
use Rattle.isp_order.specs.InOrder.{InOrder, IsProper, IsRested}
use Rattle.isp_order.proofs.RestedLaws.{in_order}
use Rattle.isp_order_whole.proofs.WholeLaws.{stays_in_order}
use Rattle.isp_fits.specs.FitLaws.{HasNoTexts, HasTold, HasToldBy, HaveTold, RunLeads, RunsFit, RunsLead}
use Rattle.isp_fits.proofs.CountLaws.{falls_less}
use Rattle.isp_fits.proofs.FitProofs.{AllFit, all_fit, events_fit, rested_fits}

-- ---- events in a row

pub none_happen : (m : Machine) (first last : ℕ) (state : State) → first ≤ last → Events m first last state [] state
none_happen m first last state le = record { events = []; happen = le; told = refl; ends = refl }

pub one_happens : (m : Machine) (first turn : ℕ) (before : State) (actor : Actor) (lines : List Line) (left : State) → first ≤ turn → Happens m turn before actor lines left
    → Events m first turn before lines left
one_happens m first turn before actor lines left le h = record {
  events = record { turn = turn; actor = actor; choice = h.choice } ∷ [];
  happen = (le, h.may, le_refl turn);
  told = append-nil (lines_of m before turn actor h.choice) ∙ h.told;
  ends = h.ends;
}

follow : (m : Machine) (first mid last : ℕ) (state : State) (xs ys : List Event) → MayFollow m first mid state xs → MayFollow m mid last (after_all m state xs) ys → MayFollow m first last state (xs ++ ys)
follow m first mid last state [] ys h k = later first mid last (after_all m state []) ys h k
  where
    later : (a b c : ℕ) (st : State) (es : List Event) → a ≤ b → MayFollow m b c st es → MayFollow m a c st es
    later a b c st [] le l = omega (arith, le, l)
    later a b c st (e ∷ es) le l = (let up : b ≤ e.turn = l.0 in (omega (arith, le, up), l.1, l.2))
follow m first mid last state (x ∷ xs) ys h k = (h.0, h.1, follow m x.turn mid last (after m state x.actor x.choice) xs ys h.2 k)

after_both : (m : Machine) (state : State) (xs ys : List Event) → after_all m state (xs ++ ys) ≡ after_all m (after_all m state xs) ys
after_both m state [] ys = refl
after_both m state (x ∷ xs) ys = after_both m (after m state x.actor x.choice) xs ys

lines_both : (m : Machine) (state : State) (xs ys : List Event) → lines_of_all m state (xs ++ ys) ≡ lines_of_all m state xs ++ lines_of_all m (after_all m state xs) ys
lines_both m state [] ys = refl
lines_both m state (x ∷ xs) ys =
    ap (λ ls. lines_of m state x.turn x.actor x.choice ++ ls) (lines_both m (after m state x.actor x.choice) xs ys)
    ∙ sym (append_assoc (lines_of m state x.turn x.actor x.choice) (lines_of_all m (after m state x.actor x.choice) xs) (lines_of_all m (after_all m state (x ∷ xs)) ys))

pub in_a_row : (m : Machine) (first mid last : ℕ) (before between left : State) (here rest : List Line) → Events m first mid before here between → Events m mid last between rest left
    → Events m first last before (here ++ rest) left
in_a_row m first mid last before between left here rest a b = record {
  events = a.events ++ b.events;
  happen = follow m first mid last before a.events b.events a.happen (subst (λ st. MayFollow m mid last st b.events) (sym a.ends) b.happen);
  told = lines_both m before a.events b.events ∙ ap (λ ls. ls ++ lines_of_all m (after_all m before a.events) b.events) a.told
      ∙ ap (λ st. here ++ lines_of_all m st b.events) a.ends ∙ ap (λ ls. here ++ ls) b.told;
  ends = after_both m before a.events b.events ∙ ap (λ st. after_all m st b.events) a.ends ∙ b.ends;
}

with_lines : (m : Machine) (first last : ℕ) (before left : State) (lines others : List Line) → lines ≡ others → Events m first last before lines left → Events m first last before others left
with_lines m first last before left lines others is e = subst (λ ls. Events m first last before ls left) is e

-- ---- turns

next_up : (turn : ℕ) → turn ≤ last_turn → turn ≤ next_turn turn
next_up turn le = at_most (turn + 1) last_turn turn (omega arith) le
  where
    at_most : (a b n : ℕ) → n ≤ a → n ≤ b → n ≤ min a b
    at_most a b n p q = le-min p q

next_bound : (turn : ℕ) → next_turn turn ≤ last_turn
next_bound turn = min-le_right (turn + 1) last_turn

nothing_is : (m : Machine) (turn : ℕ) (before left : State) (lines : List Line) → NothingHappens before lines left → Events m turn turn before lines left
nothing_is m turn before left lines h =
    subst (λ ls. Events m turn turn before ls left) (sym h.0) (subst (λ st. Events m turn turn before [] st) (sym h.1) (none_happen m turn turn before (le_refl turn)))

pub record Leads (m : Machine) (turn : ℕ) (before : State) (lines : List Line) (left : State) (last : ℕ) : Type 0 where
  pub bound : last ≤ last_turn
  pub events : Events m turn last before lines left

pub turns_lead : (m : Machine) (turn : ℕ) (before : State) (actors : List Actor) (lines : List Line) (left : State) (last : ℕ) → turn ≤ last_turn
    → TakeTurns m turn before actors lines left last → Leads m turn before lines left last
turns_lead m turn before [] lines left last le h = record {
  bound = subst (λ n. n ≤ last_turn) (sym h.1) le;
  events = subst (λ n. Events m turn n before lines left) (sym h.1) (nothing_is m turn before left lines h.0);
}
turns_lead m turn before (actor ∷ actors) lines left last le h =
    let next : ℕ = next_turn turn in
    let rest : Leads m next h.2 h.1 left last = turns_lead m next h.2 actors h.1 left last (next_bound turn) h.4 in
    record {
      bound = rest.bound;
      events = with_lines m turn last before left (h.0 ++ h.1) lines h.5 (in_a_row m turn next last before h.2 left h.0 h.1 (one (is_idle before actor) h.3) rest.events);
    }
  where
    one : (b : Bool) → MatchBool b (NothingHappens before h.0 h.2) (Happens m (next_turn turn) before actor h.0 h.2) → Events m turn (next_turn turn) before h.0 h.2
    one true k = subst (λ ls. Events m turn (next_turn turn) before ls h.2) (sym k.0) (subst (λ st. Events m turn (next_turn turn) before [] st) (sym k.1) (none_happen m turn (next_turn turn) before (next_up turn le)))
    one false k = one_happens m turn (next_turn turn) before actor h.0 h.2 (next_up turn le) k

prepares_lead : (m : Machine) (n : ℕ) (before : State) (lines : List Line) (left : State) → PreparesIn m n before lines left → Events m 0 0 before lines left × (is_over left 0 ≡ true)
prepares_lead m zero before lines left h = (nothing_is m 0 before left lines h.0, ap (λ st. is_over st 0) h.0.1 ∙ h.1)
prepares_lead m (suc n) before lines left h =
    let rest = prepares_lead m n h.2 h.1 left h.4 in
    (with_lines m 0 0 before left (h.0 ++ h.1) lines h.5 (in_a_row m 0 0 0 before h.2 left h.0 h.1 (one_happens m 0 0 before (acts 0) h.0 h.2 (le_refl 0) h.3) rest.0), rest.1)

-- behind a drain nobody is unfinished
pub record Drained (m : Machine) (turn : ℕ) (before : State) (lines : List Line) (left : State) : Type 0 where
  pub last : ℕ
  pub events : Events m turn last before lines left
  pub at : State
  pub over : unfinished at ≡ []
  pub rest : List Line
  pub mid : ℕ
  pub events_then : Events m mid last at rest left
  pub earlier : List Line
  pub to_at : Events m turn mid before earlier at

drains_lead : (m : Machine) (n turn : ℕ) (before : State) (lines : List Line) (left : State) → turn ≤ last_turn → DrainsIn m n turn before lines left → Drained m turn before lines left
drains_lead m zero turn before lines left le h =
    let e : Leads m turn before lines left h.0 = turns_lead m turn before (replicate (length before.queue) purges) lines left h.0 le h.2 in
    record { last = h.0; events = e.events; at = before; over = h.1; rest = lines; mid = turn; events_then = e.events; earlier = []; to_at = none_happen m turn turn before (le_refl turn) }
drains_lead m (suc n) turn before lines left le h =
    let e : Leads m turn before h.0 h.2 h.3 = turns_lead m turn before (round before) h.0 h.2 h.3 le h.4 in
    let d : Drained m h.3 h.2 h.1 left = drains_lead m n h.3 h.2 h.1 left e.bound h.5 in
    record {
      last = d.last;
      events = with_lines m turn d.last before left (h.0 ++ h.1) lines h.6 (in_a_row m turn h.3 d.last before h.2 left h.0 h.1 e.events d.events);
      at = d.at;
      over = d.over;
      rest = d.rest;
      mid = d.mid;
      events_then = d.events_then;
      earlier = h.0 ++ d.earlier;
      to_at = in_a_row m turn h.3 d.mid before h.2 d.at h.0 d.earlier e.events d.to_at;
    }

-- ---- who is over

-- a list without one that passes has none
filtered_none : (test : ℕ → Bool) (xs : List ℕ) (x : ℕ) → filter test xs ≡ [] → Has xs x → test x ≡ false
filtered_none test [] x h k = absurd k
filtered_none test (y ∷ xs) x h k = by_test (test y) refl (filtered_none test xs x) h k
  where
    by_test : (b : Bool) → test y ≡ b → (filter test xs ≡ [] → Has xs x → test x ≡ false) → cond b (y ∷ filter test xs) (filter test xs) ≡ [] → (y ≡ x) ⊎ Has xs x → test x ≡ false
    by_test true e again l i = let none : ⊥ = cc in absurd none
    by_test false e again l (inl is) = ap test (sym is) ∙ e
    by_test false e again l (inr i) = again l i

in_range : (a n k : ℕ) → a ≤ k → k < a + n → Has (range_with_len a n) k
in_range a zero k low high = let none : ⊥ = omega (arith, low, high) in absurd none
in_range a (suc n) k low high = by_first (a == k) refl (λ up. in_range (a + 1) n k up (omega (arith, high)))
  where
    by_first : (b : Bool) → (a == k) ≡ b → (a + 1 ≤ k → Has (range_with_len (a + 1) n) k) → (a ≡ k) ⊎ Has (range_with_len (a + 1) n) k
    by_first true e again = inl (eqb-true a k e)
    by_first false e again = inr (again (above (λ is. false≢true (sym e ∙ eq-eqb a k is))))
      where
        above : ((a ≡ k) → ⊥) → a + 1 ≤ k
        above apart = omega (arith, low, apart)

numbered : (s : ℕ) → (s == 0) ≡ false → s < 17 → Has (drop 1 session_numbers) s
numbered s ne lt = in_range 1 16 s (positive s ne) lt
  where
    positive : (n : ℕ) → (n == 0) ≡ false → 1 ≤ n
    positive zero e = absurd (false≢true (sym e))
    positive (suc n) e = omega arith

past_over : (sessions : List SessionState) (s : ℕ) → length sessions ≤ s → (session_at sessions s).over ≡ true
past_over [] s h = refl
past_over (x ∷ sessions) zero h = let no : ⊥ = omega (arith, h) in absurd no
past_over (x ∷ sessions) (suc s) h = past_over sessions s (omega (arith, h))

-- ---- the run

-- over stays over
stays_over : (m : Machine) (first last : ℕ) (before between left : State) (earlier lines : List Line) → IsProper m → IsRested m before → (start : ℕ) → Events m start first before earlier between
    → Events m first last between lines left → (s : ℕ) → (session_at between.sessions s).over ≡ true → (session_at left.sessions s).over ≡ true
stays_over m first last before between left earlier lines good rested start first_events events s over =
    let f = events_fit m start first before between earlier good rested first_events in
    let all : AllFit m first between (answers_in earlier) (answers_in (lines_of_all m between events.events)) (after_all m between events.events) =
    all_fit m first last between events.events (answers_in earlier) good (stays_in_order m start first before between earlier good (in_order m before rested) first_events) f.told events.happen in
    subst (λ st. (session_at st.sessions s).over ≡ true) events.ends (all.still_over s over)

pub runs_lead : RunsLead
runs_lead m before left lines good rested run = by_stop m.script.stop refl run.drains
  where
    first : Events m 0 0 before run.setup run.prepared
    first = (prepares_lead m run.prepares.0 before run.setup run.prepared run.prepares.1).0

    setup_over : (session_at run.prepared.sessions 0).over ≡ true
    setup_over = (prepares_lead m run.prepares.0 before run.setup run.prepared run.prepares.1).1

    second : Leads m 0 run.prepared run.schedule run.scheduled run.turn
    second = turns_lead m 0 run.prepared (actors_of m.script.words) run.schedule run.scheduled run.turn (omega arith) run.turns

    both : Events m 0 run.turn before (run.setup ++ run.schedule) run.scheduled
    both = in_a_row m 0 0 run.turn before run.prepared run.scheduled run.setup run.schedule first second.events

    whole_events : (d : Drained m run.turn run.scheduled run.drain left) → Events m 0 d.last before lines left
    whole_events d = with_lines m 0 d.last before left ((run.setup ++ run.schedule) ++ run.drain) lines (append_assoc run.setup run.schedule run.drain ∙ run.told)
        (in_a_row m 0 run.turn d.last before run.scheduled left (run.setup ++ run.schedule) run.drain both d.events)

    left_order : (last : ℕ) → Events m 0 last before lines left → InOrder m left
    left_order last e = stays_in_order m 0 last before left lines good (in_order m before rested) e

    over_then : (d : Drained m run.turn run.scheduled run.drain left) (s : ℕ) → (session_at d.at.sessions s).over ≡ true → (session_at left.sessions s).over ≡ true
    over_then d s over =
        stays_over m d.mid d.last before d.at left ((run.setup ++ run.schedule) ++ d.earlier) d.rest good rested 0
        (in_a_row m 0 run.turn d.mid before run.scheduled d.at (run.setup ++ run.schedule) d.earlier both d.to_at) d.events_then s over

    by_number : (d : Drained m run.turn run.scheduled run.drain left) (s : ℕ) (b : Bool) → (s == 0) ≡ b → (s < 17) ⊎ (17 ≤ s) → (session_at left.sessions s).over ≡ true
    by_number d s b e (inr past) =
        past_over left.sessions s (let count : length left.sessions ≡ 17 = (left_order d.last (whole_events d)).counted.sessions in omega (arith, past, count))
    by_number d s true e (inl lt) = subst (λ i. (session_at left.sessions i).over ≡ true) (sym (eqb-true s 0 e))
        (stays_over m 0 d.last before run.prepared left run.setup (run.schedule ++ run.drain) good rested 0 first (in_a_row m 0 run.turn d.last run.prepared run.scheduled left run.schedule run.drain second.events d.events) 0 setup_over)
    by_number d s false e (inl lt) = over_then d s (not_false (is_over d.at s) (filtered_none (λ k. not (is_over d.at k)) (drop 1 session_numbers) s d.over (numbered s e lt)))
      where
        not_false : (b' : Bool) → not b' ≡ false → b' ≡ true
        not_false true i = refl
        not_false false i = absurd (false≢true (sym i))

    by_stop : (b : Bool) → m.script.stop ≡ b → MatchBool b (NothingHappens run.scheduled run.drain left) ((n : ℕ) × DrainsIn m n run.turn run.scheduled run.drain left) → RunLeads m before lines left
    by_stop true e h =
        let whole : Events m 0 run.turn before ((run.setup ++ run.schedule) ++ run.drain) left =
        in_a_row m 0 run.turn run.turn before run.scheduled left (run.setup ++ run.schedule) run.drain both (nothing_is m run.turn run.scheduled left run.drain h) in
        record {
          last = run.turn;
          events = with_lines m 0 run.turn before left ((run.setup ++ run.schedule) ++ run.drain) lines (append_assoc run.setup run.schedule run.drain ∙ run.told) whole;
          prepared = stays_over m 0 run.turn before run.prepared left run.setup (run.schedule ++ run.drain) good rested 0 first
              (in_a_row m 0 run.turn run.turn run.prepared run.scheduled left run.schedule run.drain second.events (nothing_is m run.turn run.scheduled left run.drain h)) 0 setup_over;
          all_over = λ not_stop. absurd (false≢true (sym not_stop ∙ e));
        }
    by_stop false e h =
        let d : Drained m run.turn run.scheduled run.drain left = drains_lead m h.0 run.turn run.scheduled run.drain left second.bound h.1 in
        record {
          last = d.last;
          events = with_lines m 0 d.last before left ((run.setup ++ run.schedule) ++ run.drain) lines (append_assoc run.setup run.schedule run.drain ∙ run.told)
              (in_a_row m 0 run.turn d.last before run.scheduled left (run.setup ++ run.schedule) run.drain both d.events);
          prepared = stays_over m 0 d.last before run.prepared left run.setup (run.schedule ++ run.drain) good rested 0 first
              (in_a_row m 0 run.turn d.last run.prepared run.scheduled left run.schedule run.drain second.events d.events) 0 setup_over;
          all_over = λ not_stop s. by_number d s (s == 0) refl (cases_lt s 17);
        }

-- ---- it fits

pub runs_fit : RunsFit
runs_fit m before left lines good rested run =
    let l : RunLeads m before lines left = runs_lead m before left lines good rested run in
    let f = events_fit m 0 l.last before left lines good rested l.events in
    record {
      turns = f.turns;
      sessions = λ s. by_texts s l (texts_of m.script s) refl (f.told s);
    }
  where
    whole : Bool → ℕ → Bool
    whole stop s = if stop then s == 0 else true

    -- who is over has all answers
    is_over_whole : (s : ℕ) → RunLeads m before lines left → whole m.script.stop s ≡ true → (session_at left.sessions s).over ≡ true
    is_over_whole s l h = by_stop m.script.stop refl h
      where
        by_stop : (b : Bool) → m.script.stop ≡ b → whole b s ≡ true → (session_at left.sessions s).over ≡ true
        by_stop true e k = subst (λ i. (session_at left.sessions i).over ≡ true) (sym (eqb-true s 0 k)) l.prepared
        by_stop false e k = l.all_over e s

    by_texts : (s : ℕ) → RunLeads m before lines left → (texts : Option (List (List ℕ))) → texts_of m.script s ≡ texts
        → HasToldBy texts s (session_at left.sessions s) (answers_of s (answers_in lines)) → FitsSession (whole m.script.stop s) s texts (answers_of s (answers_in lines))
    by_texts s l None e h = h.nothing
    by_texts s l (Some texts) e h = record {
      numbers = h.numbers;
      most = h.most;
      ends = h.ends;
      all = λ is_whole. h.over.0 (is_over_whole s l is_whole);
    }
