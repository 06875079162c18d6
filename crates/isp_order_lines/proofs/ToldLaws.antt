-- What lines tell, of all lines that events lead to.
use Rattle.std.proofs.Common.{◌≡◌, ◌⊎◌, ◌∙◌, ◌+◌, ◌≤◌, inl, inr, refl, sym, ap, subst, ℕ, Option, Some, None, List, [], ◌∷◌, ◌++◌, length, arith, append_assoc, append-nil}
use Rattle.std.specs.Prelude.{slice_set}
use Rattle.isp_waits.specs.Cycles.{IsFree, IsLeastCycle}
use Rattle.isp_waits.specs.Victims.{IsVictim}
use Rattle.isp_serial.specs.Answers.{Answer, answers_of, is_deadlock}
use Rattle.isp_forest.specs.Steps.{is_among}
use Rattle.isp_plain.specs.declared.statement.Reply.TheVariants as reply
use Rattle.isp_plain.specs.Texts.{deadlock_text, reply_text}
use Rattle.std.specs.Str.{bytes_eq}
use Rattle.isp_events.specs.Sessions.{session_at}
use Rattle.isp_events.specs.State.{State, Queued}
use Rattle.isp_events.specs.Ways.{Machine}
use Rattle.isp_events.specs.Lines.{Edges, Line, Told, answer, answer_in, answers_in, deadlock, edges_after, edges_after_answer, edges_of, edges_told, no_edges}
use Rattle.isp_events.specs.Next.{EventKind, answers, undoes, creates, asks_table, asks_key, visits, scans, steps, goes_stale, finds_full, places, writes, next}
use Rattle.isp_events.specs.Deadlocks.{Deadlock, MayWait, broken, deadlock_lines, undo_lengths, waits_with}
use Rattle.isp_events.specs.Placing.{in_the_way, sessions_on}
use Rattle.isp_events.specs.Events.{Actor, acts, purges, flushes, lists_locks, Choice, with_nothing, with_blockers, with_deadlocks, with_child, with_divisions, with_put, with_undo_pages, with_roots, with_flushed, Event, Events, MayChoose, MayFollow, MayGoOn, MayHappen, after, after_all, blockers_of, deadlocks_in, full_reply, lines_next, lines_of, lines_of_all, lines_purging, told_of, whose_of}
use Rattle.isp_event_laws.proofs.RunLaws.{joined_as, no_events, one_event}
use Rattle.isp_order.specs.InOrder.{InOrder, IsProper, IsRested}
use Rattle.isp_order.proofs.RestedLaws.{in_order}
use Rattle.isp_causes.specs.Causes.{IsCaused}
use Rattle.isp_causes.proofs.CauseLaws.{is_caused}
use Rattle.isp_order_whole.proofs.WholeLaws.{order_kept}
use Rattle.isp_order_lines.specs.Told.{AnswersAreNumbered, DeadlocksAreLeast, IsToldDeadlock, LinesTellWhoWaits, NoCycleIsTold, VictimsAreAnswered, victims_of}
use Rattle.isp_order_lines.proofs.AnswerTexts.{answer_tells, created_says}
use Rattle.isp_order_lines.proofs.LineLists.{IsAmongDeadlocks, among_deadlocks, count_in, deadlock_edges, divided, edges_append}
use Rattle.isp_order_lines.proofs.TellsLaws.{TellsAll, all_tell, rested_tells}

-- a state to which events lead with these lines
pub record Reached (m : Machine) (first : ℕ) (before : State) (earlier : List Line) (turn : ℕ) (state : State) : Type 0 where
  pub events : Events m first turn before earlier state
  pub order : InOrder m state
  pub tells : TellsAll m earlier state

module _ (m : Machine) (first : ℕ) (before : State) (good : IsProper m) where
  later_turn : (earlier : List Line) (turn more : ℕ) (state : State) → turn ≤ more → Reached m first before earlier turn state → Reached m first before earlier more state
  later_turn earlier turn more state le r = record {
    events = joined_as m first turn more before state state earlier [] earlier (append-nil earlier) r.events (no_events m turn more state [] state le (refl, refl));
    order = r.order;
    tells = r.tells;
  }

  one_more : (earlier : List Line) (turn : ℕ) (state : State) → Reached m first before earlier turn state → (actor : Actor) (choice : Choice) → MayHappen m state actor choice
      → Reached m first before (earlier ++ lines_of m state turn actor choice) turn (after m state actor choice)
  one_more earlier turn state r actor choice h = record {
    events = joined_as m first turn turn before state (after m state actor choice) earlier (lines_of m state turn actor choice) (earlier ++ lines_of m state turn actor choice) refl r.events
        (one_event m turn turn turn state actor (lines_of m state turn actor choice) (after m state actor choice) (omega arith) (omega arith)
        (record { choice = choice; may = h; told = refl; ends = refl }));
    order = order_kept m state actor choice good r.order h;
    tells = all_tell m earlier state good r.order r.tells turn actor choice h;
  }

  -- what is reached at the end
  reached_all : (earlier : List Line) (turn last : ℕ) (state : State) (events : List Event) → Reached m first before earlier turn state → MayFollow m turn last state events
      → Reached m first before (earlier ++ lines_of_all m state events) last (after_all m state events)
  reached_all earlier turn last state [] r h = subst (λ (xs : List Line). Reached m first before xs last state) (sym (append-nil earlier)) (later_turn earlier turn last state h r)
  reached_all earlier turn last state (e ∷ events) r h =
      let next_state : State = after m state e.actor e.choice in
      let now = one_more earlier e.turn state (later_turn earlier turn e.turn state h.0 r) e.actor e.choice h.1 in
      subst (λ (xs : List Line). Reached m first before xs last (after_all m next_state events))
      (append_assoc earlier (lines_of m state e.turn e.actor e.choice) (lines_of_all m next_state events))
      (reached_all (earlier ++ lines_of m state e.turn e.actor e.choice) e.turn last next_state events now h.2)

  -- what holds of each line where its event happens holds of each line
  module _ (P : List Line → Line → Type 0)
      (step : (earlier : List Line) (turn : ℕ) (state : State) → Reached m first before earlier turn state → (actor : Actor) (choice : Choice) → MayHappen m state actor choice
      → (behind others : List Line) (line : Line) → lines_of m state turn actor choice ≡ behind ++ line ∷ others → P (earlier ++ behind) line) where
    each_line : (earlier : List Line) (turn last : ℕ) (state : State) (events : List Event) → Reached m first before earlier turn state → MayFollow m turn last state events
        → (front later : List Line) (line : Line) → lines_of_all m state events ≡ front ++ line ∷ later → P (earlier ++ front) line
    each_line earlier turn last state [] r h [] later line is = let no : ⊥ = cc in absurd no
    each_line earlier turn last state [] r h (x ∷ front) later line is = let no : ⊥ = cc in absurd no
    each_line earlier turn last state (e ∷ events) r h front later line is =
        elim (divided here (lines_of_all m next_state events) front later line is) [
          | inl w ↦ step earlier e.turn state at_turn e.actor e.choice h.1 front w.others line w.here
          | inr b ↦ subst (λ (xs : List Line). P xs line) (append_assoc earlier here b.mid ∙ ap (λ xs. earlier ++ xs) (sym b.front_is))
              (each_line (earlier ++ here) e.turn last next_state events (one_more earlier e.turn state at_turn e.actor e.choice h.1) h.2 b.mid later line b.there)
        ]
      where
        here : List Line
        here = lines_of m state e.turn e.actor e.choice

        next_state : State
        next_state = after m state e.actor e.choice

        at_turn : Reached m first before earlier e.turn state
        at_turn = later_turn earlier turn e.turn state h.0 r

reached_first : (m : Machine) (first : ℕ) (before : State) → IsRested m before → Reached m first before [] first before
reached_first m first before r = record {
  events = no_events m first first before [] before (omega arith) (refl, refl);
  order = in_order m before r;
  tells = rested_tells m before r;
}

-- ---- waits

pub reached_left : (m : Machine) (first last : ℕ) (before left : State) (lines : List Line) → IsProper m → IsRested m before → Events m first last before lines left
    → Reached m first before lines last left
reached_left m first last before left lines good rested events =
    subst (λ (s : State). Reached m first before lines last s) events.ends
    (subst (λ (xs : List Line). Reached m first before xs last (after_all m before events.events)) events.told
    (reached_all m first before good [] first last before events.events (reached_first m first before rested) events.happen))

pub lines_tell_who_waits : LinesTellWhoWaits
lines_tell_who_waits m first last before left lines good rested events = (reached_left m first last before left lines good rested events).tells.waits

pub no_cycle_is_told : NoCycleIsTold
no_cycle_is_told m first last before left lines good rested events s =
    let r = reached_left m first last before left lines good rested events in
    subst (λ w. IsFree w s) (sym r.tells.waits) (r.order.no_cycle s)

-- ---- the lines of one event

-- a wait, and the deadlocks that it made
record IsRefusal (m : Machine) (state : State) (s : ℕ) (told : Told) (ds : List Deadlock) : Type 0 where
  on : List ℕ
  may : MayWait state s on ds
  waits : (edges : Edges) → edges_told (whose_of state s) told edges ≡ record edges { waits = slice_set edges.waits s on }
  quiet : (turn : ℕ) → answer_in (record { turn = turn; whose = whose_of state s; told = told }) ≡ None

-- the session's one line: it is no deadlock's; and an answer, or a wait with its deadlocks, or an event of another kind
record IsHead (m : Machine) (state : State) (s : ℕ) (told : Told) (ds : List Deadlock) : Type 0 where
  no_deadlock : (members : List ℕ) (victim : ℕ) → told ≡ deadlock members victim → ⊥
  says : (turn : ℕ) (a : Answer) → answer_in (record { turn = turn; whose = whose_of state s; told = told }) ≡ Some a
      → (is_deadlock a ≡ (session_at state.sessions s).victim) × ((a.session ≡ s) × (a.number ≡ (session_at state.sessions s).number))
  refused : IsRefusal m state s told ds ⊎ (ds ≡ [])

module _ (m : Machine) (state : State) (good : IsProper m) (o : InOrder m state) (s : ℕ) where
  quiet_says : {Y : Type 0} (a : Answer) → ◌≡◌ {A = Option Answer} None (Some a) → Y
  quiet_says a h = let no : ⊥ = cc in absurd no

  -- an answer's line
  answer_says : (text : List ℕ) (is : bytes_eq text deadlock_text ≡ (session_at state.sessions s).victim) → (turn : ℕ) (a : Answer)
      → answer_in (record { turn = turn; whose = whose_of state s; told = answer text }) ≡ Some a
      → (is_deadlock a ≡ (session_at state.sessions s).victim) × ((a.session ≡ s) × (a.number ≡ (session_at state.sessions s).number))
  answer_says text is turn a h =
      let same : record { turn = turn; session = s; number = (session_at state.sessions s).number; text = text } ≡ a = cc in
      (ap (λ (x : Answer). is_deadlock x) (sym same) ∙ is, (ap (λ (x : Answer). x.session) (sym same), ap (λ (x : Answer). x.number) (sym same)))

  kind_head : (kind : EventKind) (choice : Choice) → next m state s ≡ Some kind → IsCaused m state s kind → MayChoose state s kind choice
      → IsHead m state s (told_of state s kind choice) (deadlocks_in choice)
  kind_head (answers r over) with_nothing e c h = record { no_deadlock = λ ms v is. cc; says = answer_says (reply_text r) (answer_tells m state good s r over e).deadlock_so; refused = inr refl }
  kind_head (undoes entry) (with_undo_pages more) e c h = record { no_deadlock = λ ms v is. cc; says = λ turn a is. quiet_says a is; refused = inr refl }
  kind_head (creates name schema) with_nothing e c h = record {
    no_deadlock = λ ms v is. cc;
    says = answer_says (reply_text full_reply) (created_says m state good s o name schema c.cause).1.deadlock_so;
    refused = inr refl;
  }
  kind_head (creates name schema) (with_roots leaf roots) e c h = record {
    no_deadlock = λ ms v is. cc;
    says = answer_says (reply_text reply.Ok) (created_says m state good s o name schema c.cause).0.deadlock_so;
    refused = inr refl;
  }
  kind_head (asks_table statement number mode) with_nothing e c h = record { no_deadlock = λ ms v is. cc; says = λ turn a is. quiet_says a is; refused = inr refl }
  kind_head (asks_table statement number mode) (with_blockers by ds) e c h = record {
    no_deadlock = λ ms v is. cc;
    says = λ turn a is. quiet_says a is;
    refused = inl (record { on = blockers_of by; may = h.2; waits = λ edges. refl; quiet = λ turn. refl });
  }
  kind_head (asks_key number key mode) with_nothing e c h = record { no_deadlock = λ ms v is. cc; says = λ turn a is. quiet_says a is; refused = inr refl }
  kind_head (asks_key number key mode) (with_blockers by ds) e c h = record {
    no_deadlock = λ ms v is. cc;
    says = λ turn a is. quiet_says a is;
    refused = inl (record { on = blockers_of by; may = h.2; waits = λ edges. refl; quiet = λ turn. refl });
  }
  kind_head (visits number column predicate) with_nothing e c h = record { no_deadlock = λ ms v is. cc; says = λ turn a is. quiet_says a is; refused = inr refl }
  kind_head (scans number leaf) with_nothing e c h = record { no_deadlock = λ ms v is. cc; says = λ turn a is. quiet_says a is; refused = inr refl }
  kind_head (steps d) (with_child q) e c h = record { no_deadlock = λ ms v is. cc; says = λ turn a is. quiet_says a is; refused = inr refl }
  kind_head (goes_stale d) with_nothing e c h = record { no_deadlock = λ ms v is. cc; says = λ turn a is. quiet_says a is; refused = inr refl }
  kind_head finds_full with_nothing e c h = record { no_deadlock = λ ms v is. cc; says = λ turn a is. quiet_says a is; refused = inr refl }
  kind_head (places d) (with_deadlocks ds) e c h = record {
    no_deadlock = λ ms v is. cc;
    says = λ turn a is. quiet_says a is;
    refused = inl (record { on = sessions_on (in_the_way state s d); may = h.1; waits = λ edges. refl; quiet = λ turn. refl });
  }
  kind_head (places d) (with_divisions q ds) e c h = record { no_deadlock = λ ms v is. cc; says = λ turn a is. quiet_says a is; refused = inr refl }
  kind_head (writes number change placed) (with_put p) e c h = record { no_deadlock = λ ms v is. cc; says = λ turn a is. quiet_says a is; refused = inr refl }
  kind_head kind choice e c h = absurd h

-- the lines of an event of the session
record IsLines (m : Machine) (state : State) (turn s : ℕ) (lines : List Line) : Type 0 where
  told : Told
  ds : List Deadlock
  head : IsHead m state s told ds
  are : lines ≡ record { turn = turn; whose = whose_of state s; told = told } ∷ deadlock_lines turn (whose_of state s) ds

next_lines : (m : Machine) (state : State) → IsProper m → InOrder m state → (turn s : ℕ) (kind : Option EventKind) (choice : Choice) → next m state s ≡ kind → MayGoOn state s kind choice
    → IsLines m state turn s (lines_next state turn s kind choice)
next_lines m state good o turn s None choice e h = absurd h
next_lines m state good o turn s (Some kind) choice e h = record {
  told = told_of state s kind choice;
  ds = deadlocks_in choice;
  head = kind_head m state good o s kind choice e (is_caused m state s kind e) h;
  are = refl;
}

cons_head : {Y : Type 0} (x y : Y) (xs ys : List Y) → x ∷ xs ≡ y ∷ ys → x ≡ y
cons_head x y xs ys h = cc

cons_tail : {Y : Type 0} (x y : Y) (xs ys : List Y) → x ∷ xs ≡ y ∷ ys → xs ≡ ys
cons_tail x y xs ys h = cc

-- ---- deadlocks

module _ (m : Machine) (first : ℕ) (before : State) (good : IsProper m) where
  abbrev IsLeastAt : List Line → Line → Type 0
  IsLeastAt earlier line = (members : List ℕ) (victim : ℕ) → line.told ≡ deadlock members victim → IsToldDeadlock m first before earlier line members victim

  session_least : (earlier : List Line) (turn : ℕ) (state : State) → Reached m first before earlier turn state → (s : ℕ) (choice : Choice) → MayHappen m state (acts s) choice
      → (behind others : List Line) (line : Line) → lines_of m state turn (acts s) choice ≡ behind ++ line ∷ others → IsLeastAt (earlier ++ behind) line
  session_least earlier turn state r s choice h behind others line is members victim told =
      let ls : IsLines m state turn s (lines_of m state turn (acts s) choice) = next_lines m state good r.order turn s (next m state s) choice refl h in
      by_place ls behind is (sym ls.are ∙ is)
    where
      deadlock_parts : (a b : List ℕ) (v w : ℕ) → deadlock a v ≡ deadlock b w → (a ≡ b) × (v ≡ w)
      deadlock_parts a b v w e = (cc, cc)

      by_place : (ls : IsLines m state turn s (lines_of m state turn (acts s) choice)) (front : List Line) → lines_of m state turn (acts s) choice ≡ front ++ line ∷ others
          → record { turn = turn; whose = whose_of state s; told = ls.told } ∷ deadlock_lines turn (whose_of state s) ls.ds ≡ front ++ line ∷ others
          → IsToldDeadlock m first before (earlier ++ front) line members victim
      by_place ls [] own e =
          absurd (ls.head.no_deadlock members victim (ap (λ (l : Line). l.told) (cons_head _ line (deadlock_lines turn (whose_of state s) ls.ds) others e) ∙ told))
      by_place ls (x ∷ front) own e = by_refusal ls.head.refused
        where
          head_line : Line
          head_line = record { turn = turn; whose = whose_of state s; told = ls.told }

          head_is : head_line ≡ x
          head_is = cons_head head_line x (deadlock_lines turn (whose_of state s) ls.ds) (front ++ line ∷ others) e

          tail : deadlock_lines turn (whose_of state s) ls.ds ≡ front ++ line ∷ others
          tail = cons_tail head_line x (deadlock_lines turn (whose_of state s) ls.ds) (front ++ line ∷ others) e

          nothing : (xs : List Line) → [] ≡ xs ++ line ∷ others → ⊥
          nothing [] i = cc
          nothing (y ∷ xs) i = cc

          by_refusal : IsRefusal m state s ls.told ls.ds ⊎ (ls.ds ≡ []) → IsToldDeadlock m first before (earlier ++ x ∷ front) line members victim
          by_refusal (inr none) = absurd (nothing front (sym (ap (deadlock_lines turn (whose_of state s)) none) ∙ tail))
          by_refusal (inl w) =
              let a : IsAmongDeadlocks (waits_with state s w.on) (undo_lengths state.sessions) s turn (whose_of state s) front line =
              among_deadlocks (waits_with state s w.on) (undo_lengths state.sessions) s turn (whose_of state s) ls.ds front others line w.may tail in
              let parts = deadlock_parts a.d.members members a.d.victim victim (sym (ap (λ (l : Line). l.told) a.line_is) ∙ told) in
              let turn_is : line.turn ≡ turn = ap (λ (l : Line). l.turn) a.line_is in
              record {
                session = s;
                number = (session_at state.sessions s).number;
                whose = ap (λ (l : Line). l.whose) a.line_is;
                cycle = subst (λ g. IsLeastCycle g s members) (sym (edges_now w a.first a.behind_is)) (subst (IsLeastCycle (broken (waits_with state s w.on) a.first) s) parts.0 a.cycle);
                at = state;
                lines = earlier;
                events = subst (λ n. Events m first n before earlier state) (sym turn_is) r.events;
                choice = choice;
                happens = h;
                own = x ∷ front;
                others = others;
                told = ap (λ n. lines_of m state n (acts s) choice) turn_is ∙ own;
                behind = refl;
                chosen = subst (λ v. IsVictim members (undo_lengths state.sessions) v) parts.1
                    (subst (λ ms. IsVictim ms (undo_lengths state.sessions) a.d.victim) parts.0 a.chosen);
              }
            where
              edges_now : (w' : IsRefusal m state s ls.told ls.ds) (ds : List Deadlock) → front ≡ deadlock_lines turn (whose_of state s) ds
                  → edges_of m.script m.language (earlier ++ x ∷ front) ≡ broken (waits_with state s w'.on) ds
              edges_now w' ds front_is =
                  let e0 : Edges = edges_after m.script m.language no_edges earlier in
                  ap (λ (g : Edges). g.waits) (edges_append m.script m.language no_edges earlier (x ∷ front))
                  ∙ ap (λ (y : Line). (edges_after m.script m.language e0 (y ∷ front)).waits) (sym head_is)
                  ∙ ap (λ (g : Option Answer). (edges_after m.script m.language
                  (edges_after_answer m.script m.language g (edges_told (whose_of state s) ls.told e0)) front).waits) (w'.quiet turn)
                  ∙ ap (λ (g : Edges). (edges_after m.script m.language g front).waits) (w'.waits e0)
                  ∙ ap (λ (ys : List Line). (edges_after m.script m.language (record e0 { waits = slice_set e0.waits s w'.on }) ys).waits) front_is
                  ∙ ap (λ (g : Edges). g.waits) (deadlock_edges m.script m.language (record e0 { waits = slice_set e0.waits s w'.on }) turn (whose_of state s) ds)
                  ∙ ap (λ g. broken (slice_set g s w'.on) ds) r.tells.waits

  -- no other actor tells of a deadlock, or an answer
  quiet_line : (x line : Line) (behind others : List Line) → x ∷ [] ≡ behind ++ line ∷ others → x ≡ line
  quiet_line x line [] others e = cons_head x line [] others e
  quiet_line x line (y ∷ []) others e = let no : ⊥ = cc in absurd no
  quiet_line x line (y ∷ z ∷ behind) others e = let no : ⊥ = cc in absurd no

  no_line : {Y : Type 0} (line : Line) (behind others : List Line) → [] ≡ behind ++ line ∷ others → Y
  no_line line [] others e = let no : ⊥ = cc in absurd no
  no_line line (y ∷ behind) others e = let no : ⊥ = cc in absurd no

  -- where all but a session tell nothing of the kind
  module _ (Q : List Line → Line → Type 0) (quiet : (earlier : List Line) (line : Line) → ((members : List ℕ) (victim : ℕ) → line.told ≡ deadlock members victim → ⊥) → answer_in line ≡ None → Q earlier line)
      (session : (earlier : List Line) (turn : ℕ) (state : State) → Reached m first before earlier turn state → (s : ℕ) (choice : Choice) → MayHappen m state (acts s) choice
      → (behind others : List Line) (line : Line) → lines_of m state turn (acts s) choice ≡ behind ++ line ∷ others → Q (earlier ++ behind) line) where
    of_one : (earlier : List Line) (x line : Line) (behind others : List Line) → ((members : List ℕ) (victim : ℕ) → x.told ≡ deadlock members victim → ⊥) → answer_in x ≡ None
        → x ∷ [] ≡ behind ++ line ∷ others → Q (earlier ++ behind) line
    of_one earlier x line behind others no_deadlock none e =
        let is : x ≡ line = quiet_line x line behind others e in
        quiet (earlier ++ behind) line (λ ms v told. no_deadlock ms v (ap (λ (l : Line). l.told) is ∙ told)) (ap answer_in (sym is) ∙ none)

    of_queue : (earlier : List Line) (turn : ℕ) (state : State) (queue : List Queued) (line : Line) (behind others : List Line) → lines_purging state turn queue ≡ behind ++ line ∷ others → Q (earlier ++ behind) line
    of_queue earlier turn state [] line behind others e = no_line line behind others e
    of_queue earlier turn state (item ∷ queue) line behind others e = of_one earlier _ line behind others (λ ms v told. cc) refl e

    of_actor : (earlier : List Line) (turn : ℕ) (state : State) → Reached m first before earlier turn state → (actor : Actor) (choice : Choice) → MayHappen m state actor choice
        → (behind others : List Line) (line : Line) → lines_of m state turn actor choice ≡ behind ++ line ∷ others → Q (earlier ++ behind) line
    of_actor earlier turn state r (acts s) choice h behind others line e = session earlier turn state r s choice h behind others line e
    of_actor earlier turn state r purges choice h behind others line e = of_queue earlier turn state state.queue line behind others e
    of_actor earlier turn state r flushes (with_flushed n) h behind others line e = of_one earlier _ line behind others (λ ms v told. cc) refl e
    of_actor earlier turn state r lists_locks choice h behind others line e = of_one earlier _ line behind others (λ ms v told. cc) refl e
    of_actor earlier turn state r actor choice h behind others line e = absurd h

pub deadlocks_are_least : DeadlocksAreLeast
deadlocks_are_least m first last before left lines earlier later line members victim good rested events is told =
    each_line m first before good (IsLeastAt m first before good)
    (of_actor m first before good (IsLeastAt m first before good) (λ before' l no none ms v k. absurd (no ms v k)) (session_least m first before good))
    [] first last before events.events (reached_first m first before rested) events.happen earlier later line (events.told ∙ is) members victim told

-- ---- answers

module _ (m : Machine) (first : ℕ) (before : State) (good : IsProper m) where
  abbrev IsAnsweredAt : List Line → Line → Type 0
  IsAnsweredAt earlier line = (a : Answer) → answer_in line ≡ Some a → (is_deadlock a ≡ is_among (victims_of earlier) a.session) × (a.number ≡ 1 + length (answers_of a.session (answers_in earlier)))

  session_answers : (earlier : List Line) (turn : ℕ) (state : State) → Reached m first before earlier turn state → (s : ℕ) (choice : Choice) → MayHappen m state (acts s) choice
      → (behind others : List Line) (line : Line) → lines_of m state turn (acts s) choice ≡ behind ++ line ∷ others → IsAnsweredAt (earlier ++ behind) line
  session_answers earlier turn state r s choice h behind others line is a said =
      let ls : IsLines m state turn s (lines_of m state turn (acts s) choice) = next_lines m state good r.order turn s (next m state s) choice refl h in
      by_place ls behind (sym ls.are ∙ is)
    where
      none_told : (ds : List Deadlock) (xs : List Line) → deadlock_lines turn (whose_of state s) ds ≡ xs ++ line ∷ others → answer_in line ≡ None
      none_told [] [] e = let no : ⊥ = cc in absurd no
      none_told [] (y ∷ xs) e = let no : ⊥ = cc in absurd no
      none_told (d ∷ ds) [] e = ap answer_in (sym (cons_head _ line (deadlock_lines turn (whose_of state s) ds) others e))
      none_told (d ∷ ds) (y ∷ xs) e = none_told ds xs (cons_tail _ y (deadlock_lines turn (whose_of state s) ds) (xs ++ line ∷ others) e)

      by_place : (ls : IsLines m state turn s (lines_of m state turn (acts s) choice)) (front : List Line)
          → record { turn = turn; whose = whose_of state s; told = ls.told } ∷ deadlock_lines turn (whose_of state s) ls.ds ≡ front ++ line ∷ others
          → (is_deadlock a ≡ is_among (victims_of (earlier ++ front)) a.session) × (a.number ≡ 1 + length (answers_of a.session (answers_in (earlier ++ front))))
      by_place ls [] e =
          let line_is = cons_head _ line (deadlock_lines turn (whose_of state s) ls.ds) others e in
          let says = ls.head.says turn a (ap answer_in line_is ∙ said) in
          subst (λ (xs : List Line). (is_deadlock a ≡ is_among (victims_of xs) a.session) × (a.number ≡ 1 + length (answers_of a.session (answers_in xs)))) (sym (append-nil earlier)) (
            says.0 ∙ sym (r.tells.known s) ∙ ap (is_among (victims_of earlier)) (sym says.1.0),
            says.1.1 ∙ r.tells.numbers s ∙ ap (λ i. 1 + count_in i earlier) (sym says.1.0),
          )
      by_place ls (x ∷ front) e =
          let none = none_told ls.ds front (cons_tail _ x (deadlock_lines turn (whose_of state s) ls.ds) (front ++ line ∷ others) e) in
          let no : ◌≡◌ {A = Option Answer} None (Some a) = sym none ∙ said in
          let f : ⊥ = cc in absurd f

  answered : (last : ℕ) (left : State) (lines earlier later : List Line) (line : Line) → IsRested m before → Events m first last before lines left → lines ≡ earlier ++ line ∷ later → IsAnsweredAt earlier line
  answered last left lines earlier later line rested events is =
      each_line m first before good IsAnsweredAt
      (of_actor m first before good IsAnsweredAt (λ before' l no none a k. (let f : ◌≡◌ {A = Option Answer} None (Some a) = sym none ∙ k in let g : ⊥ = cc in absurd g)) session_answers)
      [] first last before events.events (reached_first m first before rested) events.happen earlier later line (events.told ∙ is)

pub victims_are_answered : VictimsAreAnswered
victims_are_answered m first last before left lines earlier later line a good rested events is said = (answered m first before good last left lines earlier later line rested events is a said).0

pub answers_are_numbered : AnswersAreNumbered
answers_are_numbered m first last before left lines earlier later line a good rested events is said = (answered m first before good last left lines earlier later line rested events is a said).1
