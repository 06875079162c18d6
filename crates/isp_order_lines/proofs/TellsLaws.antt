-- Events keep what lines tell of a state: who waits for whom, who is inside a transaction, who is a victim, and how many answers
-- each session has.
use Rattle.std.proofs.Common.{◌≡◌, ◌∙◌, ◌+◌, refl, sym, ap, subst, ℕ, zero, suc, ◌==◌, ◌||◌, cond, Bool, true, false, Option, Some, None, List, [], ◌∷◌, ◌++◌, length, arith, eqb-true, eq-eqb}
use Rattle.std.specs.Prelude.{replicate, slice_set}
use Rattle.std.specs.Str.{bytes_eq}
use Rattle.std.proofs.lemmas.Bool.{false≢true}
use Rattle.isp_waits.specs.Graphs.{waits_of}
use Rattle.isp_plain.specs.declared.statement.Reply.TheVariants as reply
use Rattle.isp_plain.specs.Texts.{ok_text, end_text, deadlock_text, reply_text}
use Rattle.isp_serial.specs.Answers.{Answer, answers_of}
use Rattle.isp_serial.specs.Script.{text_at}
use Rattle.isp_serial.specs.Serial.{effect_of}
use Rattle.isp_serial.specs.Transactions.{ends}
use Rattle.isp_forest.specs.Steps.{is_among}
use Rattle.isp_events.specs.Sessions.{SessionState, session_at}
use Rattle.isp_events.specs.State.{State, Queued, ended, no_waits, without}
use Rattle.isp_events.specs.Ways.{Machine}
use Rattle.isp_events.specs.Lines.{Edges, Line, answers_in, edges_after, edges_after_end, no_edges, of_session, answer}
use Rattle.isp_events.specs.Next.{EventKind, answers, undoes, creates, asks_table, asks_key, visits, scans, steps, goes_stale, finds_full, places, writes, next}
use Rattle.isp_events.specs.Deadlocks.{Deadlock, MayWait, broken, deadlock_lines, undo_lengths, waits_with, with_victims}
use Rattle.isp_events.specs.Placing.{in_the_way, sessions_on}
use Rattle.isp_events.specs.Events.{Actor, acts, purges, flushes, lists_locks, Choice, with_nothing, with_blockers, with_deadlocks, with_child, with_divisions, with_put, with_undo_pages, with_roots, with_flushed, MayChoose, MayGoOn, MayHappen, after, after_kind, after_next, blockers_of, full_reply, lines_next, lines_of, lines_purging, whose_of}
use Rattle.isp_order.specs.InOrder.{InOrder, IsProper, IsRested}
use Rattle.isp_order.proofs.SessionLaws.{other_at, same_at, seated}
use Rattle.isp_causes.specs.Causes.{IsActive, IsCaused}
use Rattle.isp_causes.proofs.CauseLaws.{is_caused}
use Rattle.isp_order_trees.proofs.NoteParts.{set_leaves, victims_leave}
use Rattle.isp_order_lines.specs.Told.{victims_after, victims_of}
use Rattle.isp_order_lines.proofs.AnswerTexts.{TellsEnd, answer_tells, created_says, ends_by}
use Rattle.isp_order_lines.proofs.LineLists.{among_other, among_self, count_append, count_in, deadlock_edges, deadlocks_answer_none, edges_append, gone_other, gone_self, set_length, set_same, victims_append, victims_known}

pub record Tells (m : Machine) (edges : Edges) (victims : List ℕ) (count : ℕ → ℕ) (state : State) : Type 0 where
  pub waits : edges.waits ≡ state.waits
  pub inside : (k : ℕ) → is_among edges.inside k ≡ (session_at state.sessions k).inside
  pub known : (k : ℕ) → is_among victims k ≡ (session_at state.sessions k).victim
  pub numbers : (k : ℕ) → (session_at state.sessions k).number ≡ 1 + count k

module _ (m : Machine) (edges : Edges) (victims : List ℕ) (count : ℕ → ℕ) (state : State) (good : IsProper m) (o : InOrder m state) (t : Tells m edges victims count state) where
  abbrev After : List Line → State → Type 0
  After lines now = Tells m (edges_after m.script m.language edges lines) (victims_after victims lines) (λ k. count k + count_in k lines) now

  -- the same waits, and of each session the same is told
  still : (now : State) → now.waits ≡ state.waits → ((k : ℕ) → (session_at now.sessions k).inside ≡ (session_at state.sessions k).inside)
      → ((k : ℕ) → (session_at now.sessions k).victim ≡ (session_at state.sessions k).victim) → ((k : ℕ) → (session_at now.sessions k).number ≡ (session_at state.sessions k).number)
      → Tells m edges victims (λ k. count k + 0) now
  still now waits inside victim number = record {
    waits = t.waits ∙ sym waits;
    inside = λ k. t.inside k ∙ sym (inside k);
    known = λ k. t.known k ∙ sym (victim k);
    numbers = λ k. (let same = number k in let was = t.numbers k in omega (arith, same, was));
  }

  -- one session changes, and of it what is told stays
  one : (s : ℕ) (new : SessionState) (now : State) → now.sessions ≡ slice_set state.sessions s new → now.waits ≡ state.waits → new.inside ≡ (session_at state.sessions s).inside
      → new.victim ≡ (session_at state.sessions s).victim → new.number ≡ (session_at state.sessions s).number → Tells m edges victims (λ k. count k + 0) now
  one s new now is waits inside victim number =
      still now waits
      (λ k. ap (λ list. (session_at list k).inside) is ∙ set_leaves (λ (x : SessionState). x.inside) state.sessions s new inside k)
      (λ k. ap (λ list. (session_at list k).victim) is ∙ set_leaves (λ (x : SessionState). x.victim) state.sessions s new victim k)
      (λ k. ap (λ list. (session_at list k).number) is ∙ set_leaves (λ (x : SessionState). x.number) state.sessions s new number k)

  -- ---- an answer

  abbrev answered : ℕ → ℕ → ℕ → List ℕ → Answer
  answered turn s number text = record { turn = turn; session = s; number = number; text = text }

  module _ (turn s : ℕ) (active : IsActive state s) where
    abbrev its : SessionState
    its = session_at state.sessions s

    abbrev line : List ℕ → Line
    line text = record { turn = turn; whose = of_session s its.number; told = answer text }

    -- of the session what is new, and of the others what was
    each : {Y : Type 0} (g : SessionState → Y) (f : ℕ → Y) (new : SessionState) → f s ≡ g new → ((k : ℕ) → (k == s) ≡ false → f k ≡ g (session_at state.sessions k))
        → (k : ℕ) → f k ≡ g (session_at (slice_set state.sessions s new) k)
    each g f new own others k = by_place (k == s) refl
      where
        by_place : (b : Bool) → (k == s) ≡ b → f k ≡ g (session_at (slice_set state.sessions s new) k)
        by_place true e =
            subst (λ i. f i ≡ g (session_at (slice_set state.sessions s new) i)) (sym (eqb-true k s e)) (own ∙ sym (ap g (same_at state.sessions s new (seated state.sessions s active.not_over))))
        by_place false e = others k e ∙ sym (ap g (other_at state.sessions s k new e))

    counted : (text : List ℕ) (new : SessionState) → new.number ≡ its.number + 1 → (k : ℕ)
        → (session_at (slice_set state.sessions s new) k).number ≡ 1 + (count k + length (answers_of k (answered turn s its.number text ∷ [])))
    counted text new number k = sym (each (λ (x : SessionState). x.number) (λ i. 1 + (count i + length (answers_of i (answered turn s its.number text ∷ [])))) new own others k)
      where
        own : 1 + (count s + length (answers_of s (answered turn s its.number text ∷ []))) ≡ new.number
        own =
            let here : (s == s) ≡ true = eq-eqb s s refl in
            let one_more : length (answers_of s (answered turn s its.number text ∷ [])) ≡ 1 = ap (λ b. length (cond b (answered turn s its.number text ∷ []) [])) here in
            let was = t.numbers s in
            omega (arith, one_more, was, number)

        others : (i : ℕ) → (i == s) ≡ false → 1 + (count i + length (answers_of i (answered turn s its.number text ∷ []))) ≡ (session_at state.sessions i).number
        others i ne =
            let none : length (answers_of i (answered turn s its.number text ∷ [])) ≡ 0 = ap (λ b. length (cond b (answered turn s its.number text ∷ []) [])) (apart (s == i) refl) in
            let was = t.numbers i in
            omega (arith, none, was)
          where
            apart : (c : Bool) → (s == i) ≡ c → (s == i) ≡ false
            apart false e = e
            apart true e = absurd (false≢true (sym ne ∙ eq-eqb i s (sym (eqb-true s i e))))

    -- whether it ends the transaction, as the edges tell
    ends_told : (text : List ℕ) (over : Bool) → TellsEnd (effect_of m.language (text_at m.script s its.number)) its text over
        → ends (is_among edges.inside s) (effect_of m.language (text_at m.script s its.number)) (answered turn s its.number text) ≡ over
    ends_told text over says =
        ap (λ b. ends_by b (effect_of m.language (text_at m.script s its.number)) (bytes_eq text end_text) (bytes_eq text deadlock_text) (bytes_eq text ok_text)) (t.inside s) ∙ says.ends_so

    ended_tells : (text : List ℕ) (new : SessionState) (now : State) → TellsEnd (effect_of m.language (text_at m.script s its.number)) its text true
        → now.sessions ≡ slice_set state.sessions s new → now.waits ≡ ended state.waits s → new.inside ≡ false → new.victim ≡ false → new.number ≡ its.number + 1
        → After (line text ∷ []) now
    ended_tells text new now says is waits inside victim number =
        subst (λ b. Tells m (edges_after_end b s edges) (without s victims) (λ k. count k + length (answers_of k (answered turn s its.number text ∷ []))) now) (sym (ends_told text true says)) (record {
          waits = ap (λ w. ended w s) t.waits ∙ sym waits;
          inside = λ k. each (λ (x : SessionState). x.inside) (is_among (without s edges.inside)) new (gone_self edges.inside s ∙ sym inside) (λ i ne. gone_other edges.inside s i ne ∙ t.inside i) k
              ∙ sym (ap (λ list. (session_at list k).inside) is);
          known = λ k. each (λ (x : SessionState). x.victim) (is_among (without s victims)) new (gone_self victims s ∙ sym victim) (λ i ne. gone_other victims s i ne ∙ t.known i) k
              ∙ sym (ap (λ list. (session_at list k).victim) is);
          numbers = λ k. ap (λ list. (session_at list k).number) is ∙ counted text new number k;
        })

    going_tells : (text : List ℕ) (new : SessionState) (now : State) → TellsEnd (effect_of m.language (text_at m.script s its.number)) its text false
        → now.sessions ≡ slice_set state.sessions s new → now.waits ≡ state.waits → new.inside ≡ true → new.victim ≡ its.victim → new.number ≡ its.number + 1
        → After (line text ∷ []) now
    going_tells text new now says is waits inside victim number =
        subst (λ b. Tells m (edges_after_end b s edges) (without s victims) (λ k. count k + length (answers_of k (answered turn s its.number text ∷ []))) now) (sym (ends_told text false says)) (record {
          waits = ap (λ w. slice_set w s []) t.waits ∙ set_same state.waits s active.awake ∙ sym waits;
          inside = λ k. each (λ (x : SessionState). x.inside) (is_among (s ∷ edges.inside)) new (among_self s edges.inside ∙ sym inside)
              (λ i ne. among_other s i edges.inside (apart i ne (s == i) refl) ∙ t.inside i) k ∙ sym (ap (λ list. (session_at list k).inside) is);
          known = λ k. each (λ (x : SessionState). x.victim) (is_among (without s victims)) new (gone_self victims s ∙ sym (victim ∙ undisturbed)) (λ i ne. gone_other victims s i ne ∙ t.known i) k
              ∙ sym (ap (λ list. (session_at list k).victim) is);
          numbers = λ k. ap (λ list. (session_at list k).number) is ∙ counted text new number k;
        })
      where
        apart : (i : ℕ) → (i == s) ≡ false → (c : Bool) → (s == i) ≡ c → (s == i) ≡ false
        apart i ne false e = e
        apart i ne true e = absurd (false≢true (sym ne ∙ eq-eqb i s (sym (eqb-true s i e))))

        -- a victim's answer ends its transaction
        undisturbed : its.victim ≡ false
        undisturbed = sym says.deadlock_so ∙ no_deadlock (bytes_eq text end_text) (bytes_eq text deadlock_text) _ says.ends_so
          where
            no_deadlock : (a b c : Bool) → (a || b || c) ≡ false → b ≡ false
            no_deadlock true b c e = absurd (false≢true (sym e))
            no_deadlock false true c e = absurd (false≢true (sym e))
            no_deadlock false false c e = refl

  -- ---- a refusal

  refusal_tells : (s turn : ℕ) (on : List ℕ) (ds : List Deadlock) (now : State) → MayWait state s on ds → now.waits ≡ broken (waits_with state s on) ds
      → now.sessions ≡ with_victims state.sessions ds
      → Tells m (edges_after m.script m.language (record edges { waits = slice_set edges.waits s on }) (deadlock_lines turn (whose_of state s) ds))
      (victims_after victims (deadlock_lines turn (whose_of state s) ds)) (λ k. count k + length (answers_of k (answers_in (deadlock_lines turn (whose_of state s) ds)))) now
  refusal_tells s turn on ds now may waits is = record {
    waits = ap (λ (e : Edges). e.waits) told ∙ ap (λ w. broken (slice_set w s on) ds) t.waits ∙ sym waits;
    inside = λ k. ap (λ (e : Edges). is_among e.inside k) told ∙ t.inside k ∙ sym (ap (λ list. (session_at list k).inside) is ∙ victims_leave (λ (x : SessionState). x.inside) (λ x. refl) state.sessions ds k);
    known = λ k. victims_known turn (whose_of state s) (undo_lengths state.sessions) s ds (waits_with state s on) state.sessions victims may lengths t.known k
        ∙ sym (ap (λ list. (session_at list k).victim) is);
    numbers = λ k. (let none : length (answers_of k (answers_in (deadlock_lines turn (whose_of state s) ds))) ≡ 0 = ap (λ xs. length (answers_of k xs)) (deadlocks_answer_none turn (whose_of state s) ds) in
        let same = ap (λ list. (session_at list k).number) is ∙ victims_leave (λ (x : SessionState). x.number) (λ x. refl) state.sessions ds k in
        let was = t.numbers k in
        omega (arith, none, same, was));
  }
    where
      told : edges_after m.script m.language (record edges { waits = slice_set edges.waits s on }) (deadlock_lines turn (whose_of state s) ds)
          ≡ record edges { waits = broken (slice_set edges.waits s on) ds }
      told = deadlock_edges m.script m.language (record edges { waits = slice_set edges.waits s on }) turn (whose_of state s) ds

      lengths : length state.sessions ≡ length (waits_with state s on)
      lengths = o.counted.sessions ∙ sym (set_length state.waits s on ∙ o.counted.waits)

  -- ---- each kind

  module _ (turn s : ℕ) where
    kind_tells : (kind : EventKind) (choice : Choice) → next m state s ≡ Some kind → IsCaused m state s kind → MayChoose state s kind choice
        → After (lines_next state turn s (Some kind) choice) (after_kind m state s kind choice)
    kind_tells (answers r true) with_nothing e c h = ended_tells turn s c.active (reply_text r) _ _ (answer_tells m state good s r true e) refl refl refl refl refl
    kind_tells (answers r false) with_nothing e c h = going_tells turn s c.active (reply_text r) _ _ (answer_tells m state good s r false e) refl refl refl refl refl
    kind_tells (undoes entry) (with_undo_pages more) e c h = one s _ _ refl refl refl refl refl
    kind_tells (creates name schema) with_nothing e c h = ended_tells turn s c.active (reply_text full_reply) _ _ (created_says m state good s o name schema c.cause).1 refl refl refl refl refl
    kind_tells (creates name schema) (with_roots leaf roots) e c h = ended_tells turn s c.active (reply_text reply.Ok) _ _ (created_says m state good s o name schema c.cause).0 refl refl refl refl refl
    kind_tells (asks_table statement number mode) with_nothing e c h = one s _ _ refl refl refl refl refl
    kind_tells (asks_table statement number mode) (with_blockers by ds) e c h = refusal_tells s turn (blockers_of by) ds _ h.2 refl refl
    kind_tells (asks_key number key mode) with_nothing e c h = one s _ _ refl refl refl refl refl
    kind_tells (asks_key number key mode) (with_blockers by ds) e c h = refusal_tells s turn (blockers_of by) ds _ h.2 refl refl
    kind_tells (visits number column predicate) with_nothing e c h = one s _ _ refl refl refl refl refl
    kind_tells (scans number leaf) with_nothing e c h = one s _ _ refl refl refl refl refl
    kind_tells (steps d) (with_child q) e c h = one s _ _ refl refl refl refl refl
    kind_tells (goes_stale d) with_nothing e c h = one s _ _ refl refl refl refl refl
    kind_tells finds_full with_nothing e c h = one s _ _ refl refl refl refl refl
    kind_tells (places d) (with_deadlocks ds) e c h = refusal_tells s turn (sessions_on (in_the_way state s d)) ds _ h.1 refl refl
    kind_tells (places d) (with_divisions q ds) e c h = one s _ _ refl refl refl refl refl
    kind_tells (writes number change placed) (with_put p) e c h = one s _ _ refl refl refl refl refl
    kind_tells kind choice e c h = absurd h

    next_tells : (kind : Option EventKind) (choice : Choice) → next m state s ≡ kind → MayGoOn state s kind choice → After (lines_next state turn s kind choice) (after_next m state s kind choice)
    next_tells None choice e h = absurd h
    next_tells (Some kind) choice e h = kind_tells kind choice e (is_caused m state s kind e) h

  purge_tells : (turn : ℕ) (queue : List Queued) (now : State) → now.waits ≡ state.waits → now.sessions ≡ state.sessions → After (lines_purging state turn queue) now
  purge_tells turn [] now waits is = still now waits (λ k. ap (λ list. (session_at list k).inside) is) (λ k. ap (λ list. (session_at list k).victim) is) (λ k. ap (λ list. (session_at list k).number) is)
  purge_tells turn (item ∷ queue) now waits is = still now waits (λ k. ap (λ list. (session_at list k).inside) is) (λ k. ap (λ list. (session_at list k).victim) is) (λ k. ap (λ list. (session_at list k).number) is)

  pub event_tells : (turn : ℕ) (actor : Actor) (choice : Choice) → MayHappen m state actor choice → After (lines_of m state turn actor choice) (after m state actor choice)
  event_tells turn (acts s) choice h = next_tells turn s (next m state s) choice refl h
  event_tells turn purges with_nothing h = purge_tells turn state.queue _ refl refl
  event_tells turn flushes (with_flushed n) h = still state refl (λ k. refl) (λ k. refl) (λ k. refl)
  event_tells turn lists_locks with_nothing h = still state refl (λ k. refl) (λ k. refl) (λ k. refl)
  event_tells turn actor choice h = absurd h

-- ---- all lines so far

abbrev pub TellsAll : Machine → List Line → State → Type 0
TellsAll m earlier state = Tells m (edges_after m.script m.language no_edges earlier) (victims_of earlier) (λ k. count_in k earlier) state

pub all_tell : (m : Machine) (earlier : List Line) (state : State) → IsProper m → InOrder m state → TellsAll m earlier state → (turn : ℕ) (actor : Actor) (choice : Choice)
    → MayHappen m state actor choice → TellsAll m (earlier ++ lines_of m state turn actor choice) (after m state actor choice)
all_tell m earlier state good o t turn actor choice h =
    let lines : List Line = lines_of m state turn actor choice in
    let r = event_tells m (edges_after m.script m.language no_edges earlier) (victims_of earlier) (λ k. count_in k earlier) state good o t turn actor choice h in
    record {
      waits = ap (λ (e : Edges). e.waits) (edges_append m.script m.language no_edges earlier lines) ∙ r.waits;
      inside = λ k. ap (λ (e : Edges). is_among e.inside k) (edges_append m.script m.language no_edges earlier lines) ∙ r.inside k;
      known = λ k. ap (λ xs. is_among xs k) (victims_append [] earlier lines) ∙ r.known k;
      numbers = λ k. (let more = count_append k earlier lines in let was = r.numbers k in omega (arith, more, was));
    }

-- ---- at first

rested_waits : (waits others : List (List ℕ)) → length waits ≡ length others → ((s : ℕ) → waits_of waits s ≡ []) → ((s : ℕ) → waits_of others s ≡ []) → waits ≡ others
rested_waits [] [] same h k = refl
rested_waits [] (y ∷ others) same h k = let no : ⊥ = omega (arith, same) in absurd no
rested_waits (x ∷ waits) [] same h k = let no : ⊥ = omega (arith, same) in absurd no
rested_waits (x ∷ waits) (y ∷ others) same h k =
    ap (λ z. z ∷ waits) (h 0 ∙ sym (k 0)) ∙ ap (λ zs. y ∷ zs) (rested_waits waits others (omega (arith, same)) (λ s. h (suc s)) (λ s. k (suc s)))

nobody_waits : (n s : ℕ) → waits_of (replicate n []) s ≡ []
nobody_waits zero s = refl
nobody_waits (suc n) zero = refl
nobody_waits (suc n) (suc s) = nobody_waits n s

pub rested_tells : (m : Machine) (state : State) → IsRested m state → TellsAll m [] state
rested_tells m state r = record {
  waits = sym (rested_waits state.waits no_waits r.counted.waits r.no_wait (nobody_waits 17));
  inside = λ k. sym (ap (λ (x : SessionState). x.inside) (r.fresh k));
  known = λ k. sym (ap (λ (x : SessionState). x.victim) (r.fresh k));
  numbers = λ k. ap (λ (x : SessionState). x.number) (r.fresh k);
}
