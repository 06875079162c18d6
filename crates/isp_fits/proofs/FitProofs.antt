-- Each event keeps what sessions were told and how far they are.
use Rattle.std.proofs.Common.{◌≡◌, ◌⊎◌, ◌∙◌, ◌≤◌, ◌<◌, ◌+◌, inl, inr, refl, sym, ap, subst, ℕ, zero, suc, ◌==◌, ◌&&◌, ◌||◌, Bool, true, false, not, cond, is_none, Option, Some, None, ℤ, List, [], ◌∷◌, ◌++◌, length, map, append-nil, append_assoc, arith, eqb-true, eq-eqb}
use Rattle.std.specs.Prelude.{◌↔◌, All, filter_map, slice_set, if◌then◌else◌}
use Rattle.std.specs.Option.{option_and_then}
use Rattle.std.proofs.lemmas.Bool.{false≢true}
use Rattle.std.proofs.lemmas.List.Elements.{All-nil, All-push, filter_map-append}
use Rattle.std.proofs.lemmas.List.{map-append}
use Rattle.isp_plain.specs.declared.statement.Reply.{Reply}
use Rattle.isp_plain.specs.declared.statement.Reply.TheVariants as says
use Rattle.isp_plain.specs.declared.refusal.Refusal.TheVariants.{DuplicateKey, RowTooLarge}
use Rattle.isp_plain.specs.declared.statement.Statement.{Statement}
use Rattle.isp_plain.specs.declared.statement.Statement.TheVariants.{Create, Insert, Select, Update, Delete, Begin, Commit, Rollback, Refused}
use Rattle.isp_plain.proofs.DoesLaws.{IsOwn}
use Rattle.isp_plain.specs.declared.value.Row.{Row}
use Rattle.isp_serial.specs.declared.script.Script.{Script}
use Rattle.isp_serial.specs.Alone.{MayMean}
use Rattle.isp_serial.specs.Answers.{Answer, NeverFalls, answers_of, counted_from, is_end}
use Rattle.isp_serial.specs.Script.{answers_due, text_at, text_in, texts_of}
use Rattle.isp_serial.specs.Serial.{place_at}
use Rattle.isp_events.specs.Sessions.{Change, Failure, duplicate, too_large, file_full, SessionState, Work, fresh, session_at}
use Rattle.isp_events.specs.State.{State, Queued}
use Rattle.isp_events.specs.Views.{committed}
use Rattle.isp_events.specs.Ways.{Machine}
use Rattle.isp_events.specs.Lines.{Line, Whose, answer_in, answers_in}
use Rattle.isp_events.specs.Next.{EventKind, answers, undoes, creates, asks_table, asks_key, visits, scans, steps, goes_stale, finds_full, places, writes, deadlock_reply, failure_reply, next, reply_of}
use Rattle.isp_events.specs.Deadlocks.{Deadlock, MayWait, after_refusal, as_victim, deadlock_lines, with_victims}
use Rattle.isp_events.specs.Ending.{after_answer, after_end, is_end_reply, is_over_after, session_after_answer, session_after_end}
use Rattle.isp_events.specs.Placing.{in_the_way, sessions_on}
use Rattle.isp_events.specs.Events.{Actor, acts, purges, flushes, lists_locks, Choice, with_nothing, with_blockers, with_deadlocks, with_child, with_divisions, with_put, with_undo_pages, with_roots, with_flushed, Event, Events, MayChoose, MayFollow, MayGoOn, MayHappen, after, after_all, after_kind, after_next, blockers_of, full_reply, lines_next, lines_of, lines_of_all, lines_purging, whose_of}
use Rattle.isp_reclock.specs.Tables.{key_lock, table_lock}
use Rattle.isp_order.specs.InOrder.{InOrder, IsProper, IsRested, is_missing}
use Rattle.isp_order.proofs.RestedLaws.{in_order}
use Rattle.isp_order.proofs.SessionLaws.{other_at, same_at, seated, victims_keep}
use Rattle.isp_causes.specs.Causes.{IsActive, IsAtFirst, IsCaused, IsCreating, IsLockingKey, IsLockingRow}
use Rattle.isp_causes.proofs.CauseLaws.{is_caused}
use Rattle.isp_order_trees.proofs.NoteParts.{set_relates}
use Rattle.isp_order_whole.proofs.WholeLaws.{order_kept}
use Rattle.isp_replies.specs.Replies.{AnswersFirst, Reason, Replies, RepliesDone, RepliesEnd, RepliesFailed, RepliesFirst, RepliesVictim}
use Rattle.isp_replies.proofs.ReasonLaws.{has_reason}
use Rattle.isp_replies.proofs.TextFacts.{answer_to, deadlock_not_end, end_is, full_is, own_is_plain, own_no_end}
use Rattle.isp_fits.specs.FitLaws.{AreFitting, EventsFit, HasNoTexts, HasTold, HasToldBy, HaveTold}
use Rattle.isp_fits.proofs.CountLaws.{counted_more, falls_less, length_more, map_more, of_other, of_own, text_below, text_past}
use Rattle.isp_fits.proofs.VictimLaws.{Asks, demand_text, victims_ask}

none_some : {X : Type 0} (x : X) → None ≡ Some x → ⊥
none_some x h = cc

-- ---- one session

-- an event that answers it nothing leaves its number and whether it is over; it may become a victim, with a text
pub record IsQuiet (m : Machine) (s : ℕ) (before now : SessionState) : Type 0 where
  pub number : now.number ≡ before.number
  pub over : now.over ≡ before.over
  pub victim : now.victim ≡ true → (before.victim ≡ true) ⊎ ((text : List ℕ) × (text_at m.script s before.number ≡ Some text))

quiet_itself : (m : Machine) (s : ℕ) (x : SessionState) → IsQuiet m s x x
quiet_itself m s x = record { number = refl; over = refl; victim = λ h. inl h }

text_of : (m : Machine) (s number : ℕ) (texts : List (List ℕ)) (text : List ℕ) → texts_of m.script s ≡ Some texts → text_at m.script s number ≡ Some text → number ≤ length texts
text_of m s number texts text is h =
    text_below texts number text (sym (ap (option_and_then (λ ts. text_in ts number)) is) ∙ h)

quiet_told : (m : Machine) (s : ℕ) (texts : Option (List (List ℕ))) (before now : SessionState) (given : List Answer) → texts_of m.script s ≡ texts → IsQuiet m s before now
    → HasToldBy texts s before given → HasToldBy texts s now given
quiet_told m s None before now given is q h = record { over = q.over ∙ h.over; nothing = h.nothing }
quiet_told m s (Some texts) before now given is q h = record {
  numbers = h.numbers;
  number = q.number ∙ h.number;
  most = h.most;
  ends = h.ends;
  over = (λ e. h.over.0 (sym q.over ∙ e), λ e. q.over ∙ h.over.1 e);
  victim = λ v. by_case (q.victim v);
}
  where
    by_case : (before.victim ≡ true) ⊎ ((text : List ℕ) × (text_at m.script s before.number ≡ Some text)) → now.number ≤ length texts
    by_case (inl b) = subst (λ n. n ≤ length texts) (sym q.number) (h.victim b)
    by_case (inr t) = subst (λ n. n ≤ length texts) (sym q.number) (text_of m s before.number texts t.0 is t.1)

-- ---- the answer of a session

-- what is known of the answer: it has a text and is no END, or it is the END behind the last text
pub record HasText (turn s number : ℕ) (texts : List (List ℕ)) (r : Reply) : Type 0 where
  pub below : number ≤ length texts
  pub not_end : is_end (answer_to turn s number r) ≡ false
  pub no_end : is_end_reply r ≡ false

pub record IsLast (turn s number : ℕ) (texts : List (List ℕ)) (r : Reply) : Type 0 where
  pub past : length texts < number
  pub not_setup : (s == 0) ≡ false
  pub is_the_end : is_end (answer_to turn s number r) ≡ true
  pub the_end : is_end_reply r ≡ true

module _ (m : Machine) (turn s : ℕ) (texts : List (List ℕ)) (is : texts_of m.script s ≡ Some texts) (session : SessionState) (given : List Answer) (h : HasTold texts s session given)
    (not_over : session.over ≡ false) (r : Reply) where
  abbrev a : Answer
  a = answer_to turn s session.number r

  -- it is due
  less : (length given ≡ answers_due s texts → ⊥)
  less e = false≢true (sym not_over ∙ h.over.1 e)

  due_is : (b : Bool) → (s == 0) ≡ b → answers_due s texts ≡ (if b then length texts else length texts + 1)
  due_is b e = ap (λ c. if c then length texts else length texts + 1) e

  told_more : (now : SessionState) → now.number ≡ session.number + 1 → (now.victim ≡ true → ⊥) → now.over ≡ is_over_after m s session.number r
      → HasText turn s session.number texts r ⊎ IsLast turn s session.number texts r → HasTold texts s now (given ++ a ∷ [])
  told_more now number undisturbed over which = record {
    numbers = map_more (λ (x : Answer). x.number) given a ∙ ap (λ ns. ns ++ session.number ∷ []) h.numbers
        ∙ ap (λ n. counted_from 1 given ++ n ∷ []) counts ∙ sym (counted_more 1 given a);
    number = number ∙ ap (λ n. n + 1) h.number ∙ ap (λ n. n + 1) (sym (length_more given a));
    most = subst (λ n. n ≤ answers_due s texts) (sym (length_more given a)) at_most;
    ends = all_more given h.ends end_here;
    over = (λ e. length_more given a ∙ over_to (sym over ∙ e), λ e. over ∙ over_from (sym (length_more given a) ∙ e));
    victim = λ v. absurd (undisturbed v);
  }
    where
      counts : session.number ≡ 1 + length given
      counts = let n : session.number ≡ length given + 1 = h.number in omega (arith, n)

      at_most : length given + 1 ≤ answers_due s texts
      at_most =
          let most : length given ≤ answers_due s texts = h.most in
          let ne : (length given ≡ answers_due s texts → ⊥) = less in
          omega (arith, most, ne)

      all_more : (xs : List Answer) → All (λ (x : Answer). (is_end x ≡ true) ↔ (x.number ≡ length texts + 1)) xs → ((is_end a ≡ true) ↔ (a.number ≡ length texts + 1))
          → All (λ (x : Answer). (is_end x ≡ true) ↔ (x.number ≡ length texts + 1)) (xs ++ a ∷ [])
      all_more xs each one = All-push (λ (x : Answer). (is_end x ≡ true) ↔ (x.number ≡ length texts + 1)) xs a each one

      end_here : (is_end a ≡ true) ↔ (a.number ≡ length texts + 1)
      end_here = by_case which
        where
          by_case : HasText turn s session.number texts r ⊎ IsLast turn s session.number texts r → (is_end a ≡ true) ↔ (a.number ≡ length texts + 1)
          by_case (inl t) = (λ e. absurd (false≢true (sym t.not_end ∙ e)), λ e. (let below : session.number ≤ length texts = t.below in let past : session.number ≡ length texts + 1 = e in let no : ⊥ = omega (arith, below, past) in absurd no))
          by_case (inr l) = (λ e. exact, λ e. l.is_the_end)
            where
              exact : a.number ≡ length texts + 1
              exact =
                  let past : length texts < session.number = l.past in
                  let due : answers_due s texts ≡ length texts + 1 = due_is false l.not_setup in
                  let most : length given + 1 ≤ answers_due s texts = at_most in
                  let n : session.number ≡ length given + 1 = h.number in
                  omega (arith, past, due, most, n)

      last_setup : (s == 0) ≡ true → session.number ≤ length texts → (is_none (text_at m.script s (session.number + 1)) ≡ true) ↔ (length given + 1 ≡ answers_due s texts)
      last_setup setup below = (λ e. to (text_at m.script s (session.number + 1)) refl e, λ e. from (text_at m.script s (session.number + 1)) refl e)
        where
          here : text_at m.script s (session.number + 1) ≡ text_in texts (session.number + 1)
          here = ap (option_and_then (λ ts. text_in ts (session.number + 1))) is

          due : answers_due s texts ≡ length texts
          due = due_is true setup

          n : session.number ≡ length given + 1
          n = h.number

          to : (o : Option (List ℕ)) → text_at m.script s (session.number + 1) ≡ o → is_none o ≡ true → length given + 1 ≡ answers_due s texts
          to None e k =
              let past : length texts < session.number + 1 = text_past texts (session.number + 1) (omega arith) (sym here ∙ e) in
              omega (arith, past, below, due, n)
          to (Some text) e k = absurd (false≢true k)

          from : (o : Option (List ℕ)) → text_at m.script s (session.number + 1) ≡ o → length given + 1 ≡ answers_due s texts → is_none o ≡ true
          from None e k = refl
          from (Some text) e k =
              let below' : session.number + 1 ≤ length texts = text_below texts (session.number + 1) text (sym here ∙ e) in
              let no : ⊥ = omega (arith, below', k, due, n) in absurd no

      over_iff : (is_over_after m s session.number r ≡ true) ↔ (length given + 1 ≡ answers_due s texts)
      over_iff = by_case which
        where
          by_case : HasText turn s session.number texts r ⊎ IsLast turn s session.number texts r → (is_over_after m s session.number r ≡ true) ↔ (length given + 1 ≡ answers_due s texts)
          by_case (inr l) = (λ e. ended, λ e. ap (λ b. b || ((s == 0) && is_none (text_at m.script s (session.number + 1)))) l.the_end)
            where
              ended : length given + 1 ≡ answers_due s texts
              ended =
                  let past : length texts < session.number = l.past in
                  let due : answers_due s texts ≡ length texts + 1 = due_is false l.not_setup in
                  let most : length given + 1 ≤ answers_due s texts = at_most in
                  let n : session.number ≡ length given + 1 = h.number in
                  omega (arith, past, due, most, n)
          by_case (inl t) = by_setup (s == 0) refl
            where
              short : is_over_after m s session.number r ≡ ((s == 0) && is_none (text_at m.script s (session.number + 1)))
              short = ap (λ b. b || ((s == 0) && is_none (text_at m.script s (session.number + 1)))) t.no_end

              by_setup : (b : Bool) → (s == 0) ≡ b → (is_over_after m s session.number r ≡ true) ↔ (length given + 1 ≡ answers_due s texts)
              by_setup true e =
                  let same : is_over_after m s session.number r ≡ is_none (text_at m.script s (session.number + 1)) = short ∙ ap (λ b. b && is_none (text_at m.script s (session.number + 1))) e in
                  let l = last_setup e t.below in
                  (λ o. l.0 (sym same ∙ o), λ o. same ∙ l.1 o)
              by_setup false e =
                  let same : is_over_after m s session.number r ≡ false = short ∙ ap (λ b. b && is_none (text_at m.script s (session.number + 1))) e in (
                    λ o. absurd (false≢true (sym same ∙ o)),
                    λ o. (let below : session.number ≤ length texts = t.below in
                        let due : answers_due s texts ≡ length texts + 1 = due_is false e in
                        let n : session.number ≡ length given + 1 = h.number in
                        let no : ⊥ = omega (arith, below, due, n, o) in absurd no),
                  )

      over_to : is_over_after m s session.number r ≡ true → length given + 1 ≡ answers_due s texts
      over_to e = over_iff.0 e

      over_from : length given + 1 ≡ answers_due s texts → is_over_after m s session.number r ≡ true
      over_from e = over_iff.1 e

-- ---- each event

no_answers : (turn : ℕ) (whose : Whose) (ds : List Deadlock) → answers_in (deadlock_lines turn whose ds) ≡ []
no_answers turn whose [] = refl
no_answers turn whose (d ∷ ds) = no_answers turn whose ds

module _ (m : Machine) (state : State) (turn : ℕ) (good : IsProper m) (o : InOrder m state) (given : List Answer) (told : HaveTold m.script state given) where
  -- what an event leads to, with its given; their turns are the event's
  pub record Fitting (more : List Answer) (now : State) : Type 0 where
    pub turns : (xs : List ℕ) (first : ℕ) → first ≤ turn → NeverFalls turn xs → NeverFalls first (map (λ (x : Answer). x.turn) more ++ xs)
    pub told_then : HaveTold m.script now (given ++ more)
    pub still_over : (k : ℕ) → (session_at state.sessions k).over ≡ true → (session_at now.sessions k).over ≡ true

  quiet : (now : State) → ((k : ℕ) → IsQuiet m k (session_at state.sessions k) (session_at now.sessions k)) → Fitting [] now
  quiet now each = record {
    turns = λ xs first le h. falls_less first turn xs le h;
    told_then = λ k. subst (λ xs. HasToldBy (texts_of m.script k) k (session_at now.sessions k) (answers_of k xs)) (sym (append-nil given))
        (quiet_told m k (texts_of m.script k) (session_at state.sessions k) (session_at now.sessions k) (answers_of k given) refl (each k) (told k));
    still_over = λ k h. (each k).over ∙ h;
  }

  -- one session changes, and isn't answered
  quiet_one : (now : State) (s : ℕ) (new : SessionState) → now.sessions ≡ slice_set state.sessions s new → new.number ≡ (session_at state.sessions s).number
      → new.over ≡ (session_at state.sessions s).over → new.victim ≡ (session_at state.sessions s).victim → Fitting [] now
  quiet_one now s new is number over victim =
      quiet now (λ k. subst (λ (xs : List SessionState). IsQuiet m k (session_at state.sessions k) (session_at xs k)) (sym is)
      (set_relates (λ x y. IsQuiet m k x y) (λ x. quiet_itself m k x) state.sessions s new (record { number = number; over = over; victim = λ v. inl (sym victim ∙ v) }) k))

  module _ (s : ℕ) (active : IsActive state s) where
    abbrev session : SessionState
    session = session_at state.sessions s

    -- the session is answered
    answered : (r : Reply) (now : State) (new : SessionState) → now.sessions ≡ slice_set state.sessions s new → new.number ≡ session.number + 1 → (new.victim ≡ true → ⊥)
        → new.over ≡ is_over_after m s session.number r
        → ((texts : List (List ℕ)) → texts_of m.script s ≡ Some texts → HasTold texts s session (answers_of s given)
        → HasText turn s session.number texts r ⊎ IsLast turn s session.number texts r)
        → Fitting (answer_to turn s session.number r ∷ []) now
    answered r now new is number undisturbed over which = record {
      turns = λ xs first le h. (le, h);
      told_then = λ k. by_session k (k == s) refl;
      still_over = λ k h. over_stays k h (k == s) refl;
    }
      where
        a : Answer
        a = answer_to turn s session.number r

        here : session_at now.sessions s ≡ new
        here = ap (λ xs. session_at xs s) is ∙ same_at state.sessions s new (seated state.sessions s active.not_over)

        there : (k : ℕ) → (k == s) ≡ false → session_at now.sessions k ≡ session_at state.sessions k
        there k ne = ap (λ xs. session_at xs k) is ∙ other_at state.sessions s k new ne

        flip : (k : ℕ) → (k == s) ≡ false → (s == k) ≡ false
        flip k ne = by_test (s == k) refl
          where
            by_test : (b : Bool) → (s == k) ≡ b → b ≡ false
            by_test true e = absurd (false≢true (sym ne ∙ eq-eqb k s (sym (eqb-true s k e))))
            by_test false e = refl

        own : (texts : Option (List (List ℕ))) → texts_of m.script s ≡ texts → HasToldBy texts s session (answers_of s given) → HasToldBy texts s (session_at now.sessions s) (answers_of s (given ++ a ∷ []))
        own None e h = absurd (false≢true (sym active.not_over ∙ h.over))
        own (Some texts) e h =
            subst (λ xs. HasTold texts s (session_at now.sessions s) xs) (sym (of_own s given a (eq-eqb s s refl)))
            (subst (λ (x : SessionState). HasTold texts s x (answers_of s given ++ a ∷ [])) (sym here)
            (told_more m turn s texts e session (answers_of s given) h active.not_over r new number undisturbed over (which texts e h)))

        by_session : (k : ℕ) (b : Bool) → (k == s) ≡ b → HasToldBy (texts_of m.script k) k (session_at now.sessions k) (answers_of k (given ++ a ∷ []))
        by_session k true e =
            subst (λ i. HasToldBy (texts_of m.script i) i (session_at now.sessions i) (answers_of i (given ++ a ∷ []))) (sym (eqb-true k s e)) (own (texts_of m.script s) refl (told s))
        by_session k false e =
            subst (λ xs. HasToldBy (texts_of m.script k) k (session_at now.sessions k) xs) (sym (of_other k given a (flip k e)))
            (subst (λ (x : SessionState). HasToldBy (texts_of m.script k) k x (answers_of k given)) (sym (there k e)) (told k))

        over_stays : (k : ℕ) → (session_at state.sessions k).over ≡ true → (b : Bool) → (k == s) ≡ b → (session_at now.sessions k).over ≡ true
        over_stays k h true e = absurd (false≢true (sym active.not_over ∙ ap (λ i. (session_at state.sessions i).over) (sym (eqb-true k s e)) ∙ h))
        over_stays k h false e = ap (λ (x : SessionState). x.over) (there k e) ∙ h

    -- an own reply of a text
    with_text : (r : Reply) (text : List ℕ) → text_at m.script s session.number ≡ Some text → is_end (answer_to turn s session.number r) ≡ false → is_end_reply r ≡ false
        → (texts : List (List ℕ)) → texts_of m.script s ≡ Some texts → HasTold texts s session (answers_of s given) → HasText turn s session.number texts r ⊎ IsLast turn s session.number texts r
    with_text r text is not_end no_end texts of h = inl (record { below = text_of m s session.number texts text of is; not_end = not_end; no_end = no_end })

    own_text : (r : Reply) (text : List ℕ) → text_at m.script s session.number ≡ Some text → IsOwn r
        → (texts : List (List ℕ)) → texts_of m.script s ≡ Some texts → HasTold texts s session (answers_of s given) → HasText turn s session.number texts r ⊎ IsLast turn s session.number texts r
    own_text r text is own = with_text r text is (own_is_plain turn s session.number r own).not_end (own_no_end r own)

    reply_own : (st : Statement) (read : List (ℤ × Option Row)) (done : List Change) → IsOwn (reply_of st read done)
    reply_own (Select name columns w) read done = tt
    reply_own (Create name schema) read done = tt
    reply_own (Insert name rows) read done = tt
    reply_own (Update name sets w) read done = tt
    reply_own (Delete name w) read done = tt
    reply_own Begin read done = tt
    reply_own Commit read done = tt
    reply_own Rollback read done = tt
    reply_own (Refused refusal) read done = tt

    -- each answer has its place
    has_place : (r : Reply) (ends : Bool) → Replies m state s session r ends
        → (texts : List (List ℕ)) → texts_of m.script s ≡ Some texts → HasTold texts s session (answers_of s given) → HasText turn s session.number texts r ⊎ IsLast turn s session.number texts r
    has_place r ends (inl v) texts of h =
        inl (record {
          below = h.victim v.victim;
          not_end = ap (λ x. is_end (answer_to turn s session.number x)) v.reply_is ∙ deadlock_not_end turn s session.number;
          no_end = ap is_end_reply v.reply_is;
        })
    has_place r ends (inr (inl e)) texts of h =
        inr (record {
          past = text_past texts session.number (let n : session.number ≡ length (answers_of s given) + 1 = h.number in omega (arith, n))
              (sym (ap (option_and_then (λ ts. text_in ts session.number)) of) ∙ e.no_text);
          not_setup = e.not_setup;
          is_the_end = ap (λ x. is_end (answer_to turn s session.number x)) e.reply_is ∙ end_is turn s session.number;
          the_end = ap is_end_reply e.reply_is;
        })
    has_place r ends (inr (inr (inl f))) texts of h = by_statement f.statement f.first f.answers
      where
        by_reply : (x : Reply) → r ≡ x → IsOwn x → (text : List ℕ) → text_at m.script s session.number ≡ Some text → HasText turn s session.number texts r ⊎ IsLast turn s session.number texts r
        by_reply x is own text text_is = own_text r text text_is (subst (λ y. IsOwn y) (sym is) own) texts of h

        by_statement : (st : Statement) → IsAtFirst m state s session st → AnswersFirst session st r ends → HasText turn s session.number texts r ⊎ IsLast turn s session.number texts r
        by_statement (Refused refusal) first k =
            by_reply (says.Err refusal) k.0
            (subst (λ st. MayMean (m.language.effect first.text) st) first.means (good.faithful.meant (committed state) (place_at s session.inside) first.text)) first.text first.text_is
        by_statement Begin first k = by_reply says.Ok k.0 tt first.text first.text_is
        by_statement Commit first k = by_reply says.Ok k.0 tt first.text first.text_is
        by_statement Rollback first k = by_reply says.Ok k.0 tt first.text first.text_is
        by_statement (Create name schema) first k = absurd k
        by_statement (Insert name rows) first k = absurd k
        by_statement (Select name columns w) first k = absurd k
        by_statement (Update name sets w) first k = absurd k
        by_statement (Delete name w) first k = absurd k
    has_place r ends (inr (inr (inr (inl f)))) texts of h =
        by_failure f.failure f.reply_is
      where
        text_is : text_at m.script s session.number ≡ Some (o.bound s f.work f.at_work).text
        text_is = (o.bound s f.work f.at_work).text_is

        by_failure : (failure : Failure) → r ≡ failure_reply failure → HasText turn s session.number texts r ⊎ IsLast turn s session.number texts r
        by_failure (duplicate key) is = own_text r (o.bound s f.work f.at_work).text text_is (subst (λ y. IsOwn y) (sym is) refl) texts of h
        by_failure too_large is = own_text r (o.bound s f.work f.at_work).text text_is (subst (λ y. IsOwn y) (sym is) refl) texts of h
        by_failure file_full is =
            with_text r (o.bound s f.work f.at_work).text text_is (ap (λ x. is_end (answer_to turn s session.number x)) is ∙ (full_is turn s session.number).not_end) (ap is_end_reply is) texts of h
    has_place r ends (inr (inr (inr (inr d)))) texts of h =
        own_text r (o.bound s d.work d.goes_on.at_work).text (o.bound s d.work d.goes_on.at_work).text_is
        (subst (λ y. IsOwn y) (sym d.reply_is) (reply_own d.work.statement d.work.read d.done)) texts of h

    not_victim_more : (r : Reply) → Replies m state s session r false → session.victim ≡ false
    not_victim_more r (inl v) = absurd (false≢true v.ends_is)
    not_victim_more r (inr (inl e)) = absurd (false≢true e.ends_is)
    not_victim_more r (inr (inr (inl f))) = f.first.undisturbed
    not_victim_more r (inr (inr (inr (inl f)))) = f.undisturbed
    not_victim_more r (inr (inr (inr (inr d)))) = d.goes_on.undisturbed

    ended : (r : Reply) → Replies m state s session r true → Fitting (answer_to turn s session.number r ∷ []) (after_end state s (is_over_after m s session.number r))
    ended r why = answered r (after_end state s (is_over_after m s session.number r)) _ refl refl (λ v. false≢true v) refl (has_place r true why)

    inside : (r : Reply) → Replies m state s session r false → Fitting (answer_to turn s session.number r ∷ []) (after_answer state s (is_over_after m s session.number r))
    inside r why =
        answered r (after_answer state s (is_over_after m s session.number r)) _ refl refl (λ v. false≢true (sym (not_victim_more r why) ∙ v)) refl (has_place r false why)

    -- a wait, which may make victims
    refused : (on : List ℕ) (ds : List Deadlock) → MayWait state s on ds → Asks m state s → Fitting [] (after_refusal state s on ds)
    refused on ds may asks = quiet (after_refusal state s on ds) (λ k. record {
      number = victims_keep (λ (x : SessionState). x.number) (λ x. refl) state.sessions ds k;
      over = victims_keep (λ (x : SessionState). x.over) (λ x. refl) state.sessions ds k;
      victim = λ v. victims_ask m state o s on ds may asks k v;
    })

    kind_fits : (kind : EventKind) (choice : Choice) → IsCaused m state s kind → Reason m state s session kind → MayChoose state s kind choice
        → Fitting (answers_in (lines_next state turn s (Some kind) choice)) (after_kind m state s kind choice)
    kind_fits (answers r true) with_nothing c why h = ended r why
    kind_fits (answers r false) with_nothing c why h = inside r why
    kind_fits (undoes entry) (with_undo_pages more) c why h = quiet_one _ s _ refl refl refl refl
    kind_fits (creates name schema) with_nothing c why h =
        answered full_reply _ _ refl refl (λ v. false≢true v) refl (with_text full_reply c.cause.first.text c.cause.first.text_is (full_is turn s session.number).not_end refl)
    kind_fits (creates name schema) (with_roots leaf roots) c why h =
        answered says.Ok _ _ refl refl (λ v. false≢true v) refl (own_text says.Ok c.cause.first.text c.cause.first.text_is tt)
    kind_fits (asks_table statement number mode) with_nothing c why h = quiet_one _ s _ refl refl refl refl
    kind_fits (asks_table statement number mode) (with_blockers by ds) c why h =
        subst (λ xs. Fitting xs (after_refusal state s (blockers_of by) ds)) (sym (no_answers turn (whose_of state s) ds)) (refused (blockers_of by) ds h.2 (c.cause.first.text, c.cause.first.text_is))
    kind_fits (asks_key number key mode) with_nothing c why h = quiet_one _ s _ refl refl refl refl
    kind_fits (asks_key number key mode) (with_blockers by ds) c why h =
        subst (λ xs. Fitting xs (after_refusal state s (blockers_of by) ds)) (sym (no_answers turn (whose_of state s) ds)) (refused (blockers_of by) ds h.2 (by_cause c.cause))
      where
        by_cause : IsLockingKey session number key mode ⊎ IsLockingRow session number key mode → Asks m state s
        by_cause (inl at) = ((o.bound s at.work at.goes_on.at_work).text, (o.bound s at.work at.goes_on.at_work).text_is)
        by_cause (inr at) = ((o.bound s at.work at.goes_on.at_work).text, (o.bound s at.work at.goes_on.at_work).text_is)
    kind_fits (visits number column predicate) with_nothing c why h = quiet_one _ s _ refl refl refl refl
    kind_fits (scans number leaf) with_nothing c why h = quiet_one _ s _ refl refl refl refl
    kind_fits (steps d) (with_child q) c why h = quiet_one _ s _ refl refl refl refl
    kind_fits (goes_stale d) with_nothing c why h = quiet_one _ s _ refl refl refl refl
    kind_fits finds_full with_nothing c why h = quiet_one _ s _ refl refl refl refl
    kind_fits (places d) (with_deadlocks ds) c why h =
        subst (λ xs. Fitting xs (after_refusal state s (sessions_on (in_the_way state s d)) ds)) (sym (no_answers turn (whose_of state s) ds))
        (refused (sessions_on (in_the_way state s d)) ds h.1
        ((o.bound s c.cause.descending.entering.work c.cause.descending.entering.goes_on.at_work).text, (o.bound s c.cause.descending.entering.work c.cause.descending.entering.goes_on.at_work).text_is))
    kind_fits (places d) (with_divisions q ds) c why h = quiet_one _ s _ refl refl refl refl
    kind_fits (writes number change placed) (with_put p) c why h = quiet_one _ s _ refl refl refl refl
    kind_fits kind choice c why h = absurd h

  next_fits : (s : ℕ) (kind : Option EventKind) (choice : Choice) → next m state s ≡ kind → MayGoOn state s kind choice
      → Fitting (answers_in (lines_next state turn s kind choice)) (after_next m state s kind choice)
  next_fits s None choice e h = absurd h
  next_fits s (Some kind) choice e h = (let c : IsCaused m state s kind = is_caused m state s kind e in kind_fits s c.active kind choice c (has_reason m state s kind e) h)

  purge_quiet : (queue : List Queued) → answers_in (lines_purging state turn queue) ≡ []
  purge_quiet [] = refl
  purge_quiet (item ∷ queue) = refl

  pub event_fits : (actor : Actor) (choice : Choice) → MayHappen m state actor choice → Fitting (answers_in (lines_of m state turn actor choice)) (after m state actor choice)
  event_fits (acts s) choice h = next_fits s (next m state s) choice refl h
  event_fits purges with_nothing h = subst (λ xs. Fitting xs (after m state purges with_nothing)) (sym (purge_quiet state.queue)) (quiet (after m state purges with_nothing) (λ k. quiet_itself m k (session_at state.sessions k)))
  event_fits flushes (with_flushed n) h = quiet state (λ k. quiet_itself m k (session_at state.sessions k))
  event_fits lists_locks with_nothing h = quiet state (λ k. quiet_itself m k (session_at state.sessions k))
  event_fits actor choice h = absurd h

-- ---- all events

pub record AllFit (m : Machine) (first : ℕ) (state : State) (given more : List Answer) (left : State) : Type 0 where
  pub turns : NeverFalls first (map (λ (x : Answer). x.turn) more)
  pub told : HaveTold m.script left (given ++ more)
  pub still_over : (k : ℕ) → (session_at state.sessions k).over ≡ true → (session_at left.sessions k).over ≡ true

pub all_fit : (m : Machine) (first last : ℕ) (state : State) (events : List Event) (given : List Answer) → IsProper m → InOrder m state → HaveTold m.script state given
    → MayFollow m first last state events → AllFit m first state given (answers_in (lines_of_all m state events)) (after_all m state events)
all_fit m first last state [] given good o told happen = record {
  turns = tt;
  told = λ k. subst (λ xs. HasToldBy (texts_of m.script k) k (session_at state.sessions k) (answers_of k xs)) (sym (append-nil given)) (told k);
  still_over = λ k h. h;
}
all_fit m first last state (e ∷ events) given good o told happen =
    let now : State = after m state e.actor e.choice in
    let one = event_fits m state e.turn good o given told e.actor e.choice happen.1 in
    let here : List Answer = answers_in (lines_of m state e.turn e.actor e.choice) in
    let more : List Answer = answers_in (lines_of_all m now events) in
    let rest : AllFit m e.turn now (given ++ here) more (after_all m now events) =
    all_fit m e.turn last now events (given ++ here) good (order_kept m state e.actor e.choice good o happen.1) one.told_then happen.2 in
    let all : answers_in (lines_of_all m state (e ∷ events)) ≡ here ++ more = filter_map-append answer_in (lines_of m state e.turn e.actor e.choice) (lines_of_all m now events) in
    record {
      turns = subst (λ xs. NeverFalls first (map (λ (x : Answer). x.turn) xs)) (sym all)
          (subst (NeverFalls first) (sym (map-append (λ (x : Answer). x.turn) here more)) (one.turns (map (λ (x : Answer). x.turn) more) first happen.0 rest.turns));
      told = subst (λ xs. HaveTold m.script (after_all m now events) xs) (append_assoc given here more ∙ ap (λ xs. given ++ xs) (sym all)) rest.told;
      still_over = λ k h. rest.still_over k (one.still_over k h);
    }

-- nobody was told anything in a rested state
pub rested_fits : (m : Machine) (state : State) → IsRested m state → HaveTold m.script state []
rested_fits m state r s = by_texts (texts_of m.script s) refl
  where
    by_texts : (texts : Option (List (List ℕ))) → texts_of m.script s ≡ texts → HasToldBy texts s (session_at state.sessions s) []
    by_texts None e = record {
      over = ap (λ (x : SessionState). x.over) (r.fresh s) ∙ ap (λ (t : Option (List (List ℕ))). is_none t || ((s == 0) && is_none (text_at m.script 0 1))) e;
      nothing = refl;
    }
    by_texts (Some texts) e = record {
      numbers = refl;
      number = ap (λ (x : SessionState). x.number) (r.fresh s);
      most = omega arith;
      ends = All-nil (λ (x : Answer). (is_end x ≡ true) ↔ (x.number ≡ length texts + 1));
      over = by_setup (s == 0) refl;
      victim = λ v. absurd (false≢true (sym (ap (λ (x : SessionState). x.victim) (r.fresh s)) ∙ v));
    }
      where
        over_is : (session_at state.sessions s).over ≡ ((s == 0) && is_none (text_at m.script 0 1))
        over_is = ap (λ (x : SessionState). x.over) (r.fresh s) ∙ ap (λ (t : Option (List (List ℕ))). is_none t || ((s == 0) && is_none (text_at m.script 0 1))) e

        by_setup : (b : Bool) → (s == 0) ≡ b → ((session_at state.sessions s).over ≡ true) ↔ (0 ≡ answers_due s texts)
        by_setup false f = (
          λ h. absurd (false≢true (sym (over_is ∙ ap (λ b. b && is_none (text_at m.script 0 1)) f) ∙ h)),
          λ h. (let due : answers_due s texts ≡ length texts + 1 = ap (λ b. if b then length texts else length texts + 1) f in let no : ⊥ = omega (arith, h, due) in absurd no),
        )
        by_setup true f = (λ h. to (text_at m.script 0 1) refl (sym (over_is ∙ ap (λ b. b && is_none (text_at m.script 0 1)) f) ∙ h), λ h. from (text_at m.script 0 1) refl h)
          where
            here : text_at m.script 0 1 ≡ text_in texts 1
            here = ap (option_and_then (λ ts. text_in ts 1)) (ap (texts_of m.script) (sym (eqb-true s 0 f)) ∙ e)

            due : answers_due s texts ≡ length texts
            due = ap (λ b. if b then length texts else length texts + 1) f

            to : (x : Option (List ℕ)) → text_at m.script 0 1 ≡ x → is_none x ≡ true → 0 ≡ answers_due s texts
            to None g k = let past : length texts < 1 = text_past texts 1 (omega arith) (sym here ∙ g) in omega (arith, past, due)
            to (Some text) g k = absurd (false≢true k)

            from : (x : Option (List ℕ)) → text_at m.script 0 1 ≡ x → 0 ≡ answers_due s texts → (session_at state.sessions s).over ≡ true
            from None g k = over_is ∙ ap (λ b. b && is_none (text_at m.script 0 1)) f ∙ ap is_none g
            from (Some text) g k = let below : 1 ≤ length texts = text_below texts 1 text (sym here ∙ g) in let no : ⊥ = omega (arith, below, k, due) in absurd no

pub events_fit : EventsFit
events_fit m first last before left lines good rested events =
    let all : AllFit m first before [] (answers_in (lines_of_all m before events.events)) (after_all m before events.events) =
    all_fit m first last before events.events [] good (in_order m before rested) (rested_fits m before rested) events.happen in
    record {
      turns = subst (λ ls. NeverFalls first (map (λ (x : Answer). x.turn) (answers_in ls))) events.told all.turns;
      told = subst (λ ls. HaveTold m.script left (answers_in ls)) events.told (subst (λ st. HaveTold m.script st (answers_in (lines_of_all m before events.events))) events.ends all.told);
    }
