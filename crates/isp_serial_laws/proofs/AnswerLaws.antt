-- An answer joins what is open, or ends it: what then stands, and on what.
use Rattle.std.proofs.Common.{◌≡◌, ◌⊎◌, ◌∙◌, inl, inr, refl, sym, ap, subst, ℕ, suc, ℤ, ◌==◌, ◌&&◌, ◌||◌, Bool, true, false, not, cond, Option, Some, None, List, [], ◌∷◌, ◌++◌, drop, is_some, length, map, le_refl, drop_of_length-le, eqb-true, eq-eqb}
use Rattle.std.specs.Prelude.{MatchBool, find, slice_set, if◌then◌else◌}
use Rattle.std.specs.Option.{option_map}
use Rattle.std.proofs.lemmas.Bool.{false≢true}
use Rattle.isp_base.specs.Lists.{Has}
use Rattle.isp_laws.proofs.ListLaws.{Has-append}
use Rattle.isp_plain.specs.declared.refusal.Refusal.{Refusal}
use Rattle.isp_plain.specs.declared.refusal.Refusal.TheVariants.{DuplicateKey, FileFull, RowTooLarge}
use Rattle.isp_plain.specs.declared.statement.Reply.{Reply}
use Rattle.isp_plain.specs.declared.statement.Reply.TheVariants as reply
use Rattle.isp_plain.specs.declared.statement.Statement.{Statement}
use Rattle.isp_plain.specs.declared.statement.Statement.TheVariants.{Create, Insert, Select, Update, Delete, Begin, Commit, Rollback, Refused}
use Rattle.isp_plain.specs.declared.value.Row.{Row}
use Rattle.isp_plain.specs.declared.value.Schema.{Schema}
use Rattle.isp_plain.specs.Does.{Outcome, does}
use Rattle.isp_plain.specs.Tables.{Table, definition_of}
use Rattle.isp_plain.specs.Texts.{reply_text}
use Rattle.isp_plain.proofs.DoesLaws.{IsOwn}
use Rattle.isp_serial.specs.Alone.{IsFaithful, MayMean, effect_by}
use Rattle.isp_serial.specs.Answers.{Answer, is_deadlock, is_end, is_full}
use Rattle.isp_serial.specs.Script.{text_at}
use Rattle.isp_serial.specs.Serial.{Agrees, Ends, EndsAll, Pending, Repeats, Replays, effect_of, is_given, is_inside, place_at}
use Rattle.isp_serial.specs.Transactions.{Effect, begins, commits, ends, is_begin, is_close, is_commit, is_ok, keeps, rolls_back as rolls_back_effect, stays}
use Rattle.isp_events.specs.Stored.{StoredTable, present, row_of, table_at}
use Rattle.isp_events.specs.Sessions.{Change, Failure, duplicate, too_large, file_full, SessionState, Work, session_at}
use Rattle.isp_events.specs.State.{State, TreeSearch}
use Rattle.isp_events.specs.Views.{beginning_view, committed, committed_row, is_of_key, length_at_beginning, statement_undo, view, view_at, view_at_beginning}
use Rattle.isp_events.specs.Ways.{Machine}
use Rattle.isp_events.specs.Next.{deadlock_reply, failure_reply, reply_of}
use Rattle.isp_events.specs.Ending.{after_answer, after_create, after_end, new_table, session_after_answer, session_after_end}
use Rattle.isp_events.specs.Events.{full_reply}
use Rattle.isp_order.specs.Locks.{without_rows}
use Rattle.isp_order.specs.Work.{IsBound, IsServed, undo_since}
use Rattle.isp_order.specs.InOrder.{InOrder, IsProper}
use Rattle.isp_order.proofs.SessionLaws.{other_at, same_at, seated}
use Rattle.isp_order.proofs.TableLaws.{definitions_seen}
use Rattle.isp_causes.specs.Causes.{IsActive, IsAtFirst, IsCreating}
use Rattle.isp_causes.proofs.EventCases.{means_without_rows}
use Rattle.isp_replies.specs.Replies.{AnswersFirst, Replies, RepliesDone, RepliesEnd, RepliesFailed, RepliesFirst, RepliesVictim}
use Rattle.isp_answers.specs.Course.{AreOnCourse}
use Rattle.isp_answers.specs.Told.{AreBegun, AreTold, IsTold, Rests, RestsAt, RestsText, Stand, gives_up, rolls_back, statement_next}
use Rattle.isp_answers.proofs.RestedLaws.{same_seen, sees_committed}
use Rattle.isp_views.specs.Views.{IsShown, definition_at}
use Rattle.isp_views.proofs.ViewLaws.{are_shown}
use Rattle.isp_views.proofs.MovedLaws.{begun_is, works_on}
use Rattle.isp_views.proofs.EndLaws.{answer_committed_list, answer_others_list, answer_view_list, created_list, created_undo, end_committed_list}
use Rattle.isp_answer_laws.specs.TrueAnswers.{IsTrueAnswer}
use Rattle.isp_answer_laws.proofs.TrueLaws.{answers_are_true, nothing_written}
use Rattle.isp_serial_laws.specs.SerialLaws.{ToldAfter}
use Rattle.isp_serial_laws.proofs.StandLaws.{flag, flag_begun, replays_more, stand_definitions, stand_more, stand_moves, stand_replays, there_itself}
use Rattle.isp_serial_laws.proofs.FrameLaws.{StandsThen, by_names, stands_at_end}
use Rattle.isp_replies.proofs.TextFacts.{IsFull, IsPlain, answer_to, deadlock_is, end_is, ends_by, full_is, keeps_by, not_ok_ends, ok_is, own_is_plain, refusal_not_ok}

none_some : {X : Type 0} (x : X) → None ≡ Some x → ⊥
none_some x h = cc

if_own : {X : Type 0} (b : Bool) (x y : X) → b ≡ true → cond b x y ≡ x
if_own b x y h = ap (λ c. cond c x y) h

if_other : {X : Type 0} (b : Bool) (x y : X) → b ≡ false → cond b x y ≡ y
if_other b x y h = ap (λ c. cond c x y) h

true_by : (b : Bool) (P Q : Type 0) → b ≡ true → P → MatchBool b P Q
true_by b P Q h p = subst (λ c. MatchBool c P Q) (sym h) p

false_by : (b : Bool) (P Q : Type 0) → b ≡ false → Q → MatchBool b P Q
false_by b P Q h q = subst (λ c. MatchBool c P Q) (sym h) q

-- the open answers of one session become these
abbrev pub becomes : Pending → ℕ → List Answer → Pending
becomes pending s answers k = if k == s then answers else pending k

module _ (m : Machine) (state : State) (good : IsProper m) (o : InOrder m state) (course : AreOnCourse state) (pending : Pending) (told : AreTold m state pending)
    (turn s : ℕ) (active : IsActive state s) where
  abbrev session : SessionState
  session = session_at state.sessions s

  abbrev t : IsTold m state s (pending s)
  t = told s

  abbrev effect_now : Effect
  effect_now = effect_of m.language (text_at m.script s session.number)

  inside_is : is_inside (pending s) ≡ session.inside
  inside_is = t.inside

  -- the replay behind the open answers is inside where the session is
  flag_is : flag m false (pending s) ≡ session.inside
  flag_is = flag_begun m (pending s) t.begun ∙ t.inside

  none_open : session.inside ≡ false → pending s ≡ []
  none_open h = by_list (pending s) (t.inside ∙ h)
    where
      by_list : (xs : List Answer) → is_inside xs ≡ false → xs ≡ []
      by_list [] e = refl
      by_list (x ∷ xs) e = absurd (false≢true (sym e))

  -- outside of a transaction nothing was done again
  left_committed : session.inside ≡ false → t.left ≡ committed state
  left_committed h = subst (λ xs. Stand m state s false (committed state) xs t.left) (none_open h) t.stand

  -- ---- an answer that ends

  pub record Ended (a : Answer) (now : State) : Type 0 where
    pub after : List Table
    pub agrees : Agrees m.language m.script session.inside t.left a after
    pub ends_it : ends session.inside effect_now a ≡ true
    pub commits : committed now ≡ (if keeps session.inside effect_now a then after else committed state)

  ended_all : (a : Answer) (now : State) → a.session ≡ s → a.number ≡ session.number → Ended a now
      → EndsAll m.language m.script (committed state) pending (a ∷ []) (committed now) (becomes pending s [])
  ended_all a now session_is number_is e =
      (committed now, becomes pending s [], one, (refl, refl))
    where
      effect : Effect
      effect = effect_of m.language (text_at m.script a.session a.number)

      effect_is : effect ≡ effect_now
      effect_is = ap (λ i. effect_of m.language (text_at m.script i a.number)) session_is ∙ ap (λ n. effect_of m.language (text_at m.script s n)) number_is

      before_is : pending a.session ≡ pending s
      before_is = ap pending session_is

      inside_here : is_inside (pending a.session) ≡ session.inside
      inside_here = ap is_inside before_is ∙ t.inside

      replays : Replays m.language m.script false (committed state) (pending s ++ a ∷ []) e.after
      replays = replays_more m false (committed state) (pending s) t.left a e.after (stand_replays m state s false (committed state) (pending s) t.left t.stand)
          (subst (λ b. Agrees m.language m.script b t.left a e.after) (sym flag_is) e.agrees)

      one : Ends m.language m.script (committed state) pending a (committed now) (becomes pending s [])
      one = true_by (ends (is_inside (pending a.session)) effect a) _ _
          (ap (λ b. ends b effect a) inside_here ∙ ap (λ x. ends session.inside x a) effect_is ∙ e.ends_it) (
            e.after,
            subst (λ xs. Replays m.language m.script false (committed state) (xs ++ a ∷ []) e.after) (sym before_is) replays,
            e.commits ∙ ap (λ x. if keeps session.inside x a then e.after else committed state) (sym effect_is)
                ∙ ap (λ b. if keeps b effect a then e.after else committed state) (sym inside_here),
            λ k. ap (λ i. if k == i then [] else pending k) (sym session_is),
          )

  -- an end that makes no table
  module _ (over : Bool) (onow : InOrder m (after_end state s over)) where
    told_ended : AreTold m (after_end state s over) (becomes pending s [])
    told_ended k = by_session (k == s) refl
      where
        by_session : (b : Bool) → (k == s) ≡ b → IsTold m (after_end state s over) k (if b then [] else pending k)
        by_session true e = record {
          own = λ answer h. absurd h;
          inside = sym (ap (λ i. (session_at (after_end state s over).sessions i).inside) (eqb-true k s e)
              ∙ ap (λ (x : SessionState). x.inside) (same_at state.sessions s _ (seated state.sessions s active.not_over)));
          begun = tt;
          left = committed (after_end state s over);
          stand = refl;
          seen = λ goes_on. same_seen (committed_row (after_end state s over)) (view_at_beginning (after_end state s over) k) state.tables
              (λ n key. sym (sees_committed (after_end state s over) k (ap (λ i. (session_at (after_end state s over).sessions i).undo) (eqb-true k s e)
              ∙ ap (λ (x : SessionState). x.undo) (same_at state.sessions s _ (seated state.sessions s active.not_over))) n key));
        }
        by_session false e =
            let old : IsTold m state k (pending k) = told k in
            let moved : StandsThen m state good o s over active onow k e (pending k) old.left = stands_at_end m state good o s over active onow k e (pending k) old.left old.own old.stand in
            let here : session_at (after_end state s over).sessions k ≡ session_at state.sessions k = other_at state.sessions s k _ e in
            record {
              own = old.own;
              inside = old.inside ∙ sym (ap (λ (x : SessionState). x.inside) here);
              begun = old.begun;
              left = moved.leaves;
              stand = moved.stand;
              seen = λ goes_on. moved.seen (old.seen (ap (gives_up m state.tables k) (sym here) ∙ goes_on));
            }

    pub tells_end : (r : Reply) → Ended (answer_to turn s session.number r) (after_end state s over)
        → ToldAfter m state pending (answer_to turn s session.number r ∷ []) (after_end state s over)
    tells_end r e = record {
      left = becomes pending s [];
      ended = ended_all (answer_to turn s session.number r) (after_end state s over) refl refl e;
      told = told_ended;
    }

  -- ---- an answer inside

  pub record Joins (a : Answer) (now : State) : Type 0 where
    pub after : List Table
    pub agrees : Agrees m.language m.script session.inside t.left a after
    pub rests : RestsAt m state s session.inside t.left a
    pub ends_not : ends session.inside effect_now a ≡ false
    pub begins_it : session.inside ≡ false → (is_begin effect_now && is_ok a) ≡ true
    pub seen : after ≡ beginning_view now s

  module _ (over : Bool) where
    pub tells_answer : (r : Reply) → Joins (answer_to turn s session.number r) (after_answer state s over)
        → ToldAfter m state pending (answer_to turn s session.number r ∷ []) (after_answer state s over)
    tells_answer r j = record {
      left = becomes pending s (pending s ++ a ∷ []);
      ended = (committed state, becomes pending s (pending s ++ a ∷ []), one, (lists, refl));
      told = λ k. by_session k (k == s) refl;
    }
      where
        a : Answer
        a = answer_to turn s session.number r

        now : State
        now = after_answer state s over

        lists : committed now ≡ committed state
        lists = answer_committed_list m state good o s over active

        one : Ends m.language m.script (committed state) pending a (committed state) (becomes pending s (pending s ++ a ∷ []))
        one = false_by (ends (is_inside (pending s)) effect_now a) _ _ (ap (λ b. ends b effect_now a) t.inside ∙ j.ends_not) (refl, λ k. refl)

        here : session_at now.sessions s ≡ session_after_answer over session
        here = same_at state.sessions s (session_after_answer over session) (seated state.sessions s active.not_over)

        stand : Stand m now s false (committed now) (pending s ++ a ∷ []) j.after
        stand =
            subst (λ ts. Stand m now s false ts (pending s ++ a ∷ []) j.after) (sym lists)
            (stand_moves m state now s (record { locks = λ table key mode h. h; searches = λ x h is done. there_itself state.searches x h }) false (committed state) (pending s ++ a ∷ []) j.after
            (stand_more m state s false (committed state) (pending s) t.left a j.after t.stand
            (subst (λ b. Agrees m.language m.script b t.left a j.after) (sym flag_is) j.agrees)
            (subst (λ b. RestsAt m state s b t.left a) (sym flag_is) j.rests)))

        more_inside : (xs : List Answer) → is_inside (xs ++ a ∷ []) ≡ true
        more_inside [] = refl
        more_inside (x ∷ xs) = refl

        more_begun : (xs : List Answer) → pending s ≡ xs → AreBegun m xs → AreBegun m (xs ++ a ∷ [])
        more_begun [] e b = j.begins_it (sym t.inside ∙ ap is_inside e)
        more_begun (x ∷ xs) e b = b

        by_session : (k : ℕ) (b : Bool) → (k == s) ≡ b → IsTold m now k (if b then pending s ++ a ∷ [] else pending k)
        by_session k true e =
            subst (λ i. IsTold m now i (pending s ++ a ∷ [])) (sym (eqb-true k s e)) (record {
              own = λ answer h. by_place answer (Has-append (pending s) (a ∷ []) answer h);
              inside = more_inside (pending s) ∙ sym (ap (λ (x : SessionState). x.inside) here);
              begun = more_begun (pending s) refl t.begun;
              left = j.after;
              stand = stand;
              seen = λ goes_on. j.seen;
            })
          where
            by_place : (answer : Answer) → Has (pending s) answer ⊎ Has (a ∷ []) answer → answer.session ≡ s
            by_place answer (inl h) = t.own answer h
            by_place answer (inr (inl is)) = ap (λ (x : Answer). x.session) (sym is)
            by_place answer (inr (inr f)) = absurd f
        by_session k false e =
            let old : IsTold m state k (pending k) = told k in
            let same : session_at now.sessions k ≡ session_at state.sessions k = other_at state.sessions s k (session_after_answer over session) e in
            record {
              own = old.own;
              inside = old.inside ∙ sym (ap (λ (x : SessionState). x.inside) same);
              begun = old.begun;
              left = old.left;
              stand = subst (λ ts. Stand m now k false ts (pending k) old.left) (sym lists)
                  (stand_moves m state now k (record { locks = λ table key mode h. h; searches = λ x h is done. there_itself state.searches x h }) false (committed state) (pending k) old.left old.stand);
              seen = λ goes_on. old.seen (ap (gives_up m state.tables k) (sym same) ∙ goes_on) ∙ sym (answer_others_list m state good o s over active k e);
            }

  -- ---- what is told, answer by answer

  abbrev a_of : Reply → Answer
  a_of r = answer_to turn s session.number r

  -- who has nothing to undo commits nothing
  committed_left : (over : Bool) → session.undo ≡ [] → committed (after_end state s over) ≡ committed state
  committed_left over undone =
      end_committed_list m state good o s over active
      ∙ same_seen (view_at state s) (committed_row state) state.tables
      (λ n key. ap (λ us. cond (is_some (find (is_of_key n key) us)) (row_of (present (table_at state.tables n) key)) (committed_row state n key)) undone)

  or_true : (b : Bool) → (b || true) ≡ true
  or_true true = refl
  or_true false = refl

  -- a victim, and an end: nothing is kept
  gives_all : (r : Reply) (over : Bool) → (is_end (a_of r) || is_deadlock (a_of r)) ≡ true → is_given (a_of r) ≡ true → session.undo ≡ [] → Ended (a_of r) (after_end state s over)
  gives_all r over says given undone = record {
    after = t.left;
    agrees = true_by (is_given (a_of r)) _ _ given refl;
    ends_it = ap (λ b. b || (if session.inside then is_close effect_now && is_ok (a_of r) else not (is_begin effect_now && is_ok (a_of r)))) says;
    commits = committed_left over undone ∙ sym (ap (λ b. if (not b && (if session.inside then is_commit effect_now else true)) then t.left else committed state) says);
  }

  victim_ends : (over : Bool) → session.undo ≡ [] → Ended (a_of deadlock_reply) (after_end state s over)
  victim_ends over undone =
      let d : is_deadlock (a_of deadlock_reply) ≡ true = deadlock_is turn s session.number in
      gives_all deadlock_reply over
      (ap (λ b. is_end (a_of deadlock_reply) || b) d ∙ or_true (is_end (a_of deadlock_reply)))
      (ap (λ b. (is_end (a_of deadlock_reply) || is_full (a_of deadlock_reply)) || b) d ∙ or_true (is_end (a_of deadlock_reply) || is_full (a_of deadlock_reply))) undone

  end_ends : (over : Bool) → session.undo ≡ [] → Ended (a_of reply.End) (after_end state s over)
  end_ends over undone =
      let e : is_end (a_of reply.End) ≡ true = end_is turn s session.number in
      gives_all reply.End over (ap (λ b. b || is_deadlock (a_of reply.End)) e) (ap (λ b. (b || is_full (a_of reply.End)) || is_deadlock (a_of reply.End)) e) undone

  -- ---- who goes on

  first_goes_on : (st : Statement) → IsAtFirst m state s session st → rolls_back (Some st) ≡ false → gives_up m state.tables s session ≡ false
  first_goes_on st first not_back =
      ap (λ b. b || rolls_back (statement_next m state.tables s session)) first.undisturbed
      ∙ ap (λ x. rolls_back (option_map (λ text. m.language.meaning (without_rows state.tables) (place_at s session.inside) text) x)) first.text_is
      ∙ ap (λ x. rolls_back (Some x)) (means_without_rows m state good o s st session first) ∙ not_back

  effect_means : (text : List ℕ) (st : Statement) → text_at m.script s session.number ≡ Some text → m.language.meaning (without_rows state.tables) (place_at s session.inside) text ≡ st
      → MayMean effect_now st
  effect_means text st is means =
      subst (λ x. MayMean x st) (sym (ap (effect_of m.language) is))
      (subst (λ x. MayMean (m.language.effect text) x) means (good.faithful.meant (without_rows state.tables) (place_at s session.inside) text))

  not_full_own : (r : Reply) → IsOwn r → r ≡ full_reply → ⊥
  not_full_own r own e = false≢true (subst (λ x. IsOwn x) e own)

  -- ---- a true answer

  module _ (r : Reply) (own : IsOwn r) (goes_on : gives_up m state.tables s session ≡ false) (tr : IsTrueAnswer m state s r) where
    plain : IsPlain (a_of r)
    plain = own_is_plain turn s session.number r own

    left_is : t.left ≡ beginning_view state s
    left_is = t.seen goes_on

    means_left : m.language.meaning t.left (place_at s session.inside) tr.text ≡ tr.statement
    means_left =
        by_names m good t.left (without_rows state.tables) tr.text s session.inside
        (ap (map definition_of) left_is ∙ ((are_shown m state o).views_shown s).definitions ∙ sym (definitions_seen (λ number key. None) state.tables)) ∙ tr.means

    done_is : does t.left (m.language.meaning t.left (place_at s session.inside) tr.text) ≡ does (beginning_view state s) tr.statement
    done_is = ap (does t.left) means_left ∙ ap (λ ts. does ts tr.statement) left_is

    true_agrees : Agrees m.language m.script session.inside t.left (a_of r) (view state s)
    true_agrees =
        false_by (is_given (a_of r)) _ _ plain.not_given
        (subst (λ x. Repeats m.language x session.inside t.left (a_of r) (view state s)) (sym tr.text_is)
        (ap reply_text (sym (ap (λ (x : Outcome). x.reply) done_is ∙ tr.reply_is)), sym (ap (λ (x : Outcome). x.tables) done_is ∙ tr.tables_are)))

    true_rests : RestsAt m state s session.inside t.left (a_of r)
    true_rests =
        false_by (is_given (a_of r)) _ _ plain.not_given
        (subst (λ x. RestsText m state s session.number session.inside t.left x) (sym tr.text_is)
        (subst (λ st. Rests m state s session.number t.left st) (sym means_left) (subst (λ ts. Rests m state s session.number ts tr.statement) (sym left_is) tr.rests)))

    true_ends : (over : Bool) → ends session.inside effect_now (a_of r) ≡ true → (if session.inside then is_commit effect_now else true) ≡ true → Ended (a_of r) (after_end state s over)
    true_ends over e k = record {
      after = view state s;
      agrees = true_agrees;
      ends_it = e;
      commits = end_committed_list m state good o s over active
          ∙ sym (if_own (keeps session.inside effect_now (a_of r)) (view state s) (committed state) (keeps_by session.inside effect_now (a_of r) plain.not_end plain.not_deadlock ∙ k));
    }

    true_joins : (over : Bool) → ends session.inside effect_now (a_of r) ≡ false → (session.inside ≡ false → (is_begin effect_now && is_ok (a_of r)) ≡ true)
        → Joins (a_of r) (after_answer state s over)
    true_joins over e b = record {
      after = view state s;
      agrees = true_agrees;
      rests = true_rests;
      ends_not = e;
      begins_it = b;
      seen = sym (answer_view_list m state good o s over active);
    }

    -- an answer that ends what isn't open
    alone_ends : (over : Bool) → ends session.inside effect_now (a_of r) ≡ not session.inside → true ≡ not session.inside → Ended (a_of r) (after_end state s over)
    alone_ends over e is = true_ends over (e ∙ sym is) (ap (λ b. if b then is_commit effect_now else true) (outside session.inside is))
      where
        outside : (b : Bool) → true ≡ not b → b ≡ false
        outside true h = absurd (false≢true (sym h))
        outside false h = refl

    inside_joins : (over : Bool) → ends session.inside effect_now (a_of r) ≡ not session.inside → false ≡ not session.inside → Joins (a_of r) (after_answer state s over)
    inside_joins over e is = true_joins over (e ∙ sym is) (λ out. absurd (false≢true (is ∙ ap not out)))

  -- ---- a full file

  module _ (goes_on : gives_up m state.tables s session ≡ false) (undone : statement_undo session ≡ []) where
    full : IsFull (a_of full_reply)
    full = full_is turn s session.number

    left_seen : t.left ≡ view state s
    left_seen = t.seen goes_on ∙ nothing_written m state good o course s undone

    full_agrees : Agrees m.language m.script session.inside t.left (a_of full_reply) t.left
    full_agrees = true_by (is_given (a_of full_reply)) _ _ full.given refl

    full_flag : ends session.inside effect_now (a_of full_reply) ≡ not session.inside
    full_flag = not_ok_ends session.inside effect_now (a_of full_reply) full.not_end full.not_deadlock full.not_ok

    full_ends : (over : Bool) → true ≡ not session.inside → Ended (a_of full_reply) (after_end state s over)
    full_ends over is = record {
      after = t.left;
      agrees = full_agrees;
      ends_it = full_flag ∙ sym is;
      commits = end_committed_list m state good o s over active ∙ sym left_seen
          ∙ sym (if_own (keeps session.inside effect_now (a_of full_reply)) t.left (committed state)
          (keeps_by session.inside effect_now (a_of full_reply) full.not_end full.not_deadlock ∙ ap (λ b. if b then is_commit effect_now else true) (outside session.inside is)));
    }
      where
        outside : (b : Bool) → true ≡ not b → b ≡ false
        outside true h = absurd (false≢true (sym h))
        outside false h = refl

    full_joins : (over : Bool) → false ≡ not session.inside → Joins (a_of full_reply) (after_answer state s over)
    full_joins over is = record {
      after = t.left;
      agrees = full_agrees;
      rests = true_by (is_given (a_of full_reply)) _ _ full.given tt;
      ends_not = full_flag ∙ sym is;
      begins_it = λ out. absurd (false≢true (is ∙ ap not out));
      seen = left_seen ∙ sym (answer_view_list m state good o s over active);
    }

  -- ---- ROLLBACK

  rollback_ends : (over : Bool) (first : IsAtFirst m state s session Rollback) → session.undo ≡ [] → Ended (a_of reply.Ok) (after_end state s over)
  rollback_ends over first undone = record {
    after = t.left;
    agrees = false_by (is_given (a_of reply.Ok)) _ _ plain.not_given
        (subst (λ x. Repeats m.language x session.inside t.left (a_of reply.Ok) t.left) (sym first.text_is)
        (ap reply_text (sym (ap (λ (x : Outcome). x.reply) done_is)), sym (ap (λ (x : Outcome). x.tables) done_is)));
    ends_it = ends_by session.inside effect_now (a_of reply.Ok) plain.not_end plain.not_deadlock
        ∙ ap (λ b. if session.inside then is_close effect_now && b else not (is_begin effect_now && b)) (ok_is turn s session.number)
        ∙ ap (λ x. if session.inside then is_close x && true else not (is_begin x && true)) effect ∙ closes session.inside;
    commits = committed_left over undone ∙ sym (ap (λ b. if b then t.left else committed state) (keeps_by session.inside effect_now (a_of reply.Ok) plain.not_end plain.not_deadlock
        ∙ ap (λ x. if session.inside then is_commit x else true) effect) ∙ by_inside session.inside refl);
  }
    where
      plain : IsPlain (a_of reply.Ok)
      plain = own_is_plain turn s session.number reply.Ok tt

      effect : effect_now ≡ rolls_back_effect
      effect = effect_means first.text Rollback first.text_is (means_without_rows m state good o s Rollback session first)

      definitions : map definition_of t.left ≡ map definition_of (committed state)
      definitions = stand_definitions m state s false (committed state) (pending s) t.left t.own t.stand

      means_left : m.language.meaning t.left (place_at s session.inside) first.text ≡ Rollback
      means_left = by_names m good t.left (committed state) first.text s session.inside definitions ∙ first.means

      done_is : does t.left (m.language.meaning t.left (place_at s session.inside) first.text) ≡ does t.left Rollback
      done_is = ap (does t.left) means_left

      closes : (b : Bool) → (if b then is_close rolls_back_effect && true else not (is_begin rolls_back_effect && true)) ≡ true
      closes true = refl
      closes false = refl

      by_inside : (b : Bool) → session.inside ≡ b → (if (if b then is_commit rolls_back_effect else true) then t.left else committed state) ≡ committed state
      by_inside true e = refl
      by_inside false e = left_committed e

  -- ---- each answer

  reply_own : (st : Statement) (read : List (ℤ × Option Row)) (done : List Change) → IsOwn (reply_of st read done)
  reply_own (Select name columns w) read done = tt
  reply_own (Create name schema) read done = tt
  reply_own (Insert name rows) read done = tt
  reply_own (Update name sets w) read done = tt
  reply_own (Delete name w) read done = tt
  reply_own Begin read done = tt
  reply_own Commit read done = tt
  reply_own Rollback read done = tt
  reply_own (Refused refusal) read done = tt

  rows_stay : (schema : Schema) (st : Statement) → IsServed schema st → MayMean effect_now st → effect_now ≡ stays
  rows_stay schema (Insert name rows) h may = may
  rows_stay schema (Select name columns w) h may = may
  rows_stay schema (Update name sets w) h may = may
  rows_stay schema (Delete name w) h may = may
  rows_stay schema (Create name columns) h may = absurd h
  rows_stay schema Begin h may = absurd h
  rows_stay schema Commit h may = absurd h
  rows_stay schema Rollback h may = absurd h
  rows_stay schema (Refused refusal) h may = absurd h

  stays_flag : (r : Reply) → IsOwn r → effect_now ≡ stays → ends session.inside effect_now (a_of r) ≡ not session.inside
  stays_flag r own is =
      let plain : IsPlain (a_of r) = own_is_plain turn s session.number r own in
      ends_by session.inside effect_now (a_of r) plain.not_end plain.not_deadlock
      ∙ ap (λ x. if session.inside then is_close x && is_ok (a_of r) else not (is_begin x && is_ok (a_of r))) is ∙ by_inside session.inside
    where
      by_inside : (b : Bool) → (if b then is_close stays && is_ok (a_of r) else not (is_begin stays && is_ok (a_of r))) ≡ not b
      by_inside true = refl
      by_inside false = refl

  refused_flag : (refusal : Refusal) → IsOwn (reply.Err refusal) → ends session.inside effect_now (a_of (reply.Err refusal)) ≡ not session.inside
  refused_flag refusal own =
      let plain : IsPlain (a_of (reply.Err refusal)) = own_is_plain turn s session.number (reply.Err refusal) own in
      not_ok_ends session.inside effect_now (a_of (reply.Err refusal)) plain.not_end plain.not_deadlock (refusal_not_ok turn s session.number refusal)

  -- the effect of a text that means a statement which reads no table
  first_effect : (st : Statement) → IsAtFirst m state s session st → MayMean effect_now st
  first_effect st first = effect_means first.text st first.text_is (means_without_rows m state good o s st session first)

  none_begun : session.work ≡ None → statement_undo session ≡ []
  none_begun none = ap (λ w. drop (length_at_beginning session w) session.undo) none ∙ drop_of_length-le session.undo (le_refl (length session.undo))

  -- which answer, of a statement that works
  work_true : (r : Reply) (over : Bool) → RepliesDone session r over → IsTrueAnswer m state s r
  work_true r over d = answers_are_true m state s r over good o course (inr (inr d)) (λ e. not_full_own (reply_of d.work.statement d.work.read d.done) (reply_own d.work.statement d.work.read d.done) (sym d.reply_is ∙ e))

  done_own : (r : Reply) (ends_flag : Bool) (d : RepliesDone session r ends_flag) → IsOwn r
  done_own r ends_flag d = subst (λ x. IsOwn x) (sym d.reply_is) (reply_own d.work.statement d.work.read d.done)

  done_goes_on : (r : Reply) (ends_flag : Bool) (d : RepliesDone session r ends_flag) → gives_up m state.tables s session ≡ false
  done_goes_on r ends_flag d = works_on m state o s d.work d.goes_on.at_work d.goes_on.undisturbed

  done_flag : (r : Reply) (ends_flag : Bool) (d : RepliesDone session r ends_flag) → ends session.inside effect_now (a_of r) ≡ not session.inside
  done_flag r ends_flag d =
      let b : IsBound m state.tables s session d.work = o.bound s d.work d.goes_on.at_work in
      stays_flag r (done_own r ends_flag d) (rows_stay _ d.work.statement b.served (effect_means b.text d.work.statement b.text_is b.means))

  -- of a statement that failed and is not for want of room
  failed_own : (failure : Failure) → (failure ≡ file_full → ⊥) → IsOwn (failure_reply failure)
  failed_own (duplicate key) h = refl
  failed_own too_large h = refl
  failed_own file_full h = absurd (h refl)

  failed_flag : (failure : Failure) → ends session.inside effect_now (a_of (failure_reply failure)) ≡ not session.inside
  failed_flag (duplicate key) = refused_flag (DuplicateKey key) refl
  failed_flag too_large = refused_flag RowTooLarge refl
  failed_flag file_full =
      let full : IsFull (a_of full_reply) = full_is turn s session.number in
      not_ok_ends session.inside effect_now (a_of full_reply) full.not_end full.not_deadlock full.not_ok

  failed_undone : (r : Reply) (ends_flag : Bool) (f : RepliesFailed session r ends_flag) → statement_undo session ≡ []
  failed_undone r ends_flag f = begun_is m state good o session f.work f.at_work ∙ f.undone

  failed_goes_on : (r : Reply) (ends_flag : Bool) (f : RepliesFailed session r ends_flag) → gives_up m state.tables s session ≡ false
  failed_goes_on r ends_flag f = works_on m state o s f.work f.at_work f.undisturbed

  failed_true : (r : Reply) (ends_flag : Bool) (f : RepliesFailed session r ends_flag) → IsOwn (failure_reply f.failure) → IsTrueAnswer m state s (failure_reply f.failure)
  failed_true r ends_flag f own =
      subst (λ x. IsTrueAnswer m state s x) f.reply_is
      (answers_are_true m state s r ends_flag good o course (inr (inl f)) (λ e. not_full_own (failure_reply f.failure) own (sym f.reply_is ∙ e)))

  -- answers that end
  ends_by_replies : (r : Reply) (over : Bool) → Replies m state s session r true → Ended (a_of r) (after_end state s over)
  ends_by_replies r over (inl v) = subst (λ x. Ended (a_of x) (after_end state s over)) (sym v.reply_is) (victim_ends over v.undone)
  ends_by_replies r over (inr (inl e)) = subst (λ x. Ended (a_of x) (after_end state s over)) (sym e.reply_is) (end_ends over e.undone)
  ends_by_replies r over (inr (inr (inl f))) = by_statement f.statement f.first f.answers
    where
      by_statement : (st : Statement) → IsAtFirst m state s session st → AnswersFirst session st r true → Ended (a_of r) (after_end state s over)
      by_statement (Refused refusal) first h =
          let own : IsOwn (reply.Err refusal) = first_effect (Refused refusal) first in
          subst (λ x. Ended (a_of x) (after_end state s over)) (sym h.0)
          (alone_ends (reply.Err refusal) own (first_goes_on (Refused refusal) first refl)
          (subst (λ x. IsTrueAnswer m state s x) h.0 (answers_are_true m state s r true good o course (inl f) (λ e. not_full_own (reply.Err refusal) own (sym h.0 ∙ e))))
          over (refused_flag refusal own) h.1)
      by_statement Begin first h = absurd (false≢true (sym h.1))
      by_statement Commit first h =
          subst (λ x. Ended (a_of x) (after_end state s over)) (sym h.0)
          (true_ends reply.Ok tt (first_goes_on Commit first refl)
          (subst (λ x. IsTrueAnswer m state s x) h.0 (answers_are_true m state s r true good o course (inl f) (λ e. not_full_own reply.Ok tt (sym h.0 ∙ e))))
          over flag' (ap (λ x. if session.inside then is_commit x else true) (first_effect Commit first) ∙ commits' session.inside))
        where
          plain : IsPlain (a_of reply.Ok)
          plain = own_is_plain turn s session.number reply.Ok tt

          closes : (b : Bool) → (if b then is_close commits && true else not (is_begin commits && true)) ≡ true
          closes true = refl
          closes false = refl

          commits' : (b : Bool) → (if b then is_commit commits else true) ≡ true
          commits' true = refl
          commits' false = refl

          flag' : ends session.inside effect_now (a_of reply.Ok) ≡ true
          flag' = ends_by session.inside effect_now (a_of reply.Ok) plain.not_end plain.not_deadlock
              ∙ ap (λ b. if session.inside then is_close effect_now && b else not (is_begin effect_now && b)) (ok_is turn s session.number)
              ∙ ap (λ x. if session.inside then is_close x && true else not (is_begin x && true)) (first_effect Commit first) ∙ closes session.inside
      by_statement Rollback first h = subst (λ x. Ended (a_of x) (after_end state s over)) (sym h.0) (rollback_ends over first h.2)
      by_statement (Create name schema) first h = absurd h
      by_statement (Insert name rows) first h = absurd h
      by_statement (Select name columns w) first h = absurd h
      by_statement (Update name sets w) first h = absurd h
      by_statement (Delete name w) first h = absurd h
  ends_by_replies r over (inr (inr (inr (inl f)))) =
      subst (λ x. Ended (a_of x) (after_end state s over)) (sym f.reply_is) (by_failure f.failure refl)
    where
      by_failure : (failure : Failure) → f.failure ≡ failure → Ended (a_of (failure_reply f.failure)) (after_end state s over)
      by_failure file_full e =
          subst (λ x. Ended (a_of (failure_reply x)) (after_end state s over)) (sym e) (full_ends (failed_goes_on r true f) (failed_undone r true f) over f.ends_is)
      by_failure (duplicate key) e = own_failure (subst (λ x. IsOwn (failure_reply x)) (sym e) refl)
        where
          own_failure : IsOwn (failure_reply f.failure) → Ended (a_of (failure_reply f.failure)) (after_end state s over)
          own_failure own = alone_ends (failure_reply f.failure) own (failed_goes_on r true f) (failed_true r true f own) over (failed_flag f.failure) f.ends_is
      by_failure too_large e = own_failure (subst (λ x. IsOwn (failure_reply x)) (sym e) refl)
        where
          own_failure : IsOwn (failure_reply f.failure) → Ended (a_of (failure_reply f.failure)) (after_end state s over)
          own_failure own = alone_ends (failure_reply f.failure) own (failed_goes_on r true f) (failed_true r true f own) over (failed_flag f.failure) f.ends_is
  ends_by_replies r over (inr (inr (inr (inr d)))) =
      alone_ends r (done_own r true d) (done_goes_on r true d) (work_true r true d) over (done_flag r true d) d.ends_is

  -- answers inside
  joins_by_replies : (r : Reply) (over : Bool) → Replies m state s session r false → Joins (a_of r) (after_answer state s over)
  joins_by_replies r over (inl v) = absurd (false≢true v.ends_is)
  joins_by_replies r over (inr (inl e)) = absurd (false≢true e.ends_is)
  joins_by_replies r over (inr (inr (inl f))) = by_statement f.statement f.first f.answers
    where
      by_statement : (st : Statement) → IsAtFirst m state s session st → AnswersFirst session st r false → Joins (a_of r) (after_answer state s over)
      by_statement (Refused refusal) first h =
          let own : IsOwn (reply.Err refusal) = first_effect (Refused refusal) first in
          subst (λ x. Joins (a_of x) (after_answer state s over)) (sym h.0)
          (inside_joins (reply.Err refusal) own (first_goes_on (Refused refusal) first refl)
          (subst (λ x. IsTrueAnswer m state s x) h.0 (answers_are_true m state s r false good o course (inl f) (λ e. not_full_own (reply.Err refusal) own (sym h.0 ∙ e))))
          over (refused_flag refusal own) h.1)
      by_statement Begin first h =
          subst (λ x. Joins (a_of x) (after_answer state s over)) (sym h.0)
          (true_joins reply.Ok tt (first_goes_on Begin first refl)
          (subst (λ x. IsTrueAnswer m state s x) h.0 (answers_are_true m state s r false good o course (inl f) (λ e. not_full_own reply.Ok tt (sym h.0 ∙ e))))
          over flag' (λ out. ap (λ x. is_begin x && is_ok (a_of reply.Ok)) (first_effect Begin first) ∙ ok_is turn s session.number))
        where
          plain : IsPlain (a_of reply.Ok)
          plain = own_is_plain turn s session.number reply.Ok tt

          opens : (b : Bool) → (if b then is_close begins && true else not (is_begin begins && true)) ≡ false
          opens true = refl
          opens false = refl

          flag' : ends session.inside effect_now (a_of reply.Ok) ≡ false
          flag' = ends_by session.inside effect_now (a_of reply.Ok) plain.not_end plain.not_deadlock
              ∙ ap (λ b. if session.inside then is_close effect_now && b else not (is_begin effect_now && b)) (ok_is turn s session.number)
              ∙ ap (λ x. if session.inside then is_close x && true else not (is_begin x && true)) (first_effect Begin first) ∙ opens session.inside
      by_statement Commit first h = absurd (false≢true h.1)
      by_statement Rollback first h = absurd (false≢true h.1)
      by_statement (Create name schema) first h = absurd h
      by_statement (Insert name rows) first h = absurd h
      by_statement (Select name columns w) first h = absurd h
      by_statement (Update name sets w) first h = absurd h
      by_statement (Delete name w) first h = absurd h
  joins_by_replies r over (inr (inr (inr (inl f)))) =
      subst (λ x. Joins (a_of x) (after_answer state s over)) (sym f.reply_is) (by_failure f.failure refl)
    where
      own_failure : IsOwn (failure_reply f.failure) → Joins (a_of (failure_reply f.failure)) (after_answer state s over)
      own_failure own = inside_joins (failure_reply f.failure) own (failed_goes_on r false f) (failed_true r false f own) over (failed_flag f.failure) f.ends_is

      by_failure : (failure : Failure) → f.failure ≡ failure → Joins (a_of (failure_reply f.failure)) (after_answer state s over)
      by_failure file_full e =
          subst (λ x. Joins (a_of (failure_reply x)) (after_answer state s over)) (sym e) (full_joins (failed_goes_on r false f) (failed_undone r false f) over f.ends_is)
      by_failure (duplicate key) e = own_failure (subst (λ x. IsOwn (failure_reply x)) (sym e) refl)
      by_failure too_large e = own_failure (subst (λ x. IsOwn (failure_reply x)) (sym e) refl)
  joins_by_replies r over (inr (inr (inr (inr d)))) =
      inside_joins r (done_own r false d) (done_goes_on r false d) (work_true r false d) over (done_flag r false d) d.ends_is

  pub answer_tells_end : (r : Reply) (over : Bool) → InOrder m (after_end state s over) → Replies m state s session r true
      → ToldAfter m state pending (answer_to turn s session.number r ∷ []) (after_end state s over)
  answer_tells_end r over onow replies = tells_end over onow r (ends_by_replies r over replies)

  pub answer_tells_more : (r : Reply) (over : Bool) → Replies m state s session r false
      → ToldAfter m state pending (answer_to turn s session.number r ∷ []) (after_answer state s over)
  answer_tells_more r over replies = tells_answer over r (joins_by_replies r over replies)

  -- ---- CREATE

  -- without room
  pub create_tells_full : (name : List ℕ) (schema : Schema) (over : Bool) → IsCreating m state s session name schema → InOrder m (after_end state s over)
      → ToldAfter m state pending (answer_to turn s session.number full_reply ∷ []) (after_end state s over)
  create_tells_full name schema over creating onow =
      tells_end over onow full_reply
      (full_ends (first_goes_on (Create name schema) creating.first refl) (none_begun creating.first.no_work) over (sym (ap not (ap (λ i. (session_at state.sessions i).inside) creating.setup ∙ o.idle.setup_outside))))

  module _ (name : List ℕ) (schema : Schema) (over : Bool) (leaf : ℕ) (roots : List ℕ) (creating : IsCreating m state s session name schema) where
    outside : session.inside ≡ false
    outside = ap (λ i. (session_at state.sessions i).inside) creating.setup ∙ o.idle.setup_outside

    create_ends : Ended (a_of reply.Ok) (after_create state s over name schema leaf roots)
    create_ends = record {
      after = t.left ++ record { name = name; schema = schema; rows = [] } ∷ [];
      agrees = false_by (is_given (a_of reply.Ok)) _ _ plain.not_given
          (subst (λ x. Repeats m.language x session.inside t.left (a_of reply.Ok) (t.left ++ record { name = name; schema = schema; rows = [] } ∷ [])) (sym creating.first.text_is)
          (ap reply_text (sym (ap (λ (x : Outcome). x.reply) done_is)), sym (ap (λ (x : Outcome). x.tables) done_is)));
      ends_it = stays_flag reply.Ok tt (first_effect (Create name schema) creating.first) ∙ ap not outside;
      commits = created_list m state good o s over active creating.setup creating.first.no_work name schema leaf roots
          ∙ ap (λ ts. ts ++ record { name = name; schema = schema; rows = [] } ∷ []) (sym (left_committed outside))
          ∙ sym (if_own (keeps session.inside effect_now (a_of reply.Ok)) (t.left ++ record { name = name; schema = schema; rows = [] } ∷ []) (committed state)
          (keeps_by session.inside effect_now (a_of reply.Ok) plain.not_end plain.not_deadlock ∙ ap (λ b. if b then is_commit effect_now else true) outside));
    }
      where
        plain : IsPlain (a_of reply.Ok)
        plain = own_is_plain turn s session.number reply.Ok tt

        means_left : m.language.meaning t.left (place_at s session.inside) creating.first.text ≡ Create name schema
        means_left = ap (λ ts. m.language.meaning ts (place_at s session.inside) creating.first.text) (left_committed outside) ∙ creating.first.means

        done_is : does t.left (m.language.meaning t.left (place_at s session.inside) creating.first.text) ≡ does t.left (Create name schema)
        done_is = ap (does t.left) means_left

    told_created : AreTold m (after_create state s over name schema leaf roots) (becomes pending s [])
    told_created k = subst (λ xs. IsTold m (after_create state s over name schema leaf roots) k xs) (sym (none_at (k == s) refl)) (record {
      own = λ answer h. absurd h;
      inside = sym (is_outside (k == s) refl);
      begun = tt;
      left = committed (after_create state s over name schema leaf roots);
      stand = refl;
      seen = λ goes_on. same_seen (committed_row (after_create state s over name schema leaf roots)) (view_at_beginning (after_create state s over name schema leaf roots) k) (state.tables ++ new_table name schema leaf roots ∷ [])
          (λ n key. sym (sees_committed (after_create state s over name schema leaf roots) k (created_undo m state good o s over active creating.setup creating.first.no_work name schema leaf roots k) n key));
    })
      where
        idle : (b : Bool) → (k == s) ≡ b → b ≡ false → (session_at state.sessions k).inside ≡ false
        idle b e f = (o.idle.setup_first (subst (λ i. (session_at state.sessions i).over ≡ false) creating.setup active.not_over) k (ap (λ i. k == i) (sym creating.setup) ∙ e ∙ f)).0.outside

        none_at : (b : Bool) → (k == s) ≡ b → (if b then [] else pending k) ≡ []
        none_at true e = refl
        none_at false e = by_list (pending k) ((told k).inside ∙ idle false e refl)
          where
            by_list : (xs : List Answer) → is_inside xs ≡ false → xs ≡ []
            by_list [] f = refl
            by_list (x ∷ xs) f = absurd (false≢true (sym f))

        is_outside : (b : Bool) → (k == s) ≡ b → (session_at (slice_set state.sessions s (session_after_end over session)) k).inside ≡ false
        is_outside true e =
            ap (λ i. (session_at (slice_set state.sessions s (session_after_end over session)) i).inside) (eqb-true k s e)
            ∙ ap (λ (x : SessionState). x.inside) (same_at state.sessions s (session_after_end over session) (seated state.sessions s active.not_over))
        is_outside false e = ap (λ (x : SessionState). x.inside) (other_at state.sessions s k (session_after_end over session) e) ∙ idle false e refl

    pub create_tells : ToldAfter m state pending (answer_to turn s session.number reply.Ok ∷ []) (after_create state s over name schema leaf roots)
    create_tells = record {
      left = becomes pending s [];
      ended = ended_all (answer_to turn s session.number reply.Ok) (after_create state s over name schema leaf roots) refl refl create_ends;
      told = told_created;
    }
