-- Which answers end a transaction, and which are a deadlock's, as their texts tell.
use Rattle.std.proofs.Common.{◌≡◌, ◌∙◌, refl, sym, ap, subst, ℕ, ℤ, ◌&&◌, ◌||◌, Bool, true, false, not, List, ◌∷◌, ◌++◌, length, Option, Some}
use Rattle.std.specs.Prelude.{if◌then◌else◌}
use Rattle.std.specs.List.{flat_map}
use Rattle.std.specs.Str.{bytes_eq}
use Rattle.std.proofs.lemmas.Bool.{false≢true}
use Rattle.std.proofs.lemmas.Slice.Eq.{bytes_eq-Decides}
use Rattle.isp_plain.specs.declared.refusal.Refusal.{Refusal}
use Rattle.isp_plain.specs.declared.refusal.Refusal.TheVariants.{Deadlock, DuplicateKey, FileFull, RowTooLarge}
use Rattle.isp_plain.specs.declared.statement.Reply.{Reply}
use Rattle.isp_plain.specs.declared.statement.Reply.TheVariants as reply
use Rattle.isp_plain.specs.declared.statement.Statement.{Statement}
use Rattle.isp_plain.specs.declared.statement.Statement.TheVariants.{Create, Insert, Select, Update, Delete, Begin, Commit, Rollback, Refused}
use Rattle.isp_plain.specs.declared.value.Row.{Row}
use Rattle.isp_plain.specs.declared.value.Schema.{Schema}
use Rattle.isp_plain.specs.Refusals.{refusal_text}
use Rattle.isp_plain.specs.Texts.{ok_text, end_text, full_text, deadlock_text, count_text, row_text, reply_text}
use Rattle.isp_plain.proofs.DoesLaws.{IsOwn}
use Rattle.isp_serial.specs.Alone.{MayMean, answer_with}
use Rattle.isp_serial.specs.Answers.{is_deadlock, is_end, is_full}
use Rattle.isp_serial.specs.Script.{text_at}
use Rattle.isp_serial.specs.Serial.{effect_of, place_at}
use Rattle.isp_serial.specs.Transactions.{Effect, begins, commits, rolls_back, stays, is_begin, is_close}
use Rattle.isp_serial.proofs.GivenLaws.{full_says, own_not_given}
use Rattle.isp_events.specs.Sessions.{Change, Failure, duplicate, too_large, file_full, SessionState, session_at}
use Rattle.isp_events.specs.State.{State}
use Rattle.isp_events.specs.Views.{committed}
use Rattle.isp_events.specs.Ways.{Machine}
use Rattle.isp_events.specs.Next.{answers, failure_reply, next, reply_of}
use Rattle.isp_events.specs.Events.{full_reply}
use Rattle.isp_order.specs.InOrder.{InOrder, IsProper}
use Rattle.isp_causes.specs.Causes.{IsAtFirst, IsCreating}
use Rattle.isp_order_lines.proofs.AnswerCauses.{EachAnswer, answer_has}

-- ---- texts

-- what a text is taken for
pub record IsPlain (text : List ℕ) : Type 0 where
  pub not_end : bytes_eq text end_text ≡ false
  pub not_deadlock : bytes_eq text deadlock_text ≡ false

not_given : (a b c : Bool) → (a || b || c) ≡ false → (a ≡ false) × (c ≡ false)
not_given true b c h = absurd (false≢true (sym h))
not_given false true c h = absurd (false≢true (sym h))
not_given false false true h = absurd (false≢true (sym h))
not_given false false false h = (refl, refl)

own_plain : (r : Reply) → IsOwn r → IsPlain (reply_text r)
own_plain r own =
    let parts = not_given (is_end (answer_with 0 0 (reply_text r))) (is_full (answer_with 0 0 (reply_text r))) (is_deadlock (answer_with 0 0 (reply_text r))) (own_not_given 0 0 r own) in
    record { not_end = parts.0; not_deadlock = parts.1 }

full_plain : IsPlain (refusal_text FileFull)
unfolding full_text
full_plain = let says = full_says 0 0 in record { not_end = says.0; not_deadlock = says.2 }

refusal_not_ok : (refusal : Refusal) → bytes_eq (refusal_text refusal) ok_text ≡ false
unfolding ok_text
refusal_not_ok refusal = refl

count_not_ok : (n : ℕ) (more : List ℕ) → bytes_eq (count_text n ++ more) ok_text ≡ false
unfolding ok_text
count_not_ok n more = refl

count_alone_not_ok : (n : ℕ) → bytes_eq (count_text n) ok_text ≡ false
unfolding ok_text
count_alone_not_ok n = refl

ok_ok : bytes_eq ok_text ok_text ≡ true
ok_ok = (bytes_eq-Decides ok_text ok_text).1 refl

end_end : bytes_eq end_text end_text ≡ true
end_end = (bytes_eq-Decides end_text end_text).1 refl

end_not_deadlock : bytes_eq end_text deadlock_text ≡ false
unfolding end_text deadlock_text
end_not_deadlock = refl

deadlock_deadlock : bytes_eq (refusal_text Deadlock) deadlock_text ≡ true
unfolding deadlock_text
deadlock_deadlock = (bytes_eq-Decides (refusal_text Deadlock) (refusal_text Deadlock)).1 refl

-- ---- ends

abbrev pub ends_by : Bool → Effect → Bool → Bool → Bool → Bool
ends_by inside effect end deadlock ok = end || deadlock || (if inside then is_close effect && ok else not (is_begin effect && ok))

-- no OK: outside of a transaction it ends one
no_ok : (inside : Bool) (effect : Effect) (end deadlock ok : Bool) → end ≡ false → deadlock ≡ false → ok ≡ false → ends_by inside effect end deadlock ok ≡ not inside
no_ok true effect end deadlock ok e d o = ap (λ b. b || deadlock || (is_close effect && ok)) e ∙ ap (λ b. b || (is_close effect && ok)) d ∙ ap (λ b. is_close effect && b) o ∙ never (is_close effect)
  where
    never : (b : Bool) → (b && false) ≡ false
    never true = refl
    never false = refl
no_ok false effect end deadlock ok e d o = ap (λ b. b || deadlock || not (is_begin effect && ok)) e ∙ ap (λ b. b || not (is_begin effect && ok)) d ∙ ap (λ b. not (is_begin effect && b)) o ∙ never (is_begin effect)
  where
    never : (b : Bool) → not (b && false) ≡ true
    never true = refl
    never false = refl

-- OK of these effects
said_ok : (inside : Bool) (effect : Effect) (end deadlock ok which : Bool) → end ≡ false → deadlock ≡ false → ok ≡ true
    → (if inside then is_close effect && true else not (is_begin effect && true)) ≡ which → ends_by inside effect end deadlock ok ≡ which
said_ok inside effect end deadlock ok which e d o is =
    ap (λ b. b || deadlock || (if inside then is_close effect && ok else not (is_begin effect && ok))) e
    ∙ ap (λ b. b || (if inside then is_close effect && ok else not (is_begin effect && ok))) d
    ∙ ap (λ b. if inside then is_close effect && b else not (is_begin effect && b)) o ∙ is

by_end : (end deadlock rest : Bool) → end ≡ true → (end || deadlock || rest) ≡ true
by_end end deadlock rest e = ap (λ b. b || deadlock || rest) e

by_deadlock : (end deadlock rest : Bool) → deadlock ≡ true → (end || deadlock || rest) ≡ true
by_deadlock true deadlock rest e = refl
by_deadlock false deadlock rest e = ap (λ b. b || rest) e

by_rest : (end deadlock rest : Bool) → rest ≡ true → (end || deadlock || rest) ≡ true
by_rest true deadlock rest e = refl
by_rest false true rest e = refl
by_rest false false rest e = e

-- ---- the answer that comes next

-- as its text tells, it ends the transaction where it does; and it is a deadlock's where its session is a victim
pub record TellsEnd (effect : Effect) (session : SessionState) (text : List ℕ) (over : Bool) : Type 0 where
  pub ends_so : ends_by session.inside effect (bytes_eq text end_text) (bytes_eq text deadlock_text) (bytes_eq text ok_text) ≡ over
  pub deadlock_so : bytes_eq text deadlock_text ≡ session.victim

module _ (m : Machine) (state : State) (good : IsProper m) (s : ℕ) where
  abbrev its : SessionState
  its = session_at state.sessions s

  abbrev effect : Effect
  effect = effect_of m.language (text_at m.script s its.number)

  abbrev Says : Reply → Bool → Type 0
  Says r over = TellsEnd effect its (reply_text r) over

  -- the effect of the text of a statement that begins
  means_effect : (statement : Statement) (first : IsAtFirst m state s its statement) → MayMean effect statement
  means_effect statement first =
      subst (λ t. MayMean (effect_of m.language t) statement) (sym first.text_is)
      (subst (MayMean (m.language.effect first.text)) first.means (good.faithful.meant (committed state) (place_at s its.inside) first.text))

  refused_says : (refusal : Refusal) → IsPlain (refusal_text refusal) → its.victim ≡ false → Says (reply.Err refusal) (not its.inside)
  refused_says refusal plain undisturbed = record {
    ends_so = no_ok its.inside effect _ _ _ plain.not_end plain.not_deadlock (refusal_not_ok refusal);
    deadlock_so = plain.not_deadlock ∙ sym undisturbed;
  }

  ok_says : (which : Bool) → its.victim ≡ false → (if its.inside then is_close effect && true else not (is_begin effect && true)) ≡ which → Says reply.Ok which
  ok_says which undisturbed is =
      let plain : IsPlain (reply_text reply.Ok) = own_plain reply.Ok tt in
      record { ends_so = said_ok its.inside effect _ _ _ which plain.not_end plain.not_deadlock ok_ok is; deadlock_so = plain.not_deadlock ∙ sym undisturbed }

  failed_says : (failure : Failure) → its.victim ≡ false → Says (failure_reply failure) (not its.inside)
  failed_says (duplicate key) undisturbed = refused_says (DuplicateKey key) (own_plain (reply.Err (DuplicateKey key)) refl) undisturbed
  failed_says too_large undisturbed = refused_says RowTooLarge (own_plain (reply.Err RowTooLarge) refl) undisturbed
  failed_says file_full undisturbed = refused_says FileFull full_plain undisturbed

  rows_say : (rows : List Row) → its.victim ≡ false → Says (reply.Rows rows) (not its.inside)
  rows_say rows undisturbed =
      let plain : IsPlain (reply_text (reply.Rows rows)) = own_plain (reply.Rows rows) tt in
      record {
        ends_so = no_ok its.inside effect _ _ _ plain.not_end plain.not_deadlock (count_not_ok (length rows) (flat_map (λ row. 32 ∷ row_text row) rows));
        deadlock_so = plain.not_deadlock ∙ sym undisturbed;
      }

  count_says : (n : ℕ) → its.victim ≡ false → Says (reply.Count n) (not its.inside)
  count_says n undisturbed =
      let plain : IsPlain (reply_text (reply.Count n)) = own_plain (reply.Count n) tt in
      record { ends_so = no_ok its.inside effect _ _ _ plain.not_end plain.not_deadlock (count_alone_not_ok n); deadlock_so = plain.not_deadlock ∙ sym undisturbed }

  done_says : (statement : Statement) (read : List (ℤ × Option Row)) (done : List Change) → its.victim ≡ false → Says (reply_of statement read done) (not its.inside)
  done_says (Select name columns w) read done undisturbed = rows_say _ undisturbed
  done_says (Create name schema) read done undisturbed = count_says (length done) undisturbed
  done_says (Insert name rows) read done undisturbed = count_says (length done) undisturbed
  done_says (Update name sets w) read done undisturbed = count_says (length done) undisturbed
  done_says (Delete name w) read done undisturbed = count_says (length done) undisturbed
  done_says Begin read done undisturbed = count_says (length done) undisturbed
  done_says Commit read done undisturbed = count_says (length done) undisturbed
  done_says Rollback read done undisturbed = count_says (length done) undisturbed
  done_says (Refused refusal) read done undisturbed = count_says (length done) undisturbed

  on_begin : (b : Bool) (e : Effect) → e ≡ begins → (if b then is_close e && true else not (is_begin e && true)) ≡ false
  on_begin true e is = ap (λ x. is_close x && true) is
  on_begin false e is = ap (λ x. not (is_begin x && true)) is

  on_commit : (b : Bool) (e : Effect) → e ≡ commits → (if b then is_close e && true else not (is_begin e && true)) ≡ true
  on_commit true e is = ap (λ x. is_close x && true) is
  on_commit false e is = ap (λ x. not (is_begin x && true)) is

  on_rollback : (b : Bool) (e : Effect) → e ≡ rolls_back → (if b then is_close e && true else not (is_begin e && true)) ≡ true
  on_rollback true e is = ap (λ x. is_close x && true) is
  on_rollback false e is = ap (λ x. not (is_begin x && true)) is

  each_says : EachAnswer m state s its Says
  each_says = record {
    victim = λ is. record { ends_so = by_deadlock (bytes_eq (refusal_text Deadlock) end_text) _ _ deadlock_deadlock; deadlock_so = deadlock_deadlock ∙ sym is };
    last = λ undisturbed none other. record { ends_so = by_end _ _ _ end_end; deadlock_so = end_not_deadlock ∙ sym undisturbed };
    refused = λ refusal first. refused_says refusal (own_plain (reply.Err refusal) (means_effect (Refused refusal) first)) first.undisturbed;
    begin = λ first. ok_says false first.undisturbed (on_begin its.inside effect (means_effect Begin first));
    commit = λ first. ok_says true first.undisturbed (on_commit its.inside effect (means_effect Commit first));
    rollback = λ first. ok_says true first.undisturbed (on_rollback its.inside effect (means_effect Rollback first));
    failed = λ work failure text undisturbed is at failed. failed_says failure undisturbed;
    done = λ work changes text go is phase. done_says work.statement work.read changes go.undisturbed;
  }

  pub answer_tells : (r : Reply) (over : Bool) → next m state s ≡ Some (answers r over) → Says r over
  answer_tells r over h = answer_has m state s Says each_says r over h

  -- ---- CREATE

  created_effect : (name : List ℕ) (schema : Schema) → IsCreating m state s its name schema → its.inside ≡ false → (ok : Bool)
      → (if its.inside then is_close effect && ok else not (is_begin effect && ok)) ≡ true
  created_effect name schema at outside ok =
      let is : effect ≡ stays = means_effect (Create name schema) at.first in
      ap (λ b. if b then is_close effect && ok else not (is_begin effect && ok)) outside ∙ ap (λ e. not (is_begin e && ok)) is

  pub created_says : (o : InOrder m state) (name : List ℕ) (schema : Schema) → IsCreating m state s its name schema → Says reply.Ok true × Says full_reply true
  created_says o name schema at =
      let outside : its.inside ≡ false = subst (λ i. (session_at state.sessions i).inside ≡ false) (sym at.setup) o.idle.setup_outside in
      (says_by (reply_text reply.Ok) outside (own_plain reply.Ok tt), says_by (reply_text full_reply) outside full_plain)
    where
      says_by : (text : List ℕ) → its.inside ≡ false → IsPlain text → TellsEnd effect its text true
      says_by text outside plain = record {
        ends_so = by_rest (bytes_eq text end_text) (bytes_eq text deadlock_text) (if its.inside then is_close effect && bytes_eq text ok_text else not (is_begin effect && bytes_eq text ok_text))
            (created_effect name schema at outside (bytes_eq text ok_text));
        deadlock_so = plain.not_deadlock ∙ sym at.first.undisturbed;
      }
