-- What the texts of answers tell: whether they are an OK, an END, a full file's or a deadlock's, and what they do to the transaction.
use Rattle.std.proofs.Common.{◌≡◌, ◌⊎◌, ◌∙◌, inl, inr, refl, sym, ap, subst, ℕ, ◌&&◌, ◌||◌, Bool, true, false, not, cond, List}
use Rattle.std.specs.Prelude.{if◌then◌else◌}
use Rattle.std.specs.Str.{bytes_eq}
use Rattle.std.proofs.lemmas.Bool.{false≢true}
use Rattle.isp_plain.specs.declared.refusal.Refusal.{Refusal}
use Rattle.isp_plain.specs.declared.refusal.Refusal.TheVariants.{Deadlock, FileFull}
use Rattle.isp_plain.specs.declared.statement.Reply.{Reply}
use Rattle.isp_plain.specs.declared.statement.Reply.TheVariants as reply
use Rattle.std.specs.Fmt.{digits}
use Rattle.isp_plain.specs.Refusals.{refusal_text, is_own, state, words}
use Rattle.isp_plain.specs.Texts.{count_text, deadlock_text, end_text, full_text, ok_text, reply_text}
use Rattle.isp_plain.proofs.DoesLaws.{IsOwn}
use Rattle.isp_serial.specs.Answers.{Answer, is_deadlock, is_end, is_full}
use Rattle.isp_serial.specs.Serial.{is_given}
use Rattle.isp_serial.specs.Transactions.{Effect, ends, is_begin, is_close, is_commit, is_ok, keeps}
use Rattle.isp_events.specs.Ending.{is_end_reply}
use Rattle.isp_serial.proofs.GivenLaws.{full_says, own_not_given}

abbrev pub answer_to : ℕ → ℕ → ℕ → Reply → Answer
answer_to turn s number r = record { turn = turn; session = s; number = number; text = reply_text r }

pub ok_is : (turn s number : ℕ) → is_ok (answer_to turn s number reply.Ok) ≡ true
unfolding ok_text
ok_is turn s number = refl

pub refusal_not_ok : (turn s number : ℕ) (refusal : Refusal) → is_ok (answer_to turn s number (reply.Err refusal)) ≡ false
unfolding ok_text
refusal_not_ok turn s number refusal = refl

pub deadlock_is : (turn s number : ℕ) → is_deadlock (answer_to turn s number (reply.Err Deadlock)) ≡ true
unfolding deadlock_text state words digits
deadlock_is turn s number = refl

pub end_is : (turn s number : ℕ) → is_end (answer_to turn s number reply.End) ≡ true
unfolding end_text
end_is turn s number = refl

or_left : (a b : Bool) → (a || b) ≡ false → a ≡ false
or_left true b h = absurd (false≢true (sym h))
or_left false b h = refl

or_right : (a b : Bool) → (a || b) ≡ false → b ≡ false
or_right true b h = absurd (false≢true (sym h))
or_right false b h = h

-- what no text of a statement says
pub record IsPlain (answer : Answer) : Type 0 where
  pub not_given : is_given answer ≡ false
  pub not_end : is_end answer ≡ false
  pub not_deadlock : is_deadlock answer ≡ false

pub own_is_plain : (turn s number : ℕ) (r : Reply) → IsOwn r → IsPlain (answer_to turn s number r)
own_is_plain turn s number r own =
    let none : is_given (answer_to turn s number r) ≡ false = own_not_given s number r own in
    record {
      not_given = none;
      not_end = or_left (is_end (answer_to turn s number r)) (is_full (answer_to turn s number r))
          (or_left (is_end (answer_to turn s number r) || is_full (answer_to turn s number r)) (is_deadlock (answer_to turn s number r)) none);
      not_deadlock = or_right (is_end (answer_to turn s number r) || is_full (answer_to turn s number r)) (is_deadlock (answer_to turn s number r)) none;
    }

-- a full file's answer
pub record IsFull (answer : Answer) : Type 0 where
  pub given : is_given answer ≡ true
  pub not_end : is_end answer ≡ false
  pub not_deadlock : is_deadlock answer ≡ false
  pub not_ok : is_ok answer ≡ false

pub full_is : (turn s number : ℕ) → IsFull (answer_to turn s number (reply.Err FileFull))
unfolding ok_text end_text full_text deadlock_text state words digits
full_is turn s number = record { given = refl; not_end = refl; not_deadlock = refl; not_ok = refl }

-- ---- what they do to the transaction

-- a text that is neither END nor a deadlock's ends what its effect and its OK say
pub ends_by : (inside : Bool) (effect : Effect) (answer : Answer) → is_end answer ≡ false → is_deadlock answer ≡ false
    → ends inside effect answer ≡ (if inside then is_close effect && is_ok answer else not (is_begin effect && is_ok answer))
ends_by inside effect answer e d =
    ap (λ b. b || is_deadlock answer || (if inside then is_close effect && is_ok answer else not (is_begin effect && is_ok answer))) e
    ∙ ap (λ b. b || (if inside then is_close effect && is_ok answer else not (is_begin effect && is_ok answer))) d

pub keeps_by : (inside : Bool) (effect : Effect) (answer : Answer) → is_end answer ≡ false → is_deadlock answer ≡ false
    → keeps inside effect answer ≡ (if inside then is_commit effect else true)
keeps_by inside effect answer e d =
    ap (λ b. not (b || is_deadlock answer) && (if inside then is_commit effect else true)) e
    ∙ ap (λ b. not b && (if inside then is_commit effect else true)) d

and_false : (b : Bool) → (b && false) ≡ false
and_false true = refl
and_false false = refl

-- no OK ends no open transaction, and is one alone outside of one
pub not_ok_ends : (inside : Bool) (effect : Effect) (answer : Answer) → is_end answer ≡ false → is_deadlock answer ≡ false → is_ok answer ≡ false → ends inside effect answer ≡ not inside
not_ok_ends inside effect answer e d ok =
    ends_by inside effect answer e d
    ∙ ap (λ b. if inside then is_close effect && b else not (is_begin effect && b)) ok ∙ by_inside inside
  where
    by_inside : (b : Bool) → (if b then is_close effect && false else not (is_begin effect && false)) ≡ not b
    by_inside true = and_false (is_close effect)
    by_inside false = ap not (and_false (is_begin effect))

-- a deadlock's text is no END
pub deadlock_not_end : (turn s number : ℕ) → is_end (answer_to turn s number (reply.Err Deadlock)) ≡ false
unfolding end_text deadlock_text state words digits
deadlock_not_end turn s number = refl

pub own_no_end : (r : Reply) → IsOwn r → is_end_reply r ≡ false
own_no_end reply.Ok own = refl
own_no_end (reply.Count n) own = refl
own_no_end (reply.Rows rows) own = refl
own_no_end (reply.Err refusal) own = refl
own_no_end reply.End own = absurd own

-- and no statement's text but a full file's is one
pub own_not_full : (turn s number : ℕ) (r : Reply) → IsOwn r → is_full (answer_to turn s number r) ≡ false
own_not_full turn s number r own =
    or_right (is_end (answer_to turn s number r)) (is_full (answer_to turn s number r))
    (or_left (is_end (answer_to turn s number r) || is_full (answer_to turn s number r)) (is_deadlock (answer_to turn s number r)) (own_not_given s number r own))

pub deadlock_not_full : (turn s number : ℕ) → is_full (answer_to turn s number (reply.Err Deadlock)) ≡ false
unfolding full_text deadlock_text state words digits
deadlock_not_full turn s number = refl

pub end_not_full : (turn s number : ℕ) → is_full (answer_to turn s number reply.End) ≡ false
unfolding full_text end_text state words digits
end_not_full turn s number = refl
