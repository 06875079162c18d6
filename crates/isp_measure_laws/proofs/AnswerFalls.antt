-- An answer is one less to come, and a session that becomes a victim owes no more than before.
use Rattle.std.proofs.Common.{◌≡◌, ◌⊎◌, ◌∙◌, inl, inr, refl, sym, ap, ℕ, zero, suc, ◌+◌, ◌-◌, ◌≤◌, ◌<◌, ◌==◌, cond, Bool, true, false, Option, Some, None, List, arith, length}
use Rattle.std.specs.Prelude.{if◌then◌else◌, slice_get}
use Rattle.std.specs.Option.{option_and_then}
use Rattle.std.proofs.lemmas.Bool.{false≢true}
use Rattle.std.proofs.lemmas.Option.{slice_get_within}
use Rattle.isp_serial.specs.declared.script.Script.{Script}
use Rattle.isp_serial.specs.Script.{text_at, text_in, texts_of}
use Rattle.isp_events.specs.Sessions.{SessionState}
use Rattle.isp_order_work.proofs.WorkParts.{none_some}
use Rattle.isp_measure.specs.Measure.{answers_left, text_count, texts_left}

-- who has a text at the number has one text more from there on than from the next on
pub record IsText (script : Script) (s number : ℕ) : Type 0 where
  pub first : 1 ≤ number
  pub last : number ≤ text_count (texts_of script s)

pub text_is : (script : Script) (s number : ℕ) (text : List ℕ) → text_at script s number ≡ Some text → IsText script s number
text_is script s number text h = by_texts (texts_of script s) refl h
  where
    by_number : (texts : List (List ℕ)) → texts_of script s ≡ Some texts → (b : Bool) → (number == 0) ≡ b
        → (if b then None else slice_get texts (number - 1)) ≡ Some text → IsText script s number
    by_number texts e true none k = absurd (none_some text k)
    by_number texts e false some k =
        let within : number - 1 < length texts = slice_get_within texts (number - 1) text k in
        let all : text_count (texts_of script s) ≡ length texts = ap text_count e in
        let first : 1 ≤ number = positive number some in
        record { first = first; last = omega (arith, within, all, first) }
      where
        positive : (n : ℕ) → (n == 0) ≡ false → 1 ≤ n
        positive n f = by_n n f
          where
            by_n : (n : ℕ) → (n == 0) ≡ false → 1 ≤ n
            by_n zero f = absurd (false≢true (sym f))
            by_n (suc n) f = omega arith

    by_texts : (o : Option (List (List ℕ))) → texts_of script s ≡ o → option_and_then (λ texts. text_in texts number) o ≡ Some text → IsText script s number
    by_texts None e k = absurd (none_some text k)
    by_texts (Some texts) e k = by_number texts e (number == 0) refl k

-- why a session is answered
pub data Owes (script : Script) (s : ℕ) (session : SessionState) : Type 0 where
  owes_victim : session.victim ≡ true → Owes script s session
  owes_text : session.victim ≡ false → IsText script s session.number → Owes script s session

module _ (script : Script) (s : ℕ) where
  abbrev pub end_line : ℕ
  end_line = cond (s == 0) 0 1

  at_most : (session : SessionState) (n : ℕ) → session.number ≡ n → session.victim ≡ false → answers_left script s session ≤ end_line + texts_left script s n
  at_most session n number undisturbed = by_over session.over refl
    where
      by_over : (b : Bool) → session.over ≡ b → answers_left script s session ≤ end_line + texts_left script s n
      by_over true e =
          let is : answers_left script s session ≡ 0 = ap (λ b. cond b 0 (end_line + cond session.victim (suc (texts_left script s (session.number + 1))) (texts_left script s session.number))) e in
          omega (arith, is)
      by_over false e =
          let is : answers_left script s session ≡ end_line + texts_left script s n =
          ap (λ b. cond b 0 (end_line + cond session.victim (suc (texts_left script s (session.number + 1))) (texts_left script s session.number))) e
          ∙ ap (λ b. end_line + cond b (suc (texts_left script s (session.number + 1))) (texts_left script s session.number)) undisturbed
          ∙ ap (λ k. end_line + texts_left script s k) number in
          omega (arith, is)

  due : (session : SessionState) → session.over ≡ false → answers_left script s session ≡ end_line + cond session.victim (suc (texts_left script s (session.number + 1))) (texts_left script s session.number)
  due session not_over = ap (λ b. cond b 0 (end_line + cond session.victim (suc (texts_left script s (session.number + 1))) (texts_left script s session.number))) not_over

  pub answered : (session new : SessionState) → session.over ≡ false → new.number ≡ session.number + 1 → new.victim ≡ false → Owes script s session
      → answers_left script s new < answers_left script s session
  answered session new not_over number undisturbed (owes_victim e) =
      let before : answers_left script s session ≡ end_line + suc (texts_left script s (session.number + 1)) =
      due session not_over ∙ ap (λ b. end_line + cond b (suc (texts_left script s (session.number + 1))) (texts_left script s session.number)) e in
      let after : answers_left script s new ≤ end_line + texts_left script s (session.number + 1) = at_most new (session.number + 1) number undisturbed in
      omega (arith, before, after)
  answered session new not_over number undisturbed (owes_text e is) =
      let before : answers_left script s session ≡ end_line + texts_left script s session.number =
      due session not_over ∙ ap (λ b. end_line + cond b (suc (texts_left script s (session.number + 1))) (texts_left script s session.number)) e in
      let after : answers_left script s new ≤ end_line + texts_left script s (session.number + 1) = at_most new (session.number + 1) number undisturbed in
      let first : 1 ≤ session.number = is.first in
      let last : session.number ≤ text_count (texts_of script s) = is.last in
      omega (arith, before, after, first, last)

  -- END
  pub ended : (session new : SessionState) → session.over ≡ false → session.victim ≡ false → (s == 0) ≡ false → new.over ≡ true → answers_left script s new < answers_left script s session
  ended session new not_over undisturbed not_setup over =
      let before : answers_left script s session ≡ 1 + texts_left script s session.number =
      due session not_over ∙ ap (λ b. end_line + cond b (suc (texts_left script s (session.number + 1))) (texts_left script s session.number)) undisturbed
      ∙ ap (λ b. cond b 0 1 + texts_left script s session.number) not_setup in
      let after : answers_left script s new ≡ 0 = ap (λ b. cond b 0 (end_line + cond new.victim (suc (texts_left script s (new.number + 1))) (texts_left script s new.number))) over in
      omega (arith, before, after)

  -- a session that is the same but that it may be a victim now, which it was or for which it has a text
  pub owes_no_more : (session new : SessionState) → new.over ≡ session.over → new.number ≡ session.number
      → (new.victim ≡ true → (session.victim ≡ true) ⊎ IsText script s session.number) → answers_left script s new ≤ answers_left script s session
  owes_no_more session new over number victim = by_over session.over refl
    where
      by_victims : (a b : Bool) → (a ≡ true → (b ≡ true) ⊎ IsText script s session.number)
          → cond a (suc (texts_left script s (session.number + 1))) (texts_left script s session.number) ≤ cond b (suc (texts_left script s (session.number + 1))) (texts_left script s session.number)
      by_victims true true why = omega arith
      by_victims false true why = omega arith
      by_victims false false why = omega arith
      by_victims true false why = by_why (why refl)
        where
          by_why : (false ≡ true) ⊎ IsText script s session.number → suc (texts_left script s (session.number + 1)) ≤ texts_left script s session.number
          by_why (inl never) = absurd (false≢true never)
          by_why (inr is) =
              let first : 1 ≤ session.number = is.first in
              let last : session.number ≤ text_count (texts_of script s) = is.last in
              omega (arith, first, last)

      by_over : (b : Bool) → session.over ≡ b → answers_left script s new ≤ answers_left script s session
      by_over true e =
          let is : answers_left script s new ≡ 0 = ap (λ b. cond b 0 (end_line + cond new.victim (suc (texts_left script s (new.number + 1))) (texts_left script s new.number))) (over ∙ e) in
          omega (arith, is)
      by_over false e =
          let before : answers_left script s session ≡ end_line + cond session.victim (suc (texts_left script s (session.number + 1))) (texts_left script s session.number) = due session e in
          let after : answers_left script s new ≡ end_line + cond new.victim (suc (texts_left script s (session.number + 1))) (texts_left script s session.number) =
          due new (over ∙ e) ∙ ap (λ n. end_line + cond new.victim (suc (texts_left script s (n + 1))) (texts_left script s n)) number in
          omega (arith, before, after, by_victims new.victim session.victim victim)
