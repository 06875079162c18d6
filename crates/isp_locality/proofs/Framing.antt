-- Answers done again on tables that differ where they have nothing to do with.
use Rattle.std.proofs.Common.{◌≡◌, ◌∙◌, refl, sym, ap, subst, ℕ, Bool, true, false, ◌||◌, ◌&&◌, Option, Some, None, List, [], ◌∷◌}
use Rattle.std.specs.Prelude.{MatchBool}
use Rattle.isp_plain.specs.declared.statement.Statement.{Statement}
use Rattle.isp_plain.specs.Does.{does}
use Rattle.isp_plain.specs.Tables.{Table}
use Rattle.isp_plain.specs.Texts.{reply_text}
use Rattle.isp_serial.specs.declared.script.Script.{Script}
use Rattle.isp_serial.specs.Answers.{Answer}
use Rattle.isp_serial.specs.Script.{text_at}
use Rattle.isp_serial.specs.Serial.{Agrees, Repeats, Replays, effect_of, is_given, place_at}
use Rattle.isp_serial.specs.Transactions.{Language, is_begin, is_ok}
use Rattle.isp_changes.specs.Changes.{row_in}
use Rattle.isp_locality.specs.Apart.{AgreeBut, Apart, ApartAt, ApartText, AreApart, IsLocal, MeansByNames, Places, Stays}
use Rattle.isp_locality.specs.LocalLaws.{AnswersAreFramed, AreFramed, IsFramed, ReplaysAreFramed}
use Rattle.isp_locality.proofs.TableLocal.{statements_are_local}

module _ (apart : Places) (language : Language) (script : Script) (means : MeansByNames language) where
  pub framed : (inside : Bool) (tables others : List Table) (answer : Answer) (after : List Table)
      → AgreeBut apart tables others → ApartAt apart language script inside tables others answer → Agrees language script inside tables answer after
      → IsFramed apart language script inside tables others answer after
  framed inside tables others answer after agree h agrees = by_given (is_given answer) refl h agrees
    where
      given : is_given answer ≡ true → after ≡ tables → IsFramed apart language script inside tables others answer after
      given e same = record {
        then = others;
        agrees = subst (λ b. MatchBool b (others ≡ others) (Repeats language (text_at script answer.session answer.number) inside others answer others)) (sym e) refl;
        agree = subst (λ ts. AgreeBut apart ts others) (sym same) agree;
        stay = λ place key k. ap (λ ts. row_in ts place key) same;
        others_stay = λ place key k. refl;
      }

      by_text : is_given answer ≡ false → (text : Option (List ℕ)) → text_at script answer.session answer.number ≡ text
          → ApartText apart language answer.session inside tables others text → Repeats language text inside tables answer after
          → IsFramed apart language script inside tables others answer after
      by_text e None is k r = absurd r
      by_text e (Some text) is k r =
          let statement : Statement = language.meaning tables (place_at answer.session inside) text in
          let other : Statement = language.meaning others (place_at answer.session inside) text in
          let same : statement ≡ other = means tables others text answer.session inside agree.definitions in
          let l : IsLocal apart tables others statement = statements_are_local apart tables others statement agree k in
          let repeats : Repeats language (Some text) inside others answer (does others statement).tables =
          (r.0 ∙ ap reply_text l.reply ∙ ap (λ (s : Statement). reply_text (does others s).reply) same, ap (λ (s : Statement). (does others s).tables) same) in
          record {
            then = (does others statement).tables;
            agrees = subst (λ b. MatchBool b ((does others statement).tables ≡ others) (Repeats language (text_at script answer.session answer.number) inside others answer (does others statement).tables)) (sym e)
                (subst (λ (t : Option (List ℕ)). Repeats language t inside others answer (does others statement).tables) (sym is) repeats);
            agree = subst (λ ts. AgreeBut apart ts (does others statement).tables) (sym r.1) l.agree;
            stay = λ place key z. ap (λ ts. row_in ts place key) r.1 ∙ l.stay place key z;
            others_stay = l.others_stay;
          }

      by_given : (b : Bool) → is_given answer ≡ b
          → MatchBool b (Unit {0}) (ApartText apart language answer.session inside tables others (text_at script answer.session answer.number))
          → MatchBool b (after ≡ tables) (Repeats language (text_at script answer.session answer.number) inside tables answer after)
          → IsFramed apart language script inside tables others answer after
      by_given true e k r = given e r
      by_given false e k r = by_text e (text_at script answer.session answer.number) refl k r

  all_framed : (inside : Bool) (tables others : List Table) (answers : List Answer) (after : List Table)
      → AgreeBut apart tables others → AreApart apart language script inside tables others answers → Replays language script inside tables answers after
      → AreFramed apart language script inside tables others answers after
  all_framed inside tables others [] after agree h same = record {
    then = others;
    replays = refl;
    agree = subst (λ ts. AgreeBut apart ts others) (sym same) agree;
    stay = λ place key k. ap (λ ts. row_in ts place key) same;
    others_stay = λ place key k. refl;
  }
  all_framed inside tables others (answer ∷ answers) after agree h replays =
      let f = framed inside tables others answer replays.0 agree h.0 replays.1 in
      let effect = effect_of language (text_at script answer.session answer.number) in
      let rest = all_framed (inside || (is_begin effect && is_ok answer)) replays.0 f.then answers after f.agree
      (h.1 replays.0 f.then replays.1 f.agrees f.stay f.others_stay) replays.2 in
      record {
        then = rest.then;
        replays = (f.then, f.agrees, rest.replays);
        agree = rest.agree;
        stay = λ place key k. rest.stay place key k ∙ f.stay place key k;
        others_stay = λ place key k. rest.others_stay place key k ∙ f.others_stay place key k;
      }

pub answers_are_framed : AnswersAreFramed
answers_are_framed apart language script inside tables others answer after means agree h agrees = framed apart language script means inside tables others answer after agree h agrees

pub replays_are_framed : ReplaysAreFramed
replays_are_framed apart language script inside tables others answers after means agree h replays =
    all_framed apart language script means inside tables others answers after agree h replays
