-- One text more, and one statement more that finds the file full.
use Rattle.std.proofs.Common.{◌≡◌, ◌∙◌, ℕ, suc, ◌+◌, ◌<◌, ◌==◌, ◌&&◌, ap, sym, refl, subst, Bool, true, false, List, [], ◌∷◌, ◌++◌, length, arith, if◌then◌else◌}
use Rattle.std.proofs.lemmas.Bool.Decides.{nat_tests}
use Rattle.isp_plain.specs.Tables.{Table}
use Rattle.isp_plain.specs.declared.statement.Statement.{Statement}
use Rattle.isp_plain.specs.declared.statement.Statement.TheVariants.{Create, Insert, Select, Update, Delete, Begin, Commit, Rollback, Refused}
use Rattle.isp_serial.specs.Alone.{Full, State, after_statement, after_text, after_texts, answer_to, answers_to, settled, IsFaithful}
use Rattle.isp_serial.specs.Serial.{place_at}
use Rattle.isp_serial.specs.Laws.{AnswersAlike as Alike}
use Rattle.isp_serial.specs.Transactions.{Language}
use Rattle.isp_serial.proofs.AloneLaws.{same_number}
use Rattle.isp_serial.proofs.AloneSerial.{full_decides}

module _ (language : Language) (full : Full) (session : ℕ) where
  pub answers-append : (n : ℕ) (texts more : List (List ℕ)) (state : State) →
      answers_to language full session n (texts ++ more) state
      ≡ answers_to language full session n texts state ++ answers_to language full session (n + length texts) more (after_texts language full session n texts state)
  answers-append n [] more state =
      let same : n + 0 ≡ n = omega arith in
      ap (λ m. answers_to language full session m more state) (sym same)
  answers-append n (first ∷ texts) more state =
      let next = after_text language full session n first state in
      let same : n + 1 + length texts ≡ n + suc (length texts) = omega arith in
      ap (λ answers. answer_to language full session n first state ∷ answers) (answers-append (n + 1) texts more next
      ∙ ap (λ m. answers_to language full session (n + 1) texts next ++ answers_to language full session m more (after_texts language full session (n + 1) texts next)) same)

  pub after-append : (n : ℕ) (texts more : List (List ℕ)) (state : State) →
      after_texts language full session n (texts ++ more) state ≡ after_texts language full session (n + length texts) more (after_texts language full session n texts state)
  after-append n [] more state =
      let same : n + 0 ≡ n = omega arith in
      ap (λ m. after_texts language full session m more state) (sym same)
  after-append n (first ∷ texts) more state =
      let next = after_text language full session n first state in
      let same : n + 1 + length texts ≡ n + suc (length texts) = omega arith in
      after-append (n + 1) texts more next ∙ ap (λ m. after_texts language full session m more (after_texts language full session (n + 1) texts next)) same

-- this statement finds the file full, or doesn't; of each other it is as it was
abbrev pub noting : Full → ℕ → ℕ → Bool → Full
noting full session number is other n = if (other == session) && (n == number) then is else full other n

pub noting_here : (full : Full) (session number : ℕ) (is : Bool) → noting full session number is session number ≡ is
noting_here full session number is = rw (same_number session, same_number number) refl

pub noting_before : (full : Full) (session number : ℕ) (is : Bool) (n : ℕ) → n < number → noting full session number is session n ≡ full session n
noting_before full session number is n less =
    let other : (n == number) ≡ false = grind (arith, nat_tests) in
    rw (same_number session, other) refl

pub noting_elsewhere : (full : Full) (session number : ℕ) (is : Bool) (other n : ℕ) → (other == session) ≡ false → noting full session number is other n ≡ full other n
noting_elsewhere full session number is other n not = rw not refl

-- of texts with numbers below that one the answers are the same
pub noting_alike : (language : Language) (full : Full) (session : ℕ) (texts : List (List ℕ)) (is : Bool) (state : State) →
    Alike language (noting full session (1 + length texts) is) full session 1 texts state
noting_alike language full session texts is state =
    full_decides language (noting full session (1 + length texts) is) full session 1 texts state
    (λ k below. let less : 1 + k < 1 + length texts = omega (arith, below) in noting_before full session (1 + length texts) is (1 + k) less)

-- outside of a transaction, where none begins, all is committed
settled_after : (tables : List Table) (statement : Statement) → (statement ≡ Begin → ⊥) → after_statement (settled tables) statement ≡ settled (after_statement (settled tables) statement).present
settled_after tables (Create name schema) not = refl
settled_after tables (Insert name rows) not = refl
settled_after tables (Select name columns w) not = refl
settled_after tables (Update name sets w) not = refl
settled_after tables (Delete name w) not = refl
settled_after tables Begin not = absurd (not refl)
settled_after tables Commit not = refl
settled_after tables Rollback not = refl
settled_after tables (Refused refusal) not = refl

-- so it is behind a setup, where none begins
pub setup_settled : (language : Language) (full : Full) → IsFaithful language → (n : ℕ) (texts : List (List ℕ)) (tables : List Table) →
    after_texts language full 0 n texts (settled tables) ≡ settled (after_texts language full 0 n texts (settled tables)).present
setup_settled language full is_faithful n [] tables = refl
setup_settled language full is_faithful n (text ∷ texts) tables = by (λ now. setup_settled language full is_faithful (n + 1) texts now) (full 0 n)
  where
    others : ((now : List Table) → after_texts language full 0 (n + 1) texts (settled now) ≡ settled (after_texts language full 0 (n + 1) texts (settled now)).present)
        → (next : State) → next ≡ settled next.present → after_texts language full 0 (n + 1) texts next ≡ settled (after_texts language full 0 (n + 1) texts next).present
    others later next is = subst (λ (s : State). after_texts language full 0 (n + 1) texts s ≡ settled (after_texts language full 0 (n + 1) texts s).present) (sym is) (later next.present)

    by : ((now : List Table) → after_texts language full 0 (n + 1) texts (settled now) ≡ settled (after_texts language full 0 (n + 1) texts (settled now)).present)
        → (b : Bool) → (let next : State = if b then settled tables else after_statement (settled tables) (language.meaning tables (place_at 0 false) text) in
        after_texts language full 0 (n + 1) texts next ≡ settled (after_texts language full 0 (n + 1) texts next).present)
    by later true = others later (settled tables) refl
    by later false = others later (after_statement (settled tables) (language.meaning tables (place_at 0 false) text)) (settled_after tables (language.meaning tables (place_at 0 false) text) (is_faithful.setup tables text))
