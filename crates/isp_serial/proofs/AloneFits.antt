-- The answers of a setup, and of one session that runs after it, fit the script.
use Rattle.std.proofs.Common.{◌≡◌, ℕ, ◌+◌, Bool, true, false, cond, ◌==◌, List, [], ◌∷◌, ◌++◌, length, refl, ap, ◌∙◌, sym, subst, arith, Option, Some, None, if◌then◌else◌, ◌⊎◌, inl, inr, append-nil, length-append}
use Rattle.std.specs.Prelude.{◌↔◌}
use Rattle.std.specs.List.{find}
use Rattle.std.specs.Option.{option_map}
use Rattle.std.proofs.lemmas.Bool.Decides.{nat_tests}
use Rattle.std.proofs.lemmas.List.{map-append}
use Rattle.std.proofs.lemmas.List.Elements.{All-cons, All-append, filter-append}
use Rattle.isp_serial.specs.declared.script.Session.{Session}
use Rattle.isp_serial.specs.Alone.{Full, State, settled, answer_with, answers_to, session_answers, sessions_answers, IsAlone, IsFaithful}
use Rattle.isp_serial.specs.Answers.{Answer, FitsSession, FitsTexts, answers_of, counted_from, is_end}
use Rattle.isp_serial.specs.Script.{answers_due}
use Rattle.isp_plain.specs.Tables.{Table}
use Rattle.isp_plain.specs.Texts.{end_text}
use Rattle.isp_serial.specs.Transactions.{Language}
use Rattle.isp_serial.proofs.AloneLaws.{length-answers_to, numbers-answers_to, counted_from-append, of_its_own, of_none, of_other, of_same, no_ends, if_so, if_else}

end_is_end : (session number : ℕ) → is_end (answer_with session number end_text) ≡ true
unfolding end_text
end_is_end session number = refl

pub setup_fits : (language : Language) (full : Full) (first : List Table) → IsFaithful language → (whole : Bool) (setup : List (List ℕ)) → FitsTexts whole 0 setup (answers_to language full 0 1 setup (settled first))
setup_fits language full first is_faithful whole setup =
    let all = length-answers_to language full 0 1 setup (settled first) in
    record {
      numbers = numbers-answers_to language full 0 1 setup (settled first);
      most = omega arith;
      ends = no_ends language full is_faithful 0 1 (length setup + 1) setup (settled first) (omega arith);
      all = λ _. all;
    }

pub session_fits : (language : Language) (full : Full) → IsFaithful language → (whole : Bool) (session : Session) (state : State) → (session.number == 0) ≡ false →
    FitsTexts whole session.number session.texts (session_answers language full session state)
session_fits language full is_faithful whole session state is =
    let texts = session.texts in
    let said = answers_to language full session.number 1 texts state in
    let last = answer_with session.number (length texts + 1) end_text in
    let count : length said ≡ length texts = length-answers_to language full session.number 1 texts state in
    let due : length texts + 1 ≡ answers_due session.number texts = if_else (session.number == 0) (length texts) (length texts + 1) is in
    let all : length (said ++ last ∷ []) ≡ length texts + 1 = length-append said (last ∷ []) ∙ ap (λ n. n + 1) count in
    record {
      numbers = map-append (λ a. a.number) said (last ∷ [])
          ∙ (ap (λ ns. ns ++ (length texts + 1) ∷ []) (numbers-answers_to language full session.number 1 texts state)
          ∙ (ap (λ n. counted_from 1 said ++ n ∷ []) (let e : length texts + 1 ≡ 1 + length said = omega arith in e)
          ∙ sym (counted_from-append 1 said (last ∷ []))));
      most = omega arith;
      ends = All-append (λ a. (is_end a ≡ true) ↔ (a.number ≡ length texts + 1)) said (last ∷ [])
          (no_ends language full is_faithful session.number 1 (length texts + 1) texts state (omega arith))
          (All-cons (λ a. (is_end a ≡ true) ↔ (a.number ≡ length texts + 1)) last []
          ((λ _. refl), (λ _. end_is_end session.number (length texts + 1)))
          (λ k d inside. absurd (omega arith)));
      all = λ _. all ∙ due;
    }

decided : (b : Bool) → (b ≡ true) ⊎ (b ≡ false)
decided true = inl refl
decided false = inr refl

same_from_test : (n m : ℕ) → (n == m) ≡ true → n ≡ m
same_from_test n m is = grind (arith, nat_tests)

other_way : (n m : ℕ) → (n == m) ≡ false → (m == n) ≡ false
other_way n m is = grind (arith, nat_tests)

-- the texts of a session, of a setup and sessions
abbrev texts_in : List (List ℕ) → List Session → ℕ → Option (List (List ℕ))
texts_in setup sessions k = if k == 0 then Some setup else option_map (λ s. s.texts) (find (λ s. s.number == k) sessions)

-- the answers of session k among those of one that runs alone
of_session : (language : Language) (full : Full) (session : Session) (state : State) (k : ℕ) → (session.number == k) ≡ true →
    answers_of k (session_answers language full session state) ≡ session_answers language full session state
of_session language full session state k is =
    let same : session.number ≡ k = same_from_test session.number k is in
    let said = answers_to language full session.number 1 session.texts state in
    let last = answer_with session.number (length session.texts + 1) end_text in
    subst (λ n. answers_of n (said ++ last ∷ []) ≡ said ++ last ∷ []) same
    (filter-append (λ a. a.session == session.number) said (last ∷ [])
    ∙ (ap (λ kept. kept ++ answers_of session.number (last ∷ [])) (of_its_own language full session.number 1 session.texts state)
    ∙ ap (λ kept. said ++ kept) (of_same session.number last [] [] refl refl)))

not_of_session : (language : Language) (full : Full) (session : Session) (state : State) (k : ℕ) → (session.number == k) ≡ false →
    answers_of k (session_answers language full session state) ≡ []
not_of_session language full session state k is =
    let said = answers_to language full session.number 1 session.texts state in
    let last = answer_with session.number (length session.texts + 1) end_text in
    filter-append (λ a. a.session == k) said (last ∷ [])
    ∙ (ap (λ kept. kept ++ answers_of k (last ∷ [])) (of_none language full session.number k 1 session.texts state is)
    ∙ of_other k last [] [] is refl)

-- the answers of the setup among those of all
of_setup : (language : Language) (full : Full) (first : List Table) (setup : List (List ℕ)) (others : List Answer) → answers_of 0 others ≡ [] →
    answers_of 0 (answers_to language full 0 1 setup (settled first) ++ others) ≡ answers_to language full 0 1 setup (settled first)
of_setup language full first setup others none =
    filter-append (λ a. a.session == 0) (answers_to language full 0 1 setup (settled first)) others
    ∙ (ap (λ kept. answers_of 0 (answers_to language full 0 1 setup (settled first)) ++ kept) none
    ∙ (append-nil (answers_of 0 (answers_to language full 0 1 setup (settled first))) ∙ of_its_own language full 0 1 setup (settled first)))

behind_setup : (language : Language) (full : Full) (first : List Table) (setup : List (List ℕ)) (others : List Answer) (k : ℕ) → (k == 0) ≡ false →
    answers_of k (answers_to language full 0 1 setup (settled first) ++ others) ≡ answers_of k others
behind_setup language full first setup others k is =
    filter-append (λ a. a.session == k) (answers_to language full 0 1 setup (settled first)) others
    ∙ ap (λ kept. kept ++ answers_of k others) (of_none language full 0 k 1 setup (settled first) (other_way k 0 is))

-- the setup's answers
fits_setup : (language : Language) (full : Full) (first : List Table) → IsFaithful language → (whole : Bool) (setup : List (List ℕ)) (sessions : List Session) (others : List Answer) (k : ℕ) →
    (k == 0) ≡ true → answers_of 0 others ≡ [] → FitsSession whole k (texts_in setup sessions k) (answers_of k (answers_to language full 0 1 setup (settled first) ++ others))
fits_setup language full first is_faithful whole setup sessions others k is none =
    let zero_is : 0 ≡ k = sym (same_from_test k 0 is) in
    subst (λ n. FitsSession whole n (texts_in setup sessions n) (answers_of n (answers_to language full 0 1 setup (settled first) ++ others))) zero_is
    (subst (λ kept. FitsTexts whole 0 setup kept) (sym (of_setup language full first setup others none)) (setup_fits language full first is_faithful whole setup))

none_for : (language : Language) (full : Full) (sessions : List Session) (state : State) → IsAlone sessions → answers_of 0 (sessions_answers language full sessions state) ≡ []
none_for language full [] state is_alone = refl
none_for language full (session ∷ []) state is_alone =
    ap (answers_of 0) (append-nil (session_answers language full session state)) ∙ not_of_session language full session state 0 is_alone
none_for language full (session ∷ other ∷ sessions) state is_alone = absurd is_alone

fits_one : (language : Language) (full : Full) → IsFaithful language → (whole : Bool) (session : Session) (state : State) (k : ℕ) → (session.number == 0) ≡ false →
    (((session.number == k) ≡ true) ⊎ ((session.number == k) ≡ false)) →
    FitsSession whole k (option_map (λ s. s.texts) (cond (session.number == k) (Some session) None)) (answers_of k (session_answers language full session state ++ []))
fits_one language full is_faithful whole session state k is (inl same) =
    let kept : answers_of k (session_answers language full session state ++ []) ≡ session_answers language full session state =
    ap (answers_of k) (append-nil (session_answers language full session state)) ∙ of_session language full session state k same in
    let mine : FitsTexts whole k session.texts (session_answers language full session state) =
    subst (λ n. FitsTexts whole n session.texts (session_answers language full session state)) (same_from_test session.number k same)
    (session_fits language full is_faithful whole session state is) in
    subst (λ (o : Option Session). FitsSession whole k (option_map (λ s. s.texts) o) (answers_of k (session_answers language full session state ++ []))) (if_so (session.number == k) (Some session) None same)
    (subst (λ answers. FitsTexts whole k session.texts answers) (sym kept) mine)
fits_one language full is_faithful whole session state k is (inr other) =
    subst (λ (o : Option Session). FitsSession whole k (option_map (λ s. s.texts) o) (answers_of k (session_answers language full session state ++ []))) (if_else (session.number == k) (Some session) None other)
    (ap (answers_of k) (append-nil (session_answers language full session state)) ∙ not_of_session language full session state k other)

fits_later : (language : Language) (full : Full) → IsFaithful language → (whole : Bool) (setup : List (List ℕ)) (sessions : List Session) (state : State) (k : ℕ) →
    (k == 0) ≡ false → IsAlone sessions → FitsSession whole k (option_map (λ s. s.texts) (find (λ s. s.number == k) sessions)) (answers_of k (sessions_answers language full sessions state))
fits_later language full is_faithful whole setup [] state k is is_alone = refl
fits_later language full is_faithful whole setup (session ∷ []) state k is is_alone =
    fits_one language full is_faithful whole session state k is_alone (decided (session.number == k))
fits_later language full is_faithful whole setup (session ∷ other ∷ sessions) state k is is_alone = absurd is_alone

fits_either : (language : Language) (full : Full) (first : List Table) → IsFaithful language → (whole : Bool) (setup : List (List ℕ)) (sessions : List Session) (state : State) → IsAlone sessions → (k : ℕ) →
    (((k == 0) ≡ true) ⊎ ((k == 0) ≡ false)) →
    FitsSession whole k (texts_in setup sessions k) (answers_of k (answers_to language full 0 1 setup (settled first) ++ sessions_answers language full sessions state))
fits_either language full first is_faithful whole setup sessions state is_alone k (inl setup_is) =
    fits_setup language full first is_faithful whole setup sessions (sessions_answers language full sessions state) k setup_is (none_for language full sessions state is_alone)
fits_either language full first is_faithful whole setup sessions state is_alone k (inr later) =
    subst (λ (o : Option (List (List ℕ))). FitsSession whole k o (answers_of k (answers_to language full 0 1 setup (settled first) ++ sessions_answers language full sessions state)))
    (if_else (k == 0) (Some setup) (option_map (λ s. s.texts) (find (λ s. s.number == k) sessions)) later)
    (subst (λ answers. FitsSession whole k (option_map (λ s. s.texts) (find (λ s. s.number == k) sessions)) answers)
    (sym (behind_setup language full first setup (sessions_answers language full sessions state) k later))
    (fits_later language full is_faithful whole setup sessions state k later is_alone))

pub fits_at : (language : Language) (full : Full) (first : List Table) → IsFaithful language → (whole : Bool) (setup : List (List ℕ)) (sessions : List Session) (state : State) → IsAlone sessions → (k : ℕ) →
    FitsSession whole k (texts_in setup sessions k) (answers_of k (answers_to language full 0 1 setup (settled first) ++ sessions_answers language full sessions state))
fits_at language full first is_faithful whole setup sessions state is_alone k =
    fits_either language full first is_faithful whole setup sessions state is_alone k (decided (k == 0))
