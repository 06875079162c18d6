-- A setup, and one session that runs after it, are serial, whatever the statements are.
use Rattle.std.proofs.Common.{◌≡◌, ℕ, ◌<◌, ◌+◌, ◌^◌, suc, Bool, true, false, not, ◌&&◌, ◌||◌, ◌==◌, List, [], ◌∷◌, ◌++◌, length, map, refl, ap, ◌∙◌, sym, subst, arith, Some, None, if◌then◌else◌, append-nil}
use Rattle.std.specs.Prelude.{All}
use Rattle.std.specs.List.{find}
use Rattle.std.specs.Option.{option_map}
use Rattle.std.proofs.lemmas.List.Elements.{All-cons, All-append}
use Rattle.isp_serial.specs.declared.script.Script.{Script}
use Rattle.isp_serial.specs.declared.script.Session.{Session}
use Rattle.isp_plain.specs.declared.statement.Statement.{Statement}
use Rattle.isp_plain.specs.declared.statement.Statement.TheVariants.{Create, Insert, Select, Update, Delete, Begin, Commit, Rollback, Refused}
use Rattle.isp_serial.specs.Alone.{State, changed, settled, rolled_back, after_statement, after_text, after_texts, after_setup, turn_of, answer_with, answer_to, answers_to, session_answers, sessions_answers, after_session, after_sessions, run_answers, run_after, AreSmall, Full, IsAlone, IsAnswerAlone, IsFaithful, IsFullWhere}
use Rattle.isp_serial.specs.Answers.{Answer, NeverFalls, is_end, is_full, is_deadlock}
use Rattle.isp_plain.specs.Does.{Outcome}
use Rattle.isp_plain.specs.Lined.{are_lined, is_lined_statement, is_one_line}
use Rattle.isp_plain.specs.declared.refusal.Refusal.TheVariants.{FileFull}
use Rattle.isp_serial.specs.Laws.{AloneAnswers, AloneIsSerial, FullDecides}
use Rattle.isp_serial.specs.Script.{texts_of}
use Rattle.isp_serial.specs.Serial.{EndsAll, Pending, Replays, done, place_at}
use Rattle.isp_plain.specs.Tables.{Table}
use Rattle.isp_plain.specs.Texts.{end_text, full_text, deadlock_text, reply_text}
use Rattle.isp_serial.specs.Transactions.{Language}
use Rattle.isp_serial.proofs.AloneLaws.{Stands, all_of, flat, if_else, if_so, joined, none_of, not_given, only, over, rising, same_number, settles, stands_elsewhere, stands_settled}
use Rattle.isp_serial.proofs.AloneFits.{fits_at}
use Rattle.isp_serial.proofs.GivenLaws.{full_says}
use Rattle.isp_plain.proofs.LinedLaws.{does_line, does_lined}
use Rattle.isp_plain.proofs.TextLaws.{end_line, refusal_line}

texts_of_only : (session : Session) → option_map (λ s. s.texts) (find (λ s. s.number == session.number) (session ∷ [])) ≡ Some session.texts
texts_of_only session = ap (option_map (λ s. s.texts)) (sym (if_so (session.number == session.number) (Some session) None (same_number session.number)))

-- only BEGIN opens a transaction
stays_outside : (state : State) (statement : Statement) → (statement ≡ Begin → ⊥) → state.inside ≡ false → (after_statement state statement).inside ≡ false
stays_outside state (Create name schema) not_begin outside = outside
stays_outside state (Insert name rows) not_begin outside = outside
stays_outside state (Select name columns condition) not_begin outside = outside
stays_outside state (Update name sets condition) not_begin outside = outside
stays_outside state (Delete name condition) not_begin outside = outside
stays_outside state Begin not_begin outside = absurd (not_begin refl)
stays_outside state Commit not_begin outside = refl
stays_outside state Rollback not_begin outside = refl
stays_outside state (Refused refusal) not_begin outside = outside

-- so the setup leaves none open
text_outside : (b : Bool) (state : State) (statement : Statement) → (statement ≡ Begin → ⊥) → state.inside ≡ false →
    (if b then state else after_statement state statement).inside ≡ false
text_outside true state statement not_begin outside = outside
text_outside false state statement not_begin outside = stays_outside state statement not_begin outside

setup_outside : (language : Language) (full : Full) → IsFaithful language → (number : ℕ) (texts : List (List ℕ)) (state : State) → state.inside ≡ false →
    (after_texts language full 0 number texts state).inside ≡ false
setup_outside language full is_faithful number [] state outside = outside
setup_outside language full is_faithful number (text ∷ texts) state outside =
    setup_outside language full is_faithful (number + 1) texts (after_text language full 0 number text state)
    (text_outside (full 0 number) state (language.meaning state.present (place_at 0 state.inside) text) (is_faithful.setup state.present text) outside)

-- where no transaction is open, no answer waits for its end
abbrev Closed : Language → Script → List Answer → State → State → Pending → Type 0
Closed language script answers state next pending =
    (left : Pending) × EndsAll language script state.committed pending answers next.committed left
    × ((k : ℕ) → (replayed : List Table) × Replays language script false next.committed (left k) replayed)

no_answer : (language : Language) (script : Script) (tables : List Table) (session : ℕ) (left : Pending) → left ≡ only session [] → (k : ℕ) →
    (replayed : List Table) × Replays language script false tables (left k) replayed
no_answer language script tables session left is k =
    let none : left k ≡ [] = ap (λ (p : Pending). p k) is ∙ none_of session k in
    (tables, subst (λ answers. Replays language script false tables answers tables) (sym none) refl)

-- the sessions' answers from where the setup left off
sessions_end : (language : Language) (full : Full) (script : Script) → IsFaithful language → (sessions : List Session) (state : State) (pending : Pending) → script.sessions ≡ sessions → IsAlone sessions →
    state.inside ≡ false → Stands language script 0 state pending → Closed language script (sessions_answers language full sessions state) state (after_sessions language full sessions state) pending
sessions_end language full script is_faithful [] state pending of is_alone outside stands =
    let settled_there = settles language script 0 state pending stands outside in
    (pending, (refl, refl), no_answer language script state.committed 0 pending settled_there)
sessions_end language full script is_faithful (session ∷ other ∷ sessions) state pending of is_alone outside stands = absurd is_alone
sessions_end language full script is_faithful (session ∷ []) state pending of is_alone outside stands =
    let said = answers_to language full session.number 1 session.texts state in
    let last = answer_with session.number (length session.texts + 1) end_text in
    let mid = after_texts language full session.number 1 session.texts state in
    let its_texts : texts_of script session.number ≡ Some session.texts =
    sym (if_else (session.number == 0) (Some script.setup) (option_map (λ s. s.texts) (find (λ s. s.number == session.number) script.sessions)) is_alone)
    ∙ (ap (λ (ss : List Session). option_map (λ s. s.texts) (find (λ s. s.number == session.number) ss)) of ∙ texts_of_only session) in
    let first = all_of language full script is_faithful session.number 0 session.texts session.texts state pending its_texts refl
    (stands_elsewhere language script 0 session.number state pending stands outside) in
    let end = over language script session.number (length session.texts + 1) mid first.0 first.2 in
    let all : EndsAll language script state.committed pending (said ++ last ∷ []) mid.committed end.0 =
    joined language script state.committed mid.committed mid.committed pending first.0 end.0 said (last ∷ []) first.1
    (mid.committed, end.0, end.1, (refl, refl)) in (
      end.0,
      subst (λ answers. EndsAll language script state.committed pending answers mid.committed end.0) (sym (append-nil (said ++ last ∷ []))) all,
      no_answer language script mid.committed session.number end.0 (settles language script session.number (rolled_back mid) end.0 end.2 refl),
    )

turns_rise : (language : Language) (full : Full) (sessions : List Session) (state : State) → IsAlone sessions → NeverFalls 0 (map (λ a. a.turn) (sessions_answers language full sessions state))
turns_rise language full [] state is_alone = tt
turns_rise language full (session ∷ other ∷ sessions) state is_alone = absurd is_alone
turns_rise language full (session ∷ []) state is_alone =
    subst (λ answers. NeverFalls 0 (map (λ a. a.turn) answers)) (sym (append-nil (session_answers language full session state)))
    (rising language full session.number 0 1 (length session.texts + 1) session.texts state is_alone (omega arith) (omega arith))

pub alone_is_serial : AloneIsSerial
alone_is_serial language full first script is_faithful is_alone =
    let start = settled first in
    let mid = after_setup language full first script in
    let setup = all_of language full script is_faithful 0 0 script.setup script.setup start (only 0 []) refl refl (stands_settled language script 0 first) in
    let sessions = sessions_end language full script is_faithful script.sessions mid setup.0 refl is_alone (setup_outside language full is_faithful 1 script.setup start refl) setup.2 in
    let all : EndsAll language script first (only 0 []) (run_answers language full first script) (run_after language full first script) sessions.0 =
    joined language script first mid.committed (run_after language full first script) (only 0 []) setup.0 sessions.0
    (answers_to language full 0 1 script.setup start) (sessions_answers language full script.sessions mid) setup.1 sessions.1 in
    record {
      fits = record {
        turns = flat language full 1 script.setup start (sessions_answers language full script.sessions mid) (turns_rise language full script.sessions mid is_alone);
        sessions = λ k. fits_at language full first is_faithful (if script.stop then k == 0 else true) script.setup script.sessions mid is_alone k;
      };
      pending = sessions.0;
      ended = subst (λ (p : Pending). EndsAll language script first p (run_answers language full first script) (run_after language full first script) sessions.0) (λ i k. none_of 0 k i) all;
      still_open = sessions.2;
    }

-- ---- each answer

given_parts : (x y z : Bool) → (x || y || z) ≡ false → (x ≡ false) × (y ≡ false) × (z ≡ false)
given_parts true y z is = cc
given_parts false true z is = cc
given_parts false false true is = cc
given_parts false false false is = (refl, refl, refl)

turn_either : (b : Bool) (n : ℕ) → n < 2 ^ 64 → (if b then 0 else n) < 2 ^ 64
turn_either true n small = omega arith
turn_either false n small = small

end_says : (session number : ℕ) →
    (is_full (answer_with session number end_text) ≡ false) × (is_deadlock (answer_with session number end_text) ≡ false) × (is_end (answer_with session number end_text) ≡ true)
unfolding end_text full_text deadlock_text
end_says session number = (refl, refl, refl)

turn_small : (session number : ℕ) → number < 2 ^ 64 → turn_of session number < 2 ^ 64
turn_small session number small = turn_either (session == 0) number small

-- an answer, and whether its statement found the file full
record IsAnswered (full : Full) (answer : Answer) : Type 0 where
  alone : IsAnswerAlone answer
  full_where : IsFullWhere full answer

-- no text in the committed or the present tables has a line feed
abbrev IsLined : State → Type 0
IsLined state = (are_lined state.committed ≡ true) × (are_lined state.present ≡ true)

either_lined : (b : Bool) (xs ys : List Table) → are_lined xs ≡ true → are_lined ys ≡ true → are_lined (if b then xs else ys) ≡ true
either_lined true xs ys first second = first
either_lined false xs ys first second = second

change_lined : (state : State) (tables : List Table) → IsLined state → are_lined tables ≡ true → IsLined (changed state tables)
change_lined state tables lined is = (either_lined state.inside state.committed tables lined.0 is, is)

statement_lined : (state : State) (statement : Statement) → is_lined_statement statement ≡ true → IsLined state → IsLined (after_statement state statement)
statement_lined state (Create name schema) is lined = change_lined state _ lined (does_lined state.present (Create name schema) lined.1 is)
statement_lined state (Insert name rows) is lined = change_lined state _ lined (does_lined state.present (Insert name rows) lined.1 is)
statement_lined state (Select name columns condition) is lined = change_lined state _ lined lined.1
statement_lined state (Update name sets condition) is lined = change_lined state _ lined (does_lined state.present (Update name sets condition) lined.1 is)
statement_lined state (Delete name condition) is lined = change_lined state _ lined (does_lined state.present (Delete name condition) lined.1 is)
statement_lined state Begin is lined = lined
statement_lined state Commit is lined = (lined.1, lined.1)
statement_lined state Rollback is lined = (lined.0, lined.0)
statement_lined state (Refused refusal) is lined = change_lined state _ lined lined.1

text_lined : (language : Language) (full : Full) → IsFaithful language → (session number : ℕ) (text : List ℕ) (state : State) → IsLined state →
    IsLined (after_text language full session number text state)
text_lined language full is_faithful session number text state lined = by (full session number)
  where
    by : (b : Bool) → IsLined (if b then state else after_statement state (language.meaning state.present (place_at session state.inside) text))
    by true = lined
    by false = statement_lined state (language.meaning state.present (place_at session state.inside) text) (is_faithful.lined state.present (place_at session state.inside) text) lined

texts_lined : (language : Language) (full : Full) → IsFaithful language → (session number : ℕ) (texts : List (List ℕ)) (state : State) → IsLined state →
    IsLined (after_texts language full session number texts state)
texts_lined language full is_faithful session number [] state lined = lined
texts_lined language full is_faithful session number (text ∷ texts) state lined =
    texts_lined language full is_faithful session (number + 1) texts (after_text language full session number text state)
    (text_lined language full is_faithful session number text state lined)

-- a session leaves the committed tables
session_lined : (language : Language) (full : Full) → IsFaithful language → (session : Session) (state : State) → IsLined state → IsLined (after_session language full session state)
session_lined language full is_faithful session state lined =
    let after = texts_lined language full is_faithful session.number 1 session.texts state lined in (after.0, after.0)

sessions_lined : (language : Language) (full : Full) → IsFaithful language → (sessions : List Session) (state : State) → IsLined state → IsLined (after_sessions language full sessions state)
sessions_lined language full is_faithful [] state lined = lined
sessions_lined language full is_faithful (session ∷ sessions) state lined =
    sessions_lined language full is_faithful sessions (after_session language full session state) (session_lined language full is_faithful session state lined)

full_line : is_one_line full_text ≡ true
unfolding full_text
full_line = refusal_line FileFull

-- where the test is false the answer is no full file's, and where it is true and the answer no END, it is one
full_is : (b is_last said : Bool) → is_last ≡ false → said ≡ b → said ≡ (b && not is_last)
full_is true is_last said never is = is ∙ sym (ap not never)
full_is false is_last said never is = is

no_last : (b is_last said : Bool) → is_last ≡ true → said ≡ false → said ≡ (b && not is_last)
no_last true is_last said last is = is ∙ sym (ap not last)
no_last false is_last said last is = is

answered_text : (language : Language) (full : Full) → IsFaithful language → (session number : ℕ) (text : List ℕ) (state : State) → session < 2 ^ 64 → number < 2 ^ 64 → IsLined state →
    IsAnswered full (answer_to language full session number text state)
answered_text language full is_faithful session number text state known small lined = by (full session number) refl
  where
    outcome : Outcome
    outcome = done language state.present session state.inside text

    by : (b : Bool) → full session number ≡ b → IsAnswered full (answer_with session number (if b then full_text else reply_text outcome.reply))
    by true is =
        let says = full_says session number in
        record {
          alone = record {
            shown = record { turn = turn_small session number small; session = known; number = small; text = full_line };
            turn = refl;
            not_deadlock = says.2;
          };
          full_where = full_is (full session number) (is_end (answer_with session number full_text)) (is_full (answer_with session number full_text)) says.0 (says.1 ∙ sym is);
        }
    by false is =
        let a = answer_with session number (reply_text outcome.reply) in
        let given = given_parts (is_end a) (is_full a) (is_deadlock a) (not_given language is_faithful session number text state) in
        record {
          alone = record {
            shown = record { turn = turn_small session number small; session = known; number = small; text = does_line state.present (language.meaning state.present (place_at session state.inside) text) lined.1 };
            turn = refl;
            not_deadlock = given.2;
          };
          full_where = full_is (full session number) (is_end a) (is_full a) given.0 (given.1 ∙ sym is);
        }

answered_texts : (language : Language) (full : Full) → IsFaithful language → (session n : ℕ) (texts : List (List ℕ)) (state : State) →
    session < 2 ^ 64 → n + length texts < 2 ^ 64 → IsLined state → All (IsAnswered full) (answers_to language full session n texts state)
answered_texts language full is_faithful session n [] state known small lined = λ k d inside. absurd (omega arith)
answered_texts language full is_faithful session n (text ∷ texts) state known small lined =
    All-cons (IsAnswered full) (answer_to language full session n text state) _
    (answered_text language full is_faithful session n text state known (omega arith) lined)
    (answered_texts language full is_faithful session (n + 1) texts (after_text language full session n text state) known (omega arith)
    (text_lined language full is_faithful session n text state lined))

answered_end : (full : Full) (session number : ℕ) → session < 2 ^ 64 → number < 2 ^ 64 → IsAnswered full (answer_with session number end_text)
answered_end full session number known small =
    let says = end_says session number in
    record {
      alone = record {
        shown = record { turn = turn_small session number small; session = known; number = small; text = end_line };
        turn = refl;
        not_deadlock = says.1;
      };
      full_where = no_last (full session number) (is_end (answer_with session number end_text)) (is_full (answer_with session number end_text)) says.2 says.0;
    }

answered_sessions : (language : Language) (full : Full) → IsFaithful language → (sessions : List Session) (state : State) → AreSmall sessions → IsLined state →
    All (IsAnswered full) (sessions_answers language full sessions state)
answered_sessions language full is_faithful [] state small lined = λ k d inside. absurd (omega arith)
answered_sessions language full is_faithful (session ∷ sessions) state small lined =
    let said = answers_to language full session.number 1 session.texts state in
    let last = answer_with session.number (length session.texts + 1) end_text in
    All-append (IsAnswered full) (said ++ last ∷ []) _
    (All-append (IsAnswered full) said (last ∷ [])
    (answered_texts language full is_faithful session.number 1 session.texts state small.0 (omega arith) lined)
    (All-cons (IsAnswered full) last [] (answered_end full session.number (length session.texts + 1) small.0 small.1) (λ k d inside. absurd (omega arith))))
    (answered_sessions language full is_faithful sessions (after_session language full session state) small.2
    (session_lined language full is_faithful session state lined))

pub alone_answers : AloneAnswers
alone_answers language full first script is_faithful first_lined setup_small sessions_small =
    let start = settled first in
    let lined = texts_lined language full is_faithful 0 1 script.setup start (first_lined, first_lined) in
    let all : All (IsAnswered full) (run_answers language full first script) =
    All-append (IsAnswered full) (answers_to language full 0 1 script.setup start) _
    (answered_texts language full is_faithful 0 1 script.setup start (omega arith) (omega arith) (first_lined, first_lined))
    (answered_sessions language full is_faithful script.sessions (after_setup language full first script) sessions_small lined) in
    record {
      alone = λ k d inside. (all k d inside).alone;
      full_where = λ k d inside. (all k d inside).full_where;
      lined = (sessions_lined language full is_faithful script.sessions (after_setup language full first script) lined).0;
    }

-- ---- which statements find the file full

pub full_decides : FullDecides
full_decides language full other session number [] state same = record { answers = refl; after = refl }
full_decides language full other session number (text ∷ texts) state same =
    let first : full session number ≡ other session number =
    ap (full session) (let e : number ≡ number + 0 = omega arith in e) ∙ (same 0 (omega arith) ∙ ap (other session) (let e : number + 0 ≡ number = omega arith in e)) in
    let outcome = done language state.present session state.inside text in
    let next : after_text language full session number text state ≡ after_text language other session number text state =
    ap (λ b. if b then state else after_statement state (language.meaning state.present (place_at session state.inside) text)) first in
    let answer : answer_to language full session number text state ≡ answer_to language other session number text state =
    ap (λ b. answer_with session number (if b then full_text else reply_text outcome.reply)) first in
    let others = full_decides language full other session (number + 1) texts (after_text language full session number text state)
    (λ k below. ap (full session) (let e : number + 1 + k ≡ number + suc k = omega arith in e)
    ∙ (same (suc k) (omega arith) ∙ ap (other session) (let e : number + suc k ≡ number + 1 + k = omega arith in e))) in
    record {
      answers = ap (λ rest. answer_to language full session number text state ∷ rest) (others.answers ∙ ap (answers_to language other session (number + 1) texts) next)
          ∙ ap (λ a. a ∷ answers_to language other session (number + 1) texts (after_text language other session number text state)) answer;
      after = others.after ∙ ap (after_texts language other session (number + 1) texts) next;
    }
