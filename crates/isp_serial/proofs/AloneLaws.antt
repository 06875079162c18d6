-- A session that runs alone gives serial answers that fit its texts.
use Rattle.std.proofs.Common.{◌≡◌, ℕ, zero, suc, ◌≤◌, ◌+◌, ◌-◌, Bool, true, false, not, ◌&&◌, ◌||◌, ◌==◌, List, [], ◌∷◌, ◌++◌, length, map, drop, slice_get, refl, ap, ◌∙◌, sym, subst, arith, Option, Some, None, MatchBool, if◌then◌else◌, ◌⊎◌, inl, inr}
use Rattle.std.specs.Prelude.{All, ◌↔◌}
use Rattle.std.specs.Option.{option_and_then}
use Rattle.std.specs.Str.{bytes_eq}
use Rattle.std.proofs.lemmas.Bool.Decides.{nat_tests}
use Rattle.std.proofs.lemmas.List.Elements.{All-cons}
use Rattle.isp_serial.specs.declared.script.Script.{Script}
use Rattle.isp_plain.specs.declared.refusal.Refusal.{Refusal}
use Rattle.isp_plain.specs.declared.statement.Statement.{Statement}
use Rattle.isp_plain.specs.declared.statement.Statement.TheVariants.{Create, Insert, Select, Update, Delete, Begin, Commit, Rollback, Refused}
use Rattle.isp_serial.specs.Alone.{Full, State, settled, rolled_back, changed, after_statement, after_text, after_texts, turn_of, answer_with, answer_to, answers_to, IsFaithful, MayMean}
use Rattle.isp_serial.specs.Answers.{Answer, NeverFalls, answers_of, counted_from, is_end, is_full, is_deadlock}
use Rattle.isp_plain.specs.Does.{does}
use Rattle.isp_serial.specs.Script.{texts_of, text_in, text_at}
use Rattle.isp_serial.specs.Serial.{Agrees, Becomes, Ends, EndsAll, Repeats, Replays, Pending, is_given, is_inside, done, effect_of, place_at}
use Rattle.isp_plain.specs.Tables.{Table}
use Rattle.isp_plain.specs.Refusals.{refusal_text}
use Rattle.isp_plain.specs.Texts.{ok_text, end_text, full_text, reply_text}
use Rattle.isp_serial.specs.Transactions.{Language, Effect, begins, commits, rolls_back, stays, ends, keeps, is_begin, is_close, is_commit, is_ok}
use Rattle.isp_plain.proofs.DoesLaws.{RefusesOwn, does_own}
use Rattle.isp_serial.proofs.GivenLaws.{full_says, own_not_given}

-- a run of answers goes on where another one ends
pub joined : (language : Language) (script : Script) (t u v : List Table) (p q r : Pending) (xs ys : List Answer) →
    EndsAll language script t p xs u q → EndsAll language script u q ys v r → EndsAll language script t p (xs ++ ys) v r
joined language script t u v p q r [] ys first second =
    let P : List Table → Type 0 = λ w. EndsAll language script w p ys v r in
    let Q : Pending → Type 0 = λ w. EndsAll language script u w ys v r in
    subst P first.0 (subst Q first.1 second)
joined language script t u v p q r (x ∷ xs) ys first second =
    (first.0, first.1, first.2, joined language script first.0 u v first.1 q r xs ys first.3 second)

match_true : (b : Bool) (P Q : Type 0) → b ≡ true → P → MatchBool b P Q
match_true true P Q is p = p
match_true false P Q is p = cc

match_false : (b : Bool) (P Q : Type 0) → b ≡ false → Q → MatchBool b P Q
match_false true P Q is q = cc
match_false false P Q is q = q

pub if_so : {X : Type 0} (b : Bool) (x y : X) → b ≡ true → x ≡ (if b then x else y)
if_so true x y is = refl
if_so false x y is = cc

pub if_else : {X : Type 0} (b : Bool) (x y : X) → b ≡ false → y ≡ (if b then x else y)
if_else true x y is = cc
if_else false x y is = refl

-- the text of an OK says OK, and no refusal's does
ok_says : bytes_eq ok_text ok_text ≡ true
unfolding ok_text
ok_says = refl

refusal_says : (refusal : Refusal) → bytes_eq (refusal_text refusal) ok_text ≡ false
unfolding ok_text
refusal_says refusal = refl

refuses_own : (effect : Effect) (statement : Statement) → MayMean effect statement → RefusesOwn statement
refuses_own effect (Create name schema) may = tt
refuses_own effect (Insert name rows) may = tt
refuses_own effect (Select name columns condition) may = tt
refuses_own effect (Update name sets condition) may = tt
refuses_own effect (Delete name condition) may = tt
refuses_own effect Begin may = tt
refuses_own effect Commit may = tt
refuses_own effect Rollback may = tt
refuses_own effect (Refused refusal) may = may

-- no reply to a text is END, a full file's or a deadlock's
pub not_given : (language : Language) → IsFaithful language → (session number : ℕ) (text : List ℕ) (state : State) →
    is_given (answer_with session number (reply_text (done language state.present session state.inside text).reply)) ≡ false
not_given language is_faithful session number text state =
    let at = place_at session state.inside in
    let statement = language.meaning state.present at text in
    own_not_given session number (does state.present statement).reply
    (does_own state.present statement (refuses_own (language.effect text) statement (is_faithful.meant state.present at text)))

-- by the words of transactions: whether an answer that is not given ends one, and whether the end commits
abbrev is_over : Bool → Effect → Bool → Bool
is_over inside effect ok = if inside then is_close effect && ok else not (is_begin effect && ok)

abbrev is_kept : Bool → Effect → Bool
is_kept inside effect = if inside then is_commit effect else true

-- the answer ends the transaction and settles the tables, or leaves it open
abbrev Verdict : State → Effect → Bool → List Table → State → Type 0
Verdict state effect ok tables next =
    ((is_over state.inside effect ok ≡ true) × (next ≡ settled (if is_kept state.inside effect then tables else state.committed)))
    ⊎ ((is_over state.inside effect ok ≡ false) × (next ≡ (let now : State = record { committed = state.committed; present = tables; inside = true } in now))
    × ((state.inside || (is_begin effect && ok)) ≡ true))

abbrev at : List Table → List Table → Bool → State
at committed present inside = record { committed = committed; present = present; inside = inside }

begin_verdict : (c p : List Table) (inside ok : Bool) → ok ≡ true → Verdict (at c p inside) begins ok p (at c p true)
begin_verdict c p true true is = inr (refl, refl, refl)
begin_verdict c p false true is = inr (refl, refl, refl)
begin_verdict c p inside false is = cc

commit_verdict : (c p : List Table) (inside ok : Bool) → ok ≡ true → Verdict (at c p inside) commits ok p (settled p)
commit_verdict c p true true is = inl (refl, refl)
commit_verdict c p false true is = inl (refl, refl)
commit_verdict c p inside false is = cc

rollback_verdict : (c p : List Table) (inside ok : Bool) → ok ≡ true → (inside ≡ false → p ≡ c) → Verdict (at c p inside) rolls_back ok p (settled c)
rollback_verdict c p true true is outside = inl (refl, refl)
rollback_verdict c p false true is outside = inl (refl, ap settled (sym (outside refl)))
rollback_verdict c p inside false is outside = cc

other_verdict : (c p tables : List Table) (inside ok : Bool) → Verdict (at c p inside) stays ok tables (changed (at c p inside) tables)
other_verdict c p tables true ok = inr (refl, refl, refl)
other_verdict c p tables false ok = inl (refl, refl)

and_false : (b : Bool) → (b && false) ≡ false
and_false true = refl
and_false false = refl

refused_verdict : (c p : List Table) (inside ok : Bool) (effect : Effect) → ok ≡ false → Verdict (at c p inside) effect ok p (changed (at c p inside) p)
refused_verdict c p inside true effect is = cc
refused_verdict c p true false effect is = inr (and_false (is_close effect), refl, refl)
refused_verdict c p false false effect is = inl (ap not (and_false (is_begin effect)), refl)

-- the same effect gives the same verdict
same_verdict : (state next : State) (effect other : Effect) (ok : Bool) (tables : List Table) → effect ≡ other → Verdict state other ok tables next → Verdict state effect ok tables next
same_verdict state next effect other ok tables is verdict = subst (λ e. Verdict state e ok tables next) (sym is) verdict

abbrev says_ok : State → Statement → Bool
says_ok state statement = bytes_eq (reply_text (does state.present statement).reply) ok_text

-- what a statement does to the state is what the words of transactions say
verdict : (state : State) (statement : Statement) (effect : Effect) → MayMean effect statement → (state.inside ≡ false → state.present ≡ state.committed) →
    Verdict state effect (says_ok state statement) (does state.present statement).tables (after_statement state statement)
verdict state (Create name schema) effect may outside =
    let ok = says_ok state (Create name schema) in
    let tables = (does state.present (Create name schema)).tables in
    same_verdict state (changed state tables) effect stays ok tables may (other_verdict state.committed state.present tables state.inside ok)
verdict state (Insert name rows) effect may outside =
    let ok = says_ok state (Insert name rows) in
    let tables = (does state.present (Insert name rows)).tables in
    same_verdict state (changed state tables) effect stays ok tables may (other_verdict state.committed state.present tables state.inside ok)
verdict state (Select name columns condition) effect may outside =
    let ok = says_ok state (Select name columns condition) in
    same_verdict state (changed state state.present) effect stays ok state.present may (other_verdict state.committed state.present state.present state.inside ok)
verdict state (Update name sets condition) effect may outside =
    let ok = says_ok state (Update name sets condition) in
    let tables = (does state.present (Update name sets condition)).tables in
    same_verdict state (changed state tables) effect stays ok tables may (other_verdict state.committed state.present tables state.inside ok)
verdict state (Delete name condition) effect may outside =
    let ok = says_ok state (Delete name condition) in
    let tables = (does state.present (Delete name condition)).tables in
    same_verdict state (changed state tables) effect stays ok tables may (other_verdict state.committed state.present tables state.inside ok)
verdict state Begin effect may outside =
    same_verdict state (after_statement state Begin) effect begins (says_ok state Begin) state.present may
    (begin_verdict state.committed state.present state.inside (says_ok state Begin) ok_says)
verdict state Commit effect may outside =
    same_verdict state (after_statement state Commit) effect commits (says_ok state Commit) state.present may
    (commit_verdict state.committed state.present state.inside (says_ok state Commit) ok_says)
verdict state Rollback effect may outside =
    same_verdict state (after_statement state Rollback) effect rolls_back (says_ok state Rollback) state.present may
    (rollback_verdict state.committed state.present state.inside (says_ok state Rollback) ok_says outside)
verdict state (Refused refusal) effect may outside =
    refused_verdict state.committed state.present state.inside (says_ok state (Refused refusal)) effect (refusal_says refusal)

-- a full file's answer leaves the state
full_verdict : (c p : List Table) (inside ok : Bool) (effect : Effect) → ok ≡ false → (inside ≡ false → p ≡ c) → Verdict (at c p inside) effect ok p (at c p inside)
full_verdict c p inside true effect is outside = cc
full_verdict c p true false effect is outside = inr (and_false (is_close effect), refl, refl)
full_verdict c p false false effect is outside = inl (ap not (and_false (is_begin effect)), ap (λ t. at t p false) (sym (outside refl)))

-- answers done again, and whether a transaction is open behind them
pub Reaches : Language → Script → Bool → List Table → List Answer → List Table → Bool → Type 0
Reaches language script inside tables [] after now = (after ≡ tables) × (now ≡ inside)
Reaches language script inside tables (answer ∷ others) after now =
    let effect = effect_of language (text_at script answer.session answer.number)
    in (mid : List Table) × Agrees language script inside tables answer mid
    × Reaches language script (inside || (is_begin effect && is_ok answer)) mid others after now

reaches_replays : (language : Language) (script : Script) (inside : Bool) (tables : List Table) (answers : List Answer) (after : List Table) (now : Bool) →
    Reaches language script inside tables answers after now → Replays language script inside tables answers after
unfolding Reaches
reaches_replays language script inside tables [] after now reaches = reaches.0
reaches_replays language script inside tables (answer ∷ others) after now reaches =
    let begun = is_begin (effect_of language (text_at script answer.session answer.number)) && is_ok answer in
    (reaches.0, reaches.1, reaches_replays language script (inside || begun) reaches.0 others after now reaches.2)

reaches_more : (language : Language) (script : Script) (inside : Bool) (tables : List Table) (answers : List Answer) (mid : List Table) (now : Bool) (answer : Answer) (after : List Table) →
    Reaches language script inside tables answers mid now → Agrees language script now mid answer after →
    Reaches language script inside tables (answers ++ answer ∷ []) after (now || (is_begin (effect_of language (text_at script answer.session answer.number)) && is_ok answer))
unfolding Reaches
reaches_more language script inside tables [] mid now answer after reaches agrees =
    let begun = is_begin (effect_of language (text_at script answer.session answer.number)) && is_ok answer in
    let P : Bool → Type 0 = λ b. Agrees language script b tables answer after in
    let Q : List Table → Type 0 = λ t. Agrees language script now t answer after in
    (after, subst P reaches.1 (subst Q reaches.0 agrees), (refl, ap (λ b. b || begun) reaches.1))
reaches_more language script inside tables (first ∷ others) mid now answer after reaches agrees =
    let begun = is_begin (effect_of language (text_at script first.session first.number)) && is_ok first in
    (reaches.0, reaches.1, reaches_more language script (inside || begun) reaches.0 others mid now answer after reaches.2 agrees)

-- these are the session's answers since its last end, and no other session has any
pub only : ℕ → List Answer → Pending
only session answers k = if k == session then answers else []

-- where a session that runs alone stands: its answers since its last end, done again on the committed tables, leave the
-- present ones, and there are none where no transaction is open
pub record Stands (language : Language) (script : Script) (session : ℕ) (state : State) (pending : Pending) : Type 0 where
  pub answers : List Answer
  pub its_own : pending ≡ only session answers
  pub inside : is_inside answers ≡ state.inside
  pub reached : Reaches language script false state.committed answers state.present state.inside

none_open : (answers : List Answer) → is_inside answers ≡ false → answers ≡ []
none_open [] is = refl
none_open (answer ∷ answers) is = cc

one_open : (answers : List Answer) (answer : Answer) → is_inside (answers ++ answer ∷ []) ≡ true
one_open [] answer = refl
one_open (first ∷ answers) answer = refl

reached_none : (language : Language) (script : Script) (tables after : List Table) (now : Bool) (answers : List Answer) → answers ≡ [] →
    Reaches language script false tables answers after now → (after ≡ tables) × (now ≡ false)
unfolding Reaches
reached_none language script tables after now answers none reached =
    let P : List Answer → Type 0 = λ xs. Reaches language script false tables xs after now in subst P none reached

-- outside of a transaction all is committed
pub all_committed : (language : Language) (script : Script) (session : ℕ) (state : State) (pending : Pending) → Stands language script session state pending →
    state.inside ≡ false → state.present ≡ state.committed
all_committed language script session state pending stands outside =
    (reached_none language script state.committed state.present state.inside stands.answers (none_open stands.answers (stands.inside ∙ outside)) stands.reached).0

pub stands_settled : (language : Language) (script : Script) (session : ℕ) (tables : List Table) → Stands language script session (settled tables) (only session [])
unfolding Reaches
stands_settled language script session tables = record { answers = []; its_own = refl; inside = refl; reached = (refl, refl) }

if_same : {X : Type 0} (b : Bool) (x : X) → x ≡ (if b then x else x)
if_same true x = refl
if_same false x = refl

-- no session has any answer
pub none_of : (session k : ℕ) → only session [] k ≡ []
unfolding only
none_of session k = sym (if_same (k == session) [])

-- outside of a transaction the session has no answer that waits for an end
pub settles : (language : Language) (script : Script) (session : ℕ) (state : State) (pending : Pending) → Stands language script session state pending →
    state.inside ≡ false → pending ≡ only session []
settles language script session state pending stands outside =
    stands.its_own ∙ ap (only session) (none_open stands.answers (stands.inside ∙ outside))

-- outside of a transaction it does not matter which session stands there
pub stands_elsewhere : (language : Language) (script : Script) (session other : ℕ) (state : State) (pending : Pending) → Stands language script session state pending →
    state.inside ≡ false → Stands language script other state pending
unfolding Reaches
stands_elsewhere language script session other state pending stands outside =
    let none = none_open stands.answers (stands.inside ∙ outside) in
    let found = reached_none language script state.committed state.present state.inside stands.answers none stands.reached in
    record {
      answers = [];
      its_own = stands.its_own ∙ (ap (only session) none ∙ (λ i k. (none_of session k ∙ sym (none_of other k)) i));
      inside = sym outside;
      reached = found;
    }

-- Ends, with the session's answers and the effect given
abbrev EndsFrom : Language → Script → List Table → Pending → Answer → List Table → Pending → List Answer → Effect → Type 0
EndsFrom language script tables pending answer after left before effect =
    MatchBool (ends (is_inside before) effect answer)
    ((replayed : List Table) × Replays language script false tables (before ++ answer ∷ []) replayed
    × (after ≡ (if keeps (is_inside before) effect answer then replayed else tables))
    × Becomes pending answer.session [] left)
    ((after ≡ tables) × Becomes pending answer.session (before ++ answer ∷ []) left)

ends_from : (language : Language) (script : Script) (tables : List Table) (pending : Pending) (answer : Answer) (after : List Table) (left : Pending) (before : List Answer) (effect : Effect) →
    pending answer.session ≡ before → effect_of language (text_at script answer.session answer.number) ≡ effect →
    EndsFrom language script tables pending answer after left before effect → Ends language script tables pending answer after left
ends_from language script tables pending answer after left before effect before_is effect_is ends_so =
    let P : List Answer → Type 0 = λ b. EndsFrom language script tables pending answer after left b (effect_of language (text_at script answer.session answer.number)) in
    let Q : Effect → Type 0 = λ e. EndsFrom language script tables pending answer after left before e in
    subst P (sym before_is) (subst Q (sym effect_is) ends_so)

same_test : (n : ℕ) → (n == n) ≡ true
same_test n = grind (arith, nat_tests)

own_answers : (session : ℕ) (answers : List Answer) (pending : Pending) → pending ≡ only session answers → pending session ≡ answers
unfolding only
own_answers session answers pending is = ap (λ (p : Pending). p session) is ∙ sym (if_so (session == session) answers [] (same_test session))

becomes_either : (b : Bool) (new old : List Answer) → (if b then new else []) ≡ (if b then new else (if b then old else []))
becomes_either true new old = refl
becomes_either false new old = refl

becomes_only : (session : ℕ) (old new : List Answer) (pending : Pending) → pending ≡ only session old → Becomes pending session new (only session new)
unfolding only
becomes_only session old new pending is k =
    becomes_either (k == session) new old ∙ ap (λ (p : Pending). if k == session then new else p k) (sym is)

parts : (x y z : Bool) → (x || y || z) ≡ false → (x ≡ false) × (z ≡ false)
parts true y z is = cc
parts false true z is = cc
parts false false true is = cc
parts false false false is = (refl, refl)

third : (x y z : Bool) → x ≡ false → y ≡ false → (x || y || z) ≡ z
third true y z no_x no_y = cc
third false true z no_x no_y = cc
third false false z no_x no_y = refl

second : (x y z : Bool) → x ≡ false → y ≡ false → (not (x || y) && z) ≡ z
second true y z no_x no_y = cc
second false true z no_x no_y = cc
second false false z no_x no_y = refl

repeats : (language : Language) (session number : ℕ) (text : List ℕ) (state : State) (o : Option (List ℕ)) → o ≡ Some text →
    let outcome = done language state.present session state.inside text in
    Repeats language o state.inside state.present (answer_with session number (reply_text outcome.reply)) outcome.tables
repeats language session number text state o is =
    let outcome = done language state.present session state.inside text in
    let P : Option (List ℕ) → Type 0 = λ o. Repeats language o state.inside state.present (answer_with session number (reply_text outcome.reply)) outcome.tables in
    subst P (sym is) (refl, refl)

-- one answer further
abbrev pub Further : Language → Script → ℕ → State → Pending → Answer → State → Type 0
Further language script session state pending answer next =
    (left : Pending) × Ends language script state.committed pending answer next.committed left × Stands language script session next left

further : (language : Language) (script : Script) (session number : ℕ) (said : List ℕ) (state : State) (pending : Pending) (effect : Effect) (tables : List Table) (next : State) →
    effect_of language (text_at script session number) ≡ effect → (is_end (answer_with session number said) ≡ false) × (is_deadlock (answer_with session number said) ≡ false) → Stands language script session state pending →
    Agrees language script state.inside state.present (answer_with session number said) tables → Verdict state effect (bytes_eq said ok_text) tables next →
    Further language script session state pending (answer_with session number said) next
further language script session number said state pending effect tables next effect_is own stands agrees (inl (over, is)) =
    let a = answer_with session number said in
    let ended : ends (is_inside stands.answers) effect a ≡ true =
    ap (λ b. ends b effect a) stands.inside ∙ (third (is_end a) (is_deadlock a) _ own.0 own.1 ∙ over) in
    let kept : keeps (is_inside stands.answers) effect a ≡ is_kept state.inside effect =
    ap (λ b. keeps b effect a) stands.inside ∙ second (is_end a) (is_deadlock a) _ own.0 own.1 in
    let reached = reaches_more language script false state.committed stands.answers state.present state.inside a tables stands.reached agrees in (
      only session [],
      ends_from language script state.committed pending a next.committed (only session []) stands.answers effect
          (own_answers session stands.answers pending stands.its_own) effect_is
          (match_true (ends (is_inside stands.answers) effect a) _ _ ended (
            tables,
            reaches_replays language script false state.committed (stands.answers ++ a ∷ []) tables _ reached,
            ap (λ (s : State). s.committed) is ∙ ap (λ k. if k then tables else state.committed) (sym kept),
            becomes_only session stands.answers [] pending stands.its_own,
          )),
      subst (λ s. Stands language script session s (only session [])) (sym is) (stands_settled language script session _),
    )
further language script session number said state pending effect tables next effect_is own stands agrees (inr (goes_on, is, begun)) =
    let a = answer_with session number said in
    let ended : ends (is_inside stands.answers) effect a ≡ false =
    ap (λ b. ends b effect a) stands.inside ∙ (third (is_end a) (is_deadlock a) _ own.0 own.1 ∙ goes_on) in
    let reached = reaches_more language script false state.committed stands.answers state.present state.inside a tables stands.reached agrees in
    let flag : (state.inside || (is_begin (effect_of language (text_at script session number)) && is_ok a)) ≡ true =
    ap (λ e. state.inside || (is_begin e && is_ok a)) effect_is ∙ begun in (
      only session (stands.answers ++ a ∷ []),
      ends_from language script state.committed pending a next.committed (only session (stands.answers ++ a ∷ [])) stands.answers effect
          (own_answers session stands.answers pending stands.its_own) effect_is
          (match_false (ends (is_inside stands.answers) effect a) _ _ ended (
            ap (λ (s : State). s.committed) is,
            becomes_only session stands.answers (stands.answers ++ a ∷ []) pending stands.its_own,
          )),
      subst (λ s. Stands language script session s (only session (stands.answers ++ a ∷ []))) (sym is) (record {
        answers = stands.answers ++ a ∷ [];
        its_own = refl;
        inside = one_open stands.answers a;
        reached = subst (λ b. Reaches language script false state.committed (stands.answers ++ a ∷ []) tables b) flag reached;
      }),
    )

-- the answer to one text: what it does, or a full file's
one_done : (language : Language) (script : Script) → IsFaithful language → (session number : ℕ) (text : List ℕ) (state : State) (pending : Pending) →
    text_at script session number ≡ Some text → Stands language script session state pending →
    Further language script session state pending (answer_with session number (reply_text (done language state.present session state.inside text).reply))
    (after_statement state (language.meaning state.present (place_at session state.inside) text))
one_done language script is_faithful session number text state pending is stands =
    let at = place_at session state.inside in
    let outcome = done language state.present session state.inside text in
    let a = answer_with session number (reply_text outcome.reply) in
    let given = not_given language is_faithful session number text state in
    further language script session number (reply_text outcome.reply) state pending (language.effect text) outcome.tables (after_statement state (language.meaning state.present at text))
    (ap (effect_of language) is) (parts (is_end a) (is_full a) (is_deadlock a) given) stands
    (match_false (is_given a) _ _ given (repeats language session number text state (text_at script session number) is))
    (verdict state (language.meaning state.present at text) (language.effect text) (is_faithful.meant state.present at text)
    (all_committed language script session state pending stands))

full_given : (x y z : Bool) → y ≡ true → (x || y || z) ≡ true
full_given true y z is = refl
full_given false true z is = refl
full_given false false z is = cc

one_full : (language : Language) (script : Script) (session number : ℕ) (text : List ℕ) (state : State) (pending : Pending) →
    text_at script session number ≡ Some text → Stands language script session state pending →
    Further language script session state pending (answer_with session number full_text) state
one_full language script session number text state pending is stands =
    let a = answer_with session number full_text in
    let says = full_says session number in
    further language script session number full_text state pending (language.effect text) state.present state
    (ap (effect_of language) is) (says.0, says.2) stands
    (match_true (is_given a) _ _ (full_given (is_end a) (is_full a) (is_deadlock a) says.1) refl)
    (full_verdict state.committed state.present state.inside (bytes_eq full_text ok_text) (language.effect text) says.3
    (all_committed language script session state pending stands))

pub one : (language : Language) (full : Full) (script : Script) → IsFaithful language → (session number : ℕ) (text : List ℕ) (state : State) (pending : Pending) →
    text_at script session number ≡ Some text → Stands language script session state pending →
    Further language script session state pending (answer_to language full session number text state) (after_text language full session number text state)
one language full script is_faithful session number text state pending is stands = by (full session number)
  where
    by : (b : Bool) → Further language script session state pending
        (answer_with session number (if b then full_text else reply_text (done language state.present session state.inside text).reply))
        (if b then state else after_statement state (language.meaning state.present (place_at session state.inside) text))
    by true = one_full language script session number text state pending is stands
    by false = one_done language script is_faithful session number text state pending is stands

end_is : (session number : ℕ) → (is_end (answer_with session number end_text) ≡ true) × (is_given (answer_with session number end_text) ≡ true)
unfolding end_text
end_is session number = (refl, refl)

end_ends : (x y z : Bool) → x ≡ true → ((x || y || z) ≡ true) × (not (x || y) && z ≡ false)
end_ends true y z is = (refl, refl)
end_ends false y z is = cc

-- an END gives up what is open
pub over : (language : Language) (script : Script) (session number : ℕ) (state : State) (pending : Pending) → Stands language script session state pending →
    Further language script session state pending (answer_with session number end_text) (rolled_back state)
over language script session number state pending stands =
    let a = answer_with session number end_text in
    let effect = effect_of language (text_at script session number) in
    let is = end_is session number in
    let agrees : Agrees language script state.inside state.present a state.present = match_true (is_given a) _ _ is.1 refl in
    let reached = reaches_more language script false state.committed stands.answers state.present state.inside a state.present stands.reached agrees in (
      only session [],
      ends_from language script state.committed pending a state.committed (only session []) stands.answers effect
          (own_answers session stands.answers pending stands.its_own) refl
          (match_true (ends (is_inside stands.answers) effect a) _ _ (end_ends (is_end a) (is_deadlock a) _ is.0).0 (
            state.present,
            reaches_replays language script false state.committed (stands.answers ++ a ∷ []) state.present _ reached,
            if_else (keeps (is_inside stands.answers) effect a) state.present state.committed (end_ends (is_end a) (is_deadlock a) _ is.0).1,
            becomes_only session stands.answers [] pending stands.its_own,
          )),
      stands_settled language script session state.committed,
    )

-- where the list from place n on begins with x, x stands at n, and the others begin behind it
at_place : {X : Type 0} (xs : List X) (n : ℕ) (x : X) (others : List X) → drop n xs ≡ x ∷ others → (slice_get xs n ≡ Some x) × (drop (n + 1) xs ≡ others)
at_place [] zero x others is = cc
at_place [] (suc n) x others is = cc
at_place (y ∷ ys) zero x others is = (let e : y ≡ x = cc in ap (λ z. Some z) e, let e : ys ≡ others = cc in e)
at_place (y ∷ ys) (suc n) x others is =
    let later = at_place ys n x others is in
    let more : suc n + 1 ≡ suc (n + 1) = omega arith in
    (later.0, ap (λ m. drop m (y ∷ ys)) more ∙ later.1)

text_in-next : (texts : List (List ℕ)) (n : ℕ) → text_in texts (n + 1) ≡ slice_get texts n
text_in-next texts n =
    let some : (n + 1 == 0) ≡ false = grind (arith, nat_tests) in
    let less : n + 1 - 1 ≡ n = omega arith in
    sym (if_else (n + 1 == 0) None (slice_get texts (n + 1 - 1)) some) ∙ ap (slice_get texts) less

-- the answers to all texts of a session from place n on
abbrev pub FurtherAll : Language → Script → ℕ → State → Pending → List Answer → State → Type 0
FurtherAll language script session state pending answers next =
    (left : Pending) × EndsAll language script state.committed pending answers next.committed left × Stands language script session next left

pub all_of : (language : Language) (full : Full) (script : Script) → IsFaithful language → (session n : ℕ) (all texts : List (List ℕ)) (state : State) (pending : Pending) →
    texts_of script session ≡ Some all → drop n all ≡ texts → Stands language script session state pending →
    FurtherAll language script session state pending (answers_to language full session (n + 1) texts state) (after_texts language full session (n + 1) texts state)
all_of language full script is_faithful session n all [] state pending of is stands = (pending, (refl, refl), stands)
all_of language full script is_faithful session n all (text ∷ texts) state pending of is stands =
    let here = at_place all n text texts is in
    let at : text_at script session (n + 1) ≡ Some text =
    ap (λ o. option_and_then (λ ts. text_in ts (n + 1)) o) of ∙ (text_in-next all n ∙ here.0) in
    let next = after_text language full session (n + 1) text state in
    let first = one language full script is_faithful session (n + 1) text state pending at stands in
    let others = all_of language full script is_faithful session (n + 1) all texts next first.0 of here.1 first.2 in
    (others.0, (next.committed, first.0, first.1, others.1), others.2)

pub same_number : (n : ℕ) → (n == n) ≡ true
same_number n = grind (arith, nat_tests)

pub length-answers_to : (language : Language) (full : Full) (session n : ℕ) (texts : List (List ℕ)) (state : State) →
    length (answers_to language full session n texts state) ≡ length texts
length-answers_to language full session n [] state = refl
length-answers_to language full session n (text ∷ texts) state =
    ap suc (length-answers_to language full session (n + 1) texts (after_text language full session n text state))

pub numbers-answers_to : (language : Language) (full : Full) (session n : ℕ) (texts : List (List ℕ)) (state : State) →
    map (λ a. a.number) (answers_to language full session n texts state) ≡ counted_from n (answers_to language full session n texts state)
numbers-answers_to language full session n [] state = refl
numbers-answers_to language full session n (text ∷ texts) state =
    ap (λ ns. n ∷ ns) (numbers-answers_to language full session (n + 1) texts (after_text language full session n text state))

pub counted_from-append : {X : Type 0} (n : ℕ) (xs ys : List X) → counted_from n (xs ++ ys) ≡ counted_from n xs ++ counted_from (n + length xs) ys
counted_from-append n [] ys = let e : n ≡ n + 0 = omega arith in ap (λ m. counted_from m ys) e
counted_from-append n (x ∷ xs) ys =
    let e : n + 1 + length xs ≡ n + suc (length xs) = omega arith in
    ap (λ ns. n ∷ ns) (counted_from-append (n + 1) xs ys ∙ ap (λ m. counted_from (n + 1) xs ++ counted_from m ys) e)

pub of_same : (session : ℕ) (a : Answer) (answers kept : List Answer) → a.session ≡ session → answers_of session answers ≡ kept → answers_of session (a ∷ answers) ≡ a ∷ kept
of_same session a answers kept is later =
    let this : (a.session == session) ≡ true = ap (λ k. k == session) is ∙ same_number session in
    sym (if_so (a.session == session) (a ∷ answers_of session answers) (answers_of session answers) this) ∙ ap (λ rest. a ∷ rest) later

pub of_other : (session : ℕ) (a : Answer) (answers kept : List Answer) → (a.session == session) ≡ false → answers_of session answers ≡ kept → answers_of session (a ∷ answers) ≡ kept
of_other session a answers kept is later =
    sym (if_else (a.session == session) (a ∷ answers_of session answers) (answers_of session answers) is) ∙ later

pub of_its_own : (language : Language) (full : Full) (session n : ℕ) (texts : List (List ℕ)) (state : State) →
    answers_of session (answers_to language full session n texts state) ≡ answers_to language full session n texts state
of_its_own language full session n [] state = refl
of_its_own language full session n (text ∷ texts) state =
    of_same session (answer_to language full session n text state) _ _ refl (of_its_own language full session (n + 1) texts (after_text language full session n text state))

pub of_none : (language : Language) (full : Full) (session other n : ℕ) (texts : List (List ℕ)) (state : State) → (session == other) ≡ false →
    answers_of other (answers_to language full session n texts state) ≡ []
of_none language full session other n [] state is = refl
of_none language full session other n (text ∷ texts) state is =
    of_other other (answer_to language full session n text state) _ _ is (of_none language full session other (n + 1) texts (after_text language full session n text state) is)

no_end : (x y z : Bool) → (x || y || z) ≡ false → x ≡ false
no_end true y z is = cc
no_end false y z is = refl

pub not_end : (language : Language) (full : Full) → IsFaithful language → (session number : ℕ) (text : List ℕ) (state : State) →
    is_end (answer_to language full session number text state) ≡ false
not_end language full is_faithful session number text state = by (full session number)
  where
    by : (b : Bool) → is_end (answer_with session number (if b then full_text else reply_text (done language state.present session state.inside text).reply)) ≡ false
    by true = (full_says session number).0
    by false =
        let a = answer_with session number (reply_text (done language state.present session state.inside text).reply) in
        no_end (is_end a) (is_full a) (is_deadlock a) (not_given language is_faithful session number text state)

-- none of the answers to the texts is an END, or has a number from m on
pub no_ends : (language : Language) (full : Full) → IsFaithful language → (session n m : ℕ) (texts : List (List ℕ)) (state : State) → n + length texts ≤ m →
    All (λ a. (is_end a ≡ true) ↔ (a.number ≡ m)) (answers_to language full session n texts state)
no_ends language full is_faithful session n m [] state below = λ k d inside. absurd (omega arith)
no_ends language full is_faithful session n m (text ∷ texts) state below =
    let a = answer_to language full session n text state in
    let none = not_end language full is_faithful session n text state in
    All-cons (λ a. (is_end a ≡ true) ↔ (a.number ≡ m)) a _
    ((λ over. let e : true ≡ false = sym over ∙ none in cc), (λ same. absurd (omega arith)))
    (no_ends language full is_faithful session (n + 1) m texts (after_text language full session n text state) (omega arith))

-- turns of a session rise with its statements
pub rising : (language : Language) (full : Full) (session least n m : ℕ) (texts : List (List ℕ)) (state : State) → (session == 0) ≡ false → least ≤ n → n + length texts ≡ m →
    NeverFalls least (map (λ a. a.turn) (answers_to language full session n texts state ++ answer_with session m end_text ∷ []))
rising language full session least n m [] state is low last =
    let turn : m ≡ turn_of session m = if_else (session == 0) 0 m is in (subst (λ t. least ≤ t) turn (omega arith), tt)
rising language full session least n m (text ∷ texts) state is low last =
    let turn : n ≡ turn_of session n = if_else (session == 0) 0 n is in
    let rest = answers_to language full session (n + 1) texts (after_text language full session n text state) ++ answer_with session m end_text ∷ [] in
    subst (λ t. (least ≤ t) × NeverFalls t (map (λ a. a.turn) rest)) turn
    (low, rising language full session n (n + 1) m texts (after_text language full session n text state) is (omega arith) (omega arith))

pub flat : (language : Language) (full : Full) (n : ℕ) (texts : List (List ℕ)) (state : State) (more : List Answer) → NeverFalls 0 (map (λ a. a.turn) more) →
    NeverFalls 0 (map (λ a. a.turn) (answers_to language full 0 n texts state ++ more))
flat language full n [] state more rest = rest
flat language full n (text ∷ texts) state more rest = (omega arith, flat language full (n + 1) texts (after_text language full 0 n text state) more rest)
