-- What replays gives the tables by computation.
use Rattle.std.proofs.Common.{◌≡◌, ◌∙◌, sym, ap, ℕ, ◌||◌, ◌&&◌, Bool, true, false, cond, List, [], ◌∷◌, ◌++◌, Option, Some, None}
use Rattle.std.specs.Prelude.{MatchBool, if◌then◌else◌}
use Rattle.std.specs.Option.{option_and_then}
use Rattle.std.proofs.lemmas.Slice.Eq.{bytes_eq-Decides}
use Rattle.isp_plain.specs.Does.{Outcome}
use Rattle.isp_plain.specs.Tables.{Table}
use Rattle.isp_plain.specs.Texts.{reply_text}
use Rattle.isp_serial.specs.declared.script.Script.{Script}
use Rattle.isp_serial.specs.Answers.{Answer}
use Rattle.isp_serial.specs.Script.{text_at}
use Rattle.isp_serial.specs.Serial.{Agrees, Becomes, EndsAll, Pending, Repeats, Replays, done, effect_of, is_given, is_inside}
use Rattle.isp_serial.specs.Transactions.{Effect, Language, ends, is_begin, is_ok, keeps}
use Rattle.isp_event_laws.specs.SerialAfter.{if_told, repeated, agreed, replayed, becoming, pending_after, serial_from}

told_same : (text : List ℕ) (outcome : Outcome) (after : List Table) → text ≡ reply_text outcome.reply → after ≡ outcome.tables → if_told text outcome ≡ Some after
told_same text outcome after same is =
    ap (λ b. cond b (Some outcome.tables) None) ((bytes_eq-Decides text (reply_text outcome.reply)).1 same) ∙ ap Some (sym is)

repeats : (language : Language) (text : Option (List ℕ)) (inside : Bool) (tables : List Table) (answer : Answer) (after : List Table)
    → Repeats language text inside tables answer after → repeated language text inside tables answer ≡ Some after
repeats language None inside tables answer after h = absurd h
repeats language (Some text) inside tables answer after h = told_same answer.text (done language tables answer.session inside text) after h.0 h.1

agrees : (language : Language) (script : Script) (inside : Bool) (tables : List Table) (answer : Answer) (after : List Table)
    → Agrees language script inside tables answer after → agreed language script inside tables answer ≡ Some after
agrees language script inside tables answer after h =
    (elim (is_given answer) as (λ b. MatchBool b (after ≡ tables) (Repeats language (text_at script answer.session answer.number) inside tables answer after)
    → (if b then Some tables else repeated language (text_at script answer.session answer.number) inside tables answer) ≡ Some after) [
      | true ↦ λ k. ap Some (sym k)
      | false ↦ λ k. repeats language (text_at script answer.session answer.number) inside tables answer after k
    ]) h

pub replays : (language : Language) (script : Script) (inside : Bool) (tables : List Table) (answers : List Answer) (after : List Table)
    → Replays language script inside tables answers after → replayed language script inside tables answers ≡ Some after
replays language script inside tables [] after h = ap Some (sym h)
replays language script inside tables (answer ∷ others) after h =
    let effect = effect_of language (text_at script answer.session answer.number) in
    ap (option_and_then (λ mid. replayed language script (inside || (is_begin effect && is_ok answer)) mid others)) (agrees language script inside tables answer h.0 h.1)
    ∙ replays language script (inside || (is_begin effect && is_ok answer)) h.0 others after h.2

becomes_is : (pending : Pending) (session : ℕ) (answers : List Answer) (left : Pending) → Becomes pending session answers left → left ≡ becoming pending session answers
becomes_is pending session answers left h = λ i k. h k i

abbrev EndsWith : Language → Script → List Table → Pending → Answer → List Table → Pending → Bool → Type 0
EndsWith language script tables pending answer after left b =
    let before = pending answer.session in
    let effect = effect_of language (text_at script answer.session answer.number) in
    let transaction = before ++ answer ∷ [] in
    MatchBool b
    ((replayed : List Table) × Replays language script false tables transaction replayed
    × (after ≡ (if keeps (is_inside before) effect answer then replayed else tables))
    × Becomes pending answer.session [] left)
    ((after ≡ tables) × Becomes pending answer.session transaction left)

abbrev effect_at : Language → Script → Answer → Effect
effect_at language script answer = effect_of language (text_at script answer.session answer.number)

abbrev transaction_of : Pending → Answer → List Answer
transaction_of pending answer = pending answer.session ++ answer ∷ []

abbrev keeps_now : Language → Script → Pending → Answer → Bool
keeps_now language script pending answer = keeps (is_inside (pending answer.session)) (effect_at language script answer) answer

abbrev ends_now : Language → Script → Pending → Answer → Bool
ends_now language script pending answer = ends (is_inside (pending answer.session)) (effect_at language script answer) answer

tables_further : (language : Language) (script : Script) (tables : List Table) (pending : Pending) (answer : Answer) (after : List Table) (left : Pending) (b : Bool)
    → EndsWith language script tables pending answer after left b
    → (if b then option_and_then (λ r. Some (if keeps_now language script pending answer then r else tables)) (replayed language script false tables (transaction_of pending answer)) else Some tables) ≡ Some after
tables_further language script tables pending answer after left true k =
    ap (option_and_then (λ r. Some (if keeps_now language script pending answer then r else tables))) (replays language script false tables (transaction_of pending answer) k.0 k.1)
    ∙ ap Some (sym k.2)
tables_further language script tables pending answer after left false k = ap Some (sym k.0)

pending_further : (language : Language) (script : Script) (tables : List Table) (pending : Pending) (answer : Answer) (after : List Table) (left : Pending) (b : Bool)
    → EndsWith language script tables pending answer after left b → left ≡ becoming pending answer.session (if b then [] else transaction_of pending answer)
pending_further language script tables pending answer after left true k = becomes_is pending answer.session [] left k.3
pending_further language script tables pending answer after left false k = becomes_is pending answer.session (transaction_of pending answer) left k.1

pub serial_computes : (language : Language) (script : Script) (before : List Table) (pending : Pending) (answers : List Answer) (after : List Table) (left : Pending)
    → EndsAll language script before pending answers after left → serial_from language script before pending answers ≡ Some after
serial_computes language script before pending [] after left h = ap Some (sym h.0)
serial_computes language script before pending (answer ∷ others) after left h =
    ap (option_and_then (λ mid. serial_from language script mid (pending_after language script pending answer) others))
    (tables_further language script before pending answer h.0 h.1 (ends_now language script pending answer) h.2)
    ∙ ap (λ p. serial_from language script h.0 p others) (sym (pending_further language script before pending answer h.0 h.1 (ends_now language script pending answer) h.2))
    ∙ serial_computes language script h.0 h.1 others after left h.3
