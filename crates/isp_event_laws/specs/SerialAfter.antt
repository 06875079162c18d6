-- Whether answers are serial, by computation: transactions are done again at their ends, one after another, as the words on serial
-- answers have it, and the tables at the end come out, or nothing where a transaction doesn't agree.
use Rattle.std.specs.Prelude.{ℕ, ◌==◌, ◌||◌, ◌&&◌, Bool, false, cond, List, [], ◌∷◌, ◌++◌, Option, Some, None, if◌then◌else◌}
use Rattle.std.specs.Option.{option_and_then}
use Rattle.std.specs.Str.{bytes_eq}
use Rattle.isp_plain.specs.Does.{Outcome}
use Rattle.isp_plain.specs.Tables.{Table}
use Rattle.isp_plain.specs.Texts.{reply_text}
use Rattle.isp_serial.specs.declared.script.Script.{Script}
use Rattle.isp_serial.specs.Answers.{Answer}
use Rattle.isp_serial.specs.Script.{text_at}
use Rattle.isp_serial.specs.Serial.{Pending, done, effect_of, is_given, is_inside}
use Rattle.isp_serial.specs.Transactions.{Language, ends, is_begin, is_ok, keeps}

-- what the statement leaves, where its reply is what was answered
abbrev pub if_told : List ℕ → Outcome → Option (List Table)
if_told text outcome = cond (bytes_eq text (reply_text outcome.reply)) (Some outcome.tables) None

abbrev pub repeated : Language → Option (List ℕ) → Bool → List Table → Answer → Option (List Table)
repeated language None inside tables answer = None
repeated language (Some text) inside tables answer = if_told answer.text (done language tables answer.session inside text)

-- an answer done again
abbrev pub agreed : Language → Script → Bool → List Table → Answer → Option (List Table)
agreed language script inside tables answer =
    if is_given answer then Some tables else repeated language (text_at script answer.session answer.number) inside tables answer

-- a transaction done again
abbrev pub replayed : Language → Script → Bool → List Table → List Answer → Option (List Table)
replayed language script inside tables [] = Some tables
replayed language script inside tables (answer ∷ others) =
    let effect = effect_of language (text_at script answer.session answer.number) in
    option_and_then (λ mid. replayed language script (inside || (is_begin effect && is_ok answer)) mid others) (agreed language script inside tables answer)

-- this session's answers since its last end are these now
abbrev pub becoming : Pending → ℕ → List Answer → Pending
becoming pending session answers k = if k == session then answers else pending k

abbrev pub after_one : Language → Script → List Table → Pending → Answer → Option (List Table)
after_one language script tables pending answer =
    let before = pending answer.session in
    let effect = effect_of language (text_at script answer.session answer.number) in
    if ends (is_inside before) effect answer
    then option_and_then (λ replayed. Some (if keeps (is_inside before) effect answer then replayed else tables)) (replayed language script false tables (before ++ answer ∷ []))
    else Some tables

abbrev pub pending_after : Language → Script → Pending → Answer → Pending
pending_after language script pending answer =
    let before = pending answer.session in
    let effect = effect_of language (text_at script answer.session answer.number) in
    becoming pending answer.session (if ends (is_inside before) effect answer then [] else before ++ answer ∷ [])

-- all answers in their order, from these tables
abbrev pub serial_from : Language → Script → List Table → Pending → List Answer → Option (List Table)
serial_from language script tables pending [] = Some tables
serial_from language script tables pending (answer ∷ others) =
    option_and_then (λ mid. serial_from language script mid (pending_after language script pending answer) others) (after_one language script tables pending answer)
