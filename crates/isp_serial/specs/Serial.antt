-- What the answers of a run promise: the transactions, done again one by one on plain tables in the order of their
-- ends, give the same answers and the final tables. No interleaving, page, lock or log is in these words.
use Rattle.std.specs.Prelude.{◌≡◌, ℕ, Bool, true, false, ◌||◌, ◌&&◌, ◌==◌, List, [], ◌∷◌, ◌++◌, if◌then◌else◌, MatchBool, Option, Some, None}
use Rattle.isp_serial.specs.declared.script.Place.{Place}
use Rattle.isp_serial.specs.declared.script.Place.TheVariants as place
use Rattle.isp_serial.specs.declared.script.Script.{Script}
use Rattle.isp_serial.specs.Answers.{Answer, Fits, is_end, is_full, is_deadlock}
use Rattle.isp_plain.specs.Does.{Outcome, does}
use Rattle.isp_serial.specs.Script.{text_at}
use Rattle.isp_plain.specs.Tables.{Table}
use Rattle.isp_plain.specs.Texts.{reply_text}
use Rattle.isp_serial.specs.Transactions.{Effect, Language, ends, keeps, is_begin, is_ok, stays}

-- where a statement of the session stands
abbrev pub place_at : ℕ → Bool → Place
place_at session inside = if session == 0 then place.Setup else if inside then place.InTransaction else place.Session

abbrev pub effect_of : Language → Option (List ℕ) → Effect
effect_of language (Some text) = language.effect text
effect_of language None = stays

-- END, a full file's answer and a deadlock's are taken as given: they change no table
abbrev pub is_given : Answer → Bool
is_given answer = is_end answer || is_full answer || is_deadlock answer

-- what the text does on the tables, where the session is inside a transaction or not
abbrev pub done : Language → List Table → ℕ → Bool → List ℕ → Outcome
done language tables session inside text = does tables (language.meaning tables (place_at session inside) text)

-- one answer done again: it says what the text does, and the tables become those; an answer to no text never agrees
abbrev pub Repeats : Language → Option (List ℕ) → Bool → List Table → Answer → List Table → Type 0
Repeats language (Some text) inside tables answer after =
    (answer.text ≡ reply_text (done language tables answer.session inside text).reply)
    × (after ≡ (done language tables answer.session inside text).tables)
Repeats language None inside tables answer after = ⊥

-- an answer of a transaction, done again on the tables
abbrev pub Agrees : Language → Script → Bool → List Table → Answer → List Table → Type 0
Agrees language script inside tables answer after =
    MatchBool (is_given answer) (after ≡ tables)
    (Repeats language (text_at script answer.session answer.number) inside tables answer after)

-- a transaction done again, alone, on plain tables: each printed answer comes out, and this is what it leaves
abbrev pub Replays : Language → Script → Bool → List Table → List Answer → List Table → Type 0
Replays language script inside tables [] after = after ≡ tables
Replays language script inside tables (answer ∷ others) after =
    let effect = effect_of language (text_at script answer.session answer.number)
    in (mid : List Table) × Agrees language script inside tables answer mid
    × Replays language script (inside || (is_begin effect && is_ok answer)) mid others after

-- a session is inside a transaction where it has answers that no end took
abbrev pub is_inside : List Answer → Bool
is_inside [] = false
is_inside (answer ∷ answers) = true

-- of each session the answers since its last end
abbrev pub Pending : Type 0
Pending = ℕ → List Answer

abbrev pub none_pending : Pending
none_pending session = []

-- this session's answers are these now, and every other session's stay
abbrev pub Becomes : Pending → ℕ → List Answer → Pending → Type 0
Becomes old session answers new = (k : ℕ) → new k ≡ (if k == session then answers else old k)

-- One answer further. An end takes the session's answers since its last one as a transaction, which agrees on the
-- present tables; where it commits, the tables become what it leaves. Any other answer waits for its end.
abbrev pub Ends : Language → Script → List Table → Pending → Answer → List Table → Pending → Type 0
Ends language script tables pending answer after left =
    let before = pending answer.session in
    let effect = effect_of language (text_at script answer.session answer.number) in
    let transaction = before ++ answer ∷ [] in
    MatchBool (ends (is_inside before) effect answer)
    ((replayed : List Table) × Replays language script false tables transaction replayed
    × (after ≡ (if keeps (is_inside before) effect answer then replayed else tables))
    × Becomes pending answer.session [] left)
    ((after ≡ tables) × Becomes pending answer.session transaction left)

-- all answers, in the order in which they were printed
abbrev pub EndsAll : Language → Script → List Table → Pending → List Answer → List Table → Pending → Type 0
EndsAll language script tables pending [] after left = (after ≡ tables) × (left ≡ pending)
EndsAll language script tables pending (answer ∷ others) after left =
    (mid : List Table) × (next : Pending) × Ends language script tables pending answer mid next
    × EndsAll language script mid next others after left

-- The answers are serial from the tables before to the tables after: they fit the script, every transaction agrees
-- at its end, and what is still open agrees on the final tables.
pub record Serial (language : Language) (script : Script) (before : List Table) (answers : List Answer) (after : List Table) : Type 0 where
  pub fits : Fits script answers
  pub pending : Pending
  pub ended : EndsAll language script before none_pending answers after pending
  pub still_open : (session : ℕ) → (replayed : List Table) × Replays language script false after (pending session) replayed
