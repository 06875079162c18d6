-- The answers that a run prints, and whether they fit the script: one for each statement, in its session's order.
use Rattle.std.specs.Prelude.{◌≡◌, ◌↔◌, ℕ, ◌+◌, ◌≤◌, Bool, true, ◌==◌, List, [], ◌∷◌, length, map, filter, All, if◌then◌else◌, Option, Some, None}
use Rattle.std.specs.Str.{bytes_eq}
use Rattle.isp_serial.specs.declared.script.Script.{Script}
use Rattle.isp_serial.specs.Script.{texts_of, answers_due}
use Rattle.isp_plain.specs.Texts.{end_text, full_text, deadlock_text}

-- an answer: the turn in which it came, its session, the number of the statement from 1, and its text
pub record Answer : Type 0 where
  pub turn : ℕ
  pub session : ℕ
  pub number : ℕ
  pub text : List ℕ

abbrev pub is_end : Answer → Bool
is_end answer = bytes_eq answer.text end_text

-- the answers of a full file
abbrev pub is_full : Answer → Bool
is_full answer = bytes_eq answer.text full_text

-- the answers of a deadlock's victim
abbrev pub is_deadlock : Answer → Bool
is_deadlock answer = bytes_eq answer.text deadlock_text

abbrev pub answers_of : ℕ → List Answer → List Answer
answers_of session answers = filter (λ a. a.session == session) answers

-- n, n + 1 and so on, as many as there are items
abbrev pub counted_from : {X : Type 0} → ℕ → List X → List ℕ
counted_from n [] = []
counted_from n (x ∷ xs) = n ∷ counted_from (n + 1) xs

-- the session's answers are numbered 1, 2, 3 and so on and are no more than it has statements and an end; END stands
-- exactly where the statements are over; and none is missing where the run went to its end
pub record FitsTexts (whole : Bool) (session : ℕ) (texts : List (List ℕ)) (answers : List Answer) : Type 0 where
  pub numbers : map (λ a. a.number) answers ≡ counted_from 1 answers
  pub most : length answers ≤ answers_due session texts
  pub ends : All (λ a. (is_end a ≡ true) ↔ (a.number ≡ length texts + 1)) answers
  pub all : whole ≡ true → length answers ≡ answers_due session texts

-- a session that the script doesn't have gives no answer
abbrev pub FitsSession : Bool → ℕ → Option (List (List ℕ)) → List Answer → Type 0
FitsSession whole session (Some texts) answers = FitsTexts whole session texts answers
FitsSession whole session None answers = answers ≡ []

-- each number is at least the one before it, and the first at least this
abbrev pub NeverFalls : ℕ → List ℕ → Type 0
NeverFalls least [] = Unit {0}
NeverFalls least (n ∷ numbers) = (least ≤ n) × NeverFalls n numbers

-- turns never fall, and each session's answers fit its texts. A script with `stop` may leave statements of its
-- sessions unanswered, and never one of its setup
pub record Fits (script : Script) (answers : List Answer) : Type 0 where
  pub turns : NeverFalls 0 (map (λ a. a.turn) answers)
  pub sessions : (session : ℕ) → FitsSession (if script.stop then session == 0 else true) session (texts_of script session) (answers_of session answers)
