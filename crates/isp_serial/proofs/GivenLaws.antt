-- No reply's text but a refusal's is taken for END, a full file or a deadlock.
use Rattle.std.proofs.Common.{◌≡◌, ℕ, Bool, true, false, List, ◌∷◌, ◌++◌, length, refl}
use Rattle.std.specs.Fmt.{digits}
use Rattle.std.specs.List.{flat_map}
use Rattle.std.specs.Str.{bytes_eq}
use Rattle.isp_wkt.specs.declared.cause.WktCause.{WktCause}
use Rattle.isp_wkt.specs.declared.cause.WktCause.TheVariants as cause
use Rattle.isp_plain.specs.declared.refusal.Refusal.{Refusal}
use Rattle.isp_plain.specs.declared.refusal.Refusal.TheVariants.{TableExists, UnknownColumn, DuplicateKey, Syntax, FileFull, ColumnCount, NoSuchTable, Deadlock, OutOfRange, TooLong, Geometry, NotAllowedHere, RowTooLarge, OutOfLimits, WrongType, AlreadyBegun, KeyCannotBeSet}
use Rattle.isp_plain.specs.declared.statement.Reply.{Reply}
use Rattle.isp_plain.specs.declared.statement.Reply.TheVariants as reply
use Rattle.isp_plain.specs.Refusals.{state, words, cause_words, refusal_text, is_own}
use Rattle.isp_plain.specs.Texts.{ok_text, end_text, full_text, deadlock_text, count_text, row_text, reply_text}
use Rattle.isp_plain.proofs.DoesLaws.{IsOwn}
use Rattle.isp_serial.specs.Alone.{answer_with}
use Rattle.isp_serial.specs.Answers.{is_deadlock, is_end, is_full}
use Rattle.isp_serial.specs.Serial.{is_given}

abbrev is_taken : ℕ → ℕ → List ℕ → Bool
is_taken session number text = is_given (answer_with session number text)

fixed_own : (session number : ℕ) → is_taken session number ok_text ≡ false
unfolding ok_text end_text full_text deadlock_text
fixed_own session number = refl

counted_own : (session number n : ℕ) (more : List ℕ) → is_taken session number (count_text n ++ more) ≡ false
unfolding end_text full_text deadlock_text
counted_own session number n more = refl

count_own : (session number n : ℕ) → is_taken session number (count_text n) ≡ false
unfolding end_text full_text deadlock_text
count_own session number n = refl

-- the numbers of refusals differ, so their texts do before what is shown
fault_own : (session number : ℕ) (cause : WktCause) (at : ℕ) → is_taken session number (refusal_text (Geometry cause at)) ≡ false
unfolding end_text full_text deadlock_text state words cause_words digits
fault_own session number cause.NotWhole at = refl
fault_own session number cause.OutOfRange at = refl
fault_own session number cause.Unclosed at = refl
fault_own session number cause.TooFew at = refl
fault_own session number cause.Empty at = refl
fault_own session number cause.Unknown at = refl
fault_own session number cause.Trailing at = refl
fault_own session number cause.Truncated at = refl
fault_own session number cause.TooDeep at = refl

refusal_own : (session number : ℕ) (refusal : Refusal) → is_own refusal ≡ true → is_taken session number (refusal_text refusal) ≡ false
unfolding end_text full_text deadlock_text state words digits
refusal_own session number TableExists own = refl
refusal_own session number UnknownColumn own = refl
refusal_own session number Syntax own = refl
refusal_own session number ColumnCount own = refl
refusal_own session number NoSuchTable own = refl
refusal_own session number OutOfRange own = refl
refusal_own session number TooLong own = refl
refusal_own session number NotAllowedHere own = refl
refusal_own session number RowTooLarge own = refl
refusal_own session number OutOfLimits own = refl
refusal_own session number WrongType own = refl
refusal_own session number AlreadyBegun own = refl
refusal_own session number KeyCannotBeSet own = refl
refusal_own session number (DuplicateKey key) own = refl
refusal_own session number (Geometry cause at) own = fault_own session number cause at
refusal_own session number FileFull own = cc
refusal_own session number Deadlock own = cc

pub own_not_given : (session number : ℕ) (r : Reply) → IsOwn r → is_given (answer_with session number (reply_text r)) ≡ false
own_not_given session number reply.Ok own = fixed_own session number
own_not_given session number (reply.Count n) own = count_own session number n
own_not_given session number (reply.Rows rows) own = counted_own session number (length rows) (flat_map (λ row. 32 ∷ row_text row) rows)
own_not_given session number (reply.Err refusal) own = refusal_own session number refusal own
own_not_given session number reply.End own = absurd own

-- a full file's answer is no other given one, and says no OK
pub full_says : (session number : ℕ) →
    (is_end (answer_with session number full_text) ≡ false) × (is_full (answer_with session number full_text) ≡ true)
    × (is_deadlock (answer_with session number full_text) ≡ false) × (bytes_eq full_text ok_text ≡ false)
unfolding ok_text end_text full_text deadlock_text state words digits
full_says session number = (refl, refl, refl, refl)
