-- The line at which reading stops is the first bad one.
use Rattle.std.proofs.Common.{◌≡◌, ◌∙◌, ℕ, zero, suc, ◌+◌, ◌≤◌, ◌<◌, Bool, true, false, nat_lt, ap, sym, subst, refl, List, [], ◌∷◌, ◌++◌, length, take, drop, arith, Option, Some, None, ok_or, option_and_then, Result, Ok, Err, IfOk, if◌then◌else◌, ◌⊎◌, inl, inr}
use Rattle.std.proofs.lemmas.Bool.Decides.{nat_tests}
use Rattle.std.proofs.lemmas.List.{take-append-drop, take_all, length-take}
use Rattle.isp_serial.specs.declared.script.Script.{Script}
use Rattle.isp_script.specs.BadLines.{Begins, IsFirstBad, IsBadLine}
use Rattle.isp_script.specs.Grammar.{IsScriptOfLines, IsScript}
use Rattle.isp_script.specs.Laws.{OneScript, OneBadLine, ScriptOrBadLine, NotBoth}
use Rattle.isp_script.specs.Lines.{line_of, lines_of}
use Rattle.isp_script.specs.Reading.{heard, script_read, or_bad, read_on, read_of}
use Rattle.isp_script.specs.Results.{IfBad, IsRead, IsTold, Tells}
use Rattle.isp_script.specs.declared.error.ScriptError.{ScriptError}
use Rattle.isp_script.specs.declared.error.ScriptError.TheVariants.{Bad, OutOfMemory}
use Rattle.isp_script.specs.declared.script.Reading.{Reading}
use Rattle.isp_script.specs.declared.script.Reading.TheVariants.{Nothing, InSetup, InSession, Scheduled, Ended}
use Rattle.isp_script.proofs.ReadingLaws.{leads, leads_on, script_with, ends, ended, completion, completed}

-- ---- where lines lead

-- lines that lead anywhere begin a script
leading_begins : (lines : List (List ℕ)) (reading : Reading) → leads Nothing lines ≡ Some reading → Begins lines
leading_begins lines reading is =
    let (setup, sessions, end) = completed reading in (
      completion reading,
      script_with setup sessions,
      ends (lines ++ completion reading) setup sessions
          (leads_on Nothing lines (completion reading) ∙ (ap (option_and_then (λ r. leads r (completion reading))) is ∙ end)),
    )

-- lines that lead nowhere begin none
failing_begins_none : (lines : List (List ℕ)) → leads Nothing lines ≡ None → Begins lines → ⊥
failing_begins_none lines fails (more, script, is) =
    let no : None ≡ Some (Ended script.setup script.sessions) =
    sym (leads_on Nothing lines more ∙ ap (option_and_then (λ r. leads r more)) fails) ∙ ended (lines ++ more) script is in
    cc

-- ---- where reading stops

record StopsAt (reading : Reading) (number : ℕ) (lines : List (List ℕ)) (line : ℕ) : Type 0 where
  pub count : ℕ
  pub place : line ≡ number + count
  pub before : (k : ℕ) → k ≤ count → (next : Reading) × (leads reading (take k lines) ≡ Some next)
  pub here :
      ((count < length lines) × (leads reading (take (suc count) lines) ≡ None))
      ⊎ ((count ≡ length lines) × (end : Reading) × (leads reading lines ≡ Some end) × (script_read end ≡ None))

stops_end : (reading : Reading) (number line : ℕ) (o : Option Script) → script_read reading ≡ o → ok_or o number ≡ Err line → StopsAt reading number [] line
stops_end reading number line (Some script) was is = cc
stops_end reading number line None was is = record {
  count = 0;
  place = (let same : number ≡ line = cc in omega arith);
  before = first;
  here = inr (refl, reading, refl, was);
}
  where
    first : (k : ℕ) → k ≤ 0 → (next : Reading) × (leads reading (take k []) ≡ Some next)
    first zero few = (reading, refl)
    first (suc k) few = absurd (omega arith)

stops_more : (reading : Reading) (number : ℕ) (bytes : List ℕ) (lines : List (List ℕ)) (line : ℕ) (o : Option Reading) → heard reading (line_of bytes) ≡ o →
    or_bad number (λ next. read_on next (number + 1) lines) o ≡ Err line → ((next : Reading) → read_on next (number + 1) lines ≡ Err line → StopsAt next (number + 1) lines line) →
    StopsAt reading number (bytes ∷ lines) line
stops_more reading number bytes lines line None was is later = record {
  count = 0;
  place = (let same : number ≡ line = cc in omega arith);
  before = first;
  here = inl (omega arith, ap (option_and_then (λ next. leads next (take 0 lines))) was);
}
  where
    first : (k : ℕ) → k ≤ 0 → (next : Reading) × (leads reading (take k (bytes ∷ lines)) ≡ Some next)
    first zero few = (reading, refl)
    first (suc k) few = absurd (omega arith)
stops_more reading number bytes lines line (Some next) was is later = further (later next is)
  where
    on : (some : List (List ℕ)) → leads reading (bytes ∷ some) ≡ leads next some
    on some = ap (option_and_then (λ r. leads r some)) was

    first : (count : ℕ) → ((k : ℕ) → k ≤ count → (end : Reading) × (leads next (take k lines) ≡ Some end)) → (k : ℕ) → k ≤ suc count →
        (end : Reading) × (leads reading (take k (bytes ∷ lines)) ≡ Some end)
    first count before zero few = (reading, refl)
    first count before (suc k) few = let (end, is) = before k (omega arith) in (end, on (take k lines) ∙ is)

    further : StopsAt next (number + 1) lines line → StopsAt reading number (bytes ∷ lines) line
    further stop = record {
      count = suc stop.count;
      place = (let is = stop.place in omega arith);
      before = first stop.count stop.before;
      here = behind stop.here;
    }
      where
        behind :
            ((stop.count < length lines) × (leads next (take (suc stop.count) lines) ≡ None))
            ⊎ ((stop.count ≡ length lines) × (end : Reading) × (leads next lines ≡ Some end) × (script_read end ≡ None)) →
            ((suc stop.count < length (bytes ∷ lines)) × (leads reading (take (suc (suc stop.count)) (bytes ∷ lines)) ≡ None))
            ⊎ ((suc stop.count ≡ length (bytes ∷ lines)) × (end : Reading) × (leads reading (bytes ∷ lines) ≡ Some end) × (script_read end ≡ None))
        behind (inl (within, fails)) = inl (omega arith, on (take (suc stop.count) lines) ∙ fails)
        behind (inr (all, end, led, none)) = inr (ap suc all, end, on lines ∙ led, none)

stops : (reading : Reading) (number : ℕ) (lines : List (List ℕ)) (line : ℕ) → read_on reading number lines ≡ Err line → StopsAt reading number lines line
stops reading number [] line is = stops_end reading number line (script_read reading) refl is
stops reading number (bytes ∷ lines) line is =
    stops_more reading number bytes lines line (heard reading (line_of bytes)) refl is (λ next. stops next (number + 1) lines line)

stop_is_first : (lines : List (List ℕ)) (line : ℕ) → StopsAt Nothing 1 lines line → IsFirstBad lines line
stop_is_first lines line stop = record { before = before; here = here stop.here }
  where
    before : (n : ℕ) → n < line → Begins (take n lines)
    before n below = let is = stop.place in let (next, led) = stop.before n (omega arith) in leading_begins (take n lines) next led

    next_line : suc stop.count ≡ line
    next_line = let is = stop.place in omega arith

    none_of : (end : Reading) → leads Nothing lines ≡ Some end → script_read end ≡ None → (script : Script) → IsScriptOfLines lines script → ⊥
    none_of end led none script is =
        let same : Some end ≡ Some (Ended script.setup script.sessions) = sym led ∙ ended lines script is in
        let that : end ≡ Ended script.setup script.sessions = cc in
        let no : None ≡ Some (script_with script.setup script.sessions) = sym none ∙ ap script_read that in
        cc

    here :
        ((stop.count < length lines) × (leads Nothing (take (suc stop.count) lines) ≡ None))
        ⊎ ((stop.count ≡ length lines) × (end : Reading) × (leads Nothing lines ≡ Some end) × (script_read end ≡ None)) →
        ((line ≤ length lines) × (Begins (take line lines) → ⊥))
        ⊎ ((line ≡ length lines + 1) × ((script : Script) → IsScriptOfLines lines script → ⊥))
    here (inl (within, fails)) =
        let is = next_line in
        inl (omega arith, failing_begins_none (take line lines) (ap (λ n. leads Nothing (take n lines)) (sym next_line) ∙ fails))
    here (inr (all, end, led, none)) = let is = next_line in inr (omega arith, none_of end led none)

-- ---- where reading finds a script

abbrev Finds : Reading → List (List ℕ) → Script → Type 0
Finds reading lines script = (end : Reading) × (leads reading lines ≡ Some end) × (script_read end ≡ Some script)

finds_end : (reading : Reading) (number : ℕ) (script : Script) (o : Option Script) → script_read reading ≡ o → ok_or o number ≡ Ok script → Finds reading [] script
finds_end reading number script None was is = cc
finds_end reading number script (Some found) was is =
    let same : found ≡ script = cc in (reading, refl, was ∙ ap Some same)

finds_more : (reading : Reading) (number : ℕ) (bytes : List ℕ) (lines : List (List ℕ)) (script : Script) (o : Option Reading) → heard reading (line_of bytes) ≡ o →
    or_bad number (λ next. read_on next (number + 1) lines) o ≡ Ok script → ((next : Reading) → read_on next (number + 1) lines ≡ Ok script → Finds next lines script) →
    Finds reading (bytes ∷ lines) script
finds_more reading number bytes lines script None was is later = cc
finds_more reading number bytes lines script (Some next) was is later =
    let (end, led, found) = later next is in (end, ap (option_and_then (λ r. leads r lines)) was ∙ led, found)

finds : (reading : Reading) (number : ℕ) (lines : List (List ℕ)) (script : Script) → read_on reading number lines ≡ Ok script → Finds reading lines script
finds reading number [] script is = finds_end reading number script (script_read reading) refl is
finds reading number (bytes ∷ lines) script is =
    finds_more reading number bytes lines script (heard reading (line_of bytes)) refl is (λ next. finds next (number + 1) lines script)

found_is : (lines : List (List ℕ)) (script : Script) (end : Reading) → leads Nothing lines ≡ Some end → script_read end ≡ Some script → IsScriptOfLines lines script
found_is lines script Nothing led found = cc
found_is lines script (InSetup setup) led found = cc
found_is lines script (InSession setup number texts) led found = cc
found_is lines script (Scheduled setup sessions) led found = cc
found_is lines script (Ended setup sessions) led found =
    let same : script_with setup sessions ≡ script = cc in
    let P : Script → Type 0 = IsScriptOfLines lines in subst P same (ends lines setup sessions led)

-- ---- bytes

at_most : (n m : ℕ) → nat_lt m n ≡ false → n ≤ m
at_most n m is = grind (arith, nat_tests)

too_many : (n m : ℕ) → nat_lt m n ≡ true → m < n
too_many n m is = grind (arith, nat_tests)

read_sound_by : (bytes : List ℕ) (script : Script) (b : Bool) → nat_lt 16777216 (length bytes) ≡ b →
    (let made : Result Script ℕ = if b then Err 0 else read_on Nothing 1 (lines_of bytes) in made) ≡ Ok script → IsScript bytes script
read_sound_by bytes script true long is = cc
read_sound_by bytes script false long is =
    let (end, led, found) = finds Nothing 1 (lines_of bytes) script is in
    record { most = at_most (length bytes) 16777216 long; lines = found_is (lines_of bytes) script end led found }

read_sound : (bytes : List ℕ) (script : Script) → read_of bytes ≡ Ok script → IsScript bytes script
unfolding read_of
read_sound bytes script is = read_sound_by bytes script (nat_lt 16777216 (length bytes)) refl is

read_bad_by : (bytes : List ℕ) (line : ℕ) (b : Bool) → nat_lt 16777216 (length bytes) ≡ b →
    (let made : Result Script ℕ = if b then Err 0 else read_on Nothing 1 (lines_of bytes) in made) ≡ Err line → IsBadLine bytes line
read_bad_by bytes line true long is =
    let past = too_many (length bytes) 16777216 long in
    let none : 0 ≡ line = cc in
    record { too_long = λ more. sym none; first = λ few. absurd (omega arith) }
read_bad_by bytes line false long is =
    let few = at_most (length bytes) 16777216 long in
    record { too_long = λ more. absurd (omega arith); first = λ within. stop_is_first (lines_of bytes) line (stops Nothing 1 (lines_of bytes) line is) }

read_bad : (bytes : List ℕ) (line : ℕ) → read_of bytes ≡ Err line → IsBadLine bytes line
unfolding read_of
read_bad bytes line is = read_bad_by bytes line (nat_lt 16777216 (length bytes)) refl is

-- ---- the laws

as_read : (s : Script) → s.words ≡ [] → s.stop ≡ false → s ≡ script_with s.setup s.sessions
as_read s words stop =
    ap (λ ws. let made : Script = record { setup = s.setup; sessions = s.sessions; words = ws; stop = s.stop } in made) words
    ∙ ap (λ b. let made : Script = record { setup = s.setup; sessions = s.sessions; words = []; stop = b } in made) stop

same_script : (one other : Script) → Some (Ended one.setup one.sessions) ≡ Some (Ended other.setup other.sessions) → one.words ≡ [] → one.stop ≡ false → other.words ≡ [] → other.stop ≡ false → one ≡ other
same_script one other is w s v t =
    let setups : one.setup ≡ other.setup = cc in
    let sessions : one.sessions ≡ other.sessions = cc in
    as_read one w s ∙ (ap (λ ts. script_with ts one.sessions) setups ∙ (ap (script_with other.setup) sessions ∙ sym (as_read other v t)))

pub one_script : OneScript
one_script bytes one other is also =
    same_script one other (sym (ended (lines_of bytes) one is.lines) ∙ ended (lines_of bytes) other also.lines)
    is.lines.built.no_words is.lines.built.no_stop also.lines.built.no_words also.lines.built.no_stop

script_not_bad : (lines : List (List ℕ)) (script : Script) (line : ℕ) → IsScriptOfLines lines script →
    ((line ≤ length lines) × (Begins (take line lines) → ⊥)) ⊎ ((line ≡ length lines + 1) × ((s : Script) → IsScriptOfLines lines s → ⊥)) → ⊥
script_not_bad lines script line is (inl (within, none)) =
    let P : List (List ℕ) → Type 0 = λ all. IsScriptOfLines all script in
    none (drop line lines, script, subst P (sym (take-append-drop line lines)) is)
script_not_bad lines script line is (inr (past, none)) = none script is

pub not_both : NotBoth
not_both bytes script line is bad = script_not_bad (lines_of bytes) script line is.lines (bad.first is.most).here

not_less : (lines : List (List ℕ)) (one other : ℕ) →
    ((one ≤ length lines) × (Begins (take one lines) → ⊥)) ⊎ ((one ≡ length lines + 1) × ((s : Script) → IsScriptOfLines lines s → ⊥)) →
    ((other ≤ length lines) × (Begins (take other lines) → ⊥)) ⊎ ((other ≡ length lines + 1) × ((s : Script) → IsScriptOfLines lines s → ⊥)) →
    ((n : ℕ) → n < other → Begins (take n lines)) → one < other → ⊥
not_less lines one other (inl (within, none)) there before less = none (before one less)
not_less lines one other (inr (past, none)) (inl (within, fails)) before less = omega arith
not_less lines one other (inr (past, none)) (inr (also, fails)) before less = omega arith

at_least : (n m : ℕ) (b : Bool) → nat_lt n m ≡ b → (n < m → ⊥) → m ≤ n
at_least n m true is refused = absurd (refused (too_many m n is))
at_least n m false is refused = at_most m n is

same_first : (lines : List (List ℕ)) (one other : ℕ) → IsFirstBad lines one → IsFirstBad lines other → one ≡ other
same_first lines one other is also =
    let low = at_least one other (nat_lt one other) refl (not_less lines one other is.here also.here also.before) in
    let high = at_least other one (nat_lt other one) refl (not_less lines other one also.here is.here is.before) in
    omega arith

one_bad_by : (bytes : List ℕ) (one other : ℕ) (b : Bool) → nat_lt 16777216 (length bytes) ≡ b → IsBadLine bytes one → IsBadLine bytes other → one ≡ other
one_bad_by bytes one other true long is also =
    let past = too_many (length bytes) 16777216 long in is.too_long past ∙ sym (also.too_long past)
one_bad_by bytes one other false long is also =
    let few = at_most (length bytes) 16777216 long in same_first (lines_of bytes) one other (is.first few) (also.first few)

pub one_bad_line : OneBadLine
one_bad_line bytes one other is also = one_bad_by bytes one other (nat_lt 16777216 (length bytes)) refl is also

either_by : (bytes : List ℕ) (read : Result Script ℕ) → read_of bytes ≡ read → ((script : Script) × IsScript bytes script) ⊎ ((line : ℕ) × IsBadLine bytes line)
either_by bytes (Ok script) is = inl (script, read_sound bytes script is)
either_by bytes (Err line) is = inr (line, read_bad bytes line is)

pub script_or_bad_line : ScriptOrBadLine
script_or_bad_line bytes = either_by bytes (read_of bytes) refl

-- ---- what is answered

pub found_by : (result : Result Script ScriptError) (bytes : List ℕ) → Tells result (read_of bytes) → IfOk result (λ script. IsScript bytes script)
found_by (Ok script) bytes is = read_sound bytes script is
found_by (Err (Bad line)) bytes is = tt
found_by (Err OutOfMemory) bytes is = tt

pub bad_by : (result : Result Script ScriptError) (bytes : List ℕ) → Tells result (read_of bytes) → IfBad result (λ line. IsBadLine bytes line)
bad_by (Ok script) bytes is = tt
bad_by (Err (Bad line)) bytes is = read_bad bytes line is
bad_by (Err OutOfMemory) bytes is = tt

pub only_by : (result : Result Script ScriptError) (bytes : List ℕ) → Tells result (read_of bytes) → (script : Script) → IsScript bytes script → IsRead result script
only_by (Ok read) bytes is script holds = one_script bytes read script (read_sound bytes read is) holds
only_by (Err (Bad line)) bytes is script holds = not_both bytes script line holds (read_bad bytes line is)
only_by (Err OutOfMemory) bytes is script holds = tt

pub told_by : (result : Result Script ScriptError) (bytes : List ℕ) → Tells result (read_of bytes) → (line : ℕ) → IsBadLine bytes line → IsTold result line
told_by (Ok read) bytes is line bad = not_both bytes read line (read_sound bytes read is) bad
told_by (Err (Bad told)) bytes is line bad = one_bad_line bytes told line (read_bad bytes told is) bad
told_by (Err OutOfMemory) bytes is line bad = tt

-- ---- bytes of which no more are read than one more than a script has

pub script_of_front : (bytes : List ℕ) (script : Script) → IsScript (take 16777217 bytes) script → IsScript bytes script
script_of_front bytes script is =
    let cut = length-take 16777217 bytes in
    let most = is.most in
    let P : List ℕ → Type 0 = λ all. IsScript all script in subst P (take_all 16777217 bytes (omega arith)) is

bad_line_of_front_by : (bytes : List ℕ) (line : ℕ) (b : Bool) → nat_lt 16777216 (length bytes) ≡ b → IsBadLine (take 16777217 bytes) line → IsBadLine bytes line
bad_line_of_front_by bytes line true long is =
    let past = too_many (length bytes) 16777216 long in
    let cut = length-take 16777217 bytes in
    record { too_long = λ more. is.too_long (omega arith); first = λ few. absurd (omega arith) }
bad_line_of_front_by bytes line false long is =
    let few = at_most (length bytes) 16777216 long in
    let P : List ℕ → Type 0 = λ all. IsBadLine all line in subst P (take_all 16777217 bytes (omega arith)) is

pub bad_line_of_front : (bytes : List ℕ) (line : ℕ) → IsBadLine (take 16777217 bytes) line → IsBadLine bytes line
bad_line_of_front bytes line is = bad_line_of_front_by bytes line (nat_lt 16777216 (length bytes)) refl is
