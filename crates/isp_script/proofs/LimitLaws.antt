-- The numbers of a script's sessions and the lengths of its texts.
use Rattle.std.proofs.Common.{◌≡◌, ℕ, ◌-◌, ◌≤◌, Bool, true, false, ◌&&◌, ◌||◌, ◌==◌, nat_lt, List, [], ◌∷◌, ◌++◌, refl, subst, arith, Option, Some, None, length, map, take, drop, slice_index, if◌then◌else◌, append_assoc, All}
use Rattle.std.specs.List.{cons_option}
use Rattle.std.specs.Str.{bytes_eq}
use Rattle.std.proofs.lemmas.Bool.Decides.{nat_tests}
use Rattle.std.proofs.lemmas.List.{length-take}
use Rattle.std.proofs.lemmas.List.Elements.{All-cons}
use Rattle.isp_serial.specs.declared.script.Script.{Script}
use Rattle.isp_serial.specs.declared.script.Session.{Session}
use Rattle.isp_serial.specs.Alone.{IsAlone}
use Rattle.isp_script.specs.Grammar.{said_in, sessions_said, script_said, AtMostOne, IsScript}
use Rattle.isp_script.specs.Laws.{IsShort, IsWithin, WithinLimits}
use Rattle.isp_script.specs.Lines.{line_of, lines_of, content_of, trimmed_length, without_return, word_of, session_of, setup_word, schedule_word, end_word, session_word}
use Rattle.isp_script.specs.declared.lines.Line.{Line}
use Rattle.isp_script.specs.declared.lines.Line.TheVariants as line

-- what a line says has a session's number from 1 to 16, or a text within a line
abbrev IsIn : Line → Type 0
IsIn (line.Session number) = (1 ≤ number) × (number ≤ 16)
IsIn (line.Statement text) = IsShort text
IsIn line.Setup = Unit {0}
IsIn line.Schedule = Unit {0}
IsIn line.End = Unit {0}
IsIn line.Other = Unit {0}

abbrev AnyIn : Option Line → Type 0
AnyIn None = Unit {0}
AnyIn (Some said) = IsIn said

chosen : (b : Bool) (x y : Line) → (b ≡ true → IsIn x) → IsIn y → IsIn (if b then x else y)
chosen true x y first second = first refl
chosen false x y first second = second

any_chosen : (b : Bool) (x y : Option Line) → (b ≡ false → AnyIn y) → AnyIn x → AnyIn (if b then x else y)
any_chosen true x y second first = first
any_chosen false x y second first = second refl

both : (a b : Bool) → (a && b) ≡ true → (a ≡ true) × (b ≡ true)
both true b is = (refl, is)
both false b is = cc

one_digit : (a : ℕ) → (nat_lt 48 a && nat_lt a 58) ≡ true → (1 ≤ a - 48) × (a - 48 ≤ 16)
one_digit a is =
    let (above, under) = both (nat_lt 48 a) (nat_lt a 58) is in
    (grind (arith, nat_tests), grind (arith, nat_tests))

two_digits : (a b : ℕ) → (a == 49 && (nat_lt 47 b && nat_lt b 55)) ≡ true → (1 ≤ b - 38) × (b - 38 ≤ 16)
two_digits a b is =
    let behind = (both (a == 49) (nat_lt 47 b && nat_lt b 55) is).1 in
    let (above, under) = both (nat_lt 47 b) (nat_lt b 55) behind in
    (grind (arith, nat_tests), grind (arith, nat_tests))

number_in : (digits : List ℕ) → IsIn (session_of digits)
number_in [] = tt
number_in (a ∷ []) = chosen (nat_lt 48 a && nat_lt a 58) (line.Session (a - 48)) line.Other (one_digit a) tt
number_in (a ∷ b ∷ []) = chosen (a == 49 && (nat_lt 47 b && nat_lt b 55)) (line.Session (b - 38)) line.Other (two_digits a b) tt
number_in (a ∷ b ∷ c ∷ others) = tt

word_in : (bytes : List ℕ) → IsIn (word_of bytes)
word_in bytes =
    chosen (bytes_eq bytes setup_word) line.Setup _ (λ _. tt)
    (chosen (bytes_eq bytes schedule_word) line.Schedule _ (λ _. tt)
    (chosen (bytes_eq bytes end_word) line.End _ (λ _. tt)
    (chosen (bytes_eq (take 8 bytes) session_word) (session_of (drop 8 bytes)) line.Other (λ _. number_in (drop 8 bytes)) tt)))

shorter : (n : ℕ) (bytes : List ℕ) → length bytes ≤ 65536 → length (take n bytes) ≤ 65536
shorter n bytes few = let is = length-take n bytes in omega arith

content_in : (bytes : List ℕ) → length bytes ≤ 65536 → AnyIn (content_of bytes)
content_in bytes few =
    any_chosen (trimmed_length bytes == 0 || slice_index bytes 0 == 35) None _
    (λ _. any_chosen (slice_index bytes (trimmed_length bytes - 1) == 59) (Some (line.Statement (take (trimmed_length bytes - 1) bytes))) (Some (word_of bytes))
    (λ _. word_in bytes) (shorter (trimmed_length bytes - 1) bytes few))
    tt

short_if : (b : Bool) (x y : List ℕ) → length x ≤ 65536 → length y ≤ 65536 → length (if b then x else y) ≤ 65536
short_if true x y first second = first
short_if false x y first second = second

at_most : (n m : ℕ) → nat_lt m n ≡ false → n ≤ m
at_most n m is = grind (arith, nat_tests)

without_return_short : (bytes : List ℕ) → length bytes ≤ 65536 → length (without_return bytes) ≤ 65536
without_return_short bytes few =
    short_if (slice_index bytes (length bytes - 1) == 13) (take (length bytes - 1) bytes) bytes (shorter (length bytes - 1) bytes few) few

line_in : (bytes : List ℕ) → AnyIn (line_of bytes)
line_in bytes =
    any_chosen (nat_lt 65536 (length bytes)) (Some line.Other) (content_of (without_return bytes))
    (λ few. content_in (without_return bytes) (without_return_short bytes (at_most (length bytes) 65536 few))) tt

abbrev AllIn : List Line → Type 0
AllIn [] = Unit {0}
AllIn (said ∷ others) = IsIn said × AllIn others

any_then : (o : Option Line) (others : List Line) → AnyIn o → AllIn others → AllIn (cons_option o others)
any_then None others first later = later
any_then (Some said) others first later = (first, later)

said_within : (lines : List (List ℕ)) → AllIn (said_in lines)
said_within [] = tt
said_within (bytes ∷ lines) = any_then (line_of bytes) (said_in lines) (line_in bytes) (said_within lines)

texts_within : (texts : List (List ℕ)) (others : List Line) → AllIn (map line.Statement texts ++ others) → All IsShort texts × AllIn others
texts_within [] others all = ((λ k d inside. absurd (omega arith)), all)
texts_within (t ∷ texts) others all =
    let (later, rest) = texts_within texts others all.1 in
    (All-cons IsShort t texts all.0 later, rest)

sessions_within : (sessions : List Session) (others : List Line) → AllIn (sessions_said sessions ++ others) → All IsWithin sessions
sessions_within [] others all = λ k d inside. absurd (omega arith)
sessions_within (s ∷ sessions) others all =
    let P : List Line → Type 0 = AllIn in
    let (texts, rest) = texts_within s.texts (sessions_said sessions ++ others) (subst P (append_assoc (map line.Statement s.texts) (sessions_said sessions) others) all.1) in
    All-cons IsWithin s sessions (record { least = all.0.0; most = all.0.1; texts = texts }) (sessions_within sessions others rest)

pub within_limits : WithinLimits
within_limits bytes script is =
    let P : List Line → Type 0 = AllIn in
    let all : AllIn (script_said script.setup script.sessions) = subst P is.lines.said (said_within (lines_of bytes)) in
    let (texts, rest) = texts_within script.setup (sessions_said script.sessions ++ line.Schedule ∷ line.End ∷ []) all.1 in
    record { setup = texts; sessions = sessions_within script.sessions (line.Schedule ∷ line.End ∷ []) rest }

alone : (sessions : List Session) → AtMostOne sessions → All IsWithin sessions → IsAlone sessions
alone [] one all = tt
alone (s ∷ []) one all = let least = (all 0 s (omega arith)).least in grind (arith, nat_tests)
alone (s ∷ t ∷ sessions) one all = absurd one

-- what is built of a script has at most one session, which is none of the setup
pub script_is_alone : (bytes : List ℕ) (script : Script) → IsScript bytes script → IsAlone script.sessions
script_is_alone bytes script is = alone script.sessions is.lines.built.one (within_limits bytes script is).sessions
