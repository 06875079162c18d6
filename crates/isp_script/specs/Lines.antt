-- The lines of a script, and what each of them says.
use Rattle.std.specs.Prelude.{ℕ, ◌+◌, ◌-◌, Bool, ◌&&◌, ◌||◌, ◌==◌, nat_lt, List, [], ◌∷◌, length, take, drop, slice_index, if◌then◌else◌, codes, Option, Some, None}
use Rattle.std.specs.List.{onto_first}
use Rattle.std.specs.Str.{bytes_eq}
use Rattle.isp_script.specs.declared.lines.Line.{Line}
use Rattle.isp_script.specs.declared.lines.Line.TheVariants.{Setup, Statement, Session, Schedule, End, Other}

-- a line ends with a line feed; bytes behind the last one are a line of their own
abbrev pub lines_of : List ℕ → List (List ℕ)
lines_of [] = []
lines_of (b ∷ bytes) = if b == 10 then [] ∷ lines_of bytes else onto_first b (lines_of bytes)

-- a space or a tab
abbrev pub is_blank : ℕ → Bool
is_blank b = b == 32 || b == 9

-- a carriage return at the line's end does not count
abbrev pub without_return : List ℕ → List ℕ
without_return bytes = if slice_index bytes (length bytes - 1) == 13 then take (length bytes - 1) bytes else bytes

-- how long the line is without the blanks at its end
abbrev pub trimmed_length : List ℕ → ℕ
trimmed_length [] = 0
trimmed_length (b ∷ bytes) = if trimmed_length bytes == 0 && is_blank b then 0 else trimmed_length bytes + 1

-- the number of a session: 1 to 16, without a leading zero
abbrev pub session_of : List ℕ → Line
session_of [] = Other
session_of (a ∷ []) = if nat_lt 48 a && nat_lt a 58 then Session (a - 48) else Other
session_of (a ∷ b ∷ []) = if a == 49 && (nat_lt 47 b && nat_lt b 55) then Session (b - 38) else Other
session_of (a ∷ b ∷ c ∷ others) = Other

unfoldable pub setup_word : List ℕ
setup_word = codes "setup"

unfoldable pub schedule_word : List ℕ
schedule_word = codes "schedule"

unfoldable pub end_word : List ℕ
end_word = codes "end"

unfoldable pub session_word : List ℕ
session_word = codes "session "

-- a word that stands alone on its line
abbrev pub word_of : List ℕ → Line
word_of bytes =
    if bytes_eq bytes setup_word then Setup
    else if bytes_eq bytes schedule_word then Schedule
    else if bytes_eq bytes end_word then End
    else if bytes_eq (take 8 bytes) session_word then session_of (drop 8 bytes)
    else Other

-- A line of blanks alone, or that begins with #, says nothing. One whose last byte, blanks aside, is ; says a statement,
-- whose text stands before that.
abbrev pub content_of : List ℕ → Option Line
content_of bytes =
    if trimmed_length bytes == 0 || slice_index bytes 0 == 35 then None
    else if slice_index bytes (trimmed_length bytes - 1) == 59 then Some (Statement (take (trimmed_length bytes - 1) bytes))
    else Some (word_of bytes)

-- what the line says, which has at most 65,536 bytes
abbrev pub line_of : List ℕ → Option Line
line_of bytes = if nat_lt 65536 (length bytes) then Some Other else content_of (without_return bytes)
