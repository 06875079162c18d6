-- How a refusal is told. The numbers and states up to 1406 are those of the MySQL 8.0 manual; the numbers from 9001 on,
-- and all words but a deadlock's, are this project's own.
use Rattle.std.specs.Prelude.{ℕ, ℤ, pos, Bool, true, false, List, [], ◌∷◌, ◌++◌, codes, Option, Some, None}
use Rattle.std.specs.Fmt.{decimal, signed_decimal}
use Rattle.isp_wkt.specs.declared.cause.WktCause.{WktCause}
use Rattle.isp_wkt.specs.declared.cause.WktCause.TheVariants as cause
use Rattle.isp_plain.specs.declared.refusal.Refusal.{Refusal}
use Rattle.isp_plain.specs.declared.refusal.Refusal.TheVariants.{TableExists, UnknownColumn, DuplicateKey, Syntax, FileFull, ColumnCount, NoSuchTable, Deadlock, OutOfRange, TooLong, Geometry, NotAllowedHere, RowTooLarge, OutOfLimits, WrongType, AlreadyBegun, KeyCannotBeSet}

-- the number of a fault in a geometry's text
abbrev pub cause_number : WktCause → ℕ
cause_number cause.NotWhole = 9001
cause_number cause.OutOfRange = 9002
cause_number cause.Unclosed = 9003
cause_number cause.TooFew = 9004
cause_number cause.Empty = 9005
cause_number cause.Unknown = 9006
cause_number cause.Trailing = 9007
cause_number cause.Truncated = 9008
cause_number cause.TooDeep = 9009

abbrev pub number : Refusal → ℕ
number TableExists = 1050
number UnknownColumn = 1054
number (DuplicateKey key) = 1062
number Syntax = 1064
number FileFull = 1114
number ColumnCount = 1136
number NoSuchTable = 1146
number Deadlock = 1213
number OutOfRange = 1264
number TooLong = 1406
number (Geometry cause at) = cause_number cause
number NotAllowedHere = 9010
number RowTooLarge = 9011
number OutOfLimits = 9013
number WrongType = 9014
number AlreadyBegun = 9015
number KeyCannotBeSet = 9016

unfoldable pub state : Refusal → List ℕ
state TableExists = codes "42S01"
state UnknownColumn = codes "42S22"
state (DuplicateKey key) = codes "23000"
state Syntax = codes "42000"
state ColumnCount = codes "21S01"
state NoSuchTable = codes "42S02"
state Deadlock = codes "40001"
state OutOfRange = codes "22003"
state TooLong = codes "22001"
state _ = codes "HY000"

-- the words of a fault in a geometry's text, with the space before its place
unfoldable pub cause_words : WktCause → List ℕ
cause_words cause.NotWhole = codes "coordinate not whole at "
cause_words cause.OutOfRange = codes "coordinate out of range at "
cause_words cause.Unclosed = codes "ring not closed at "
cause_words cause.TooFew = codes "too few points at "
cause_words cause.Empty = codes "empty geometry at "
cause_words cause.Unknown = codes "unknown text at "
cause_words cause.Trailing = codes "trailing text at "
cause_words cause.Truncated = codes "truncated text at "
cause_words cause.TooDeep = codes "nested too deep at "

-- the words, with the space before a key or a place that is shown
unfoldable pub words : Refusal → List ℕ
words TableExists = codes "table exists"
words UnknownColumn = codes "unknown column"
words (DuplicateKey key) = codes "duplicate key "
words Syntax = codes "syntax"
words FileFull = codes "file is full"
words ColumnCount = codes "column count"
words NoSuchTable = codes "no such table"
words Deadlock = codes "Deadlock found when trying to get lock; try restarting transaction"
words OutOfRange = codes "out of range"
words TooLong = codes "too long"
words (Geometry cause at) = cause_words cause
words NotAllowedHere = codes "not allowed here"
words RowTooLarge = codes "row too large"
words OutOfLimits = codes "definition out of limits"
words WrongType = codes "wrong type"
words AlreadyBegun = codes "transaction already begun"
words KeyCannotBeSet = codes "key cannot be set"

-- the key, or the place in a geometry's text, that is shown behind the words
abbrev pub shown : Refusal → Option ℤ
shown (DuplicateKey key) = Some key
shown (Geometry cause at) = Some (pos at)
shown _ = None

abbrev pub shown_text : Option ℤ → List ℕ
shown_text (Some number) = signed_decimal number
shown_text None = []

-- the words and what is shown behind them
abbrev pub told_text : Refusal → List ℕ
told_text refusal = words refusal ++ shown_text (shown refusal)

-- the text `ERR number state words`, with the key or place behind the words
abbrev pub refusal_text : Refusal → List ℕ
refusal_text refusal = codes "ERR " ++ (decimal (number refusal) ++ 32 ∷ (state refusal ++ 32 ∷ told_text refusal))

-- a refusal that tables in memory may give: there is no file to be full, and no lock
abbrev pub is_own : Refusal → Bool
is_own FileFull = false
is_own Deadlock = false
is_own _ = true
