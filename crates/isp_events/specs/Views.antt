-- The tables that are committed, and those that a session sees, as plain tables. A key that some transaction has written has, for
-- all others, the row that stood there before it (the read of committed rows through undo logs, as the MySQL 8.0 manual has
-- InnoDB's multi-versioning; here it is a definition, which no event computes).
use Rattle.std.specs.Prelude.{ℕ, suc, ℤ, ◌==◌, ◌&&◌, Bool, cond, is_some, List, [], ◌∷◌, drop, length, filter_map, find, Option, Some, None}
use Rattle.std.specs.Option.{option_map, option_or}
use Rattle.std.specs.Ordering.{int_eq}
use Rattle.isp_plain.specs.declared.value.Row.{Row}
use Rattle.isp_plain.specs.Tables.{Table}
use Rattle.isp_events.specs.Stored.{StoredTable, Version, present, row_of, row_with_key, rows_of, table_at}
use Rattle.isp_events.specs.Sessions.{Image, was_absent, was_there, was_marked, UndoEntry, SessionState, Work, session_at}
use Rattle.isp_events.specs.State.{State}

-- ---- what undo lists say of a key

abbrev pub is_of_key : ℕ → ℤ → UndoEntry → Bool
is_of_key table key entry = (entry.table == table) && int_eq entry.key key

-- the image of the oldest entry that names the key
abbrev pub first_image : List UndoEntry → ℕ → ℤ → Option Image
first_image undo table key = option_map (λ entry. entry.image) (find (is_of_key table key) undo)

-- the same of the undo lists of all sessions, of which one at the most names the key
abbrev pub first_image_of_all : List SessionState → ℕ → ℤ → Option Image
first_image_of_all [] table key = None
first_image_of_all (session ∷ sessions) table key = option_or (first_image session.undo table key) (first_image_of_all sessions table key)

-- a key that was absent or marked has no row
abbrev pub version_in : Image → Option Version
version_in was_absent = None
version_in (was_there version) = Some version
version_in (was_marked version) = None

-- the row in the image, or else this one
abbrev pub version_or : Option Image → Option Version → Option Version
version_or (Some image) other = version_in image
version_or None other = other

-- ---- the row at a key

-- as it is committed
abbrev pub committed_at : State → ℕ → ℤ → Option Version
committed_at state table key = version_or (first_image_of_all state.sessions table key) (present (table_at state.tables table) key)

abbrev pub committed_row : State → ℕ → ℤ → Option Row
committed_row state table key = row_of (committed_at state table key)

-- the session has written the key
abbrev pub has_written : SessionState → ℕ → ℤ → Bool
has_written session table key = is_some (find (is_of_key table key) session.undo)

-- as the session sees it: what it has written itself, and else what is committed
abbrev pub view_at : State → ℕ → ℕ → ℤ → Option Row
view_at state s table key =
    cond (has_written (session_at state.sessions s) table key) (row_of (present (table_at state.tables table) key)) (committed_row state table key)

-- how long its undo list was as its statement began; without a statement, how long it is
abbrev pub length_at_beginning : SessionState → Option Work → ℕ
length_at_beginning session (Some work) = work.begun
length_at_beginning session None = length session.undo

-- the undo entries of its statement
abbrev pub statement_undo : SessionState → List UndoEntry
statement_undo session = drop (length_at_beginning session session.work) session.undo

abbrev pub row_or : Option Image → Option Row → Option Row
row_or (Some image) other = row_of (version_in image)
row_or None other = other

-- as the session saw it as its statement began
abbrev pub view_at_beginning : State → ℕ → ℕ → ℤ → Option Row
view_at_beginning state s table key =
    row_or (first_image (statement_undo (session_at state.sessions s)) table key) (view_at state s table key)

-- ---- whole tables

-- the rows at the keys that are kept, as the function has them, which takes a table's number and a key
abbrev pub seen_rows : (ℤ → Option Row) → StoredTable → List (ℤ × Row)
seen_rows row table = filter_map (λ e. row_with_key e.0 (row e.0)) (rows_of table)

abbrev pub seen_from : ℕ → (ℕ → ℤ → Option Row) → List StoredTable → List Table
seen_from k row [] = []
seen_from k row (table ∷ tables) =
    record { name = table.name; schema = table.schema; rows = seen_rows (row k) table } ∷ seen_from (suc k) row tables

abbrev pub seen : (ℕ → ℤ → Option Row) → List StoredTable → List Table
seen row tables = seen_from 1 row tables

-- the tables that are committed
abbrev pub committed : State → List Table
committed state = seen (committed_row state) state.tables

-- those that the session sees, and those that it saw as its statement began
abbrev pub view : State → ℕ → List Table
view state s = seen (view_at state s) state.tables

abbrev pub beginning_view : State → ℕ → List Table
beginning_view state s = seen (view_at_beginning state s) state.tables
