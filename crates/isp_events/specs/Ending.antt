-- A statement is undone entry by entry, answered, and with the last answer its transaction ends: in one event the line is told, what is
-- dead joins the purge queue, and all that the session held goes (rollback, commit and autocommit as the MySQL 8.0 manual has them;
-- the purge queue is this project's own). CREATE is one event with its end.
use Rattle.std.specs.Prelude.{◌≡◌, ℕ, suc, ℤ, ◌+◌, ◌==◌, ◌&&◌, ◌||◌, Bool, true, false, not, cond, is_none, List, [], ◌∷◌, ◌++◌, filter, fold, length, map, slice_set, take, Option, Some, None}
use Rattle.std.specs.List.{list_all}
use Rattle.std.specs.BTreeSet.{insert_key}
use Rattle.std.specs.declared.cmp.Ordering.{Ordering}
use Rattle.std.specs.Ordering.{int_cmp, nat_cmp, ordering_then}
use Rattle.isp_reclock.specs.Tables.{without as locks_without}
use Rattle.isp_plain.specs.declared.value.Column.{Column}
use Rattle.isp_plain.specs.declared.value.Schema.{Schema}
use Rattle.isp_plain.specs.declared.statement.Reply.{Reply}
use Rattle.isp_plain.specs.declared.statement.Reply.TheVariants as reply
use Rattle.isp_serial.specs.Script.{text_at}
use Rattle.isp_forest.specs.Tree.{Tree}
use Rattle.isp_forest.specs.Steps.{is_among}
use Rattle.isp_events.specs.Stored.{KeptRow, StoredTable, change_table, kept_at, table_at}
use Rattle.isp_events.specs.Sessions.{EntryAt, Image, was_absent, was_there, was_marked, Note, SessionState, session_at, UndoEntry}
use Rattle.isp_events.specs.State.{State, TreeSearch, Queued, dead_entry, dead_row, ended, front, has_room, is_free}
use Rattle.isp_events.specs.Ways.{Machine}
use Rattle.isp_events.specs.Writing.{are_apart, marked, table_with_row}

-- ---- undo

-- the row with what stood there before, in its slot; where nothing stood, a mark
abbrev pub restored : Image → KeptRow → KeptRow
restored was_absent kept = marked kept
restored (was_there version) kept = record kept { row = version.row; numbers = version.numbers; mark = false }
restored (was_marked version) kept = record kept { row = version.row; numbers = version.numbers; mark = true }

-- the newest entry goes; the first page of the undo chain and so many more stay
abbrev pub session_after_undo : ℕ → SessionState → SessionState
session_after_undo more session = record session { undo = front session.undo; undo_pages = take (suc more) session.undo_pages }

abbrev pub after_undo : State → ℕ → UndoEntry → ℕ → State
after_undo state s entry more = record state {
  tables = change_table entry.table (table_with_row entry.key (restored entry.image)) state.tables;
  sessions = slice_set state.sessions s (session_after_undo more (session_at state.sessions s));
}

-- ---- an answer inside a transaction

abbrev pub is_end_reply : Reply → Bool
is_end_reply reply.End = true
is_end_reply _ = false

-- the session is over with END, the setup with the answer of its last statement
abbrev pub is_over_after : Machine → ℕ → ℕ → Reply → Bool
is_over_after m s number reply = is_end_reply reply || ((s == 0) && is_none (text_at m.script s (number + 1)))

-- the session is inside a transaction: it was, or BEGIN is answered
abbrev pub session_after_answer : Bool → SessionState → SessionState
session_after_answer over session = record session { number = session.number + 1; inside = true; over = over; work = None }

abbrev pub after_answer : State → ℕ → Bool → State
after_answer state s over = record state { sessions = slice_set state.sessions s (session_after_answer over (session_at state.sessions s)) }

-- ---- the end of a transaction

-- an entry is live where the row at its key is unmarked and has its number
abbrev pub has_number : Option KeptRow → ℕ → Bool
has_number None number = false
has_number (Some kept) number = not kept.mark && is_among kept.numbers number

abbrev pub is_live : List StoredTable → EntryAt → Bool
is_live tables entry = has_number (kept_at (table_at tables entry.table) entry.key) entry.number

-- the entries noted, each number once at its first place
abbrev pub noted_once : List ℕ → List Note → List EntryAt
noted_once earlier [] = []
noted_once earlier (note ∷ notes) =
    cond (is_among earlier note.entry.number) (noted_once earlier notes) (note.entry ∷ noted_once (note.entry.number ∷ earlier) notes)

abbrev pub dead_entries : List StoredTable → List Note → List EntryAt
dead_entries tables notes = filter (λ entry. not (is_live tables entry)) (noted_once [] notes)

-- keys of tables, by table and key
abbrev pub key_cmp : ℕ × ℤ → ℕ × ℤ → Ordering
key_cmp a b = ordering_then (nat_cmp a.0 b.0) (int_cmp a.1 b.1)

abbrev pub is_marked : Option KeptRow → Bool
is_marked None = false
is_marked (Some kept) = kept.mark

-- the keys written whose rows are marked, rising, each once
abbrev pub dead_rows : List StoredTable → List (ℕ × ℤ) → List (ℕ × ℤ)
dead_rows tables written = filter (λ w. is_marked (kept_at (table_at tables w.0) w.1)) (fold (insert_key key_cmp) [] written)

abbrev pub as_dead_row : ℕ × ℤ → Queued
as_dead_row w = dead_row w.0 w.1

-- what joins the queue
abbrev pub queued_by : List StoredTable → SessionState → List Queued
queued_by tables session = map dead_entry (dead_entries tables session.notes) ++ map as_dead_row (dead_rows tables session.written)

abbrev pub session_after_end : Bool → SessionState → SessionState
session_after_end over session = record {
  number = session.number + 1;
  inside = false;
  over = over;
  victim = false;
  undo = [];
  notes = [];
  written = [];
  undo_pages = [];
  work = None;
}

abbrev pub searches_without : List TreeSearch → ℕ → List TreeSearch
searches_without searches s = filter (λ x. not (x.search.session == s)) searches

abbrev pub after_end : State → ℕ → Bool → State
after_end state s over =
    let session = session_at state.sessions s in
    record state {
      locks = locks_without state.locks s;
      searches = searches_without state.searches s;
      sessions = slice_set state.sessions s (session_after_end over session);
      waits = ended state.waits s;
      queue = state.queue ++ queued_by state.tables session;
    }

-- ---- a table is made

abbrev pub indexed_from : ℕ → List Column → List ℕ
indexed_from k [] = []
indexed_from k (column ∷ columns) = cond column.indexed (k ∷ indexed_from (suc k) columns) (indexed_from (suc k) columns)

-- the columns that get a tree
abbrev pub indexed_in : Schema → List ℕ
indexed_in schema = indexed_from 0 schema.columns

-- a root without an entry
abbrev pub empty_tree : ℕ → Tree
empty_tree root = record { root = root; pages = (root, record { level = 0; ssn = 0; next = None; entries = [] }) ∷ [] }

abbrev pub empty_trees : List ℕ → List ℕ → List (ℕ × Tree)
empty_trees [] roots = []
empty_trees (column ∷ columns) [] = []
empty_trees (column ∷ columns) (root ∷ roots) = (column, empty_tree root) ∷ empty_trees columns roots

abbrev pub new_table : List ℕ → Schema → ℕ → List ℕ → StoredTable
new_table name schema leaf roots = record {
  name = name;
  schema = schema;
  leaves = record { page = leaf; rows = [] } ∷ [];
  others = [];
  trees = empty_trees (indexed_in schema) roots;
}

-- there is room, and free pages are taken, one for each tree and one for the rows
pub record MayCreate (state : State) (schema : Schema) (leaf : ℕ) (roots : List ℕ) : Type 0 where
  pub room : has_room state ≡ true
  pub each_column : length roots ≡ length (indexed_in schema)
  pub free : list_all (is_free state) (leaf ∷ roots) ≡ true
  pub apart : are_apart (leaf ∷ roots) ≡ true

abbrev pub with_new_table : State → StoredTable → State
with_new_table state table = record state { tables = state.tables ++ table ∷ [] }

abbrev pub after_create : State → ℕ → Bool → List ℕ → Schema → ℕ → List ℕ → State
after_create state s over name schema leaf roots = after_end (with_new_table state (new_table name schema leaf roots)) s over
