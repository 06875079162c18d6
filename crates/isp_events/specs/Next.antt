-- Which event of a session comes next: one kind at most, and which one is a function of the state. What an event leaves open (the
-- child that a path takes, the pages that are taken) is not known here, nor whether a lock or an entry will be refused.
use Rattle.std.specs.Prelude.{ℕ, suc, ℤ, ◌==◌, Bool, true, false, not, ◌&&◌, ◌||◌, List, [], ◌∷◌, drop, filter_map, length, Option, Some, None, if◌then◌else◌}
use Rattle.std.specs.List.{last_or, list_any, position}
use Rattle.std.specs.Option.{option_map, unwrap_or}
use Rattle.std.specs.Str.{bytes_eq}
use Rattle.isp_mbr.specs.Corners.{Corners}
use Rattle.isp_mbr.specs.declared.predicate.Predicate.{Predicate}
use Rattle.isp_reclock.specs.declared.modes.Mode.{Mode}
use Rattle.isp_reclock.specs.declared.modes.Mode.TheVariants.{IS, IX, S, X}
use Rattle.isp_plain.specs.declared.refusal.Refusal.TheVariants.{Deadlock, DuplicateKey, FileFull, RowTooLarge}
use Rattle.isp_plain.specs.declared.statement.Reply.{Reply}
use Rattle.isp_plain.specs.declared.statement.Reply.TheVariants as reply
use Rattle.isp_plain.specs.declared.statement.Statement.{Statement}
use Rattle.isp_plain.specs.declared.statement.Statement.TheVariants.{Create, Insert, Select, Update, Delete, Begin, Commit, Rollback, Refused}
use Rattle.isp_plain.specs.declared.value.Row.{Row}
use Rattle.isp_plain.specs.declared.value.Schema.{Schema}
use Rattle.isp_plain.specs.Does.{selected}
use Rattle.isp_plain.specs.Values.{no_box}
use Rattle.isp_serial.specs.Script.{text_at}
use Rattle.isp_serial.specs.Serial.{place_at}
use Rattle.isp_forest.specs.Tree.{Node, Tree, page_at, child_of}
use Rattle.isp_forest.specs.Steps.{names}
use Rattle.isp_events.specs.Stored.{Leaf, StoredTable, box_in, leaf_after, table_at, tree_of}
use Rattle.isp_events.specs.Sessions.{Change, Entering, Failure, duplicate, too_large, file_full, Phase, locking, visiting, scanning, writing, answering, Progress, unlocked, entering, SessionState, session_at, UndoEntry, Work}
use Rattle.isp_events.specs.State.{State, has_room, has_room_in, is_empty, is_waiting}
use Rattle.isp_events.specs.Views.{committed}
use Rattle.isp_events.specs.Ways.{Machine, Way, by_box, by_scan, Ways}

-- the descent of an entry that has to be placed: its table and column, its row's key, its box, and the path so far
pub record Descent : Type 0 where
  pub table : ℕ
  pub column : ℕ
  pub key : ℤ
  pub box : Corners
  pub path : List ℕ

-- The kinds of events of a session: an answer, with which its transaction may end; an undo entry; CREATE; a lock that is asked for,
-- on the statement's table or on a key of it; a visit of a search of the table's column; a leaf that is gone over; a page that
-- joins a path; a path that doesn't stand; a change that finds no room; an entry that is placed, or waits; a row that is
-- written, with the entries placed for it by their columns.
pub data EventKind : Type 0 where
  answers : Reply → Bool → EventKind
  undoes : UndoEntry → EventKind
  creates : List ℕ → Schema → EventKind
  asks_table : Statement → ℕ → Mode → EventKind
  asks_key : ℕ → ℤ → Mode → EventKind
  visits : ℕ → ℕ → Predicate → EventKind
  scans : ℕ → Leaf → EventKind
  steps : Descent → EventKind
  goes_stale : Descent → EventKind
  finds_full : EventKind
  places : Descent → EventKind
  writes : ℕ → Change → List (ℕ × ℕ) → EventKind

-- ---- answers

abbrev pub failure_reply : Failure → Reply
failure_reply (duplicate key) = reply.Err (DuplicateKey key)
failure_reply too_large = reply.Err RowTooLarge
failure_reply file_full = reply.Err FileFull

abbrev pub deadlock_reply : Reply
deadlock_reply = reply.Err Deadlock

-- the rows that were read
abbrev pub rows_read : List (ℤ × Option Row) → List Row
rows_read read = filter_map (λ r. r.1) read

-- the reply of a statement that has done these changes
abbrev pub reply_of : Statement → List (ℤ × Option Row) → List Change → Reply
reply_of (Select name columns w) read done = reply.Rows (selected (rows_read read) columns w)
reply_of _ read done = reply.Count (length done)

-- the newest of these undo entries is undone, and where there is none this comes next
abbrev pub undo_or : Option UndoEntry → EventKind → EventKind
undo_or (Some entry) kind = undoes entry
undo_or None kind = kind

abbrev pub undo_first : List UndoEntry → EventKind → EventKind
undo_first undo kind = undo_or (last_or None undo) kind

-- ---- the beginning of a statement

-- the number of the table of that name, or 0
abbrev pub number_of : List StoredTable → List ℕ → ℕ
number_of tables name = unwrap_or (option_map suc (position (λ (table : StoredTable). bytes_eq table.name name) tables)) 0

-- the lock on the table: by scan it is the table's rows that are locked, else only the intention
abbrev pub read_mode : Way → Mode
read_mode by_scan = S
read_mode _ = IS

abbrev pub write_mode : Way → Mode
write_mode by_scan = X
write_mode _ = IX

abbrev pub table_mode : Statement → Way → Mode
table_mode (Insert name rows) way = IX
table_mode (Select name columns w) way = read_mode way
table_mode _ way = write_mode way

-- the lock on a key
abbrev pub key_mode : Statement → Mode
key_mode (Select name columns w) = S
key_mode _ = X

abbrev pub asks_for : Ways → List StoredTable → Statement → List ℕ → EventKind
asks_for ways tables statement name =
    let number = number_of tables name in
    asks_table statement number (table_mode statement (ways (table_at tables number).schema statement))

-- only the setup makes tables
abbrev pub creates_in : ℕ → List ℕ → Schema → Option EventKind
creates_in s name schema = if s == 0 then Some (creates name schema) else None

-- what comes first of a statement. COMMIT and ROLLBACK end the transaction, also where none was begun; outside of one any
-- answer but that to BEGIN does.
abbrev pub first_of : State → Ways → ℕ → SessionState → Statement → Option EventKind
first_of state ways s session (Refused refusal) = Some (answers (reply.Err refusal) (not session.inside))
first_of state ways s session Begin = Some (answers reply.Ok false)
first_of state ways s session Commit = Some (answers reply.Ok true)
first_of state ways s session Rollback = Some (undo_first session.undo (answers reply.Ok true))
first_of state ways s session (Create name schema) = creates_in s name schema
first_of state ways s session (Insert name rows) = Some (asks_for ways state.tables (Insert name rows) name)
first_of state ways s session (Select name columns w) = Some (asks_for ways state.tables (Select name columns w) name)
first_of state ways s session (Update name sets w) = Some (asks_for ways state.tables (Update name sets w) name)
first_of state ways s session (Delete name w) = Some (asks_for ways state.tables (Delete name w) name)

-- ---- entries

abbrev pub has_entry_for : Option Node → ℕ → Bool
has_entry_for None q = false
has_entry_for (Some page) q = list_any (λ e. names (λ c. c == q) (child_of e)) page.entries

abbrev pub is_leaf : Option Node → Bool
is_leaf None = false
is_leaf (Some page) = page.level == 0

-- each page has an entry for the next, and the last is a leaf
abbrev pub leads_to_leaf : Tree → List ℕ → Bool
leads_to_leaf tree [] = false
leads_to_leaf tree (p ∷ []) = is_leaf (page_at tree p)
leads_to_leaf tree (p ∷ q ∷ rest) = has_entry_for (page_at tree p) q && leads_to_leaf tree (q ∷ rest)

abbrev pub starts_at : ℕ → List ℕ → Bool
starts_at root [] = false
starts_at root (p ∷ rest) = p == root

-- the path stands: it leads from the root to a leaf
abbrev pub path_stands : Tree → List ℕ → Bool
path_stands tree path = starts_at tree.root path && leads_to_leaf tree path

abbrev pub box_of_new : Option Row → ℕ → Corners
box_of_new None column = no_box
box_of_new (Some row) column = box_in row column

abbrev pub descent_of : ℕ → Change → ℕ → List ℕ → Descent
descent_of table change column path =
    record { table = table; column = column; key = change.key; box = box_of_new change.new column; path = path }

-- the entry for the column that is next: its path goes on until its last page was a leaf as it joined
abbrev pub next_of_entry : State → Descent → Bool → EventKind
next_of_entry state d at_leaf =
    let tree = tree_of (table_at state.tables d.table) d.column in
    if is_empty d.path || not at_leaf then steps d
    else if not (path_stands tree d.path) then goes_stale d
    else if not (has_room_in state tree) then finds_full
    else places d

-- the row follows its entries
abbrev pub next_of_row : State → ℕ → Change → List (ℕ × ℕ) → EventKind
next_of_row state table change placed = if has_room state then writes table change placed else finds_full

abbrev pub next_of_columns : State → ℕ → Change → Entering → List ℕ → EventKind
next_of_columns state table change e [] = next_of_row state table change e.placed
next_of_columns state table change e (column ∷ columns) = next_of_entry state (descent_of table change column e.path) e.at_leaf

abbrev pub next_of_change : State → ℕ → Change → Progress → EventKind
next_of_change state table change unlocked = asks_key table change.key X
next_of_change state table change (entering e) = next_of_columns state table change e e.columns

-- ---- a statement behind its table lock

abbrev pub visit_by : ℕ → Way → Option EventKind
visit_by table (by_box column predicate) = Some (visits table column predicate)
visit_by table _ = None

abbrev pub next_of_phase : State → Ways → SessionState → Work → Phase → Option EventKind
next_of_phase state ways session work (locking []) = None
next_of_phase state ways session work (locking (key ∷ keys)) = Some (asks_key work.table key (key_mode work.statement))
next_of_phase state ways session work visiting = visit_by work.table (ways (table_at state.tables work.table).schema work.statement)
next_of_phase state ways session work (scanning last) = option_map (scans work.table) (leaf_after (table_at state.tables work.table).leaves last)
next_of_phase state ways session work (writing done [] progress) = None
next_of_phase state ways session work (writing done (change ∷ left) progress) = Some (next_of_change state work.table change progress)
next_of_phase state ways session work (answering done) = Some (answers (reply_of work.statement work.read done) (not session.inside))

-- a failed statement is undone before its answer
abbrev pub next_of_failure : SessionState → Work → Failure → EventKind
next_of_failure session work failure =
    undo_first (drop work.begun session.undo) (answers (failure_reply failure) (not session.inside))

abbrev pub next_of_unfailed : State → Ways → SessionState → Work → Option Failure → Option EventKind
next_of_unfailed state ways session work (Some failure) = Some (next_of_failure session work failure)
next_of_unfailed state ways session work None = next_of_phase state ways session work work.phase

abbrev pub next_of_work : State → Ways → SessionState → Work → Option EventKind
next_of_work state ways session work = next_of_unfailed state ways session work work.failure

-- ---- a session

abbrev pub next_of_statement : Machine → State → ℕ → SessionState → List ℕ → Option Work → Option EventKind
next_of_statement m state s session text None =
    first_of state m.ways s session (m.language.meaning (committed state) (place_at s session.inside) text)
next_of_statement m state s session text (Some work) = next_of_work state m.ways session work

-- a session without a statement left rolls back what is open, and ends; the setup is over with its last answer
abbrev pub next_of_text : Machine → State → ℕ → SessionState → Option (List ℕ) → Option EventKind
next_of_text m state s session None = if s == 0 then None else Some (undo_first session.undo (answers reply.End true))
next_of_text m state s session (Some text) = next_of_statement m state s session text session.work

-- a deadlock's victim rolls back its transaction, and is answered
abbrev pub next_of_session : Machine → State → ℕ → SessionState → Option EventKind
next_of_session m state s session =
    if session.victim then Some (undo_first session.undo (answers deadlock_reply true))
    else next_of_text m state s session (text_at m.script s session.number)

-- the session is over, or waits for the setup or for another session
abbrev pub is_still : State → ℕ → SessionState → Bool
is_still state s session =
    session.over || (is_waiting state.waits s || (not (s == 0) && not (session_at state.sessions 0).over))

-- what comes next of the session, if anything does
unfoldable pub next : Machine → State → ℕ → Option EventKind
next m state s =
    let session = session_at state.sessions s in
    if is_still state s session then None else next_of_session m state s session
