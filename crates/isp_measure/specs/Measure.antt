-- How far a state is from the end of all that its sessions do: ten numbers, compared from the first on, of which each event but a flush and
-- a list of the locks lowers one and raises none before it (that what has such a measure ends is Floyd's, 1967).
use Rattle.std.specs.Prelude.{ℕ, zero, suc, ◌+◌, ◌-◌, ◌==◌, ◌&&◌, ◌||◌, Bool, true, false, cond, is_some, List, [], ◌∷◌, length, Option, Some, None}
use Rattle.std.specs.List.{last_or, list_any}
use Rattle.isp_serial.specs.declared.script.Script.{Script}
use Rattle.isp_serial.specs.Script.{texts_of}
use Rattle.isp_forest.specs.Tree.{Node, Tree, page_at}
use Rattle.isp_forest.specs.Walk.{onward}
use Rattle.isp_forest.specs.Steps.{is_among}
use Rattle.isp_forest.specs.Search.{Search}
use Rattle.isp_searches.specs.SearchLaws.{away}
use Rattle.isp_events.specs.Stored.{Leaf, StoredTable, indexed, table_at, tree_of}
use Rattle.isp_events.specs.Sessions.{Change, Entering, Phase, locking, visiting, scanning, writing, answering, Progress, unlocked, entering, SessionState, session_at, UndoEntry, Work}
use Rattle.isp_events.specs.State.{State, TreeSearch, is_waiting, session_numbers}
use Rattle.isp_events.specs.Next.{has_entry_for, path_stands, starts_at}
use Rattle.isp_events.specs.Reading.{is_of}
use Rattle.isp_order.specs.Work.{leaves_scanned}

-- the sum of a number of each
abbrev pub total : {X : Type 0} → (X → ℕ) → List X → ℕ
total f [] = 0
total f (x ∷ xs) = f x + total f xs

-- of each session, by its number
abbrev pub total_of_sessions : (ℕ → SessionState → ℕ) → List SessionState → ℕ
total_of_sessions f sessions = total (λ s. f s (session_at sessions s)) session_numbers

-- ---- answers

abbrev pub text_count : Option (List (List ℕ)) → ℕ
text_count None = 0
text_count (Some texts) = length texts

-- how many texts the session has from that number on
abbrev pub texts_left : Script → ℕ → ℕ → ℕ
texts_left script s number = suc (text_count (texts_of script s)) - number

-- the answers that it still gives: to its statements, of which a victim's present one is answered in any case, and END
abbrev pub answers_left : Script → ℕ → SessionState → ℕ
answers_left script s session =
    cond session.over 0
    (cond (s == 0) 0 1 + cond session.victim (suc (texts_left script s (session.number + 1))) (texts_left script s session.number))

-- ---- sessions that fail

abbrev pub has_failed : Option Work → Bool
has_failed None = false
has_failed (Some work) = is_some work.failure

-- it undoes its statement, or as a victim its transaction
abbrev pub gives_up : SessionState → Bool
gives_up session = session.victim || has_failed session.work

abbrev pub one_if_onward : ℕ → SessionState → ℕ
one_if_onward s session = cond (gives_up session) 0 1

-- ---- phases

-- behind that of its table lock, the phases that a statement may still come to, visiting being two, before and after its search has begun
abbrev pub phases_behind : Bool → Phase → ℕ
phases_behind begun (locking keys) = 2
phases_behind begun visiting = cond begun 3 4
phases_behind begun (scanning last) = 2
phases_behind begun (writing done left progress) = 1
phases_behind begun (answering done) = 0

abbrev pub phases_of_work : Bool → Option Work → ℕ
phases_of_work begun None = 5
phases_of_work begun (Some work) = phases_behind begun work.phase

abbrev pub phases_left : List TreeSearch → ℕ → SessionState → ℕ
phases_left searches s session = phases_of_work (list_any (is_of s session.number) searches) session.work

-- ---- within a phase

-- of a row: its lock where it isn't locked yet, each column's entry, and the row itself
abbrev pub steps_of_change : ℕ → Progress → ℕ
steps_of_change columns unlocked = columns + 2
steps_of_change columns (entering e) = length e.columns + 1

abbrev pub steps_of_changes : ℕ → List Change → Progress → ℕ
steps_of_changes columns [] progress = 0
steps_of_changes columns (change ∷ left) progress = steps_of_change columns progress + total (λ c. columns + 2) left

-- keys, or changes, on a table with so many indexed columns
abbrev pub steps_of_phase : ℕ → Phase → ℕ
steps_of_phase columns (locking keys) = length keys
steps_of_phase columns (writing done left progress) = steps_of_changes columns left progress
steps_of_phase columns _ = 0

abbrev pub steps_of_work : List StoredTable → List UndoEntry → Option Work → ℕ
steps_of_work tables undo None = length undo
steps_of_work tables undo (Some work) = steps_of_phase (length (indexed (table_at tables work.table))) work.phase

-- the undo entries are counted of those sessions alone that undo
abbrev pub steps_left : List StoredTable → ℕ → SessionState → ℕ
steps_left tables s session = cond (gives_up session) (length session.undo) (steps_of_work tables session.undo session.work)

-- ---- leaves

abbrev pub leaves_of_phase : List Leaf → Phase → ℕ
leaves_of_phase leaves (scanning last) = length leaves - length (leaves_scanned leaves last)
leaves_of_phase leaves _ = 0

abbrev pub leaves_of_work : List StoredTable → Option Work → ℕ
leaves_of_work tables None = 0
leaves_of_work tables (Some work) = leaves_of_phase (table_at tables work.table).leaves work.phase

-- the leaves that it still goes over
abbrev pub leaves_left : List StoredTable → ℕ → SessionState → ℕ
leaves_left tables s session = leaves_of_work tables session.work

-- ---- waits

abbrev pub one_if_awake : List (List ℕ) → ℕ → ℕ
one_if_awake waits s = cond (is_waiting waits s) 0 1

-- ---- searches

abbrev pub tree_searched : List StoredTable → TreeSearch → Tree
tree_searched tables x = tree_of (table_at tables x.table) x.column

-- the pages of its tree that it isn't on
abbrev pub pages_away : List StoredTable → TreeSearch → ℕ
pages_away tables x = away (tree_searched tables x) x.search

abbrev pub pages_remembered : TreeSearch → ℕ
pages_remembered x = length x.search.stack

abbrev pub number_or : (ℕ → ℕ) → Option ℕ → ℕ
number_or f None = 0
number_or f (Some q) = f q

-- how many pages of the walk from page p with the number s the search is on, up to the first that it isn't on; of n pages at most
abbrev pub seen_before : Tree → List ℕ → ℕ → ℕ → ℕ → ℕ
seen_before tree on s zero p = 0
seen_before tree on s (suc n) p = cond (is_among on p) (suc (number_or (seen_before tree on s n) (onward tree s p))) 0

abbrev pub seen_from : Tree → List ℕ → Option (ℕ × ℕ) → ℕ
seen_from tree on None = 0
seen_from tree on (Some top) = seen_before tree on top.1 (length tree.pages) top.0

-- on the walk from the page that it remembers last, the pages that it comes to again before it comes to a new one
abbrev pub pages_again : List StoredTable → TreeSearch → ℕ
pages_again tables x = seen_from (tree_searched tables x) x.search.on (last_or None x.search.stack)

-- ---- paths

abbrev pub level_of : Option Node → ℕ
level_of None = 0
level_of (Some page) = page.level

abbrev pub level_of_last : Tree → Option ℕ → ℕ
level_of_last tree None = 0
level_of_last tree (Some p) = level_of (page_at tree p)

-- how many pages a path has from the root to a leaf
abbrev pub whole_descent : Tree → ℕ
whole_descent tree = suc (level_of (page_at tree tree.root))

-- each page has an entry for the next
abbrev pub leads_down : Tree → List ℕ → Bool
leads_down tree [] = true
leads_down tree (p ∷ []) = true
leads_down tree (p ∷ q ∷ rest) = has_entry_for (page_at tree p) q && leads_down tree (q ∷ rest)

-- the path stands as far as it goes; where its last page was a leaf as it joined, it is one still
abbrev pub stands_so_far : Tree → List ℕ → Bool → Bool
stands_so_far tree path at_leaf = cond at_leaf (path_stands tree path) (starts_at tree.root path && leads_down tree path)

-- the pages that a path still goes down; where it doesn't stand, it is emptied and begins anew
abbrev pub pages_down : Tree → List ℕ → Bool → ℕ
pages_down tree [] at_leaf = whole_descent tree
pages_down tree (p ∷ path) at_leaf =
    cond at_leaf 0 (level_of_last tree (last_or None (p ∷ path))) + cond (stands_so_far tree (p ∷ path) at_leaf) 0 (suc (whole_descent tree))

abbrev pub down_of_columns : StoredTable → Entering → List ℕ → ℕ
down_of_columns table e [] = 0
down_of_columns table e (column ∷ columns) = pages_down (tree_of table column) e.path e.at_leaf

abbrev pub down_of_phase : StoredTable → Phase → ℕ
down_of_phase table (writing done left (entering e)) = down_of_columns table e e.columns
down_of_phase table _ = 0

abbrev pub down_of_work : List StoredTable → Option Work → ℕ
down_of_work tables None = 0
down_of_work tables (Some work) = down_of_phase (table_at tables work.table) work.phase

-- of the entry that it places next
abbrev pub pages_of_path : List StoredTable → ℕ → SessionState → ℕ
pages_of_path tables s session = down_of_work tables session.work

-- ---- the measure

abbrev pub measure : Script → State → List ℕ
measure script state =
    total_of_sessions (answers_left script) state.sessions
    ∷ length state.queue
    ∷ total_of_sessions one_if_onward state.sessions
    ∷ total_of_sessions (phases_left state.searches) state.sessions
    ∷ total_of_sessions (steps_left state.tables) state.sessions
    ∷ total_of_sessions (leaves_left state.tables) state.sessions
    ∷ total (one_if_awake state.waits) session_numbers
    ∷ total (pages_away state.tables) state.searches
    ∷ total pages_remembered state.searches
    ∷ (total_of_sessions (pages_of_path state.tables) state.sessions + total (pages_again state.tables) state.searches)
    ∷ []
