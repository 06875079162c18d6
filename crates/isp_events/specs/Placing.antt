-- An entry is placed: its path goes down page by page (Guttman 1984), and where it stands the entry is tested against the searches that
-- others have there, waits for those that it satisfies, or is added, with splits and the searches that come along
-- (predicate locks on the pages of an index after Kornacker, Mohan and Hellerstein 1997).
use Rattle.std.specs.Prelude.{◌≡◌, ◌≤◌, ◌<◌, ℕ, ◌+◌, ◌==◌, ◌&&◌, Bool, true, false, not, cond, List, [], ◌∷◌, ◌++◌, drop, filter, filter_map, find, flat_map, length, map, reverse, slice_set, Option, Some, None}
use Rattle.std.specs.List.{last_or, list_all}
use Rattle.std.specs.Option.{option_map, unwrap_or}
use Rattle.isp_mbr.specs.Predicates.{satisfies}
use Rattle.isp_forest.specs.Tree.{Node, Tree, page_at}
use Rattle.isp_forest.specs.Steps.{add, is_among, split}
use Rattle.isp_forest.specs.Place.{CanRelieve, Division, place}
use Rattle.isp_forest.specs.Attach.{attached, is_tested, percolates}
use Rattle.isp_events.specs.Stored.{StoredTable, change_table, change_tree, table_at, tree_of}
use Rattle.isp_events.specs.Sessions.{by_placing, Entering, file_full, Note, Phase, writing, Progress, unlocked, entering, SessionState, session_at, Work}
use Rattle.isp_events.specs.State.{State, TreeSearch, is_free, least_fill, session_numbers, with_option}
use Rattle.isp_events.specs.Lines.{On, Placed}
use Rattle.isp_events.specs.Next.{Descent, has_entry_for, is_leaf}
use Rattle.isp_events.specs.Asking.{change_work}

-- ---- the path

-- what is done of the change at hand becomes this
abbrev pub progress_with : (Entering → Entering) → Progress → Progress
progress_with f unlocked = unlocked
progress_with f (entering e) = entering (f e)

abbrev pub phase_with_entry : (Entering → Entering) → Phase → Phase
phase_with_entry f (writing done left progress) = writing done left (progress_with f progress)
phase_with_entry f phase = phase

abbrev pub change_entering : (Entering → Entering) → Work → Work
change_entering f work = record work { phase = phase_with_entry f work.phase }

-- a page joins the path, which remembers whether it is a leaf now
abbrev pub stepped : Tree → ℕ → Entering → Entering
stepped tree q e = record e { path = e.path ++ q ∷ []; at_leaf = is_leaf (page_at tree q) }

abbrev pub without_path : Entering → Entering
without_path e = record e { path = []; at_leaf = false }

-- the page is the root, or one that the last page of the path has an entry for
abbrev pub follows : Tree → Option ℕ → ℕ → Bool
follows tree None q = q == tree.root
follows tree (Some p) q = has_entry_for (page_at tree p) q

abbrev pub may_step : Tree → List ℕ → ℕ → Bool
may_step tree path q = follows tree (last_or None path) q

-- the tree that the entry is for
abbrev pub tree_for : State → Descent → Tree
tree_for state d = tree_of (table_at state.tables d.table) d.column

abbrev pub with_entering : State → ℕ → (Entering → Entering) → State
with_entering state s f = record state {
  sessions = slice_set state.sessions s (change_work (change_entering f) (session_at state.sessions s));
}

abbrev pub after_step : State → ℕ → Descent → ℕ → State
after_step state s d q = with_entering state s (stepped (tree_for state d) q)

abbrev pub after_stale : State → ℕ → State
after_stale state s = with_entering state s without_path

-- the statement fails for want of room
abbrev pub failed_full : Work → Work
failed_full work = record work { failure = Some file_full }

abbrev pub after_full : State → ℕ → State
after_full state s = record state { sessions = slice_set state.sessions s (change_work failed_full (session_at state.sessions s)) }

-- ---- who stands in its way

-- the search is one of that tree
abbrev pub is_of_tree : ℕ → ℕ → TreeSearch → Bool
is_of_tree table column x = (x.table == table) && (x.column == column)

abbrev pub searches_of : List TreeSearch → Descent → List TreeSearch
searches_of searches d = filter (is_of_tree d.table d.column) searches

-- the entry is tested against the search: it is another session's, and is on the leaf or percolates to it
abbrev pub tests : Tree → Descent → ℕ → TreeSearch → Bool
tests tree d s x = not (x.search.session == s) && is_tested tree d.path d.box x.search

abbrev pub tested : State → ℕ → Descent → List TreeSearch
tested state s d = filter (tests (tree_for state d) d s) (searches_of state.searches d)

-- and satisfies its predicate
abbrev pub satisfied : State → ℕ → Descent → List TreeSearch
satisfied state s d = filter (λ x. satisfies x.search.predicate d.box) (tested state s d)

abbrev pub as_on : TreeSearch → On
as_on x = record { session = x.search.session; predicate = x.search.predicate }

-- of a session's searches, the one that was begun first
abbrev pub first_of_session : List TreeSearch → ℕ → Option On
first_of_session searches k = option_map as_on (find (λ x. x.search.session == k) searches)

-- the sessions that stand in the way, rising, each with the first begun of its searches that do
abbrev pub in_the_way : State → ℕ → Descent → List On
in_the_way state s d = filter_map (first_of_session (satisfied state s d)) session_numbers

abbrev pub sessions_on : List On → List ℕ
sessions_on list = map (λ o. o.session) list

-- ---- pages that are divided

abbrev pub entry_count : Option Node → ℕ
entry_count None = 0
entry_count (Some page) = length page.entries

abbrev pub AreFilled : ℕ → Division → Type 0
AreFilled least d = (least ≤ length d.left) × (least ≤ length d.right)

-- From the page at hand up, exactly the pages with more entries than the fan-out are divided, and into parts that have the least fill;
-- the root is raised to page q first, which then is the page that is divided.
abbrev pub DividesOverflowing : ℕ → Tree → ℕ → List ℕ → List Division → Type 0
DividesOverflowing fanout tree q [] ds = ds ≡ []
DividesOverflowing fanout tree q (o ∷ up) [] = entry_count (page_at tree o) ≤ fanout
DividesOverflowing fanout tree q (o ∷ []) (d ∷ ds) = (fanout < entry_count (page_at tree o)) × AreFilled (least_fill fanout) d × (ds ≡ [])
DividesOverflowing fanout tree q (o ∷ above ∷ up) (d ∷ ds) =
    (fanout < entry_count (page_at tree o)) × AreFilled (least_fill fanout) d
    × DividesOverflowing fanout (split tree o above d.left d.right d.page) q (above ∷ up) ds

-- the root is raised where each page of the path is divided
abbrev pub raised_page : List ℕ → ℕ → List Division → Option ℕ
raised_page path q ds = cond (length ds == length path) (Some q) None

abbrev pub pages_divided : List Division → List ℕ
pages_divided ds = map (λ d. d.page) ds

-- the pages that a placing takes
abbrev pub pages_placing : List ℕ → ℕ → List Division → List ℕ
pages_placing path q ds = with_option (raised_page path q ds) (pages_divided ds)

-- nobody stands in the way, and these divisions can and have to be made
pub record MayPlaceEntry (state : State) (s : ℕ) (d : Descent) (q : ℕ) (ds : List Division) : Type 0 where
  pub alone : in_the_way state s d ≡ []
  pub can : CanRelieve (add (tree_for state d) d.path d.box d.key state.entries) q (reverse d.path) ds
  pub divides : DividesOverflowing state.fanout (add (tree_for state d) d.path d.box d.key state.entries) q (reverse d.path) ds
  pub free : list_all (is_free state) (pages_placing d.path q ds) ≡ true

-- ---- the entry is placed

abbrev pub note_of : Descent → ℕ → ℕ → Note
note_of d number statement = record {
  how = by_placing;
  entry = record { table = d.table; column = d.column; key = d.key; number = number; box = d.box };
  statement = statement;
}

-- its column has its entry, and the path of the next begins anew
abbrev pub with_placed : ℕ → ℕ → Entering → Entering
with_placed column number e = record e {
  columns = drop 1 e.columns;
  placed = e.placed ++ (column, number) ∷ [];
  path = [];
  at_leaf = false;
}

abbrev pub session_after_place : Descent → ℕ → SessionState → SessionState
session_after_place d number session = record session {
  notes = session.notes ++ note_of d number session.number ∷ [];
  work = option_map (change_entering (with_placed d.column number)) session.work;
}

-- a search after an entry was placed in its tree
abbrev pub search_after_place : Tree → Descent → ℕ → ℕ → List Division → TreeSearch → TreeSearch
search_after_place tree d number q ds x = record x {
  search = cond (is_of_tree d.table d.column x) (attached tree d.path d.box d.key number q ds x.search) x.search;
}

abbrev pub tree_after_place : Descent → ℕ → ℕ → List Division → Tree → Tree
tree_after_place d number q ds tree = place tree d.path d.box d.key number q ds

abbrev pub table_after_place : Descent → ℕ → ℕ → List Division → StoredTable → StoredTable
table_after_place d number q ds table = record table { trees = change_tree d.column (tree_after_place d number q ds) table.trees }

abbrev pub after_place : State → ℕ → Descent → ℕ → List Division → State
after_place state s d q ds = record state {
  tables = change_table d.table (table_after_place d state.entries q ds) state.tables;
  entries = state.entries + 1;
  searches = map (search_after_place (tree_for state d) d state.entries q ds) state.searches;
  sessions = slice_set state.sessions s (session_after_place d state.entries (session_at state.sessions s));
}

-- ---- what its line tells

-- the searches that percolate to the page, in order of beginning
abbrev pub percolated_to : Tree → Descent → List TreeSearch → ℕ → List (ℕ × ℕ)
percolated_to tree d searches q =
    filter_map (λ x. cond (is_among (percolates tree x.search d.box d.path) q) (Some (x.search.session, q)) None) searches

-- page by page from the root down, and on one page search by search
abbrev pub percolating : Tree → Descent → List TreeSearch → List (ℕ × ℕ)
percolating tree d searches = flat_map (percolated_to tree d searches) d.path

-- the old and the new page of each split, from the page at hand up; a raised root is divided on the page that it was raised to
abbrev pub parted : ℕ → List ℕ → List Division → List (ℕ × ℕ)
parted q up [] = []
parted q [] (d ∷ ds) = []
parted q (o ∷ []) (d ∷ ds) = (q, d.page) ∷ []
parted q (o ∷ above ∷ up) (d ∷ ds) = (o, d.page) ∷ parted q (above ∷ up) ds

abbrev pub last_page : List ℕ → ℕ
last_page path = unwrap_or (last_or None path) 0

abbrev pub place_told : State → ℕ → Descent → ℕ → List Division → Placed
place_told state s d q ds = record {
  table = d.table;
  column = d.column;
  leaf = last_page d.path;
  number = state.entries;
  tested = length (tested state s d);
  percolated = percolating (tree_for state d) d (searches_of state.searches d);
  parted = parted q (reverse d.path) ds;
  raised = raised_page d.path q ds;
}
