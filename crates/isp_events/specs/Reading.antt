-- Rows are found: one visit of a search of an R-tree, which never waits (Kornacker, Mohan and Hellerstein 1997), or one clustered leaf
-- that is gone over.
use Rattle.std.specs.Prelude.{ℕ, ℤ, ◌==◌, ◌&&◌, Bool, cond, is_none, List, [], ◌∷◌, ◌++◌, drop, find, fold, length, map, slice_set, Option, Some, None}
use Rattle.std.specs.List.{last_or, list_any}
use Rattle.std.specs.BTreeSet.{insert_key}
use Rattle.std.specs.Ordering.{int_cmp}
use Rattle.isp_mbr.specs.declared.predicate.Predicate.{Predicate}
use Rattle.isp_plain.specs.declared.statement.Statement.{Statement}
use Rattle.isp_plain.specs.declared.value.Row.{Row}
use Rattle.isp_plain.specs.declared.value.Schema.{Schema}
use Rattle.isp_forest.specs.Tree.{Tree}
use Rattle.isp_forest.specs.Steps.{is_among}
use Rattle.isp_forest.specs.Search.{Search}
use Rattle.isp_forest.specs.Visit.{begun, visit}
use Rattle.isp_events.specs.Stored.{Leaf, StoredTable, indexed, leaf_behind, table_at, tree_of, unmarked}
use Rattle.isp_events.specs.Sessions.{too_large, Phase, visiting, scanning, session_at, Work, changes_of, outgrows_by, phase_with}
use Rattle.isp_events.specs.State.{State, TreeSearch, front, is_empty}
use Rattle.isp_events.specs.Lines.{Visit}
use Rattle.isp_events.specs.Asking.{change_work, noted, phase_of_keys}

-- ---- one search

abbrev pub visit_top : Tree → Search → Option (ℕ × ℕ) → Search
visit_top tree x None = x
visit_top tree x (Some top) = visit tree (front x.stack) top.0 top.1 x

-- the search after a visit of the page that it remembers last
abbrev pub visited : Tree → Search → Search
visited tree x = visit_top tree x (last_or None x.stack)

abbrev pub page_visited : Option (ℕ × ℕ) → ℕ
page_visited None = 0
page_visited (Some top) = top.0

-- what the line of the visit tells, which led from one search to the other
abbrev pub visit_told : ℕ → ℕ → Search → Search → Visit
visit_told table column before after = record {
  table = table;
  column = column;
  page = page_visited (last_or None before.stack);
  again = is_among before.on (page_visited (last_or None before.stack));
  pushed = drop (length (front before.stack)) after.stack;
  found = drop (length before.found) after.found;
}

-- ---- the search of a statement

-- it is the search of that statement of the session
abbrev pub is_of : ℕ → ℕ → TreeSearch → Bool
is_of s statement x = (x.search.session == s) && (x.search.statement == statement)

-- the statement's search before the visit: the one that it has begun, or one that begins with the root and the counter now
abbrev pub search_or : Option TreeSearch → Search → Search
search_or (Some x) other = x.search
search_or None other = other

abbrev pub search_before : List TreeSearch → Tree → ℕ → ℕ → Predicate → Search
search_before searches tree s statement predicate = search_or (find (is_of s statement) searches) (begun tree s statement predicate)

-- the searches with this one, which is begun last where it isn't there
abbrev pub with_search : List TreeSearch → ℕ → ℕ → Search → List TreeSearch
with_search searches table column x =
    cond (list_any (is_of x.session x.statement) searches)
    (map (λ (y : TreeSearch). record y { search = cond (is_of x.session x.statement y) x y.search }) searches)
    (searches ++ record { table = table; column = column; search = x } ∷ [])

-- keys rising, each once
abbrev pub rising : List ℤ → List ℤ
rising keys = fold (insert_key int_cmp) [] keys

-- with nothing left to visit, the keys left are those that were found
abbrev pub phase_after_visit : StoredTable → Statement → Search → Phase
phase_after_visit table statement x =
    cond (is_empty x.stack) (phase_of_keys table statement (rising x.found) []) visiting

abbrev pub work_after_visit : StoredTable → Search → Work → Work
work_after_visit table x work = record work { phase = phase_after_visit table work.statement x }

abbrev pub after_visit : State → ℕ → ℕ → ℕ → Predicate → State
after_visit state s number column predicate =
    let table = table_at state.tables number in
    let tree = tree_of table column in
    let session = session_at state.sessions s in
    let x = visited tree (search_before state.searches tree s session.number predicate) in
    record state {
      searches = with_search state.searches number column x;
      sessions = slice_set state.sessions s (change_work (work_after_visit table x) session);
    }

-- ---- a leaf

-- a row as it was read
abbrev pub as_read : ℤ × Row → ℤ × Option Row
as_read e = (e.0, Some e.1)

abbrev pub rows_in : Leaf → List (ℤ × Row)
rows_in leaf = unmarked leaf.rows

-- UPDATE would make one of the rows too large
abbrev pub some_outgrow : Schema → Statement → List (ℤ × Row) → Bool
some_outgrow schema statement rows = list_any (λ e. outgrows_by schema statement e.1) rows

-- with the last leaf the changes are made
abbrev pub phase_after_leaf : StoredTable → Statement → Leaf → List (ℤ × Option Row) → Phase
phase_after_leaf table statement leaf read =
    cond (is_none (leaf_behind table.leaves leaf.page)) (phase_with statement (indexed table) [] (changes_of statement read)) (scanning (Some leaf.page))

-- its unmarked rows join what was read
abbrev pub work_after_scan : StoredTable → Leaf → Work → Work
work_after_scan table leaf work = record work {
  read = work.read ++ map as_read (rows_in leaf);
  failure = noted (some_outgrow table.schema work.statement (rows_in leaf)) too_large work.failure;
  phase = phase_after_leaf table work.statement leaf (work.read ++ map as_read (rows_in leaf));
}

abbrev pub after_scan : State → ℕ → ℕ → Leaf → State
after_scan state s number leaf = record state {
  sessions = slice_set state.sessions s (change_work (work_after_scan (table_at state.tables number) leaf) (session_at state.sessions s));
}
