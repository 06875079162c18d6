-- Searches, when they are in order: nothing is out of their reach, what they have visited is known, and each belongs to a statement
-- (predicate locks after Kornacker, Mohan and Hellerstein 1997).
use Rattle.std.specs.Prelude.{◌≡◌, ◌≤◌, ◌<◌, ℕ, suc, ◌==◌, ◌&&◌, Bool, true, false, cond, List, [], ◌∷◌, ◌++◌, length, filter, filter_map, Option, Some, None}
use Rattle.isp_base.specs.Lists.{Has}
use Rattle.isp_forest.specs.Search.{Covered, Item, Known}
use Rattle.isp_events.specs.Stored.{StoredTable, indexed, table_at, tree_of}
use Rattle.isp_events.specs.Sessions.{EntryAt, Note, Phase, visiting, SessionState, session_at, Work}
use Rattle.isp_events.specs.State.{TreeSearch, session_count}
use Rattle.isp_events.specs.Ways.{Ways, by_box}
use Rattle.isp_events.specs.Reading.{is_of}
use Rattle.isp_order.specs.Trees.{is_placing}

-- nothing that a search could find is out of its reach
abbrev pub AreCovered : List StoredTable → List TreeSearch → Type 0
AreCovered tables searches = (x : TreeSearch) → Has searches x → Covered (tree_of (table_at tables x.table) x.column) x.search

abbrev pub is_in_tree : ℕ → ℕ → EntryAt → Bool
is_in_tree table column e = (e.table == table) && (e.column == column)

abbrev pub item_of : ℕ → ℕ → ℕ → Note → Option Item
item_of s table column note =
    cond (is_placing note.how && is_in_tree table column note.entry)
    (Some (record { session = s; statement = note.statement; key = note.entry.key; number = note.entry.number })) None

abbrev pub items_from : ℕ → ℕ → ℕ → List SessionState → List Item
items_from k table column [] = []
items_from k table column (session ∷ sessions) = filter_map (item_of k table column) session.notes ++ items_from (suc k) table column sessions

-- the entries that sessions placed in that tree
abbrev pub items_of : List SessionState → ℕ → ℕ → List Item
items_of sessions table column = items_from 0 table column sessions

-- what lies on leaves that a search is on is found, or its session's own
abbrev pub AreKnown : List StoredTable → List TreeSearch → List SessionState → Type 0
AreKnown tables searches sessions =
    (x : TreeSearch) → Has searches x → Known (tree_of (table_at tables x.table) x.column) x.search (items_of sessions x.table x.column)

abbrev pub is_visiting : Phase → Bool
is_visiting visiting = true
is_visiting _ = false

-- the search of a statement that is at work: the one that its way names, with pages left to visit exactly while it visits
pub record IsOfWork (ways : Ways) (tables : List StoredTable) (session : SessionState) (x : TreeSearch) : Type 0 where
  pub work : Work
  pub at_work : session.work ≡ Some work
  pub of_table : work.table ≡ x.table
  pub way : ways (table_at tables x.table).schema work.statement ≡ by_box x.column x.search.predicate
  pub visits : is_visiting work.phase ≡ true → x.search.stack ≡ [] → ⊥
  pub visited : is_visiting work.phase ≡ false → x.search.stack ≡ []
  pub unfailed : is_visiting work.phase ≡ true → work.failure ≡ None

-- it has visited all, and its transaction is open
pub record IsOfEarlier (session : SessionState) (x : TreeSearch) : Type 0 where
  pub inside : session.inside ≡ true
  pub visited : x.search.stack ≡ []

-- a search is one of a tree, and of its session's present statement or an earlier one of its transaction
pub record Belongs (ways : Ways) (tables : List StoredTable) (sessions : List SessionState) (x : TreeSearch) : Type 0 where
  pub numbered : x.search.session < session_count
  pub column : Has (indexed (table_at tables x.table)) x.column
  pub statement : x.search.statement ≤ (session_at sessions x.search.session).number
  pub earlier : x.search.statement < (session_at sessions x.search.session).number → IsOfEarlier (session_at sessions x.search.session) x
  pub present : x.search.statement ≡ (session_at sessions x.search.session).number → IsOfWork ways tables (session_at sessions x.search.session) x

pub record AllBelong (ways : Ways) (tables : List StoredTable) (searches : List TreeSearch) (sessions : List SessionState) : Type 0 where
  pub each : (x : TreeSearch) → Has searches x → Belongs ways tables sessions x
  pub one : (s statement : ℕ) → length (filter (is_of s statement) searches) ≤ 1
