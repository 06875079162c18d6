-- The laws of the page machine's words: a run is a sequence of events, an event of a session is the one that comes next and tells what
-- it did, an entry waits for exactly the sessions whose searches it would disturb, and answers are serial where they
-- compute so.
use Rattle.std.specs.Prelude.{◌≡◌, ◌↔◌, ◌<◌, ℕ, ◌==◌, true, false, List, [], ◌∷◌, ◌++◌, Some}
use Rattle.std.specs.List.Sorted.{IsStrictlyIncreasing}
use Rattle.isp_base.specs.Lists.{Has}
use Rattle.isp_mbr.specs.Predicates.{satisfies}
use Rattle.isp_plain.specs.declared.statement.Reply.TheVariants as reply
use Rattle.isp_plain.specs.Tables.{Table}
use Rattle.isp_plain.specs.Texts.{reply_text}
use Rattle.isp_serial.specs.declared.script.Script.{Script}
use Rattle.isp_serial.specs.Answers.{Answer}
use Rattle.isp_serial.specs.Serial.{EndsAll, Pending, none_pending}
use Rattle.isp_serial.specs.Transactions.{Language}
use Rattle.isp_forest.specs.Tree.{Tree}
use Rattle.isp_forest.specs.Steps.{is_among}
use Rattle.isp_forest.specs.Place.{Stands}
use Rattle.isp_forest.specs.Search.{Search}
use Rattle.isp_forest.specs.Attach.{is_tested, percolates}
use Rattle.isp_forest.specs.Visit.{visit}
use Rattle.isp_searches.specs.SearchLaws.{MayPlace}
use Rattle.isp_events.specs.Stored.{table_at, tree_of}
use Rattle.isp_events.specs.Sessions.{session_at}
use Rattle.isp_events.specs.State.{State, TreeSearch, session_count}
use Rattle.isp_events.specs.Ways.{Machine}
use Rattle.isp_events.specs.Lines.{Line, On, Told, Visit, answer, waits_for_table, waits_for_key, waits_to_insert, traced, locked_table, locked_key, visited_page, stepped_to, found_stale, placed_entry, wrote_row, scanned_leaf, found_full, undid}
use Rattle.isp_events.specs.Next.{Descent, EventKind, answers, undoes, creates, asks_table, asks_key, visits, scans, steps, goes_stale, finds_full, places, writes, next, path_stands}
use Rattle.isp_events.specs.Deadlocks.{deadlock_lines}
use Rattle.isp_events.specs.Reading.{search_before, visited}
use Rattle.isp_events.specs.Placing.{in_the_way, last_page, percolating, place_told, searches_of, sessions_on, tree_for}
use Rattle.isp_events.specs.Writing.{written_as}
use Rattle.isp_events.specs.Events.{acts, Choice, with_blockers, with_child, with_divisions, with_roots, Events, MayChoose, MayHappen, deadlocks_in, full_reply, lines_of, whose_of}
use Rattle.isp_events.specs.Runs.{Run}
use Rattle.isp_event_laws.specs.SerialAfter.{serial_from}

-- ---- runs and sequences

abbrev pub RunIsEvents : Type 0
RunIsEvents = (m : Machine) (before : State) (lines : List Line) (left : State) → Run m before lines left → (last : ℕ) × Events m 0 last before lines left

abbrev pub EventsJoin : Type 0
EventsJoin =
    (m : Machine) (first middle last : ℕ) (before between left : State) (lines more : List Line)
    → Events m first middle before lines between → Events m middle last between more left → Events m first last before (lines ++ more) left

-- ---- an event and its line

-- a visit of the page remembered last, which leaves `rest` to visit, tells that page, what is remembered newly, and the keys found
-- newly
pub record IsVisitOf (tree : Tree) (x : Search) (rest : List (ℕ × ℕ)) (page ssn : ℕ) (v : Visit) : Type 0 where
  pub of : v.page ≡ page
  pub again : v.again ≡ is_among x.on page
  pub visits : visited tree x ≡ visit tree rest page ssn x
  pub pushed : (visited tree x).stack ≡ rest ++ v.pushed
  pub found : (visited tree x).found ≡ x.found ++ v.found

abbrev pub TellsVisit : Tree → ℕ → ℕ → Search → Told → Type 0
TellsVisit tree number column x told =
    (v : Visit) × (told ≡ traced (visited_page v)) × (v.table ≡ number) × (v.column ≡ column)
    × ((rest : List (ℕ × ℕ)) (page ssn : ℕ) → x.stack ≡ rest ++ (page, ssn) ∷ [] → IsVisitOf tree x rest page ssn v)

-- what the line of an event of that kind tells
abbrev pub Tells : State → ℕ → EventKind → Choice → Told → Type 0
Tells state s (answers reply ends) choice told = told ≡ answer (reply_text reply)
Tells state s (undoes entry) choice told = told ≡ traced (undid entry.table entry.key)
Tells state s (creates name schema) (with_roots leaf roots) told = told ≡ answer (reply_text reply.Ok)
Tells state s (creates name schema) choice told = told ≡ answer (reply_text full_reply)
Tells state s (asks_table statement number mode) (with_blockers by ds) told = told ≡ waits_for_table number mode by
Tells state s (asks_table statement number mode) choice told = told ≡ traced (locked_table number mode)
Tells state s (asks_key number key mode) (with_blockers by ds) told = told ≡ waits_for_key number key mode by
Tells state s (asks_key number key mode) choice told = told ≡ traced (locked_key number key mode)
Tells state s (visits number column predicate) choice told =
    let tree = tree_of (table_at state.tables number) column in
    TellsVisit tree number column (search_before state.searches tree s (session_at state.sessions s).number predicate) told
Tells state s (scans number leaf) choice told = told ≡ traced (scanned_leaf number leaf.page)
Tells state s (steps d) choice told = (q : ℕ) × (choice ≡ with_child q) × (told ≡ traced (stepped_to d.table d.column q))
Tells state s (goes_stale d) choice told = told ≡ traced (found_stale d.table d.column)
Tells state s finds_full choice told = told ≡ traced found_full
Tells state s (places d) (with_divisions q ds) told = told ≡ traced (placed_entry (place_told state s d q ds))
Tells state s (places d) choice told = told ≡ waits_to_insert d.table d.column d.box (last_page d.path) (in_the_way state s d)
Tells state s (writes number change placed) choice told =
    told ≡ traced (wrote_row number change.key (written_as (table_at state.tables number) change change.new))

-- an event of a session is of the kind that comes next, and its lines are what that kind tells and its deadlocks
pub record IsNext (m : Machine) (state : State) (turn s : ℕ) (choice : Choice) : Type 0 where
  pub kind : EventKind
  pub next_is : next m state s ≡ Some kind
  pub may : MayChoose state s kind choice
  pub told : Told
  pub tells : Tells state s kind choice told
  pub lines : lines_of m state turn (acts s) choice
      ≡ record { turn = turn; whose = whose_of state s; told = told } ∷ deadlock_lines turn (whose_of state s) (deadlocks_in choice)

abbrev pub NextIsTold : Type 0
NextIsTold = (m : Machine) (state : State) (turn s : ℕ) (choice : Choice) → MayHappen m state (acts s) choice → IsNext m state turn s choice

-- ---- an entry that is placed

-- a session and a page are listed exactly where a search of that session percolates to the page
pub record PercolatesFor (tree : Tree) (d : Descent) (searches : List TreeSearch) (session page : ℕ) : Type 0 where
  pub search : TreeSearch
  pub among : Has searches search
  pub session_is : search.search.session ≡ session
  pub percolates : Has (percolates tree search.search d.box d.path) page

abbrev pub ListsPercolating : Type 0
ListsPercolating =
    (tree : Tree) (d : Descent) (searches : List TreeSearch) (session page : ℕ)
    → Has {X = ℕ × ℕ} (percolating tree d searches) (session, page) ↔ PercolatesFor tree d searches session page

-- the search is another session's, of the entry's tree, is tested, and its predicate is satisfied
pub record IsInTheWay (state : State) (s : ℕ) (d : Descent) (x : TreeSearch) : Type 0 where
  pub among : Has (searches_of state.searches d) x
  pub other : (x.search.session == s) ≡ false
  pub tested : is_tested (tree_for state d) d.path d.box x.search ≡ true
  pub satisfied : satisfies x.search.predicate d.box ≡ true

-- a session stands in the way exactly where one of its searches does; sessions are named rising, each with the predicate of one of them
pub record NamesSearches (state : State) (s : ℕ) (d : Descent) : Type 0 where
  pub rising : IsStrictlyIncreasing (sessions_on (in_the_way state s d))
  pub each : (o : On) → Has (in_the_way state s d) o
      → (x : TreeSearch) × IsInTheWay state s d x × (o.session ≡ x.search.session) × (o.predicate ≡ x.search.predicate)
  pub all : (x : TreeSearch) → IsInTheWay state s d x → Has (sessions_on (in_the_way state s d)) x.search.session

-- the sessions of all searches have numbers
abbrev pub AreNumbered : State → Type 0
AreNumbered state = (x : TreeSearch) → Has state.searches x → x.search.session < session_count

abbrev pub NamesWhoIsInTheWay : Type 0
NamesWhoIsInTheWay = (state : State) (s : ℕ) (d : Descent) → AreNumbered state → NamesSearches state s d

-- where an entry is placed, nobody else's search is disturbed
abbrev pub PlacesUndisturbing : Type 0
PlacesUndisturbing =
    (state : State) (s : ℕ) (d : Descent) (statement : ℕ) (x : TreeSearch) → AreNumbered state → in_the_way state s d ≡ []
    → Has (searches_of state.searches d) x → (x.search.session == s) ≡ false
    → MayPlace (tree_for state d) d.path d.box s statement x.search

-- the test of a path says exactly that it stands
abbrev pub StandsIsDecided : Type 0
StandsIsDecided = (tree : Tree) (path : List ℕ) → (path_stands tree path ≡ true) ↔ Stands tree path

-- ---- serial answers

abbrev pub SerialComputes : Type 0
SerialComputes =
    (language : Language) (script : Script) (before : List Table) (answers : List Answer) (after : List Table) (left : Pending)
    → EndsAll language script before none_pending answers after left → serial_from language script before none_pending answers ≡ Some after
