-- A clause that is not stronger than it has to be: in a state a weaker one holds, and from it events lead to answers that are not serial. The
-- table is that of the five points.
use Rattle.std.specs.Prelude.{◌≡◌, ◌⊎◌, ℕ, ℤ, pos, true, codes, List, [], ◌∷◌, ◌++◌, map, Some, None}
use Rattle.isp_base.specs.Lists.{Has}
use Rattle.isp_mbr.specs.Predicates.{satisfies}
use Rattle.isp_plain.specs.declared.statement.Statement.TheVariants.{Begin, Commit}
use Rattle.isp_plain.specs.declared.value.Row.{Row}
use Rattle.isp_plain.specs.Tables.{Table}
use Rattle.isp_serial.specs.Answers.{Answer}
use Rattle.isp_serial.specs.Serial.{EndsAll, Pending, none_pending}
use Rattle.isp_forest.specs.declared.entry.Entry.{Entry}
use Rattle.isp_forest.specs.declared.entry.To.TheVariants as to
use Rattle.isp_forest.specs.Tree.{Node, Tree, page_at}
use Rattle.isp_forest.specs.Search.{Item, Search}
use Rattle.isp_events.specs.Stored.{StoredTable, table_at, tree_of}
use Rattle.isp_events.specs.Sessions.{SessionState}
use Rattle.isp_events.specs.State.{State, TreeSearch}
use Rattle.isp_events.specs.Views.{committed}
use Rattle.isp_events.specs.Ways.{Machine}
use Rattle.isp_events.specs.Lines.{answers_in}
use Rattle.isp_events.specs.Events.{Event, MayFollow, after_all, lines_of_all, with_nothing}
use Rattle.isp_event_laws.specs.SerialAfter.{becoming, serial_from}
use Rattle.isp_order.specs.Trees.{AreEntered, AreKeyed, AreNamed, AreNoted, AreNumbered, AreRestorable, AreWhole, HaveOneStatus}
use Rattle.isp_order.specs.Locks.{AreCompatible, AreIdle, AreIntended, AreLocked, AreWaiting, HaveNoCycle}
use Rattle.isp_order.specs.Searches.{AllBelong, AreCovered, AreKnown, items_of}
use Rattle.isp_order.specs.Work.{AreAllBefore, AreBound, AreChanging, AreOnPaths, AreStanding, HaveCollected, HaveKeys, HaveScanned, HaveTable, HaveWritten}
use Rattle.isp_order.specs.InOrder.{AreCounted, InOrder}
use Rattle.isp_answers.specs.Course.{AreOnCourse}
use Rattle.isp_answers.specs.Told.{AreTold}
use Rattle.isp_event_examples.specs.Points.{adding_point, five, goes_down, machine_of, named_p, nothing, point_row, points_meeting, points_schema, puts_on}
use Rattle.isp_event_examples.specs.WrongMachines.{own_unseen}
use Rattle.isp_event_examples.specs.WrongRuns.{texts}
use Rattle.isp_order_examples.specs.BrokenClauses.{by, exchanged}

-- the texts that these answers have
abbrev pub texts_in : List Answer → List (List ℕ)
texts_in answers = map (λ (a : Answer). a.text) answers

-- ---- entries that a search hasn't found

-- the session itself placed the entry, in whichever statement
pub record IsPlacedByOwn (x : Search) (items : List Item) (key : ℤ) (number : ℕ) : Type 0 where
  pub item : Item
  pub among : Has items item
  pub session : item.session ≡ x.session
  pub same_key : item.key ≡ key
  pub same_number : item.number ≡ number

-- what lies on a leaf that the search is on and satisfies its predicate is found, or its session placed it, earlier or later
abbrev pub KnownOrOwn : Tree → Search → List Item → Type 0
KnownOrOwn tree x items =
    (p : ℕ) (leaf : Node) (e : Entry) (key : ℤ) (number : ℕ) → Has x.on p → page_at tree p ≡ Some leaf → leaf.level ≡ 0
    → Has leaf.entries e → e.to ≡ to.Row key number → satisfies x.predicate e.b ≡ true → Has x.found key ⊎ IsPlacedByOwn x items key number

abbrev pub AreKnownOrOwn : List StoredTable → List TreeSearch → List SessionState → Type 0
AreKnownOrOwn tables searches sessions =
    (x : TreeSearch) → Has searches x → KnownOrOwn (tree_of (table_at tables x.table) x.column) x.search (items_of sessions x.table x.column)

-- in order, with another clause in place of *known*
pub record IsInOrderWith (m : Machine) (state : State) (Clause : Type 0) : Type 0 where
  pub counted : AreCounted state
  pub whole : AreWhole state.tables
  pub keyed : AreKeyed state.tables
  pub entered : AreEntered state.tables state.sessions
  pub numbered : AreNumbered state.tables state.entries
  pub noted : AreNoted state.tables state.sessions state.queue
  pub one_status : HaveOneStatus state.tables state.sessions state.queue
  pub named : AreNamed state.tables state.sessions
  pub restorable : AreRestorable state.tables state.sessions
  pub no_conflict : AreCompatible state.locks
  pub intended : AreIntended state.locks state.searches
  pub written_locked : AreLocked state.locks state.sessions
  pub idle : AreIdle state.locks state.searches state.sessions state.waits
  pub waiting : AreWaiting m state.tables state.locks state.searches state.sessions state.waits
  pub no_cycle : HaveNoCycle state.waits
  pub covered : AreCovered state.tables state.searches
  pub other : Clause
  pub belongs : AllBelong m.ways state.tables state.searches state.sessions
  pub bound : AreBound m state.tables state.sessions
  pub table_locked : HaveTable m.ways state.tables state.locks state.sessions
  pub keys_locked : HaveKeys m.ways state.tables state.locks state.searches state.sessions
  pub scanned : HaveScanned state.tables state.sessions
  pub standing : AreStanding state.tables state.sessions
  pub changing : AreChanging state.tables state.locks state.sessions
  pub collected : HaveCollected state.tables state.sessions
  pub written : HaveWritten state.sessions
  pub before : AreAllBefore state.sessions
  pub paths : AreOnPaths state.tables state.sessions

-- a session adds a row, and then looks for it
abbrev pub looking : Machine
looking = machine_of (Begin ∷ adding_point 6 1 1 ∷ points_meeting 0 0 2 2 ∷ Commit ∷ []) (texts (0 ∷ 1 ∷ 2 ∷ 3 ∷ [])) [] []

-- until the leaf is to be visited on which its entry lies
abbrev pub until_leaf : List Event
until_leaf = by 1 (nothing 3 ++ (goes_down (17 ∷ 19 ∷ []) ++ (puts_on 16 (18 ∷ []) ∷ nothing 3)))

-- the search leaves it out
abbrev pub left_out : State
left_out = exchanged looking 1 with_nothing own_unseen (after_all looking five until_leaf)

abbrev pub to_commit : List Event
to_commit = by 1 (nothing 3)

-- what it was told till then
abbrev pub began : Answer
began = record { turn = 1; session = 1; number = 1; text = codes "OK" }

abbrev pub added : Answer
added = record { turn = 1; session = 1; number = 2; text = codes "OK 1 rows" }

abbrev pub answers_until_leaf : List Answer
answers_until_leaf = began ∷ added ∷ []

abbrev pub pending_at_leaf : Pending
pending_at_leaf = becoming (becoming none_pending 1 (began ∷ [])) 1 answers_until_leaf

abbrev pub answers_left_out : List Answer
answers_left_out = answers_until_leaf ++ answers_in (lines_of_all looking left_out to_commit)

-- the plain table of the five points, and with the sixth
abbrev pub plain_row : ℕ → ℕ → ℕ → ℤ × Row
plain_row key x y = (pos key, point_row key x y)

abbrev pub plain_five : Table
plain_five = record {
  name = named_p;
  schema = points_schema;
  rows = plain_row 1 0 0 ∷ plain_row 2 10 0 ∷ plain_row 3 0 10 ∷ plain_row 4 10 10 ∷ plain_row 5 5 5 ∷ [];
}

abbrev pub five_rows : List Table
five_rows = plain_five ∷ []

abbrev pub six_rows : List Table
six_rows = record plain_five { rows = plain_five.rows ++ plain_row 6 1 1 ∷ [] } ∷ []

-- its answer lacks the row, which its transaction done again has
pub record KnownIsNeeded : Type 0 where
  pub happen : MayFollow looking 1 1 five until_leaf
  pub in_order : InOrder looking (after_all looking five until_leaf)
  pub weaker : IsInOrderWith looking left_out (AreKnownOrOwn left_out.tables left_out.searches left_out.sessions)
  pub fails : AreKnown left_out.tables left_out.searches left_out.sessions → ⊥
  pub on_course : AreOnCourse left_out
  pub tell : answers_in (lines_of_all looking five until_leaf) ≡ answers_until_leaf
  pub ended : EndsAll looking.language looking.script (committed five) none_pending answers_until_leaf (committed left_out) pending_at_leaf
  pub told : AreTold looking left_out pending_at_leaf
  pub goes_on : MayFollow looking 1 1 left_out to_commit
  pub answered : texts_in answers_left_out ≡ codes "OK" ∷ codes "OK 1 rows" ∷ codes "OK 1 rows (1,POINT(0 0))" ∷ codes "OK" ∷ []
  pub not_serial : serial_from looking.language looking.script (committed five) none_pending answers_left_out ≡ None
