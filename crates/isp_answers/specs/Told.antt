-- What sessions were told in transactions that are open, in a state in order: done again on the committed tables, each answer comes out,
-- and what it rests on is locked (strict two-phase locking after Eswaran, Gray, Lorie and Traiger 1976; searches as predicate locks).
use Rattle.std.specs.Prelude.{◌≡◌, ◌⊎◌, ℕ, suc, ℤ, Bool, true, false, ◌||◌, ◌&&◌, List, [], ◌∷◌, slice_get, MatchBool, Option, Some, None}
use Rattle.std.specs.Option.{option_map}
use Rattle.isp_base.specs.Lists.{Has}
use Rattle.isp_mbr.specs.declared.predicate.Predicate.{Predicate}
use Rattle.isp_reclock.specs.declared.modes.Mode.{Mode}
use Rattle.isp_reclock.specs.declared.modes.Mode.TheVariants.{S, X}
use Rattle.isp_reclock.specs.Tables.{takes}
use Rattle.isp_plain.specs.declared.statement.Statement.{Statement}
use Rattle.isp_plain.specs.declared.statement.Statement.TheVariants.{Create, Insert, Select, Update, Delete, Rollback}
use Rattle.isp_plain.specs.declared.value.Row.{Row}
use Rattle.isp_plain.specs.Does.{place_of}
use Rattle.isp_plain.specs.Entries.{has_key, with_row}
use Rattle.isp_plain.specs.Tables.{Table}
use Rattle.isp_plain.specs.Values.{key_of}
use Rattle.isp_serial.specs.Answers.{Answer, is_end, is_full, is_deadlock}
use Rattle.isp_serial.specs.Script.{text_at}
use Rattle.isp_serial.specs.Serial.{Agrees, Pending, effect_of, is_given, is_inside, place_at}
use Rattle.isp_serial.specs.Transactions.{is_begin, is_ok}
use Rattle.isp_changes.specs.Rows.{row_at}
use Rattle.isp_events.specs.Stored.{StoredTable}
use Rattle.isp_events.specs.Sessions.{SessionState, session_at, outgrows_by}
use Rattle.isp_events.specs.State.{State, TreeSearch}
use Rattle.isp_events.specs.Views.{beginning_view, committed}
use Rattle.isp_events.specs.Ways.{Machine, Way, by_key, by_box, by_scan}
use Rattle.isp_events.specs.Next.{key_mode}
use Rattle.isp_events.specs.Reading.{is_of}
use Rattle.isp_order.specs.Locks.{Holds, without_rows}

-- ---- what an answer rests on

-- one search of that statement, which has nothing left to visit, and each key that it found is locked
pub record IsSearched (state : State) (s number table column : ℕ) (predicate : Predicate) (mode : Mode) : Type 0 where
  pub search : TreeSearch
  pub among : Has state.searches search
  pub of : is_of s number search ≡ true
  pub of_table : search.table ≡ table
  pub of_column : search.column ≡ column
  pub same_predicate : search.search.predicate ≡ predicate
  pub done : search.search.stack ≡ []
  pub each : (key : ℤ) → Has search.search.found key → Holds state.locks s table (Some key) mode

-- by key it is locked, by scan the table is, by box there is its search
abbrev pub IsReadBy : State → ℕ → ℕ → ℕ → Mode → Way → Type 0
IsReadBy state s number table mode (by_key key) = Holds state.locks s table (Some key) mode
IsReadBy state s number table mode (by_box column predicate) = IsSearched state s number table column predicate mode
IsReadBy state s number table mode by_scan = Holds state.locks s table None S ⊎ Holds state.locks s table None X

-- a row that holds and would get too large, whose key is locked
pub record IsTooLarge (state : State) (s number : ℕ) (table : Table) (statement : Statement) : Type 0 where
  pub key : ℤ
  pub row : Row
  pub there : row_at table.rows key ≡ Some row
  pub outgrows : outgrows_by table.schema statement row ≡ true
  pub taken : takes state.locks number key s ≡ true

-- the keys of INSERT's rows are locked, up to and with the first that is there already
abbrev pub AreTaken : State → ℕ → ℕ → List (ℤ × Row) → List Row → Type 0
AreTaken state s table entries [] = Unit {0}
AreTaken state s table entries (row ∷ rows) =
    (takes state.locks table (key_of row) s ≡ true)
    × MatchBool (has_key entries (key_of row)) (Unit {0}) (AreTaken state s table (with_row entries (key_of row) row) rows)

-- what the answer to a statement on this table, at this place, rests on
abbrev pub RestsOn : Machine → State → ℕ → ℕ → ℕ → Table → Statement → Type 0
RestsOn m state s number place table (Insert name rows) = AreTaken state s (suc place) table.rows rows
RestsOn m state s number place table (Select name columns w) = IsReadBy state s number (suc place) S (m.ways table.schema (Select name columns w))
RestsOn m state s number place table (Update name sets w) =
    IsTooLarge state s (suc place) table (Update name sets w) ⊎ IsReadBy state s number (suc place) X (m.ways table.schema (Update name sets w))
RestsOn m state s number place table (Delete name w) = IsReadBy state s number (suc place) X (m.ways table.schema (Delete name w))
RestsOn m state s number place table _ = Unit {0}

pub record RestsIn (m : Machine) (state : State) (s number : ℕ) (tables : List Table) (name : List ℕ) (statement : Statement) : Type 0 where
  pub place : ℕ
  pub table : Table
  pub place_is : place_of tables name ≡ Some place
  pub there : slice_get tables place ≡ Some table
  pub rests : RestsOn m state s number place table statement

-- CREATE is no statement of a transaction
abbrev pub Rests : Machine → State → ℕ → ℕ → List Table → Statement → Type 0
Rests m state s number tables (Create name schema) = ⊥
Rests m state s number tables (Insert name rows) = RestsIn m state s number tables name (Insert name rows)
Rests m state s number tables (Select name columns w) = RestsIn m state s number tables name (Select name columns w)
Rests m state s number tables (Update name sets w) = RestsIn m state s number tables name (Update name sets w)
Rests m state s number tables (Delete name w) = RestsIn m state s number tables name (Delete name w)
Rests m state s number tables _ = Unit {0}

abbrev pub RestsText : Machine → State → ℕ → ℕ → Bool → List Table → Option (List ℕ) → Type 0
RestsText m state s number inside tables (Some text) = Rests m state s number tables (m.language.meaning tables (place_at s inside) text)
RestsText m state s number inside tables None = Unit {0}

-- an answer that is taken as given reads nothing
abbrev pub RestsAt : Machine → State → ℕ → Bool → List Table → Answer → Type 0
RestsAt m state s inside tables answer =
    MatchBool (is_given answer) (Unit {0}) (RestsText m state s answer.number inside tables (text_at m.script answer.session answer.number))

-- ---- the answers of an open transaction

-- done again on the tables each answer agrees, and rests on something that is locked now
abbrev pub Stand : Machine → State → ℕ → Bool → List Table → List Answer → List Table → Type 0
Stand m state s inside tables [] after = after ≡ tables
Stand m state s inside tables (answer ∷ others) after =
    let effect = effect_of m.language (text_at m.script answer.session answer.number)
    in (mid : List Table) × Agrees m.language m.script inside tables answer mid × RestsAt m state s inside tables answer
    × Stand m state s (inside || (is_begin effect && is_ok answer)) mid others after

-- the first of them is an OK to BEGIN
abbrev pub AreBegun : Machine → List Answer → Type 0
AreBegun m [] = Unit {0}
AreBegun m (answer ∷ answers) = (is_begin (effect_of m.language (text_at m.script answer.session answer.number)) && is_ok answer) ≡ true

-- the statement that comes next
abbrev pub statement_next : Machine → List StoredTable → ℕ → SessionState → Option Statement
statement_next m tables s session = option_map (λ text. m.language.meaning (without_rows tables) (place_at s session.inside) text) (text_at m.script s session.number)

abbrev pub rolls_back : Option Statement → Bool
rolls_back None = true
rolls_back (Some Rollback) = true
rolls_back _ = false

-- the session gives its transaction up: as a victim, with ROLLBACK, or with its end
abbrev pub gives_up : Machine → List StoredTable → ℕ → SessionState → Bool
gives_up m tables s session = session.victim || rolls_back (statement_next m tables s session)

-- what is told of the session's open transaction: its own answers, which stand on the committed tables, and leave what it saw as its
-- statement began, unless it gives the transaction up
pub record IsTold (m : Machine) (state : State) (s : ℕ) (answers : List Answer) : Type 0 where
  pub own : (answer : Answer) → Has answers answer → answer.session ≡ s
  pub inside : is_inside answers ≡ (session_at state.sessions s).inside
  pub begun : AreBegun m answers
  pub left : List Table
  pub stand : Stand m state s false (committed state) answers left
  pub seen : gives_up m state.tables s (session_at state.sessions s) ≡ false → left ≡ beginning_view state s

abbrev pub AreTold : Machine → State → Pending → Type 0
AreTold m state pending = (s : ℕ) → IsTold m state s (pending s)
