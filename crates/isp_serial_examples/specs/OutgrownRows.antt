-- A clause that is not stronger than it has to be: a statement that was refused for a row that would get too large rests on a lock of the
-- row's key. The table is one of two texts and no tree, with one row.
use Rattle.std.specs.Prelude.{◌≡◌, ◌⊎◌, ℕ, ℤ, suc, pos, ◌||◌, ◌&&◌, Bool, true, false, is_none, codes, List, [], ◌∷◌, ◌++◌, filter, replicate, slice_get, MatchBool, Option, Some, None}
use Rattle.isp_base.specs.Lists.{Has}
use Rattle.isp_plain.specs.declared.statement.Statement.{Statement}
use Rattle.isp_plain.specs.declared.statement.Statement.TheVariants.{Begin, Commit, Update}
use Rattle.isp_plain.specs.declared.value.Kind.TheVariants.{BigInt, VarChar}
use Rattle.isp_plain.specs.declared.value.Row.{Row}
use Rattle.isp_plain.specs.declared.value.Schema.{Schema}
use Rattle.isp_plain.specs.declared.value.Value.TheVariants as value
use Rattle.isp_plain.specs.Does.{place_of}
use Rattle.isp_plain.specs.Tables.{Table}
use Rattle.isp_changes.specs.Rows.{row_at}
use Rattle.isp_reclock.specs.declared.entries.Lock.{Lock}
use Rattle.isp_reclock.specs.declared.modes.Mode.TheVariants.{X}
use Rattle.isp_serial.specs.Answers.{Answer}
use Rattle.isp_serial.specs.Script.{text_at}
use Rattle.isp_serial.specs.Serial.{Agrees, EndsAll, Pending, effect_of, is_given, is_inside, none_pending, place_at}
use Rattle.isp_serial.specs.Transactions.{is_begin, is_ok}
use Rattle.isp_events.specs.Stored.{StoredTable}
use Rattle.isp_events.specs.Sessions.{fresh, outgrows_by, session_at}
use Rattle.isp_events.specs.State.{State, no_waits}
use Rattle.isp_events.specs.Views.{beginning_view, committed}
use Rattle.isp_events.specs.Ways.{Machine}
use Rattle.isp_events.specs.Lines.{answers_in}
use Rattle.isp_events.specs.Events.{Event, MayFollow, after_all, lines_of_all}
use Rattle.isp_event_laws.specs.SerialAfter.{becoming, replayed, serial_from}
use Rattle.isp_order.specs.InOrder.{InOrder}
use Rattle.isp_answers.specs.Course.{AreOnCourse}
use Rattle.isp_answers.specs.Told.{AreBegun, IsReadBy, IsTold, Rests, gives_up}
use Rattle.isp_event_examples.specs.Language.{with_key}
use Rattle.isp_event_examples.specs.Points.{machine_of, nothing}
use Rattle.isp_event_examples.specs.WrongRuns.{texts}
use Rattle.isp_order_examples.specs.BrokenClauses.{by, writes_row}
use Rattle.isp_serial_examples.specs.NeededClauses.{texts_in}

-- ---- a table of two texts

-- half of what a row may have
abbrev pub long : List ℕ
long = replicate 500 97

abbrev pub named_n : List ℕ
named_n = codes "n"

abbrev pub notes_schema : Schema
notes_schema = record {
  columns = record { name = codes "id"; kind = BigInt; indexed = false } ∷ record { name = codes "a"; kind = VarChar 500; indexed = false }
      ∷ record { name = codes "b"; kind = VarChar 500; indexed = false } ∷ [];
}

abbrev pub notes_row : List ℕ → List ℕ → Row
notes_row a b = record { values = value.Int (pos 1) ∷ value.Text a ∷ value.Text b ∷ [] }

abbrev pub notes_kept : StoredTable
notes_kept = record {
  name = named_n;
  schema = notes_schema;
  leaves = record { page = 16; rows = (pos 1, record { row = notes_row long []; numbers = []; mark = false; slot = 504 }) ∷ [] } ∷ [];
  others = [];
  trees = [];
}

-- the state that its setup leaves, with two sessions
abbrev pub one_long : State
one_long = record {
  pages = 96;
  fanout = 4;
  tables = notes_kept ∷ [];
  entries = 0;
  bytes = 517;
  locks = [];
  searches = [];
  sessions = fresh true ∷ fresh false ∷ fresh false ∷ replicate 14 (fresh true);
  waits = no_waits;
  queue = [];
}

-- the plain table with that row
abbrev pub notes_of : List ℕ → Table
notes_of a = record { name = named_n; schema = notes_schema; rows = (pos 1, notes_row a []) ∷ [] }

-- ---- a statement is refused, and what it was refused for goes

-- with a long text in both columns the row would get too large
abbrev pub lengthening : Statement
lengthening = Update named_n (record { column = 2; v = value.Text long } ∷ []) (with_key 1)

abbrev pub emptying : Statement
emptying = Update named_n (record { column = 1; v = value.Text [] } ∷ []) (with_key 1)

-- one session would put a second long text into the row, from which another takes the first
abbrev pub growing : Machine
growing = machine_of (Begin ∷ lengthening ∷ Commit ∷ emptying ∷ []) (texts (0 ∷ 1 ∷ 2 ∷ [])) (texts (3 ∷ [])) []

abbrev pub until_refused : List Event
until_refused = by 1 (nothing 4)

abbrev pub refused : State
refused = after_all growing one_long until_refused

-- the key of the row isn't locked
abbrev pub unlocked : State
unlocked = record refused { locks = filter (λ (lock : Lock). is_none lock.held.key) refused.locks }

abbrev pub until_emptied : List Event
until_emptied = by 2 (nothing 2 ++ writes_row ∷ nothing 1)

-- and then the first one commits
abbrev pub until_committed : List Event
until_committed = until_emptied ++ by 1 (nothing 1)

abbrev pub begun_answer : Answer
begun_answer = record { turn = 1; session = 1; number = 1; text = codes "OK" }

abbrev pub refused_answer : Answer
refused_answer = record { turn = 1; session = 1; number = 2; text = codes "ERR 9011 HY000 row too large" }

abbrev pub answers_refused : List Answer
answers_refused = begun_answer ∷ refused_answer ∷ []

abbrev pub pending_refused : Pending
pending_refused = becoming (becoming none_pending 1 (begun_answer ∷ [])) 1 answers_refused

abbrev pub answers_unlocked : List Answer
answers_unlocked = answers_refused ++ answers_in (lines_of_all growing unlocked until_committed)

-- ---- the weaker clause

-- a row that holds and would get too large, whatever is locked
pub record IsTooLargeUnlocked (table : Table) (statement : Statement) : Type 0 where
  pub key : ℤ
  pub row : Row
  pub there : row_at table.rows key ≡ Some row
  pub outgrows : outgrows_by table.schema statement row ≡ true

-- what the answer to UPDATE rests on then
pub record UpdateRests (m : Machine) (state : State) (s number : ℕ) (tables : List Table) (name : List ℕ) (statement : Statement) : Type 0 where
  pub place : ℕ
  pub table : Table
  pub place_is : place_of tables name ≡ Some place
  pub there : slice_get tables place ≡ Some table
  pub rests : IsTooLargeUnlocked table statement ⊎ IsReadBy state s number (suc place) X (m.ways table.schema statement)

-- and that to any other statement on what it rested on
abbrev pub RestsUnlocked : Machine → State → ℕ → ℕ → List Table → Statement → Type 0
RestsUnlocked m state s number tables (Update name sets w) = UpdateRests m state s number tables name (Update name sets w)
RestsUnlocked m state s number tables statement = Rests m state s number tables statement

abbrev pub TextRests : Machine → State → ℕ → ℕ → Bool → List Table → Option (List ℕ) → Type 0
TextRests m state s number inside tables (Some text) = RestsUnlocked m state s number tables (m.language.meaning tables (place_at s inside) text)
TextRests m state s number inside tables None = Unit {0}

abbrev pub AnswerRests : Machine → State → ℕ → Bool → List Table → Answer → Type 0
AnswerRests m state s inside tables answer =
    MatchBool (is_given answer) (Unit {0}) (TextRests m state s answer.number inside tables (text_at m.script answer.session answer.number))

-- done again on the tables each answer agrees, and rests on something
abbrev pub StandUnlocked : Machine → State → ℕ → Bool → List Table → List Answer → List Table → Type 0
StandUnlocked m state s inside tables [] after = after ≡ tables
StandUnlocked m state s inside tables (answer ∷ others) after =
    let effect = effect_of m.language (text_at m.script answer.session answer.number)
    in (mid : List Table) × Agrees m.language m.script inside tables answer mid × AnswerRests m state s inside tables answer
    × StandUnlocked m state s (inside || (is_begin effect && is_ok answer)) mid others after

-- what is told of the session's open transaction
pub record IsToldUnlocked (m : Machine) (state : State) (s : ℕ) (answers : List Answer) : Type 0 where
  pub own : (answer : Answer) → Has answers answer → answer.session ≡ s
  pub inside : is_inside answers ≡ (session_at state.sessions s).inside
  pub begun : AreBegun m answers
  pub left : List Table
  pub stand : StandUnlocked m state s false (committed state) answers left
  pub seen : gives_up m state.tables s (session_at state.sessions s) ≡ false → left ≡ beginning_view state s

-- ---- the state has all other clauses, and leads to answers that are not serial

-- The state is in order, and what was told stands by the weaker clause. What the session was told comes out again on the tables that are
-- committed until the other one ends, and not behind that end.
pub record RestsIsNeeded : Type 0 where
  pub happen : MayFollow growing 1 1 one_long until_refused
  pub tell : answers_in (lines_of_all growing one_long until_refused) ≡ answers_refused
  pub before : InOrder growing refused
  pub in_order : InOrder growing unlocked
  pub on_course : AreOnCourse unlocked
  pub ended : EndsAll growing.language growing.script (committed one_long) none_pending answers_refused (committed unlocked) pending_refused
  pub weaker : (s : ℕ) → IsToldUnlocked growing unlocked s (pending_refused s)
  pub fails : IsTold growing unlocked 1 answers_refused → ⊥
  pub goes_on : MayFollow growing 1 1 unlocked until_committed
  pub first : committed unlocked ≡ notes_of long ∷ []
  pub agrees : replayed growing.language growing.script false (notes_of long ∷ []) answers_refused ≡ Some (notes_of long ∷ [])
  pub afterwards : committed (after_all growing unlocked until_emptied) ≡ notes_of [] ∷ []
  pub agrees_no_more : replayed growing.language growing.script false (notes_of [] ∷ []) answers_refused ≡ None
  pub answered : texts_in answers_unlocked ≡ codes "OK" ∷ codes "ERR 9011 HY000 row too large" ∷ codes "OK 1 rows" ∷ codes "OK" ∷ []
  pub not_serial : serial_from growing.language growing.script (committed one_long) none_pending answers_unlocked ≡ None
