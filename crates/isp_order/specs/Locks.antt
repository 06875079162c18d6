-- Locks and waits, when they are in order: nobody holds what excludes another, what is written is locked, and nobody waits in a
-- circle (locks of tables and rows, with intentions, as the MySQL 8.0 manual has them for InnoDB).
use Rattle.std.specs.Prelude.{◌≡◌, ◌⊎◌, ℕ, ℤ, ◌==◌, ◌&&◌, true, false, not, cond, List, [], ◌∷◌, Option, Some, None}
use Rattle.std.specs.Option.{option_and_then}
use Rattle.isp_base.specs.Lists.{Has}
use Rattle.isp_mbr.specs.Corners.{Corners}
use Rattle.isp_mbr.specs.Predicates.{satisfies}
use Rattle.isp_reclock.specs.declared.entries.Lock.{Lock}
use Rattle.isp_reclock.specs.declared.modes.Mode.{Mode}
use Rattle.isp_reclock.specs.declared.modes.Mode.TheVariants.{IS, IX, S, X}
use Rattle.isp_reclock.specs.Modes.{IsKeyMode, conflicts}
use Rattle.isp_reclock.specs.Tables.{holds, key_lock, table_lock, takes}
use Rattle.isp_reclock.specs.Blockers.{lock_of}
use Rattle.isp_waits.specs.Graphs.{WaitsFor, waits_of}
use Rattle.isp_waits.specs.Cycles.{IsFree}
use Rattle.isp_plain.specs.declared.statement.Statement.{Statement}
use Rattle.isp_plain.specs.declared.statement.Statement.TheVariants.{Insert, Select, Update, Delete}
use Rattle.isp_plain.specs.Tables.{Table}
use Rattle.isp_serial.specs.Script.{text_at}
use Rattle.isp_serial.specs.Serial.{place_at}
use Rattle.isp_events.specs.Stored.{StoredTable, table_at}
use Rattle.isp_events.specs.Sessions.{Change, Entering, Failure, Note, Phase, locking, writing, Progress, unlocked, entering, SessionState, session_at, UndoEntry, Work}
use Rattle.isp_events.specs.State.{TreeSearch, is_empty}
use Rattle.isp_events.specs.Views.{seen}
use Rattle.isp_events.specs.Ways.{Machine, Ways}
use Rattle.isp_events.specs.Next.{box_of_new, key_mode, number_of, table_mode}

-- ---- locks

abbrev pub lock_on : ℕ → ℕ → Option ℤ → Mode → Lock
lock_on s table key mode = record { trx = s; held = record { table = table; key = key; mode = mode } }

-- the session holds this mode on the table, or on its key
abbrev pub Holds : List Lock → ℕ → ℕ → Option ℤ → Mode → Type 0
Holds locks s table key mode = holds locks (lock_on s table key mode) ≡ true

-- no two sessions hold modes of one thing that conflict
abbrev pub AreCompatible : List Lock → Type 0
AreCompatible locks =
    (s k table : ℕ) (key : Option ℤ) (a b : Mode) → Holds locks s table key a → Holds locks k table key b → (s == k) ≡ false → conflicts a b ≡ false

abbrev pub HoldsIntention : List Lock → ℕ → ℕ → Type 0
HoldsIntention locks s table = Holds locks s table None IS ⊎ Holds locks s table None IX

-- keys are locked in S behind IS of their table, and in X behind IX; and who searches has an intention
pub record AreIntended (locks : List Lock) (searches : List TreeSearch) : Type 0 where
  pub shared : (s table : ℕ) (key : ℤ) → Holds locks s table (Some key) S → Holds locks s table None IS
  pub exclusive : (s table : ℕ) (key : ℤ) → Holds locks s table (Some key) X → Holds locks s table None IX
  pub on_keys : (s table : ℕ) (key : ℤ) (mode : Mode) → Holds locks s table (Some key) mode → IsKeyMode mode
  pub searching : (x : TreeSearch) → Has searches x → HoldsIntention locks x.search.session x.table

-- what a session would undo, and of what it noted entries, it has locked with X, the key itself or its table
pub record AreLocked (locks : List Lock) (sessions : List SessionState) : Type 0 where
  pub undone : (s : ℕ) (undo : UndoEntry) → Has (session_at sessions s).undo undo → takes locks undo.table undo.key s ≡ true
  pub noted : (s : ℕ) (note : Note) → Has (session_at sessions s).notes note → takes locks note.entry.table note.entry.key s ≡ true

-- ---- sessions that do nothing

-- outside of a transaction, and with no statement behind its table lock
pub record IsIdle (session : SessionState) : Type 0 where
  pub outside : session.inside ≡ false
  pub no_work : session.work ≡ None

pub record HasNothing (locks : List Lock) (searches : List TreeSearch) (sessions : List SessionState) (s : ℕ) : Type 0 where
  pub no_lock : (lock : Lock) → Has locks lock → (lock.trx == s) ≡ false
  pub no_search : (x : TreeSearch) → Has searches x → (x.search.session == s) ≡ false
  pub no_undo : (session_at sessions s).undo ≡ []
  pub no_note : (session_at sessions s).notes ≡ []
  pub no_key : (session_at sessions s).written ≡ []

-- Who is idle has nothing; who is over is idle and waits for nobody; and so is everybody until the setup is over, which never is
-- inside a transaction. (Who is idle may wait for the table's lock of its next statement.)
pub record AreIdle (locks : List Lock) (searches : List TreeSearch) (sessions : List SessionState) (waits : List (List ℕ)) : Type 0 where
  pub nothing : (s : ℕ) → IsIdle (session_at sessions s) → HasNothing locks searches sessions s
  pub over : (s : ℕ) → (session_at sessions s).over ≡ true → IsIdle (session_at sessions s) × (waits_of waits s ≡ [])
  pub setup_first : (session_at sessions 0).over ≡ false → (s : ℕ) → (s == 0) ≡ false → IsIdle (session_at sessions s) × (waits_of waits s ≡ [])
  pub setup_outside : (session_at sessions 0).inside ≡ false

-- ---- waits

-- what a session asks for: a lock, or that an entry is placed in a table's tree
pub data Demand : Type 0 where
  for_lock : Lock → Demand
  for_entry : ℕ → ℕ → Corners → Demand

abbrev pub demand_of_columns : ℕ → Change → List ℕ → Option Demand
demand_of_columns table change [] = None
demand_of_columns table change (column ∷ columns) = Some (for_entry table column (box_of_new change.new column))

-- an entry whose path is complete
abbrev pub demand_of_entering : ℕ → Change → Entering → Option Demand
demand_of_entering table change e = cond (not (is_empty e.path) && e.at_leaf) (demand_of_columns table change e.columns) None

abbrev pub demand_of_progress : ℕ → ℕ → Change → Progress → Option Demand
demand_of_progress s table change unlocked = Some (for_lock (key_lock s table change.key X))
demand_of_progress s table change (entering e) = demand_of_entering table change e

abbrev pub demand_of_phase : ℕ → Work → Phase → Option Demand
demand_of_phase s work (locking (key ∷ keys)) = Some (for_lock (key_lock s work.table key (key_mode work.statement)))
demand_of_phase s work (writing done (change ∷ left) progress) = demand_of_progress s work.table change progress
demand_of_phase s work _ = None

-- who has failed undoes
abbrev pub demand_unfailed : Option Failure → Option Demand → Option Demand
demand_unfailed (Some failure) demand = None
demand_unfailed None demand = demand

abbrev pub demand_of_work : ℕ → Work → Option Demand
demand_of_work s work = demand_unfailed work.failure (demand_of_phase s work work.phase)

abbrev pub demand_on_table : Ways → List StoredTable → ℕ → Statement → List ℕ → Option Demand
demand_on_table ways tables s statement name =
    let number = number_of tables name in
    Some (for_lock (table_lock s number (table_mode statement (ways (table_at tables number).schema statement))))

-- a statement that begins asks for its table's lock
abbrev pub demand_at_first : Ways → List StoredTable → ℕ → Statement → Option Demand
demand_at_first ways tables s (Insert name rows) = demand_on_table ways tables s (Insert name rows) name
demand_at_first ways tables s (Select name columns w) = demand_on_table ways tables s (Select name columns w) name
demand_at_first ways tables s (Update name sets w) = demand_on_table ways tables s (Update name sets w) name
demand_at_first ways tables s (Delete name w) = demand_on_table ways tables s (Delete name w) name
demand_at_first ways tables s _ = None

-- the tables' names and columns, without rows
abbrev pub without_rows : List StoredTable → List Table
without_rows tables = seen (λ number key. None) tables

abbrev pub demand_of_statement : Machine → List StoredTable → ℕ → SessionState → List ℕ → Option Work → Option Demand
demand_of_statement m tables s session text None =
    demand_at_first m.ways tables s (m.language.meaning (without_rows tables) (place_at s session.inside) text)
demand_of_statement m tables s session text (Some work) = demand_of_work s work

-- what the session asks for where it stands; a victim asks for nothing
abbrev pub demand_of : Machine → List StoredTable → ℕ → SessionState → Option Demand
demand_of m tables s session =
    cond session.victim None
    (option_and_then (λ text. demand_of_statement m tables s session text session.work) (text_at m.script s session.number))

pub record HasConflicting (locks : List Lock) (by : ℕ) (asked : Lock) : Type 0 where
  pub mode : Mode
  pub held : holds locks (lock_of by asked mode) ≡ true
  pub conflict : conflicts mode asked.held.mode ≡ true

pub record HasSatisfied (searches : List TreeSearch) (by table column : ℕ) (box : Corners) : Type 0 where
  pub search : TreeSearch
  pub among : Has searches search
  pub session : search.search.session ≡ by
  pub of_table : search.table ≡ table
  pub of_column : search.column ≡ column
  pub satisfied : satisfies search.search.predicate box ≡ true

-- the session has what is in the way: a mode that conflicts, or a search that the box satisfies
abbrev pub StandsInTheWay : List Lock → List TreeSearch → ℕ → Demand → Type 0
StandsInTheWay locks searches by (for_lock asked) = HasConflicting locks by asked
StandsInTheWay locks searches by (for_entry table column box) = HasSatisfied searches by table column box

-- Whom a session waits for is another one, which still stands in the way of what it asks for. (So it isn't idle, and not over.)
pub record WaitsRightly (m : Machine) (tables : List StoredTable) (locks : List Lock) (searches : List TreeSearch) (sessions : List SessionState) (s by : ℕ) : Type 0 where
  pub other : (by == s) ≡ false
  pub demand : Demand
  pub asks : demand_of m tables s (session_at sessions s) ≡ Some demand
  pub stands : StandsInTheWay locks searches by demand

abbrev pub AreWaiting : Machine → List StoredTable → List Lock → List TreeSearch → List SessionState → List (List ℕ) → Type 0
AreWaiting m tables locks searches sessions waits =
    (s by : ℕ) → WaitsFor waits s by → WaitsRightly m tables locks searches sessions s by

-- no cycle of waits passes through anybody
abbrev pub HaveNoCycle : List (List ℕ) → Type 0
HaveNoCycle waits = (s : ℕ) → IsFree waits s
