-- What the calls of a connection make of the database that it is open on.
use Rattle.std.specs.Prelude.{◌≡◌, ℕ, Bool, true, false, List, [], if◌then◌else◌}
use Rattle.isp_catalog.specs.declared.table.TableDef.{TableDef}
use Rattle.isp_writes.specs.Causes.{FillsUp}
use Rattle.isp_chained.specs.Courses.{Reaches}
use Rattle.isp_tables.specs.Opened.{IsOpen}
use Rattle.isp_image.specs.Databases.{Database, HasNoMarked, committed, tables_of}
use Rattle.isp_page.specs.declared.pages.Pages.{Ghosts}
use Rattle.isp_plain.specs.Does.{does}
use Rattle.isp_plain.specs.Lined.{is_lined_statement}
use Rattle.isp_plain.specs.declared.refusal.Refusal.TheVariants.{FileFull}
use Rattle.isp_plain.specs.declared.statement.Reply.{Reply}
use Rattle.isp_plain.specs.declared.statement.Reply.TheVariants as reply
use Rattle.isp_plain.specs.declared.statement.Statement.{Statement}
use Rattle.isp_plain.specs.declared.statement.Statement.TheVariants.{Begin, Create}
use Rattle.isp_plan.specs.Meaning.{whole}
use Rattle.isp_serial.specs.Alone.{State, after_statement}
use Rattle.isp_serial.specs.Serial.{place_at}
use Rattle.isp_trx.specs.Transactions.{TrxState}
use Rattle.isp_connection.specs.Connections.{ConnectionState, Holds}

-- the statement that a text of the session means where the run stands so
abbrev pub meant : ℕ → List ℕ → State → Statement
meant session text state = whole.meaning state.present (place_at session state.inside) text

-- the connection is open on a database on the way from that one, and the run stands so
pub record Comes {S : Type 0} (g : Ghosts S) (now : S) (c : ConnectionState) (state : State) (old : Database) : Type 0 where
  pub after : Database
  pub holds : Holds g now c state after
  pub reaches : Reaches (g.shape now).pages old after

-- outside of a transaction no row is marked then
pub record ComesTidy {S : Type 0} (g : Ghosts S) (now : S) (c : ConnectionState) (state : State) (old : Database) : Type 0 where
  pub comes : Comes g now c state old
  pub tidy : c.inside ≡ false → HasNoMarked comes.after

-- the statement is done, or finds the file full and leaves all as it is
abbrev pub reply_or_full : Bool → State → Statement → Reply
reply_or_full full state statement = if full then reply.Err FileFull else (does state.present statement).reply

abbrev pub state_or_full : Bool → State → Statement → State
state_or_full full state statement = if full then state else after_statement state statement

-- The statement was answered so. Where it was answered that the file is full there was no room.
pub record Answered {S : Type 0} (g : Ghosts S) (now : S) (c : ConnectionState) (state : State) (statement : Statement) (old : Database) (answer : Reply) : Type 0 where
  pub full : Bool
  pub answer_is : answer ≡ reply_or_full full state statement
  pub comes : Comes g now c (state_or_full full state statement) old
  pub cause : full ≡ true → FillsUp (g.shape now).pages old comes.after

-- ---- its parts

abbrev pub is_create : Statement → Bool
is_create (Create name schema) = true
is_create _ = false

-- It puts no line feed into a table, in a transaction it makes none, and none begins in the setup.
pub record MayCome (session : ℕ) (state : State) (statement : Statement) : Type 0 where
  pub lined : is_lined_statement statement ≡ true
  pub outside : state.inside ≡ true → is_create statement ≡ false
  pub begins : session ≡ 0 → statement ≡ Begin → ⊥

-- The statement is done, or has found the file full, where there was no room.
pub record IsDone {S : Type 0} (g : Ghosts S) (now : S) (defs : List TableDef) (trx : TrxState) (statement : Statement) (old : Database) (answer : Reply) : Type 0 where
  pub full : Bool
  pub after : Database
  pub opened : IsOpen g now defs trx after
  pub answer_is : answer ≡ (if full then reply.Err FileFull else (does (tables_of old) statement).reply)
  pub tables : tables_of after ≡ (if full then tables_of old else (does (tables_of old) statement).tables)
  -- no row that it wrote is committed; a table that CREATE makes is
  pub same : is_create statement ≡ false → committed after ≡ committed old
  pub reaches : Reaches (g.shape now).pages old after
  pub cause : full ≡ true → FillsUp (g.shape now).pages old after

-- all changes are taken back, so that the tables of now are the committed ones
pub record GoesBack {S : Type 0} (g : Ghosts S) (now : S) (defs : List TableDef) (trx : TrxState) (old : Database) : Type 0 where
  pub after : Database
  pub opened : IsOpen g now defs trx after
  pub none : after.images ≡ []
  pub back : tables_of after ≡ committed old
  pub reaches : Reaches (g.shape now).pages old after

-- what was done is committed, for good
pub record CommitsAll {S : Type 0} (g : Ghosts S) (now : S) (defs : List TableDef) (trx : TrxState) (old : Database) : Type 0 where
  pub after : Database
  pub opened : IsOpen g now defs trx after
  pub none : opened.chain ≡ []
  pub same : tables_of after ≡ tables_of old
  pub committed_are : committed after ≡ tables_of old
  pub reaches : Reaches (g.shape now).pages old after

-- it is, where no transaction is open
abbrev pub Settles : {S : Type 0} → Ghosts S → S → List TableDef → TrxState → Bool → Database → Type 0
Settles g now defs trx true d = IsOpen g now defs trx d
Settles g now defs trx false d = CommitsAll g now defs trx d
