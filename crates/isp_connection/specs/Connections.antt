-- A session's connection to a file: whether a transaction is open, the definitions of the file's tables, and what the transaction
-- noted and wrote. `Holds` says which database its pages have, and where the run stands with it.
use Rattle.std.specs.Prelude.{◌≡◌, Bool, false, List, [], Result, Ok, Err}
use Rattle.isp_catalog.specs.declared.table.TableDef.{TableDef}
use Rattle.isp_tables.specs.Opened.{IsOpen}
use Rattle.isp_image.specs.Databases.{Database, committed, tables_of}
use Rattle.isp_page.specs.declared.fault.Fault.{Fault}
use Rattle.isp_page.specs.declared.pages.Pages.{Ghosts}
use Rattle.isp_serial.specs.Alone.{State}
use Rattle.isp_trx.specs.Transactions.{TrxState}
use Rattle.isp_connection.specs.declared.connection.Connection.{Connection}

pub record ConnectionState : Type 0 where
  pub inside : Bool
  pub defs : List TableDef
  pub trx : TrxState

-- all that it has but its pages
abbrev pub state_of : {S : Type 0} → Connection S → ConnectionState
state_of c = record { inside = c.inside; defs = c.context.tables; trx = c.context.trx }

-- The store has the database, which the connection has open. Outside of a transaction no slot has a chain. Its tables are the present
-- ones, and with the old rows put back the committed ones.
pub record Holds {S : Type 0} (g : Ghosts S) (now : S) (c : ConnectionState) (state : State) (d : Database) : Type 0 where
  pub opened : IsOpen g now c.defs c.trx d
  pub outside : c.inside ≡ false → opened.chain ≡ []
  -- none begins in the setup
  pub setup : c.trx.session ≡ 0 → c.inside ≡ false
  pub inside : c.inside ≡ state.inside
  pub present : tables_of d ≡ state.present
  pub committed_are : committed d ≡ state.committed

-- ---- one is opened

-- the pages that come back, with it or with the fault
abbrev pub pages_of : {S : Type 0} → Result (Connection S) (Fault × S) → S
pages_of (Ok c) = c.context.pages
pages_of (Err e) = e.1

-- how it went
abbrev pub fault_of : {S : Type 0} → Result (Connection S) (Fault × S) → Result (Connection S) Fault
fault_of (Ok c) = Ok c
fault_of (Err e) = Err e.0
