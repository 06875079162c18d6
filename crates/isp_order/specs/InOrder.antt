-- A state that is in order, by clauses with names: each takes the parts of the state that it speaks of, so that an event which leaves
-- these parts keeps it. A rested state is one in which nothing is under way.
use Rattle.std.specs.Prelude.{◌≡◌, ℕ, ℤ, ◌==◌, Bool, ◌||◌, ◌&&◌, is_none, [], length}
use Rattle.isp_waits.specs.Graphs.{waits_of}
use Rattle.isp_serial.specs.declared.script.Script.{Script}
use Rattle.isp_serial.specs.Alone.{IsFaithful}
use Rattle.isp_serial.specs.Script.{text_at, texts_of}
use Rattle.isp_events.specs.Stored.{Version}
use Rattle.isp_events.specs.Sessions.{fresh as fresh_session, session_at}
use Rattle.isp_events.specs.State.{State, session_count}
use Rattle.isp_events.specs.Ways.{AreSound, IsServable, Machine}
use Rattle.isp_order.specs.Trees.{AreEntered, AreKeyed, AreNamed, AreNoted, AreNumbered, AreRestorable, AreWhole, HasEntries, HaveOneStatus, StandsAt}
use Rattle.isp_order.specs.Locks.{AreCompatible, AreIdle, AreIntended, AreLocked, AreWaiting, HaveNoCycle}
use Rattle.isp_order.specs.Searches.{AllBelong, AreCovered, AreKnown}
use Rattle.isp_order.specs.Work.{AreAllBefore, AreBound, AreChanging, AreOnPaths, AreStanding, HaveCollected, HaveKeys, HaveScanned, HaveTable, HaveWritten}

-- there are as many sessions as are counted, and as many lists of waits
pub record AreCounted (state : State) : Type 0 where
  pub sessions : length state.sessions ≡ session_count
  pub waits : length state.waits ≡ session_count

pub record InOrder (m : Machine) (state : State) : Type 0 where
  pub counted : AreCounted state
  -- trees and rows
  pub whole : AreWhole state.tables
  pub keyed : AreKeyed state.tables
  pub entered : AreEntered state.tables state.sessions
  pub numbered : AreNumbered state.tables state.entries
  pub noted : AreNoted state.tables state.sessions state.queue
  pub one_status : HaveOneStatus state.tables state.sessions state.queue
  pub named : AreNamed state.tables state.sessions
  pub restorable : AreRestorable state.tables state.sessions
  -- locks and waits
  pub no_conflict : AreCompatible state.locks
  pub intended : AreIntended state.locks state.searches
  pub written_locked : AreLocked state.locks state.sessions
  pub idle : AreIdle state.locks state.searches state.sessions state.waits
  pub waiting : AreWaiting m state.tables state.locks state.searches state.sessions state.waits
  pub no_cycle : HaveNoCycle state.waits
  -- searches
  pub covered : AreCovered state.tables state.searches
  pub known : AreKnown state.tables state.searches state.sessions
  pub belongs : AllBelong m.ways state.tables state.searches state.sessions
  -- work
  pub bound : AreBound m state.tables state.sessions
  pub table_locked : HaveTable m.ways state.tables state.locks state.sessions
  pub keys_locked : HaveKeys m.ways state.tables state.locks state.searches state.sessions
  pub scanned : HaveScanned state.tables state.sessions
  pub standing : AreStanding state.tables state.sessions
  pub changing : AreChanging state.tables state.locks state.sessions
  pub collected : HaveCollected state.tables state.sessions
  pub written : HaveWritten state.sessions
  pub before : AreAllBefore state.sessions
  pub paths : AreOnPaths state.tables state.sessions

-- a machine whose language means what it does to transactions and can be served, and whose ways find all rows
pub record IsProper (m : Machine) : Type 0 where
  pub faithful : IsFaithful m.language
  pub servable : IsServable m.language
  pub sound : AreSound m.ways

-- ---- a rested state

-- the script doesn't have the session; or it is a setup without a statement
abbrev pub is_missing : Script → ℕ → Bool
is_missing script s = is_none (texts_of script s) || ((s == 0) && is_none (text_at script 0 1))

-- Nothing is locked, searched, awaited, queued or at work: each session that the script has is at its first statement, and the tables
-- are in order.
pub record IsRested (m : Machine) (state : State) : Type 0 where
  pub counted : AreCounted state
  pub no_lock : state.locks ≡ []
  pub no_search : state.searches ≡ []
  pub no_wait : (s : ℕ) → waits_of state.waits s ≡ []
  pub no_queue : state.queue ≡ []
  pub fresh : (s : ℕ) → session_at state.sessions s ≡ fresh_session (is_missing m.script s)
  pub whole : AreWhole state.tables
  pub keyed : AreKeyed state.tables
  pub entered : (table : ℕ) (key : ℤ) (version : Version) → StandsAt state.tables table key version → HasEntries state.tables table key version
  pub numbered : AreNumbered state.tables state.entries
