-- What a search with nothing left to visit has found, in a state in order: the rows that satisfy its predicate, as they are committed, and
-- as its session sees them (Kornacker, Mohan and Hellerstein 1997: no phantom).
use Rattle.std.specs.Prelude.{◌≡◌, ◌⊎◌, ◌≤◌, ℤ, true, [], Some}
use Rattle.isp_base.specs.Lists.{Has}
use Rattle.isp_mbr.specs.Predicates.{satisfies}
use Rattle.isp_events.specs.Stored.{Version, box_in}
use Rattle.isp_events.specs.Sessions.{Note, session_at}
use Rattle.isp_events.specs.State.{State, TreeSearch}
use Rattle.isp_events.specs.Views.{committed_at}
use Rattle.isp_events.specs.Ways.{Machine}
use Rattle.isp_order.specs.Trees.{HasNumber, StandsAt, is_placing}
use Rattle.isp_order.specs.InOrder.{InOrder}

-- the search's session wrote the row in the search's statement or a later one, and placed the row's entry there
pub record WroteLater (state : State) (x : TreeSearch) (key : ℤ) (version : Version) : Type 0 where
  pub note : Note
  pub noted : Has (session_at state.sessions x.search.session).notes note
  pub placed : is_placing note.how ≡ true
  pub later : x.search.statement ≤ note.statement
  pub same_key : note.entry.key ≡ key
  pub same_number : HasNumber state.tables x.table version x.column note.entry.number

-- of the rows that are committed it misses none; of those that stand there, none but what its session wrote since
pub record MissesNothing (state : State) (x : TreeSearch) : Type 0 where
  pub committed : (key : ℤ) (version : Version) → committed_at state x.table key ≡ Some version → satisfies x.search.predicate (box_in version.row x.column) ≡ true
      → Has x.search.found key
  pub seen : (key : ℤ) (version : Version) → StandsAt state.tables x.table key version → satisfies x.search.predicate (box_in version.row x.column) ≡ true
      → Has x.search.found key ⊎ WroteLater state x key version

abbrev pub NothingIsMissed : Type 0
NothingIsMissed = (m : Machine) (state : State) → InOrder m state → (x : TreeSearch) → Has state.searches x → x.search.stack ≡ [] → MissesNothing state x
