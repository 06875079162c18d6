-- A state in order stays so.
use Rattle.std.specs.Prelude.{ℕ, List}
use Rattle.isp_events.specs.Events.{Events}
use Rattle.isp_events.specs.Lines.{Line}
use Rattle.isp_events.specs.State.{State}
use Rattle.isp_events.specs.Ways.{Machine}
use Rattle.isp_order.specs.InOrder.{InOrder, IsProper}
use Rattle.isp_order.specs.OrderLaws.{EventKeeps}

-- every event keeps all clauses
abbrev pub KeepsOrder : Type 0
KeepsOrder = EventKeeps InOrder

-- events one after another, from a state in order, lead to one
abbrev pub StaysInOrder : Type 0
StaysInOrder = (m : Machine) (first last : ℕ) (before left : State) (lines : List Line) → IsProper m → InOrder m before
    → Events m first last before lines left → InOrder m left
