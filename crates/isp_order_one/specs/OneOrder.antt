-- What every event keeps of the status of entries.
use Rattle.isp_order.specs.Trees.{AreNamed, HaveOneStatus}
use Rattle.isp_order.specs.OrderLaws.{EventKeeps}

abbrev pub KeepsOneStatus : Type 0
KeepsOneStatus = EventKeeps (λ m state. HaveOneStatus state.tables state.sessions state.queue)

abbrev pub KeepsNamed : Type 0
KeepsNamed = EventKeeps (λ m state. AreNamed state.tables state.sessions)
