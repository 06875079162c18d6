-- What every event keeps of what statements have found and read.
use Rattle.isp_order.specs.Work.{AreStanding, HaveKeys, HaveScanned}
use Rattle.isp_order.specs.OrderLaws.{EventKeeps}

abbrev pub KeepsStanding : Type 0
KeepsStanding = EventKeeps (λ m state. AreStanding state.tables state.sessions)

abbrev pub KeepsKeys : Type 0
KeepsKeys = EventKeeps (λ m state. HaveKeys m.ways state.tables state.locks state.searches state.sessions)

abbrev pub KeepsScanned : Type 0
KeepsScanned = EventKeeps (λ m state. HaveScanned state.tables state.sessions)
