-- What every event keeps of entries that are being placed.
use Rattle.isp_order.specs.Work.{AreOnPaths, HaveCollected}
use Rattle.isp_order.specs.OrderLaws.{EventKeeps}

abbrev pub KeepsPaths : Type 0
KeepsPaths = EventKeeps (λ m state. AreOnPaths state.tables state.sessions)

abbrev pub KeepsCollected : Type 0
KeepsCollected = EventKeeps (λ m state. HaveCollected state.tables state.sessions)
