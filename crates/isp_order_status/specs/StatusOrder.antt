-- What every event keeps of the entries that are noted and queued.
use Rattle.isp_order.specs.Trees.{AreNoted}
use Rattle.isp_order.specs.OrderLaws.{EventKeeps}

abbrev pub KeepsNoted : Type 0
KeepsNoted = EventKeeps (λ m state. AreNoted state.tables state.sessions state.queue)
