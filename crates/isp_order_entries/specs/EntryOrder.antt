-- What every event keeps of rows and of the entries that tie them to trees.
use Rattle.isp_order.specs.Trees.{AreEntered, AreNumbered, AreRestorable}
use Rattle.isp_order.specs.OrderLaws.{EventKeeps}

abbrev pub KeepsNumbered : Type 0
KeepsNumbered = EventKeeps (λ m state. AreNumbered state.tables state.entries)

abbrev pub KeepsEntered : Type 0
KeepsEntered = EventKeeps (λ m state. AreEntered state.tables state.sessions)

abbrev pub KeepsRestorable : Type 0
KeepsRestorable = EventKeeps (λ m state. AreRestorable state.tables state.sessions)
