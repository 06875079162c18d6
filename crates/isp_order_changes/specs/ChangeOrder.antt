-- What every event keeps of what statements change.
use Rattle.isp_order.specs.Work.{AreChanging}
use Rattle.isp_order.specs.OrderLaws.{EventKeeps}

abbrev pub KeepsChanging : Type 0
KeepsChanging = EventKeeps (λ m state. AreChanging state.tables state.locks state.sessions)
