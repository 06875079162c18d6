-- What every event keeps of tables and their rows by keys.
use Rattle.isp_order.specs.Trees.{AreKeyed}
use Rattle.isp_order.specs.OrderLaws.{EventKeeps}

abbrev pub KeepsKeyed : Type 0
KeepsKeyed = EventKeeps (λ m state. AreKeyed state.tables)
