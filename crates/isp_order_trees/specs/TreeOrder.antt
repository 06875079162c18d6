-- What every event keeps of trees and of searches over them.
use Rattle.isp_order.specs.Trees.{AreWhole}
use Rattle.isp_order.specs.Searches.{AreCovered, AreKnown}
use Rattle.isp_order.specs.OrderLaws.{EventKeeps}

abbrev pub KeepsWhole : Type 0
KeepsWhole = EventKeeps (λ m state. AreWhole state.tables)

abbrev pub KeepsCovered : Type 0
KeepsCovered = EventKeeps (λ m state. AreCovered state.tables state.searches)

abbrev pub KeepsKnown : Type 0
KeepsKnown = EventKeeps (λ m state. AreKnown state.tables state.searches state.sessions)
