-- What every event keeps of the work of statements.
use Rattle.isp_order.specs.Work.{AreAllBefore, AreBound, HaveTable, HaveWritten}
use Rattle.isp_order.specs.OrderLaws.{EventKeeps}

abbrev pub KeepsBefore : Type 0
KeepsBefore = EventKeeps (λ m state. AreAllBefore state.sessions)

abbrev pub KeepsTable : Type 0
KeepsTable = EventKeeps (λ m state. HaveTable m.ways state.tables state.locks state.sessions)

abbrev pub KeepsBound : Type 0
KeepsBound = EventKeeps (λ m state. AreBound m state.tables state.sessions)

abbrev pub KeepsWritten : Type 0
KeepsWritten = EventKeeps (λ m state. HaveWritten state.sessions)
