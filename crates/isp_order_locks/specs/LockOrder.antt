-- What every event keeps of locks and waits.
use Rattle.isp_order.specs.Locks.{AreCompatible, AreIdle, AreIntended, AreLocked, AreWaiting, HaveNoCycle}
use Rattle.isp_order.specs.InOrder.{AreCounted}
use Rattle.isp_order.specs.OrderLaws.{EventKeeps}

abbrev pub KeepsCounted : Type 0
KeepsCounted = EventKeeps (λ m state. AreCounted state)

abbrev pub KeepsCompatible : Type 0
KeepsCompatible = EventKeeps (λ m state. AreCompatible state.locks)

abbrev pub KeepsIntended : Type 0
KeepsIntended = EventKeeps (λ m state. AreIntended state.locks state.searches)

abbrev pub KeepsLocked : Type 0
KeepsLocked = EventKeeps (λ m state. AreLocked state.locks state.sessions)

abbrev pub KeepsIdle : Type 0
KeepsIdle = EventKeeps (λ m state. AreIdle state.locks state.searches state.sessions state.waits)

abbrev pub KeepsWaiting : Type 0
KeepsWaiting = EventKeeps (λ m state. AreWaiting m state.tables state.locks state.searches state.sessions state.waits)

abbrev pub KeepsNoCycle : Type 0
KeepsNoCycle = EventKeeps (λ m state. HaveNoCycle state.waits)
