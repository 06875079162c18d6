-- What every event keeps of whose searches they are.
use Rattle.isp_order.specs.Searches.{AllBelong}
use Rattle.isp_order.specs.OrderLaws.{EventKeeps}

abbrev pub KeepsBelongs : Type 0
KeepsBelongs = EventKeeps (λ m state. AllBelong m.ways state.tables state.searches state.sessions)
