use Rattle.std.proofs.Common.{◌∙◌, ◌==◌, sym, ap, length, arith}
use Rattle.isp_waits.proofs.Lists.{some_list}
use Rattle.isp_waits.proofs.graph.Waits.stop_waiting.Goals as goal

pub store-requires : goal.store-requires
store-requires c =
    let size = c.waits_for.ensures.sessions in
    let lt = some_list c.args.self.now c.args.s
    (ap (λ list. length list == 0) (sym c.waits_for.ensures.list) ∙ sym c.is_empty.ensures ∙ c.if-is_empty.false) in
    omega arith
