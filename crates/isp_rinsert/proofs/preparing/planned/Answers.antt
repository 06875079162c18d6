use Rattle.std.proofs.Common.{ℕ, ◌≡◌, arith, length, subst}
use Rattle.isp_rsettle.specs.Settling.{HasRoomFor}
use Rattle.isp_rinsert.proofs.PlanLaws.{ready_of}
use Rattle.isp_rinsert.proofs.preparing.planned.Goals as goal

pub returns-clause-ready : goal.returns-clause-ready
returns-clause-ready c pages path is =
    let same : c.len.result ≡ length c.args.way.pages.items = omega (arith, c.len.ensures) in
    ready_of pages path c.args.fanout c.args.b.now c.args.way _ c.requires.fanout is c.in_ok-steps.ensures c.requires.counter (subst (λ (n : ℕ). HasRoomFor n c.in_ok-room.room) same c.in_ok-room.ensures) c.in_ok-news.ensures.items c.in_ok-news.ensures.capacity
