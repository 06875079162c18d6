use Rattle.std.proofs.Common.{sym, ◌∙◌, ap, arith}
use Rattle.isp_format.specs.Log.{log_of}
use Rattle.isp_format.specs.Numbers.{bytes_of}
use Rattle.isp_redo.proofs.Ahead.{counts_at, no_count_at}
use Rattle.isp_redo.proofs.ranges.next_transaction.Goals as goal

pub returns-then-end-at-lt-COUNT_BYTES-clause-leads : goal.returns-then-end-at-lt-COUNT_BYTES-clause-leads
returns-then-end-at-lt-COUNT_BYTES-clause-leads g c tells pages few ranges is =
    no_count_at pages (log_of (g.W.World.image c.args.world.now)) c.args.at c.args.end ranges c.requires.places.0 c.if-end-at-lt-COUNT_BYTES.true is

pub returns-clause-leads : goal.returns-clause-leads
returns-clause-leads g c tells pages few ranges is =
    let small = c.in_ok-count.ensures.few in
    let from = c.from.ensures in
    counts_at pages (log_of (g.W.World.image c.args.world.now)) c.args.at c.args.end c.from.result ranges c.requires.places.0 (omega (arith, small, from)) (c.in_ok-count.ensures.count tells ∙ ap (bytes_of 2) (sym c.from.ensures)) is
