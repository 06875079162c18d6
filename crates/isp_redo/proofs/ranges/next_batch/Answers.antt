use Rattle.std.proofs.Common.{◌≡◌, ◌+◌, sym, ◌∙◌, ap, arith}
use Rattle.isp_disk.specs.Moments.{Image, slice}
use Rattle.isp_format.specs.Log.{log_of}
use Rattle.isp_format.specs.Numbers.{bytes_of}
use Rattle.isp_redo.proofs.Ahead.{ends_at, no_room_at, opens_at, too_long_at}
use Rattle.isp_redo.proofs.ranges.next_batch.Goals as goal

pub returns-then-branch-ne1-clause-leads : goal.returns-then-branch-ne1-clause-leads
returns-then-branch-ne1-clause-leads g c tells pages few ranges is =
    let shut = c.if-branch-ne1.true in
    ends_at pages (log_of (g.W.World.image c.args.world.now)) c.args.end ranges (λ one. shut (sym (c.in_ok-read_gate.ensures.gate tells) ∙ one)) is

pub returns-then-end-clause-leads : goal.returns-then-end-clause-leads
returns-then-end-clause-leads g c tells pages few ranges is =
    no_room_at pages (log_of (g.W.World.image c.args.world.now)) c.args.end ranges (c.in_ok-read_gate.ensures.gate tells ∙ c.if-branch-ne1.false) c.if-end.true is

pub returns-then-size-end-clause-leads : goal.returns-then-size-end-clause-leads
returns-then-size-end-clause-leads g c tells pages few ranges is =
    let w = g.W.World in
    let end = c.args.end in
    let stands : slice (log_of (w.image c.args.world.now)) (end + 1) 4 ≡ bytes_of 4 c.from-size.result =
    ap (λ (i : Image). slice (log_of i) (end + 1) 4) (sym c.read_gate.ensures.reads.same) ∙ c.in_ok-read_size.ensures.size tells ∙ ap (bytes_of 4) (sym c.from-size.ensures) in
    let small = c.in_ok-read_size.ensures.few in
    let from = c.from-size.ensures in
    let long = c.if-size-end.true in
    too_long_at pages (log_of (w.image c.args.world.now)) end c.from-size.result ranges (c.in_ok-read_gate.ensures.gate tells ∙ c.if-branch-ne1.false) (omega (arith, small, from)) stands (omega (arith, long)) is

pub returns-clause-leads : goal.returns-clause-leads
returns-clause-leads g c tells pages few ranges is =
    let w = g.W.World in
    let end = c.args.end in
    let stands : slice (log_of (w.image c.args.world.now)) (end + 1) 4 ≡ bytes_of 4 c.from-size.result =
    ap (λ (i : Image). slice (log_of i) (end + 1) 4) (sym c.read_gate.ensures.reads.same) ∙ c.in_ok-read_size.ensures.size tells ∙ ap (bytes_of 4) (sym c.from-size.ensures) in
    let small = c.in_ok-read_size.ensures.few in
    let from = c.from-size.ensures in
    opens_at pages (log_of (w.image c.args.world.now)) end c.from-size.result ranges (c.in_ok-read_gate.ensures.gate tells ∙ c.if-branch-ne1.false) (omega (arith, small, from)) stands is
