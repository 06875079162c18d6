use Rattle.std.proofs.Common.{rules, ◌≡◌, ap, arith}
use Rattle.isp_format.specs.Header.{Header, header_of}
use Rattle.isp_rinsert.proofs.WayLaws.{counter_read}
use Rattle.isp_rinsert.proofs.way.read_top.Goals as goal

pub returns-in_err-owner-clause-sound : goal.returns-in_err-owner-clause-sound
returns-in_err-owner-clause-sound g c tells owner tree at low =
    let sound = c.in_err-owner.ensures.holds tells owner tree at in
    search (rules, sound, c.from_residual.ensures)

pub returns-else-counter-lt-MOST_COUNTED-clause-sound : goal.returns-else-counter-lt-MOST_COUNTED-clause-sound
returns-else-counter-lt-MOST_COUNTED-clause-sound g c tells owner tree at low =
    let is = counter_read (g.P.Pages.contents c.args.pages.now) (g.P.Pages.shape c.args.pages.now) owner c.args.root.0 tree c.read_root.new.into.bytes at (c.in_ok-owner.ensures.page tells) in
    let told : c.head-counter.result.ssn ≡ (header_of c.read_root.new.into.bytes).ssn = ap (λ (h : Header). h.ssn) c.head-counter.ensures in
    absurd (omega (arith, is, told, low, c.if-counter-lt-MOST_COUNTED.false))
