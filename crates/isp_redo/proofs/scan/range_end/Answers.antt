use Rattle.std.proofs.Common.{◌+◌, ℕ, sym, ◌∙◌, subst}
use Rattle.isp_disk.specs.Moments.{slice}
use Rattle.isp_format.specs.Log.{log_of}
use Rattle.isp_format.specs.Ranges.{Range}
use Rattle.isp_redo.specs.Reading.{IsRangeAt}
use Rattle.isp_redo.proofs.Positions.{range_made}
use Rattle.isp_redo.proofs.scan.range_end.Goals as goal

pub returns-clause-found : goal.returns-clause-found
returns-clause-found g c tells =
    let header = c.in_ok-header.header in
    let log = log_of (g.W.World.image c.args.world.now) in
    let range : Range = record { page = header.page; at = header.at; bytes = slice log (c.args.at + 8) header.len } in
    let made = range_made c.args.pages log c.args.at header.page header.at header.len (sym c.is_range.ensures ∙ c.if-not-is_range.false) (c.in_ok-header.ensures.header tells) in
    (range, subst (λ (n : ℕ). IsRangeAt c.args.pages log c.args.at range (c.args.at + 8 + n)) (sym c.from-len.ensures) made)
