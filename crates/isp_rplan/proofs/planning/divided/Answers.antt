use Rattle.std.proofs.Common.{rules}
use Rattle.isp_rplan.specs.Plans.{AreDivided}
use Rattle.isp_rplan.proofs.KnownLaws.{parts_of}
use Rattle.isp_rplan.proofs.planning.divided.Goals as goal

pub returns-clause-some : goal.returns-clause-some
returns-clause-some c =
    let d : AreDivided c.args.fanout c.args.entries.now c.in_ok-stays.stays.items c.in_ok-moves.moves.items = search rules in
    let p = parts_of 0 _ _ _ _ c.requires.fanout d in
    (p.division.left_some, p.division.right_some)
