use Rattle.std.proofs.Common.{sym, ◌∙◌}
use Rattle.isp_scan.proofs.HeldLaws.{short_of}
use Rattle.isp_scan.proofs.rows.spell.Goals as goal

pub returns-clause-short : goal.returns-clause-short
returns-clause-short c =
    let spelled = c.in_ok-bytes.ensures in
    short_of _ _ (sym c.size-size.ensures.size ∙ c.size-size.ensures.spelled _ _ _ spelled) c.requires.small
