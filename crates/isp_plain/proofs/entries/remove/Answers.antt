use Rattle.std.proofs.Common.{◌∙◌, ap, w64}
use Rattle.std.proofs.lemmas.Int.{to_z-of_z}
use Rattle.isp_plain.specs.Entries.{without_row}
use Rattle.isp_plain.proofs.entries.remove.Goals as goal

pub returns : goal.returns
returns c = c.remove-row.ensures.entries ∙ ap (λ k. without_row c.args.entries.now.entries k) (to_z-of_z w64 c.args.key c.ranges.key)
