use Rattle.std.proofs.Common.{◌∙◌, ap, w64}
use Rattle.std.proofs.lemmas.Int.{to_z-of_z}
use Rattle.isp_plain.specs.Entries.{has_key}
use Rattle.isp_plain.proofs.entries.has_key.Goals as goal

pub returns : goal.returns
returns c = c.contains_key.ensures ∙ ap (λ k. has_key c.args.entries.now.entries k) (to_z-of_z w64 c.args.key c.ranges.key)
