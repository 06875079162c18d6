use Rattle.std.proofs.Common.{◌≡◌, drop}
use Rattle.isp_tokens.specs.Scanning.{onto, scan}
use Rattle.isp_tokens.specs.declared.token.Begun.TheVariants as begun
use Rattle.isp_tokens.proofs.token.tokens_of.Given as goal

abbrev pub invariant-loop-b : goal.invariant-loop-b
invariant-loop-b l = onto l.tokens (scan l.begun (drop l.b-index l.text)) ≡ scan begun.Nothing l.text
