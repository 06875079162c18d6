use Rattle.std.proofs.Common.{◌≡◌, drop}
use Rattle.isp_tokens.specs.Words.{word_in}
use Rattle.isp_tokens.proofs.words.word_in.Given as goal

abbrev pub invariant-loop-word : goal.invariant-loop-word
invariant-loop-word l = word_in (drop l.word-index l.words) l.text ≡ word_in l.words l.text
