-- A signed number that is passed on, or read behind a reference, is the number that was there.
use Rattle.std.proofs.Common.{◌≡◌, ◌∙◌, ℤ, w64, to_z, of_z, ◌<◌, rules}
use lib.Signed.{mag}
use mir.Val.{SFits}
use Rattle.std.proofs.lemmas.Int.{to_z-of_z}

pub passed : (z k : ℤ) → mag z < 9223372036854775808 → z ≡ k → to_z w64 (of_z w64 z) ≡ k
passed z k small e = let fits : SFits w64 z = search rules in to_z-of_z w64 z fits ∙ e
