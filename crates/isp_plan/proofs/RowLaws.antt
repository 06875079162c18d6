-- A row's size that is read with a cap.
use Rattle.std.proofs.Common.{◌≡◌, ℕ, min, nat_le, arith}
use Rattle.std.proofs.lemmas.Bool.Decides.{nat_tests}

pub capped_small : (n : ℕ) → nat_le (min n 65536) 1000 ≡ nat_le n 1000
capped_small n = grind (arith, nat_tests)
