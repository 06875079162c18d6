-- Digits that are read with a cap on the value.
use Rattle.std.proofs.Common.{◌≡◌, ℕ, ◌+◌, ◌-◌, ◌*◌, ◌^◌, List, [], ◌∷◌, min, arith}
use Rattle.isp_plan.specs.Numbers.{value_from}

pub same_capped : (n m : ℕ) (digits : List ℕ) → min n (2 ^ 64 - 1) ≡ min m (2 ^ 64 - 1) →
    min (value_from n digits) (2 ^ 64 - 1) ≡ min (value_from m digits) (2 ^ 64 - 1)
same_capped n m [] same = same
same_capped n m (digit ∷ digits) same = same_capped (n * 10 + (digit - 48)) (m * 10 + (digit - 48)) digits (omega arith)
