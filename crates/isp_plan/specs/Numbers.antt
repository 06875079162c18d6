-- Decimal numbers that digits say.
use Rattle.std.specs.Prelude.{ℕ, ◌+◌, ◌-◌, ◌*◌, ◌^◌, ℤ, pos, neg_ℤ, Bool, true, false, nat_lt, nat_le, List, [], ◌∷◌, if◌then◌else◌, Option, Some, None}

-- the number that digits say, behind one that was said before
abbrev pub value_from : ℕ → List ℕ → ℕ
value_from n [] = n
value_from n (digit ∷ digits) = value_from (n * 10 + (digit - 48)) digits

abbrev pub value_of : List ℕ → ℕ
value_of digits = value_from 0 digits

-- the number, where it is one of 64 bits with its sign
abbrev pub number_of : Bool → List ℕ → Option ℤ
number_of true digits = if nat_le (value_of digits) (2 ^ 63) then Some (neg_ℤ (pos (value_of digits))) else None
number_of false digits = if nat_lt (value_of digits) (2 ^ 63) then Some (pos (value_of digits)) else None
