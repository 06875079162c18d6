-- Which places a range and a region have.
use Rattle.std.proofs.Common.{◌≡◌, ℕ, ◌+◌, ◌<◌, ◌≤◌, Bool, true, false, ◌||◌, refl, ◌∙◌, arith}
use Rattle.std.proofs.lemmas.Bool.Decides.{nat_tests}
use Rattle.isp_disk.specs.Moments.{in_range}

pub inside : (at size place : ℕ) → at ≤ place → place < at + size → in_range at size place ≡ true
inside at size place low high = grind (arith, nat_tests)

pub below : (at size place : ℕ) → place < at → in_range at size place ≡ false
below at size place low = grind (arith, nat_tests)

pub above : (at size place : ℕ) → at + size ≤ place → in_range at size place ≡ false
above at size place high = grind (arith, nat_tests)

pub from_start : (at size place : ℕ) → in_range at size place ≡ true → at ≤ place
from_start at size place is = grind (arith, nat_tests)

pub before_end : (at size place : ℕ) → in_range at size place ≡ true → place < at + size
before_end at size place is = grind (arith, nat_tests)

pub neither : (one other : Bool) → one ≡ false → other ≡ false → (one || other) ≡ false
neither one other no_one no_other = (λ i. no_one i || other) ∙ no_other

pub not_first : (one other : Bool) → (one || other) ≡ false → one ≡ false
not_first true other is = is
not_first false other is = refl

pub not_second : (one other : Bool) → (one || other) ≡ false → other ≡ false
not_second true true is = is
not_second true false is = refl
not_second false other is = is
