-- The list of copies as numbers, and its rule as a test.
use Rattle.std.specs.Prelude.{◌≡◌, ℕ, ◌+◌, ◌*◌, ◌<◌, ◌==◌, ◌&&◌, not, nat_lt, Bool, true, List, [], ◌∷◌, length, slice_index}
use Rattle.std.specs.List.{list_any}
use Rattle.isp_disk.specs.Moments.{Image}
use Rattle.isp_format.specs.Doublewrite.{list_place, most_copies}
use Rattle.isp_format.specs.Numbers.{number_at}

-- these are the first numbers of the list
abbrev pub HasNumbers : Image → List ℕ → Type 0
HasNumbers image numbers = (k : ℕ) → k < length numbers → slice_index numbers k ≡ number_at 4 image (list_place + 4 * k)

-- these are those of all copies
pub record IsNumbers (image : Image) (numbers : List ℕ) : Type 0 where
  pub all : length numbers ≡ most_copies
  pub each : HasNumbers image numbers

abbrev pub are_good : ℕ → List ℕ → Bool
are_good pages [] = true
are_good pages (number ∷ numbers) = nat_lt number pages && not (list_any (λ other. other == number) numbers) && are_good pages numbers

-- so many copies, of these numbers
abbrev pub is_copy_list : ℕ → ℕ → List ℕ → Bool
is_copy_list pages count numbers = not (count == 0) && not (nat_lt most_copies count) && are_good pages numbers
