-- The definitions on small images, by computation.
use Rattle.std.proofs.Common.{◌≡◌, ℕ, ◌+◌, ◌*◌, ◌<◌, ◌==◌, [], ◌∷◌, refl, arith, if◌then◌else◌}
use Rattle.std.specs.Prelude.{slice_index}
use Rattle.std.proofs.lemmas.List.Elements.{All-cons}
use Rattle.isp_disk.specs.Moments.{Image, in_range}
use Rattle.isp_format.specs.Doublewrite.{HasCopies, area_place, laid}
use Rattle.isp_format.specs.Log.{IsLog, IsTransaction}
use Rattle.isp_format.specs.Ranges.{IsRange, Range}

-- one copy of page 3, of bytes 7, under a gate of this value; page 3 in its place has bytes 9
copied : ℕ → Image
copied gate place =
    if place == 512 then gate
    else if place == 1027 then 1
    else if place == 1031 then 3
    else if in_range 4096 4096 place then 7
    else if in_range (area_place + 3 * 4096) 4096 place then 9
    else 0

open_gate : laid (copied 1) (3 * 4096 + 4095) ≡ 7
unfolding copied
open_gate = refl

-- any other value closes it
closed_gate : laid (copied 9) (3 * 4096 + 4095) ≡ 9
unfolding copied
closed_gate = refl

beside : laid (copied 1) (4 * 4096) ≡ 0
unfolding copied
beside = refl

in_rule : HasCopies 64 (copied 1)
unfolding copied
in_rule gate = record {
  some = omega arith;
  most = omega arith;
  below = All-cons (λ page. page < 64) 3 [] (omega arith) (λ k d inside. absurd (omega arith));
  distinct = ((λ k d inside. absurd (omega arith)), tt);
}

-- a log of one batch: one range of page 5, one byte at 64
one_range : Range
one_range = record { page = 5; at = 64; bytes = 7 ∷ [] }

one_log : Image
one_log place = slice_index (1 ∷ 0 ∷ 0 ∷ 0 ∷ 11 ∷ 0 ∷ 1 ∷ 0 ∷ 0 ∷ 0 ∷ 5 ∷ 0 ∷ 64 ∷ 0 ∷ 1 ∷ 7 ∷ 0 ∷ []) place

one_batch : IsLog 64 one_log 0 (((one_range ∷ []) ∷ []) ∷ []) 16
unfolding one_range one_log
one_batch = (
  16,
  record {
    body = 0 ∷ 1 ∷ 0 ∷ 0 ∷ 0 ∷ 5 ∷ 0 ∷ 64 ∷ 0 ∷ 1 ∷ 7 ∷ [];
    gate = refl;
    size = refl;
    stands = refl;
    behind = refl;
    inside = omega arith;
    means = record {
      bytes = refl;
      some = omega arith;
      each = All-cons (IsTransaction 64) (one_range ∷ []) [] (omega arith, All-cons (IsRange 64) one_range [] (record { page = omega arith; some = omega arith; inside = omega arith }) (λ k d inside. absurd (omega arith))) (λ k d inside. absurd (omega arith));
    };
  },
  ((λ gate. absurd (cc)), refl),
)
