-- A signed number that was passed or read is the number: for the functions that pass the corners of a box, by axis.
use Rattle.std.proofs.Common.{◌≡◌, ℤ, Bool, true, false, ◌&&◌, refl, ap, ◌∙◌}
use Rattle.std.specs.Prelude.{FitsSigned}
use Rattle.std.specs.Int.{w32, cast_signed, cast_unsigned, int_min, int_max}
use Rattle.std.proofs.lemmas.Int.{to_z-of_z}

-- what a function of four passed numbers is
pub axis_read : (f : ℤ → ℤ → ℤ → ℤ → Bool) (a b c d : ℤ) → FitsSigned w32 a → FitsSigned w32 b → FitsSigned w32 c → FitsSigned w32 d
    → f (cast_signed w32 (cast_unsigned w32 a)) (cast_signed w32 (cast_unsigned w32 b)) (cast_signed w32 (cast_unsigned w32 c)) (cast_signed w32 (cast_unsigned w32 d)) ≡ f a b c d
axis_read f a b c d p q r s = rw (to_z-of_z w32 a p, to_z-of_z w32 b q, to_z-of_z w32 c r, to_z-of_z w32 d s) refl

-- both axes, where the first one held
pub both_axes : (x y r : Bool) → x ≡ true → r ≡ y → r ≡ (x && y)
both_axes true y r h k = k
both_axes false y r h k = cc

-- what is the lesser or the greater of two passed numbers, where it is passed on
pub lesser_read : (r a b : ℤ) → FitsSigned w32 r → FitsSigned w32 a → FitsSigned w32 b
    → r ≡ int_min (cast_signed w32 (cast_unsigned w32 a)) (cast_signed w32 (cast_unsigned w32 b)) → cast_signed w32 (cast_unsigned w32 r) ≡ int_min a b
lesser_read r a b fits p q e =
    to_z-of_z w32 r fits ∙ e ∙ ap (λ x. int_min x (cast_signed w32 (cast_unsigned w32 b))) (to_z-of_z w32 a p) ∙ ap (int_min a) (to_z-of_z w32 b q)

pub greater_read : (r a b : ℤ) → FitsSigned w32 r → FitsSigned w32 a → FitsSigned w32 b
    → r ≡ int_max (cast_signed w32 (cast_unsigned w32 a)) (cast_signed w32 (cast_unsigned w32 b)) → cast_signed w32 (cast_unsigned w32 r) ≡ int_max a b
greater_read r a b fits p q e =
    to_z-of_z w32 r fits ∙ e ∙ ap (λ x. int_max x (cast_signed w32 (cast_unsigned w32 b))) (to_z-of_z w32 a p) ∙ ap (int_max a) (to_z-of_z w32 b q)
