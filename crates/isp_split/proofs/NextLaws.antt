-- The best entry so far, as one more is looked at.
use Rattle.std.proofs.Common.{◌≡◌, ◌⊎◌, inl, inr, ℕ, suc, ◌+◌, ◌<◌, ◌≤◌, true, false, cond, Option, Some, None, List, [], ◌∷◌, length, refl, sym, ◌∙◌, ap, subst, arith, get_or}
use Rattle.std.specs.Prelude.{nat_le, nat_lt, count_by, is_some}
use Rattle.std.proofs.lemmas.Bool.Decides.{nat_tests}
use Rattle.std.proofs.lemmas.List.Sums.{sum_by-cons}
use Rattle.std.proofs.lemmas.Option.{get_or_from_slice_get, slice_get-get_or, slice_get_within}
use Rattle.isp_mbr.specs.Corners.{Corners}
use Rattle.isp_split.specs.Seeds.{box_at}
use Rattle.isp_split.specs.Groups.{Sides, is_left, left_in, IsLeft}
use Rattle.isp_split.specs.Next.{IsNext, difference, greater}
use Rattle.isp_split.specs.declared.side.Side.{Side}

-- of the entries before place n that are left, this one differs most, by that number, and none before it as much
pub record IsBestBelow (first second : Corners) (boxes : List Corners) (sides : Sides) (n place number : ℕ) : Type 0 where
  pub left : IsLeft sides place
  pub number_is : number ≡ difference first second (box_at boxes place)
  pub most : (q : ℕ) → q < n → IsLeft sides q → difference first second (box_at boxes q) ≤ number
  pub earliest : (q : ℕ) → q < place → IsLeft sides q → difference first second (box_at boxes q) < number
  pub below : place < n

abbrev pub BestBelow : Corners → Corners → List Corners → Sides → ℕ → Option (ℕ × ℕ) → Type 0
BestBelow first second boxes sides n None = (q : ℕ) → q < n → IsLeft sides q → ⊥
BestBelow first second boxes sides n (Some best) = IsBestBelow first second boxes sides n best.0 best.1

below_or_at : (q n : ℕ) → q < n + 1 → (q < n) ⊎ (q ≡ n)
below_or_at q n h = elim (nat_lt q n) as (λ b. nat_lt q n ≡ b → (q < n) ⊎ (q ≡ n)) [ true ↦ λ t. inl (grind (arith, nat_tests)) | false ↦ λ t. inr (grind (arith, nat_tests)) ] refl

-- one that isn't left
pub passed_over : (first second : Corners) (boxes : List Corners) (sides : Sides) (n : ℕ) (best : Option (ℕ × ℕ)) → (IsLeft sides n → ⊥) → BestBelow first second boxes sides n best → BestBelow first second boxes sides (n + 1) best
passed_over first second boxes sides n None out so_far = λ q low left. elim (below_or_at q n low) [ inl a ↦ so_far q a left | inr e ↦ out (subst (IsLeft sides) e left) ]
passed_over first second boxes sides n (Some best) out so_far = record {
  left = so_far.left;
  number_is = so_far.number_is;
  most = λ q low left. elim (below_or_at q n low) [ inl a ↦ so_far.most q a left | inr e ↦ absurd (out (subst (IsLeft sides) e left)) ];
  earliest = so_far.earliest;
  below = omega (arith, so_far.below);
}

-- one that is
pub looked_at : (first second : Corners) (boxes : List Corners) (sides : Sides) (n number : ℕ) (best : Option (ℕ × ℕ)) → IsLeft sides n → number ≡ difference first second (box_at boxes n) → BestBelow first second boxes sides n best → BestBelow first second boxes sides (n + 1) (greater best n number)
looked_at first second boxes sides n number None left is so_far = record {
  left = left;
  number_is = is;
  most = λ q low left. elim (below_or_at q n low) [ inl a ↦ absurd (so_far q a left) | inr e ↦ (let same : difference first second (box_at boxes q) ≡ number = ap (λ k. difference first second (box_at boxes k)) e ∙ sym is in omega (arith, same)) ];
  earliest = λ q low left. absurd (so_far q low left);
  below = omega arith;
}
looked_at first second boxes sides n number (Some best) left is so_far =
    elim (nat_le number best.1) as (λ b. nat_le number best.1 ≡ b → BestBelow first second boxes sides (n + 1) (cond b (Some best) (Some (n, number)))) [
      | true ↦ λ t. (let le : number ≤ best.1 = grind (arith, nat_tests) in record {
        left = so_far.left;
        number_is = so_far.number_is;
        most = λ q low left. elim (below_or_at q n low) [ inl a ↦ so_far.most q a left | inr e ↦ (let same : difference first second (box_at boxes q) ≡ number = ap (λ k. difference first second (box_at boxes k)) e ∙ sym is in omega (arith, same, le)) ];
        earliest = so_far.earliest;
        below = omega (arith, so_far.below);
      })
      | false ↦ λ t. (let more : best.1 < number = grind (arith, nat_tests) in record {
        left = left;
        number_is = is;
        most = λ q low left. elim (below_or_at q n low) [ inl a ↦ omega (arith, so_far.most q a left, more) | inr e ↦ (let same : difference first second (box_at boxes q) ≡ number = ap (λ k. difference first second (box_at boxes k)) e ∙ sym is in omega (arith, same)) ];
        earliest = λ q low left. omega (arith, so_far.most q low left, more);
        below = omega arith;
      })
    ] refl

-- all are looked at
pub is_next : (first second : Corners) (boxes : List Corners) (sides : Sides) (n place number : ℕ) → length sides ≤ n → IsBestBelow first second boxes sides n place number → IsNext first second boxes sides place
is_next first second boxes sides n place number all best =
    let same : number ≡ difference first second (box_at boxes place) = best.number_is in
    record {
      left = best.left;
      most = λ q left. omega (arith, best.most q (omega (arith, slice_get_within sides q None left, all)) left, same);
      earliest = λ q left low. omega (arith, best.earliest q low left, same);
    }

pub found : (first second : Corners) (boxes : List Corners) (sides : Sides) (n : ℕ) (best : Option (ℕ × ℕ)) (place number : ℕ) → ◌≡◌ {A = Option (ℕ × ℕ)} best (Some (place, number)) → length sides ≤ n → BestBelow first second boxes sides n best → IsNext first second boxes sides place
found first second boxes sides n best place number is all so_far =
    is_next first second boxes sides n place number all (subst (λ (b : Option (ℕ × ℕ)). BestBelow first second boxes sides n b) is so_far)

-- an entry of the list is left, or isn't
pub left_there : (sides : Sides) (p : ℕ) → p < length sides → is_some (get_or sides p None) ≡ false → IsLeft sides p
left_there sides p inside none = slice_get-get_or sides p None inside ∙ ap Some (is_none (get_or sides p None) none)
  where
    is_none : (s : Option Side) → is_some s ≡ false → s ≡ None
    is_none None none = refl
    is_none (Some side) none = absurd (cc)

pub not_left_there : (sides : Sides) (p : ℕ) → is_some (get_or sides p None) ≡ true → IsLeft sides p → ⊥
not_left_there sides p some left =
    let e : get_or sides p None ≡ None = get_or_from_slice_get sides p None None left in
    let no : false ≡ true = sym (ap is_some e) ∙ some in
    cc

-- where none is left the count of those that are left is 0
pub none_left : (sides : Sides) → ((q : ℕ) → q < length sides → IsLeft sides q → ⊥) → left_in sides ≡ 0
none_left [] none = refl
none_left (None ∷ sides) none = absurd (none 0 (omega arith) refl)
none_left (Some side ∷ sides) none =
    let rest : left_in sides ≡ 0 = none_left sides (λ q low left. none (suc q) (omega arith) left) in
    let e = sum_by-cons (λ s. cond (is_left s) 1 0) (Some side) sides in
    let rest' : count_by is_left sides ≡ 0 = rest in
    omega (arith, e, rest')

pub nothing_left : (first second : Corners) (boxes : List Corners) (sides : Sides) (n : ℕ) (best : Option (ℕ × ℕ)) → best ≡ None → length sides ≤ n → BestBelow first second boxes sides n best → left_in sides ≡ 0
nothing_left first second boxes sides n best is all so_far =
    let none : (q : ℕ) → q < n → IsLeft sides q → ⊥ = subst (λ (b : Option (ℕ × ℕ)). BestBelow first second boxes sides n b) is so_far in
    none_left sides (λ q low left. none q (omega arith) left)
