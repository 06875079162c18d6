-- What tests of lists and numbers say.
use Rattle.std.proofs.Common.{◌≡◌, inl, inr, refl, ℕ, suc, ◌<◌, ◌≤◌, Bool, true, false, not, ◌||◌, List, [], ◌∷◌, length, arith, eqb-true}
use Rattle.std.specs.Prelude.{nat_le, nat_lt}
use Rattle.std.specs.List.{list_any}
use Rattle.std.proofs.lemmas.Bool.Decides.{nat_tests}
use Rattle.isp_base.specs.Lists.{Has}
use Rattle.isp_events.specs.State.{is_empty}

pub empty_is : {X : Type 0} (xs : List X) → is_empty xs ≡ true → xs ≡ []
empty_is [] h = refl
empty_is (x ∷ xs) h = let e : suc (length xs) ≡ 0 = eqb-true (suc (length xs)) 0 h in let no : ⊥ = omega (arith, e) in absurd no

pub record Passing {X : Type 0} (t : X → Bool) (xs : List X) : Type 0 where
  pub x : X
  pub has : Has xs x
  pub passes : t x ≡ true

pub any_has : {X : Type 0} (t : X → Bool) (xs : List X) → list_any t xs ≡ true → Passing t xs
any_has t [] h = let no : ⊥ = cc in absurd no
any_has t (x ∷ xs) h =
    elim (t x) as (λ b. t x ≡ b → (b || list_any t xs) ≡ true → Passing t (x ∷ xs)) [
      | true ↦ λ e k. record { x = x; has = inl refl; passes = e }
      | false ↦ λ e k. (let r : Passing t xs = any_has t xs k in record { x = r.x; has = inr r.has; passes = r.passes })
    ] refl h

pub not_is : (b : Bool) → not b ≡ true → b ≡ false
not_is true h = cc
not_is false h = refl

pub below : (n k : ℕ) → nat_lt n k ≡ true → n < k
below n k h = grind (arith, nat_tests)

pub at_most : (n k : ℕ) → nat_le n k ≡ true → n ≤ k
at_most n k h = grind (arith, nat_tests)
