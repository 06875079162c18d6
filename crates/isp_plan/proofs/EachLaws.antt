-- Reading members one after another, as a loop does.
use Rattle.std.proofs.Common.{◌≡◌, ◌∙◌, List, [], ◌∷◌, ◌++◌, Result, Ok, Err, refl, sym, ap, append_assoc}
use Rattle.isp_plain.specs.declared.refusal.Refusal.{Refusal}
use Rattle.isp_plan.specs.declared.refusal.Stop.{Stop}
use Rattle.isp_plan.specs.declared.refusal.Stop.TheVariants.{Refused, Memory}
use Rattle.isp_plan.specs.Refusals.{◌>>=◌, Gives}

module _ {X : Type 0} where
  -- what was found before, and what is still found
  abbrev pub with_front : List X → Result (List X) Refusal → Result (List X) Refusal
  with_front front found = found >>= λ xs. Ok (front ++ xs)

  pub begins : (found : Result (List X) Refusal) → with_front [] found ≡ found
  begins (Ok xs) = refl
  begins (Err e) = refl

  pub regroup : (front : List X) (x : X) (found : Result (List X) Refusal) → with_front front (found >>= λ xs. Ok (x ∷ xs)) ≡ with_front (front ++ x ∷ []) found
  regroup front x (Ok xs) = ap Ok (sym (append_assoc front (x ∷ []) xs))
  regroup front x (Err e) = refl

  -- one more was found
  pub goes_on : (front pushed : List X) (x : X) (one : Result X Refusal) (rest total : Result (List X) Refusal) → one ≡ Ok x → pushed ≡ front ++ x ∷ []
      → with_front front (one >>= λ y. rest >>= λ ys. Ok (y ∷ ys)) ≡ total → with_front pushed rest ≡ total
  goes_on front pushed x one rest total is e so_far =
      let step : with_front front (one >>= λ y. rest >>= λ ys. Ok (y ∷ ys)) ≡ with_front (front ++ x ∷ []) rest = rw is (regroup front x rest) in
      rw e (sym step ∙ so_far)

  -- the next one is refused, or memory runs out
  pub stops : (e : Stop) (front : List X) (one : Result X Refusal) (rest total : Result (List X) Refusal) → Gives {X = X} (Err e) one
      → with_front front (one >>= λ y. rest >>= λ ys. Ok (y ∷ ys)) ≡ total → Gives {X = List X} (Err e) total
  stops Memory front one rest total h so_far = tt
  stops (Refused r) front one rest total h so_far =
      let step : with_front front (one >>= λ y. rest >>= λ ys. Ok (y ∷ ys)) ≡ Err r = rw h refl in
      sym so_far ∙ step
