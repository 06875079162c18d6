-- Chains of checks: what they are made of, and what stands at their end.
use Rattle.std.proofs.Common.{◌≡◌, Bool, true, false, not, Result, Ok, Err, refl}
use Rattle.isp_plain.specs.declared.refusal.Refusal.{Refusal}
use Rattle.isp_plain.specs.declared.statement.Statement.{Statement}
use Rattle.isp_plain.specs.declared.statement.Statement.TheVariants.{Refused}
use Rattle.isp_plan.specs.Refusals.{◌>>=◌, ensure, stated}

pub carried : {X : Type 0} (P : Statement → Type 0) → ((r : Refusal) → P (Refused r)) → (c : Result X Refusal) (f : X → Result Statement Refusal)
    → ((x : X) → c ≡ Ok x → P (stated (f x))) → P (stated (c >>= f))
carried P refusals (Ok x) f h = h x refl
carried P refusals (Err r) f h = refusals r

pub step : {A B : Type 0} (c : Result A Refusal) (f : A → Result B Refusal) (y : B) → (c >>= f) ≡ Ok y → (x : A) × (c ≡ Ok x) × (f x ≡ Ok y)
step (Ok x) f y is = (x, refl, is)
step (Err r) f y is = absurd cc

pub same : {A : Type 0} (x y : A) → ◌≡◌ {A = Result A Refusal} (Ok x) (Ok y) → x ≡ y
same x y is = cc

pub ensured : (r : Refusal) (b : Bool) (x : Unit {0}) → ensure r b ≡ Ok x → b ≡ true
ensured r true x is = refl
ensured r false x is = absurd cc

pub absent : (b : Bool) → not b ≡ true → b ≡ false
absent true is = absurd cc
absent false is = refl
