-- Checks that refuse a statement before any row is looked at, one after another, and the statement that says so.
use Rattle.std.specs.Prelude.{◌≡◌, Bool, true, false, List, [], ◌∷◌, Result, Ok, Err, Option, Some, None}
use Rattle.isp_plain.specs.declared.statement.Statement.{Statement}
use Rattle.isp_plain.specs.declared.statement.Statement.TheVariants.{Refused}
use Rattle.isp_plain.specs.declared.refusal.Refusal.{Refusal}
use Rattle.isp_plan.specs.declared.refusal.Stop.{Stop}
use Rattle.isp_plan.specs.declared.refusal.Stop.TheVariants as stop

-- what is meant, or why it is refused
abbrev pub Checked : Type 0 → Type 0
Checked X = Result X Refusal

infixl 10 ◌>>=◌
abbrev pub ◌>>=◌ : {A B : Type 0} → Result A Refusal → (A → Result B Refusal) → Result B Refusal
(Ok x) >>= f = f x
(Err e) >>= f = Err e

-- refused unless it is so
abbrev pub ensure : Refusal → Bool → Result (Unit {0}) Refusal
ensure r true = Ok tt
ensure r false = Err r

-- refused unless there is one
abbrev pub known : {X : Type 0} → Refusal → Option X → Result X Refusal
known r (Some x) = Ok x
known r None = Err r

-- each of them, or the refusal of the first that is refused
abbrev pub each : {A B : Type 0} → (A → Result B Refusal) → List A → Result (List B) Refusal
each f [] = Ok []
each f (x ∷ xs) = do
  y ← f x
  ys ← each f xs
  Ok (y ∷ ys)

-- what a call answered is what is meant, unless memory ran out
abbrev pub Gives : {X : Type 0} → Result X Stop → Result X Refusal → Type 0
Gives (Ok x) meant = meant ≡ Ok x
Gives (Err (stop.Refused r)) meant = meant ≡ Err r
Gives (Err stop.Memory) meant = Unit {0}

-- the statement, or the refusal as one
abbrev pub stated : Result Statement Refusal → Statement
stated (Ok s) = s
stated (Err r) = Refused r
