-- Sums that fall: of a number of each session, one of which changes, and of a number of each search.
use Rattle.std.proofs.Common.{◌≡◌, ◌∙◌, inl, inr, refl, sym, ap, subst, ℕ, ◌+◌, ◌≤◌, ◌<◌, ◌==◌, false, List, [], ◌∷◌, arith, length, map}
use Rattle.std.specs.Prelude.{slice_set}
use Rattle.isp_base.specs.Lists.{Has}
use Rattle.isp_events.specs.Sessions.{SessionState, session_at}
use Rattle.isp_events.specs.State.{session_numbers}
use Rattle.isp_order.proofs.SessionLaws.{each_changed, same_at, seated}
use Rattle.isp_measure.specs.Measure.{total, total_of_sessions}
use Rattle.isp_measure.proofs.ListFacts.{range_has}

pub same : (x : ℕ) → x ≤ x
same x = omega arith

pub equal : (x y : ℕ) → x ≡ y → x ≤ y
equal x y e = omega (arith, e)

-- ---- sums

pub total_no_more : {X : Type 0} (g f : X → ℕ) (xs : List X) → ((x : X) → Has xs x → g x ≤ f x) → total g xs ≤ total f xs
total_no_more g f [] each = omega arith
total_no_more g f (x ∷ xs) each =
    let first : g x ≤ f x = each x (inl refl) in
    let rest : total g xs ≤ total f xs = total_no_more g f xs (λ y h. each y (inr h)) in
    omega (arith, first, rest)

pub total_less : {X : Type 0} (g f : X → ℕ) (xs : List X) (y : X) → ((x : X) → Has xs x → g x ≤ f x) → Has xs y → g y < f y → total g xs < total f xs
total_less g f [] y each h lt = absurd h
total_less g f (x ∷ xs) y each (inl e) lt =
    let first : g x < f x = subst (λ z. g z < f z) (sym e) lt in
    let rest : total g xs ≤ total f xs = total_no_more g f xs (λ z h. each z (inr h)) in
    omega (arith, first, rest)
total_less g f (x ∷ xs) y each (inr h) lt =
    let first : g x ≤ f x = each x (inl refl) in
    let rest : total g xs < total f xs = total_less g f xs y (λ z k. each z (inr k)) h lt in
    omega (arith, first, rest)

pub total_of_map : {X Y : Type 0} (f : Y → ℕ) (h : X → Y) (xs : List X) → total f (map h xs) ≡ total (λ x. f (h x)) xs
total_of_map f h [] = refl
total_of_map f h (x ∷ xs) = ap (λ n. f (h x) + n) (total_of_map f h xs)

-- each is no more than the sum, which is no more than what they are where each is no more than one
pub total_has : {X : Type 0} (f : X → ℕ) (xs : List X) (x : X) → Has xs x → f x ≤ total f xs
total_has f [] x h = absurd h
total_has f (y ∷ xs) x (inl e) = let is : f y ≡ f x = ap f e in omega (arith, is)
total_has f (y ∷ xs) x (inr h) = let le : f x ≤ total f xs = total_has f xs x h in omega (arith, le)

pub total_low : {X : Type 0} (f : X → ℕ) (xs : List X) → ((x : X) → f x ≤ 1) → total f xs ≤ length xs
total_low f [] each = omega arith
total_low f (x ∷ xs) each =
    let le : total f xs ≤ length xs = total_low f xs each in
    let one : f x ≤ 1 = each x in
    omega (arith, le, one)

-- ---- sessions

pub numbered : (s : ℕ) → s < 17 → Has session_numbers s
numbered s lt = range_has 17 0 s (omega arith) (omega (arith, lt))

module _ (sessions : List SessionState) (s : ℕ) (new : SessionState) (not_over : (session_at sessions s).over ≡ false) (g f : ℕ → SessionState → ℕ)
    (others : (k : ℕ) → (k == s) ≡ false → g k (session_at sessions k) ≤ f k (session_at sessions k)) where
  pub sessions_no_more : g s new ≤ f s (session_at sessions s) → total_of_sessions g (slice_set sessions s new) ≤ total_of_sessions f sessions
  sessions_no_more own =
      let each : (k : ℕ) → g k (session_at (slice_set sessions s new) k) ≤ f k (session_at sessions k) =
      each_changed (λ k x. g k x ≤ f k (session_at sessions k)) sessions s new not_over own others in
      total_no_more (λ k. g k (session_at (slice_set sessions s new) k)) (λ k. f k (session_at sessions k)) session_numbers (λ k h. each k)

  pub sessions_less : length sessions ≡ 17 → g s new < f s (session_at sessions s) → total_of_sessions g (slice_set sessions s new) < total_of_sessions f sessions
  sessions_less many own =
      let seat : s < length sessions = seated sessions s not_over in
      let each : (k : ℕ) → g k (session_at (slice_set sessions s new) k) ≤ f k (session_at sessions k) =
      each_changed (λ k x. g k x ≤ f k (session_at sessions k)) sessions s new not_over (omega (arith, own)) others in
      total_less (λ k. g k (session_at (slice_set sessions s new) k)) (λ k. f k (session_at sessions k)) session_numbers s (λ k h. each k) (numbered s (omega (arith, seat, many)))
      (subst (λ x. g s x < f s (session_at sessions s)) (sym (same_at sessions s new seat)) own)
