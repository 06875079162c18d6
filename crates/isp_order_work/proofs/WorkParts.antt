-- What holds of each session's work, where one session changes.
use Rattle.std.proofs.Common.{◌≡◌, ◌⊎◌, ◌∙◌, ◌<◌, ◌≤◌, inl, inr, refl, sym, ap, subst, ℕ, ◌==◌, Bool, true, false, Some, None, List, [], ◌∷◌, length, eqb-true}
use Rattle.std.specs.Prelude.{slice_set}
use Rattle.std.specs.Option.{option_map}
use Rattle.std.proofs.lemmas.Bool.{cases_lt, false≢true}
use Rattle.isp_events.specs.Sessions.{SessionState, Work, session_at}
use Rattle.isp_events.specs.Deadlocks.{Deadlock, as_victim, with_victims}
use Rattle.isp_order.specs.Work.{OfEachUndisturbed, OfEachWork}
use Rattle.isp_order.proofs.SessionLaws.{each_changed, other_at, same_at, set_past}

pub some_is : {Y : Type 0} (x y : Y) → Some x ≡ Some y → x ≡ y
some_is x y h = cc

pub none_some : {Y : Type 0} (y : Y) → None ≡ Some y → ⊥
none_some y h = cc

-- the work that a session at work has then
pub carried : (f : Work → Work) (session new : SessionState) (work now : Work) → new.work ≡ option_map f session.work → session.work ≡ Some work → new.work ≡ Some now → f work ≡ now
carried f session new work now is at_work now_at = some_is (f work) now (sym (ap (option_map f) at_work) ∙ sym is ∙ now_at)

-- a session without work has none then
pub no_work : (session : SessionState) (work : Work) → session.work ≡ None → session.work ≡ Some work → ⊥
no_work session work none some = none_some work (sym none ∙ some)

pub work_step : (Q : ℕ → SessionState → Work → Type 0) (sessions : List SessionState) (s : ℕ) (new : SessionState) → (session_at sessions s).over ≡ false
    → ((work : Work) → new.work ≡ Some work → Q s new work)
    → ((k : ℕ) → (k == s) ≡ false → (work : Work) → (session_at sessions k).work ≡ Some work → Q k (session_at sessions k) work)
    → OfEachWork (slice_set sessions s new) Q
work_step Q sessions s new not_over own others = each_changed (λ k session. (work : Work) → session.work ≡ Some work → Q k session work) sessions s new not_over own others

pub undisturbed_step : (Q : ℕ → SessionState → Work → Type 0) (sessions : List SessionState) (s : ℕ) (new : SessionState) → (session_at sessions s).over ≡ false
    → ((work : Work) → new.work ≡ Some work → new.victim ≡ false → Q s new work)
    → ((k : ℕ) → (k == s) ≡ false → (work : Work) → (session_at sessions k).work ≡ Some work → (session_at sessions k).victim ≡ false → Q k (session_at sessions k) work)
    → OfEachUndisturbed (slice_set sessions s new) Q
undisturbed_step Q sessions s new not_over own others =
    each_changed (λ k session. (work : Work) → session.work ≡ Some work → session.victim ≡ false → Q k session work) sessions s new not_over own others

-- ---- victims

set_each : (P : ℕ → SessionState → Type 0) → ((k : ℕ) (x : SessionState) → P k x → P k (as_victim x)) → (sessions : List SessionState) (v : ℕ)
    → ((k : ℕ) → P k (session_at sessions k)) → (k : ℕ) → P k (session_at (slice_set sessions v (as_victim (session_at sessions v))) k)
set_each P keep sessions v each k = by_test (k == v) refl
  where
    new : SessionState
    new = as_victim (session_at sessions v)

    by_length : (v < length sessions) ⊎ (length sessions ≤ v) → P v (session_at (slice_set sessions v (as_victim (session_at sessions v))) v)
    by_length (inl lt) = subst (P v) (sym (same_at sessions v (as_victim (session_at sessions v)) lt)) (keep v (session_at sessions v) (each v))
    by_length (inr past) = subst (λ xs. P v (session_at xs v)) (sym (set_past sessions v (as_victim (session_at sessions v)) past)) (each v)

    by_test : (b : Bool) → (k == v) ≡ b → P k (session_at (slice_set sessions v (as_victim (session_at sessions v))) k)
    by_test true e = subst (λ i. P i (session_at (slice_set sessions v (as_victim (session_at sessions v))) i)) (sym (eqb-true k v e)) (by_length (cases_lt v (length sessions)))
    by_test false e = subst (P k) (sym (other_at sessions v k (as_victim (session_at sessions v)) e)) (each k)

pub victims_each : (P : ℕ → SessionState → Type 0) → ((k : ℕ) (x : SessionState) → P k x → P k (as_victim x)) → (sessions : List SessionState) (ds : List Deadlock)
    → ((k : ℕ) → P k (session_at sessions k)) → (k : ℕ) → P k (session_at (with_victims sessions ds) k)
victims_each P keep sessions [] each k = each k
victims_each P keep sessions (d ∷ ds) each k =
    victims_each P keep (slice_set sessions d.victim (as_victim (session_at sessions d.victim))) ds (set_each P keep sessions d.victim each) k

pub work_victims : (Q : ℕ → SessionState → Work → Type 0) → ((k : ℕ) (x : SessionState) (work : Work) → Q k x work → Q k (as_victim x) work) → (sessions : List SessionState) (ds : List Deadlock)
    → OfEachWork sessions Q → OfEachWork (with_victims sessions ds) Q
work_victims Q keep sessions ds each =
    victims_each (λ k session. (work : Work) → session.work ≡ Some work → Q k session work) (λ k x h work at. keep k x work (h work at)) sessions ds each

-- of victims nothing is said
pub undisturbed_victims : (Q : ℕ → SessionState → Work → Type 0) (sessions : List SessionState) (ds : List Deadlock) → OfEachUndisturbed sessions Q → OfEachUndisturbed (with_victims sessions ds) Q
undisturbed_victims Q sessions ds each =
    victims_each (λ k session. (work : Work) → session.work ≡ Some work → session.victim ≡ false → Q k session work)
    (λ k x h work at undisturbed. absurd (false≢true (sym undisturbed))) sessions ds each
