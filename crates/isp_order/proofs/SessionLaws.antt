-- Sessions by their numbers, one of which changes.
use Rattle.std.proofs.Common.{◌≡◌, ◌≢◌, ◌⊎◌, ◌∙◌, ◌<◌, ◌≤◌, inl, inr, refl, sym, ap, subst, ℕ, zero, suc, ◌==◌, Bool, true, false, List, [], ◌∷◌, length, arith, eqb-true, eq-eqb}
use Rattle.std.specs.Prelude.{slice_set}
use Rattle.std.proofs.lemmas.List.{get_or-set_other, get_or-set_same}
use Rattle.std.proofs.lemmas.Bool.{cases_lt, false≢true}
use Rattle.isp_base.specs.Lists.{Has}
use Rattle.isp_events.specs.Sessions.{fresh, SessionState, session_at}
use Rattle.isp_events.specs.Deadlocks.{Deadlock, as_victim, with_victims}

pub not_same : (k s : ℕ) → (k == s) ≡ false → k ≢ s
not_same k s h e = false≢true (sym h ∙ eq-eqb k s e)

pub same_at : (sessions : List SessionState) (s : ℕ) (new : SessionState) → s < length sessions → session_at (slice_set sessions s new) s ≡ new
same_at sessions s new lt = get_or-set_same sessions s new (fresh true) lt

pub other_at : (sessions : List SessionState) (s k : ℕ) (new : SessionState) → (k == s) ≡ false → session_at (slice_set sessions s new) k ≡ session_at sessions k
other_at sessions s k new h = get_or-set_other sessions s k new (fresh true) (not_same k s h)

-- who isn't over is one of the sessions
pub seated : (sessions : List SessionState) (s : ℕ) → (session_at sessions s).over ≡ false → s < length sessions
seated [] s h = let no : false ≡ true = sym h in absurd (false≢true no)
seated (x ∷ sessions) zero h = omega arith
seated (x ∷ sessions) (suc s) h = let r : s < length sessions = seated sessions s h in omega (arith, r)

-- what holds of each session, where one changes and of the others it still holds
pub each_at : (P : ℕ → SessionState → Type 0) (sessions : List SessionState) (s : ℕ) (new : SessionState) → s < length sessions
    → P s new → ((k : ℕ) → (k == s) ≡ false → P k (session_at sessions k)) → (k : ℕ) → P k (session_at (slice_set sessions s new) k)
each_at P sessions s new lt own others k =
    elim (k == s) as (λ b. (k == s) ≡ b → P k (session_at (slice_set sessions s new) k)) [
      | true ↦ λ e. subst (λ i. P i (session_at (slice_set sessions s new) i)) (sym (eqb-true k s e)) (subst (P s) (sym (same_at sessions s new lt)) own)
      | false ↦ λ e. subst (P k) (sym (other_at sessions s k new e)) (others k e)
    ] refl

pub none_has : {X : Type 0} (xs : List X) (x : X) → xs ≡ [] → Has xs x → ⊥
none_has {X = X} xs x e h = let no : Has [] x = subst (λ (ys : List X). Has ys x) e h in no

pub set_past : (sessions : List SessionState) (s : ℕ) (new : SessionState) → length sessions ≤ s → slice_set sessions s new ≡ sessions
set_past [] zero new h = refl
set_past [] (suc s) new h = refl
set_past (x ∷ sessions) zero new h = let no : ⊥ = omega (arith, h) in absurd no
set_past (x ∷ sessions) (suc s) new h = ap (λ xs. x ∷ xs) (set_past sessions s new (omega (arith, h)))

-- what a change keeps of a session is kept of each
pub changed_keeps : {Y : Type 0} (g : SessionState → Y) (sessions : List SessionState) (s k : ℕ) (new : SessionState) → g new ≡ g (session_at sessions s)
    → g (session_at (slice_set sessions s new) k) ≡ g (session_at sessions k)
changed_keeps g sessions s k new keeps = by_test (k == s) refl
  where
    by_length : (s < length sessions) ⊎ (length sessions ≤ s) → g (session_at (slice_set sessions s new) s) ≡ g (session_at sessions s)
    by_length (inl lt) = ap g (same_at sessions s new lt) ∙ keeps
    by_length (inr past) = ap (λ xs. g (session_at xs s)) (set_past sessions s new past)

    by_test : (b : Bool) → (k == s) ≡ b → g (session_at (slice_set sessions s new) k) ≡ g (session_at sessions k)
    by_test true e = subst (λ i. g (session_at (slice_set sessions s new) i) ≡ g (session_at sessions i)) (sym (eqb-true k s e)) (by_length (cases_lt s (length sessions)))
    by_test false e = ap g (other_at sessions s k new e)

-- to be known as a victim changes nothing else
pub victims_keep : {Y : Type 0} (g : SessionState → Y) → ((x : SessionState) → g (as_victim x) ≡ g x) → (sessions : List SessionState) (ds : List Deadlock) (k : ℕ)
    → g (session_at (with_victims sessions ds) k) ≡ g (session_at sessions k)
victims_keep g keeps sessions [] k = refl
victims_keep g keeps sessions (d ∷ ds) k =
    victims_keep g keeps (slice_set sessions d.victim (as_victim (session_at sessions d.victim))) ds k
    ∙ changed_keeps g sessions d.victim k (as_victim (session_at sessions d.victim)) (keeps (session_at sessions d.victim))

-- a session that is changed, and all others
pub each_changed : (P : ℕ → SessionState → Type 0) (sessions : List SessionState) (s : ℕ) (new : SessionState) → (session_at sessions s).over ≡ false
    → P s new → ((k : ℕ) → (k == s) ≡ false → P k (session_at sessions k)) → (k : ℕ) → P k (session_at (slice_set sessions s new) k)
each_changed P sessions s new not_over own others = each_at P sessions s new (seated sessions s not_over) own others
