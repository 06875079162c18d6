-- Walks through a wait graph: how many waits lead from one session to another, and the least way there.
use Rattle.std.proofs.Common.{◌≡◌, ◌∙◌, ◌≤◌, true, List, [], ◌∷◌, ℕ, zero, suc, refl, sym, ap, subst, length, nat_eq, arith, ⊎_elim}
use Rattle.std.specs.List.{list_any}
use Rattle.isp_waits.specs.Graphs.{waits_of}
use Rattle.isp_waits.specs.Cycles.{Leads, IsBefore}
use Rattle.isp_waits.specs.Levels.{reaches, next, walk}
use Rattle.isp_waits.proofs.Members.{any_at, IsLeastPassing, least_passing}

module _ (w : List (List ℕ)) (s : ℕ) where
  pub reaches-zero : (v : ℕ) → reaches w s 0 v ≡ nat_eq s v
  unfolding reaches
  reaches-zero v = refl

  pub reaches-suc : (k v : ℕ) → reaches w s (suc k) v ≡ list_any (reaches w s k) (waits_of w v)
  unfolding reaches
  reaches-suc k v = refl

  pub walk-zero : (v : ℕ) → walk w s 0 v ≡ []
  unfolding walk
  walk-zero v = refl

  pub walk-suc : (k v : ℕ) → walk w s (suc k) v ≡ v ∷ walk w s k (next w s k v)
  unfolding walk
  walk-suc k v = refl

  -- a way of so many sessions is so many waits and one
  pub way_reaches : (v : ℕ) (xs : List ℕ) → Leads w v xs s → reaches w s (suc (length xs)) v ≡ true
  unfolding reaches
  way_reaches v [] h = h
  way_reaches v (x ∷ xs) h = any_at (reaches w s (suc (length xs))) (waits_of w v) x h.0 (way_reaches x xs h.1)

  -- the walk, without the session that it begins with
  pub way : ℕ → ℕ → List ℕ
  way k v = walk w s k (next w s k v)

  next_is_least : (k v : ℕ) → reaches w s (suc k) v ≡ true → IsLeastPassing (reaches w s k) (waits_of w v) (next w s k v)
  next_is_least k v h = least_passing (reaches w s k) (waits_of w v) (sym (reaches-suc k v) ∙ h)

  pub way_leads : (k v : ℕ) → reaches w s (suc k) v ≡ true → Leads w v (way k v) s
  unfolding reaches walk way
  way_leads zero v h = h
  way_leads (suc k) v h =
      let least = next_is_least (suc k) v h in (least.member, way_leads k (next w s (suc k) v) least.passes)

  pub walk_is : (k v : ℕ) → walk w s (suc k) v ≡ v ∷ way k v
  unfolding walk way
  walk_is k v = refl

  length-walk : (k v : ℕ) → length (walk w s k v) ≡ k
  unfolding walk
  length-walk zero v = refl
  length-walk (suc k) v = ap suc (length-walk k (next w s k v))

  pub length-way : (k v : ℕ) → length (way k v) ≡ k
  unfolding way
  length-way k v = length-walk k (next w s k v)

  -- no way of the same length is less
  pub way_least : (k v : ℕ) → reaches w s (suc k) v ≡ true → (other : List ℕ) → Leads w v other s → length other ≡ k → IsBefore other (way k v) → ⊥
  unfolding walk way
  way_least zero v h [] leads size less = less
  way_least zero v h (y ∷ ys) leads size less = less
  way_least (suc k) v h [] leads size less = absurd (omega arith)
  way_least (suc k) v h (y ∷ ys) leads size less =
      let least = next_is_least (suc k) v h in
      let size' : length ys ≡ k = omega arith in
      let reach : reaches w s (suc k) y ≡ true = ap (λ n. reaches w s (suc n) y) (sym size') ∙ way_reaches y ys leads.1 in
      let le : next w s (suc k) v ≤ y = least.below y leads.0 reach in
      ⊎_elim (λ lt. absurd (omega arith))
      (λ tied. way_least k (next w s (suc k) v) least.passes ys (subst (λ t. Leads w t ys s) tied.0 leads.1) size' tied.1) less
