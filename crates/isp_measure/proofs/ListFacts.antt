-- What stands on lists: the numbers of a range, and what passes a test.
use Rattle.std.proofs.Common.{◌≡◌, ◌⊎◌, ◌∙◌, inl, inr, refl, sym, ap, subst, ℕ, zero, suc, ◌+◌, ◌≤◌, ◌<◌, cond, Bool, true, false, List, [], ◌∷◌, arith}
use Rattle.std.specs.Prelude.{filter}
use Rattle.std.specs.List.{range_with_len}
use Rattle.isp_base.specs.Lists.{Has}

first_or : (k a : ℕ) → a ≤ k → (a ≡ k) ⊎ (a + 1 ≤ k)
first_or zero zero le = inl refl
first_or zero (suc a) le = absurd (omega (arith, le))
first_or (suc k) zero le = inr (omega arith)
first_or (suc k) (suc a) le = more (first_or k a (omega (arith, le)))
  where
    more : (a ≡ k) ⊎ (a + 1 ≤ k) → (suc a ≡ suc k) ⊎ (suc a + 1 ≤ suc k)
    more (inl e) = inl (ap suc e)
    more (inr l) = inr (omega (arith, l))

pub range_has : (n a k : ℕ) → a ≤ k → k < a + n → Has (range_with_len a n) k
range_has zero a k le lt = absurd (omega (arith, le, lt))
range_has (suc n) a k le lt = by_cases (λ l. range_has n (a + 1) k l (omega (arith, lt))) (first_or k a le)
  where
    by_cases : (a + 1 ≤ k → Has (range_with_len (a + 1) n) k) → (a ≡ k) ⊎ (a + 1 ≤ k) → Has (range_with_len a (suc n)) k
    by_cases again (inl e) = inl e
    by_cases again (inr l) = inr (again l)

pub has_filter_of : {X : Type 0} (test : X → Bool) (xs : List X) (x : X) → Has xs x → test x ≡ true → Has (filter test xs) x
has_filter_of test [] x h p = absurd h
has_filter_of test (y ∷ xs) x (inl e) p = subst (λ b. Has (cond b (y ∷ filter test xs) (filter test xs)) x) (sym (ap test e ∙ p)) (inl e)
has_filter_of test (y ∷ xs) x (inr h) p = by_test (test y) (has_filter_of test xs x h p)
  where
    by_test : (b : Bool) → Has (filter test xs) x → Has (cond b (y ∷ filter test xs) (filter test xs)) x
    by_test true k = inr k
    by_test false k = k
