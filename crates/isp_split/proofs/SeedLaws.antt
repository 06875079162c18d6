-- The best pair so far, as one more pair is looked at.
use Rattle.std.proofs.Common.{◌≡◌, ◌⊎◌, inl, inr, ℕ, ◌+◌, ◌<◌, ◌≤◌, true, false, List, length, refl, sym, ◌∙◌, subst, arith}
use Rattle.std.specs.Prelude.{nat_lt}
use Rattle.std.proofs.lemmas.Bool.Decides.{nat_tests}
use Rattle.isp_mbr.specs.Corners.{Corners}
use Rattle.isp_split.specs.Pairs.{IsPair}
use Rattle.isp_split.specs.declared.seeds.Pair.{Pair}
use Rattle.isp_split.specs.Seeds.{WastesMore, WastesAsMuch, IsBefore, AreBestBefore, AreSeeds}

-- before any pair is looked at, the first one counts as the best
pub first_pair : (boxes : List Corners) → 2 ≤ length boxes → AreBestBefore boxes 0 0 0 1
first_pair boxes two = record {
  order = omega arith;
  inside = omega arith;
  seen = inr (refl, refl);
  most = λ k l o i b. absurd (never k l b);
  first = λ k l o i b c. absurd (never k l b);
}
  where
    never : (k l : ℕ) → IsBefore k l 0 0 → ⊥
    never k l (inl h) = omega arith
    never k l (inr h) = let a : l < 0 = h.1 in omega arith

less_or_same : (l j : ℕ) → l < j + 1 → (l < j) ⊎ (l ≡ j)
less_or_same l j h = elim (nat_lt l j) as (λ b. nat_lt l j ≡ b → (l < j) ⊎ (l ≡ j)) [ true ↦ λ t. inl (grind (arith, nat_tests)) | false ↦ λ t. inr (grind (arith, nat_tests)) ] refl

-- which pairs stand before (i, j + 1)
before_next : (k l i j : ℕ) → IsBefore k l i (j + 1) → IsBefore k l i j ⊎ ((k ≡ i) × (l ≡ j))
before_next k l i j (inl h) = inl (inl h)
before_next k l i j (inr h) = elim (less_or_same l j h.1) [ inl a ↦ inl (inr (h.0, a)) | inr b ↦ inr (h.0, b) ]

-- a pair is looked at that wastes more than the best so far
pub better : (boxes : List Corners) (i j k l : ℕ) → i < j → j < length boxes → AreBestBefore boxes i j k l → WastesMore boxes i j k l → AreBestBefore boxes i (j + 1) i j
better boxes i j k l order inside s more = record {
  order = order;
  inside = inside;
  seen = inl (inr (refl, omega arith));
  most = λ m n o c b. most m n o c (before_next m n i j b);
  first = λ m n o c b d. first m n o c (before_next m n i j b) d;
}
  where
    most : (m n : ℕ) → m < n → n < length boxes → IsBefore m n i j ⊎ ((m ≡ i) × (n ≡ j)) → WastesAsMuch boxes i j m n
    most m n o c (inl b) = let h : WastesAsMuch boxes k l m n = s.most m n o c b in omega (arith, more)
    most m n o c (inr e) = rw (e.0, e.1) (omega arith)

    first : (m n : ℕ) → m < n → n < length boxes → IsBefore m n i j ⊎ ((m ≡ i) × (n ≡ j)) → IsBefore m n i j → WastesMore boxes i j m n
    first m n o c (inl b) d = let h : WastesAsMuch boxes k l m n = s.most m n o c b in omega (arith, more)
    first m n o c (inr e) (inl d) = absurd (omega (arith, e.0))
    first m n o c (inr e) (inr d) = absurd (omega (arith, e.1, d.1))

-- a pair is looked at that doesn't
pub no_better : (boxes : List Corners) (i j k l : ℕ) → i < j → AreBestBefore boxes i j k l → WastesAsMuch boxes k l i j → AreBestBefore boxes i (j + 1) k l
no_better boxes i j k l order s less = record {
  order = s.order;
  inside = s.inside;
  seen = seen s.seen;
  most = λ m n o c b. most m n o c (before_next m n i j b);
  first = λ m n o c b d. first m n o c (before_next m n i j b) d;
}
  where
    seen : IsBefore k l i j ⊎ ((k ≡ 0) × (l ≡ 1)) → IsBefore k l i (j + 1) ⊎ ((k ≡ 0) × (l ≡ 1))
    seen (inl (inl h)) = inl (inl h)
    seen (inl (inr h)) = inl (inr (h.0, omega (arith, h.1)))
    seen (inr h) = inr h

    later : IsBefore k l i j ⊎ ((k ≡ 0) × (l ≡ 1)) → IsBefore i j k l → ⊥
    later (inl (inl h)) (inl d) = omega arith
    later (inl (inl h)) (inr d) = omega (arith, d.0)
    later (inl (inr h)) (inl d) = omega (arith, h.0)
    later (inl (inr h)) (inr d) = omega (arith, h.1, d.1)
    later (inr h) (inl d) = omega (arith, h.0)
    later (inr h) (inr d) = omega (arith, h.0, h.1, d.0, d.1)

    most : (m n : ℕ) → m < n → n < length boxes → IsBefore m n i j ⊎ ((m ≡ i) × (n ≡ j)) → WastesAsMuch boxes k l m n
    most m n o c (inl b) = s.most m n o c b
    most m n o c (inr e) = rw (e.0, e.1) less

    at_it : (m n : ℕ) → (m ≡ i) × (n ≡ j) → IsBefore m n k l → IsBefore i j k l
    at_it m n e (inl h) = inl (omega (arith, e.0))
    at_it m n e (inr h) = inr (sym e.0 ∙ h.0, omega (arith, e.1, h.1))

    first : (m n : ℕ) → m < n → n < length boxes → IsBefore m n i j ⊎ ((m ≡ i) × (n ≡ j)) → IsBefore m n k l → WastesMore boxes k l m n
    first m n o c (inl b) d = s.first m n o c b d
    first m n o c (inr e) d = absurd (later s.seen (at_it m n e d))

-- the same of the code's pair, which has the areas of its boxes
pub record IsBest (boxes : List Corners) (i j : ℕ) (best : Pair) : Type 0 where
  pub pair : IsPair boxes best
  pub best_is : AreBestBefore boxes i j best.first best.second

pub takes : (boxes : List Corners) (i j : ℕ) (next best now : Pair) → i < j → j < length boxes → IsPair boxes next → next.first ≡ i → next.second ≡ j → IsBest boxes i j best → nat_lt (best.together + next.apart) (next.together + best.apart) ≡ true → now ≡ next → IsBest boxes i (j + 1) now
takes boxes i j next best now order inside pair first second so_far more is =
    let more' : best.together + next.apart < next.together + best.apart = grind (arith, nat_tests) in
    let wastes : WastesMore boxes next.first next.second best.first best.second = omega (arith, more', pair.together_is, pair.apart_is, so_far.pair.together_is, so_far.pair.apart_is) in
    let at : WastesMore boxes i j best.first best.second = subst (λ (k : ℕ). WastesMore boxes k j best.first best.second) first (subst (λ (k : ℕ). WastesMore boxes next.first k best.first best.second) second wastes) in
    let is_best : AreBestBefore boxes i (j + 1) i j = better boxes i j best.first best.second order inside so_far.best_is at in
    let to_next : AreBestBefore boxes i (j + 1) next.first next.second = subst (λ (k : ℕ). AreBestBefore boxes i (j + 1) k next.second) (sym first) (subst (λ (k : ℕ). AreBestBefore boxes i (j + 1) i k) (sym second) is_best) in
    subst (λ (x : Pair). IsBest boxes i (j + 1) x) (sym is) (record { pair = pair; best_is = to_next })

pub passes : (boxes : List Corners) (i j : ℕ) (next best now : Pair) → i < j → IsPair boxes next → next.first ≡ i → next.second ≡ j → IsBest boxes i j best → nat_lt (best.together + next.apart) (next.together + best.apart) ≡ false → now ≡ best → IsBest boxes i (j + 1) now
passes boxes i j next best now order pair first second so_far less is =
    let less' : next.together + best.apart ≤ best.together + next.apart = grind (arith, nat_tests) in
    let wastes : WastesAsMuch boxes best.first best.second next.first next.second = omega (arith, less', pair.together_is, pair.apart_is, so_far.pair.together_is, so_far.pair.apart_is) in
    let at : WastesAsMuch boxes best.first best.second i j = subst (λ (k : ℕ). WastesAsMuch boxes best.first best.second k j) first (subst (λ (k : ℕ). WastesAsMuch boxes best.first best.second next.first k) second wastes) in
    subst (λ (x : Pair). IsBest boxes i (j + 1) x) (sym is) (record { pair = so_far.pair; best_is = no_better boxes i j best.first best.second order so_far.best_is at })

-- a row begins, and is done
pub row_begun : (boxes : List Corners) (i k l : ℕ) → AreBestBefore boxes i 0 k l → AreBestBefore boxes i (i + 1) k l
row_begun boxes i k l s = record {
  order = s.order;
  inside = s.inside;
  seen = seen s.seen;
  most = λ m n o c b. s.most m n o c (back m n o b);
  first = λ m n o c b d. s.first m n o c (back m n o b) d;
}
  where
    back : (m n : ℕ) → m < n → IsBefore m n i (i + 1) → IsBefore m n i 0
    back m n o (inl h) = inl h
    back m n o (inr h) = let no : ⊥ = omega (arith, h.0, h.1) in absurd no

    seen : IsBefore k l i 0 ⊎ ((k ≡ 0) × (l ≡ 1)) → IsBefore k l i (i + 1) ⊎ ((k ≡ 0) × (l ≡ 1))
    seen (inl (inl h)) = inl (inl h)
    seen (inl (inr h)) = let no : ⊥ = omega (arith, h.1) in absurd no
    seen (inr h) = inr h

pub row_done : (boxes : List Corners) (i j k l : ℕ) → length boxes ≤ j → AreBestBefore boxes i j k l → AreBestBefore boxes (i + 1) 0 k l
row_done boxes i j k l all s = record {
  order = s.order;
  inside = s.inside;
  seen = seen s.seen;
  most = λ m n o c b. s.most m n o c (back m n c b);
  first = λ m n o c b d. s.first m n o c (back m n c b) d;
}
  where
    back : (m n : ℕ) → n < length boxes → IsBefore m n (i + 1) 0 → IsBefore m n i j
    back m n c (inl h) = elim (less_or_same m i h) [ inl a ↦ inl a | inr b ↦ inr (b, omega arith) ]
    back m n c (inr h) = let no : ⊥ = omega (arith, h.1) in absurd no

    seen : IsBefore k l i j ⊎ ((k ≡ 0) × (l ≡ 1)) → IsBefore k l (i + 1) 0 ⊎ ((k ≡ 0) × (l ≡ 1))
    seen (inl (inl h)) = inl (inl (omega arith))
    seen (inl (inr h)) = inl (inl (omega (arith, h.0)))
    seen (inr h) = inr h

-- all rows are done
pub all_done : (boxes : List Corners) (a i j : ℕ) → length boxes ≤ a → AreBestBefore boxes a 0 i j → AreSeeds boxes i j
all_done boxes a i j all s = record {
  order = s.order;
  inside = s.inside;
  most = λ k l o c. s.most k l o c (inl (omega arith));
  first = λ k l o c b. s.first k l o c (inl (omega arith)) b;
}
