-- The best subtree so far, as one more is looked at.
use Rattle.std.proofs.Common.{◌≡◌, ◌⊎◌, inl, inr, ℕ, ◌+◌, ◌<◌, ◌≤◌, ◌==◌, ◌&&◌, Bool, true, false, cond, Some, List, length, refl, sym, ◌∙◌, ap, subst, arith}
use Rattle.std.specs.Prelude.{nat_lt, slice_get}
use Rattle.std.proofs.lemmas.Bool.{cases_lt}
use Rattle.std.proofs.lemmas.Bool.Decides.{nat_tests}
use Rattle.std.proofs.lemmas.Option.{slice_get_within}
use Rattle.isp_mbr.specs.Corners.{Corners}
use Rattle.isp_mbr.specs.Boxes.{area, enlargement}
use Rattle.isp_forest.specs.Choice.{IsBetter, IsChoice}
use Rattle.isp_forest.specs.declared.entry.Entry.{Entry}
use Rattle.isp_rnode.specs.Candidates.{IsCandidate, better_of}
use Rattle.isp_rnode.specs.declared.choosing.Candidate.{Candidate}

-- ---- pairs of numbers, in order

abbrev IsLess : ℕ → ℕ → ℕ → ℕ → Type 0
IsLess a b c d = (a < c) ⊎ ((a ≡ c) × (b < d))

less_irrefl : (a b : ℕ) → IsLess a b a b → ⊥
less_irrefl a b (inl h) = omega arith
less_irrefl a b (inr h) = omega (arith, h.1)

-- a pair below one that a third isn't below is below the third
less_of : (a b c d e f : ℕ) → IsLess a b c d → (IsLess e f c d → ⊥) → IsLess a b e f
less_of a b c d e f h out = elim (cases_lt e c) [
  | inl low ↦ absurd (out (inl low))
  | inr high ↦ by_sum h high
]
  where
    by_area : (d ≤ f) → (b < d) → (a ≡ c) → (e ≡ c) → IsLess a b e f
    by_area le lt same same_e = inr (same ∙ sym same_e, omega arith)

    by_sum : IsLess a b c d → c ≤ e → IsLess a b e f
    by_sum (inl lt) le = inl (omega arith)
    by_sum (inr eq) le = elim (cases_lt c e) [
      | inl lt ↦ inl (omega (arith, eq.0))
      | inr ge ↦ (let same : e ≡ c = omega arith in elim (cases_lt f d) [ inl lt ↦ absurd (out (inr (same, lt))) | inr le_d ↦ by_area le_d eq.1 eq.0 same ])
    ]

less_trans : (a b c d e f : ℕ) → IsLess a b c d → IsLess c d e f → IsLess a b e f
less_trans a b c d e f (inl h) (inl k) = inl (omega arith)
less_trans a b c d e f (inl h) (inr k) = inl (omega (arith, k.0))
less_trans a b c d e f (inr h) (inl k) = inl (omega (arith, h.0))
less_trans a b c d e f (inr h) (inr k) = inr (h.0 ∙ k.0, omega (arith, h.1, k.1))

-- ---- the best of the entries before the n-th

pub record IsBestOf (entries : List Entry) (b : Corners) (n : ℕ) (candidate : Candidate) : Type 0 where
  pub place : ℕ
  pub entry : Entry
  pub there : slice_get entries place ≡ Some entry
  pub is : IsCandidate b entry candidate
  pub best : (k : ℕ) (e : Entry) → k < n → slice_get entries k ≡ Some e → IsBetter b e entry → ⊥
  pub first : (k : ℕ) (e : Entry) → k < place → slice_get entries k ≡ Some e → IsBetter b entry e

pub starts : (entries : List Entry) (b : Corners) (e : Entry) (candidate : Candidate) → slice_get entries 0 ≡ Some e → IsCandidate b e candidate → IsBestOf entries b 0 candidate
starts entries b e candidate there is = record {
  place = 0;
  entry = e;
  there = there;
  is = is;
  best = λ k f low there. absurd (omega arith);
  first = λ k f low there. absurd (omega arith);
}

below_or_at : (k i : ℕ) → k < i + 1 → (k < i) ⊎ (k ≡ i)
below_or_at k i h = elim (cases_lt k i) [ inl a ↦ inl a | inr b ↦ inr (omega arith) ]

same_some : {x y : Entry} → Some x ≡ Some y → x ≡ y
same_some h = cc

takes : (entries : List Entry) (b : Corners) (n : ℕ) (e : Entry) (old new : Candidate) → slice_get entries n ≡ Some e → IsCandidate b e new → (s : IsBestOf entries b n old) → IsBetter b e s.entry → IsBestOf entries b (n + 1) new
takes entries b n e old new there is s better = record {
  place = n;
  entry = e;
  there = there;
  is = is;
  best = λ k f low there_k h. elim (below_or_at k n low) [
    | inl below ↦ s.best k f below there_k (less_trans (enlargement f.b b) (area f.b) (enlargement e.b b) (area e.b) (enlargement s.entry.b b) (area s.entry.b) h better)
    | inr at ↦ (let same : e ≡ f = same_some (sym there ∙ ap (slice_get entries) (sym at) ∙ there_k) in
        less_irrefl (enlargement f.b b) (area f.b) (subst (λ (x : Entry). IsBetter b f x) same h))
  ];
  first = λ k f low there_k. less_of (enlargement e.b b) (area e.b) (enlargement s.entry.b b) (area s.entry.b) (enlargement f.b b) (area f.b) better (s.best k f low there_k);
}

stays : (entries : List Entry) (b : Corners) (n : ℕ) (e : Entry) (old : Candidate) → slice_get entries n ≡ Some e → (s : IsBestOf entries b n old) → (IsBetter b e s.entry → ⊥) → IsBestOf entries b (n + 1) old
stays entries b n e old there s out = record {
  place = s.place;
  entry = s.entry;
  there = s.there;
  is = s.is;
  best = λ k f low there_k h. elim (below_or_at k n low) [
    | inl below ↦ s.best k f below there_k h
    | inr at ↦ (let same : e ≡ f = same_some (sym there ∙ ap (slice_get entries) (sym at) ∙ there_k) in out (subst (λ (x : Entry). IsBetter b x s.entry) (sym same) h))
  ];
  first = s.first;
}

both : (p q : Bool) → (p && q) ≡ true → (p ≡ true) × (q ≡ true)
both true q h = (refl, h)
both false q h = absurd (cc)

one_false : (p q : Bool) → (p && q) ≡ false → p ≡ true → q ≡ false
one_false true q h is = h
one_false false q h is = absurd (cc)

pub step : (entries : List Entry) (b : Corners) (n : ℕ) (e : Entry) (old new : Candidate) → slice_get entries n ≡ Some e → IsCandidate b e new → IsBestOf entries b n old → IsBestOf entries b (n + 1) (better_of old new)
step entries b n e old new there is s =
    let test = (new.enlargement == old.enlargement) && nat_lt new.area old.area in
    elim (nat_lt new.enlargement old.enlargement) as (λ t. nat_lt new.enlargement old.enlargement ≡ t → IsBestOf entries b (n + 1) (cond t new (cond test new old))) [
      | true ↦ λ t. (let less : new.enlargement < old.enlargement = grind (arith, nat_tests) in
          takes entries b n e old new there is s (inl (omega (arith, less, is.enlargement_is, s.is.enlargement_is))))
      | false ↦ λ t. elim test as (λ u. test ≡ u → IsBestOf entries b (n + 1) (cond u new old)) [
        | true ↦ λ u. (let parts = both (new.enlargement == old.enlargement) (nat_lt new.area old.area) u in
            let same : (new.enlargement == old.enlargement) ≡ true = parts.0 in
            let less : nat_lt new.area old.area ≡ true = parts.1 in
            let same' : new.enlargement ≡ old.enlargement = grind (arith, nat_tests) in
            let less' : new.area < old.area = grind (arith, nat_tests) in
            takes entries b n e old new there is s (inr (sym is.enlargement_is ∙ same' ∙ s.is.enlargement_is, omega (arith, less', is.area_is, s.is.area_is))))
        | false ↦ λ u. stays entries b n e old there s (λ h. not_better u t h)
      ] refl
    ] refl
  where
    not_better : ((new.enlargement == old.enlargement) && nat_lt new.area old.area) ≡ false → nat_lt new.enlargement old.enlargement ≡ false → IsBetter b e s.entry → ⊥
    not_better u t (inl h) = (let less : new.enlargement < old.enlargement = omega (arith, h, is.enlargement_is, s.is.enlargement_is) in grind (arith, nat_tests))
    not_better u t (inr h) = (let same : new.enlargement ≡ old.enlargement = is.enlargement_is ∙ h.0 ∙ sym s.is.enlargement_is in
        let same' : (new.enlargement == old.enlargement) ≡ true = grind (arith, nat_tests) in
        let not_less : nat_lt new.area old.area ≡ false = one_false (new.enlargement == old.enlargement) (nat_lt new.area old.area) u same' in
        let less : new.area < old.area = omega (arith, h.1, is.area_is, s.is.area_is) in
        grind (arith, nat_tests))

pub chosen : (entries : List Entry) (b : Corners) (n : ℕ) (best : Candidate) → length entries ≤ n → IsBestOf entries b n best → IsChoice entries b best.child.0
chosen entries b n best all s = record {
  place = s.place;
  entry = s.entry;
  there = s.there;
  best = λ k e there_k. s.best k e (omega (arith, slice_get_within entries k e there_k, all)) there_k;
  first = s.first;
  to = s.is.child_is;
}
