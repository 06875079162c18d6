-- Laws on recency lists: who is in them, that they stay distinct, and what the last member that passes a test is.
use Rattle.std.proofs.Common.{◌≡◌, ◌∙◌, ◌<◌, ◌≤◌, ◌⊎◌, ◌||◌, Bool, true, false, not, cond, List, [], ◌∷◌, ℕ, Option, Some, None, refl, sym, ap, subst, inl, inr, nat_eq, arith, ⊎_elim, length}
use Rattle.std.specs.List.{IsDistinct, AllByRecursion}
use Rattle.std.specs.Option.{option_or}
use Rattle.std.proofs.lemmas.Bool.{false≢true, or_cases, or_parts, or_from, or_left, or_right, eqb-true, eq-eqb, ne_eqb, eqb-false, cond-true, cond-false, cases_Bool, not_from_true, not_from_false, cases_eq}
use Rattle.std.proofs.lemmas.Map.Steps.{length-le_from_distinct_below}
use Rattle.std.proofs.lemmas.Map.Keys.{IsDistinct-cons}
use Rattle.isp_recency.specs.Recent.{RecencyList, has, without, last_where, IsRecency}

pub has_first : (i : ℕ) (xs : List ℕ) → has (i ∷ xs) i ≡ true
has_first i xs = or_left (nat_eq i i) (has xs i) (eq-eqb i i refl)

pub has_later : (i x : ℕ) (xs : List ℕ) → has xs i ≡ true → has (x ∷ xs) i ≡ true
has_later i x xs h = or_right (nat_eq i x) (has xs i) h

-- a member of a longer list is its first or one of the rest
pub has_cases : (i x : ℕ) (xs : List ℕ) → has (x ∷ xs) i ≡ true → (i ≡ x) ⊎ (has xs i ≡ true)
has_cases i x xs h = ⊎_elim (λ here. inl (eqb-true i x here)) (λ there. inr there) (or_cases (nat_eq i x) (has xs i) h)

-- the list without its first is the rest without it, or with the first before it
without_same : (i x : ℕ) (xs : List ℕ) → x ≡ i → without (x ∷ xs) i ≡ without xs i
without_same i x xs e = cond-false (not (nat_eq x i)) (x ∷ without xs i) (without xs i) (not_from_true (nat_eq x i) (eq-eqb x i e))

without_other : (i x : ℕ) (xs : List ℕ) → (x ≡ i → ⊥) → without (x ∷ xs) i ≡ x ∷ without xs i
without_other i x xs d = cond-true (not (nat_eq x i)) (x ∷ without xs i) (without xs i) (not_from_false (nat_eq x i) (ne_eqb x i d))

pub lacks_without : (i : ℕ) (xs : List ℕ) → has (without xs i) i ≡ false
lacks_without i [] = refl
lacks_without i (x ∷ xs) =
    ⊎_elim (λ e. ap (λ ys. has ys i) (without_same i x xs e) ∙ lacks_without i xs)
    (λ d. ap (λ ys. has ys i) (without_other i x xs d) ∙ or_from (nat_eq i x) (has (without xs i) i) (ne_eqb i x (λ e. d (sym e))) (lacks_without i xs))
    (cases_eq x i)

pub has_without : (i j : ℕ) (xs : List ℕ) → (j ≡ i → ⊥) → has (without xs i) j ≡ has xs j
has_without i j [] d = refl
has_without i j (x ∷ xs) d =
    ⊎_elim
    (λ e. ap (λ ys. has ys j) (without_same i x xs e) ∙ has_without i j xs d
    ∙ ap (λ b. b || has xs j) (sym (ne_eqb j x (λ f. d (f ∙ e)))))
    (λ o. ap (λ ys. has ys j) (without_other i x xs o) ∙ ap (λ b. nat_eq j x || b) (has_without i j xs d))
    (cases_eq x i)

pub without_absent : (i : ℕ) (xs : List ℕ) → has xs i ≡ false → without xs i ≡ xs
without_absent i [] h = refl
without_absent i (x ∷ xs) h =
    let parts = or_parts (nat_eq i x) (has xs i) h in
    without_other i x xs (λ e. eqb-false i x parts.0 (sym e)) ∙ ap (λ ys. x ∷ ys) (without_absent i xs parts.1)

-- between "isn't one of them" and the words of distinct lists
others : (i : ℕ) (xs : List ℕ) → has xs i ≡ false → AllByRecursion (λ y. nat_eq i y ≡ false) xs
others i [] h = tt
others i (x ∷ xs) h = let parts = or_parts (nat_eq i x) (has xs i) h in (parts.0, others i xs parts.1)

lacks : (i : ℕ) (xs : List ℕ) → AllByRecursion (λ y. nat_eq i y ≡ false) xs → has xs i ≡ false
lacks i [] h = refl
lacks i (x ∷ xs) h = or_from (nat_eq i x) (has xs i) h.0 (lacks i xs h.1)

pub distinct_more : (i : ℕ) (xs : List ℕ) → has xs i ≡ false → IsDistinct nat_eq xs → IsDistinct nat_eq (i ∷ xs)
distinct_more i xs h d = IsDistinct-cons nat_eq i xs (others i xs h) d

pub distinct_first : (i : ℕ) (xs : List ℕ) → IsDistinct nat_eq (i ∷ xs) → has xs i ≡ false
unfolding IsDistinct
distinct_first i xs d = lacks i xs d.0

pub distinct_rest : (i : ℕ) (xs : List ℕ) → IsDistinct nat_eq (i ∷ xs) → IsDistinct nat_eq xs
unfolding IsDistinct
distinct_rest i xs d = d.1

distinct_none : IsDistinct nat_eq []
unfolding IsDistinct
distinct_none = tt

-- who isn't in a list isn't in what is left of it
lacks_still : (i j : ℕ) (xs : List ℕ) → has xs j ≡ false → has (without xs i) j ≡ false
lacks_still i j xs h =
    ⊎_elim (λ e. ap (λ k. has (without xs i) k) e ∙ lacks_without i xs) (λ d. has_without i j xs d ∙ h) (cases_eq j i)

pub distinct_without : (i : ℕ) (xs : List ℕ) → IsDistinct nat_eq xs → IsDistinct nat_eq (without xs i)
distinct_without i [] d = distinct_none
distinct_without i (x ∷ xs) d =
    let rest = distinct_without i xs (distinct_rest x xs d) in
    ⊎_elim (λ e. subst (λ ys. IsDistinct nat_eq ys) (sym (without_same i x xs e)) rest)
    (λ o. subst (λ ys. IsDistinct nat_eq ys) (sym (without_other i x xs o)) (distinct_more x (without xs i) (lacks_still i x xs (distinct_first x xs d)) rest))
    (cases_eq x i)

-- a member of what is left was one before
had : (i j : ℕ) (xs : List ℕ) → has (without xs i) j ≡ true → has xs j ≡ true
had i j xs h =
    ⊎_elim (λ e. absurd (false≢true (sym (lacks_without i xs) ∙ ap (λ k. has (without xs i) k) (sym e) ∙ h)))
    (λ d. sym (has_without i j xs d) ∙ h) (cases_eq j i)

-- the empty list, and what the calls leave
abbrev pub list_of : ℕ → List ℕ → RecencyList
list_of n xs = record { size = n; members = xs }

pub empty_list : (n : ℕ) (xs : List ℕ) → xs ≡ [] → 0 < n → n ≤ 4096 → IsRecency (list_of n xs)
empty_list n xs e l m = subst (λ ys. IsRecency (list_of n ys)) (sym e) record { least = l; most = m; distinct = distinct_none; below = λ i h. absurd (false≢true h) }

pub after_push : (n i : ℕ) (xs : List ℕ) → IsRecency (list_of n xs) → i < n → has xs i ≡ false → IsRecency (list_of n (i ∷ xs))
after_push n i xs r lt h = record {
  least = r.least;
  most = r.most;
  distinct = distinct_more i xs h r.distinct;
  below = λ j there. ⊎_elim (λ e. subst (λ k. k < n) (sym e) lt) (λ rest. r.below j rest) (has_cases j i xs there);
}

pub after_remove : (n i : ℕ) (xs : List ℕ) → IsRecency (list_of n xs) → IsRecency (list_of n (without xs i))
after_remove n i xs r = record {
  least = r.least;
  most = r.most;
  distinct = distinct_without i xs r.distinct;
  below = λ j there. r.below j (had i j xs there);
}

-- where a number is missing there is room for it
pub room : (n i : ℕ) (xs : List ℕ) → IsRecency (list_of n xs) → i < n → has xs i ≡ false → length xs < n
room n i xs r lt h =
    let more = after_push n i xs r lt h in
    let le = length-le_from_distinct_below (i ∷ xs) n more.distinct more.below in omega arith

-- the last member that passes
pub last_passes : (test : ℕ → Bool) (xs : List ℕ) (i : ℕ) → last_where test xs ≡ Some i → (has xs i ≡ true) × (test i ≡ true)
last_passes test [] i e = cc
last_passes test (x ∷ xs) i e =
    let P : Option ℕ → Type 0 = λ o. o ≡ last_where test xs → option_or o (cond (test x) (Some x) None) ≡ Some i → (has (x ∷ xs) i ≡ true) × (test i ≡ true) in
    elim (last_where test xs) as P [
      | Some k ↦ λ is same. let found = last_passes test xs i (sym is ∙ same) in (has_later i x xs found.0, found.1)
      | None ↦ λ is same. let b = test x in
          ⊎_elim
          (λ yes_is. let k : x ≡ i = let c = cond-true (test x) (Some x) None yes_is in cc in
          (or_left (nat_eq i x) (has xs i) (eq-eqb i x (sym k)), ap test (sym k) ∙ yes_is))
          (λ no_is. let c = cond-false (test x) (Some x) None no_is in let bad : None ≡ Some i = sym c ∙ same in cc)
          (cases_Bool (test x))
    ] refl e

pub none_passes : (test : ℕ → Bool) (xs : List ℕ) → last_where test xs ≡ None → (i : ℕ) → has xs i ≡ true → test i ≡ false
none_passes test [] e i h = absurd (false≢true h)
none_passes test (x ∷ xs) e i h =
    let P : Option ℕ → Type 0 = λ o. o ≡ last_where test xs → option_or o (cond (test x) (Some x) None) ≡ None → test i ≡ false in
    elim (last_where test xs) as P [
      | Some k ↦ λ is same. let bad : Some k ≡ None = same in cc
      | None ↦ λ is same.
          ⊎_elim
          (λ yes_is. let c = cond-true (test x) (Some x) None yes_is in let bad : Some x ≡ None = sym c ∙ same in cc)
          (λ no_is. ⊎_elim (λ here. ap test here ∙ no_is) (λ there. none_passes test xs (sym is) i there) (has_cases i x xs h))
          (cases_Bool (test x))
    ] refl e

pub last_agrees : (test other : ℕ → Bool) → ((i : ℕ) → test i ≡ other i) → (xs : List ℕ) → last_where test xs ≡ last_where other xs
last_agrees test other same [] = refl
last_agrees test other same (x ∷ xs) =
    ap (λ o. option_or o (cond (test x) (Some x) None)) (last_agrees test other same xs)
    ∙ ap (λ b. option_or (last_where other xs) (cond b (Some x) None)) (same x)
