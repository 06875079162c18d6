-- Where a member stands, and the list without it by places.
use Rattle.std.proofs.Common.{◌≡◌, ◌∙◌, ◌+◌, ◌-◌, ◌<◌, ◌≤◌, Bool, true, false, not, cond, List, [], ◌∷◌, ◌++◌, ℕ, zero, suc, Some, None, refl, sym, ap, subst, nat_eq, nat_lt, arith, ⊎_elim, length, get_or, take, drop}
use Rattle.std.specs.List.{IsDistinct, position, position_or_len}
use Rattle.std.specs.Option.{option_or}
use Rattle.std.proofs.lemmas.Bool.{false≢true, eqb-true, eq-eqb, ne_eqb, cond-true, cond-false, cases_eq, lt-ltb}
use Rattle.std.proofs.lemmas.List.{take_more, get_or_read}
use Rattle.std.proofs.lemmas.List.Quantifiers.{position-Some}
use Rattle.isp_recency.specs.Recent.{has, without, last_where}
use Rattle.isp_recency.proofs.RecentLaws.{has_first, has_later, without_absent, distinct_first, distinct_rest, has_cases}

-- the element at a place is a member
pub has_at : (xs : List ℕ) (k d : ℕ) → k < length xs → has xs (get_or xs k d) ≡ true
has_at [] k d lt = absurd (omega arith)
has_at (x ∷ xs) zero d lt = has_first x xs
has_at (x ∷ xs) (suc k) d lt = has_later (get_or xs k d) x xs (has_at xs k d (omega arith))

pub without_at : (xs : List ℕ) (k : ℕ) → IsDistinct nat_eq xs → k < length xs → without xs (get_or xs k 0) ≡ take k xs ++ drop (suc k) xs
without_at [] k d lt = absurd (omega arith)
without_at (x ∷ xs) zero d lt =
    cond-false (not (nat_eq x x)) (x ∷ without xs x) (without xs x) (ap not (eq-eqb x x refl)) ∙ without_absent x xs (distinct_first x xs d)
without_at (x ∷ xs) (suc k) d lt =
    let other : x ≡ get_or xs k 0 → ⊥ = λ e. false≢true (sym (distinct_first x xs d) ∙ ap (has xs) e ∙ has_at xs k 0 (omega arith)) in
    cond-true (not (nat_eq x (get_or xs k 0))) (x ∷ without xs (get_or xs k 0)) (without xs (get_or xs k 0)) (ap not (ne_eqb x (get_or xs k 0) other))
    ∙ ap (λ ys. x ∷ ys) (without_at xs k (distinct_rest x xs d) (omega arith))

-- a member has a place
pub placed : (xs : List ℕ) (i : ℕ) → has xs i ≡ true → position_or_len (λ m. nat_eq m i) xs < length xs
placed [] i h = absurd (false≢true h)
placed (x ∷ xs) i h =
    let n = position_or_len (λ m. nat_eq m i) xs in
    let P : ℕ → Type 0 = λ k. k < suc (length xs) in
    ⊎_elim
    (λ e. subst P (sym (cond-false (not (nat_eq x i)) (1 + n) 0 (ap not (eq-eqb x i e)))) (omega arith))
    (λ d. let rest = placed xs i (⊎_elim (λ e. absurd (d (sym e))) (λ there. there) (has_cases i x xs h)) in
    subst P (sym (cond-true (not (nat_eq x i)) (1 + n) 0 (ap not (ne_eqb x i d)))) (omega arith))
    (cases_eq x i)

pub place_found : (xs : List ℕ) (i : ℕ) → has xs i ≡ true → position (λ m. nat_eq m i) xs ≡ None → ⊥
place_found xs i h e =
    let n = position_or_len (λ m. nat_eq m i) xs in
    let c = cond-true (nat_lt n (length xs)) (Some n) None (lt-ltb n (length xs) (placed xs i h)) in cc

-- what stands at the place of a number
pub found_at : (xs : List ℕ) (i k : ℕ) → position (λ m. nat_eq m i) xs ≡ Some k → (k < length xs) × (get_or xs k 0 ≡ i)
found_at xs i k e = let p = position-Some (λ m. nat_eq m i) xs k 0 e in (p.0, eqb-true (get_or xs k 0) i p.1)

-- the last member that passes, of a list with one more at its end
pub last_more : (test : ℕ → Bool) (xs : List ℕ) (x : ℕ) → last_where test (xs ++ x ∷ []) ≡ cond (test x) (Some x) (last_where test xs)
last_more test [] x = refl
last_more test (y ∷ ys) x =
    let P : Bool → Type 0 = λ b. option_or (cond b (Some x) (last_where test ys)) (cond (test y) (Some y) None) ≡ cond b (Some x) (last_where test (y ∷ ys)) in
    ap (λ o. option_or o (cond (test y) (Some y) None)) (last_more test ys x) ∙ elim (test x) as P [ true ↦ refl | false ↦ refl ]

-- the step of a walk from the end
pub last_before : (test : ℕ → Bool) (xs : List ℕ) (k : ℕ) → 0 < k → k ≤ length xs
    → last_where test (take k xs) ≡ cond (test (get_or xs (k - 1) 0)) (Some (get_or xs (k - 1) 0)) (last_where test (take (k - 1) xs))
last_before test xs k l m =
    let one : k ≡ (k - 1) + 1 = omega arith in
    ap (λ n. last_where test (take n xs)) one ∙ ap (last_where test) (take_more xs (k - 1) 0 (omega arith)) ∙ last_more test (take (k - 1) xs) (get_or xs (k - 1) 0)

pub stops : (test : ℕ → Bool) (xs : List ℕ) (k x : ℕ) → 0 < k → k ≤ length xs → x ≡ get_or xs (k - 1) x
    → last_where test xs ≡ last_where test (take k xs) → test x ≡ true → Some x ≡ last_where test xs
stops test xs k x l m read same passes =
    let at : x ≡ get_or xs (k - 1) 0 = get_or_read xs (k - 1) x (omega arith) read 0 in
    let step = last_before test xs k l m in
    let here = cond-true (test (get_or xs (k - 1) 0)) (Some (get_or xs (k - 1) 0)) (last_where test (take (k - 1) xs)) (ap test (sym at) ∙ passes) in
    ap Some at ∙ sym here ∙ sym step ∙ sym same

pub goes_on : (test : ℕ → Bool) (xs : List ℕ) (k x : ℕ) → 0 < k → k ≤ length xs → x ≡ get_or xs (k - 1) x
    → last_where test xs ≡ last_where test (take k xs) → test x ≡ false → last_where test xs ≡ last_where test (take (k - 1) xs)
goes_on test xs k x l m read same fails =
    let at : x ≡ get_or xs (k - 1) 0 = get_or_read xs (k - 1) x (omega arith) read 0 in
    same ∙ last_before test xs k l m
    ∙ cond-false (test (get_or xs (k - 1) 0)) (Some (get_or xs (k - 1) 0)) (last_where test (take (k - 1) xs)) (ap test (sym at) ∙ fails)

-- the list with the element at its number's place removed
pub taken_out : (xs ys : List ℕ) (i k : ℕ) → IsDistinct nat_eq xs → position (λ m. nat_eq m i) xs ≡ Some k → ys ≡ take k xs ++ drop (suc k) xs → ys ≡ without xs i
taken_out xs ys i k d e removed =
    let p = found_at xs i k e in removed ∙ sym (without_at xs k d p.0) ∙ ap (without xs) p.1
