-- Lists of all numbers below one, and of all lists that are no longer than one and have what another has.
use Rattle.std.proofs.Common.{◌≡◌, ◌⊎◌, ◌∙◌, inl, inr, refl, sym, ap, subst, ℕ, zero, suc, ◌+◌, ◌≤◌, ◌<◌, ◌==◌, ◌&&◌, not, cond, Bool, true, false, List, [], ◌∷◌, ◌++◌, arith, length, map, take, drop, eqb-true}
use Rattle.std.specs.Prelude.{flat_map, nat_le}
use Rattle.std.specs.List.{list_all, range_with_len}
use Rattle.std.proofs.lemmas.Bool.{and_parts, cases_lt, false≢true, le-leb}
use Rattle.isp_base.specs.Lists.{Has, times}
use Rattle.isp_laws.proofs.ListLaws.{Has-map_of, Has-times, no_longer, times-Has}
use Rattle.isp_event_laws.proofs.ListTests.{at_most, not_is}
use Rattle.isp_event_laws.proofs.PlacingLaws.{Has-flat_map_of}
use Rattle.isp_searches.proofs.SeesLaws.{has_among}
use Rattle.isp_forest.specs.Steps.{is_among}
use Rattle.isp_events.specs.Writing.{are_apart}
use Rattle.isp_measure.proofs.ListFacts.{range_has}

-- ---- numbers

-- the numbers up to one
pub up_to : ℕ → List ℕ
up_to n = range_with_len 0 (suc n)

pub up_to_has : (n k : ℕ) → k ≤ n → Has (up_to n) k
unfolding up_to
up_to_has n k le = range_has (suc n) 0 k (omega arith) (omega (arith, le))

-- a number, or where it is greater this bound
pub clipped : ℕ → ℕ → ℕ
clipped n k = cond (nat_le k n) k n

pub clipped_low : (n k : ℕ) → clipped n k ≤ n
unfolding clipped
clipped_low n k = by_test (nat_le k n) refl
  where
    by_test : (b : Bool) → nat_le k n ≡ b → cond b k n ≤ n
    by_test true e = at_most k n e
    by_test false e = omega arith

-- it takes as much of a list that is no longer
take_high : {X : Type 0} (xs : List X) (n : ℕ) → length xs ≤ n → take n xs ≡ xs
take_high [] zero le = refl
take_high [] (suc n) le = refl
take_high (x ∷ xs) zero le = absurd (omega (arith, le))
take_high (x ∷ xs) (suc n) le = ap (λ ys. x ∷ ys) (take_high xs n (omega (arith, le)))

drop_high : {X : Type 0} (xs : List X) (n : ℕ) → length xs ≤ n → drop n xs ≡ []
drop_high [] zero le = refl
drop_high [] (suc n) le = refl
drop_high (x ∷ xs) zero le = absurd (omega (arith, le))
drop_high (x ∷ xs) (suc n) le = drop_high xs n (omega (arith, le))

above : (n k : ℕ) → nat_le k n ≡ false → n < k
above n k e = by_cases (cases_lt n k)
  where
    by_cases : (n < k) ⊎ (k ≤ n) → n < k
    by_cases (inl lt) = lt
    by_cases (inr le) = absurd (false≢true (sym e ∙ le-leb k n le))

pub take_clipped : {X : Type 0} (xs : List X) (n k : ℕ) → length xs ≤ n → take (clipped n k) xs ≡ take k xs
unfolding clipped
take_clipped xs n k le = by_test (nat_le k n) refl
  where
    by_test : (b : Bool) → nat_le k n ≡ b → take (cond b k n) xs ≡ take k xs
    by_test true e = refl
    by_test false e = take_high xs n le ∙ sym (take_high xs k (omega (arith, le, above n k e)))

pub drop_clipped : {X : Type 0} (xs : List X) (n k : ℕ) → length xs ≤ n → drop (clipped n k) xs ≡ drop k xs
unfolding clipped
drop_clipped xs n k le = by_test (nat_le k n) refl
  where
    by_test : (b : Bool) → nat_le k n ≡ b → drop (cond b k n) xs ≡ drop k xs
    by_test true e = refl
    by_test false e = drop_high xs n le ∙ sym (drop_high xs k (omega (arith, le, above n k e)))

-- ---- lists

-- all lists of at most n of these
pub lists_of : {X : Type 0} → List X → ℕ → List (List X)
lists_of xs zero = [] ∷ []
lists_of xs (suc n) = [] ∷ flat_map (λ x. map (λ ys. x ∷ ys) (lists_of xs n)) xs

pub lists_has : {X : Type 0} (xs : List X) (n : ℕ) (ys : List X) → length ys ≤ n → ((y : X) → Has ys y → Has xs y) → Has (lists_of xs n) ys
unfolding lists_of
lists_has xs zero [] le each = inl refl
lists_has xs zero (y ∷ ys) le each = absurd (omega (arith, le))
lists_has xs (suc n) [] le each = inl refl
lists_has xs (suc n) (y ∷ ys) le each =
    inr (Has-flat_map_of (λ x. map (λ zs. x ∷ zs) (lists_of xs n)) xs y (y ∷ ys) (each y (inl refl))
    (Has-map_of (λ zs. y ∷ zs) (lists_of xs n) ys (lists_has xs n ys (omega (arith, le)) (λ z h. each z (inr h)))))

-- ---- numbers that differ

pub apart_once : (xs : List ℕ) (q : ℕ) → are_apart xs ≡ true → times q xs ≤ 1
apart_once [] q h = omega arith
apart_once (x ∷ xs) q h =
    let parts = and_parts (not (is_among xs x)) (are_apart xs) h in
    by_first (x == q) refl (not_is (is_among xs x) parts.0) (apart_once xs q parts.1)
  where
    by_first : (b : Bool) → (x == q) ≡ b → is_among xs x ≡ false → times q xs ≤ 1 → cond b 1 0 + times q xs ≤ 1
    by_first false e alone rest = omega (arith, rest)
    by_first true e alone rest = by_times (times q xs) refl
      where
        by_times : (n : ℕ) → times q xs ≡ n → 1 + times q xs ≤ 1
        by_times zero is = omega (arith, is)
        by_times (suc n) is =
            let has : Has xs q = Has-times q xs (omega (arith, is)) in
            absurd (false≢true (sym alone ∙ has_among xs x (subst (Has xs) (sym (eqb-true x q e)) has)))

-- numbers that differ, each one of these, are no more
pub apart_short : (xs ys : List ℕ) → are_apart xs ≡ true → ((x : ℕ) → Has xs x → Has ys x) → length xs ≤ length ys
apart_short xs ys apart each = no_longer xs ys (λ q. by_times q (times q xs) refl)
  where
    by_times : (q n : ℕ) → times q xs ≡ n → n ≤ times q ys
    by_times q zero e = omega arith
    by_times q (suc n) e =
        let once : times q xs ≤ 1 = apart_once xs q apart in
        let some : 0 < times q ys = times-Has q ys (each q (Has-times q xs (omega (arith, e)))) in
        omega (arith, e, once, some)

pub all_have : {X : Type 0} (test : X → Bool) (xs : List X) → list_all test xs ≡ true → (x : X) → Has xs x → test x ≡ true
all_have test [] h x has = absurd has
all_have test (y ∷ xs) h x (inl e) = ap test (sym e) ∙ (and_parts (test y) (list_all test xs) h).0
all_have test (y ∷ xs) h x (inr k) = all_have test xs (and_parts (test y) (list_all test xs) h).1 x k
