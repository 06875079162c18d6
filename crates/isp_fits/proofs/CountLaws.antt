-- Lists of answers by session, numbers that count, and texts by their numbers.
use Rattle.std.proofs.Common.{◌≡◌, ◌⊎◌, ◌∙◌, ◌≤◌, ◌<◌, ◌+◌, ◌-◌, inl, inr, refl, sym, ap, subst, ℕ, zero, suc, ◌==◌, Bool, true, false, cond, Option, Some, None, List, [], ◌∷◌, ◌++◌, length, map, slice_get, arith, append-nil, eqb-true, eq-eqb}
use Rattle.std.specs.Prelude.{All, filter, if◌then◌else◌}
use Rattle.std.proofs.lemmas.Bool.{false≢true}
use Rattle.isp_serial.specs.Answers.{Answer, NeverFalls, answers_of, counted_from}
use Rattle.isp_serial.specs.Script.{text_in}

none_some : {X : Type 0} (x : X) → None ≡ Some x → ⊥
none_some x h = cc

-- ---- answers of one session

pub of_other : (k : ℕ) (answers : List Answer) (a : Answer) → (a.session == k) ≡ false → answers_of k (answers ++ a ∷ []) ≡ answers_of k answers
of_other k [] a ne = ap (λ b. cond b (a ∷ []) []) ne
of_other k (x ∷ answers) a ne = by_test (x.session == k) (of_other k answers a ne)
  where
    by_test : (b : Bool) → answers_of k (answers ++ a ∷ []) ≡ answers_of k answers → cond b (x ∷ answers_of k (answers ++ a ∷ [])) (answers_of k (answers ++ a ∷ [])) ≡ cond b (x ∷ answers_of k answers) (answers_of k answers)
    by_test true again = ap (λ xs. x ∷ xs) again
    by_test false again = again

pub of_own : (k : ℕ) (answers : List Answer) (a : Answer) → (a.session == k) ≡ true → answers_of k (answers ++ a ∷ []) ≡ answers_of k answers ++ a ∷ []
of_own k [] a is = ap (λ b. cond b (a ∷ []) []) is
of_own k (x ∷ answers) a is = by_test (x.session == k) (of_own k answers a is)
  where
    by_test : (b : Bool) → answers_of k (answers ++ a ∷ []) ≡ answers_of k answers ++ a ∷ []
        → cond b (x ∷ answers_of k (answers ++ a ∷ [])) (answers_of k (answers ++ a ∷ [])) ≡ cond b (x ∷ answers_of k answers) (answers_of k answers) ++ a ∷ []
    by_test true again = ap (λ xs. x ∷ xs) again
    by_test false again = again

-- ---- counting

pub length_more : {X : Type 0} (xs : List X) (x : X) → length (xs ++ x ∷ []) ≡ length xs + 1
length_more [] x = refl
length_more (y ∷ xs) x = let again : length (xs ++ x ∷ []) ≡ length xs + 1 = length_more xs x in omega (arith, again)

pub counted_more : {X : Type 0} (n : ℕ) (xs : List X) (x : X) → counted_from n (xs ++ x ∷ []) ≡ counted_from n xs ++ (n + length xs) ∷ []
counted_more n [] x = ap (λ i. i ∷ []) (none_more n)
  where
    none_more : (i : ℕ) → i ≡ i + 0
    none_more i = omega arith
counted_more n (y ∷ xs) x = ap (λ is. n ∷ is) (counted_more (n + 1) xs x ∙ ap (λ i. counted_from (n + 1) xs ++ i ∷ []) (one_more n (length xs)))
  where
    one_more : (i k : ℕ) → (i + 1) + k ≡ i + suc k
    one_more i k = omega arith

pub map_more : {X Y : Type 0} (f : X → Y) (xs : List X) (x : X) → map f (xs ++ x ∷ []) ≡ map f xs ++ f x ∷ []
map_more f [] x = refl
map_more f (y ∷ xs) x = ap (λ ys. f y ∷ ys) (map_more f xs x)

-- ---- texts by their numbers

get_below : (texts : List (List ℕ)) (place : ℕ) (text : List ℕ) → slice_get texts place ≡ Some text → place < length texts
get_below [] place text h = absurd (none_some text h)
get_below (t ∷ texts) zero text h = omega arith
get_below (t ∷ texts) (suc place) text h = let again : place < length texts = get_below texts place text h in omega (arith, again)

get_past : (texts : List (List ℕ)) (place : ℕ) → slice_get texts place ≡ None → length texts ≤ place
get_past [] place h = omega arith
get_past (t ∷ texts) zero h = absurd (none_some t (sym h))
get_past (t ∷ texts) (suc place) h = let again : length texts ≤ place = get_past texts place h in omega (arith, again)

-- a number with a text is one of theirs
pub text_below : (texts : List (List ℕ)) (n : ℕ) (text : List ℕ) → text_in texts n ≡ Some text → n ≤ length texts
text_below texts n text h = by_zero (n == 0) refl h
  where
    by_zero : (b : Bool) → (n == 0) ≡ b → (if b then None else slice_get texts (n - 1)) ≡ Some text → n ≤ length texts
    by_zero true e k = absurd (none_some text k)
    by_zero false e k =
        let lt : n - 1 < length texts = get_below texts (n - 1) text k in
        omega (arith, lt)

pub text_past : (texts : List (List ℕ)) (n : ℕ) → 1 ≤ n → text_in texts n ≡ None → length texts < n
text_past texts n one h = by_zero (n == 0) refl h
  where
    by_zero : (b : Bool) → (n == 0) ≡ b → (if b then None else slice_get texts (n - 1)) ≡ None → length texts < n
    by_zero true e k = let is : n ≡ 0 = eqb-true n 0 e in omega (arith, one, is)
    by_zero false e k = let past : length texts ≤ n - 1 = get_past texts (n - 1) k in omega (arith, past, one)

-- ---- turns

pub falls_less : (least more : ℕ) (numbers : List ℕ) → least ≤ more → NeverFalls more numbers → NeverFalls least numbers
falls_less least more [] le h = tt
falls_less least more (n ∷ numbers) le h = (let up : more ≤ n = h.0 in (omega (arith, le, up), h.1))
