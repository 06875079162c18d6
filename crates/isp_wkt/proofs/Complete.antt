-- A text of the grammar is read, with the value that it means.
use Rattle.std.proofs.Common.{◌≡◌, ℕ, ℤ, zero, suc, ◌+◌, ◌-◌, ◌*◌, ◌<◌, ◌≤◌, ◌==◌, ◌&&◌, ◌||◌, nat_le, Bool, true, false, cond, ◌⊎◌, inl, inr, List, [], ◌∷◌, ◌++◌, length, Result, Ok, refl, sym, ap, subst, ◌∙◌, append_assoc, arith, length-append}
use Rattle.std.specs.List.{fold, list_all}
use Rattle.std.proofs.lemmas.Bool.{and_parts}
use Rattle.std.proofs.lemmas.List.Folds.{list_all-append}
use Rattle.std.proofs.lemmas.Bool.Decides.{nat_tests}
use Rattle.isp_geom.specs.declared.form.Point as p
use Rattle.isp_wkt.specs.declared.cause.WktCause.{WktCause}
use Rattle.isp_wkt.specs.declared.cause.Fault.{Fault}
use Rattle.isp_wkt.specs.Grammar.{AreBlanks, IsFraction, IsSize, IsSign, IsNumber, IsPair, AreMembers, IsList}
use Rattle.isp_wkt.specs.Reading.{◌>>=◌, Outcome, is_blank, is_digit, is_e, skipped, limit, digits_at, zeros_at, fraction_at, end_at, first_at, size_at, sign_at, number_at, blank_at, point_at, inside_at, open_at, comma_at, more_at, shut_at, close_at, member_at, items_at, list_at}

-- what a test that is known makes of a choice
pub if_true : {A : Type 0} (t : Bool) (x y : A) → t ≡ true → cond t x y ≡ x
if_true true x y h = refl
if_true false x y h = absurd cc

pub if_false : {A : Type 0} (t : Bool) (x y : A) → t ≡ false → cond t x y ≡ y
if_false true x y h = absurd cc
if_false false x y h = refl

pub bind_is : {A B : Type 0} (r : Result A Fault) (x : A) (f : A → Result B Fault) → r ≡ Ok x → (r >>= f) ≡ f x
bind_is r x f e = ap (λ s. s >>= f) e

-- ---- bytes

-- a byte that no number goes on with
abbrev pub EndsNumber : ℕ → Type 0
EndsNumber b = (is_digit b ≡ false) × ((b == 46) ≡ false) × (is_e b ≡ false)

-- no number goes on with these bytes
abbrev pub Ends : List ℕ → Type 0
Ends [] = Unit {0}
Ends (b ∷ bs) = EndsNumber b

abbrev pub NoDigit : List ℕ → Type 0
NoDigit [] = Unit {0}
NoDigit (b ∷ bs) = is_digit b ≡ false

blank_is : (b : ℕ) → is_blank b ≡ true → (b ≡ 32) ⊎ (b ≡ 9)
blank_is b h = cases (b == 32) (b == 9) refl refl h
  where
    cases : (s t : Bool) → (b == 32) ≡ s → (b == 9) ≡ t → (s || t) ≡ true → (b ≡ 32) ⊎ (b ≡ 9)
    cases true t e f h = inl (grind (arith, nat_tests))
    cases false true e f h = inr (grind (arith, nat_tests))
    cases false false e f h = absurd cc

pub blank_ends : (b : ℕ) → is_blank b ≡ true → EndsNumber b
blank_ends b h = elim (blank_is b h) [ inl e ↦ subst EndsNumber (sym e) (refl, refl, refl) | inr e ↦ subst EndsNumber (sym e) (refl, refl, refl) ]

-- blanks, and then a byte that ends a number
pub ends_behind : (blanks : List ℕ) (c : ℕ) (rest : List ℕ) → AreBlanks blanks → EndsNumber c → Ends (blanks ++ c ∷ rest)
ends_behind [] c rest h e = e
ends_behind (b ∷ blanks) c rest h e = blank_ends b (and_parts (is_blank b) (list_all is_blank blanks) h).0

pub skipped_over : (blanks t : List ℕ) → AreBlanks blanks → skipped (blanks ++ t) ≡ skipped t
skipped_over [] t h = refl
skipped_over (b ∷ blanks) t h =
    let both = and_parts (is_blank b) (list_all is_blank blanks) h in
    if_true (is_blank b) (skipped (blanks ++ t)) (b ∷ (blanks ++ t)) both.0 ∙ skipped_over blanks t both.1

pub skipped_to : (blanks : List ℕ) (c : ℕ) (t : List ℕ) → AreBlanks blanks → is_blank c ≡ false → skipped (blanks ++ c ∷ t) ≡ c ∷ t
skipped_to blanks c t h k = skipped_over blanks (c ∷ t) h ∙ if_false (is_blank c) (skipped t) (c ∷ t) k

-- ---- numbers

step : ℕ → ℕ → ℕ
step n b = n * 10 + (b - 48)

grows : (size : ℕ) (ds : List ℕ) → size ≤ fold (λ n b. n * 10 + (b - 48)) size ds
grows size [] = omega arith
grows size (d ∷ ds) = omega (arith, grows (size * 10 + (d - 48)) ds)

digits_again : (size : ℕ) (ds : List ℕ) (n : ℕ) (rest : List ℕ) → list_all is_digit ds ≡ true → NoDigit rest → fold (λ n b. n * 10 + (b - 48)) size ds ≡ n → n ≤ limit → digits_at size (ds ++ rest) ≡ Ok (n, rest)
digits_again size [] n [] h k e le = ap (λ (m : ℕ). Ok (m, [])) e
digits_again size [] n (b ∷ rest) h k e le = if_false (is_digit b) _ _ k ∙ ap (λ (m : ℕ). Ok (m, b ∷ rest)) e
digits_again size (d ∷ ds) n rest h k e le =
    let both = and_parts (is_digit d) (list_all is_digit ds) h in
    let next : size * 10 + (d - 48) ≤ limit = omega (arith, grows (size * 10 + (d - 48)) ds) in
    if_true (is_digit d) _ _ both.0 ∙ if_true (nat_le (size * 10 + (d - 48)) limit) _ _ (fits _ next) ∙ digits_again (size * 10 + (d - 48)) ds n rest both.1 k e le
  where
    fits : (m : ℕ) → m ≤ limit → nat_le m limit ≡ true
    fits m h = grind (arith, nat_tests)

no_zero : (b : ℕ) → is_digit b ≡ false → (b == 48) ≡ false
no_zero b h = at (b == 48) refl
  where
    at : (t : Bool) → (b == 48) ≡ t → (b == 48) ≡ false
    at true e = let is : b ≡ 48 = grind (arith, nat_tests) in absurd (let no : is_digit 48 ≡ false = ap is_digit (sym is) ∙ h in cc)
    at false e = e

zeros_again : (zs rest : List ℕ) → list_all (λ z. z == 48) zs ≡ true → NoDigit rest → zeros_at (zs ++ rest) ≡ Ok (tt, rest)
zeros_again [] [] h k = refl
zeros_again [] (b ∷ rest) h k = if_false (b == 48) _ _ (no_zero b k) ∙ if_false (is_digit b) _ _ k
zeros_again (z ∷ zs) rest h k =
    let both = and_parts (z == 48) (list_all (λ z. z == 48) zs) h in
    if_true (z == 48) _ _ both.0 ∙ zeros_again zs rest both.1 k

no_digit : (rest : List ℕ) → Ends rest → NoDigit rest
no_digit [] h = tt
no_digit (b ∷ rest) h = h.0

fraction_again : (f rest : List ℕ) → IsFraction f → Ends rest → fraction_at (f ++ rest) ≡ Ok (tt, rest)
fraction_again [] [] h k = refl
fraction_again [] (b ∷ rest) h k = if_false (b == 46) _ _ k.1
fraction_again (b ∷ zs) rest h k = ap (λ (c : ℕ). fraction_at (c ∷ (zs ++ rest))) h.0 ∙ zeros_again zs rest h.1 (no_digit rest k)

end_again : (rest : List ℕ) → Ends rest → end_at rest ≡ Ok (tt, rest)
end_again [] k = refl
end_again (b ∷ rest) k = if_false (is_e b) _ _ k.2

-- a fraction and what ends a number begin with no digit
fraction_ends : (f rest : List ℕ) → IsFraction f → Ends rest → NoDigit (f ++ rest)
fraction_ends [] rest h k = no_digit rest k
fraction_ends (b ∷ zs) rest h k = ap is_digit h.0

abbrev Digit : List ℕ → Type 0
Digit [] = ⊥
Digit (b ∷ bs) = is_digit b ≡ true

first_again : (bs : List ℕ) → Digit bs → first_at bs ≡ Ok (tt, bs)
first_again [] h = absurd h
first_again (b ∷ bs) h = if_true (is_digit b) _ _ h

digit_first : (ds t : List ℕ) → list_all is_digit ds ≡ true → 0 < length ds → Digit (ds ++ t)
digit_first [] t h k = absurd (omega arith)
digit_first (d ∷ ds) t h k = (and_parts (is_digit d) (list_all is_digit ds) h).0

size_digit : (n : ℕ) (t rest : List ℕ) → IsSize n t → Digit (t ++ rest)
size_digit n t rest m = subst Digit (sym (ap (λ (u : List ℕ). u ++ rest) m.parts ∙ append_assoc m.digits m.fraction rest)) (digit_first m.digits (m.fraction ++ rest) m.all m.some)

size_again : (n : ℕ) (t rest : List ℕ) → IsSize n t → Ends rest → size_at (t ++ rest) ≡ Ok (n, rest)
unfolding size_at
size_again n t rest m k =
    let whole : t ++ rest ≡ m.digits ++ (m.fraction ++ rest) = ap (λ (u : List ℕ). u ++ rest) m.parts ∙ append_assoc m.digits m.fraction rest in
    bind_is (first_at (t ++ rest)) (tt, t ++ rest) _ (first_again (t ++ rest) (size_digit n t rest m))
    ∙ bind_is (digits_at 0 (t ++ rest)) (n, m.fraction ++ rest) _ (ap (digits_at 0) whole ∙ digits_again 0 m.digits n (m.fraction ++ rest) m.all (fraction_ends m.fraction rest m.whole k) m.value m.small)
    ∙ bind_is (fraction_at (m.fraction ++ rest)) (tt, rest) _ (fraction_again m.fraction rest m.whole k)
    ∙ bind_is (end_at rest) (tt, rest) _ (end_again rest k)

no_sign : (b c : ℕ) → is_digit b ≡ true → is_digit c ≡ false → (b == c) ≡ false
no_sign b c h k = at (b == c) refl
  where
    at : (t : Bool) → (b == c) ≡ t → (b == c) ≡ false
    at true e = let is : b ≡ c = grind (arith, nat_tests) in absurd (let no : true ≡ false = sym h ∙ ap is_digit is ∙ k in cc)
    at false e = e

unsigned_again : (bs : List ℕ) → Digit bs → sign_at bs ≡ Ok (false, bs)
unsigned_again [] h = absurd h
unsigned_again (b ∷ bs) h = if_false (b == 45) _ _ (no_sign b 45 h refl) ∙ if_false (b == 43) _ _ (no_sign b 43 h refl)

sign_again : (is_negative : Bool) (s bs : List ℕ) → IsSign is_negative s → Digit bs → sign_at (s ++ bs) ≡ Ok (is_negative, bs)
sign_again true s bs h k = ap (λ (u : List ℕ). sign_at (u ++ bs)) h
sign_again false s bs (inl h) k = ap (λ (u : List ℕ). sign_at (u ++ bs)) h ∙ unsigned_again bs k
sign_again false s bs (inr h) k = ap (λ (u : List ℕ). sign_at (u ++ bs)) h

number_again : (z : ℤ) (t rest : List ℕ) → IsNumber z t → Ends rest → number_at (t ++ rest) ≡ Ok (z, rest)
unfolding number_at
number_again z t rest m k =
    let whole : t ++ rest ≡ m.sign ++ (m.body ++ rest) = ap (λ (u : List ℕ). u ++ rest) m.parts ∙ append_assoc m.sign m.body rest in
    bind_is (sign_at (t ++ rest)) (m.is_negative, m.body ++ rest) _ (ap sign_at whole ∙ sign_again m.is_negative m.sign (m.body ++ rest) m.signs (size_digit m.size m.body rest m.sized))
    ∙ bind_is (size_at (m.body ++ rest)) (m.size, rest) _ (size_again m.size m.body rest m.sized k)
    ∙ ap (λ (y : ℤ). Ok (y, rest)) m.value

-- a byte that a number may begin with: no blank and no parenthesis
abbrev pub Opens : ℕ → Type 0
Opens b = (is_blank b ≡ false) × ((b == 40) ≡ false) × ((b == 41) ≡ false)

abbrev pub Begins : List ℕ → Type 0
Begins [] = ⊥
Begins (b ∷ bs) = Opens b

digit_opens : (bs : List ℕ) → Digit bs → Begins bs
digit_opens [] h = h
digit_opens (b ∷ bs) h = (no_blank, no_sign b 40 h refl, no_sign b 41 h refl)
  where
    no_blank : is_blank b ≡ false
    no_blank = ap (λ (t : Bool). t || (b == 9)) (no_sign b 32 h refl) ∙ no_sign b 9 h refl

number_begins : (z : ℤ) (t rest : List ℕ) → IsNumber z t → Begins (t ++ rest)
number_begins z t rest m =
    subst Begins (sym (ap (λ (u : List ℕ). u ++ rest) m.parts ∙ append_assoc m.sign m.body rest)) (at m.is_negative m.sign m.signs)
  where
    digit : Digit (m.body ++ rest)
    digit = size_digit m.size m.body rest m.sized

    at : (n : Bool) (s : List ℕ) → IsSign n s → Begins (s ++ (m.body ++ rest))
    at true s h = subst (λ (u : List ℕ). Begins (u ++ (m.body ++ rest))) (sym h) (refl, refl, refl)
    at false s (inl h) = subst (λ (u : List ℕ). Begins (u ++ (m.body ++ rest))) (sym h) (digit_opens (m.body ++ rest) digit)
    at false s (inr h) = subst (λ (u : List ℕ). Begins (u ++ (m.body ++ rest))) (sym h) (refl, refl, refl)

skipped_begins : (bs : List ℕ) → Begins bs → skipped bs ≡ bs
skipped_begins [] h = absurd h
skipped_begins (b ∷ bs) h = if_false (is_blank b) _ _ h.0

blank_again : (blanks bs : List ℕ) → AreBlanks blanks → 0 < length blanks → Begins bs → blank_at (blanks ++ bs) ≡ Ok (tt, bs)
blank_again [] bs h k n = absurd (omega arith)
blank_again (b ∷ blanks) bs h k n =
    let both = and_parts (is_blank b) (list_all is_blank blanks) h in
    if_true (is_blank b) _ _ both.0 ∙ ap (λ (u : List ℕ). Ok (tt, u)) (skipped_over blanks bs both.1 ∙ skipped_begins bs n)

blanks_end : (blanks bs : List ℕ) → AreBlanks blanks → 0 < length blanks → Ends (blanks ++ bs)
blanks_end [] bs h k = absurd (omega arith)
blanks_end (b ∷ blanks) bs h k = blank_ends b (and_parts (is_blank b) (list_all is_blank blanks) h).0

pair_text : (point : p.Point) (t rest : List ℕ) (m : IsPair point t) → t ++ rest ≡ m.left ++ (m.blanks ++ (m.right ++ rest))
pair_text point t rest m = ap (λ (u : List ℕ). u ++ rest) m.parts ∙ append_assoc m.left (m.blanks ++ m.right) rest ∙ ap (λ (u : List ℕ). m.left ++ u) (append_assoc m.blanks m.right rest)

pub point_again : (point : p.Point) (t rest : List ℕ) → IsPair point t → Ends rest → point_at (t ++ rest) ≡ Ok (point, rest)
unfolding point_at
point_again point t rest m k =
    bind_is (number_at (t ++ rest)) (point.x, m.blanks ++ (m.right ++ rest)) _ (ap number_at (pair_text point t rest m) ∙ number_again point.x m.left (m.blanks ++ (m.right ++ rest)) m.x (blanks_end m.blanks (m.right ++ rest) m.blank m.some))
    ∙ bind_is (blank_at (m.blanks ++ (m.right ++ rest))) (tt, m.right ++ rest) _ (blank_again m.blanks (m.right ++ rest) m.blank m.some (number_begins point.y m.right rest m.y))
    ∙ bind_is (number_at (m.right ++ rest)) (point.y, rest) _ (number_again point.y m.right rest m.y k)

pub pair_begins : (point : p.Point) (t rest : List ℕ) → IsPair point t → Begins (t ++ rest)
pair_begins point t rest m = subst Begins (sym (pair_text point t rest m)) (number_begins point.x m.left (m.blanks ++ (m.right ++ rest)) m.x)

-- ---- members of lists

-- bytes that begin with no closing parenthesis
abbrev pub NotShut : List ℕ → Type 0
NotShut [] = Unit {0}
NotShut (b ∷ bs) = (b == 41) ≡ false

-- each text of a value is read, behind blanks that were skipped, where what follows it ends a number
pub record IsComplete (X : Type 0) (Lang : X → List ℕ → Type 0) (item : List ℕ → Outcome X) : Type 0 where
  pub begins : (blanks : List ℕ) (x : X) (t rest : List ℕ) → AreBlanks blanks → Lang x t → NotShut (skipped (blanks ++ (t ++ rest)))
  pub again : (blanks : List ℕ) (x : X) (t rest : List ℕ) → AreBlanks blanks → Lang x t → Ends rest → item (skipped (blanks ++ (t ++ rest))) ≡ Ok (x, rest)

pub begins_open : (bs : List ℕ) → Begins bs → NotShut bs
begins_open [] h = tt
begins_open (b ∷ bs) h = h.2

pub pair_skipped : (blanks : List ℕ) (point : p.Point) (t rest : List ℕ) → AreBlanks blanks → IsPair point t → skipped (blanks ++ (t ++ rest)) ≡ t ++ rest
pair_skipped blanks point t rest h m = skipped_over blanks (t ++ rest) h ∙ skipped_begins (t ++ rest) (pair_begins point t rest m)

pub pair_complete : IsComplete p.Point IsPair point_at
pair_complete = record {
  begins = λ blanks point t rest h m. subst NotShut (sym (pair_skipped blanks point t rest h m)) (begins_open (t ++ rest) (pair_begins point t rest m));
  again = λ blanks point t rest h m k. ap point_at (pair_skipped blanks point t rest h m) ∙ point_again point t rest m k;
}

inside_again : (nothing : WktCause) (bs : List ℕ) → NotShut bs → inside_at nothing bs ≡ Ok (tt, bs)
inside_again nothing [] h = refl
inside_again nothing (b ∷ bs) h = if_false (b == 41) _ _ h

-- an opening parenthesis behind blanks
pub open_again : (nothing : WktCause) (before inside : List ℕ) → AreBlanks before → NotShut (skipped inside) → open_at nothing (skipped (before ++ 40 ∷ inside)) ≡ Ok (tt, skipped inside)
open_again nothing before inside h k = ap (open_at nothing) (skipped_to before 40 inside h refl) ∙ inside_again nothing (skipped inside) k

more_true : (blanks bs : List ℕ) → AreBlanks blanks → more_at (blanks ++ 44 ∷ bs) ≡ Ok (true, skipped bs)
more_true blanks bs h = ap comma_at (skipped_to blanks 44 bs h refl)

more_false : (blanks bs : List ℕ) → AreBlanks blanks → more_at (blanks ++ 41 ∷ bs) ≡ Ok (false, bs)
more_false blanks bs h = ap comma_at (skipped_to blanks 41 bs h refl)

pub close_again : (blanks bs : List ℕ) → AreBlanks blanks → close_at (blanks ++ 41 ∷ bs) ≡ Ok (tt, bs)
close_again blanks bs h = ap shut_at (skipped_to blanks 41 bs h refl)

-- what is skipped before a byte that is no blank leaves that byte
kept : (u : List ℕ) (c : ℕ) (v : List ℕ) → is_blank c ≡ false → suc (length v) ≤ length (skipped (u ++ c ∷ v))
kept [] c v h = subst (λ (t : List ℕ). suc (length v) ≤ length t) (sym (if_false (is_blank c) (skipped v) (c ∷ v) h)) (omega arith)
kept (b ∷ u) c v h = at (is_blank b) (kept u c v h)
  where
    at : (t : Bool) → suc (length v) ≤ length (skipped (u ++ c ∷ v)) → suc (length v) ≤ length (cond t (skipped (u ++ c ∷ v)) (b ∷ (u ++ c ∷ v)))
    at true k = k
    at false k = omega (arith, length-append u (c ∷ v))

module _ {X : Type 0} (Lang : X → List ℕ → Type 0) (item : List ℕ → Outcome X) (complete : IsComplete X Lang item) where
  count : (xs : List X) (t : List ℕ) → AreMembers Lang xs t → length xs ≤ length t
  count [] t m = absurd m
  count (x ∷ []) t m = omega (arith, ap length m.2, length-append m.0 (m.1 ++ 41 ∷ []), length-append m.1 (41 ∷ []))
  count (x ∷ y ∷ xs) t m = omega (arith, ap length m.4, length-append m.0 (m.1 ++ 44 ∷ (m.2 ++ m.3)), length-append m.1 (44 ∷ (m.2 ++ m.3)), length-append m.2 m.3, count (y ∷ xs) m.3 m.8)

  last_text : (first blanks rest t : List ℕ) → t ≡ first ++ (blanks ++ 41 ∷ []) → t ++ rest ≡ first ++ (blanks ++ 41 ∷ rest)
  last_text first blanks rest t e = ap (λ (u : List ℕ). u ++ rest) e ∙ append_assoc first (blanks ++ 41 ∷ []) rest ∙ ap (λ (u : List ℕ). first ++ u) (append_assoc blanks (41 ∷ []) rest)

  next_text : (first blanks more others rest t : List ℕ) → t ≡ first ++ (blanks ++ 44 ∷ (more ++ others)) → t ++ rest ≡ first ++ (blanks ++ 44 ∷ (more ++ (others ++ rest)))
  next_text first blanks more others rest t e =
      ap (λ (u : List ℕ). u ++ rest) e ∙ append_assoc first (blanks ++ 44 ∷ (more ++ others)) rest
      ∙ ap (λ (u : List ℕ). first ++ u) (append_assoc blanks (44 ∷ (more ++ others)) rest ∙ ap (λ (u : List ℕ). blanks ++ 44 ∷ u) (append_assoc more others rest))

  -- so many bytes are there as members
  enough : (blanks : List ℕ) (xs : List X) (t rest : List ℕ) → AreMembers Lang xs t → length xs ≤ length (skipped (blanks ++ (t ++ rest)))
  enough blanks [] t rest m = absurd m
  enough blanks (x ∷ []) t rest m =
      let whole : blanks ++ (t ++ rest) ≡ (blanks ++ (m.0 ++ m.1)) ++ 41 ∷ rest = ap (λ (u : List ℕ). blanks ++ u) (last_text m.0 m.1 rest t m.2 ∙ sym (append_assoc m.0 m.1 (41 ∷ rest))) ∙ sym (append_assoc blanks (m.0 ++ m.1) (41 ∷ rest)) in
      subst (λ (u : List ℕ). 1 ≤ length (skipped u)) (sym whole) (let k = kept (blanks ++ (m.0 ++ m.1)) 41 rest refl in omega arith)
  enough blanks (x ∷ y ∷ xs) t rest m =
      let whole : blanks ++ (t ++ rest) ≡ (blanks ++ (m.0 ++ m.1)) ++ 44 ∷ (m.2 ++ (m.3 ++ rest)) = ap (λ (u : List ℕ). blanks ++ u) (next_text m.0 m.1 m.2 m.3 rest t m.4 ∙ sym (append_assoc m.0 m.1 (44 ∷ (m.2 ++ (m.3 ++ rest))))) ∙ sym (append_assoc blanks (m.0 ++ m.1) (44 ∷ (m.2 ++ (m.3 ++ rest)))) in
      subst (λ (u : List ℕ). length (x ∷ y ∷ xs) ≤ length (skipped u)) (sym whole)
      (let k = kept (blanks ++ (m.0 ++ m.1)) 44 (m.2 ++ (m.3 ++ rest)) refl in omega (arith, length-append m.2 (m.3 ++ rest), length-append m.3 rest, count (y ∷ xs) m.3 m.8))

  items_again : (n : ℕ) (blanks : List ℕ) (xs : List X) (t rest : List ℕ) → length xs ≤ n → AreBlanks blanks → AreMembers Lang xs t → items_at item n (skipped (blanks ++ (t ++ rest))) ≡ Ok (xs, rest)
  items_again n blanks [] t rest le h m = absurd m
  items_again zero blanks (x ∷ xs) t rest le h m = absurd (omega arith)
  items_again (suc n) blanks (x ∷ []) t rest le h m =
      let one : item (skipped (blanks ++ (t ++ rest))) ≡ Ok (x, m.1 ++ 41 ∷ rest) = ap (λ (u : List ℕ). item (skipped (blanks ++ u))) (last_text m.0 m.1 rest t m.2) ∙ complete.again blanks x m.0 (m.1 ++ 41 ∷ rest) h m.3 (ends_behind m.1 41 rest m.4 (refl, refl, refl)) in
      let two : member_at item (skipped (blanks ++ (t ++ rest))) ≡ Ok ((x, false), rest) = bind_is (item (skipped (blanks ++ (t ++ rest)))) (x, m.1 ++ 41 ∷ rest) _ one ∙ bind_is (more_at (m.1 ++ 41 ∷ rest)) (false, rest) _ (more_false m.1 rest m.4) in
      bind_is (member_at item (skipped (blanks ++ (t ++ rest)))) ((x, false), rest) _ two
  items_again (suc n) blanks (x ∷ y ∷ xs) t rest le h m =
      let after : List ℕ = m.2 ++ (m.3 ++ rest) in
      let one : item (skipped (blanks ++ (t ++ rest))) ≡ Ok (x, m.1 ++ 44 ∷ after) = ap (λ (u : List ℕ). item (skipped (blanks ++ u))) (next_text m.0 m.1 m.2 m.3 rest t m.4) ∙ complete.again blanks x m.0 (m.1 ++ 44 ∷ after) h m.5 (ends_behind m.1 44 after m.6 (refl, refl, refl)) in
      let two : member_at item (skipped (blanks ++ (t ++ rest))) ≡ Ok ((x, true), skipped after) = bind_is (item (skipped (blanks ++ (t ++ rest)))) (x, m.1 ++ 44 ∷ after) _ one ∙ bind_is (more_at (m.1 ++ 44 ∷ after)) (true, skipped after) _ (more_true m.1 after m.6) in
      bind_is (member_at item (skipped (blanks ++ (t ++ rest)))) ((x, true), skipped after) _ two
      ∙ bind_is (items_at item n (skipped after)) (y ∷ xs, rest) _ (items_again n m.2 (y ∷ xs) m.3 rest (omega arith) m.7 m.8)

  first_open : (blanks : List ℕ) (xs : List X) (t rest : List ℕ) → AreBlanks blanks → AreMembers Lang xs t → NotShut (skipped (blanks ++ (t ++ rest)))
  first_open blanks [] t rest h m = absurd m
  first_open blanks (x ∷ []) t rest h m = subst (λ (u : List ℕ). NotShut (skipped (blanks ++ u))) (sym (last_text m.0 m.1 rest t m.2)) (complete.begins blanks x m.0 (m.1 ++ 41 ∷ rest) h m.3)
  first_open blanks (x ∷ y ∷ xs) t rest h m = subst (λ (u : List ℕ). NotShut (skipped (blanks ++ u))) (sym (next_text m.0 m.1 m.2 m.3 rest t m.4)) (complete.begins blanks x m.0 (m.1 ++ 44 ∷ (m.2 ++ (m.3 ++ rest))) h m.5)

  list_text : (blanks : List ℕ) (xs : List X) (t rest : List ℕ) (m : IsList Lang xs t) → blanks ++ (t ++ rest) ≡ (blanks ++ m.before) ++ 40 ∷ (m.opened ++ (m.inside ++ rest))
  list_text blanks xs t rest m =
      ap (λ (u : List ℕ). blanks ++ u) (ap (λ (u : List ℕ). u ++ rest) m.parts ∙ append_assoc m.before (40 ∷ (m.opened ++ m.inside)) rest ∙ ap (λ (u : List ℕ). m.before ++ 40 ∷ u) (append_assoc m.opened m.inside rest))
      ∙ sym (append_assoc blanks m.before (40 ∷ (m.opened ++ (m.inside ++ rest))))

  pub list_again : (nothing : WktCause) (blanks : List ℕ) (xs : List X) (t rest : List ℕ) → AreBlanks blanks → IsList Lang xs t → list_at nothing item (skipped (blanks ++ (t ++ rest))) ≡ Ok (xs, rest)
  unfolding list_at
  list_again nothing blanks xs t rest h m =
      let inside : List ℕ = skipped (m.opened ++ (m.inside ++ rest)) in
      bind_is (open_at nothing (skipped (blanks ++ (t ++ rest)))) (tt, inside) _
      (ap (λ (u : List ℕ). open_at nothing (skipped u)) (list_text blanks xs t rest m) ∙ open_again nothing (blanks ++ m.before) (m.opened ++ (m.inside ++ rest)) (blanks_join blanks m.before h m.blank.0) (first_open m.opened xs m.inside rest m.blank.1 m.members))
      ∙ items_again (length inside) m.opened xs m.inside rest (enough m.opened xs m.inside rest m.members) m.blank.1 m.members
    where
      blanks_join : (a b : List ℕ) → AreBlanks a → AreBlanks b → AreBlanks (a ++ b)
      blanks_join a b h k = list_all-append is_blank a b ∙ ap (λ t. t && list_all is_blank b) h ∙ k

  pub list_begins : (blanks : List ℕ) (xs : List X) (t rest : List ℕ) → AreBlanks blanks → IsList Lang xs t → NotShut (skipped (blanks ++ (t ++ rest)))
  list_begins blanks xs t rest h m =
      subst (λ (u : List ℕ). NotShut (skipped u)) (sym (list_text blanks xs t rest m))
      (subst NotShut (sym (skipped_to (blanks ++ m.before) 40 (m.opened ++ (m.inside ++ rest)) (list_all-append is_blank blanks m.before ∙ ap (λ t. t && list_all is_blank m.before) h ∙ m.blank.0) refl)) refl)

  pub list_complete : (nothing : WktCause) → IsComplete (List X) (IsList Lang) (list_at nothing item)
  list_complete nothing = record { begins = list_begins; again = λ blanks xs t rest h m k. list_again nothing blanks xs t rest h m }
