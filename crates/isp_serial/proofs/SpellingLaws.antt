-- Printed bytes spell one list of answers at the most: a line ends at its first line feed, and its numbers end where the
-- first byte stands that is no digit.
use Rattle.std.proofs.Common.{◌≡◌, ℕ, suc, ◌<◌, ◌^◌, ◌+◌, ◌%◌, Bool, true, false, not, ◌==◌, List, [], ◌∷◌, ◌++◌, refl, ap, ◌∙◌, sym, append_assoc, arith}
use Rattle.std.specs.Prelude.{All}
use Rattle.std.specs.Char.{is_ascii_digit}
use Rattle.std.specs.Fmt.{decimal}
use Rattle.std.specs.List.{flat_map, list_all}
use Rattle.std.proofs.lemmas.Bool.{and_parts}
use Rattle.std.proofs.lemmas.Bool.Decides.{nat_tests}
use Rattle.std.proofs.lemmas.Fmt.{decimal_injective, decimal_by_steps}
use Rattle.std.proofs.lemmas.List.Folds.{list_all-append}
use Rattle.isp_serial.specs.Answers.{Answer}
use Rattle.isp_plain.specs.Lined.{is_one_line}
use Rattle.isp_serial.specs.Spelling.{line_of, IsShown, SpelledOnce}

-- two lists whose elements pass the test, each before one that fails it: they end at the same place
pub cut_at_first : (p : ℕ → Bool) (xs ys r s : List ℕ) (c d : ℕ) → list_all p xs ≡ true → list_all p ys ≡ true → p c ≡ false → p d ≡ false →
    xs ++ c ∷ r ≡ ys ++ d ∷ s → (xs ≡ ys) × (c ≡ d) × (r ≡ s)
cut_at_first p [] [] r s c d px py pc pd e = (refl, cc, cc)
cut_at_first p [] (y ∷ ys) r s c d px py pc pd e =
    let first : c ≡ y = cc in let passes = (and_parts (p y) (list_all p ys) py).0 in let same : p c ≡ p y = ap p first in cc
cut_at_first p (x ∷ xs) [] r s c d px py pc pd e =
    let first : x ≡ d = cc in let passes = (and_parts (p x) (list_all p xs) px).0 in let same : p x ≡ p d = ap p first in cc
cut_at_first p (x ∷ xs) (y ∷ ys) r s c d px py pc pd e =
    let first : x ≡ y = cc in
    let others : xs ++ c ∷ r ≡ ys ++ d ∷ s = cc in
    let later = cut_at_first p xs ys r s c d (and_parts (p x) (list_all p xs) px).1 (and_parts (p y) (list_all p ys) py).1 pc pd others in
    let rest : xs ≡ ys = later.0 in
    (cc, later.1, later.2)

-- a list that passes the test has nothing that fails it
pub no_cut : (p : ℕ → Bool) (rest xs r : List ℕ) (c : ℕ) → list_all p rest ≡ true → p c ≡ false → rest ≡ xs ++ c ∷ r → ⊥
no_cut p [] [] r c all fails e = cc
no_cut p [] (x ∷ xs) r c all fails e = cc
no_cut p (b ∷ rest) [] r c all fails e =
    let first : b ≡ c = cc in let passes = (and_parts (p b) (list_all p rest) all).0 in let same : p b ≡ p c = ap p first in cc
no_cut p (b ∷ rest) (x ∷ xs) r c all fails e =
    let others : rest ≡ xs ++ c ∷ r = cc in no_cut p rest xs r c (and_parts (p b) (list_all p rest) all).1 fails others

digit_passes : (n : ℕ) → n < 10 → is_ascii_digit (48 + n) ≡ true
digit_passes n small = grind (arith, nat_tests)

pub decimal_is_digits : (n : ℕ) → n < 2 ^ 64 → list_all is_ascii_digit (decimal n) ≡ true
decimal_is_digits n small =
    decimal_by_steps (λ n ds. list_all is_ascii_digit ds ≡ true)
    (λ n one. rw (digit_passes n one) refl)
    (λ n ds many shorter. rw (list_all-append is_ascii_digit ds ((48 + n % 10) ∷ []), shorter, digit_passes (n % 10) (omega arith)) refl)
    n small

-- a line and what stands behind it
line_then : Answer → List ℕ → List ℕ
line_then a r = decimal a.turn ++ 32 ∷ (decimal a.session ++ 46 ∷ (decimal a.number ++ 32 ∷ (a.text ++ 10 ∷ r)))

-- the same, up to the line feed and from there on
to_the_feed : Answer → List ℕ
to_the_feed a = decimal a.turn ++ 32 ∷ (decimal a.session ++ 46 ∷ (decimal a.number ++ 32 ∷ a.text))

line_of-append : (a : Answer) (more rest : List ℕ) → (line_of a ++ more) ++ rest ≡ line_then a (more ++ rest)
unfolding line_then
line_of-append a more rest = simp append_assoc

line_then-feed : (a : Answer) (r : List ℕ) → line_then a r ≡ to_the_feed a ++ 10 ∷ r
unfolding line_then to_the_feed
line_then-feed a r = simp append_assoc

same_answer : (t u s v n m : ℕ) (x y : List ℕ) → t ≡ u → s ≡ v → n ≡ m → x ≡ y →
    (let a : Answer = record { turn = t; session = s; number = n; text = x } in a) ≡ record { turn = u; session = v; number = m; text = y }
same_answer t u s v n m x y a b c d = grind arith

-- two lines that begin the same bytes are one answer's
line_once : (a b : Answer) (r s : List ℕ) → IsShown a → IsShown b → line_then a r ≡ line_then b s → (a ≡ b) × (r ≡ s)
unfolding line_then
line_once a b r s as_line bs_line e =
    let turns = cut_at_first is_ascii_digit (decimal a.turn) (decimal b.turn) _ _ 32 32 (decimal_is_digits a.turn as_line.turn) (decimal_is_digits b.turn bs_line.turn) refl refl e in
    let sessions = cut_at_first is_ascii_digit (decimal a.session) (decimal b.session) _ _ 46 46 (decimal_is_digits a.session as_line.session) (decimal_is_digits b.session bs_line.session) refl refl turns.2 in
    let numbers = cut_at_first is_ascii_digit (decimal a.number) (decimal b.number) _ _ 32 32 (decimal_is_digits a.number as_line.number) (decimal_is_digits b.number bs_line.number) refl refl sessions.2 in
    let texts = cut_at_first (λ x. not (x == 10)) a.text b.text r s 10 10 as_line.text bs_line.text refl refl numbers.2 in (
      same_answer _ _ _ _ _ _ _ _
          (decimal_injective a.turn b.turn as_line.turn bs_line.turn turns.0)
          (decimal_injective a.session b.session as_line.session bs_line.session sessions.0)
          (decimal_injective a.number b.number as_line.number bs_line.number numbers.0)
          texts.0,
      texts.2,
    )

once : (a b : List Answer) (r s : List ℕ) → is_one_line r ≡ true → is_one_line s ≡ true → All IsShown a → All IsShown b →
    flat_map line_of a ++ r ≡ flat_map line_of b ++ s → a ≡ b
once [] [] r s one_r one_s shown_a shown_b e = refl
once [] (y ∷ ys) r s one_r one_s shown_a shown_b e =
    absurd (no_cut (λ x. not (x == 10)) r (to_the_feed y) _ 10 one_r refl (e ∙ (line_of-append y (flat_map line_of ys) s ∙ line_then-feed y _)))
once (x ∷ xs) [] r s one_r one_s shown_a shown_b e =
    absurd (no_cut (λ x. not (x == 10)) s (to_the_feed x) _ 10 one_s refl (sym e ∙ (line_of-append x (flat_map line_of xs) r ∙ line_then-feed x _)))
once (x ∷ xs) (y ∷ ys) r s one_r one_s shown_a shown_b e =
    let first = line_once x y _ _ (shown_a 0 x (omega arith)) (shown_b 0 y (omega arith)) (sym (line_of-append x (flat_map line_of xs) r) ∙ (e ∙ line_of-append y (flat_map line_of ys) s)) in
    let here : x ≡ y = first.0 in
    let others : xs ≡ ys = once xs ys r s one_r one_s (λ k d h. shown_a (suc k) d (omega arith)) (λ k d h. shown_b (suc k) d (omega arith)) first.1 in
    cc

pub spelled_once : SpelledOnce
spelled_once out a b first second =
    once a b first.rest second.rest first.unfinished second.unfinished first.shown second.shown (sym first.lines ∙ second.lines)
