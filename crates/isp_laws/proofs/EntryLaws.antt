-- Entries of a page: which pages they name, the least box round them, and the two parts of a division.
use Rattle.std.proofs.Common.{◌≡◌, inl, inr, ℕ, ◌+◌, ◌<◌, ◌==◌, true, false, cond, Option, Some, None, List, [], ◌∷◌, ◌++◌, map, length, refl, ap, sym, ◌∙◌, arith, subst, IsPermutation, pos, ◌≤ℤ◌}
use Rattle.std.specs.Prelude.{filter, All, not, sum_by}
use Rattle.std.specs.List.{cons_option}
use Rattle.std.proofs.lemmas.Int.{ints}
use Rattle.std.proofs.lemmas.List.Elements.{filter_map-append, All-nil, All-cons, All-head, All-tail}
use Rattle.std.proofs.lemmas.List.Sorted.{All-permutation, sum_by-IsPermutation}
use Rattle.std.proofs.lemmas.List.Sums.{sum_by-cons}
use Rattle.isp_mbr.specs.Corners.{Corners}
use Rattle.isp_mbr.specs.Boxes.{IsBox, covers, union}
use Rattle.isp_mbr.proofs.BoxLaws.{covers_refl, covers_trans, union_covers_left, union_covers_right, union_least, IsBox-union}
use Rattle.isp_forest.specs.declared.entry.Entry.{Entry}
use Rattle.isp_forest.specs.declared.entry.To.{To}
use Rattle.isp_forest.specs.declared.entry.To.TheVariants.{Child, Row}
use Rattle.isp_base.specs.Lists.{Has, times}
use Rattle.isp_forest.specs.Tree.{child_in, child_of, children, around, least}
use Rattle.isp_forest.specs.Steps.{is_row}
use Rattle.isp_laws.proofs.ListLaws.{times-Has}

-- ---- the pages that entries name

pub children-append : (xs ys : List Entry) → children (xs ++ ys) ≡ children xs ++ children ys
children-append xs ys = filter_map-append child_of xs ys

pub children-map : (g : Entry → Entry) → ((e : Entry) → child_of (g e) ≡ child_of e) → (es : List Entry) → children (map g es) ≡ children es
children-map g h [] = refl
children-map g h (e ∷ es) = ap (λ o. cons_option o (children (map g es))) (h e) ∙ ap (cons_option (child_of e)) (children-map g h es)

Has-cons_option : (o : Option ℕ) (xs : List ℕ) (q : ℕ) → Has xs q → Has (cons_option o xs) q
Has-cons_option None xs q h = h
Has-cons_option (Some x) xs q h = inr h

pub Has-children : (es : List Entry) (e : Entry) (q : ℕ) → Has es e → child_of e ≡ Some q → Has (children es) q
Has-children [] e q h to = absurd h
Has-children (z ∷ es) e q (inl same) to =
    let named : child_of z ≡ Some q = ap child_of same ∙ to in rw named (inl refl)
Has-children (z ∷ es) e q (inr h) to = Has-cons_option (child_of z) (children es) q (Has-children es e q h to)

pub times-children : (es : List Entry) (e : Entry) (q : ℕ) → Has es e → child_of e ≡ Some q → 0 < times q (children es)
times-children es e q h to = times-Has q (children es) (Has-children es e q h to)

pub record Naming (es : List Entry) (q : ℕ) : Type 0 where
  pub e : Entry
  pub has : Has es e
  pub to : child_of e ≡ Some q

naming_at : (o : Option ℕ) (z : Entry) (es : List Entry) (q : ℕ) → child_of z ≡ o → (Has (children es) q → Naming es q) → Has (cons_option o (children es)) q → Naming (z ∷ es) q
naming_at None z es q e f h = let n : Naming es q = f h in record { e = n.e; has = inr n.has; to = n.to }
naming_at (Some x) z es q e f (inl same) = record { e = z; has = inl refl; to = e ∙ ap Some same }
naming_at (Some x) z es q e f (inr h) = let n : Naming es q = f h in record { e = n.e; has = inr n.has; to = n.to }

pub naming : (es : List Entry) (q : ℕ) → Has (children es) q → Naming es q
naming [] q h = absurd h
naming (z ∷ es) q h = naming_at (child_of z) z es q refl (naming es q) h

without_row_at : (to : To) (number : ℕ) (e : Entry) (es : List Entry) → e.to ≡ to → children (cond (not (is_row number to)) (e ∷ es) es) ≡ cons_option (child_in to) (children es)
without_row_at (Child p) number e es is = ap (λ t. cons_option (child_in t) (children es)) is
without_row_at (Row key m) number e es is =
    elim (m == number) as (λ b. children (cond (not b) (e ∷ es) es) ≡ children es) [ true ↦ refl | false ↦ ap (λ t. cons_option (child_in t) (children es)) is ]

pub children-without_row : (number : ℕ) (es : List Entry) → children (filter (λ e. not (is_row number e.to)) es) ≡ children es
children-without_row number [] = refl
children-without_row number (e ∷ es) =
    without_row_at e.to number e (filter (λ x. not (is_row number x.to)) es) refl ∙ ap (cons_option (child_of e)) (children-without_row number es)

-- ---- the least box

around_covers_first : (b : Corners) (es : List Entry) → covers (around b es) b ≡ true
around_covers_first b [] = covers_refl b
around_covers_first b (e ∷ es) =
    covers_trans (union e.b (around b es)) (around b es) b (union_covers_right e.b (around b es)) (around_covers_first b es)

around_covers : (b : Corners) (es : List Entry) (e : Entry) → Has es e → covers (around b es) e.b ≡ true
around_covers b [] e h = absurd h
around_covers b (z ∷ es) e (inl same) =
    let P : Entry → Type 0 = λ x. covers (union z.b (around b es)) x.b ≡ true in subst P same (union_covers_left z.b (around b es))
around_covers b (z ∷ es) e (inr h) =
    covers_trans (union z.b (around b es)) (around b es) e.b (union_covers_right z.b (around b es)) (around_covers b es e h)

pub least_covers : (es : List Entry) (e : Entry) → Has es e → covers (least es) e.b ≡ true
least_covers [] e h = absurd h
least_covers (z ∷ es) e (inl same) = let P : Entry → Type 0 = λ x. covers (around z.b es) x.b ≡ true in subst P same (around_covers_first z.b es)
least_covers (z ∷ es) e (inr h) = around_covers z.b es e h

around_inside : (d b : Corners) (es : List Entry) → covers d b ≡ true → ((e : Entry) → Has es e → covers d e.b ≡ true) → covers d (around b es) ≡ true
around_inside d b [] h k = h
around_inside d b (e ∷ es) h k = union_least e.b (around b es) d (k e (inl refl)) (around_inside d b es h (λ x i. k x (inr i)))

pub least_inside : (d : Corners) (es : List Entry) → 0 < length es → ((e : Entry) → Has es e → covers d e.b ≡ true) → covers d (least es) ≡ true
least_inside d [] some h = let no : ⊥ = omega arith in absurd no
least_inside d (e ∷ es) some h = around_inside d e.b es (h e (inl refl)) (λ x i. h x (inr i))

IsBox-around : (b : Corners) (es : List Entry) → IsBox b → ((e : Entry) → Has es e → IsBox e.b) → IsBox (around b es)
IsBox-around b [] h k = h
IsBox-around b (e ∷ es) h k = IsBox-union e.b (around b es) (k e (inl refl))

zero_at_most : pos 0 ≤ℤ pos 0
zero_at_most = omega (arith, ints)

pub IsBox-least : (es : List Entry) → ((e : Entry) → Has es e → IsBox e.b) → IsBox (least es)
IsBox-least [] h = (zero_at_most, zero_at_most)
IsBox-least (e ∷ es) h = IsBox-around e.b es (h e (inl refl)) (λ x i. h x (inr i))

-- ---- one list is the other in another order

pub all_of : {X : Type 0} (P : X → Type 0) (xs : List X) → ((x : X) → Has xs x → P x) → All P xs
all_of P [] h = All-nil P
all_of P (x ∷ xs) h = All-cons P x xs (h x (inl refl)) (all_of P xs (λ y k. h y (inr k)))

pub of_all : {X : Type 0} (P : X → Type 0) (xs : List X) (x : X) → All P xs → Has xs x → P x
of_all P [] x h k = absurd k
of_all P (z ∷ xs) x h (inl same) = subst P same (All-head P z xs h)
of_all P (z ∷ xs) x h (inr k) = of_all P xs x (All-tail P z xs h) k

pub Has-permutation : {X : Type 0} (xs ys : List X) (y : X) → IsPermutation xs ys → Has ys y → Has xs y
Has-permutation xs ys y p h = of_all (λ x. Has xs x) ys y (All-permutation (λ x. Has xs x) xs ys p (all_of (λ x. Has xs x) xs (λ x k. k))) h

abbrev pub tally : ℕ → Entry → ℕ
tally q e = times q (cons_option (child_of e) [])

times-cons_option : (q : ℕ) (o : Option ℕ) (xs : List ℕ) → times q (cons_option o xs) ≡ times q (cons_option o []) + times q xs
times-cons_option q None xs = omega arith
times-cons_option q (Some x) xs = omega arith

times-sum : (q : ℕ) (es : List Entry) → times q (children es) ≡ sum_by (tally q) es
times-sum q [] = refl
times-sum q (e ∷ es) = times-cons_option q (child_of e) (children es) ∙ ap (λ n. tally q e + n) (times-sum q es) ∙ sym (sum_by-cons (tally q) e es)

pub times-permutation : (q : ℕ) (xs ys : List Entry) → IsPermutation xs ys → times q (children xs) ≡ times q (children ys)
times-permutation q xs ys p = times-sum q xs ∙ sym (sum_by-IsPermutation (tally q) xs ys p) ∙ sym (times-sum q ys)
