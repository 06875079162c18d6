-- No two slots have old rows of one key.
use Rattle.std.proofs.Common.{◌≡◌, ◌≢◌, ℕ, ◌==◌, ◌&&◌, ◌||◌, ℤ, Bool, true, false, List, [], ◌∷◌, ◌++◌, Some, refl, sym, ◌∙◌, ap, subst, arith}
use Rattle.std.specs.Prelude.{slice_get, slice_set}
use Rattle.std.specs.List.{list_any}
use Rattle.std.specs.Ordering.{int_eq}
use Rattle.std.proofs.lemmas.Bool.Decides.{nat_tests}
use Rattle.std.proofs.lemmas.Int.{ints}
use Rattle.isp_format.specs.Undo.{OldImage}
use Rattle.isp_image.proofs.ListLaws.{get_other, get_set}
use Rattle.isp_undo.specs.Chains.{Chain, images_of, without_last}
use Rattle.isp_chained.specs.Laws.{FinishingKeepsDisjoint, PoppingKeepsDisjoint, PushingKeepsDisjoint}
use Rattle.isp_chained.specs.Steps.{AreApart, AreDisjoint, are_of_one}

some_chain : (a b : Chain) → Some a ≡ Some b → a ≡ b
some_chain a b same = cc

neither : (a b : Bool) → (a || b) ≡ false → (a ≡ false) × (b ≡ false)
neither true b bad = cc
neither false b is = (refl, is)

both_out : (a b : Bool) → a ≡ false → b ≡ false → (a || b) ≡ false
both_out a b no_a no_b = ap (λ (x : Bool). x || b) no_a ∙ no_b

-- the other way round
turned : (one other : OldImage) → are_of_one one other ≡ false → are_of_one other one ≡ false
turned one other out = by (are_of_one other one) refl
  where
    first : (a b : Bool) → (a && b) ≡ true → a ≡ true
    first true b is = refl
    first false b is = is

    second : (a b : Bool) → (a && b) ≡ true → b ≡ true
    second true b is = is
    second false b is = let bad : false ≡ true = is in absurd (let no : ⊥ = cc in no)

    table_too : (a b : ℕ) → (a == b) ≡ true → (b == a) ≡ true
    table_too a b is = grind (arith, nat_tests, is)

    key_too : (a b : ℤ) → int_eq a b ≡ true → int_eq b a ≡ true
    key_too a b is = grind (arith, ints, is)

    joint : (a b : Bool) → a ≡ true → b ≡ true → (a && b) ≡ true
    joint a b one other = ap (λ (x : Bool). x && b) one ∙ other

    by : (b : Bool) → are_of_one other one ≡ b → b ≡ false
    by false is = refl
    by true is =
        let there : are_of_one one other ≡ true = joint (one.table == other.table) (int_eq one.key other.key) (table_too other.table one.table (first (other.table == one.table) (int_eq other.key one.key) is)) (key_too other.key one.key (second (other.table == one.table) (int_eq other.key one.key) is)) in
        let bad : true ≡ false = sym there ∙ out in
        cc

-- ---- one slot's old rows are others

pub disjoint_set : (chains : List Chain) (slot : ℕ) (chain after : Chain) → AreDisjoint chains → slice_get chains slot ≡ Some chain
    → ((other : ℕ) (more : Chain) → slot ≢ other → slice_get chains other ≡ Some more → AreApart (images_of after) (images_of more) × AreApart (images_of more) (images_of after)) → AreDisjoint (slice_set chains slot after)
disjoint_set chains slot chain after was is each a b c d differ got_a got_b = by (slot == a) (slot == b) refl refl
  where
    same : (n m : ℕ) → (n == m) ≡ true → n ≡ m
    same n m is = grind (arith, nat_tests, is)

    apart : (n m : ℕ) → (n == m) ≡ false → n ≢ m
    apart n m is at = let there : (n == m) ≡ true = grind (arith, nat_tests, at) in let bad : true ≡ false = sym there ∙ is in cc

    elsewhere : (n : ℕ) (x : Chain) → slot ≢ n → slice_get (slice_set chains slot after) n ≡ Some x → slice_get chains n ≡ Some x
    elsewhere n x other got = sym (get_other chains slot n after other) ∙ got

    here : (n : ℕ) (x : Chain) → slot ≡ n → slice_get (slice_set chains slot after) n ≡ Some x → after ≡ x
    here n x at got = some_chain after x (sym (get_set chains slot chain after is) ∙ ap (λ (k : ℕ). slice_get (slice_set chains slot after) k) at ∙ got)

    by : (p q : Bool) → (slot == a) ≡ p → (slot == b) ≡ q → AreApart (images_of c) (images_of d)
    by true true at too = absurd (differ (sym (same slot a at) ∙ same slot b too))
    by true false at too =
        let b_is = apart slot b too in
        subst (λ (x : Chain). AreApart (images_of x) (images_of d)) (here a c (same slot a at) got_a) (each b d b_is (elsewhere b d b_is got_b)).0
    by false true at too =
        let a_is = apart slot a at in
        subst (λ (x : Chain). AreApart (images_of c) (images_of x)) (here b d (same slot b too) got_b) (each a c a_is (elsewhere a c a_is got_a)).1
    by false false at too = was a b c d differ (elsewhere a c (apart slot a at) got_a) (elsewhere b d (apart slot b too) got_b)

-- ---- one more

apart_more : (xs ys : List OldImage) (image : OldImage) → AreApart xs ys → list_any (are_of_one image) ys ≡ false → AreApart (xs ++ image ∷ []) ys
apart_more [] ys image all free = (free, tt)
apart_more (x ∷ xs) ys image all free = (all.0, apart_more xs ys image all.1 free)

any_append : (f : OldImage → Bool) (xs : List OldImage) (image : OldImage) → list_any f xs ≡ false → f image ≡ false → list_any f (xs ++ image ∷ []) ≡ false
any_append f [] image none out = both_out (f image) false out refl
any_append f (x ∷ xs) image none out = let parts = neither (f x) (list_any f xs) none in both_out (f x) (list_any f (xs ++ image ∷ [])) parts.0 (any_append f xs image parts.1 out)

apart_behind : (ys xs : List OldImage) (image : OldImage) → AreApart ys xs → list_any (are_of_one image) ys ≡ false → AreApart ys (xs ++ image ∷ [])
apart_behind [] xs image all free = tt
apart_behind (y ∷ ys) xs image all free =
    let parts = neither (are_of_one image y) (list_any (are_of_one image) ys) free in
    (any_append (are_of_one y) xs image all.0 (turned image y parts.0), apart_behind ys xs image all.1 parts.1)

pub pushing_disjoint : PushingKeepsDisjoint
pushing_disjoint chains slot chain after image was is images free = disjoint_set chains slot chain after was is each
  where
    each : (other : ℕ) (more : Chain) → slot ≢ other → slice_get chains other ≡ Some more → AreApart (images_of after) (images_of more) × AreApart (images_of more) (images_of after)
    each other more differ got = (
      subst (λ (xs : List OldImage). AreApart xs (images_of more)) (sym images) (apart_more (images_of chain) (images_of more) image (was slot other chain more differ is got) (free other more differ got)),
      subst (λ (xs : List OldImage). AreApart (images_of more) xs) (sym images) (apart_behind (images_of more) (images_of chain) image (was other slot more chain (λ same. differ (sym same)) got is) (free other more differ got)),
    )

-- ---- one less

apart_less : (xs ys : List OldImage) → AreApart xs ys → AreApart (without_last xs) ys
apart_less [] ys all = tt
apart_less (x ∷ []) ys all = tt
apart_less (x ∷ z ∷ xs) ys all = (all.0, apart_less (z ∷ xs) ys all.1)

any_less : (f : OldImage → Bool) (xs : List OldImage) → list_any f xs ≡ false → list_any f (without_last xs) ≡ false
any_less f [] none = refl
any_less f (x ∷ []) none = refl
any_less f (x ∷ z ∷ xs) none = let parts = neither (f x) (list_any f (z ∷ xs)) none in both_out (f x) (list_any f (without_last (z ∷ xs))) parts.0 (any_less f (z ∷ xs) parts.1)

apart_before : (ys xs : List OldImage) → AreApart ys xs → AreApart ys (without_last xs)
apart_before [] xs all = tt
apart_before (y ∷ ys) xs all = (any_less (are_of_one y) xs all.0, apart_before ys xs all.1)

pub popping_disjoint : PoppingKeepsDisjoint
popping_disjoint chains slot chain after was is images = disjoint_set chains slot chain after was is each
  where
    each : (other : ℕ) (more : Chain) → slot ≢ other → slice_get chains other ≡ Some more → AreApart (images_of after) (images_of more) × AreApart (images_of more) (images_of after)
    each other more differ got = (
      subst (λ (xs : List OldImage). AreApart xs (images_of more)) (sym images) (apart_less (images_of chain) (images_of more) (was slot other chain more differ is got)),
      subst (λ (xs : List OldImage). AreApart (images_of more) xs) (sym images) (apart_before (images_of more) (images_of chain) (was other slot more chain (λ same. differ (sym same)) got is)),
    )

-- ---- none

pub apart_none : (ys : List OldImage) → AreApart ys []
apart_none [] = tt
apart_none (y ∷ ys) = (refl, apart_none ys)

pub finishing_disjoint : FinishingKeepsDisjoint
finishing_disjoint chains slot chain was is = disjoint_set chains slot chain [] was is (λ other more differ got. (tt, apart_none (images_of more)))
