-- Pages that a tree takes one after another from the space beside it, and what stays meanwhile.
use Rattle.std.proofs.Common.{◌≡◌, ℕ, zero, suc, ◌+◌, ◌-◌, ◌<◌, ◌≤◌, ◌==◌, ◌||◌, Bool, true, false, List, [], ◌∷◌, length, refl, ◌∙◌, ap, arith, cond}
use Rattle.std.specs.Prelude.{All}
use Rattle.isp_base.specs.Lists.{times}
use Rattle.isp_format.specs.Ranges.{Contents}
use Rattle.isp_page.specs.State.{is_among}
use Rattle.isp_page.specs.Touched.{KeepsPages, is_page}
use Rattle.isp_space.specs.Spaces.{IsSpace, Space, free_pages, fresh_after, next_free, rest_of, space_pages, taken}
use Rattle.isp_levels.proofs.PageLaws.{times_itself}
use Rattle.isp_growth.specs.Growing.{IsSpaceBeside}
use Rattle.isp_growth.proofs.BesideLaws.{beside_on, space_kept}
use Rattle.isp_growth.proofs.StepLaws.{ChangesOne}
use Rattle.isp_halving.specs.Calls.{IsOutside}
use Rattle.isp_growing.specs.Rising.{HasTaken}

-- ---- a page that isn't on a list

pub out_none : (q : ℕ) (xs : List ℕ) → is_among q xs ≡ false → times q xs ≡ 0
out_none q [] out = refl
out_none q (x ∷ xs) out = by (x == q) out (out_none q xs)
  where
    by : (b : Bool) → (b || is_among q xs) ≡ false → (is_among q xs ≡ false → times q xs ≡ 0) → cond b 1 0 + times q xs ≡ 0
    by true bad deeper = absurd (let no : true ≡ false = bad in cc)
    by false rest deeper = let none = deeper rest in omega (arith, none)

pub none_out : (q : ℕ) (xs : List ℕ) → times q xs ≡ 0 → is_among q xs ≡ false
none_out q [] none = refl
none_out q (x ∷ xs) none = by (x == q) none (none_out q xs)
  where
    by : (b : Bool) → cond b 1 0 + times q xs ≡ 0 → (times q xs ≡ 0 → is_among q xs ≡ false) → (b || is_among q xs) ≡ false
    by true bad deeper = absurd (omega (arith, bad))
    by false rest deeper = deeper (omega (arith, rest))

differ : (x q : ℕ) (xs : List ℕ) → 1 ≤ times x xs → is_among q xs ≡ false → (x == q) ≡ false
differ x q xs some out = by (x == q) refl
  where
    by : (b : Bool) → (x == q) ≡ b → b ≡ false
    by false is = refl
    by true is =
        let same : x ≡ q = grind (arith, is) in
        let none = out_none q xs out in
        let here = ap (λ (p : ℕ). times p xs) same in
        absurd (omega (arith, some, none, here))

-- page 0 and the pages of a longer list
abbrev pub beside_zero : List ℕ → ℕ → Bool
beside_zero xs q = is_page 0 q || is_among q xs

pub zero_first : (q : ℕ) (xs : List ℕ) → beside_zero xs q ≡ false → (q == 0) ≡ false
zero_first q xs out = by (q == 0) (is_among q xs) out
  where
    by : (a b : Bool) → (a || b) ≡ false → a ≡ false
    by true b bad = absurd (let no : true ≡ false = bad in cc)
    by false b out = refl

pub zero_second : (q : ℕ) (xs : List ℕ) → beside_zero xs q ≡ false → is_among q xs ≡ false
zero_second q xs out = by (q == 0) (is_among q xs) out
  where
    by : (a b : Bool) → (a || b) ≡ false → b ≡ false
    by true b bad = absurd (let no : true ≡ false = bad in cc)
    by false b out = out

pub zero_both : (q : ℕ) (xs : List ℕ) → (q == 0) ≡ false → is_among q xs ≡ false → beside_zero xs q ≡ false
zero_both q xs zero_is out = (λ i. zero_is i || out i)

pub fewer_out : (q : ℕ) (xs ys : List ℕ) → times q xs ≤ times q ys → beside_zero ys q ≡ false → beside_zero xs q ≡ false
fewer_out q xs ys few out =
    let none = out_none q ys (zero_second q ys out) in
    zero_both q xs (zero_first q ys out) (none_out q xs (omega (arith, few, none)))

-- ---- a page of the tree is none of the space

apart : (root : ℕ) (xs : List ℕ) → times root xs ≡ 0 → All (λ other. is_page root other ≡ false) xs
apart root [] none = λ k d h. absurd (omega (arith, h))
apart root (x ∷ xs) none = cons x xs (by (x == root) refl none) (apart root xs (let rest : times root (x ∷ xs) ≡ 0 = none in omega (arith, rest)))
  where
    by : (b : Bool) → (x == root) ≡ b → cond b 1 0 + times root xs ≡ 0 → b ≡ false
    by false is none = refl
    by true is none = absurd (omega (arith, none))

    cons : (x : ℕ) (xs : List ℕ) → is_page root x ≡ false → All (λ other. is_page root other ≡ false) xs → All (λ other. is_page root other ≡ false) (x ∷ xs)
    cons x xs first rest = search (arith, first, rest)

pub outside_of : (pages : ℕ) (contents : Contents) (all : List ℕ) (s : Space) (page : ℕ) → IsSpaceBeside pages contents all s → 1 ≤ times page all → IsOutside page s
outside_of pages contents all s page b there = let most = b.once page in (apart page (space_pages s) (omega (arith, most, there)), b.used page there)

-- ---- one page of the tree is changed, and none is taken

pub one_alone : (page : ℕ) (all : List ℕ) → ((q : ℕ) → times q all ≤ 1) → ChangesOne (page ∷ []) page all
one_alone page all once others parts =
    let most = once page in
    let here = parts page in
    let itself : times page (page ∷ []) ≡ 1 + times page [] = times_itself page [] in
    (omega (arith, most, here, itself), tt)

pub none_taken : (pages : ℕ) (old new : Contents) (all now : List ℕ) (s : Space) (page : ℕ) → IsSpaceBeside pages old all s → ((q : ℕ) → times q now ≡ times q all) → 1 ≤ times page all → KeepsPages (λ q. is_among q (page ∷ [])) old new → HasTaken pages old new all now s zero
none_taken pages old new all now s page b same there keeps = record {
  now_is = λ q. let e = same q in omega (arith, e);
  beside = record {
    is_space = space_kept pages old new s (page ∷ []) (let most = b.once page in (omega (arith, most, there), tt)) keeps b.is_space;
    once = λ q. let most = b.once q in let e = same q in omega (arith, most, e);
    used = λ q some. b.used q (let e = same q in omega (arith, some, e));
  };
  others = λ q out. keeps q (one_out q out);
}
  where
    here : 1 ≤ times page now
    here = let e = same page in omega (arith, e, there)

    one_out : (q : ℕ) → beside_zero now q ≡ false → is_among q (page ∷ []) ≡ false
    one_out q out = (λ i. differ page q now here (zero_second q now out) i || false)

-- ---- one page is taken for a part of another one

pub one_taken : (pages : ℕ) (old new : Contents) (all now : List ℕ) (s : Space) (page other : ℕ) → IsSpaceBeside pages old all s → page ≡ next_free s → IsSpace pages new (taken s) → ((q : ℕ) → times q now ≡ times q all + times q (page ∷ [])) → 1 ≤ times other all → KeepsPages (λ q. is_among q (0 ∷ page ∷ other ∷ [])) old new → HasTaken pages old new all now s (suc zero)
one_taken pages old new all now s page other b is space now_is there keeps = record {
  now_is = λ q. let e = now_is q in let same = ap (λ (p : ℕ). times q (p ∷ [])) is in omega (arith, e, same);
  beside = beside_on pages new all now s page old b is now_is space;
  others = λ q out. keeps q (three q out);
}
  where
    here : 1 ≤ times page now
    here = let e = now_is page in let itself : times page (page ∷ []) ≡ 1 + times page [] = times_itself page [] in omega (arith, e, itself)

    there_now : 1 ≤ times other now
    there_now = let e = now_is other in omega (arith, e, there)

    zero_is : (q : ℕ) → (q == 0) ≡ false → (0 == q) ≡ false
    zero_is q not = grind (arith, not)

    three : (q : ℕ) → beside_zero now q ≡ false → is_among q (0 ∷ page ∷ other ∷ []) ≡ false
    three q out =
        let rest = zero_second q now out in
        (λ i. zero_is q (zero_first q now out) i || (differ page q now here rest i || (differ other q now there_now rest i || false)))

-- ---- and then others

pub taken_then : (pages : ℕ) (old mid new : Contents) (all now last : List ℕ) (s : Space) (count : ℕ) → HasTaken pages old mid all now s (suc zero) → HasTaken pages mid new now last (taken s) count → HasTaken pages old new all last s (suc count)
taken_then pages old mid new all now last s count one rest = record {
  now_is = λ q. let a = one.now_is q in let b = rest.now_is q in omega (arith, a, b);
  beside = rest.beside;
  others = λ q out. rest.others q out ∙ one.others q (fewer_out q now last (let b = rest.now_is q in omega (arith, b)) out);
}

-- ---- free pages

pub free_taken : (pages count : ℕ) (s : Space) → s.fresh ≤ pages → suc count < free_pages pages s → count < free_pages pages (taken s)
free_taken pages count s to many = by s.free many
  where
    by : (free : List ℕ) → suc count < length free + (pages - s.fresh) → count < length (rest_of free) + (pages - fresh_after free s.fresh)
    by [] many = omega (arith, many, to)
    by (x ∷ free) many = omega (arith, many)
