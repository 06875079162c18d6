-- Pages that a tree takes from the space beside it.
use Rattle.std.proofs.Common.{◌≡◌, ℕ, zero, suc, ◌+◌, ◌<◌, ◌≤◌, ◌==◌, Bool, true, false, List, [], ◌∷◌, refl, sym, ◌∙◌, ap, subst, arith, cond}
use Rattle.std.specs.Prelude.{All}
use Rattle.isp_base.specs.Lists.{times}
use Rattle.isp_format.specs.Header.{header_of}
use Rattle.isp_format.specs.Ranges.{Contents}
use Rattle.isp_format.specs.Space.{IsSpacePage}
use Rattle.isp_page.specs.State.{is_among}
use Rattle.isp_page.specs.Touched.{KeepsPages}
use Rattle.isp_space.specs.Spaces.{IsChain, IsSpace, Space, fresh_after, next_free, next_of, rest_of, space_page, space_pages, taken}
use Rattle.isp_levels.proofs.PageLaws.{NoneOf, keeps_same, times_itself}
use Rattle.isp_levels.proofs.StandLaws.{Same}
use Rattle.isp_growth.specs.Growing.{IsSpaceBeside}
use Rattle.isp_growth.proofs.StepLaws.{AreTaken, ChangesOne}

-- ---- the page that is taken next

pub next_from : (xs : List ℕ) (fresh : ℕ) → All (λ page. (16 ≤ page) × (page < fresh)) xs → 16 ≤ fresh → 16 ≤ next_of xs fresh
next_from [] fresh inside from = from
next_from (page ∷ rest) fresh inside from = (inside 0 page (omega arith)).0

one_at : (page q : ℕ) → 1 ≤ times q (page ∷ []) → page ≡ q
one_at page q some = by (page == q) refl some
  where
    by : (b : Bool) → (page == q) ≡ b → 1 ≤ cond b 1 0 + 0 → page ≡ q
    by true is some = grind (arith, is)
    by false is some = absurd (omega (arith, some))

few_one : (page q : ℕ) → times q (page ∷ []) ≤ 1
few_one page q = by (page == q)
  where
    by : (b : Bool) → cond b 1 0 + 0 ≤ 1
    by true = omega arith
    by false = omega arith

-- the page that is taken isn't one of the tree's, nor is it in the space any more
pub taken_once : (all free : List ℕ) (fresh page : ℕ) → ((q : ℕ) → times q all + times q (0 ∷ free) ≤ 1) → ((q : ℕ) → 1 ≤ times q all → q < fresh) → 16 ≤ fresh → page ≡ next_of free fresh → (q : ℕ) → times q all + times q (page ∷ []) + times q (0 ∷ rest_of free) ≤ 1
taken_once all [] fresh page once used from is q = by (times q (page ∷ [])) refl (few_one page q)
  where
    most : times q all + times q (0 ∷ []) ≤ 1
    most = once q

    by : (n : ℕ) → times q (page ∷ []) ≡ n → n ≤ 1 → times q all + n + times q (0 ∷ []) ≤ 1
    by zero none few = let m = most in omega (arith, m)
    by (suc n) some few =
        let here : page ≡ q = one_at page q (omega (arith, some)) in
        let zero_not : times q (0 ∷ []) ≡ 0 = none_zero q (omega (arith, here, is, from)) in
        let none : times q all ≡ 0 = none_all (times q all) refl (omega (arith, here, is)) in
        omega (arith, zero_not, none, few)
      where
        none_zero : (q : ℕ) → 16 ≤ q → times q (0 ∷ []) ≡ 0
        none_zero q large = let no : (0 == q) ≡ false = grind (arith, large) in ap (λ (b : Bool). cond b 1 0 + 0) no

        none_all : (m : ℕ) → times q all ≡ m → fresh ≡ q → m ≡ 0
        none_all zero is same = refl
        none_all (suc m) is same = let less = used q (omega (arith, is)) in absurd (omega (arith, less, same))
taken_once all (first ∷ rest) fresh page once used from is q =
    let most = once q in
    let same : times q (page ∷ []) ≡ times q (first ∷ []) = ap (λ (p : ℕ). times q (p ∷ [])) is in
    omega (arith, most, same)

pub taken_used : (all free : List ℕ) (fresh page : ℕ) → All (λ page. (16 ≤ page) × (page < fresh)) free → ((q : ℕ) → 1 ≤ times q all → q < fresh) → page ≡ next_of free fresh → (q : ℕ) → 1 ≤ times q all + times q (page ∷ []) → q < fresh_after free fresh
taken_used all free fresh page inside used is q some = by (times q all) refl some
  where
    later : (free : List ℕ) (n : ℕ) → n < fresh → n < fresh_after free fresh
    later [] n less = omega (arith, less)
    later (x ∷ rest) n less = less

    next : (free : List ℕ) → All (λ page. (16 ≤ page) × (page < fresh)) free → next_of free fresh < fresh_after free fresh
    next [] inside = omega arith
    next (x ∷ rest) inside = (inside 0 x (omega arith)).1

    by : (n : ℕ) → times q all ≡ n → 1 ≤ n + times q (page ∷ []) → q < fresh_after free fresh
    by (suc n) is_there some = later free q (used q (omega (arith, is_there)))
    by zero none some =
        let here : page ≡ q = one_at page q (omega (arith, some)) in
        subst (λ (n : ℕ). n < fresh_after free fresh) (sym is ∙ here) (next free inside)

pub are_taken : (pages : ℕ) (contents : Contents) (all : List ℕ) (s : Space) (page : ℕ) → IsSpaceBeside pages contents all s → page ≡ next_free s → page < pages → AreTaken pages all (page ∷ [])
are_taken pages contents all s page b is inside = record {
  inside = λ q some. subst (λ (n : ℕ). (16 ≤ n) × (n < pages)) (one_at page q some) (from, inside);
  once = λ q. let most = taken_once all s.free s.fresh page b.once b.used b.is_space.fresh_from is q in omega (arith, most);
}
  where
    from : 16 ≤ page
    from = subst (λ (n : ℕ). 16 ≤ n) (sym is) (next_from s.free s.fresh b.is_space.inside b.is_space.fresh_from)

-- ---- the space where other pages are changed

chain_kept : (old new : Contents) (xs : List ℕ) → Same xs old new → IsChain old xs → IsChain new xs
chain_kept old new [] same is = tt
chain_kept old new (x ∷ xs) same is = (ap (λ (bytes : List ℕ). (header_of bytes).next) same.0 ∙ is.0, chain_kept old new xs same.1 is.1)

pub space_kept : (pages : ℕ) (old new : Contents) (s : Space) (ps : List ℕ) → NoneOf ps (space_pages s) → KeepsPages (λ page. is_among page ps) old new → IsSpace pages old s → IsSpace pages new s
space_kept pages old new s ps none keeps is =
    let same = keeps_same ps (space_pages s) old new none keeps in
    record {
      says = subst (λ (bytes : List ℕ). IsSpacePage bytes (space_page s)) (sym same.0) is.says;
      chain = chain_kept old new s.free same.1 is.chain;
      inside = is.inside;
      once = is.once;
      fresh_from = is.fresh_from;
      fresh_to = is.fresh_to;
    }

-- a page of the tree and one that is taken aren't pages of the space any more
pub none_in_space : (all : List ℕ) (s : Space) (page other : ℕ) → ((q : ℕ) → times q all + times q (page ∷ []) + times q (space_pages (taken s)) ≤ 1) → 1 ≤ times other all → NoneOf (page ∷ other ∷ []) (space_pages (taken s))
none_in_space all s page other once there =
    let first = once page in
    let itself : times page (page ∷ []) ≡ 1 + times page [] = times_itself page [] in
    let second = once other in
    (omega (arith, first, itself), (omega (arith, second, there), tt))

-- the space beside the tree once a page of it is in two
pub beside_on : (pages : ℕ) (new : Contents) (all now : List ℕ) (s : Space) (page : ℕ) (old : Contents) → IsSpaceBeside pages old all s → page ≡ next_free s → ((q : ℕ) → times q now ≡ times q all + times q (page ∷ [])) → IsSpace pages new (taken s) → IsSpaceBeside pages new now (taken s)
beside_on pages new all now s page old b is now_is space = record {
  is_space = space;
  once = λ q. let most = taken_once all s.free s.fresh page b.once b.used b.is_space.fresh_from is q in let e = now_is q in omega (arith, most, e);
  used = λ q some. taken_used all s.free s.fresh page b.is_space.inside b.used is q (let e = now_is q in omega (arith, some, e));
}

-- none of the pages that a division changes is another one of the tree
pub changes_one : (pages : ℕ) (all : List ℕ) (page taken_page : ℕ) → ((q : ℕ) → 1 ≤ times q all → (16 ≤ q) × (q < pages)) → ((q : ℕ) → times q all ≤ 1) → times taken_page all ≡ 0 → ChangesOne (0 ∷ taken_page ∷ page ∷ []) page all
changes_one pages all page taken_page inside once free others parts =
    let zero_in = inside 0 in
    let zero_parts = parts 0 in
    let taken_parts = parts taken_page in
    let here = parts page in
    let most = once page in
    let itself : times page (page ∷ []) ≡ 1 + times page [] = times_itself page [] in
    (none_zero (times 0 all) refl, (omega (arith, taken_parts, free), (omega (arith, here, most, itself), tt)))
  where
    none_zero : (n : ℕ) → times 0 all ≡ n → times 0 others ≡ 0
    none_zero zero is = let e = parts 0 in omega (arith, e, is)
    none_zero (suc n) is = let in_file = inside 0 (omega (arith, is)) in let low = in_file.0 in absurd (omega (arith, low))
