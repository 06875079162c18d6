-- A tree of so many levels has so many leaves, and a file has no more pages.
use Rattle.std.proofs.Common.{◌≡◌, ℕ, zero, suc, ◌+◌, ◌<◌, ◌≤◌, ◌==◌, Bool, true, false, List, [], ◌∷◌, length, length-append, refl, ap, subst, arith, cond}
use Rattle.isp_base.specs.Lists.{times}
use Rattle.isp_format.specs.Inner.{Name}
use Rattle.isp_levels.specs.Levels.{AllForked, InnerNode, Lead, LevelsForked, TreeLeaf, entries_of, leaf_names, leaf_pages, names_of}
use Rattle.isp_levels.proofs.PageLaws.{times_itself}

-- ---- distinct numbers below n are n at most

abbrev counted : ℕ → List ℕ → ℕ
counted zero xs = 0
counted (suc n) xs = times n xs + counted n xs

counted_none : (n : ℕ) (xs : List ℕ) → ((q : ℕ) → times q xs ≤ 1) → counted n xs ≤ n
counted_none zero xs once = omega arith
counted_none (suc n) xs once = let rest = counted_none n xs once in let here = once n in omega (arith, rest, here)

no_fewer : (n x : ℕ) (xs : List ℕ) → counted n xs ≤ counted n (x ∷ xs)
no_fewer zero x xs = omega arith
no_fewer (suc n) x xs = let rest = no_fewer n x xs in omega (arith, rest)

one_more : (n x : ℕ) (xs : List ℕ) → x < n → 1 + counted n xs ≤ counted n (x ∷ xs)
one_more zero x xs less = absurd (omega (arith, less))
one_more (suc n) x xs less = by (x == n) refl (one_more n x xs)
  where
    by : (b : Bool) → (x == n) ≡ b → (x < n → 1 + counted n xs ≤ counted n (x ∷ xs)) → 1 + (times n xs + counted n xs) ≤ (cond b 1 0 + times n xs) + counted n (x ∷ xs)
    by true is deeper = let rest = no_fewer n x xs in omega (arith, rest)
    by false is deeper =
        let other : x < n = grind (arith, is, less) in
        let rest = deeper other in
        omega (arith, rest)

counted_all : (n : ℕ) (xs : List ℕ) → ((q : ℕ) → 1 ≤ times q xs → q < n) → length xs ≤ counted n xs
counted_all n [] inside = omega arith
counted_all n (x ∷ xs) inside =
    let itself = times_itself x xs in
    let here = inside x (omega (arith, itself)) in
    let more = one_more n x xs here in
    let rest = counted_all n xs (λ q some. inside q (omega (arith, some))) in
    omega (arith, more, rest)

pub distinct_few : (n : ℕ) (xs : List ℕ) → ((q : ℕ) → 1 ≤ times q xs → q < n) → ((q : ℕ) → times q xs ≤ 1) → length xs ≤ n
distinct_few n xs inside once = let one = counted_all n xs inside in let two = counted_none n xs once in omega (arith, one, two)

-- ---- each level has twice as many pages as the one above it

abbrev pub twice : ℕ → ℕ → ℕ
twice zero n = n
twice (suc k) n = twice k (n + n)

twice_more : (k m n : ℕ) → m ≤ n → twice k m ≤ twice k n
twice_more zero m n less = less
twice_more (suc k) m n less = twice_more k (m + m) (n + n) (omega (arith, less))

names_long : (level : List InnerNode) → length (names_of level) ≡ length level
names_long [] = refl
names_long (node ∷ level) = ap suc (names_long level)

entries_long : (level : List InnerNode) → AllForked level → length level + length level ≤ length (entries_of level)
entries_long [] forked = omega arith
entries_long (node ∷ level) forked =
    let rest = entries_long level forked.1 in
    let two = forked.0 in
    let both = length-append node.names (entries_of level) in
    omega (arith, rest, two, both)

pub lead_long : (names : List Name) (levels : List (List InnerNode)) (out : List Name) → Lead names levels out → LevelsForked levels → twice (length levels) (length names) ≤ length out
lead_long names [] out leads forked = let same = ap (λ (l : List Name). length l) leads in omega (arith, same)
lead_long names (level ∷ levels) out leads forked =
    let rest = lead_long (entries_of level) levels out leads.1 forked.1 in
    let long = entries_long level forked.0 in
    let same = ap (λ (l : List Name). length l) leads.0 in
    let names_are = names_long level in
    let more = twice_more (length levels) (length names + length names) (length (entries_of level)) (omega (arith, long, same, names_are)) in
    omega (arith, rest, more)

pub leaves_long : (leaves : List TreeLeaf) → length (leaf_names leaves) ≡ length (leaf_pages leaves)
leaves_long [] = refl
leaves_long (leaf ∷ leaves) = ap suc (leaves_long leaves)

pub too_many : (n pages : ℕ) → n ≡ 14 → pages ≤ 65536 → twice n 336 ≤ pages → ⊥
too_many n pages is few many =
    let all : twice 14 336 ≤ pages = subst (λ (k : ℕ). twice k 336 ≤ pages) is many in
    let large : 5505024 ≤ pages = all in
    omega (arith, large, few)
