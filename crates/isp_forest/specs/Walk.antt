-- What a remembered page and sequence number lead to (Kornacker, Mohan and Hellerstein 1997): a page whose number is
-- greater than the remembered one was split since, and what it had then stands on it and on the pages to its right.
use Rattle.std.specs.Prelude.{◌≡◌, ℕ, zero, suc, nat_lt, cond, Option, Some, None, List, [], ◌∷◌}
use Rattle.isp_forest.specs.Tree.{Node, Tree, page_at}
use Rattle.isp_forest.specs.Forest.{Forest}

-- the right link of a page that was split since s
abbrev pub split_since : ℕ → Option Node → Option ℕ
split_since s None = None
split_since s (Some page) = cond (nat_lt s page.ssn) page.next None

-- where a walk with the number s goes on from page p
abbrev pub onward : Tree → ℕ → ℕ → Option ℕ
onward tree s p = split_since s (page_at tree p)

-- these pages, one after another, are all that their first one and the number s lead to
abbrev pub IsWalk : Tree → ℕ → List ℕ → Type 0
IsWalk tree s [] = ⊥
IsWalk tree s (p ∷ []) = onward tree s p ≡ None
IsWalk tree s (p ∷ q ∷ rest) = (onward tree s p ≡ Some q) × IsWalk tree s (q ∷ rest)

abbrev pub right_of : Option Node → Option ℕ
right_of None = None
right_of (Some page) = page.next

-- the right link of page p
abbrev pub link : Tree → ℕ → Option ℕ
link tree p = right_of (page_at tree p)

-- the right links from p on come to an end after n of them
abbrev pub EndsAfter : Tree → ℕ → ℕ → Type 0
EndsAfter tree zero p = link tree p ≡ None
EndsAfter tree (suc n) p = (q : ℕ) × (link tree p ≡ Some q) × EndsAfter tree n q

-- no two pages have the same right link, and right links never lead back, so that they come to an end
pub record Links (tree : Tree) : Type 0 where
  pub apart : (p q r : ℕ) → link tree p ≡ Some r → link tree q ≡ Some r → p ≡ q
  pub ends : (p : ℕ) → (n : ℕ) × EndsAfter tree n p

-- one right link more than n lead from page p to page q
abbrev pub Follows : Tree → ℕ → ℕ → ℕ → Type 0
Follows tree zero p q = link tree p ≡ Some q
Follows tree (suc n) p q = (r : ℕ) × (link tree p ≡ Some r) × Follows tree n r q

-- a tree whose pages fit together, and whose right links can be followed
pub record LinkedForest (tree : Tree) : Type 0 where
  pub forest : Forest tree
  pub links : Links tree
