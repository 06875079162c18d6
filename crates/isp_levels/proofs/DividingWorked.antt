-- Worked rows: rows put one after another into a tree on page 16, whose leaves are divided; what each leaf then has. Page 17 is free
-- first, and a lone leaf that is divided moves before its right part gets a page.
use Rattle.std.proofs.Common.{◌≡◌, ℕ, zero, suc, ◌==◌, ℤ, Bool, List, [], ◌∷◌, ◌++◌, length, map, refl, if◌then◌else◌}
use Rattle.std.specs.Prelude.{int_le, pos, replicate}
use Rattle.isp_levels.specs.Dividing.{divided_node, with_row_put}
use Rattle.isp_levels.specs.Levels.{InnerNode, TreeLeaf, least_key}

-- the leaves and the first page never used
record State : Type 0 where
  leaves : List TreeLeaf
  fresh : ℕ

-- a row put into the last leaf that begins at the key or before it, with that page for a right part
abbrev put_in : ℤ → List ℕ → ℕ → List TreeLeaf → List TreeLeaf
put_in key row page [] = []
put_in key row page (leaf ∷ []) = with_row_put key row page leaf
put_in key row page (leaf ∷ next ∷ leaves) = if int_le next.low key then leaf ∷ put_in key row page (next ∷ leaves) else with_row_put key row page leaf ++ (next ∷ leaves)

abbrev on_page : ℕ → List TreeLeaf → List TreeLeaf
on_page page [] = []
on_page page (leaf ∷ leaves) = record leaf { page = page } ∷ leaves

abbrev is_lone : List TreeLeaf → Bool
is_lone leaves = length leaves == 1

abbrev step : ℤ → List ℕ → State → State
step key row s =
    if length (put_in key row s.fresh s.leaves) == length s.leaves then record { leaves = put_in key row s.fresh s.leaves; fresh = s.fresh }
    else if is_lone s.leaves then record { leaves = put_in key row (suc s.fresh) (on_page s.fresh s.leaves); fresh = suc (suc s.fresh) }
    else record { leaves = put_in key row s.fresh s.leaves; fresh = suc s.fresh }

-- keys with the sizes of their rows
abbrev run : List (ℤ × ℕ) → State → State
run [] s = s
run (put ∷ puts) s = run puts (step put.0 (replicate put.1 0) s)

abbrev empty : State
empty = record { leaves = record { page = 16; low = least_key; rows = [] } ∷ []; fresh = 17 }

abbrev keys_on : TreeLeaf → ℕ × List ℤ
keys_on leaf = (leaf.page, map (λ s. s.key) leaf.rows)

abbrev seen : List (ℤ × ℕ) → List (ℕ × List ℤ)
seen puts = map keys_on (run puts empty).leaves

abbrev large : List ℤ → List (ℤ × ℕ)
large [] = []
large (key ∷ keys) = (key, 984) ∷ large keys

abbrev numbers : List ℕ → List ℤ
numbers [] = []
numbers (n ∷ ns) = pos n ∷ numbers ns

rising : seen (large (numbers (1 ∷ 2 ∷ 3 ∷ 4 ∷ 5 ∷ []))) ≡ (17, numbers (1 ∷ 2 ∷ 3 ∷ [])) ∷ (18, numbers (4 ∷ 5 ∷ [])) ∷ []
rising = refl

falling : seen (large (numbers (5 ∷ 4 ∷ 3 ∷ 2 ∷ 1 ∷ []))) ≡ (17, numbers (1 ∷ 2 ∷ 3 ∷ [])) ∷ (18, numbers (4 ∷ 5 ∷ [])) ∷ []
falling = refl

between : seen (large (numbers (1 ∷ 2 ∷ 4 ∷ 5 ∷ 3 ∷ []))) ≡ (17, numbers (1 ∷ 2 ∷ 3 ∷ [])) ∷ (18, numbers (4 ∷ 5 ∷ [])) ∷ []
between = refl

-- a division of the left leaf: the new right part stands between, on the page taken last
in_the_middle : seen (large (numbers (10 ∷ 20 ∷ 30 ∷ 40 ∷ 25 ∷ 26 ∷ 27 ∷ 28 ∷ [])))
    ≡ (17, numbers (10 ∷ 20 ∷ 25 ∷ [])) ∷ (19, numbers (26 ∷ 27 ∷ 28 ∷ [])) ∷ (18, numbers (30 ∷ 40 ∷ [])) ∷ []
in_the_middle = refl

-- four rows that fill the page to its end
full : seen ((pos 1, 995) ∷ (pos 2, 995) ∷ (pos 3, 995) ∷ (pos 4, 995) ∷ []) ≡ (16, numbers (1 ∷ 2 ∷ 3 ∷ 4 ∷ [])) ∷ []
full = refl

-- a byte more
one_more : seen ((pos 1, 995) ∷ (pos 2, 995) ∷ (pos 3, 995) ∷ (pos 4, 996) ∷ []) ≡ (17, numbers (1 ∷ 2 ∷ 3 ∷ [])) ∷ (18, numbers (4 ∷ [])) ∷ []
one_more = refl

-- a key whose slot was smaller is counted with its new slot alone
grown : seen ((pos 1, 604) ∷ (pos 2, 604) ∷ (pos 3, 604) ∷ (pos 4, 604) ∷ (pos 5, 604) ∷ (pos 6, 604) ∷ (pos 2, 984) ∷ []) ≡ (17, numbers (1 ∷ 2 ∷ 3 ∷ [])) ∷ (18, numbers (4 ∷ 5 ∷ 6 ∷ [])) ∷ []
grown = refl

-- an inner page with one entry too many
abbrev named : ℕ → ℕ → List (ℤ × ℕ)
named low zero = []
named low (suc n) = (pos low, low) ∷ named (suc low) n

-- the left half has 169 entries, the right one 168 and the key of its first
abbrev sizes : InnerNode → ℤ × ℕ × ℕ
sizes node = (node.low, node.page, length node.names)

halved_names : map sizes (divided_node 355 (record { low = pos 1; page = 354; names = named 1 337 })) ≡ (pos 1, 354, 169) ∷ (pos 170, 355, 168) ∷ []
halved_names = refl

whole_names : map sizes (divided_node 355 (record { low = pos 1; page = 354; names = named 1 336 })) ≡ (pos 1, 354, 336) ∷ []
whole_names = refl
