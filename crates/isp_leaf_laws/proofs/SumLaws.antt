-- Sums over the pages of a tree, of a number that each page's entries have.
use Rattle.std.proofs.Common.{◌≡◌, ℕ, ◌+◌, ◌==◌, true, false, cond, Some, None, List, [], ◌∷◌, ◌++◌, refl, ap, arith, subst}
use Rattle.std.specs.Prelude.{flat_map}
use Rattle.isp_base.specs.Lists.{times}
use Rattle.isp_forest.specs.declared.entry.Entry.{Entry}
use Rattle.isp_forest.specs.Tree.{Node, Tree, page_in, numbers}
use Rattle.isp_forest.specs.Steps.{put, each}
use Rattle.isp_laws.proofs.ListLaws.{times-append}
use Rattle.isp_laws.proofs.PageLaws.{put_new, total}
use Rattle.isp_leaf_laws.specs.LeafLaws.{row_numbers, leaf_numbers}

abbrev pub sum_pages : (List Entry → ℕ) → List (ℕ × Node) → ℕ
sum_pages g [] = 0
sum_pages g (p ∷ rest) = g p.1.entries + sum_pages g rest

pub sum-put : (g : List Entry → ℕ) (q : ℕ) (page old : Node) (m : List (ℕ × Node)) → page_in m q ≡ Some old
    → sum_pages g (put q page m) + g old.entries ≡ sum_pages g m + g page.entries
sum-put g q page old [] there = cc
sum-put g q page old (p ∷ rest) there =
    elim (p.0 == q) as (λ b. cond b (Some p.1) (page_in rest q) ≡ Some old
    → sum_pages g (cond b ((q, page) ∷ rest) (p ∷ put q page rest)) + g old.entries ≡ g p.1.entries + sum_pages g rest + g page.entries) [
      | true ↦ λ h. (let same : p.1 ≡ old = cc in
          let P : Node → Type 0 = λ x. g page.entries + sum_pages g rest + g x.entries ≡ g p.1.entries + sum_pages g rest + g page.entries in
          subst P same (omega arith))
      | false ↦ λ h. omega (arith, sum-put g q page old rest h)
    ] there

pub sum-append : (g : List Entry → ℕ) (m n : List (ℕ × Node)) → sum_pages g (m ++ n) ≡ sum_pages g m + sum_pages g n
sum-append g [] n = omega arith
sum-append g (p ∷ m) n = omega (arith, sum-append g m n)

pub sum-put_new : (g : List Entry → ℕ) (q : ℕ) (page : Node) (m : List (ℕ × Node)) → page_in m q ≡ None
    → sum_pages g (put q page m) ≡ sum_pages g m + g page.entries
sum-put_new g q page m free =
    let a : sum_pages g (put q page m) ≡ sum_pages g (m ++ (q, page) ∷ []) = ap (sum_pages g) (put_new q page m free) in
    omega (arith, a, sum-append g m ((q, page) ∷ []))

pub sum-each : (g : List Entry → ℕ) (f : ℕ → Node → Node) (h : ℕ → ℕ) → ((q : ℕ) (page : Node) → g (f q page).entries ≡ g page.entries + h q)
    → (m : List (ℕ × Node)) → sum_pages g (each f m) ≡ sum_pages g m + total h (numbers m)
sum-each g f h e [] = refl
sum-each g f h e (p ∷ rest) = omega (arith, e p.0 p.1, sum-each g f h e rest)

sum-rows : (n : ℕ) (m : List (ℕ × Node)) → times n (flat_map (λ p. row_numbers p.1.entries) m) ≡ sum_pages (λ es. times n (row_numbers es)) m
sum-rows n [] = refl
sum-rows n (p ∷ rest) = omega (arith, times-append n (row_numbers p.1.entries) (flat_map (λ x. row_numbers x.1.entries) rest), sum-rows n rest)

pub sum-numbers : (n : ℕ) (tree : Tree) → times n (leaf_numbers tree) ≡ sum_pages (λ es. times n (row_numbers es)) tree.pages
sum-numbers n tree = sum-rows n tree.pages

pub total-same : (f g : ℕ → ℕ) → ((q : ℕ) → f q ≡ g q) → (ns : List ℕ) → total f ns ≡ total g ns
total-same f g e [] = refl
total-same f g e (n ∷ ns) = omega (arith, e n, total-same f g e ns)
