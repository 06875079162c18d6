-- How many pages a plan needs, counted from the root down.
use Rattle.std.proofs.Common.{◌≡◌, ℕ, ◌+◌, ◌≤◌, Option, Some, None, List, [], ◌∷◌, ◌++◌, length, reverse, drop, refl, ap, arith}
use Rattle.std.proofs.lemmas.List.{drop_all, reverse-append}
use Rattle.isp_forest.specs.declared.entry.Entry.{Entry}
use Rattle.isp_rplan.specs.Divisions.{needs, pages_needed}
use Rattle.isp_rplan.specs.Plans.{moves_of}
use Rattle.isp_rplan.specs.declared.steps.Planned.{Planned}
use Rattle.isp_rsettle.specs.Settling.{root_needs}

-- one page for each division
abbrev pub all_needs : List Planned → ℕ
all_needs [] = 0
all_needs (s ∷ steps) = needs (moves_of s) + all_needs steps

pub needs_one : (m : Option (List Entry)) → needs m ≤ 1
needs_one None = omega arith
needs_one (Some moves) = omega arith

pub few_needs : (steps : List Planned) → all_needs steps ≤ length steps
few_needs [] = omega arith
few_needs (s ∷ steps) = omega (arith, needs_one (moves_of s), few_needs steps)

pub root_one : (steps : List Planned) → root_needs steps ≤ 1
root_one [] = omega arith
root_one (s ∷ steps) = needs_one (moves_of s)

needs_append : (xs ys : List Planned) → all_needs (xs ++ ys) ≡ all_needs xs + all_needs ys
needs_append [] ys = omega arith
needs_append (x ∷ xs) ys = let later = needs_append xs ys in omega (arith, later)

needs_reverse : (steps : List Planned) → all_needs (reverse steps) ≡ all_needs steps
needs_reverse [] = refl
needs_reverse (s ∷ steps) =
    let turned : all_needs (reverse (s ∷ steps)) ≡ all_needs (reverse steps ++ s ∷ []) = ap all_needs (reverse-append (s ∷ []) steps) in
    let later = needs_reverse steps in
    let both = needs_append (reverse steps) (s ∷ []) in
    omega (arith, turned, later, both)

root_last : (xs : List Planned) (root : Planned) → pages_needed (xs ++ root ∷ []) ≡ all_needs xs + (needs (moves_of root) + needs (moves_of root))
root_last [] root = omega arith
root_last (x ∷ []) root = omega arith
root_last (x ∷ y ∷ xs) root = let later = root_last (y ∷ xs) root in omega (arith, later)

pub needed_is : (steps : List Planned) → pages_needed (reverse steps) ≡ root_needs steps + all_needs steps
needed_is [] = refl
needed_is (root ∷ steps) =
    let turned : pages_needed (reverse (root ∷ steps)) ≡ pages_needed (reverse steps ++ root ∷ []) = ap pages_needed (reverse-append (root ∷ []) steps) in
    let last = root_last (reverse steps) root in
    let same = needs_reverse steps in
    omega (arith, turned, last, same)

-- all steps are counted
pub counted_all : (steps : List Planned) (i count : ℕ) → length steps ≤ i → count + all_needs (drop i steps) ≡ root_needs steps + all_needs steps → count ≡ pages_needed (reverse steps)
counted_all steps i count all is =
    let none : all_needs (drop i steps) ≡ 0 = ap all_needs (drop_all i steps all) in
    omega (arith, is, none, needed_is steps)
