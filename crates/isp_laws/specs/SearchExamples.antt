-- A search that is overtaken by a split, visit by visit, and one that percolates. The first looks for what meets the box from
-- (0,0) to (6,6): it reads the root of the five points, then page 19 is split behind it, and it finds (0,0) on page 19 and, by
-- the right link, (5,5) on page 21.
use Rattle.std.specs.Prelude.{◌≡◌, ℕ, ℤ, pos, List, [], ◌∷◌}
use Rattle.isp_mbr.specs.declared.predicate.Predicate.{Predicate}
use Rattle.isp_mbr.specs.declared.predicate.Test.TheVariants.{Intersects}
use Rattle.isp_forest.specs.Search.{Search}
use Rattle.isp_forest.specs.Attach.{percolates, let_in, copied_up}
use Rattle.isp_forest.specs.Visit.{begun, visit}
use Rattle.isp_laws.specs.Examples.{box, four_points, five_points, seven_points, first_division, division}

abbrev pub meets_box : ℕ → ℕ → ℕ → ℕ → Predicate
meets_box x1 y1 x2 y2 = record { test = Intersects; q = box x1 y1 x2 y2 }

-- the search of session 1's second statement, on these pages, with these still to visit and these keys found
abbrev pub at : Predicate → List ℕ → List (ℕ × ℕ) → List ℤ → Search
at predicate on stack found = record { session = 1; statement = 2; predicate = predicate; on = on; stack = stack; found = found }

pub record SearchesFit : Type 0 where
  pub begins : begun five_points 1 2 (meets_box 0 0 6 6) ≡ at (meets_box 0 0 6 6) [] ((17, 1) ∷ []) []
  pub root : visit five_points [] 17 1 (at (meets_box 0 0 6 6) [] ((17, 1) ∷ []) []) ≡ at (meets_box 0 0 6 6) (17 ∷ []) ((19, 1) ∷ []) []
  -- page 19 is split here, and the search isn't on it
  pub overtaken : copied_up five_points 0 (19 ∷ 17 ∷ []) (division ∷ []) (at (meets_box 0 0 6 6) (17 ∷ []) ((19, 1) ∷ []) []) ≡ at (meets_box 0 0 6 6) (17 ∷ []) ((19, 1) ∷ []) []
  pub old_page : visit seven_points [] 19 1 (at (meets_box 0 0 6 6) (17 ∷ []) ((19, 1) ∷ []) []) ≡ at (meets_box 0 0 6 6) (17 ∷ 19 ∷ []) ((21, 1) ∷ []) (pos 1 ∷ [])
  pub new_page : visit seven_points [] 21 1 (at (meets_box 0 0 6 6) (17 ∷ 19 ∷ []) ((21, 1) ∷ []) (pos 1 ∷ [])) ≡ at (meets_box 0 0 6 6) (17 ∷ 19 ∷ 21 ∷ []) [] (pos 1 ∷ pos 5 ∷ [])
  -- a page that the search is on gives its right link alone
  pub again : visit seven_points [] 19 1 (at (meets_box 0 0 6 6) (17 ∷ 19 ∷ []) ((19, 1) ∷ []) (pos 1 ∷ [])) ≡ at (meets_box 0 0 6 6) (17 ∷ 19 ∷ []) ((21, 1) ∷ []) (pos 1 ∷ [])
  -- a search that is on page 19 is copied to page 21 as it is split
  pub copied : copied_up five_points 0 (19 ∷ 17 ∷ []) (division ∷ []) (at (meets_box 0 0 6 6) (17 ∷ 19 ∷ []) [] (pos 1 ∷ pos 5 ∷ [])) ≡ at (meets_box 0 0 6 6) (17 ∷ 19 ∷ 21 ∷ []) [] (pos 1 ∷ pos 5 ∷ [])
  -- one that is on the root, as that is raised to page 19 and split, is copied there, and to page 20 only where that may hold it
  pub raised : copied_up four_points 19 (17 ∷ []) (first_division ∷ []) (at (meets_box 0 0 6 6) (17 ∷ []) [] (pos 1 ∷ [])) ≡ at (meets_box 0 0 6 6) (17 ∷ 19 ∷ []) [] (pos 1 ∷ [])
  pub raised_both : copied_up four_points 19 (17 ∷ []) (first_division ∷ []) (at (meets_box 0 0 6 10) (17 ∷ []) [] (pos 1 ∷ pos 3 ∷ [])) ≡ at (meets_box 0 0 6 10) (17 ∷ 19 ∷ 20 ∷ []) [] (pos 1 ∷ pos 3 ∷ [])
  -- (5,9) makes the box of page 20 grow into what meets the box to (9,9); (5,10) does not
  pub percolating : percolates five_points (at (meets_box 0 0 9 9) (17 ∷ 19 ∷ []) [] (pos 1 ∷ pos 5 ∷ [])) (box 5 9 5 9) (17 ∷ 20 ∷ []) ≡ 20 ∷ []
  pub not_percolating : percolates five_points (at (meets_box 0 0 9 9) (17 ∷ 19 ∷ []) [] (pos 1 ∷ pos 5 ∷ [])) (box 5 10 5 10) (17 ∷ 20 ∷ []) ≡ []
  pub let_in_there : let_in five_points (17 ∷ 20 ∷ []) (box 5 9 5 9) (at (meets_box 0 0 9 9) (17 ∷ 19 ∷ []) [] (pos 1 ∷ pos 5 ∷ [])) ≡ at (meets_box 0 0 9 9) (17 ∷ 19 ∷ 20 ∷ []) [] (pos 1 ∷ pos 5 ∷ [])
