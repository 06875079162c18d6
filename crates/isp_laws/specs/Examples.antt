-- Trees to try the definitions on. Four points lie on a root that is a leaf, page 17. A fifth raises it to page 19 and splits
-- that one: (0,0), (10,0) and (5,5) stay on page 19, (0,10) and (10,10) go to page 20. Then (9,1) and (9,2) are added to page 19, which holds four entries at most and is split: page 21 takes (5,5) with
-- both, page 19 gets the next number of the counter, and page 21 its former number and right link.
use Rattle.std.specs.Prelude.{◌≡◌, ℕ, pos, ◌==◌, cond, Some, None, List, [], ◌∷◌}
use Rattle.isp_mbr.specs.Corners.{Corners}
use Rattle.isp_forest.specs.declared.entry.Entry.{Entry}
use Rattle.isp_forest.specs.declared.entry.To.TheVariants.{Row}
use Rattle.isp_base.specs.Lists.{Has}
use Rattle.isp_forest.specs.Tree.{Tree, page_at, ssn_of}
use Rattle.isp_forest.specs.Walk.{IsWalk, LinkedForest}
use Rattle.isp_forest.specs.Steps.{each, entry_for}
use Rattle.isp_forest.specs.Place.{Division, place}

abbrev pub box : ℕ → ℕ → ℕ → ℕ → Corners
box x1 y1 x2 y2 = record { x1 = pos x1; y1 = pos y1; x2 = pos x2; y2 = pos y2 }

-- the entry of a row that is a point: its place, its key, the entry's number
abbrev pub point : ℕ → ℕ → ℕ → ℕ → Entry
point x y key number = record { b = box x y x y; to = Row (pos key) number }

abbrev pub four_points : Tree
four_points = record {
  root = 17;
  pages = (17, record { level = 0; ssn = 0; next = None; entries = point 0 0 1 0 ∷ point 10 0 2 1 ∷ point 0 10 3 2 ∷ point 10 10 4 3 ∷ [] }) ∷ [];
}

abbrev pub five_points : Tree
five_points = record {
  root = 17;
  pages = (17, record { level = 1; ssn = 1; next = None; entries = entry_for (box 0 0 10 5) 19 ∷ entry_for (box 0 10 10 10) 20 ∷ [] })
      ∷ (19, record { level = 0; ssn = 1; next = Some 20; entries = point 0 0 1 0 ∷ point 10 0 2 1 ∷ point 5 5 5 4 ∷ [] })
      ∷ (20, record { level = 0; ssn = 0; next = None; entries = point 0 10 3 2 ∷ point 10 10 4 3 ∷ [] })
      ∷ [];
}

abbrev pub seven_points : Tree
seven_points = record {
  root = 17;
  pages = (17, record { level = 1; ssn = 2; next = None; entries = entry_for (box 0 0 10 0) 19 ∷ entry_for (box 0 10 10 10) 20 ∷ entry_for (box 5 1 9 5) 21 ∷ [] })
      ∷ (19, record { level = 0; ssn = 2; next = Some 21; entries = point 0 0 1 0 ∷ point 10 0 2 1 ∷ [] })
      ∷ (20, record { level = 0; ssn = 0; next = None; entries = point 0 10 3 2 ∷ point 10 10 4 3 ∷ [] })
      ∷ (21, record { level = 0; ssn = 1; next = Some 20; entries = point 5 5 5 4 ∷ point 9 1 6 5 ∷ point 9 2 7 6 ∷ [] })
      ∷ [];
}

-- how page 19 was divided both times
abbrev pub first_division : Division
first_division = record { page = 20; left = point 0 0 1 0 ∷ point 10 0 2 1 ∷ point 5 5 5 4 ∷ []; right = point 0 10 3 2 ∷ point 10 10 4 3 ∷ [] }

abbrev pub division : Division
division = record { page = 21; left = point 0 0 1 0 ∷ point 10 0 2 1 ∷ []; right = point 5 5 5 4 ∷ point 9 1 6 5 ∷ point 9 2 7 6 ∷ [] }

-- the fifth point is placed, with the raise
abbrev pub fifth_placed : Tree
fifth_placed = place four_points (17 ∷ []) (box 5 5 5 5) (pos 5) 4 19 (first_division ∷ [])

-- both later points are placed, the second with the split; the root is not raised, so no page is named for that
abbrev pub placed : Tree
placed = place (place five_points (17 ∷ 19 ∷ []) (box 9 1 9 1) (pos 6) 5 0 []) (17 ∷ 19 ∷ []) (box 9 2 9 2) (pos 7) 6 0 (division ∷ [])

pub record ExamplesFit : Type 0 where
  pub first : LinkedForest four_points
  pub raising : fifth_placed ≡ five_points
  pub before : LinkedForest five_points
  pub after : LinkedForest seven_points
  pub placing : placed ≡ seven_points
  -- what the number 1, remembered for page 19 before the split, leads to
  pub walk_before : IsWalk five_points 1 (19 ∷ [])
  pub walk_after : IsWalk seven_points 1 (19 ∷ 21 ∷ [])
  -- and the number 0
  pub older_before : IsWalk five_points 0 (19 ∷ 20 ∷ [])
  pub older_after : IsWalk seven_points 0 (19 ∷ 21 ∷ 20 ∷ [])

-- ---- two wrong splits

-- the old page keeps its number, and the new page gets the counter's
abbrev pub numbers_exchanged : Tree → ℕ → ℕ → Tree
numbers_exchanged tree o n = record tree {
  pages = each (λ q page. record page { ssn = cond (q == o) (ssn_of (page_at tree n)) (cond (q == n) (ssn_of (page_at tree o)) page.ssn) }) tree.pages;
}

-- the new page doesn't get the old page's right link
abbrev pub right_link_lost : Tree → ℕ → Tree
right_link_lost tree n = record tree { pages = each (λ q page. record page { next = cond (q == n) None page.next }) tree.pages }

-- with either, a search that remembered page 19 misses a page that it would have come to: with the numbers exchanged page 21,
-- where (5,5) is now; without the right link page 20, which it would have found before the split
pub record WrongSplitsMiss : Type 0 where
  pub exchanged : (w : List ℕ) → IsWalk (numbers_exchanged seven_points 19 21) 1 (19 ∷ w) → Has (19 ∷ w) 21 → ⊥
  pub lost : (w : List ℕ) → IsWalk (right_link_lost seven_points 21) 0 (19 ∷ w) → Has (19 ∷ w) 20 → ⊥
