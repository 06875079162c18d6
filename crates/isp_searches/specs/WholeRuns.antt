-- Searches of the five points, run from the beginning to the end, and inserts that are tested against one of them.
use Rattle.std.specs.Prelude.{◌≡◌, true, false, pos, [], ◌∷◌}
use Rattle.isp_mbr.specs.Predicates.{satisfies}
use Rattle.isp_mbr.specs.declared.predicate.Predicate.{Predicate}
use Rattle.isp_mbr.specs.declared.predicate.Test.TheVariants.{Disjoint}
use Rattle.isp_forest.specs.Attach.{is_tested, attached}
use Rattle.isp_forest.specs.Visit.{begun}
use Rattle.isp_laws.specs.Examples.{box, four_points, five_points, first_division}
use Rattle.isp_laws.specs.SearchExamples.{meets_box, at}
use Rattle.isp_searches.specs.SearchLaws.{Visits}
use Rattle.isp_searches.specs.WrongSteps.{within_box, has_run}

abbrev pub apart_from_box : Predicate
apart_from_box = record { test = Disjoint; q = box 0 0 9 9 }

pub record RunsFit : Type 0 where
  -- page 20 lies above what meets the box to (9,9)
  pub meeting : Visits five_points 2 (begun five_points 1 2 (meets_box 0 0 9 9)) (at (meets_box 0 0 9 9) (17 ∷ 19 ∷ []) [] (pos 1 ∷ pos 5 ∷ []))
  pub within : Visits five_points 2 (begun five_points 1 2 (within_box 0 0 6 6)) (at (within_box 0 0 6 6) (17 ∷ 19 ∷ []) [] (pos 1 ∷ pos 5 ∷ []))
  -- the page that was remembered last is visited first
  pub apart : Visits five_points 3 (begun five_points 1 2 apart_from_box) (at apart_from_box (17 ∷ 20 ∷ 19 ∷ []) [] (pos 3 ∷ pos 4 ∷ pos 2 ∷ []))
  pub all : Visits five_points 3 (begun five_points 1 2 (meets_box 0 0 10 10)) (at (meets_box 0 0 10 10) (17 ∷ 20 ∷ 19 ∷ []) [] (pos 3 ∷ pos 4 ∷ pos 1 ∷ pos 2 ∷ pos 5 ∷ []))

-- tests against the search for what meets the box to (9,9), once it has run
pub record TestsFit : Type 0 where
  -- on the leaf
  pub on_leaf : is_tested five_points (17 ∷ 19 ∷ []) (box 9 1 9 1) has_run ≡ true
  pub stopped_there : satisfies has_run.predicate (box 9 1 9 1) ≡ true
  -- (5,9) makes the box of page 20 grow into what the search looks for, and is what it looks for
  pub percolates : is_tested five_points (17 ∷ 20 ∷ []) (box 5 9 5 9) has_run ≡ true
  pub stopped : satisfies has_run.predicate (box 5 9 5 9) ≡ true
  -- so does (10,9), which isn't
  pub percolates_too : is_tested five_points (17 ∷ 20 ∷ []) (box 10 9 10 9) has_run ≡ true
  pub placed : satisfies has_run.predicate (box 10 9 10 9) ≡ false
  pub attached_there : attached five_points (17 ∷ 20 ∷ []) (box 10 9 10 9) (pos 6) 5 0 [] has_run ≡ at (meets_box 0 0 9 9) (17 ∷ 19 ∷ 20 ∷ []) [] (pos 1 ∷ pos 5 ∷ [])
  -- (5,10) leaves the box of page 20 as it is
  pub untested : is_tested five_points (17 ∷ 20 ∷ []) (box 5 10 5 10) has_run ≡ false
  -- a raised root and its split
  pub raising : attached four_points (17 ∷ []) (box 5 5 5 5) (pos 5) 4 19 (first_division ∷ []) (at (meets_box 0 0 6 6) (17 ∷ []) [] (pos 1 ∷ [])) ≡ at (meets_box 0 0 6 6) (17 ∷ 19 ∷ []) [] (pos 1 ∷ [])
