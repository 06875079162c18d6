-- Nine wrong steps, each on a tree of at most four pages: before it nothing is out of the search's reach, and after it a page
-- is that has to be visited. So the search ends without a row that it looks for: one that was there, or one that another
-- session places later without being stopped.
use Rattle.std.specs.Prelude.{◌≡◌, ℕ, ℤ, true, false, ◌&&◌, cond, Option, Some, None, List, [], ◌∷◌, ◌++◌, pos}
use Rattle.isp_mbr.specs.Corners.{Corners}
use Rattle.isp_mbr.specs.Boxes.{covers}
use Rattle.isp_mbr.specs.Predicates.{satisfies}
use Rattle.isp_mbr.specs.declared.predicate.Predicate.{Predicate}
use Rattle.isp_mbr.specs.declared.predicate.Test.TheVariants.{Within}
use Rattle.isp_forest.specs.declared.entry.Entry.{Entry}
use Rattle.isp_base.specs.Lists.{Has}
use Rattle.isp_forest.specs.Tree.{Node, Tree, page_at, counter, child_of}
use Rattle.isp_forest.specs.Walk.{split_since, LinkedForest}
use Rattle.isp_forest.specs.Steps.{is_among, entry_for, add, raise, split}
use Rattle.isp_forest.specs.Search.{Search, Covered}
use Rattle.isp_forest.specs.Attach.{lets_in_from, let_in, copied_at_split, is_tested}
use Rattle.isp_forest.specs.Visit.{remembered, looked_at, visit}
use Rattle.isp_laws.specs.Examples.{box, point, four_points, five_points, seven_points, division, numbers_exchanged}
use Rattle.isp_laws.specs.SearchExamples.{meets_box, at}
use Rattle.isp_searches.specs.SearchLaws.{IsOnLeaf}

-- ---- wrong visits, of the page that was taken off the stack with the number s

-- the right link is ignored
abbrev pub without_link : Tree → ℕ → Option Node → Search → Search
without_link tree p None x = x
without_link tree p (Some page) x = cond (is_among x.on p) x (looked_at (counter tree) page p x)

abbrev pub with_link : ℕ → Node → Search → Search
with_link s page x = record x { stack = x.stack ++ remembered s (split_since s (Some page)) }

-- a page that the search is on is skipped together with its right link
abbrev pub skipping : Tree → ℕ → ℕ → Option Node → Search → Search
skipping tree p s None x = x
skipping tree p s (Some page) x = cond (is_among x.on p) x (looked_at (counter tree) page p (with_link s page x))

-- the right link is remembered with the present counter
abbrev pub with_present_counter : Tree → ℕ → ℕ → Option Node → Search → Search
with_present_counter tree p s None x = x
with_present_counter tree p s (Some page) x =
    let behind = record x { stack = x.stack ++ remembered (counter tree) (split_since s (Some page)) } in
    cond (is_among x.on p) behind (looked_at (counter tree) page p behind)

-- only children whose box covers the predicate's are visited
abbrev pub to_visit_by_cover : Predicate → ℕ → List Entry → List (ℕ × ℕ)
to_visit_by_cover predicate now [] = []
to_visit_by_cover predicate now (e ∷ es) = cond (covers e.b predicate.q) (remembered now (child_of e)) [] ++ to_visit_by_cover predicate now es

abbrev pub pruning_by_cover : Tree → ℕ → Option Node → Search → Search
pruning_by_cover tree p None x = x
pruning_by_cover tree p (Some page) x = record x { on = x.on ++ p ∷ []; stack = x.stack ++ to_visit_by_cover x.predicate (counter tree) page.entries }

-- ---- wrong percolation: from the page above alone, where the search was before

abbrev pub percolated_from_above : Tree → Search → Corners → List ℕ → List ℕ
percolated_from_above tree x b [] = []
percolated_from_above tree x b (p ∷ []) = []
percolated_from_above tree x b (p ∷ q ∷ rest) =
    cond (is_among x.on p && lets_in_from x.predicate b q (page_at tree p)) (q ∷ []) [] ++ percolated_from_above tree x b (q ∷ rest)

-- ---- trees

-- the five points with (9,1) and (9,2) on page 19, which holds too much now and is split next
abbrev pub overfull : Tree
overfull = add (add five_points (17 ∷ 19 ∷ []) (box 9 1 9 1) (pos 6) 5) (17 ∷ 19 ∷ []) (box 9 2 9 2) (pos 7) 6

abbrev pub after_split : Tree
after_split = split overfull 19 17 division.left division.right 21

-- the seven points with (0,3) on page 19
abbrev pub eight_points : Tree
eight_points = add seven_points (17 ∷ 19 ∷ []) (box 0 3 0 3) (pos 8) 7

-- a root with one page below it, and two leaves below that
abbrev pub tall : Tree
tall = record {
  root = 17;
  pages = (17, record { level = 2; ssn = 1; next = None; entries = entry_for (box 0 0 4 4) 18 ∷ [] })
      ∷ (18, record { level = 1; ssn = 1; next = None; entries = entry_for (box 0 0 1 1) 19 ∷ entry_for (box 3 3 4 4) 20 ∷ [] })
      ∷ (19, record { level = 0; ssn = 1; next = Some 20; entries = point 0 0 1 0 ∷ point 1 1 2 1 ∷ [] })
      ∷ (20, record { level = 0; ssn = 0; next = None; entries = point 3 3 3 2 ∷ point 4 4 4 3 ∷ [] })
      ∷ [];
}

-- ---- searches

-- it read the root of the five points and remembers page 19, which is split then
abbrev pub overtaken : Search
overtaken = at (meets_box 0 0 6 6) (17 ∷ []) ((19, 1) ∷ []) []

-- it has visited all and found (0,0) and (5,5)
abbrev pub finished : Search
finished = at (meets_box 0 0 6 6) (17 ∷ 19 ∷ []) [] (pos 1 ∷ pos 5 ∷ [])

-- it remembers page 19 from before the split, whose box can't hold what it looks for after it; then (0,3) makes that box grow
abbrev pub led_back : Search
led_back = at (meets_box 2 3 8 5) (17 ∷ 19 ∷ []) ((19, 1) ∷ []) []

-- it remembers page 19 from before both of its splits
abbrev pub twice_overtaken : Search
twice_overtaken = at (meets_box 0 0 10 10) (17 ∷ []) ((19, 0) ∷ []) []

abbrev pub looks_below : Search
looks_below = at (meets_box 6 6 9 9) (17 ∷ []) [] []

abbrev pub within_box : ℕ → ℕ → ℕ → ℕ → Predicate
within_box x1 y1 x2 y2 = record { test = Within; q = box x1 y1 x2 y2 }

-- ---- what each wrong step makes of them

abbrev pub linkless : Search
linkless = without_link seven_points 19 (page_at seven_points 19) (record overtaken { stack = [] })

abbrev pub exchanged : Tree
exchanged = numbers_exchanged after_split 19 21

abbrev pub skipped : Search
skipped = skipping eight_points 19 1 (page_at eight_points 19) (record led_back { stack = [] })

abbrev pub on_the_root : Search
on_the_root = at (meets_box 0 0 6 6) (17 ∷ []) [] (pos 1 ∷ [])

abbrev pub has_run : Search
has_run = at (meets_box 0 0 9 9) (17 ∷ 19 ∷ []) [] (pos 1 ∷ pos 5 ∷ [])

abbrev pub with_six : Tree
with_six = add five_points (17 ∷ 20 ∷ []) (box 5 9 5 9) (pos 6) 5

abbrev pub taller : Tree
taller = add tall (17 ∷ 18 ∷ 20 ∷ []) (box 7 7 7 7) (pos 5) 4

abbrev pub half_percolated : Search
half_percolated = record looks_below { on = looks_below.on ++ percolated_from_above tall looks_below (box 7 7 7 7) (17 ∷ 18 ∷ 20 ∷ []) }

abbrev pub too_far : Search
too_far = with_present_counter seven_points 19 0 (page_at seven_points 19) (record twice_overtaken { stack = [] })

abbrev pub pruned : Search
pruned = pruning_by_cover five_points 17 (page_at five_points 17) (at (within_box 0 0 6 6) [] [] [])

-- nothing is out of reach before the step, and something is after it
pub record Breaks (before : Tree) (x : Search) (after : Tree) (y : Search) : Type 0 where
  pub whole : LinkedForest before
  pub covered : Covered before x
  pub missed : Covered after y → ⊥

pub record WrongStepsMiss : Type 0 where
  pub right_links_ignored : Breaks seven_points overtaken seven_points linkless
  pub split_numbers_exchanged : Breaks overfull overtaken exchanged (copied_at_split 19 division.right 21 overtaken)
  pub seen_page_skipped : Breaks eight_points led_back eight_points skipped
  pub not_copied_at_split : Breaks overfull finished after_split finished
  pub not_copied_at_raise : Breaks four_points on_the_root (raise four_points 19) on_the_root
  pub no_percolation : Breaks five_points has_run with_six has_run
  pub percolation_from_above_alone : Breaks tall looks_below taller half_percolated
  pub link_with_present_counter : Breaks seven_points twice_overtaken seven_points too_far
  pub within_pruned_by_cover : Breaks five_points (at (within_box 0 0 6 6) [] ((17, 1) ∷ []) []) five_points pruned
  -- how a search comes to remember a page that it is on, and one from before both splits
  pub leads_back : let_in seven_points (17 ∷ 19 ∷ []) (box 0 3 0 3) (at (meets_box 2 3 8 5) (17 ∷ []) ((19, 1) ∷ []) []) ≡ led_back
  pub remembers_early : visit (raise four_points 19) [] 17 0 (at (meets_box 0 0 10 10) [] ((17, 0) ∷ []) []) ≡ twice_overtaken

-- ---- and what comes of it

-- the search has nothing left to visit, and lacks a row that it looks for
pub record Lacks (tree : Tree) (y : Search) (e : Entry) (key : ℤ) (number : ℕ) : Type 0 where
  pub done : y.stack ≡ []
  pub lies : IsOnLeaf tree e key number
  pub wanted : satisfies y.predicate e.b ≡ true
  pub lacking : Has y.found key → ⊥

pub record RowsMissed : Type 0 where
  pub right_links_ignored : Lacks seven_points linkless (point 5 5 5 4) (pos 5) 4
  pub split_numbers_exchanged : Lacks exchanged (visit exchanged [] 19 1 overtaken) (point 5 5 5 4) (pos 5) 4
  pub seen_page_skipped : Lacks eight_points skipped (point 5 5 5 4) (pos 5) 4
  -- the next insert on the new page isn't tested
  pub not_copied_at_split : Lacks (add after_split (17 ∷ 21 ∷ []) (box 6 6 6 6) (pos 8) 7) (let_in after_split (17 ∷ 21 ∷ []) (box 6 6 6 6) finished) (point 6 6 8 7) (pos 8) 7
  pub untested_at_split : is_tested after_split (17 ∷ 21 ∷ []) (box 6 6 6 6) finished ≡ false
  pub not_copied_at_raise : Lacks (add (raise four_points 19) (17 ∷ 19 ∷ []) (box 1 1 1 1) (pos 5) 4) (let_in (raise four_points 19) (17 ∷ 19 ∷ []) (box 1 1 1 1) on_the_root) (point 1 1 5 4) (pos 5) 4
  pub untested_at_raise : is_tested (raise four_points 19) (17 ∷ 19 ∷ []) (box 1 1 1 1) on_the_root ≡ false
  pub no_percolation : Lacks with_six has_run (point 5 9 6 5) (pos 6) 5
  pub percolation_from_above_alone : Lacks taller half_percolated (point 7 7 5 4) (pos 5) 4
  pub link_with_present_counter : Lacks seven_points (visit seven_points [] 21 2 too_far) (point 0 10 3 2) (pos 3) 2
  pub within_pruned_by_cover : Lacks five_points pruned (point 5 5 5 4) (pos 5) 4
  -- an insert that is tested and isn't stopped, though its box satisfies
  pub not_stopped : Lacks with_six (let_in five_points (17 ∷ 20 ∷ []) (box 5 9 5 9) has_run) (point 5 9 6 5) (pos 6) 5
