-- The nine wrong steps, the whole runs and the tests of inserts, by computation.
use Rattle.std.proofs.Common.{◌≡◌, inl, inr, ℤ, pos, false, List, [], ◌∷◌, map, refl}
use Rattle.std.specs.Prelude.{unsigned_abs}
use Rattle.isp_base.specs.Lists.{Has}
use Rattle.isp_forest.specs.Tree.{numbers}
use Rattle.isp_forest.specs.Walk.{LinkedForest}
use Rattle.isp_forest.specs.Steps.{is_among}
use Rattle.isp_forest.specs.Visit.{visit}
use Rattle.isp_laws.proofs.ListLaws.{Has-map_of}
use Rattle.isp_laws.specs.Examples.{four_points, five_points, seven_points}
use Rattle.isp_laws.proofs.CheckLaws.{forest_by_tests, links_by_tests, once_by_test}
use Rattle.isp_laws.proofs.ExampleLaws.{examples_fit}
use Rattle.isp_searches.specs.WrongSteps.{overfull, eight_points, tall, overtaken, finished, linkless, exchanged, skipped, on_the_root, has_run, half_percolated, too_far, pruned, WrongStepsMiss, RowsMissed}
use Rattle.isp_searches.specs.WholeRuns.{RunsFit, TestsFit}
use Rattle.isp_searches.proofs.CoveredByTests.{covered_done, covered_one, missed_done, missed_one}
use Rattle.isp_searches.proofs.SeesLaws.{has_among, not_both}

overfull_fit : LinkedForest overfull
overfull_fit = record {
  forest = forest_by_tests overfull _ refl refl (once_by_test (numbers overfull.pages) refl) (λ q. refl) refl;
  links = links_by_tests overfull refl ((0, refl), ((1, (20, refl, refl)), ((0, refl), tt)));
}

eight_fit : LinkedForest eight_points
eight_fit = record {
  forest = forest_by_tests eight_points _ refl refl (once_by_test (numbers eight_points.pages) refl) (λ q. refl) refl;
  links = links_by_tests eight_points refl ((0, refl), ((2, (21, refl, (20, refl, refl))), ((0, refl), ((1, (20, refl, refl)), tt))));
}

tall_fit : LinkedForest tall
tall_fit = record {
  forest = forest_by_tests tall _ refl refl (once_by_test (numbers tall.pages) refl) (λ q. refl) refl;
  links = links_by_tests tall refl ((0, refl), ((0, refl), ((1, (20, refl, refl)), ((0, refl), tt))));
}

pub wrong_steps_miss : WrongStepsMiss
wrong_steps_miss = record {
  right_links_ignored = record {
    whole = examples_fit.after;
    covered = covered_one seven_points _ 19 1 (21 ∷ []) _ refl refl refl (refl, refl) refl refl;
    missed = missed_done _ _ 17 21 refl refl refl refl;
  };
  split_numbers_exchanged = record {
    whole = overfull_fit;
    covered = covered_one overfull _ 19 1 [] _ refl refl refl refl refl refl;
    missed = missed_one _ _ 17 21 19 1 [] refl refl refl refl refl refl;
  };
  seen_page_skipped = record {
    whole = eight_fit;
    covered = covered_one eight_points _ 19 1 (21 ∷ []) _ refl refl refl (refl, refl) refl refl;
    missed = missed_done _ _ 17 21 refl refl refl refl;
  };
  not_copied_at_split = record {
    whole = overfull_fit;
    covered = covered_done overfull _ refl refl refl;
    missed = missed_done _ _ 17 21 refl refl refl refl;
  };
  not_copied_at_raise = record {
    whole = examples_fit.first;
    covered = covered_done four_points _ refl refl refl;
    missed = missed_done _ _ 17 19 refl refl refl refl;
  };
  no_percolation = record {
    whole = examples_fit.before;
    covered = covered_done five_points _ refl refl refl;
    missed = missed_done _ _ 17 20 refl refl refl refl;
  };
  percolation_from_above_alone = record {
    whole = tall_fit;
    covered = covered_done tall _ refl refl refl;
    missed = missed_done _ _ 18 20 refl refl refl refl;
  };
  link_with_present_counter = record {
    whole = examples_fit.after;
    covered = covered_one seven_points _ 19 0 (21 ∷ 20 ∷ []) _ refl refl refl (refl, (refl, refl)) refl refl;
    missed = missed_one _ _ 17 20 21 2 [] refl refl refl refl refl refl;
  };
  within_pruned_by_cover = record {
    whole = examples_fit.before;
    covered = covered_one five_points _ 17 1 [] _ refl refl refl refl refl refl;
    missed = missed_done _ _ 17 19 refl refl refl refl;
  };
  leads_back = refl;
  remembers_early = refl;
}

-- a key that isn't found, by the test of its absolute value
lacking : (k : ℤ) (ks : List ℤ) → is_among (map unsigned_abs ks) (unsigned_abs k) ≡ false → Has ks k → ⊥
lacking k ks test h = not_both (is_among (map unsigned_abs ks) (unsigned_abs k)) (has_among (map unsigned_abs ks) (unsigned_abs k) (Has-map_of unsigned_abs ks k h)) test

pub rows_missed : RowsMissed
rows_missed = record {
  right_links_ignored = record { done = refl; lies = record { p = 21; leaf = _; there = refl; level = refl; has = inl refl; to = refl }; wanted = refl; lacking = lacking (pos 5) (linkless.found) refl };
  split_numbers_exchanged = record { done = refl; lies = record { p = 21; leaf = _; there = refl; level = refl; has = inl refl; to = refl }; wanted = refl; lacking = lacking (pos 5) ((visit exchanged [] 19 1 overtaken).found) refl };
  seen_page_skipped = record { done = refl; lies = record { p = 21; leaf = _; there = refl; level = refl; has = inl refl; to = refl }; wanted = refl; lacking = lacking (pos 5) (skipped.found) refl };
  not_copied_at_split = record { done = refl; lies = record { p = 21; leaf = _; there = refl; level = refl; has = inr (inr (inr (inl refl))); to = refl }; wanted = refl; lacking = lacking (pos 8) (finished.found) refl };
  untested_at_split = refl;
  not_copied_at_raise = record { done = refl; lies = record { p = 19; leaf = _; there = refl; level = refl; has = inr (inr (inr (inr (inl refl)))); to = refl }; wanted = refl; lacking = lacking (pos 5) (on_the_root.found) refl };
  untested_at_raise = refl;
  no_percolation = record { done = refl; lies = record { p = 20; leaf = _; there = refl; level = refl; has = inr (inr (inl refl)); to = refl }; wanted = refl; lacking = lacking (pos 6) (has_run.found) refl };
  percolation_from_above_alone = record { done = refl; lies = record { p = 20; leaf = _; there = refl; level = refl; has = inr (inr (inl refl)); to = refl }; wanted = refl; lacking = lacking (pos 5) (half_percolated.found) refl };
  link_with_present_counter = record { done = refl; lies = record { p = 20; leaf = _; there = refl; level = refl; has = inl refl; to = refl }; wanted = refl; lacking = lacking (pos 3) ((visit seven_points [] 21 2 too_far).found) refl };
  within_pruned_by_cover = record { done = refl; lies = record { p = 19; leaf = _; there = refl; level = refl; has = inr (inr (inl refl)); to = refl }; wanted = refl; lacking = lacking (pos 5) (pruned.found) refl };
  not_stopped = record { done = refl; lies = record { p = 20; leaf = _; there = refl; level = refl; has = inr (inr (inl refl)); to = refl }; wanted = refl; lacking = lacking (pos 6) has_run.found refl };
}

pub runs_fit : RunsFit
runs_fit = record {
  meeting = (_, record { rest = []; p = 17; s = 1; stack = refl; is = refl }, (_, record { rest = []; p = 19; s = 1; stack = refl; is = refl }, refl));
  within = (_, record { rest = []; p = 17; s = 1; stack = refl; is = refl }, (_, record { rest = []; p = 19; s = 1; stack = refl; is = refl }, refl));
  apart = (
    _,
    record { rest = []; p = 17; s = 1; stack = refl; is = refl },
    (_, record { rest = (19, 1) ∷ []; p = 20; s = 1; stack = refl; is = refl }, (_, record { rest = []; p = 19; s = 1; stack = refl; is = refl }, refl)),
  );
  all = (
    _,
    record { rest = []; p = 17; s = 1; stack = refl; is = refl },
    (_, record { rest = (19, 1) ∷ []; p = 20; s = 1; stack = refl; is = refl }, (_, record { rest = []; p = 19; s = 1; stack = refl; is = refl }, refl)),
  );
}

pub tests_fit : TestsFit
tests_fit = record {
  on_leaf = refl;
  stopped_there = refl;
  percolates = refl;
  stopped = refl;
  percolates_too = refl;
  placed = refl;
  attached_there = refl;
  untested = refl;
  raising = refl;
}
