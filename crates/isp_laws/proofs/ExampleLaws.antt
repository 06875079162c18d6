-- The examples, by computation.
use Rattle.std.proofs.Common.{◌≡◌, inl, inr, ℕ, List, [], ◌∷◌, refl, sym, subst}
use Rattle.isp_base.specs.Lists.{Has}
use Rattle.isp_forest.specs.Tree.{numbers}
use Rattle.isp_forest.specs.Walk.{LinkedForest}
use Rattle.isp_laws.specs.Examples.{four_points, five_points, seven_points, ExamplesFit, numbers_exchanged, right_link_lost, WrongSplitsMiss}
use Rattle.isp_laws.specs.SearchExamples.{SearchesFit}
use Rattle.isp_laws.proofs.CheckLaws.{forest_by_tests, links_by_tests, once_by_test}
use Rattle.isp_laws.proofs.WalkLaws.{walk_once}

four_fit : LinkedForest four_points
four_fit = record {
  forest = forest_by_tests four_points _ refl refl (once_by_test (numbers four_points.pages) refl) (λ q. refl) refl;
  links = links_by_tests four_points refl ((0, refl), tt);
}

five_fit : LinkedForest five_points
five_fit = record {
  forest = forest_by_tests five_points _ refl refl (once_by_test (numbers five_points.pages) refl) (λ q. refl) refl;
  links = links_by_tests five_points refl ((0, refl), ((1, (20, refl, refl)), ((0, refl), tt)));
}

seven_fit : LinkedForest seven_points
seven_fit = record {
  forest = forest_by_tests seven_points _ refl refl (once_by_test (numbers seven_points.pages) refl) (λ q. refl) refl;
  links = links_by_tests seven_points refl ((0, refl), ((2, (21, refl, (20, refl, refl))), ((0, refl), ((1, (20, refl, refl)), tt))));
}

pub examples_fit : ExamplesFit
examples_fit = record {
  first = four_fit;
  raising = refl;
  before = five_fit;
  after = seven_fit;
  placing = refl;
  walk_before = refl;
  walk_after = (refl, refl);
  older_before = (refl, refl);
  older_after = (refl, (refl, refl));
}

exchanged_misses : (w : List ℕ) → [] ≡ w → Has (19 ∷ w) 21 → ⊥
exchanged_misses w e h = let P : List ℕ → Type 0 = λ x. Has (19 ∷ x) 21 in elim (subst P (sym e) h) [ inl n ↦ (let n' : 19 ≡ 21 = n in cc) | inr none ↦ absurd none ]

lost_misses : (w : List ℕ) → 21 ∷ [] ≡ w → Has (19 ∷ w) 20 → ⊥
lost_misses w e h =
    let P : List ℕ → Type 0 = λ x. Has (19 ∷ x) 20 in
    elim (subst P (sym e) h) [ inl n ↦ (let n' : 19 ≡ 20 = n in cc) | inr more ↦ elim more [ inl n ↦ (let n' : 21 ≡ 20 = n in cc) | inr none ↦ absurd none ] ]

pub wrong_splits_miss : WrongSplitsMiss
wrong_splits_miss = record {
  exchanged = λ w walk h. exchanged_misses w (walk_once (numbers_exchanged seven_points 19 21) 1 19 [] w refl walk) h;
  lost = λ w walk h. lost_misses w (walk_once (right_link_lost seven_points 21) 0 19 (21 ∷ []) w (refl, refl) walk) h;
}

pub searches_fit : SearchesFit
searches_fit = record {
  begins = refl;
  root = refl;
  overtaken = refl;
  old_page = refl;
  new_page = refl;
  again = refl;
  copied = refl;
  raised = refl;
  raised_both = refl;
  percolating = refl;
  not_percolating = refl;
  let_in_there = refl;
}
