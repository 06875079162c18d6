-- The measures of the run, by computation.
use Rattle.std.proofs.Common.{◌≡◌, inl, inr, refl, ℕ, ◌==◌, ◌&&◌, ◌||◌, Bool, true, false, List, [], ◌∷◌, eqb-true}
use Rattle.std.specs.Prelude.{nat_lt}
use Rattle.std.proofs.lemmas.Bool.{and_parts, false≢true}
use Rattle.std.specs.Fmt.{digits}
use Rattle.isp_waits.specs.Levels.{reaches, walk}
use Rattle.isp_geom.specs.Bounds.{points_of}
use Rattle.isp_geom.specs.Spelling.{spelling}
use Rattle.isp_wkt.specs.Printed.{printed}
use Rattle.isp_wkt.specs.Words.{word}
use Rattle.isp_plain.specs.Texts.{deadlock_text, end_text, full_text, ok_text}
use Rattle.isp_plain.specs.Refusals.{state, words}
use Rattle.isp_events.specs.Next.{next}
use Rattle.isp_events.specs.Events.{after_all, lines_of_all}
use Rattle.isp_event_laws.proofs.ListTests.{below}
use Rattle.isp_event_laws.proofs.EventTests.{follow_by_test, follow_test}
use Rattle.isp_measure.specs.Order.{IsLower}
use Rattle.isp_event_examples.specs.Points.{five}
use Rattle.isp_event_examples.specs.Overtaken.{overtaking, overtaking_lines}
use Rattle.isp_measure_examples.specs.Falling.{AllFall, OvertakingFalls, measures_along, overtaking_events, overtaking_measures}

good : follow_test overtaking 1 23 five overtaking_events ≡ true
unfolding next points_of spelling reaches walk
good = refl

told : lines_of_all overtaking five overtaking_events ≡ overtaking_lines
unfolding next points_of spelling printed word digits ok_text end_text state words full_text deadlock_text
told = refl

numbers : measures_along overtaking five overtaking_events ≡ overtaking_measures
unfolding next points_of spelling
numbers = refl

-- ---- lists that fall, by a test

abbrev lower_test : List ℕ → List ℕ → Bool
lower_test [] ys = false
lower_test (x ∷ xs) [] = false
lower_test (x ∷ xs) (y ∷ ys) = nat_lt x y || ((x == y) && lower_test xs ys)

lower_by_test : (xs ys : List ℕ) → lower_test xs ys ≡ true → IsLower xs ys
lower_by_test [] ys h = absurd (false≢true h)
lower_by_test (x ∷ xs) [] h = absurd (false≢true h)
lower_by_test (x ∷ xs) (y ∷ ys) h = by_first (nat_lt x y) refl h (lower_by_test xs ys)
  where
    by_first : (b : Bool) → nat_lt x y ≡ b → (b || ((x == y) && lower_test xs ys)) ≡ true → (lower_test xs ys ≡ true → IsLower xs ys) → IsLower (x ∷ xs) (y ∷ ys)
    by_first true e k again = inl (below x y e)
    by_first false e k again =
        let parts : ((x == y) ≡ true) × (lower_test xs ys ≡ true) = and_parts (x == y) (lower_test xs ys) k in
        inr (eqb-true x y parts.0, again parts.1)

abbrev falling_test : List (List ℕ) → Bool
falling_test [] = true
falling_test (xs ∷ []) = true
falling_test (xs ∷ ys ∷ rest) = lower_test ys xs && falling_test (ys ∷ rest)

falling_by_test : (all : List (List ℕ)) → falling_test all ≡ true → AllFall all
falling_by_test [] h = tt
falling_by_test (xs ∷ []) h = tt
falling_by_test (xs ∷ ys ∷ rest) h =
    let parts : (lower_test ys xs ≡ true) × (falling_test (ys ∷ rest) ≡ true) = and_parts (lower_test ys xs) (falling_test (ys ∷ rest)) h in
    (lower_by_test ys xs parts.0, falling_by_test (ys ∷ rest) parts.1)

pub overtaking_falls : OvertakingFalls
overtaking_falls = record {
  left = after_all overtaking five overtaking_events;
  run = record { events = overtaking_events; happen = follow_by_test overtaking 1 23 five overtaking_events good; told = told; ends = refl };
  events = refl;
  numbers = numbers;
  falls = falling_by_test overtaking_measures refl;
}
