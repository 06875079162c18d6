-- A path that doesn't stand, by computation.
use Rattle.std.proofs.Common.{◌≡◌, refl, inl, inr, pos, true, false, [], ◌∷◌, ◌++◌, arith}
use Rattle.std.specs.Fmt.{digits}
use Rattle.isp_waits.specs.Levels.{reaches, walk}
use Rattle.isp_geom.specs.Bounds.{points_of}
use Rattle.isp_geom.specs.Spelling.{spelling}
use Rattle.isp_wkt.specs.Printed.{printed}
use Rattle.isp_wkt.specs.Words.{word}
use Rattle.isp_plain.specs.Texts.{ok_text}
use Rattle.isp_forest.specs.Forest.{Forest, IsPage}
use Rattle.isp_forest.specs.Place.{place}
use Rattle.isp_laws.specs.Examples.{box, five_points}
use Rattle.isp_events.specs.State.{State}
use Rattle.isp_events.specs.Next.{next}
use Rattle.isp_events.specs.Events.{MayFollow, MayHappen, after_all, lines_of_all}
use Rattle.isp_event_laws.proofs.EventTests.{follow_by_test}
use Rattle.isp_event_laws.proofs.RunLaws.{follow_append}
use Rattle.isp_event_examples.specs.Stale.{StaleFits, before_raise, behind_raise, four, raising, raising_lines, the_raise}

abbrev at_raise : State
at_raise = after_all raising four before_raise

up_to_raise : MayFollow raising 1 6 four before_raise
unfolding next points_of spelling reaches walk
up_to_raise = follow_by_test raising 1 6 four before_raise refl

raise_happens : MayHappen raising at_raise the_raise.actor the_raise.choice
unfolding next points_of spelling
raise_happens = record {
  alone = refl;
  can = (
    refl,
    record {
      page = _;
      there = refl;
      entry = _;
      named = record { page = _; there = refl; has = inl refl; to = refl };
      parts = record {
        all = record { moves = (3, 4) ∷ (2, 4) ∷ []; below = (omega arith, omega arith, (omega arith, omega arith, tt)); is = refl };
        left_some = omega arith;
        right_some = omega arith;
        left_two = λ inner. omega arith;
        right_two = λ inner. omega arith;
      };
      free = refl;
    },
    refl,
  );
  divides = (omega arith, (omega arith, omega arith), refl);
  free = refl;
}

behind : MayFollow raising 7 15 (after_all raising at_raise (the_raise ∷ [])) behind_raise
unfolding next points_of spelling reaches walk
behind = follow_by_test raising 7 15 (after_all raising at_raise (the_raise ∷ [])) behind_raise refl

all_follow : MayFollow raising 1 15 four (before_raise ++ the_raise ∷ behind_raise)
all_follow = follow_append raising 1 6 15 four before_raise (the_raise ∷ behind_raise) up_to_raise (omega arith, raise_happens, behind)

all_told : lines_of_all raising four (before_raise ++ the_raise ∷ behind_raise) ≡ raising_lines
unfolding next points_of spelling printed word digits ok_text
all_told = refl

used_stale : Forest (place five_points (17 ∷ []) (box 1 1 1 1) (pos 6) 5 0 []) → ⊥
used_stale f =
    let is : IsPage (place five_points (17 ∷ []) (box 1 1 1 1) (pos 6) 5 0 []) 17 _ = f.each 17 _ refl in
    let kind : true ≡ false = is.kinds _ (inr (inr (inl refl))) in cc

pub stale_fits : StaleFits
stale_fits = record { happen = all_follow; told = all_told; used = used_stale }
