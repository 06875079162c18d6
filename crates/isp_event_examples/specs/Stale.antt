-- A path that doesn't stand. Session 1 has gone down to the root, which is a leaf, when session 2 adds the fifth point: the root is raised
-- to page 19, and that page is divided. The path is stale, and the descent begins again. A machine that used it would put a row's
-- entry beside the root's entries for pages, and the tree would be whole no more.
use Rattle.std.specs.Prelude.{◌≡◌, ℕ, pos, List, [], ◌∷◌, ◌++◌, codes, Some}
use Rattle.isp_reclock.specs.declared.modes.Mode.TheVariants.{IX, X}
use Rattle.isp_forest.specs.Forest.{Forest}
use Rattle.isp_forest.specs.Place.{place}
use Rattle.isp_laws.specs.Examples.{box, first_division, five_points, four_points}
use Rattle.isp_events.specs.Stored.{StoredTable}
use Rattle.isp_events.specs.State.{State}
use Rattle.isp_events.specs.Ways.{Machine}
use Rattle.isp_events.specs.Lines.{Line, answer, traced, found_stale, locked_key, locked_table, placed_entry, wrote_row, was_put}
use Rattle.isp_events.specs.Events.{acts, Choice, with_child, with_divisions, with_nothing, Event, MayFollow, lines_of_all}
use Rattle.isp_event_examples.specs.Points.{adding_point, five, kept_point, line, machine_of, named_p, placed_on, points_schema, puts_on, step}

abbrev pub four_rows : StoredTable
four_rows = record {
  name = named_p;
  schema = points_schema;
  leaves = record { page = 16; rows = kept_point 1 0 0 0 ∷ kept_point 2 10 0 1 ∷ kept_point 3 0 10 2 ∷ kept_point 4 10 10 3 ∷ [] } ∷ [];
  others = [];
  trees = (1, four_points) ∷ [];
}

abbrev pub four : State
four = record five { tables = four_rows ∷ []; entries = 4; bytes = 128 }

abbrev pub raising : Machine
raising = machine_of (adding_point 6 1 1 ∷ adding_point 5 5 5 ∷ []) ((0 ∷ []) ∷ []) ((1 ∷ []) ∷ []) []

abbrev pub event : ℕ → ℕ → Choice → Event
event turn s choice = record { turn = turn; actor = acts s; choice = choice }

abbrev pub before_raise : List Event
before_raise =
    event 1 1 with_nothing ∷ event 2 1 with_nothing ∷ event 3 1 (with_child 17)
    ∷ event 4 2 with_nothing ∷ event 5 2 with_nothing ∷ event 6 2 (with_child 17) ∷ []

abbrev pub the_raise : Event
the_raise = event 7 2 (with_divisions 19 (first_division ∷ []))

abbrev pub behind_raise : List Event
behind_raise =
    event 8 2 (puts_on 16 (18 ∷ [])) ∷ event 9 2 with_nothing
    ∷ event 10 1 with_nothing ∷ event 11 1 (with_child 17) ∷ event 12 1 (with_child 19) ∷ event 13 1 (with_divisions 0 [])
    ∷ event 14 1 (puts_on 16 (18 ∷ [])) ∷ event 15 1 with_nothing ∷ []

abbrev pub raising_lines : List Line
raising_lines =
    line 1 1 1 (traced (locked_table 1 IX))
    ∷ line 2 1 1 (traced (locked_key 1 (pos 6) X))
    ∷ line 3 1 1 (step 1 17)
    ∷ line 4 2 1 (traced (locked_table 1 IX))
    ∷ line 5 2 1 (traced (locked_key 1 (pos 5) X))
    ∷ line 6 2 1 (step 1 17)
    ∷ line 7 2 1 (traced (placed_entry (record { table = 1; column = 1; leaf = 17; number = 4; tested = 0; percolated = []; parted = (19, 20) ∷ []; raised = Some 19 })))
    ∷ line 8 2 1 (traced (wrote_row 1 (pos 5) was_put))
    ∷ line 9 2 1 (answer (codes "OK 1 rows"))
    ∷ line 10 1 1 (traced (found_stale 1 1))
    ∷ line 11 1 1 (step 1 17)
    ∷ line 12 1 1 (step 1 19)
    ∷ line 13 1 1 (placed_on 1 19 5 0 [] [])
    ∷ line 14 1 1 (traced (wrote_row 1 (pos 6) was_put))
    ∷ line 15 1 1 (answer (codes "OK 1 rows"))
    ∷ []

pub record StaleFits : Type 0 where
  pub happen : MayFollow raising 1 15 four (before_raise ++ the_raise ∷ behind_raise)
  pub told : lines_of_all raising four (before_raise ++ the_raise ∷ behind_raise) ≡ raising_lines
  -- the tree after the stale path was used
  pub used : Forest (place five_points (17 ∷ []) (box 1 1 1 1) (pos 6) 5 0 []) → ⊥
