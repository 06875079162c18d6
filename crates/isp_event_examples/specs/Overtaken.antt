-- A split overtakes a search. Session 1 reads the root of the five points, and then session 2 adds two points, with the second of which
-- page 19 is divided: key 5 moves to page 21. The search finds it there by the right link.
use Rattle.std.specs.Prelude.{pos, List, [], ◌∷◌, ◌++◌, codes}
use Rattle.isp_reclock.specs.declared.modes.Mode.TheVariants.{IS, IX, S, X}
use Rattle.isp_plain.specs.declared.statement.Statement.TheVariants.{Insert, Begin, Commit}
use Rattle.isp_laws.specs.Examples.{division}
use Rattle.isp_events.specs.State.{State}
use Rattle.isp_events.specs.Ways.{Machine}
use Rattle.isp_events.specs.Lines.{Line, answer, traced, locked_key, locked_table, wrote_row, was_put}
use Rattle.isp_events.specs.Events.{Choice, with_child, with_divisions}
use Rattle.isp_events.specs.Runs.{Run}
use Rattle.isp_event_examples.specs.Points.{five, goes_down, line, machine_of, named_p, nothing, placed_on, point_row, points_meeting, puts_on, step, turns, visit}

abbrev pub overtaking : Machine
overtaking =
    machine_of (Begin ∷ points_meeting 0 0 6 6 ∷ Commit ∷ Insert named_p (point_row 6 9 1 ∷ point_row 7 9 2 ∷ []) ∷ [])
    ((0 ∷ []) ∷ (1 ∷ []) ∷ (2 ∷ []) ∷ []) ((3 ∷ []) ∷ []) (turns 1 3 ∷ turns 2 12 ∷ turns 1 5 ∷ [])

abbrev pub overtaking_choices : List Choice
overtaking_choices =
    nothing 3
    ++ (nothing 2 ++ (goes_down (17 ∷ 19 ∷ []) ++ puts_on 16 (18 ∷ []) ∷ []))
    ++ (nothing 1 ++ (with_child 17 ∷ with_child 19 ∷ with_divisions 0 (division ∷ []) ∷ puts_on 16 [] ∷ nothing 1))
    ++ nothing 8

abbrev pub overtaking_lines : List Line
overtaking_lines =
    line 1 1 1 (answer (codes "OK"))
    ∷ line 2 1 2 (traced (locked_table 1 IS))
    ∷ line 3 1 2 (visit 1 17 ((19, 1) ∷ []) [])
    ∷ line 4 2 1 (traced (locked_table 1 IX))
    ∷ line 5 2 1 (traced (locked_key 1 (pos 6) X))
    ∷ line 6 2 1 (step 1 17)
    ∷ line 7 2 1 (step 1 19)
    ∷ line 8 2 1 (placed_on 1 19 5 0 [] [])
    ∷ line 9 2 1 (traced (wrote_row 1 (pos 6) was_put))
    ∷ line 10 2 1 (traced (locked_key 1 (pos 7) X))
    ∷ line 11 2 1 (step 1 17)
    ∷ line 12 2 1 (step 1 19)
    ∷ line 13 2 1 (placed_on 1 19 6 0 [] ((19, 21) ∷ []))
    ∷ line 14 2 1 (traced (wrote_row 1 (pos 7) was_put))
    ∷ line 15 2 1 (answer (codes "OK 2 rows"))
    ∷ line 16 1 2 (visit 1 19 ((21, 1) ∷ []) (pos 1 ∷ []))
    ∷ line 17 1 2 (visit 1 21 [] (pos 5 ∷ []))
    ∷ line 18 1 2 (traced (locked_key 1 (pos 1) S))
    ∷ line 19 1 2 (traced (locked_key 1 (pos 5) S))
    ∷ line 20 1 2 (answer (codes "OK 2 rows (1,POINT(0 0)) (5,POINT(5 5))"))
    ∷ line 21 1 3 (answer (codes "OK"))
    ∷ line 22 2 2 (answer (codes "END"))
    ∷ line 23 1 4 (answer (codes "END"))
    ∷ []

abbrev pub SplitOvertakes : Type 0
SplitOvertakes = (left : State) × Run overtaking five overtaking_lines left
