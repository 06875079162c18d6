-- Percolation makes an insert wait. Session 1 has searched for what meets the box to (9,9), and found nothing on page 20, whose box
-- doesn't meet it. A point at (5,9) would let the page's box grow into what was searched for: the search percolates to the page, and
-- the insert of session 2 waits until session 1 has ended, which finds the same rows a second time.
use Rattle.std.specs.Prelude.{pos, List, [], ◌∷◌, ◌++◌, codes}
use Rattle.isp_reclock.specs.declared.modes.Mode.TheVariants.{IS, IX, S, X}
use Rattle.isp_plain.specs.declared.statement.Statement.TheVariants.{Begin, Commit}
use Rattle.isp_laws.specs.Examples.{box}
use Rattle.isp_laws.specs.SearchExamples.{meets_box}
use Rattle.isp_events.specs.State.{State}
use Rattle.isp_events.specs.Ways.{Machine}
use Rattle.isp_events.specs.Lines.{Line, answer, traced, locked_key, locked_table, waits_to_insert, wrote_row, was_put}
use Rattle.isp_events.specs.Events.{Choice, with_child, with_deadlocks, with_divisions}
use Rattle.isp_events.specs.Runs.{Run}
use Rattle.isp_event_examples.specs.Points.{adding_point, five, line, machine_of, nothing, placed_on, points_meeting, puts_on, step, turns, visit}

abbrev pub percolating : Machine
percolating =
    machine_of (Begin ∷ points_meeting 0 0 9 9 ∷ Commit ∷ adding_point 6 5 9 ∷ [])
    ((0 ∷ []) ∷ (1 ∷ []) ∷ (1 ∷ []) ∷ (2 ∷ []) ∷ []) ((3 ∷ []) ∷ []) (turns 1 7 ∷ turns 2 5 ∷ turns 1 7 ∷ turns 2 3 ∷ [])

abbrev pub percolating_choices : List Choice
percolating_choices =
    nothing 7
    ++ (nothing 2 ++ (with_child 17 ∷ with_child 20 ∷ with_deadlocks [] ∷ []))
    ++ nothing 7
    ++ (with_divisions 0 [] ∷ puts_on 16 (18 ∷ []) ∷ nothing 3)

abbrev pub percolating_lines : List Line
percolating_lines =
    line 1 1 1 (answer (codes "OK"))
    ∷ line 2 1 2 (traced (locked_table 1 IS))
    ∷ line 3 1 2 (visit 1 17 ((19, 1) ∷ []) [])
    ∷ line 4 1 2 (visit 1 19 [] (pos 1 ∷ pos 5 ∷ []))
    ∷ line 5 1 2 (traced (locked_key 1 (pos 1) S))
    ∷ line 6 1 2 (traced (locked_key 1 (pos 5) S))
    ∷ line 7 1 2 (answer (codes "OK 2 rows (1,POINT(0 0)) (5,POINT(5 5))"))
    ∷ line 8 2 1 (traced (locked_table 1 IX))
    ∷ line 9 2 1 (traced (locked_key 1 (pos 6) X))
    ∷ line 10 2 1 (step 1 17)
    ∷ line 11 2 1 (step 1 20)
    ∷ line 12 2 1 (waits_to_insert 1 1 (box 5 9 5 9) 20 (record { session = 1; predicate = meets_box 0 0 9 9 } ∷ []))
    ∷ line 13 1 3 (traced (locked_table 1 IS))
    ∷ line 14 1 3 (visit 1 17 ((19, 1) ∷ []) [])
    ∷ line 15 1 3 (visit 1 19 [] (pos 1 ∷ pos 5 ∷ []))
    ∷ line 16 1 3 (traced (locked_key 1 (pos 1) S))
    ∷ line 17 1 3 (traced (locked_key 1 (pos 5) S))
    ∷ line 18 1 3 (answer (codes "OK 2 rows (1,POINT(0 0)) (5,POINT(5 5))"))
    ∷ line 19 1 4 (answer (codes "OK"))
    ∷ line 20 2 1 (placed_on 1 20 5 0 [] [])
    ∷ line 21 2 1 (traced (wrote_row 1 (pos 6) was_put))
    ∷ line 22 2 1 (answer (codes "OK 1 rows"))
    ∷ line 23 1 5 (answer (codes "END"))
    ∷ line 24 2 2 (answer (codes "END"))
    ∷ []

abbrev pub PercolationStops : Type 0
PercolationStops = (left : State) × Run percolating five percolating_lines left
