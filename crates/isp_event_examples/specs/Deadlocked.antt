-- A deadlock. Each of two sessions has searched where the other one wants to add a point. Session 1 waits for session 2, and as session 2
-- would wait for session 1, it is the victim: it is rolled back, and its next statement is answered on what session 1 left.
use Rattle.std.specs.Prelude.{◌≡◌, ℕ, pos, List, [], ◌∷◌, ◌++◌, codes, slice_set, take}
use Rattle.isp_reclock.specs.declared.modes.Mode.TheVariants.{IS, IX, S, X}
use Rattle.isp_plain.specs.declared.statement.Statement.TheVariants.{Select, Begin, Commit}
use Rattle.isp_laws.specs.Examples.{box}
use Rattle.isp_laws.specs.SearchExamples.{meets_box}
use Rattle.isp_events.specs.State.{State, no_waits}
use Rattle.isp_events.specs.Ways.{Machine}
use Rattle.isp_events.specs.Lines.{Line, answer, deadlock, edges_of, traced, locked_key, locked_table, waits_to_insert, wrote_row, was_put}
use Rattle.isp_events.specs.Events.{Choice, with_child, with_deadlocks, with_divisions}
use Rattle.isp_events.specs.Runs.{Run}
use Rattle.isp_event_examples.specs.Language.{with_key}
use Rattle.isp_event_examples.specs.Points.{adding_point, five, line, machine_of, named_p, nothing, placed_on, points_meeting, puts_on, step, turns, visit}

abbrev pub deadlocking : Machine
deadlocking =
    machine_of (Begin ∷ points_meeting 0 0 9 9 ∷ adding_point 6 3 10 ∷ Commit ∷ points_meeting 0 10 10 10 ∷ adding_point 7 1 1 ∷ Select named_p (0 ∷ 1 ∷ []) (with_key 7) ∷ [])
    ((0 ∷ []) ∷ (1 ∷ []) ∷ (2 ∷ []) ∷ (3 ∷ []) ∷ []) ((0 ∷ []) ∷ (4 ∷ []) ∷ (5 ∷ []) ∷ (6 ∷ []) ∷ [])
    (turns 1 7 ∷ turns 2 7 ∷ turns 1 5 ∷ turns 2 6 ∷ turns 1 3 ∷ [])

abbrev pub deadlocking_choices : List Choice
deadlocking_choices =
    nothing 7
    ++ nothing 7
    ++ (nothing 2 ++ (with_child 17 ∷ with_child 20 ∷ with_deadlocks [] ∷ []))
    ++ (nothing 2 ++ (with_child 17 ∷ with_child 19 ∷ with_deadlocks (record { members = 2 ∷ 1 ∷ []; victim = 2 } ∷ []) ∷ nothing 1))
    ++ (with_divisions 0 [] ∷ puts_on 16 (18 ∷ []) ∷ nothing 1)
    ++ nothing 6

abbrev pub deadlocking_lines : List Line
deadlocking_lines =
    line 1 1 1 (answer (codes "OK"))
    ∷ line 2 1 2 (traced (locked_table 1 IS))
    ∷ line 3 1 2 (visit 1 17 ((19, 1) ∷ []) [])
    ∷ line 4 1 2 (visit 1 19 [] (pos 1 ∷ pos 5 ∷ []))
    ∷ line 5 1 2 (traced (locked_key 1 (pos 1) S))
    ∷ line 6 1 2 (traced (locked_key 1 (pos 5) S))
    ∷ line 7 1 2 (answer (codes "OK 2 rows (1,POINT(0 0)) (5,POINT(5 5))"))
    ∷ line 8 2 1 (answer (codes "OK"))
    ∷ line 9 2 2 (traced (locked_table 1 IS))
    ∷ line 10 2 2 (visit 1 17 ((20, 1) ∷ []) [])
    ∷ line 11 2 2 (visit 1 20 [] (pos 3 ∷ pos 4 ∷ []))
    ∷ line 12 2 2 (traced (locked_key 1 (pos 3) S))
    ∷ line 13 2 2 (traced (locked_key 1 (pos 4) S))
    ∷ line 14 2 2 (answer (codes "OK 2 rows (3,POINT(0 10)) (4,POINT(10 10))"))
    ∷ line 15 1 3 (traced (locked_table 1 IX))
    ∷ line 16 1 3 (traced (locked_key 1 (pos 6) X))
    ∷ line 17 1 3 (step 1 17)
    ∷ line 18 1 3 (step 1 20)
    ∷ line 19 1 3 (waits_to_insert 1 1 (box 3 10 3 10) 20 (record { session = 2; predicate = meets_box 0 10 10 10 } ∷ []))
    ∷ line 20 2 3 (traced (locked_table 1 IX))
    ∷ line 21 2 3 (traced (locked_key 1 (pos 7) X))
    ∷ line 22 2 3 (step 1 17)
    ∷ line 23 2 3 (step 1 19)
    ∷ line 24 2 3 (waits_to_insert 1 1 (box 1 1 1 1) 19 (record { session = 1; predicate = meets_box 0 0 9 9 } ∷ []))
    ∷ line 24 2 3 (deadlock (2 ∷ 1 ∷ []) 2)
    ∷ line 25 2 3 (answer (codes "ERR 1213 40001 Deadlock found when trying to get lock; try restarting transaction"))
    ∷ line 26 1 3 (placed_on 1 20 5 0 [] [])
    ∷ line 27 1 3 (traced (wrote_row 1 (pos 6) was_put))
    ∷ line 28 1 3 (answer (codes "OK 1 rows"))
    ∷ line 29 1 4 (answer (codes "OK"))
    ∷ line 30 2 4 (traced (locked_table 1 IS))
    ∷ line 31 1 5 (answer (codes "END"))
    ∷ line 32 2 4 (traced (locked_key 1 (pos 7) S))
    ∷ line 33 2 4 (answer (codes "OK 0 rows"))
    ∷ line 34 2 5 (answer (codes "END"))
    ∷ []

-- who waits for whom, as the first lines tell
abbrev pub waits_told : ℕ → List (List ℕ)
waits_told n = edges_of deadlocking.script deadlocking.language (take n deadlocking_lines)

pub record DeadlockFits : Type 0 where
  pub run : (left : State) × Run deadlocking five deadlocking_lines left
  pub before : waits_told 18 ≡ no_waits
  pub one_waits : waits_told 19 ≡ slice_set no_waits 1 (2 ∷ [])
  pub both_wait : waits_told 24 ≡ slice_set (slice_set no_waits 1 (2 ∷ [])) 2 (1 ∷ [])
  pub victim_gives_way : waits_told 25 ≡ slice_set no_waits 1 (2 ∷ [])
  pub after_its_answer : waits_told 26 ≡ no_waits
