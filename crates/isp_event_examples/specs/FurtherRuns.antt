-- Further runs, by the lines that are printed without a trace: a list of the locks, a victim that isn't the asker, a duplicate key that is
-- undone, a scan that makes another session wait, and a file that is full, with the setup that makes its table.
use Rattle.std.specs.Prelude.{◌≡◌, true, false, ℕ, pos, List, [], ◌∷◌, ◌++◌, codes, replicate}
use Rattle.isp_reclock.specs.declared.modes.Mode.TheVariants.{IS, IX, S}
use Rattle.isp_plain.specs.declared.statement.Statement.{Statement}
use Rattle.isp_plain.specs.declared.statement.Statement.TheVariants.{Create, Insert, Select, Delete, Begin, Commit}
use Rattle.isp_serial.specs.declared.script.Word.TheVariants as word
use Rattle.isp_laws.specs.Examples.{box, point}
use Rattle.isp_laws.specs.SearchExamples.{meets_box}
use Rattle.isp_events.specs.Sessions.{fresh}
use Rattle.isp_events.specs.State.{State}
use Rattle.isp_events.specs.Ways.{Machine}
use Rattle.isp_events.specs.Lines.{Line, answer, deadlock, listed_key, listed_predicate, listed_table, lock_list, of_locks, untraced, waits_for_table, waits_to_insert}
use Rattle.isp_events.specs.Events.{Choice, with_blockers, with_child, with_deadlocks, with_divisions, with_nothing, with_roots, with_undo_pages}
use Rattle.isp_events.specs.Runs.{Run}
use Rattle.isp_event_examples.specs.Language.{any_row, by_first_atom, numbered, with_key}
use Rattle.isp_event_examples.specs.Points.{adding_point, five, goes_down, line, machine_of, named_p, nothing, point_row, points_meeting, points_schema, puts_on, session_of, turns}

-- a run that prints these lines without a trace
abbrev pub Prints : Machine → State → List Line → Type 0
Prints m start printed = (lines : List Line) × (left : State) × Run m start lines left × (untraced lines ≡ printed)

abbrev pub all_points : Statement
all_points = Select named_p (0 ∷ 1 ∷ []) any_row

-- ---- the locks, with the pages that a search is on

abbrev pub listing : Machine
listing =
    machine_of (Begin ∷ points_meeting 0 0 9 9 ∷ Commit ∷ adding_point 6 10 9 ∷ []) ((0 ∷ []) ∷ (1 ∷ []) ∷ (2 ∷ []) ∷ []) ((3 ∷ []) ∷ [])
    (turns 1 7 ∷ turns 2 7 ∷ word.Locks ∷ [])

abbrev pub listing_choices : List Choice
listing_choices = nothing 7 ++ (nothing 2 ++ (goes_down (17 ∷ 20 ∷ []) ++ puts_on 16 (18 ∷ []) ∷ nothing 1)) ++ nothing 4

abbrev pub listing_lines : List Line
listing_lines =
    line 1 1 1 (answer (codes "OK"))
    ∷ line 7 1 2 (answer (codes "OK 2 rows (1,POINT(0 0)) (5,POINT(5 5))"))
    ∷ line 14 2 1 (answer (codes "OK 1 rows"))
    ∷ record {
      turn = 15;
      whose = of_locks;
      told = lock_list (listed_table 1 1 IS ∷ listed_key 1 1 (pos 1) S ∷ listed_key 1 1 (pos 5) S ∷ listed_predicate 1 1 1 (meets_box 0 0 9 9) (17 ∷ 19 ∷ 20 ∷ []) ∷ []);
    }
    ∷ line 16 1 3 (answer (codes "OK"))
    ∷ line 17 2 2 (answer (codes "END"))
    ∷ line 18 1 4 (answer (codes "END"))
    ∷ []

-- ---- the victim has written nothing, and isn't the asker

abbrev pub giving_way : Machine
giving_way =
    machine_of (Begin ∷ points_meeting 0 0 9 9 ∷ adding_point 6 3 10 ∷ Commit ∷ points_meeting 0 10 10 10 ∷ adding_point 7 1 1 ∷ adding_point 9 50 50 ∷ [])
    ((0 ∷ []) ∷ (1 ∷ []) ∷ (2 ∷ []) ∷ []) ((0 ∷ []) ∷ (4 ∷ []) ∷ (6 ∷ []) ∷ (5 ∷ []) ∷ (3 ∷ []) ∷ [])
    (turns 1 7 ∷ turns 2 14 ∷ turns 1 5 ∷ turns 2 5 ∷ turns 1 1 ∷ turns 2 3 ∷ [])

abbrev pub giving_way_choices : List Choice
giving_way_choices =
    nothing 14
    ++ (nothing 2 ++ (goes_down (17 ∷ 20 ∷ []) ++ puts_on 16 (18 ∷ []) ∷ nothing 1))
    ++ (nothing 2 ++ (with_child 17 ∷ with_child 20 ∷ with_deadlocks [] ∷ []))
    ++ (nothing 2 ++ (with_child 17 ∷ with_child 19 ∷ with_deadlocks (record { members = 2 ∷ 1 ∷ []; victim = 1 } ∷ []) ∷ []))
    ++ (with_nothing ∷ with_divisions 0 [] ∷ puts_on 16 [] ∷ nothing 4)

abbrev pub giving_way_lines : List Line
giving_way_lines =
    line 1 1 1 (answer (codes "OK"))
    ∷ line 7 1 2 (answer (codes "OK 2 rows (1,POINT(0 0)) (5,POINT(5 5))"))
    ∷ line 8 2 1 (answer (codes "OK"))
    ∷ line 14 2 2 (answer (codes "OK 2 rows (3,POINT(0 10)) (4,POINT(10 10))"))
    ∷ line 21 2 3 (answer (codes "OK 1 rows"))
    ∷ line 26 1 3 (waits_to_insert 1 1 (box 3 10 3 10) 20 (record { session = 2; predicate = meets_box 0 10 10 10 } ∷ []))
    ∷ line 31 2 4 (waits_to_insert 1 1 (box 1 1 1 1) 19 (record { session = 1; predicate = meets_box 0 0 9 9 } ∷ []))
    ∷ line 31 2 4 (deadlock (2 ∷ 1 ∷ []) 1)
    ∷ line 32 1 3 (answer (codes "ERR 1213 40001 Deadlock found when trying to get lock; try restarting transaction"))
    ∷ line 35 2 4 (answer (codes "OK 1 rows"))
    ∷ line 36 1 4 (answer (codes "END"))
    ∷ line 37 2 5 (answer (codes "OK"))
    ∷ line 38 2 6 (answer (codes "END"))
    ∷ []

-- ---- a duplicate key; the statement's first row is undone, and its entry and row are purged in the end

abbrev pub one_session : List Statement → List (List ℕ) → List (List ℕ) → Machine
one_session statements setup texts = record {
  script = record { setup = setup; sessions = session_of 1 texts ∷ []; words = []; stop = false };
  language = numbered statements;
  ways = by_first_atom;
}

abbrev pub five_alone : State
five_alone = record five { sessions = fresh true ∷ fresh false ∷ replicate 15 (fresh true) }

abbrev pub doubling : Machine
doubling =
    one_session (Begin ∷ Insert named_p (point_row 6 9 1 ∷ point_row 1 9 2 ∷ []) ∷ Select named_p (0 ∷ 1 ∷ []) (with_key 6) ∷ Commit ∷ []) []
    ((0 ∷ []) ∷ (1 ∷ []) ∷ (2 ∷ []) ∷ (3 ∷ []) ∷ [])

abbrev pub doubling_choices : List Choice
doubling_choices = nothing 3 ++ (goes_down (17 ∷ 19 ∷ []) ++ puts_on 16 (18 ∷ []) ∷ with_nothing ∷ with_undo_pages 0 ∷ nothing 8)

abbrev pub doubling_lines : List Line
doubling_lines =
    line 1 1 1 (answer (codes "OK"))
    ∷ line 10 1 2 (answer (codes "ERR 1062 23000 duplicate key 1"))
    ∷ line 13 1 3 (answer (codes "OK 0 rows"))
    ∷ line 14 1 4 (answer (codes "OK"))
    ∷ line 15 1 5 (answer (codes "END"))
    ∷ []

-- ---- a scan

abbrev pub going_over : Machine
going_over =
    machine_of (Begin ∷ all_points ∷ Commit ∷ Delete named_p (with_key 3) ∷ []) ((0 ∷ []) ∷ (1 ∷ []) ∷ (2 ∷ []) ∷ []) ((3 ∷ []) ∷ [])
    (turns 1 4 ∷ turns 2 1 ∷ [])

abbrev pub going_over_choices : List Choice
going_over_choices = nothing 4 ++ (with_blockers (record { trx = 1; held = S } ∷ []) [] ∷ nothing 4) ++ (puts_on 0 (18 ∷ []) ∷ nothing 4)

abbrev pub going_over_lines : List Line
going_over_lines =
    line 1 1 1 (answer (codes "OK"))
    ∷ line 4 1 2 (answer (codes "OK 5 rows (1,POINT(0 0)) (2,POINT(10 0)) (3,POINT(0 10)) (4,POINT(10 10)) (5,POINT(5 5))"))
    ∷ line 5 2 1 (waits_for_table 1 IX (record { trx = 1; held = S } ∷ []))
    ∷ line 6 1 3 (answer (codes "OK"))
    ∷ line 8 1 4 (answer (codes "END"))
    ∷ line 11 2 1 (answer (codes "OK 1 rows"))
    ∷ line 12 2 2 (answer (codes "END"))
    ∷ []

-- ---- a full file: with the fifth point the root is raised and divided, which takes the last pages but 46

abbrev pub small : State
small = record five { pages = 67; tables = []; entries = 0; bytes = 0; sessions = fresh false ∷ fresh false ∷ replicate 15 (fresh true) }

abbrev pub filling : Machine
filling =
    one_session (Create named_p points_schema ∷ Begin ∷ Insert named_p (point_row 1 0 0 ∷ point_row 2 10 0 ∷ point_row 3 0 10 ∷ point_row 4 10 10 ∷ point_row 5 5 5 ∷ []) ∷ all_points ∷ Commit ∷ [])
    ((0 ∷ []) ∷ []) ((1 ∷ []) ∷ (2 ∷ []) ∷ (3 ∷ []) ∷ (4 ∷ []) ∷ [])

abbrev pub a_row : List ℕ → List Choice
a_row undo = with_nothing ∷ (goes_down (17 ∷ []) ++ puts_on 16 undo ∷ [])

abbrev pub filling_choices : List Choice
filling_choices =
    (with_roots 16 (17 ∷ []) ∷ nothing 2)
    ++ (a_row (18 ∷ []) ++ a_row [] ++ a_row [] ++ a_row [])
    ++ (with_nothing ∷ with_child 17 ∷ with_divisions 19 (record { page = 20; left = point 0 0 1 0 ∷ point 10 0 2 1 ∷ []; right = point 0 10 3 2 ∷ point 10 10 4 3 ∷ point 5 5 5 4 ∷ [] } ∷ []) ∷ nothing 1)
    ++ replicate 4 (with_undo_pages 0)
    ++ nothing 15

abbrev pub filling_lines : List Line
filling_lines =
    line 0 0 1 (answer (codes "OK"))
    ∷ line 1 1 1 (answer (codes "OK"))
    ∷ line 27 1 2 (answer (codes "ERR 1114 HY000 file is full"))
    ∷ line 30 1 3 (answer (codes "OK 0 rows"))
    ∷ line 31 1 4 (answer (codes "OK"))
    ∷ line 32 1 5 (answer (codes "END"))
    ∷ []

pub record FurtherRunsFit : Type 0 where
  pub listing : Prints listing five listing_lines
  pub giving_way : Prints giving_way five giving_way_lines
  pub doubling : Prints doubling five_alone doubling_lines
  pub going_over : Prints going_over five going_over_lines
  pub filling : Prints filling small filling_lines
