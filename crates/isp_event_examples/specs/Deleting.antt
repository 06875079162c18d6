-- A row is deleted, and that is rolled back or committed, while another session has found its key and waits for it. Where it is
-- committed, the drain purges the row's entry and the row.
use Rattle.std.specs.Prelude.{◌≡◌, ℕ, ℤ, pos, List, [], ◌∷◌, ◌++◌, codes, map}
use Rattle.isp_reclock.specs.declared.modes.Mode.TheVariants.{IS, IX, S, X}
use Rattle.isp_plain.specs.declared.statement.Statement.{Statement}
use Rattle.isp_plain.specs.declared.statement.Statement.TheVariants.{Delete, Begin, Commit, Rollback}
use Rattle.isp_plain.specs.Tables.{Table}
use Rattle.isp_events.specs.State.{State}
use Rattle.isp_events.specs.Views.{beginning_view, committed, view}
use Rattle.isp_events.specs.Ways.{Machine}
use Rattle.isp_events.specs.Lines.{Line, answer, traced, locked_key, locked_table, waits_for_key, wrote_row, was_given_mark, undid, purged_entry, purged_row}
use Rattle.isp_events.specs.Events.{acts, Choice, with_blockers, with_nothing, Event, after_all}
use Rattle.isp_events.specs.Runs.{Run}
use Rattle.isp_event_examples.specs.Language.{with_key}
use Rattle.isp_event_examples.specs.Points.{five, line, machine_of, named_p, nothing, points_meeting, purge_line, puts_on, turns, visit}

abbrev pub deleting_statements : List Statement
deleting_statements = Begin ∷ Delete named_p (with_key 5) ∷ Rollback ∷ Commit ∷ points_meeting 0 0 9 9 ∷ []

-- up to where session 1 waits, session 2 rolls back, or commits
abbrev pub deleting_choices : List Choice
deleting_choices = nothing 3 ++ (puts_on 0 (18 ∷ []) ∷ nothing 1) ++ (nothing 4 ++ with_blockers (record { trx = 2; held = X } ∷ []) [] ∷ [])

abbrev pub deleting_lines : List Line
deleting_lines =
    line 1 2 1 (answer (codes "OK"))
    ∷ line 2 2 2 (traced (locked_table 1 IX))
    ∷ line 3 2 2 (traced (locked_key 1 (pos 5) X))
    ∷ line 4 2 2 (traced (wrote_row 1 (pos 5) was_given_mark))
    ∷ line 5 2 2 (answer (codes "OK 1 rows"))
    ∷ line 6 1 1 (traced (locked_table 1 IS))
    ∷ line 7 1 1 (visit 1 17 ((19, 1) ∷ []) [])
    ∷ line 8 1 1 (visit 1 19 [] (pos 1 ∷ pos 5 ∷ []))
    ∷ line 9 1 1 (traced (locked_key 1 (pos 1) S))
    ∷ line 10 1 1 (waits_for_key 1 (pos 5) S (record { trx = 2; held = X } ∷ []))
    ∷ []

abbrev pub rolling_back : Machine
rolling_back = machine_of deleting_statements ((4 ∷ []) ∷ []) ((0 ∷ []) ∷ (1 ∷ []) ∷ (2 ∷ []) ∷ []) (turns 2 5 ∷ turns 1 5 ∷ turns 2 2 ∷ turns 1 2 ∷ [])

abbrev pub rolling_back_lines : List Line
rolling_back_lines =
    deleting_lines
    ++ line 11 2 3 (traced (undid 1 (pos 5)))
    ∷ line 12 2 3 (answer (codes "OK"))
    ∷ line 13 1 1 (traced (locked_key 1 (pos 5) S))
    ∷ line 14 1 1 (answer (codes "OK 2 rows (1,POINT(0 0)) (5,POINT(5 5))"))
    ∷ line 15 1 2 (answer (codes "END"))
    ∷ line 16 2 4 (answer (codes "END"))
    ∷ []

abbrev pub committing : Machine
committing = machine_of deleting_statements ((4 ∷ []) ∷ []) ((0 ∷ []) ∷ (1 ∷ []) ∷ (3 ∷ []) ∷ []) (turns 2 5 ∷ turns 1 5 ∷ turns 2 1 ∷ turns 1 2 ∷ [])

abbrev pub committing_lines : List Line
committing_lines =
    deleting_lines
    ++ line 11 2 3 (answer (codes "OK"))
    ∷ line 12 1 1 (traced (locked_key 1 (pos 5) S))
    ∷ line 13 1 1 (answer (codes "OK 1 rows (1,POINT(0 0))"))
    ∷ line 14 1 2 (answer (codes "END"))
    ∷ line 15 2 4 (answer (codes "END"))
    ∷ purge_line 16 (traced (purged_entry 1 1 (pos 5) 4))
    ∷ purge_line 17 (traced (purged_row 1 (pos 5)))
    ∷ []

-- ---- what is seen in between

abbrev pub two : ℕ → Choice → Event
two turn choice = record { turn = turn; actor = acts 2; choice = choice }

-- behind the row event of turn 4, and behind the answer of turn 5
abbrev pub marked : State
marked = after_all committing five (two 1 with_nothing ∷ two 2 with_nothing ∷ two 3 with_nothing ∷ two 4 (puts_on 0 (18 ∷ [])) ∷ [])

abbrev pub answered : State
answered = after_all committing marked (two 5 with_nothing ∷ [])

abbrev pub keys_in : List Table → List (List ℤ)
keys_in tables = map (λ table. map (λ e. e.0) table.rows) tables

abbrev pub four_keys : List (List ℤ)
four_keys = (pos 1 ∷ pos 2 ∷ pos 3 ∷ pos 4 ∷ []) ∷ []

abbrev pub five_keys : List (List ℤ)
five_keys = (pos 1 ∷ pos 2 ∷ pos 3 ∷ pos 4 ∷ pos 5 ∷ []) ∷ []

pub record DeletingFits : Type 0 where
  pub rolled_back : (left : State) × Run rolling_back five rolling_back_lines left
  pub commits : (left : State) × Run committing five committing_lines left
  -- the row is committed until COMMIT; session 2 doesn't see it, but as its statement began; session 1 does
  pub committed_then : keys_in (committed marked) ≡ five_keys
  pub seen_then : keys_in (view marked 2) ≡ four_keys
  pub seen_at_beginning : keys_in (beginning_view marked 2) ≡ five_keys
  pub seen_by_other : keys_in (view marked 1) ≡ five_keys
  pub seen_behind_answer : keys_in (beginning_view answered 2) ≡ four_keys
