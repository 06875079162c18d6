-- What wrong machines answer. The table t(id, v, g) has one row (1, 0, (0 0)) on a root leaf, or for one machine also (2, 0, (1 1)); the box
-- that is searched for reaches from (0,0) to (2,2). Each run is that of two sessions in the order of its turns.
use Rattle.std.specs.Prelude.{ℕ, zero, suc, ℤ, pos, true, false, List, [], ◌∷◌, ◌++◌, codes, replicate, None}
use Rattle.isp_plain.specs.declared.statement.Statement.{Statement}
use Rattle.isp_plain.specs.declared.statement.Statement.TheVariants.{Insert, Select, Update, Delete, Begin, Commit, Rollback}
use Rattle.isp_plain.specs.declared.value.Row.{Row}
use Rattle.isp_plain.specs.declared.value.Schema.{Schema}
use Rattle.isp_plain.specs.declared.value.Kind.TheVariants.{BigInt, Geo}
use Rattle.isp_plain.specs.declared.value.Value.TheVariants as value
use Rattle.isp_forest.specs.Tree.{Tree}
use Rattle.isp_laws.specs.Examples.{point}
use Rattle.isp_events.specs.Stored.{KeptRow}
use Rattle.isp_events.specs.Sessions.{fresh}
use Rattle.isp_events.specs.State.{State, no_waits}
use Rattle.isp_events.specs.Ways.{Machine}
use Rattle.isp_events.specs.Events.{acts, purges, Choice, with_nothing, with_child, with_divisions, with_undo_pages}
use Rattle.isp_event_examples.specs.Language.{any_row, meeting, point_at, with_key}
use Rattle.isp_event_examples.specs.Points.{adding_point, five, machine_of, points_meeting, puts_on}
use Rattle.isp_event_examples.specs.WrongMachines.{Disagrees, Function, Step, WrongRun, right, wrong, dead_unseen, entries_go_at_delete, entries_taken_over, intention_alone, live_queued, locks_go_early, numbers_not_undone, numbers_stay, own_unseen, searches_go_early, shared_go_early, unlocked_key, unpercolated, untested}

-- ---- the table

abbrev pub named_t : List ℕ
named_t = codes "t"

abbrev pub t_schema : Schema
t_schema = record {
  columns = record { name = codes "id"; kind = BigInt; indexed = false } ∷ record { name = codes "v"; kind = BigInt; indexed = false }
      ∷ record { name = codes "g"; kind = Geo; indexed = true } ∷ [];
}

abbrev pub t_row : ℕ → ℕ → ℕ → ℕ → Row
t_row key v x y = record { values = value.Int (pos key) ∷ value.Int (pos v) ∷ point_at x y ∷ [] }

abbrev pub t_kept : ℕ → ℕ → ℕ → ℕ → ℤ × KeptRow
t_kept key x y number = (pos key, record { row = t_row key 0 x y; numbers = number ∷ []; mark = false; slot = 27 })

abbrev pub one_leaf : Tree
one_leaf = record { root = 17; pages = (17, record { level = 0; ssn = 0; next = None; entries = point 0 0 1 0 ∷ [] }) ∷ [] }

abbrev pub two_on_leaf : Tree
two_on_leaf = record { root = 17; pages = (17, record { level = 0; ssn = 0; next = None; entries = point 0 0 1 0 ∷ point 1 1 2 1 ∷ [] }) ∷ [] }

abbrev pub state_of : List (ℤ × KeptRow) → Tree → ℕ → State
state_of rows tree entries = record {
  pages = 96;
  fanout = 4;
  tables = record { name = named_t; schema = t_schema; leaves = record { page = 16; rows = rows } ∷ []; others = []; trees = (2, tree) ∷ [] } ∷ [];
  entries = entries;
  bytes = 80;
  locks = [];
  searches = [];
  sessions = fresh true ∷ fresh false ∷ fresh false ∷ replicate 14 (fresh true);
  waits = no_waits;
  queue = [];
}

abbrev pub one : State
one = state_of (t_kept 1 0 0 0 ∷ []) one_leaf 1

abbrev pub two : State
two = state_of (t_kept 1 0 0 0 ∷ t_kept 2 1 1 1 ∷ []) two_on_leaf 2

-- ---- statements

abbrev pub t_columns : List ℕ
t_columns = 0 ∷ 1 ∷ 2 ∷ []

abbrev pub in_box : ℕ → ℕ → ℕ → ℕ → Statement
in_box x1 y1 x2 y2 = Select named_t t_columns (meeting 2 x1 y1 x2 y2)

abbrev pub in_q : Statement
in_q = in_box 0 0 2 2

abbrev pub of_key : ℕ → Statement
of_key key = Select named_t t_columns (with_key key)

abbrev pub adding : ℕ → ℕ → ℕ → Statement
adding key x y = Insert named_t (t_row key 0 x y ∷ [])

abbrev pub setting_v : ℕ → Statement
setting_v key = Update named_t (record { column = 1; v = value.Int (pos 1) } ∷ []) (with_key key)

abbrev pub moving_to : ℕ → ℕ → Statement
moving_to x y = Update named_t (record { column = 2; v = point_at x y } ∷ []) (with_key 1)

abbrev pub deleting_one : Statement
deleting_one = Delete named_t (with_key 1)

-- the numbers of the statements of a session
abbrev pub texts : List ℕ → List (List ℕ)
texts [] = []
texts (n ∷ ns) = (n ∷ []) ∷ texts ns

abbrev pub runs : List Statement → List ℕ → List ℕ → Machine
runs statements first second = machine_of statements (texts first) (texts second) []

-- ---- steps

-- so many events of the session that leave nothing open, from that turn on
abbrev pub acting : ℕ → ℕ → ℕ → List Step
acting s turn zero = []
acting s turn (suc n) = right (record { turn = turn; actor = acts s; choice = with_nothing }) ∷ acting s (suc turn) n

abbrev pub choosing : ℕ → ℕ → List Choice → List Step
choosing s turn [] = []
choosing s turn (c ∷ choices) = right (record { turn = turn; actor = acts s; choice = c }) ∷ choosing s (suc turn) choices

abbrev pub purging : ℕ → Step
purging turn = right (record { turn = turn; actor = purges; choice = with_nothing })

abbrev pub going_wrong : ℕ → ℕ → Function → Step
going_wrong s turn f = wrong turn s with_nothing f

-- an entry down these pages, without a division, and its row with a page for the undo chain
abbrev pub placing : List Choice
placing = with_divisions 0 [] ∷ puts_on 16 (18 ∷ []) ∷ []

-- a row that takes no page of the tree
abbrev pub writing : Choice
writing = puts_on 0 (18 ∷ [])

abbrev pub ok : List ℕ
ok = codes "OK"

abbrev pub ok_row : List ℕ
ok_row = codes "OK 1 rows"

abbrev pub row_one : List ℕ
row_one = codes "OK 1 rows (1,0,POINT(0 0))"

abbrev pub no_rows : List ℕ
no_rows = codes "OK 0 rows"

-- ---- searches

abbrev pub searching : Machine
searching = runs (Begin ∷ in_q ∷ Commit ∷ adding 2 1 1 ∷ []) (0 ∷ 1 ∷ 2 ∷ []) (3 ∷ [])

-- entries are not tested
abbrev pub untested_run : WrongRun
untested_run = record {
  machine = searching;
  start = one;
  steps = acting 1 1 5 ++ (acting 2 6 2 ++ choosing 2 8 (with_child 17 ∷ [])) ++ wrong 9 2 (with_divisions 0 []) untested ∷ choosing 2 10 (puts_on 16 (18 ∷ []) ∷ with_nothing ∷ []) ++ acting 1 12 1;
  texts = ok ∷ row_one ∷ ok_row ∷ ok ∷ [];
}

-- searches go at their statement's answer
abbrev pub searches_go_early_run : WrongRun
searches_go_early_run = record {
  machine = searching;
  start = one;
  steps = acting 1 1 4 ++ going_wrong 1 5 searches_go_early ∷ acting 2 6 2 ++ choosing 2 8 (with_child 17 ∷ placing) ++ acting 2 11 1 ++ acting 1 12 1;
  texts = ok ∷ row_one ∷ ok_row ∷ ok ∷ [];
}

-- no percolation
abbrev pub percolating_not : Machine
percolating_not = runs (Begin ∷ points_meeting 0 0 9 9 ∷ Commit ∷ adding_point 6 5 9 ∷ []) (0 ∷ 1 ∷ 2 ∷ []) (3 ∷ [])

abbrev pub unpercolated_run : WrongRun
unpercolated_run = record {
  machine = percolating_not;
  start = five;
  steps = acting 1 1 7 ++ acting 2 8 2 ++ choosing 2 10 (with_child 17 ∷ with_child 20 ∷ []) ++ wrong 12 2 (with_divisions 0 []) unpercolated
      ∷ choosing 2 13 (puts_on 16 (18 ∷ []) ∷ with_nothing ∷ []) ++ acting 1 15 1;
  texts = ok ∷ codes "OK 2 rows (1,POINT(0 0)) (5,POINT(5 5))" ∷ ok_row ∷ ok ∷ [];
}

-- ---- locks

abbrev pub updating : Statement → Machine
updating statement = runs (Begin ∷ statement ∷ Commit ∷ setting_v 1 ∷ []) (0 ∷ 1 ∷ 2 ∷ []) (3 ∷ [])

-- found rows are not locked
abbrev pub unlocked_rows_run : WrongRun
unlocked_rows_run = record {
  machine = updating in_q;
  start = one;
  steps = acting 1 1 3 ++ going_wrong 1 4 unlocked_key ∷ acting 1 5 1 ++ acting 2 6 2 ++ choosing 2 8 (writing ∷ with_nothing ∷ []) ++ acting 1 10 1;
  texts = ok ∷ row_one ∷ ok_row ∷ ok ∷ [];
}

-- keys without a row are not locked
abbrev pub unlocked_gaps_run : WrongRun
unlocked_gaps_run = record {
  machine = runs (Begin ∷ of_key 2 ∷ Commit ∷ adding 2 1 1 ∷ []) (0 ∷ 1 ∷ 2 ∷ []) (3 ∷ []);
  start = one;
  steps = acting 1 1 2 ++ going_wrong 1 3 unlocked_key ∷ acting 1 4 1 ++ acting 2 5 2 ++ choosing 2 7 (with_child 17 ∷ placing) ++ acting 2 10 1 ++ acting 1 11 1;
  texts = ok ∷ no_rows ∷ ok_row ∷ ok ∷ [];
}

-- a scan takes an intention lock
abbrev pub intention_alone_run : WrongRun
intention_alone_run = record {
  machine = runs (Begin ∷ Select named_t t_columns any_row ∷ Commit ∷ adding 2 1 1 ∷ []) (0 ∷ 1 ∷ 2 ∷ []) (3 ∷ []);
  start = one;
  steps = acting 1 1 1 ++ going_wrong 1 2 intention_alone ∷ acting 1 3 2 ++ acting 2 5 2 ++ choosing 2 7 (with_child 17 ∷ placing) ++ acting 2 10 1 ++ acting 1 11 1;
  texts = ok ∷ row_one ∷ ok_row ∷ ok ∷ [];
}

-- shared locks go at the answer
abbrev pub shared_go_early_run : WrongRun
shared_go_early_run = record {
  machine = updating (of_key 1);
  start = one;
  steps = acting 1 1 3 ++ going_wrong 1 4 shared_go_early ∷ acting 2 5 2 ++ choosing 2 7 (writing ∷ with_nothing ∷ []) ++ acting 1 9 1;
  texts = ok ∷ row_one ∷ ok_row ∷ ok ∷ [];
}

-- a failed statement's locks go
abbrev pub failed_go_early_run : WrongRun
failed_go_early_run = record {
  machine = runs (Begin ∷ adding 1 0 0 ∷ Commit ∷ deleting_one ∷ []) (0 ∷ 1 ∷ 2 ∷ []) (3 ∷ []);
  start = one;
  steps = acting 1 1 3 ++ going_wrong 1 4 locks_go_early ∷ acting 2 5 2 ++ choosing 2 7 (writing ∷ with_nothing ∷ []) ++ acting 1 9 1;
  texts = ok ∷ codes "ERR 1062 23000 duplicate key 1" ∷ ok_row ∷ ok ∷ [];
}

-- ROLLBACK lets go before undoing
abbrev pub rollback_goes_early_run : WrongRun
rollback_goes_early_run = record {
  machine = runs (Begin ∷ setting_v 1 ∷ setting_v 2 ∷ Rollback ∷ of_key 1 ∷ []) (0 ∷ 1 ∷ 2 ∷ 3 ∷ []) (4 ∷ []);
  start = two;
  steps = acting 1 1 3 ++ choosing 1 4 (writing ∷ with_nothing ∷ []) ++ acting 1 6 2 ++ choosing 1 8 (puts_on 0 [] ∷ with_nothing ∷ [])
      ++ wrong 10 1 (with_undo_pages 0) locks_go_early ∷ acting 2 11 3;
  texts = ok ∷ ok_row ∷ ok_row ∷ codes "OK 1 rows (1,1,POINT(0 0))" ∷ [];
}

-- ---- entries

-- own earlier entries are not found
abbrev pub own_unseen_run : WrongRun
own_unseen_run = record {
  machine = runs (Begin ∷ adding 2 1 1 ∷ in_q ∷ Commit ∷ []) (0 ∷ 1 ∷ 2 ∷ 3 ∷ []) [];
  start = one;
  steps = acting 1 1 3 ++ choosing 1 4 (with_child 17 ∷ placing) ++ acting 1 7 2 ++ going_wrong 1 9 own_unseen ∷ acting 1 10 3;
  texts = ok ∷ ok_row ∷ row_one ∷ ok ∷ [];
}

-- only live entries are found
abbrev pub dead_unseen_run : WrongRun
dead_unseen_run = record {
  machine = runs (Begin ∷ moving_to 5 5 ∷ Rollback ∷ in_q ∷ []) (0 ∷ 1 ∷ 2 ∷ []) (3 ∷ []);
  start = one;
  steps = acting 1 1 3 ++ choosing 1 4 (with_child 17 ∷ with_divisions 0 [] ∷ writing ∷ []) ++ acting 2 7 1 ++ going_wrong 2 8 dead_unseen ∷ acting 2 9 1;
  texts = ok ∷ no_rows ∷ [];
}

-- the entry goes at DELETE
abbrev pub entries_go_run : WrongRun
entries_go_run = record {
  machine = runs (Begin ∷ deleting_one ∷ Rollback ∷ in_q ∷ []) (0 ∷ 1 ∷ 2 ∷ []) (3 ∷ []);
  start = one;
  steps = acting 1 1 3 ++ wrong 4 1 writing entries_go_at_delete ∷ acting 2 5 3;
  texts = ok ∷ no_rows ∷ [];
}

-- UPDATE keeps the number
abbrev pub numbers_stay_run : WrongRun
numbers_stay_run = record {
  machine = runs (moving_to 3 3 ∷ in_box 2 2 4 4 ∷ []) (0 ∷ 1 ∷ []) [];
  start = one;
  steps = acting 1 1 2 ++ choosing 1 3 (with_child 17 ∷ with_divisions 0 [] ∷ []) ++ wrong 5 1 writing numbers_stay ∷ acting 1 6 2 ++ purging 8 ∷ acting 1 9 2;
  texts = ok_row ∷ no_rows ∷ [];
}

-- undo keeps the new number
abbrev pub numbers_not_undone_run : WrongRun
numbers_not_undone_run = record {
  machine = runs (Begin ∷ moving_to 3 3 ∷ Rollback ∷ in_q ∷ []) (0 ∷ 1 ∷ 2 ∷ 3 ∷ []) [];
  start = one;
  steps = acting 1 1 3 ++ choosing 1 4 (with_child 17 ∷ with_divisions 0 [] ∷ writing ∷ with_nothing ∷ []) ++ wrong 8 1 (with_undo_pages 0) numbers_not_undone ∷ acting 1 9 2 ++ purging 11 ∷ acting 1 12 2;
  texts = ok ∷ ok_row ∷ ok ∷ no_rows ∷ [];
}

-- live entries join the queue
abbrev pub live_queued_run : WrongRun
live_queued_run = record {
  machine = runs (moving_to 1 1 ∷ in_q ∷ []) (0 ∷ 1 ∷ []) [];
  start = one;
  steps = acting 1 1 2 ++ choosing 1 3 (with_child 17 ∷ with_divisions 0 [] ∷ writing ∷ []) ++ going_wrong 1 6 live_queued ∷ acting 1 7 1 ++ purging 8 ∷ purging 9 ∷ acting 1 10 2;
  texts = ok_row ∷ no_rows ∷ [];
}

-- INSERT over a marked row takes its entries
abbrev pub entries_taken_over_run : WrongRun
entries_taken_over_run = record {
  machine = runs (deleting_one ∷ adding 1 0 0 ∷ in_q ∷ []) (0 ∷ 1 ∷ 2 ∷ []) [];
  start = one;
  steps = acting 1 1 2 ++ choosing 1 3 (writing ∷ with_nothing ∷ []) ++ acting 1 5 1 ++ going_wrong 1 6 entries_taken_over ∷ choosing 1 7 (writing ∷ with_nothing ∷ [])
      ++ acting 1 9 1 ++ purging 10 ∷ acting 1 11 2;
  texts = ok_row ∷ ok_row ∷ no_rows ∷ [];
}

-- ---- all of them

pub record WrongMachinesDisagree : Type 0 where
  pub untested : Disagrees untested_run
  pub searches_go_early : Disagrees searches_go_early_run
  pub unpercolated : Disagrees unpercolated_run
  pub unlocked_rows : Disagrees unlocked_rows_run
  pub unlocked_gaps : Disagrees unlocked_gaps_run
  pub intention_alone : Disagrees intention_alone_run
  pub shared_go_early : Disagrees shared_go_early_run
  pub failed_go_early : Disagrees failed_go_early_run
  pub rollback_goes_early : Disagrees rollback_goes_early_run
  pub own_unseen : Disagrees own_unseen_run
  pub dead_unseen : Disagrees dead_unseen_run
  pub entries_go : Disagrees entries_go_run
  pub numbers_stay : Disagrees numbers_stay_run
  pub numbers_not_undone : Disagrees numbers_not_undone_run
  pub live_queued : Disagrees live_queued_run
  pub entries_taken_over : Disagrees entries_taken_over_run
