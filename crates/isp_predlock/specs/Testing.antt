-- The searches that an entry is tested against, and those that stand in its way.
use Rattle.std.specs.Prelude.{ℕ, ◌==◌, ◌&&◌, ◌||◌, Bool, not, cond, List, filter_map, find, Option, None}
use Rattle.isp_mbr.specs.Predicates.{satisfies}
use Rattle.isp_forest.specs.Steps.{is_among}
use Rattle.isp_events.specs.State.{session_numbers}
use Rattle.isp_predlock.specs.declared.entries.On.{On}
use Rattle.isp_predlock.specs.declared.entries.Percolation.{Percolation}
use Rattle.isp_predlock.specs.declared.entries.Placing.{Placing}
use Rattle.isp_predlock.specs.Entering.{listed}
use Rattle.isp_predlock.specs.Tables.{HeldSearch, told}

-- the search is another session's, and is on the leaf or percolates to it
abbrev pub is_tested_by : Placing → List Percolation → HeldSearch → Bool
is_tested_by placing more x =
    not (x.sought.session == placing.session) && (is_among x.on placing.leaf.0 || listed more x.id placing.leaf.0)

abbrev pub tested : Placing → List Percolation → HeldSearch → Option On
tested placing more x = cond (is_tested_by placing more x) (told x) None

-- and asks for the entry's box
abbrev pub is_blocking : Placing → List Percolation → HeldSearch → Bool
is_blocking placing more x = is_tested_by placing more x && satisfies x.sought.predicate placing.b

abbrev pub blocking : Placing → List Percolation → HeldSearch → Option On
blocking placing more x = cond (is_blocking placing more x) (told x) None

-- the first of a session's
abbrev pub first_of : List On → ℕ → Option On
first_of list session = find (λ (on : On). on.session == session) list

-- of each session the first begun that stands in the way, by session
abbrev pub in_the_way : Placing → List Percolation → List HeldSearch → List On
in_the_way placing more searches = filter_map (first_of (filter_map (blocking placing more) searches)) session_numbers
