-- A table of five points with its tree of three pages, and short words for events and lines.
use Rattle.std.specs.Prelude.{ℕ, ℤ, pos, true, false, List, [], ◌∷◌, codes, replicate, None}
use Rattle.isp_plain.specs.declared.statement.Statement.{Statement}
use Rattle.isp_plain.specs.declared.statement.Statement.TheVariants.{Insert, Select}
use Rattle.isp_plain.specs.declared.value.Row.{Row}
use Rattle.isp_plain.specs.declared.value.Schema.{Schema}
use Rattle.isp_plain.specs.declared.value.Kind.TheVariants.{BigInt, Geo}
use Rattle.isp_plain.specs.declared.value.Value.TheVariants as value
use Rattle.isp_serial.specs.declared.script.Session.{Session}
use Rattle.isp_serial.specs.declared.script.Word.{Word}
use Rattle.isp_serial.specs.declared.script.Word.TheVariants as word
use Rattle.isp_laws.specs.Examples.{five_points}
use Rattle.isp_events.specs.Stored.{KeptRow, StoredTable}
use Rattle.isp_events.specs.Sessions.{fresh}
use Rattle.isp_events.specs.State.{State, no_waits}
use Rattle.isp_events.specs.Ways.{Machine}
use Rattle.isp_events.specs.Lines.{Line, Told, of_session, of_purge, traced, stepped_to, visited_page, placed_entry}
use Rattle.isp_events.specs.Events.{Choice, with_nothing, with_child, with_divisions, with_put}
use Rattle.isp_event_examples.specs.Language.{by_first_atom, meeting, numbered, point_at}

-- ---- the table p of a key and a point

abbrev pub named_p : List ℕ
named_p = codes "p"

abbrev pub points_schema : Schema
points_schema = record {
  columns = record { name = codes "id"; kind = BigInt; indexed = false } ∷ record { name = codes "g"; kind = Geo; indexed = true } ∷ [];
}

abbrev pub point_row : ℕ → ℕ → ℕ → Row
point_row key x y = record { values = value.Int (pos key) ∷ point_at x y ∷ [] }

-- a point, with the number of its entry, in a slot of its own size
abbrev pub kept_point : ℕ → ℕ → ℕ → ℕ → ℤ × KeptRow
kept_point key x y number = (pos key, record { row = point_row key x y; numbers = number ∷ []; mark = false; slot = 19 })

abbrev pub points : StoredTable
points = record {
  name = named_p;
  schema = points_schema;
  leaves = record { page = 16; rows = kept_point 1 0 0 0 ∷ kept_point 2 10 0 1 ∷ kept_point 3 0 10 2 ∷ kept_point 4 10 10 3 ∷ kept_point 5 5 5 4 ∷ [] } ∷ [];
  others = [];
  trees = (1, five_points) ∷ [];
}

-- the state that its setup leaves, with two sessions; page 18 is free
abbrev pub five : State
five = record {
  pages = 128;
  fanout = 4;
  tables = points ∷ [];
  entries = 5;
  bytes = 160;
  locks = [];
  searches = [];
  sessions = fresh true ∷ fresh false ∷ fresh false ∷ replicate 14 (fresh true);
  waits = no_waits;
  queue = [];
}

-- its rows that meet a box
abbrev pub points_meeting : ℕ → ℕ → ℕ → ℕ → Statement
points_meeting x1 y1 x2 y2 = Select named_p (0 ∷ 1 ∷ []) (meeting 1 x1 y1 x2 y2)

abbrev pub adding_point : ℕ → ℕ → ℕ → Statement
adding_point key x y = Insert named_p (point_row key x y ∷ [])

-- ---- scripts

-- a session of statements by their numbers
abbrev pub session_of : ℕ → List (List ℕ) → Session
session_of number texts = record { number = number; texts = texts }

-- two sessions of numbered statements, without a setup
abbrev pub machine_of : List Statement → List (List ℕ) → List (List ℕ) → List Word → Machine
machine_of statements first second words = record {
  script = record { setup = []; sessions = session_of 1 first ∷ session_of 2 second ∷ []; words = words; stop = false };
  language = numbered statements;
  ways = by_first_atom;
}

abbrev pub turns : ℕ → ℕ → Word
turns session times = word.Turn session times

-- ---- choices

abbrev pub nothing : ℕ → List Choice
nothing n = replicate n with_nothing

-- an entry that goes down these pages, and is placed on the last of them without a division
abbrev pub goes_down : List ℕ → List Choice
goes_down [] = with_divisions 0 [] ∷ []
goes_down (q ∷ path) = with_child q ∷ goes_down path

-- a row on that leaf, which is not divided, with these pages for the undo chain
abbrev pub puts_on : ℕ → List ℕ → Choice
puts_on leaf undo = with_put (record { moved = None; leaf = leaf; divided = None; clustered = []; undo = undo })

-- ---- lines

abbrev pub line : ℕ → ℕ → ℕ → Told → Line
line turn s number told = record { turn = turn; whose = of_session s number; told = told }

abbrev pub purge_line : ℕ → Told → Line
purge_line turn told = record { turn = turn; whose = of_purge; told = told }

-- a visit of a page that the search wasn't on
abbrev pub visit : ℕ → ℕ → List (ℕ × ℕ) → List ℤ → Told
visit column page pushed found = traced (visited_page (record { table = 1; column = column; page = page; again = false; pushed = pushed; found = found }))

abbrev pub step : ℕ → ℕ → Told
step column page = traced (stepped_to 1 column page)

-- an entry placed, so many searches of others tested, these that percolate, these pages divided
abbrev pub placed_on : ℕ → ℕ → ℕ → ℕ → List (ℕ × ℕ) → List (ℕ × ℕ) → Told
placed_on column leaf number tested percolated parted =
    traced (placed_entry (record { table = 1; column = column; leaf = leaf; number = number; tested = tested; percolated = percolated; parted = parted; raised = None }))
