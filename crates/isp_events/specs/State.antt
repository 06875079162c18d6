-- The state of the page machine: everything that sessions share, and each session. Pages that are free are not listed: they are
-- those that nothing uses.
use Rattle.std.specs.Prelude.{ℕ, ℤ, ◌-◌, ◌*◌, ◌/◌, ◌^◌, ◌==◌, max, nat_le, nat_lt, Bool, not, ◌&&◌, List, [], ◌∷◌, ◌++◌, length, filter, flat_map, map, replicate, slice_set, Option, Some, None}
use Rattle.std.specs.List.{range_with_len}
use Rattle.isp_reclock.specs.declared.entries.Lock.{Lock}
use Rattle.isp_waits.specs.Graphs.{waits_of}
use Rattle.isp_forest.specs.Tree.{Tree, counter}
use Rattle.isp_forest.specs.Steps.{is_among}
use Rattle.isp_forest.specs.Search.{Search}
use Rattle.isp_events.specs.Stored.{StoredTable, pages_of}
use Rattle.isp_events.specs.Sessions.{EntryAt, SessionState}

-- a search with the table and the column of its tree
pub record TreeSearch : Type 0 where
  pub table : ℕ
  pub column : ℕ
  pub search : Search

-- what waits to be purged: an entry, or the row at a key of a table
pub data Queued : Type 0 where
  dead_entry : EntryAt → Queued
  dead_row : ℕ → ℤ → Queued

-- The number of pages of the file and the fan-out of its trees; the tables; the number of entries ever placed and the bytes ever
-- put into clustered pages; the locks in the order of granting; the searches in order of beginning; for each session, by its
-- number, what is known of it and whom it waits for; and the purge queue.
pub record State : Type 0 where
  pub pages : ℕ
  pub fanout : ℕ
  pub tables : List StoredTable
  pub entries : ℕ
  pub bytes : ℕ
  pub locks : List Lock
  pub searches : List TreeSearch
  pub sessions : List SessionState
  pub waits : List (List ℕ)
  pub queue : List Queued

-- how many sessions there are, with the setup, and their numbers
abbrev pub session_count : ℕ
session_count = 17

abbrev pub session_numbers : List ℕ
session_numbers = range_with_len 0 session_count

abbrev pub is_empty : {X : Type 0} → List X → Bool
is_empty xs = length xs == 0

-- all but the last
abbrev pub front : {X : Type 0} → List X → List X
front [] = []
front (x ∷ []) = []
front (x ∷ y ∷ rest) = x ∷ front (y ∷ rest)

-- the session waits for somebody
abbrev pub is_waiting : List (List ℕ) → ℕ → Bool
is_waiting waits s = not (is_empty (waits_of waits s))

-- ---- who waits

abbrev pub no_waits : List (List ℕ)
no_waits = replicate session_count []

abbrev pub without : ℕ → List ℕ → List ℕ
without s list = filter (λ k. not (k == s)) list

-- the session's transaction has ended: nobody waits for it any more, nor does it wait
abbrev pub ended : List (List ℕ) → ℕ → List (List ℕ)
ended waits s = slice_set (map (without s) waits) s []

-- ---- free pages

-- the pages of tables and of undo chains
abbrev pub used : State → List ℕ
used state = flat_map pages_of state.tables ++ flat_map (λ session. session.undo_pages) state.sessions

-- the first pages hold the space's counters, the directory of undo chains and the definitions of tables
abbrev pub first_page : ℕ
first_page = 16

abbrev pub is_free_beside : List ℕ → ℕ → ℕ → Bool
is_free_beside in_use pages q = nat_le first_page q && (nat_lt q pages && not (is_among in_use q))

abbrev pub is_free : State → ℕ → Bool
is_free state q = is_free_beside (used state) state.pages q

abbrev pub free_beside : List ℕ → ℕ → List ℕ
free_beside in_use pages = filter (λ q. not (is_among in_use q)) (range_with_len first_page (pages - first_page))

-- the pages that are free
abbrev pub free_pages : State → List ℕ
free_pages state = free_beside (used state) state.pages

-- the pages with one more, if there is one
abbrev pub with_option : Option ℕ → List ℕ → List ℕ
with_option None pages = pages
with_option (Some q) pages = q ∷ pages

-- ---- room

-- what one event may take
abbrev pub pages_wanted : ℕ
pages_wanted = 48

abbrev pub counter_limit : ℕ
counter_limit = 2 ^ 62

-- room for a change: pages, and counters that can still rise
abbrev pub has_room : State → Bool
has_room state = nat_le pages_wanted (length (free_pages state)) && (nat_lt state.entries counter_limit && nat_lt state.bytes counter_limit)

-- room for an entry of that tree
abbrev pub has_room_in : State → Tree → Bool
has_room_in state tree = has_room state && nat_lt (counter tree) counter_limit

-- the fewest entries of a part of a divided page (Guttman 1984)
abbrev pub least_fill : ℕ → ℕ
least_fill fanout = max 2 (2 * fanout / 5)
