-- What events tell, as data and not as bytes: each line has a turn, whose it is, and what happened. From lines alone, and what the
-- script's texts do to transactions, one reads the answers and who waits for whom.
use Rattle.std.specs.Prelude.{ℕ, ℤ, ◌==◌, Bool, true, false, not, cond, List, [], ◌∷◌, ◌++◌, filter, filter_map, flat_map, fold, map, slice_set, Option, Some, None}
use Rattle.std.specs.BTreeSet.{insert_key}
use Rattle.std.specs.Ordering.{nat_cmp}
use Rattle.isp_mbr.specs.Corners.{Corners}
use Rattle.isp_mbr.specs.declared.predicate.Predicate.{Predicate}
use Rattle.isp_reclock.specs.declared.entries.Blocker.{Blocker}
use Rattle.isp_reclock.specs.declared.entries.Held.{Held}
use Rattle.isp_reclock.specs.declared.entries.Lock.{Lock}
use Rattle.isp_reclock.specs.declared.modes.Mode.{Mode}
use Rattle.isp_reclock.specs.Order.{held_cmp}
use Rattle.isp_reclock.specs.Tables.{held_by}
use Rattle.isp_forest.specs.Steps.{is_among}
use Rattle.isp_serial.specs.declared.script.Script.{Script}
use Rattle.isp_serial.specs.Answers.{Answer}
use Rattle.isp_serial.specs.Script.{text_at}
use Rattle.isp_serial.specs.Serial.{effect_of}
use Rattle.isp_serial.specs.Transactions.{Language, ends}
use Rattle.isp_events.specs.State.{TreeSearch, ended, no_waits, session_numbers, without}

-- whose line it is: a session's, with its statement's number, the purge's, that of a flush or that of a list of the locks
pub data Whose : Type 0 where
  of_session : ℕ → ℕ → Whose
  of_purge : Whose
  of_flush : Whose
  of_locks : Whose

-- a session that stands in the way of an entry, and the predicate of its search
pub record On : Type 0 where
  pub session : ℕ
  pub predicate : Predicate

-- what is listed of a session's locks: a table, a key, or a predicate with the pages that its search is on
pub data Listed : Type 0 where
  listed_table : ℕ → ℕ → Mode → Listed
  listed_key : ℕ → ℕ → ℤ → Mode → Listed
  listed_predicate : ℕ → ℕ → ℕ → Predicate → List ℕ → Listed

-- how a row was written: put with a slot of its own, into the slot that is there, or with a mark
pub data Written : Type 0 where
  was_put : Written
  was_rewritten : Written
  was_given_mark : Written

-- a visit: the tree's table and column, the page, whether the search was on it already, what it remembers newly, with the
-- sequence numbers, and the key of each entry found
pub record Visit : Type 0 where
  pub table : ℕ
  pub column : ℕ
  pub page : ℕ
  pub again : Bool
  pub pushed : List (ℕ × ℕ)
  pub found : List ℤ

-- a placing: the tree's table and column, the leaf, the entry's number, how many searches of others were tested, the sessions
-- and pages of searches that percolated, the old and the new page of each split from the leaf up, and the raised page
pub record Placed : Type 0 where
  pub table : ℕ
  pub column : ℕ
  pub leaf : ℕ
  pub number : ℕ
  pub tested : ℕ
  pub percolated : List (ℕ × ℕ)
  pub parted : List (ℕ × ℕ)
  pub raised : Option ℕ

-- an event that only a trace prints; tables, columns and pages by their numbers
pub data Traced : Type 0 where
  locked_table : ℕ → Mode → Traced
  locked_key : ℕ → ℤ → Mode → Traced
  visited_page : Visit → Traced
  stepped_to : ℕ → ℕ → ℕ → Traced
  found_stale : ℕ → ℕ → Traced
  placed_entry : Placed → Traced
  wrote_row : ℕ → ℤ → Written → Traced
  scanned_leaf : ℕ → ℕ → Traced
  found_full : Traced
  undid : ℕ → ℤ → Traced
  purged_entry : ℕ → ℕ → ℤ → ℕ → Traced
  purged_row : ℕ → ℤ → Traced
  left_row : ℕ → ℤ → Traced
  flushed : ℕ → Traced

-- what a line tells: an answer by its text; the locks; a wait for a table, for a key, or for an entry with the leaf that it
-- would be placed on; a deadlock by its members and its victim; or an event that only a trace prints
pub data Told : Type 0 where
  answer : List ℕ → Told
  lock_list : List Listed → Told
  waits_for_table : ℕ → Mode → List Blocker → Told
  waits_for_key : ℕ → ℤ → Mode → List Blocker → Told
  waits_to_insert : ℕ → ℕ → Corners → ℕ → List On → Told
  deadlock : List ℕ → ℕ → Told
  traced : Traced → Told

pub record Line : Type 0 where
  pub turn : ℕ
  pub whose : Whose
  pub told : Told

-- ---- what is printed without a trace

abbrev pub is_traced : Told → Bool
is_traced (traced t) = true
is_traced _ = false

-- the lines that are printed without a trace too
abbrev pub untraced : List Line → List Line
untraced lines = filter (λ line. not (is_traced line.told)) lines

-- ---- the lists of locks

abbrev pub listed_as : ℕ → ℕ → Option ℤ → Mode → Listed
listed_as s table None mode = listed_table s table mode
listed_as s table (Some key) mode = listed_key s table key mode

abbrev pub listed_held : ℕ → Held → Listed
listed_held s held = listed_as s held.table held.key held.mode

abbrev pub is_search_of : ℕ → TreeSearch → Bool
is_search_of s x = x.search.session == s

-- pages rising, each once
abbrev pub pages_rising : List ℕ → List ℕ
pages_rising pages = fold (insert_key nat_cmp) [] pages

abbrev pub listed_search : TreeSearch → Listed
listed_search x = listed_predicate x.search.session x.table x.column x.search.predicate (pages_rising x.search.on)

-- a session's locks: tables by number and mode, keys by table, key and mode, predicates in order of beginning
abbrev pub listed_of : List Lock → List TreeSearch → ℕ → List Listed
listed_of locks searches s =
    map (listed_held s) (fold (insert_key held_cmp) [] (held_by locks s)) ++ map listed_search (filter (is_search_of s) searches)

-- those of all sessions, by session
abbrev pub locks_listed : List Lock → List TreeSearch → List Listed
locks_listed locks searches = flat_map (listed_of locks searches) session_numbers

-- ---- the answers

abbrev pub answer_by : ℕ → Whose → List ℕ → Option Answer
answer_by turn (of_session s number) text = Some (record { turn = turn; session = s; number = number; text = text })
answer_by turn _ text = None

abbrev pub answer_told : ℕ → Whose → Told → Option Answer
answer_told turn whose (answer text) = answer_by turn whose text
answer_told turn whose _ = None

-- the answer that a line tells
abbrev pub answer_in : Line → Option Answer
answer_in line = answer_told line.turn line.whose line.told

abbrev pub answers_in : List Line → List Answer
answers_in lines = filter_map answer_in lines

-- ---- who waits for whom

-- as far as the lines tell: whom each session waits for, and which sessions are inside a transaction
pub record Edges : Type 0 where
  pub waits : List (List ℕ)
  pub inside : List ℕ

abbrev pub no_edges : Edges
no_edges = record { waits = no_waits; inside = [] }

abbrev pub edges_after_end : Bool → ℕ → Edges → Edges
edges_after_end ends s edges = record {
  waits = cond ends (ended edges.waits s) (slice_set edges.waits s []);
  inside = cond ends (without s edges.inside) (s ∷ edges.inside);
}

-- whoever is answered waits for nobody
abbrev pub edges_after_answer : Script → Language → Option Answer → Edges → Edges
edges_after_answer script language None edges = edges
edges_after_answer script language (Some a) edges =
    edges_after_end (ends (is_among edges.inside a.session) (effect_of language (text_at script a.session a.number)) a) a.session edges

abbrev pub with_wait : Whose → List ℕ → Edges → Edges
with_wait (of_session s number) list edges = record edges { waits = slice_set edges.waits s list }
with_wait _ list edges = edges

abbrev pub edges_told : Whose → Told → Edges → Edges
edges_told whose (waits_for_table table mode by) edges = with_wait whose (map (λ b. b.trx) by) edges
edges_told whose (waits_for_key table key mode by) edges = with_wait whose (map (λ b. b.trx) by) edges
edges_told whose (waits_to_insert table column box leaf by) edges = with_wait whose (map (λ b. b.session) by) edges
edges_told whose (deadlock members victim) edges = record edges { waits = slice_set edges.waits victim [] }
edges_told whose _ edges = edges

abbrev pub edges_after : Script → Language → Edges → List Line → Edges
edges_after script language edges [] = edges
edges_after script language edges (line ∷ lines) =
    edges_after script language (edges_after_answer script language (answer_in line) (edges_told line.whose line.told edges)) lines

-- who waits for whom, as these lines tell
abbrev pub edges_of : Script → Language → List Line → List (List ℕ)
edges_of script language lines = (edges_after script language no_edges lines).waits
