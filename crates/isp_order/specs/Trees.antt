-- Trees, rows and the entries that tie them together, when they are in order: trees are forests, rows have their keys, values and
-- entries, what undo lists and notes name is there, and each entry has one status (R-trees after Guttman 1984; undo logs and purge
-- as the MySQL 8.0 manual has them for InnoDB; that entries have a status is this project's own).
use Rattle.std.specs.Prelude.{◌≡◌, ◌⊎◌, ◌+◌, ◌≤◌, ◌<◌, ℕ, ℤ, Bool, true, false, List, length, map, filter_map, flat_map, Option, Some, None}
use Rattle.isp_base.specs.Lists.{Has, times}
use Rattle.isp_plain.specs.RowBytes.{row_bytes}
use Rattle.isp_plain.specs.Values.{key_of}
use Rattle.isp_forest.specs.declared.entry.Entry.{Entry}
use Rattle.isp_forest.specs.declared.entry.To.{To}
use Rattle.isp_forest.specs.declared.entry.To.TheVariants.{Child, Row as ToRow}
use Rattle.isp_forest.specs.Tree.{Tree}
use Rattle.isp_forest.specs.Forest.{Forest}
use Rattle.isp_searches.specs.SearchLaws.{IsOnLeaf}
use Rattle.isp_events.specs.Stored.{KeptRow, Leaf, StoredTable, Version, box_in, indexed, keys_of_leaves, kept_at, number_at, present, rows_of, table_at, tree_of}
use Rattle.isp_events.specs.Sessions.{EntryAt, How, by_placing, by_replacing, Image, was_absent, was_there, was_marked, Note, SessionState, session_at, UndoEntry}
use Rattle.isp_events.specs.State.{Queued, dead_entry, dead_row}
use Rattle.isp_events.specs.Views.{first_image_of_all, has_written, version_or}
use Rattle.isp_events.specs.Ways.{IsDefinition, IsStorable}
use Rattle.isp_events.specs.Writing.{are_apart, ascend}
use Rattle.isp_events.specs.Ending.{indexed_in}

-- ---- trees

-- each tree of each table is whole
abbrev pub AreWhole : List StoredTable → Type 0
AreWhole tables = (number column : ℕ) → Has (indexed (table_at tables number)) column → Forest (tree_of (table_at tables number) column)

abbrev pub number_in : To → Option ℕ
number_in (Child page) = None
number_in (ToRow key number) = Some number

abbrev pub row_numbers : List Entry → List ℕ
row_numbers entries = filter_map (λ (e : Entry). number_in e.to) entries

-- the numbers of the entries on its leaves
abbrev pub leaf_numbers : Tree → List ℕ
leaf_numbers tree = flat_map (λ p. row_numbers p.1.entries) tree.pages

abbrev pub numbers_of_trees : List (ℕ × Tree) → List ℕ
numbers_of_trees trees = flat_map (λ t. leaf_numbers t.1) trees

-- those of all trees
abbrev pub all_numbers : List StoredTable → List ℕ
all_numbers tables = flat_map (λ table. numbers_of_trees table.trees) tables

-- no number lies on two places, and each was given
pub record AreNumbered (tables : List StoredTable) (entries : ℕ) : Type 0 where
  pub once : (number : ℕ) → times number (all_numbers tables) ≤ 1
  pub given : (number : ℕ) → Has (all_numbers tables) number → number < entries

-- ---- rows

-- values and numbers that a row at the key may have in a slot of so many bytes
pub record IsStored (table : StoredTable) (key : ℤ) (slot : ℕ) (version : Version) : Type 0 where
  pub storable : IsStorable table.schema version.row
  pub own_key : key_of version.row ≡ key
  pub each_column : length version.numbers ≡ length (indexed table)
  pub fits : row_bytes table.schema version.row ≤ slot

abbrev pub version_kept : KeptRow → Version
version_kept kept = record { row = kept.row; numbers = kept.numbers }

-- columns as CREATE makes them, each with its tree; leaves with pages of their own; keys that rise; and rows as they may be
pub record IsKeyed (table : StoredTable) : Type 0 where
  pub defined : IsDefinition table.schema
  pub columns : indexed table ≡ indexed_in table.schema
  pub apart : are_apart (map (λ (leaf : Leaf). leaf.page) table.leaves) ≡ true
  pub rising : ascend (keys_of_leaves table.leaves) ≡ true
  pub rows : (key : ℤ) (kept : KeptRow) → Has {X = ℤ × KeptRow} (rows_of table) (key, kept) → IsStored table key kept.slot (version_kept kept)

-- no two tables have one name, and each is keyed
pub record AreKeyed (tables : List StoredTable) : Type 0 where
  pub names : (i k : ℕ) → i < length tables → k < length tables
      → (table_at tables (1 + i)).name ≡ (table_at tables (1 + k)).name → i ≡ k
  pub each : (table : StoredTable) → Has tables table → IsKeyed table

-- ---- rows and their entries

abbrev pub leaf_entry : EntryAt → Entry
leaf_entry e = record { b = e.box; to = ToRow e.key e.number }

-- the entry lies on a leaf of its tree
abbrev pub LiesIn : List StoredTable → EntryAt → Type 0
LiesIn tables e = IsOnLeaf (tree_of (table_at tables e.table) e.column) (leaf_entry e) e.key e.number

abbrev pub entry_of : ℕ → ℤ → Version → ℕ → ℕ → EntryAt
entry_of table key version column number = record { table = table; column = column; key = key; number = number; box = box_in version.row column }

-- it has this number for the column
abbrev pub HasNumber : List StoredTable → ℕ → Version → ℕ → ℕ → Type 0
HasNumber tables table version column number = number_at (indexed (table_at tables table)) version.numbers column ≡ Some number

-- of a row, each of its entries lies on its leaf
abbrev pub HasEntries : List StoredTable → ℕ → ℤ → Version → Type 0
HasEntries tables table key version =
    (column number : ℕ) → HasNumber tables table version column number → LiesIn tables (entry_of table key version column number)

abbrev pub StandsAt : List StoredTable → ℕ → ℤ → Version → Type 0
StandsAt tables table key version = present (table_at tables table) key ≡ Some version

-- the session would put this row back
abbrev pub WouldRestore : List SessionState → ℕ → UndoEntry → Version → Type 0
WouldRestore sessions s undo version = Has (session_at sessions s).undo undo × (undo.image ≡ was_there version)

-- each unmarked row, and each unmarked image of an undo list, has its entries
pub record AreEntered (tables : List StoredTable) (sessions : List SessionState) : Type 0 where
  pub rows : (table : ℕ) (key : ℤ) (version : Version) → StandsAt tables table key version → HasEntries tables table key version
  pub images : (s : ℕ) (undo : UndoEntry) (version : Version) → WouldRestore sessions s undo version → HasEntries tables undo.table undo.key version

-- ---- what is noted and queued

abbrev pub is_placing : How → Bool
is_placing by_placing = true
is_placing by_replacing = false

abbrev pub placed_in : How → ℕ → Option ℕ
placed_in by_placing number = Some number
placed_in by_replacing number = None

-- the numbers of the entries that it placed
abbrev pub placed_by : SessionState → List ℕ
placed_by session = filter_map (λ note. placed_in note.how note.entry.number) session.notes

abbrev pub queued_number : Queued → Option ℕ
queued_number (dead_entry e) = Some e.number
queued_number (dead_row table key) = None

abbrev pub queued_numbers : List Queued → List ℕ
queued_numbers queue = filter_map queued_number queue

-- what is noted and what is queued lies on its leaf; an entry is placed once, and queued once, and then noted no more
pub record AreNoted (tables : List StoredTable) (sessions : List SessionState) (queue : List Queued) : Type 0 where
  pub notes : (s : ℕ) (note : Note) → Has (session_at sessions s).notes note → LiesIn tables note.entry
  pub queued : (e : EntryAt) → Has queue (dead_entry e) → LiesIn tables e
  pub placed_once : (number : ℕ) → times number (flat_map placed_by sessions) ≤ 1
  pub queued_once : (number : ℕ) → times number (queued_numbers queue) ≤ 1
  pub apart : (s : ℕ) (note : Note) → Has (session_at sessions s).notes note → Has (queued_numbers queue) note.entry.number → ⊥

-- ---- the status of an entry

-- the row that is committed at the key
abbrev pub committed_version : List StoredTable → List SessionState → ℕ → ℤ → Option Version
committed_version tables sessions table key = version_or (first_image_of_all sessions table key) (present (table_at tables table) key)

-- settled: the committed row has the number for the column
pub record IsSettled (tables : List StoredTable) (sessions : List SessionState) (table column : ℕ) (key : ℤ) (number : ℕ) : Type 0 where
  pub version : Version
  pub committed : committed_version tables sessions table key ≡ Some version
  pub has : HasNumber tables table version column number

-- pending: the session has placed it
abbrev pub IsPending : List SessionState → ℕ → ℕ → Type 0
IsPending sessions s number = Has (placed_by (session_at sessions s)) number

-- dead: it waits to be purged
abbrev pub IsDead : List Queued → ℕ → Type 0
IsDead queue number = Has (queued_numbers queue) number

-- no number is settled, pending and dead at once, nor pending with two sessions
pub record HaveOneStatus (tables : List StoredTable) (sessions : List SessionState) (queue : List Queued) : Type 0 where
  pub settled_alive : (table column : ℕ) (key : ℤ) (number : ℕ) → IsSettled tables sessions table column key number → IsDead queue number → ⊥
  pub settled_done : (table column : ℕ) (key : ℤ) (number s : ℕ) → IsSettled tables sessions table column key number → IsPending sessions s number → ⊥
  pub pending_alive : (number s : ℕ) → IsPending sessions s number → IsDead queue number → ⊥
  pub pending_once : (number s k : ℕ) → IsPending sessions s number → IsPending sessions k number → s ≡ k

-- pending with the session that has written the key
pub record IsOfWriter (sessions : List SessionState) (table : ℕ) (key : ℤ) (number : ℕ) : Type 0 where
  pub session : ℕ
  pub writes : has_written (session_at sessions session) table key ≡ true
  pub pending : IsPending sessions session number

-- each number of the row is settled, or pending with the key's writer
abbrev pub NamesOwn : List StoredTable → List SessionState → ℕ → ℤ → Version → Type 0
NamesOwn tables sessions table key version =
    (column number : ℕ) → HasNumber tables table version column number
    → IsSettled tables sessions table column key number ⊎ IsOfWriter sessions table key number

-- so of each unmarked row and of each unmarked image
pub record AreNamed (tables : List StoredTable) (sessions : List SessionState) : Type 0 where
  pub rows : (table : ℕ) (key : ℤ) (version : Version) → StandsAt tables table key version → NamesOwn tables sessions table key version
  pub images : (s : ℕ) (undo : UndoEntry) (version : Version) → WouldRestore sessions s undo version → NamesOwn tables sessions undo.table undo.key version

-- ---- undo lists

abbrev pub FitsSlot : StoredTable → ℤ → ℕ → Image → Type 0
FitsSlot table key slot was_absent = Unit {0}
FitsSlot table key slot (was_there version) = IsStored table key slot version
FitsSlot table key slot (was_marked version) = IsStored table key slot version

-- at the key there is a slot that holds the image, and the key is one that the session wrote
pub record IsRestorable (tables : List StoredTable) (session : SessionState) (undo : UndoEntry) : Type 0 where
  pub kept : KeptRow
  pub there : kept_at (table_at tables undo.table) undo.key ≡ Some kept
  pub fits : FitsSlot (table_at tables undo.table) undo.key kept.slot undo.image
  pub written : Has {X = ℕ × ℤ} session.written (undo.table, undo.key)

abbrev pub AreRestorable : List StoredTable → List SessionState → Type 0
AreRestorable tables sessions =
    (s : ℕ) (undo : UndoEntry) → Has (session_at sessions s).undo undo → IsRestorable tables (session_at sessions s) undo
