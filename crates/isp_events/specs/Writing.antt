-- A row is written behind its entries: put with a slot of its own, rewritten in the slot that is there, or marked; what stood there
-- joins the undo list (clustered index and undo log as in the MySQL 8.0 manual on InnoDB; slots are this project's own).
use Rattle.std.specs.Prelude.{◌≡◌, ℕ, ℤ, ◌+◌, ◌==◌, ◌&&◌, ◌||◌, Bool, true, false, not, cond, int_lt, is_none, nat_lt, List, [], ◌∷◌, ◌++◌, drop, flat_map, length, map, slice_set, take, Option, Some, None}
use Rattle.std.specs.List.{list_all, list_any}
use Rattle.std.specs.Option.{option_map, option_or, unwrap_or}
use Rattle.std.specs.BTreeMap.{insert_entry}
use Rattle.std.specs.Ordering.{int_cmp}
use Rattle.isp_plain.specs.declared.value.Row.{Row}
use Rattle.isp_plain.specs.declared.value.Schema.{Schema}
use Rattle.isp_plain.specs.RowBytes.{row_bytes}
use Rattle.isp_forest.specs.Steps.{is_among}
use Rattle.isp_events.specs.Stored.{KeptRow, Leaf, StoredTable, box_in, change_row, change_table, indexed, keys_of_leaves, kept_at, number_at, table_at}
use Rattle.isp_events.specs.Sessions.{by_replacing, Change, Image, was_absent, was_there, was_marked, Note, Phase, writing, SessionState, session_at, Work, phase_with}
use Rattle.isp_events.specs.State.{State, is_empty, is_free, with_option}
use Rattle.isp_events.specs.Lines.{Written, was_put, was_rewritten, was_given_mark}

-- ---- the row

-- the row lies there in no slot, or in one that is too small
abbrev pub needs_slot : ℕ → Option KeptRow → Bool
needs_slot bytes None = true
needs_slot bytes (Some kept) = nat_lt kept.slot bytes

abbrev pub slot_after : ℕ → Option KeptRow → ℕ
slot_after bytes None = bytes
slot_after bytes (Some kept) = cond (nat_lt kept.slot bytes) bytes kept.slot

abbrev pub numbers_kept : Option KeptRow → List ℕ
numbers_kept None = []
numbers_kept (Some kept) = kept.numbers

-- the number placed for the column, or the one that stands
abbrev pub placed_for : List (ℕ × ℕ) → ℕ → Option ℕ
placed_for [] column = None
placed_for (p ∷ placed) column = cond (p.0 == column) (Some p.1) (placed_for placed column)

abbrev pub number_for : List ℕ → List (ℕ × ℕ) → List ℕ → ℕ → ℕ
number_for columns placed standing column = unwrap_or (option_or (placed_for placed column) (number_at columns standing column)) 0

abbrev pub numbers_after : List ℕ → List (ℕ × ℕ) → List ℕ → List ℕ
numbers_after columns placed standing = map (number_for columns placed standing) columns

-- the row as it is kept then
abbrev pub row_after : Schema → List ℕ → List (ℕ × ℕ) → Option KeptRow → Row → KeptRow
row_after schema columns placed old new = record {
  row = new;
  numbers = numbers_after columns placed (numbers_kept old);
  mark = false;
  slot = slot_after (row_bytes schema new) old;
}

abbrev pub marked : KeptRow → KeptRow
marked kept = record kept { mark = true }

-- ---- its leaf

-- What a put leaves open: the page to which a lone leaf moves first; the page of the leaf that has the key's place; the page of the
-- right part where that leaf is divided, and how many rows stay on the left; further pages of the tree, and of the undo chain.
pub record Put : Type 0 where
  pub moved : Option ℕ
  pub leaf : ℕ
  pub divided : Option (ℕ × ℕ)
  pub clustered : List ℕ
  pub undo : List ℕ

abbrev pub with_page : Option ℕ → Leaf → Leaf
with_page None leaf = leaf
with_page (Some page) leaf = record leaf { page = page }

-- a lone leaf may move, and leaves its page to the tree
abbrev pub moved_leaves : Option ℕ → List Leaf → List Leaf
moved_leaves moved (leaf ∷ []) = with_page moved leaf ∷ []
moved_leaves moved leaves = leaves

abbrev pub pages_left : Option ℕ → List Leaf → List ℕ
pages_left None leaves = []
pages_left (Some page) leaves = map (λ leaf. leaf.page) leaves

abbrev pub parts_of : Option (ℕ × ℕ) → Leaf → List Leaf
parts_of None leaf = leaf ∷ []
parts_of (Some d) leaf = record leaf { rows = take d.1 leaf.rows } ∷ record { page = d.0; rows = drop d.1 leaf.rows } ∷ []

abbrev pub with_row_in : ℤ → KeptRow → Leaf → Leaf
with_row_in key kept leaf = record leaf { rows = insert_entry int_cmp leaf.rows key kept }

abbrev pub put_in : Put → ℤ → KeptRow → Leaf → List Leaf
put_in p key kept leaf = cond (leaf.page == p.leaf) (parts_of p.divided (with_row_in key kept leaf)) (leaf ∷ [])

abbrev pub leaves_after_put : Put → ℤ → KeptRow → List Leaf → List Leaf
leaves_after_put p key kept leaves = flat_map (put_in p key kept) (moved_leaves p.moved leaves)

abbrev pub table_after_put : Put → ℤ → KeptRow → StoredTable → StoredTable
table_after_put p key kept table = record table {
  leaves = leaves_after_put p key kept table.leaves;
  others = table.others ++ (pages_left p.moved table.leaves ++ p.clustered);
}

abbrev pub table_with_row : ℤ → (KeptRow → KeptRow) → StoredTable → StoredTable
table_with_row key f table = record table { leaves = change_row key f table.leaves }

abbrev pub table_with_new : Put → ℤ → List (ℕ × ℕ) → Row → StoredTable → StoredTable
table_with_new p key placed new table =
    let old = kept_at table key in
    let kept = row_after table.schema (indexed table) placed old new in
    cond (needs_slot (row_bytes table.schema new) old) (table_after_put p key kept table) (table_with_row key (λ other. kept) table)

-- the table with the change's new row, or its mark
abbrev pub table_after_row : Put → Change → List (ℕ × ℕ) → Option Row → StoredTable → StoredTable
table_after_row p change placed (Some new) table = table_with_new p change.key placed new table
table_after_row p change placed None table = table_with_row change.key marked table

-- the change puts a row
abbrev pub is_put : StoredTable → Change → Option Row → Bool
is_put table change None = false
is_put table change (Some new) = needs_slot (row_bytes table.schema new) (kept_at table change.key)

abbrev pub bytes_put : StoredTable → Option Row → ℕ
bytes_put table None = 0
bytes_put table (Some new) = 13 + row_bytes table.schema new

-- ---- what the session notes

abbrev pub image_of_kept : KeptRow → Image
image_of_kept kept = cond kept.mark (was_marked (record { row = kept.row; numbers = kept.numbers })) (was_there (record { row = kept.row; numbers = kept.numbers }))

abbrev pub image_of : Option KeptRow → Image
image_of None = was_absent
image_of (Some kept) = image_of_kept kept

abbrev pub replaced_note : ℕ → ℤ → ℕ → Row → ℕ → ℕ → Note
replaced_note table key statement row column number = record {
  how = by_replacing;
  entry = record { table = table; column = column; key = key; number = number; box = box_in row column };
  statement = statement;
}

-- of the column's number, where the new row has another one or is none
abbrev pub replaced_in : ℕ → ℤ → ℕ → Row → ℕ → Option ℕ → Option ℕ → List Note
replaced_in table key statement row column None new = []
replaced_in table key statement row column (Some number) None = replaced_note table key statement row column number ∷ []
replaced_in table key statement row column (Some number) (Some other) =
    cond (number == other) [] (replaced_note table key statement row column number ∷ [])

abbrev pub numbers_of_new : List ℕ → List (ℕ × ℕ) → Option KeptRow → Option Row → List ℕ
numbers_of_new columns placed old None = []
numbers_of_new columns placed old (Some new) = numbers_after columns placed (numbers_kept old)

-- an unmarked row's numbers that the new row lacks, by column
abbrev pub replaced_notes : ℕ → Change → ℕ → List ℕ → List (ℕ × ℕ) → Option KeptRow → List Note
replaced_notes table change statement columns placed None = []
replaced_notes table change statement columns placed (Some kept) =
    cond kept.mark []
    (flat_map (λ column. replaced_in table change.key statement kept.row column (number_at columns kept.numbers column)
    (number_at columns (numbers_of_new columns placed (Some kept) change.new) column)) columns)

-- the change at hand is done
abbrev pub phase_after_row : StoredTable → Work → Phase → Phase
phase_after_row table work (writing done (change ∷ left) progress) = phase_with work.statement (indexed table) (done ++ change ∷ []) left
phase_after_row table work phase = phase

abbrev pub work_after_row : StoredTable → Work → Work
work_after_row table work = record work { phase = phase_after_row table work work.phase }

abbrev pub session_after_row : StoredTable → ℕ → Change → List (ℕ × ℕ) → List ℕ → SessionState → SessionState
session_after_row table number change placed pages session = record session {
  undo = session.undo ++ record { table = number; key = change.key; image = image_of (kept_at table change.key) } ∷ [];
  notes = session.notes ++ replaced_notes number change session.number (indexed table) placed (kept_at table change.key);
  written = session.written ++ (number, change.key) ∷ [];
  undo_pages = session.undo_pages ++ pages;
  work = option_map (work_after_row table) session.work;
}

-- ---- the event

-- each key below the next
abbrev pub ascend : List ℤ → Bool
ascend [] = true
ascend (k ∷ []) = true
ascend (k ∷ l ∷ keys) = int_lt k l && ascend (l ∷ keys)

abbrev pub are_apart : List ℕ → Bool
are_apart [] = true
are_apart (q ∷ pages) = not (is_among pages q) && are_apart pages

abbrev pub with_right : Option (ℕ × ℕ) → List ℕ → List ℕ
with_right None pages = pages
with_right (Some d) pages = d.0 ∷ pages

-- the pages that a row event takes
abbrev pub pages_putting : Put → List ℕ
pages_putting p = with_option p.moved (with_right p.divided (p.clustered ++ p.undo))

-- a leaf moves only where it is alone; the leaf of the key's place is there, and with the row the keys of the chain rise
abbrev pub fits_leaves : Put → ℤ → List Leaf → List Leaf → Bool
fits_leaves p key leaves after =
    (is_none p.moved || (length leaves == 1)) && (list_any (λ leaf. leaf.page == p.leaf) (moved_leaves p.moved leaves) && ascend (keys_of_leaves after))

abbrev pub fits_put : Put → Change → List (ℕ × ℕ) → StoredTable → Bool
fits_put p change placed table = fits_leaves p change.key table.leaves (table_after_row p change placed change.new table).leaves

-- a row that is not put changes no page of the tree
abbrev pub takes_undo_alone : Put → Bool
takes_undo_alone p = is_none p.moved && (is_none p.divided && is_empty p.clustered)

-- the pages that are taken are free and differ, and the row fits there
pub record MayWriteRow (state : State) (number : ℕ) (change : Change) (placed : List (ℕ × ℕ)) (p : Put) : Type 0 where
  pub free : list_all (is_free state) (pages_putting p) ≡ true
  pub apart : are_apart (pages_putting p) ≡ true
  pub fits : cond (is_put (table_at state.tables number) change change.new) (fits_put p change placed (table_at state.tables number)) (takes_undo_alone p) ≡ true

abbrev pub after_row : State → ℕ → ℕ → Change → List (ℕ × ℕ) → Put → State
after_row state s number change placed p =
    let table = table_at state.tables number in
    record state {
      tables = change_table number (table_after_row p change placed change.new) state.tables;
      bytes = cond (is_put table change change.new) (state.bytes + bytes_put table change.new) state.bytes;
      sessions = slice_set state.sessions s (session_after_row table number change placed p.undo (session_at state.sessions s));
    }

abbrev pub written_as : StoredTable → Change → Option Row → Written
written_as table change None = was_given_mark
written_as table change (Some new) = cond (needs_slot (row_bytes table.schema new) (kept_at table change.key)) was_put was_rewritten
