-- A page of an R-tree as bytes: behind the header, from byte 64 on, its entries, each of 32 bytes. What the bytes mean is a
-- node of the forest's definitions; the layout is this project's own.
use Rattle.std.specs.Prelude.{◌≡◌, ℕ, zero, suc, ◌+◌, ◌*◌, ◌≤◌, ℤ, Option, Some, None, List, [], ◌∷◌, ◌++◌, replicate, slice_get}
use Rattle.std.specs.List.{flat_map}
use Rattle.std.specs.Int.{cast_signed, cast_unsigned, w32, w64}
use Rattle.isp_base.specs.Lists.{Has}
use Rattle.isp_format.specs.Control.{most_fanout}
use Rattle.isp_format.specs.Header.{Header, header_of, number_in}
use Rattle.isp_format.specs.Kinds.{content_place, rtree_kind}
use Rattle.isp_format.specs.Numbers.{bytes_of}
use Rattle.isp_mbr.specs.Corners.{Corners}
use Rattle.isp_mbr.specs.Boxes.{IsBox}
use Rattle.isp_forest.specs.declared.entry.Entry.{Entry}
use Rattle.isp_forest.specs.declared.entry.To.{To}
use Rattle.isp_forest.specs.declared.entry.To.TheVariants.{Child, Row}
use Rattle.isp_forest.specs.Tree.{Node}

-- how many bytes an entry has: those of its box, and behind them those that say where it leads
abbrev pub box_size : ℕ
box_size = 16

abbrev pub to_size : ℕ
to_size = 16

abbrev pub entry_size : ℕ
entry_size = box_size + to_size

-- how many entries a page holds at most: as many as the greatest fan-out
abbrev pub most_entries : ℕ
most_entries = most_fanout

-- where the entry with that index stands
abbrev pub entry_place : ℕ → ℕ
entry_place i = content_place + entry_size * i

-- ---- what bytes mean

-- the signed number in the four bytes from a place on
unfoldable pub signed_in : List ℕ → ℕ → ℤ
signed_in bytes at = cast_signed w32 (number_in 4 bytes at)

-- the box from a place on: the first corner, x then y, and the second one, signed numbers of four bytes
unfoldable pub box_in : List ℕ → ℕ → Corners
box_in bytes at = record {
  x1 = signed_in bytes at;
  y1 = signed_in bytes (at + 4);
  x2 = signed_in bytes (at + 8);
  y2 = signed_in bytes (at + 12);
}

-- where an entry leads, on a page of that level: a row's key and the entry's number on a leaf, else a page
unfoldable pub to_in : ℕ → List ℕ → ℕ → To
to_in zero bytes at = Row (cast_signed w64 (number_in 8 bytes at)) (number_in 8 bytes (at + 8))
to_in (suc level) bytes at = Child (record { 0 = number_in 4 bytes at })

unfoldable pub entry_in : ℕ → List ℕ → ℕ → Entry
entry_in level bytes at = record { b = box_in bytes at; to = to_in level bytes (at + box_size) }

-- so many entries from a place on
abbrev pub entries_from : ℕ → List ℕ → ℕ → ℕ → List Entry
entries_from level bytes at zero = []
entries_from level bytes at (suc count) = entry_in level bytes at ∷ entries_from level bytes (at + entry_size) count

-- a page number, 0 being none
abbrev pub link_of : ℕ → Option ℕ
link_of zero = None
link_of (suc n) = Some (suc n)

-- the node that bytes mean
unfoldable pub node_of : List ℕ → Node
node_of bytes = record {
  level = (header_of bytes).level;
  ssn = (header_of bytes).ssn;
  next = link_of (header_of bytes).next;
  entries = entries_from (header_of bytes).level bytes content_place (header_of bytes).count;
}

-- a page that can be read as a node
pub record IsReadable (bytes : List ℕ) : Type 0 where
  pub kind : (header_of bytes).kind ≡ rtree_kind
  pub count : (header_of bytes).count ≤ most_entries
  pub boxes : (e : Entry) → Has (node_of bytes).entries e → IsBox e.b

-- the bytes are a node of that owner and of page q, and mean that node
pub record IsNode (owner q : ℕ) (node : Node) (bytes : List ℕ) : Type 0 where
  pub readable : IsReadable bytes
  pub owner_is : (header_of bytes).owner ≡ owner
  pub own : (header_of bytes).own ≡ q
  pub used : (header_of bytes).used ≡ entry_place (header_of bytes).count
  pub means : node_of bytes ≡ node

-- ---- the bytes of entries

unfoldable pub box_bytes : Corners → List ℕ
box_bytes b = bytes_of 4 (cast_unsigned w32 b.x1) ++ (bytes_of 4 (cast_unsigned w32 b.y1) ++ (bytes_of 4 (cast_unsigned w32 b.x2) ++ bytes_of 4 (cast_unsigned w32 b.y2)))

unfoldable pub row_bytes : ℤ → ℕ → List ℕ
row_bytes key number = bytes_of 8 (cast_unsigned w64 key) ++ bytes_of 8 number

-- twelve free bytes stand behind the child
abbrev pub free_bytes : List ℕ
free_bytes = replicate 12 0

unfoldable pub child_bytes : ℕ → List ℕ
child_bytes page = bytes_of 4 page ++ free_bytes

abbrev pub to_bytes : To → List ℕ
to_bytes (Row key number) = row_bytes key number
to_bytes (Child page) = child_bytes page.0

unfoldable pub entry_bytes : Entry → List ℕ
entry_bytes e = box_bytes e.b ++ to_bytes e.to

abbrev pub entries_bytes : List Entry → List ℕ
entries_bytes entries = flat_map entry_bytes entries

-- these entries stand one behind the other, on a page of that level
abbrev pub StandFrom : ℕ → List ℕ → List Entry → Type 0
StandFrom level bytes entries = (k : ℕ) (e : Entry) → slice_get entries k ≡ Some e → entry_in level bytes (entry_place k) ≡ e

-- a node's header with so many entries
abbrev pub with_count : ℕ → Header → Header
with_count count h = record h { count = count; used = entry_place count }

-- so many entries end there
abbrev pub IsEnd : ℕ → ℕ → Type 0
IsEnd used count = used ≡ entry_place count

-- the header of a node of that owner and of page q
pub record SaysNode (owner q : ℕ) (h : Header) : Type 0 where
  pub owner_is : h.owner ≡ owner
  pub own : h.own ≡ q
  pub used : IsEnd h.used h.count
