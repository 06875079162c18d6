-- The rows of a table, leaf by leaf.
use Rattle.std.specs.Prelude.{◌≡◌, ℕ, ◌==◌, ℤ, List, [], ◌∷◌, drop, length, take, if◌then◌else◌, Option, Some, None}
use Rattle.isp_base.specs.declared.page_no.PageNo.{PageNo}
use Rattle.isp_image.specs.Databases.{FileRow, FileTable, shown}
use Rattle.isp_levels.specs.Levels.{TreeLeaf}
use Rattle.isp_plain.specs.declared.statement.Statement.{Statement}
use Rattle.isp_plain.specs.declared.value.Row.{Row}
use Rattle.isp_plain.specs.declared.value.Schema.{Schema}
use Rattle.isp_work.specs.Finding.{found_in}
use Rattle.isp_scan.specs.declared.leaves.LeafFound.{LeafFound}

-- rows that are read at once
abbrev pub Piece : Type 0
Piece = List (ℤ × Row)

-- those of each of the leaves, on which these rows stand
abbrev pub pieces_of : List TreeLeaf → List FileRow → List Piece
pieces_of [] rows = []
pieces_of (leaf ∷ leaves) rows = shown (take (length leaf.rows) rows) ∷ pieces_of leaves (drop (length leaf.rows) rows)

-- those of the leaves behind the one on that page
abbrev pub pieces_behind : ℕ → List TreeLeaf → List FileRow → List Piece
pieces_behind page [] rows = []
pieces_behind page (leaf ∷ leaves) rows =
    if leaf.page == page then pieces_of leaves (drop (length leaf.rows) rows) else pieces_behind page leaves (drop (length leaf.rows) rows)

-- the rows of the table that aren't marked, leaf by leaf
abbrev pub leaf_pieces : FileTable → List Piece
leaf_pieces t = pieces_of t.tree.leaves t.rows

-- those of the leaves behind that page; of all, where none is named
abbrev pub pieces_after : FileTable → Option ℕ → List Piece
pieces_after t None = leaf_pieces t
pieces_after t (Some page) = pieces_behind page t.tree.leaves t.rows

pub record IsBehind (t : FileTable) (after : Option ℕ) (left : List Piece) : Type 0 where
  pub is : pieces_after t after ≡ left

-- there is a piece
pub record HasPiece (pieces : List Piece) : Type 0 where
  pub first : Piece
  pub later : List Piece
  pub is : pieces ≡ first ∷ later

-- behind that page stand the pieces that are left, if there are any
abbrev pub IsNext : FileTable → Option PageNo → List Piece → Type 0
IsNext t None left = left ≡ []
IsNext t (Some page) left = HasPiece left × IsBehind t (Some page.0) left

-- this is what the statement finds in the piece; and where the pieces behind it stand
pub record IsLeafFound (schema : Schema) (statement : Statement) (t : FileTable) (piece : Piece) (left : List Piece) (answer : LeafFound) : Type 0 where
  pub found : answer.found ≡ found_in schema statement piece
  pub next : IsNext t answer.next left
