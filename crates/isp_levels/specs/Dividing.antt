-- Pages that are divided: which rows of a leaf and which entries of an inner page go to the right page (Bayer and McCreight
-- 1972; where the line is drawn is this project's own), and what becomes of the levels.
use Rattle.std.specs.Prelude.{ℕ, suc, ◌+◌, ◌*◌, ◌-◌, ℤ, Bool, nat_le, nat_lt, List, [], ◌∷◌, ◌++◌, drop, length, take, if◌then◌else◌}
use Rattle.isp_format.specs.Inner.{Name, most_names}
use Rattle.isp_format.specs.Kinds.{content_place}
use Rattle.isp_format.specs.Leaf.{Stored, slot_of, stored_head}
use Rattle.isp_format.specs.Ranges.{page_bytes}
use Rattle.isp_levels.specs.Levels.{InnerNode, Lead, leaf_names, TreeLeaf, least_key}
use Rattle.isp_cells.specs.Rows.{bytes_in, with_put}

-- how many bytes of rows a leaf has at most
abbrev pub leaf_room : ℕ
leaf_room = page_bytes - content_place

-- a leaf of these rows is divided: they have no room on one page
abbrev pub is_divided : List Stored → Bool
is_divided rows = nat_lt leaf_room (bytes_in rows)

-- how many of the rows stay on the left, from the first on: until twice their bytes are at least all bytes
abbrev pub left_rows : ℕ → ℕ → List Stored → ℕ
left_rows all before [] = 0
left_rows all before (s ∷ rows) =
    let now = before + (stored_head + slot_of s) in
    if nat_le all (2 * now) then 1 else suc (left_rows all now rows)

abbrev pub halves : List Stored → ℕ
halves rows = left_rows (bytes_in rows) 0 rows

-- the key of the first row
abbrev pub first_key : List Stored → ℤ
first_key [] = least_key
first_key (s ∷ rows) = s.key

abbrev pub on_leaf : (List Stored → List Stored) → TreeLeaf → TreeLeaf
on_leaf change leaf = record { page = leaf.page; low = leaf.low; rows = change leaf.rows }

-- a leaf with a row put: as it is, or divided, with the right part on that page
abbrev pub divided : ℕ → TreeLeaf → List TreeLeaf
divided page leaf = if is_divided leaf.rows
    then record leaf { rows = take (halves leaf.rows) leaf.rows } ∷ record { page = page; low = first_key (drop (halves leaf.rows) leaf.rows); rows = drop (halves leaf.rows) leaf.rows } ∷ []
    else leaf ∷ []

abbrev pub with_row_put : ℤ → List ℕ → ℕ → TreeLeaf → List TreeLeaf
with_row_put key row page leaf = divided page (on_leaf (with_put key row) leaf)

-- how many entries stay on the left of an inner page with one entry too many
abbrev pub left_names : ℕ
left_names = 169

abbrev pub first_low : ℤ → List Name → ℤ
first_low low [] = low
first_low low (name ∷ names) = name.0

-- an inner page: as it is, or divided, with the right half on that page
abbrev pub divided_node : ℕ → InnerNode → List InnerNode
divided_node page node = if nat_lt most_names (length node.names)
    then record node { names = take left_names node.names } ∷ record { low = first_low node.low (drop left_names node.names); page = page; names = drop left_names node.names } ∷ []
    else node ∷ []

-- ---- a tree while a division is on its way up: the levels above lead to all names but the new one, which goes behind the old one

pub record LacksOne (root : ℕ) (above below : List (List InnerNode)) (leaves : List TreeLeaf) (old new : Name) : Type 0 where
  pub before : List Name
  pub after : List Name
  pub upper : Lead ((least_key, root) ∷ []) above (before ++ (old ∷ after))
  pub lower : Lead (before ++ (old ∷ new ∷ after)) below (leaf_names leaves)
