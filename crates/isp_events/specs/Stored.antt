-- Tables as they are kept: rows with their delete marks on a chain of clustered leaves, and an R-tree for each indexed column
-- (clustered and spatial indexes and delete marks as in the MySQL 8.0 manual on InnoDB; the numbers that tie a row to its
-- entries, and the slots, are this project's own). Tables have the numbers 1, 2, 3 and so on, in their order.
use Rattle.std.specs.Prelude.{ℕ, suc, ℤ, ◌==◌, Bool, cond, List, [], ◌∷◌, ◌++◌, map, filter_map, flat_map, slice_get, Option, Some, None}
use Rattle.std.specs.Option.{option_map, option_and_then}
use Rattle.std.specs.Map.{lookup}
use Rattle.std.specs.BTreeMap.{is_at}
use Rattle.std.specs.Ordering.{int_cmp, int_eq}
use Rattle.isp_mbr.specs.Corners.{Corners}
use Rattle.isp_plain.specs.declared.value.Row.{Row}
use Rattle.isp_plain.specs.declared.value.Schema.{Schema}
use Rattle.isp_plain.specs.declared.value.Value.{Value}
use Rattle.isp_plain.specs.declared.value.Value.TheVariants.{Geo}
use Rattle.isp_plain.specs.Values.{box_of, no_box}
use Rattle.isp_forest.specs.Tree.{Tree, numbers}

-- a row as it is kept: its values; the number of its entry in each indexed column, in the columns' order; the delete mark; and
-- the bytes of its slot
pub record KeptRow : Type 0 where
  pub row : Row
  pub numbers : List ℕ
  pub mark : Bool
  pub slot : ℕ

-- a clustered leaf: its page, and its rows by their keys
pub record Leaf : Type 0 where
  pub page : ℕ
  pub rows : List (ℤ × KeptRow)

-- a table: its name and columns, the chain of its leaves, its other clustered pages, and for each indexed column the column's
-- number and the tree
pub record StoredTable : Type 0 where
  pub name : List ℕ
  pub schema : Schema
  pub leaves : List Leaf
  pub others : List ℕ
  pub trees : List (ℕ × Tree)

-- ---- rows

-- a row as it is seen, with the numbers of its entries
pub record Version : Type 0 where
  pub row : Row
  pub numbers : List ℕ

-- its rows, one leaf after another
abbrev pub rows_of : StoredTable → List (ℤ × KeptRow)
rows_of table = flat_map (λ leaf. leaf.rows) table.leaves

abbrev pub keys_of_leaves : List Leaf → List ℤ
keys_of_leaves leaves = map (λ e. e.0) (flat_map (λ leaf. leaf.rows) leaves)

-- what is kept at the key
abbrev pub kept_at : StoredTable → ℤ → Option KeptRow
kept_at table key = lookup (is_at (int_cmp key)) (rows_of table)

-- a marked row is none
abbrev pub version_of : KeptRow → Option Version
version_of kept = cond kept.mark None (Some (record { row = kept.row; numbers = kept.numbers }))

abbrev pub row_of : Option Version → Option Row
row_of version = option_map (λ v. v.row) version

-- the unmarked row at the key
abbrev pub present : StoredTable → ℤ → Option Version
present table key = option_and_then version_of (kept_at table key)

-- the unmarked rows of these, by their keys
abbrev pub row_with_key : ℤ → Option Row → Option (ℤ × Row)
row_with_key key None = None
row_with_key key (Some row) = Some (key, row)

abbrev pub unmarked : List (ℤ × KeptRow) → List (ℤ × Row)
unmarked rows = filter_map (λ e. row_with_key e.0 (row_of (version_of e.1))) rows

-- what is kept at the key changes so
abbrev pub changed_at_key : ℤ → (KeptRow → KeptRow) → List (ℤ × KeptRow) → List (ℤ × KeptRow)
changed_at_key key f rows = map (λ e. (e.0, cond (int_eq e.0 key) (f e.1) e.1)) rows

abbrev pub change_row : ℤ → (KeptRow → KeptRow) → List Leaf → List Leaf
change_row key f leaves = map (λ (leaf : Leaf). record leaf { rows = changed_at_key key f leaf.rows }) leaves

-- the leaf that stands first, and the one behind that of this page
abbrev pub first_leaf : List Leaf → Option Leaf
first_leaf [] = None
first_leaf (leaf ∷ leaves) = Some leaf

abbrev pub leaf_behind : List Leaf → ℕ → Option Leaf
leaf_behind [] page = None
leaf_behind (leaf ∷ leaves) page = cond (leaf.page == page) (first_leaf leaves) (leaf_behind leaves page)

-- the next leaf to go over, after the one of this page
abbrev pub leaf_after : List Leaf → Option ℕ → Option Leaf
leaf_after leaves None = first_leaf leaves
leaf_after leaves (Some page) = leaf_behind leaves page

-- ---- columns

-- its indexed columns
abbrev pub indexed : StoredTable → List ℕ
indexed table = map (λ t. t.0) table.trees

abbrev pub no_tree : Tree
no_tree = record { root = 0; pages = [] }

-- the tree of the column; one without pages, where it has none
abbrev pub tree_among : List (ℕ × Tree) → ℕ → Tree
tree_among [] column = no_tree
tree_among (t ∷ trees) column = cond (t.0 == column) t.1 (tree_among trees column)

abbrev pub tree_of : StoredTable → ℕ → Tree
tree_of table column = tree_among table.trees column

abbrev pub change_tree : ℕ → (Tree → Tree) → List (ℕ × Tree) → List (ℕ × Tree)
change_tree column f trees = map (λ t. (t.0, cond (t.0 == column) (f t.1) t.1)) trees

-- the number for the column, where these are the numbers for these columns
abbrev pub number_at : List ℕ → List ℕ → ℕ → Option ℕ
number_at [] numbers column = None
number_at (c ∷ columns) [] column = None
number_at (c ∷ columns) (n ∷ numbers) column = cond (c == column) (Some n) (number_at columns numbers column)

-- the box of the row's geometry in the column
abbrev pub box_of_value : Option Value → Corners
box_of_value (Some (Geo form)) = box_of form
box_of_value _ = no_box

abbrev pub box_in : Row → ℕ → Corners
box_in row column = box_of_value (slice_get row.values column)

-- ---- tables by their numbers

abbrev pub no_table : StoredTable
no_table = record { name = []; schema = record { columns = [] }; leaves = []; others = []; trees = [] }

abbrev pub table_from : ℕ → List StoredTable → ℕ → StoredTable
table_from k [] number = no_table
table_from k (table ∷ tables) number = cond (k == number) table (table_from (suc k) tables number)

-- the table of that number; one without columns and rows, where there is none
abbrev pub table_at : List StoredTable → ℕ → StoredTable
table_at tables number = table_from 1 tables number

abbrev pub changed_from : ℕ → ℕ → (StoredTable → StoredTable) → List StoredTable → List StoredTable
changed_from k number f [] = []
changed_from k number f (table ∷ tables) = cond (k == number) (f table) table ∷ changed_from (suc k) number f tables

-- the table of that number changes so
abbrev pub change_table : ℕ → (StoredTable → StoredTable) → List StoredTable → List StoredTable
change_table number f tables = changed_from 1 number f tables

-- all pages of a table
abbrev pub pages_of : StoredTable → List ℕ
pages_of table = map (λ leaf. leaf.page) table.leaves ++ (table.others ++ flat_map (λ t. numbers t.1.pages) table.trees)
