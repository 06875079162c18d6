-- Rows of now by key, and the rows of the tree that they are.
use Rattle.std.proofs.Common.{◌≡◌, ℕ, suc, ◌≤◌, ℤ, Bool, true, false, List, [], ◌∷◌, length, map, Option, Some, None, refl, sym, ◌∙◌, ap, subst, arith, if◌then◌else◌}
use Rattle.std.specs.Prelude.{All, is_some, not, slice_get}
use Rattle.std.specs.List.{AllByRecursion, flat_map}
use Rattle.std.specs.Option.{option_map}
use Rattle.std.proofs.lemmas.List.Elements.{All-append, All-nil}
use Rattle.isp_format.specs.Leaf.{IsStored, Stored, most_slot}
use Rattle.isp_format.specs.Ranges.{Contents}
use Rattle.isp_plain.specs.declared.value.Row.{Row}
use Rattle.isp_clustered.specs.Cells.{kept_of}
use Rattle.isp_clustered.specs.Rows.{find}
use Rattle.isp_clustered.specs.Trees.{IsTree, Tree, rows_of}
use Rattle.isp_levels.specs.Levels.{LeavesStand, TreeLeaf}
use Rattle.isp_image.specs.Courses.{stood, stood_at}
use Rattle.isp_image.specs.Databases.{Database, FileRow, FileTable, row_key, seen}
use Rattle.isp_image.specs.Files.{IsFileRow, IsSpelling, KeptFile}
use Rattle.isp_image.specs.Keyed.{found}
use Rattle.isp_image.proofs.FileLaws.{stored_of}
use Rattle.isp_image.proofs.KeyedLaws.{found_each, found_key}
use Rattle.isp_image.proofs.ShownLaws.{row_in_is}
use Rattle.isp_image.proofs.StoredLaws.{find_row}
use Rattle.isp_file_laws.specs.Laws.{GetSeesRow, RowIsSeen, RowStands, RowsAreShort}
use Rattle.isp_file_laws.specs.Seen.{is_live}

pub row_is_seen : RowIsSeen
row_is_seen pages contents d place key kept = row_in_is pages contents d place key kept

-- the row that the tree has at the key, by the rows of the file
pub found_in_tree : (pages : ℕ) (contents : Contents) (d : Database) (place : ℕ) (t : FileTable) (key : ℤ) → KeptFile pages contents d → slice_get d.tables place ≡ Some t → find key (rows_of t.tree) ≡ option_map stored_of (found row_key key t.rows)
found_in_tree pages contents d place t key kept is = ap (find key) (kept.each place t is).rows ∙ find_row key t.rows

stood_is : (d : Database) (place : ℕ) (t : FileTable) (key : ℤ) → slice_get d.tables place ≡ Some t → stood_at place key d ≡ found row_key key t.rows
stood_is d place t key is = ap (stood key) is

live_seen : (o : Option FileRow) → is_some (seen o) ≡ is_live (option_map kept_of (option_map stored_of o))
live_seen None = refl
live_seen (Some r) = by r.stored.marked
  where
    by : (b : Bool) → is_some (if b then None else Some r.row) ≡ not b
    by true = refl
    by false = refl

pub get_sees_row : GetSeesRow
get_sees_row pages contents d place t key kept is =
    ap is_some (row_in_is pages contents d place key kept ∙ ap seen (stood_is d place t key is))
    ∙ live_seen (found row_key key t.rows)
    ∙ sym (ap (λ (o : Option Stored). is_live (option_map kept_of o)) (found_in_tree pages contents d place t key kept is))

-- ---- a row that is seen

some_row : (x y : Row) → Some x ≡ Some y → x ≡ y
some_row x y same = cc

none_row : (x : Row) → None ≡ Some x → ⊥
none_row x same = cc

-- a row that is seen stands there, unmarked
pub record SeenRow (o : Option FileRow) (row : Row) : Type 0 where
  pub file : FileRow
  pub is : o ≡ Some file
  pub unmarked : file.stored.marked ≡ false
  pub own : file.row ≡ row

pub seen_row : (o : Option FileRow) (row : Row) → seen o ≡ Some row → SeenRow o row
seen_row None row is = absurd (none_row row is)
seen_row (Some r) row is = by r.stored.marked refl is
  where
    by : (b : Bool) → r.stored.marked ≡ b → (if b then None else Some r.row) ≡ Some row → SeenRow (Some r) row
    by true mark none = absurd (none_row row none)
    by false mark some = record { file = r; is = refl; unmarked = mark; own = some_row r.row row some }

-- ---- rows of a tree are short

some_stored : (x y : Stored) → Some x ≡ Some y → x ≡ y
some_stored x y same = cc

none_stored : (x : Stored) → None ≡ Some x → ⊥
none_stored x same = cc

all_each : (P : Stored → Type 0) (rows : List FileRow) → All P (map stored_of rows) → AllByRecursion (λ (r : FileRow). P r.stored) rows
all_each P [] all = tt
all_each P (r ∷ rows) all = (all 0 r.stored (omega arith), all_each P rows (λ k d inside. all (suc k) d (omega (arith, inside))))

-- each row of a tree has a place on its leaf
leaves_stored : (contents : Contents) (table : ℕ) (leaves : List TreeLeaf) → LeavesStand contents table leaves → All IsStored (flat_map (λ (leaf : TreeLeaf). leaf.rows) leaves)
leaves_stored contents table [] stand = All-nil IsStored
leaves_stored contents table (leaf ∷ leaves) stand = All-append IsStored leaf.rows (flat_map (λ (l : TreeLeaf). l.rows) leaves) stand.0.page.each (leaves_stored contents table leaves stand.1)

pub tree_stored : (pages : ℕ) (contents : Contents) (table root : ℕ) (tree : Tree) → IsTree pages contents table root tree → All IsStored (rows_of tree)
tree_stored pages contents table root tree is = leaves_stored contents table tree.leaves is.levelled.stand

each_stored : (pages : ℕ) (contents : Contents) (d : Database) (place : ℕ) (t : FileTable) → KeptFile pages contents d → slice_get d.tables place ≡ Some t → AllByRecursion (λ (r : FileRow). IsStored r.stored) t.rows
each_stored pages contents d place t kept is =
    let table = kept.each place t is in
    all_each IsStored t.rows (subst (λ (rows : List Stored). All IsStored rows) table.rows (tree_stored pages contents (suc place) t.def.root.0 t.tree table.tree))

short_row : (s : Stored) → IsStored s → length s.row ≤ most_slot
short_row s is = let slot = is.slot in omega (arith, slot)

pub rows_are_short : RowsAreShort
rows_are_short pages contents d place t key s kept is there = by (found row_key key t.rows) refl
  where
    both : option_map stored_of (found row_key key t.rows) ≡ Some s
    both = sym (found_in_tree pages contents d place t key kept is) ∙ there

    by : (o : Option FileRow) → found row_key key t.rows ≡ o → length s.row ≤ most_slot
    by None none = absurd (none_stored s (sym (ap (option_map stored_of) none) ∙ both))
    by (Some r) some =
        subst (λ (x : Stored). length x.row ≤ most_slot) (some_stored r.stored s (sym (ap (option_map stored_of) some) ∙ both))
        (short_row r.stored (found_each row_key (λ (x : FileRow). IsStored x.stored) key t.rows r (each_stored pages contents d place t kept is) some))

pub row_stands : RowStands
row_stands pages contents d place t key row kept is there = record {
  stored = x.file.stored;
  there = found_in_tree pages contents d place t key kept is ∙ ap (option_map stored_of) x.is;
  own = at;
  unmarked = x.unmarked;
  spells = subst (λ (k : ℤ). IsSpelling t.def.schema k x.file.stored.row row) at (subst (λ (r : Row). IsSpelling t.def.schema x.file.stored.key x.file.stored.row r) x.own
      (found_each row_key (IsFileRow t.def.schema) key t.rows x.file (kept.each place t is).each x.is));
  short = short_row x.file.stored (found_each row_key (λ (y : FileRow). IsStored y.stored) key t.rows x.file (each_stored pages contents d place t kept is) x.is);
}
  where
    x : SeenRow (found row_key key t.rows) row
    x = seen_row (found row_key key t.rows) row (sym (row_in_is pages contents d place key kept ∙ ap seen (stood_is d place t key is)) ∙ there)

    at : x.file.stored.key ≡ key
    at = found_key row_key key t.rows x.file x.is
