-- A tree: its rows rise, it is one at most, it stands on its own pages alone, and what is changed at one key of each leaf is
-- changed at that key of all rows.
use Rattle.std.proofs.Common.{◌≡◌, ℕ, suc, ◌+◌, ◌<◌, ◌≤◌, ◌==◌, ℤ, Bool, true, false, List, [], ◌∷◌, ◌++◌, Option, Some, None, refl, sym, ◌∙◌, ap, subst, arith}
use Rattle.std.specs.Prelude.{All, cond, int_le, int_lt}
use Rattle.std.specs.Option.{option_map}
use Rattle.std.proofs.lemmas.Int.{ints}
use Rattle.isp_base.specs.Lists.{times}
use Rattle.isp_format.specs.Leaf.{IsStored, Stored}
use Rattle.isp_format.specs.Ranges.{Contents, page_of}
use Rattle.isp_page.specs.Touched.{KeepsPages}
use Rattle.isp_cells.specs.LeafPages.{IsLeaf}
use Rattle.isp_cells.specs.Rows.{Rises, find, marked_at, rewritten, with_mark, with_row, without}
use Rattle.isp_levels.specs.Edits.{ChangesAt, IsAt}
use Rattle.isp_levels.specs.Inners.{page_in_leaf}
use Rattle.isp_levels.specs.Levels.{LeavesStand, LieFrom, TreeLeaf, first_page, leaf_pages, least_key, level_pages, pick_leaf}
use Rattle.isp_levels.proofs.AmongLaws.{all_changed, find_at, picked_at}
use Rattle.isp_levels.proofs.LevelLaws.{all_rise}
use Rattle.isp_levels.proofs.PageLaws.{leaf_stands}
use Rattle.isp_levels.proofs.StandLaws.{Same, levelled_local, levelled_once, same_first, same_second}
use Rattle.isp_levels.proofs.WayLaws.{least_le}
use Rattle.isp_clustered.specs.Found.{IsFoundLeaf}
use Rattle.isp_clustered.specs.Trees.{IsTree, Tree, on_leaves, one_leaf, pages_of, rows_of}

-- the rows of a tree rise by key
pub tree_rises : (pages : ℕ) (contents : Contents) (table root : ℕ) (tree : Tree) → IsTree pages contents table root tree → Rises (rows_of tree)
tree_rises pages contents table root tree is = all_rise tree.leaves is.levelled.levelled.ranged

-- two trees of one page are equal
pub tree_once : (pages other_pages : ℕ) (contents : Contents) (table other_table root : ℕ) (tree other : Tree) → IsTree pages contents table root tree → IsTree other_pages contents other_table root other → tree ≡ other
tree_once pages other_pages contents table other_table root tree other one two =
    let same = levelled_once pages other_pages contents table other_table root one.levels two.levels tree.leaves other.leaves one.levelled two.levelled in
    let inner : tree.inner ≡ other.inner = one.inner_is ∙ ap level_pages same.levels_are ∙ sym two.inner_is in
    (λ i. record { leaves = same.leaves_are i; inner = inner i })

same_of : (old new : Contents) (pages : List ℕ) → All (λ page. page_of new page ≡ page_of old page) pages → Same pages old new
same_of old new [] all = tt
same_of old new (page ∷ pages) all = (all 0 page (omega arith), same_of old new pages (λ k d h. all (suc k) d (omega (arith, h))))

-- contents with the same bytes on a tree's pages have the same tree
pub tree_local : (pages : ℕ) (old new : Contents) (table root : ℕ) (tree : Tree) → All (λ page. page_of new page ≡ page_of old page) (pages_of tree) → IsTree pages old table root tree → IsTree pages new table root tree
tree_local pages old new table root tree same is =
    let all : Same (leaf_pages tree.leaves ++ level_pages is.levels) old new = subst (λ (l : List ℕ). Same (leaf_pages tree.leaves ++ l) old new) is.inner_is (same_of old new (pages_of tree) same) in
    record {
      levels = is.levels;
      levelled = levelled_local pages old new table root is.levels tree.leaves (same_second (leaf_pages tree.leaves) (level_pages is.levels) old new all) (same_first (leaf_pages tree.leaves) (level_pages is.levels) old new all) is.levelled;
      inner_is = is.inner_is;
    }

-- the same where other pages than these are kept
pub tree_same : (touched : ℕ → Bool) (pages : ℕ) (old new : Contents) (table root : ℕ) (tree : Tree) → KeepsPages touched old new → All (λ page. touched page ≡ false) (pages_of tree) → IsTree pages old table root tree → IsTree pages new table root tree
tree_same touched pages old new table root tree keeps out is = tree_local pages old new table root tree (λ k d h. keeps _ (out k d h)) is

-- ---- a change at one key

pub edited_rows : (key : ℤ) (change : List Stored → List Stored) (pages : ℕ) (contents : Contents) (table root : ℕ) (tree : Tree) → ChangesAt key change → IsTree pages contents table root tree → rows_of (on_leaves change tree) ≡ change (rows_of tree)
edited_rows key change pages contents table root tree changes is = all_changed key change tree.leaves changes is.levelled.levelled.ranged

pub written_at : (key : ℤ) (row : List ℕ) (marked : Bool) → ChangesAt key (with_row key row marked)
written_at key row marked = record { made = option_map (rewritten row marked); none = refl; keyed = λ s is. is; is = λ rows. refl }

pub marks_at : (key : ℤ) → ChangesAt key (marked_at key)
marks_at key = record { made = option_map with_mark; none = refl; keyed = λ s is. is; is = λ rows. refl }

pub drops_at : (key : ℤ) → ChangesAt key (without key)
drops_at key = record { made = λ o. None; none = refl; keyed = λ s is. tt; is = λ rows. refl }

-- ---- the leaf of a key

some_page : (a b : ℕ) → Some a ≡ Some b → a ≡ b
some_page a b same = cc

pub record LeafOn (contents : Contents) (page table : ℕ) (key : ℤ) (tree : Tree) : Type 0 where
  pub leaf : TreeLeaf
  pub picked : pick_leaf key tree.leaves ≡ Some leaf
  pub at : IsAt key tree.leaves leaf
  pub page_is : leaf.page ≡ page
  pub stands : IsLeaf (page_of contents page) table page (first_page at.after) leaf.rows

pub leaf_on : (pages : ℕ) (contents : Contents) (table root : ℕ) (tree : Tree) (key : ℤ) (page : ℕ) → IsTree pages contents table root tree → page_in_leaf (pick_leaf key tree.leaves) ≡ Some page → LeafOn contents page table key tree
leaf_on pages contents table root tree key page is at_page = by (pick_leaf key tree.leaves) refl at_page
  where
    by : (o : Option TreeLeaf) → pick_leaf key tree.leaves ≡ o → page_in_leaf o ≡ Some page → LeafOn contents page table key tree
    by None picked none = absurd (let no : None ≡ Some page = none in cc)
    by (Some leaf) picked some =
        let at = picked_at key tree.leaves leaf picked in
        let page_is = some_page leaf.page page some in
        let there = leaf_stands contents table at.before at.after leaf (subst (λ (l : List TreeLeaf). LeavesStand contents table l) at.is is.levelled.stand) in
        record {
          leaf = leaf;
          picked = picked;
          at = at;
          page_is = page_is;
          stands = subst (λ (p : ℕ). IsLeaf (page_of contents p) table p (first_page at.after) leaf.rows) page_is there;
        }

pub found_row : (pages : ℕ) (contents : Contents) (table root : ℕ) (tree : Tree) (key : ℤ) (bytes : List ℕ) (page used : ℕ) → IsTree pages contents table root tree → (f : IsFoundLeaf bytes page used table key tree) → find key (rows_of tree) ≡ find key f.leaf.rows
found_row pages contents table root tree key bytes page used is f = find_at key tree.leaves f.leaf f.picked is.levelled.levelled.ranged

-- ---- a leaf is a tree

rows_from : (rows : List Stored) → All IsStored rows → LieFrom least_key rows
rows_from [] each = tt
rows_from (s ∷ rows) each = (not_below s.key (least_le s.key (each 0 s (omega arith)).key), rows_from rows (λ k d h. each (suc k) d (omega (arith, h))))
  where
    not_below : (key : ℤ) → int_le least_key key ≡ true → int_lt key least_key ≡ false
    not_below key is = grind (arith, ints)

once_one : (p root : ℕ) → times p (root ∷ []) ≤ 1
once_one p root = by (root == p)
  where
    by : (b : Bool) → cond b 1 0 + 0 ≤ 1
    by true = omega arith
    by false = omega arith

pub leaf_tree : (pages : ℕ) (contents : Contents) (table root : ℕ) (rows : List Stored) → IsLeaf (page_of contents root) table root 0 rows → Rises rows → 16 ≤ root → root < pages → IsTree pages contents table root (one_leaf root rows)
leaf_tree pages contents table root rows leaf rises from to = record {
  levels = [];
  levelled = record {
    levelled = record {
      leads = refl;
      begin = tt;
      forked = tt;
      ranged = (rows_from rows leaf.page.each, rises, tt, tt);
    };
    inner = tt;
    stand = (leaf, tt);
    inside = (from, to, tt);
    once = λ p. once_one p root;
    most = omega arith;
  };
  inner_is = refl;
}
