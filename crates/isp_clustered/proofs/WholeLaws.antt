-- A leaf that is read as a whole: the rows so far, with those that stand ahead, are all rows; and which leaf of a tree it is.
use Rattle.std.proofs.Common.{◌≡◌, ℕ, ◌+◌, ◌^◌, ◌<◌, ◌≤◌, ◌==◌, ℤ, Bool, true, false, List, [], ◌∷◌, ◌++◌, Option, Some, None, refl, sym, ◌∙◌, ap, subst, arith, cond, if◌then◌else◌}
use Rattle.std.specs.Int.{cast_signed, w64}
use Rattle.std.proofs.lemmas.List.{append-nil, append_assoc}
use Rattle.isp_base.specs.Lists.{times}
use Rattle.isp_disk.specs.Moments.{Image}
use Rattle.isp_format.specs.Leaf.{IsLeafPage, Stored, slot_of}
use Rattle.isp_format.specs.Ranges.{Contents, page_of}
use Rattle.isp_cells.specs.Cells.{Stand, cell_of}
use Rattle.isp_cells.specs.LeafPages.{IsLeaf}
use Rattle.isp_cells.specs.declared.cells.Cell.{Cell}
use Rattle.isp_cells.proofs.CellLaws.{first_stands}
use Rattle.isp_levels.specs.Inners.{page_in_leaf}
use Rattle.isp_levels.specs.Levels.{ArePages, IsTreeOf, LeavesStand, TreeLeaf, first_page, leaf_pages, least_key, level_pages, pick_leaf}
use Rattle.isp_levels.proofs.PageLaws.{leaf_alone, leaf_pages_append}
use Rattle.isp_levels.proofs.WayLaws.{least_picks, pages_first, pages_second}
use Rattle.isp_clustered.specs.Leaves.{IsLeafOf, IsWhole, kept_row_of, kept_rows_of, link_of}
use Rattle.isp_clustered.specs.Trees.{IsTree, Tree, first_leaf, leaf_after, leaf_behind, page_in}
use Rattle.isp_clustered.specs.declared.kept.KeptRow.{KeptRow}
use Rattle.isp_clustered.specs.declared.kept.Leaf.{Leaf}

pub record Copied (image : Image) (at to : ℕ) (all : List Stored) (so_far : List KeptRow) : Type 0 where
  pub rest : List Stored
  pub stand : Stand image at to rest
  pub whole : so_far ++ kept_rows_of rest ≡ kept_rows_of all

pub copy_begins : (image : Image) (at to : ℕ) (rows : List Stored) → Stand image at to rows → Copied image at to rows []
copy_begins image at to rows st = record { rest = rows; stand = st; whole = refl }

-- one row more
pub copy_on : (image : Image) (at to next slot : ℕ) (all : List Stored) (so_far : List KeptRow) (row : KeptRow) → at < to → Copied image at to all so_far
    → ((s : Stored) (more : List Stored) → Stand image at to (s ∷ more) → (slot ≡ slot_of s) × (row ≡ kept_row_of s)) → next ≡ at + (13 + slot) → Copied image next to all (so_far ++ row ∷ [])
copy_on image at to next slot all so_far row before c is next_is = by c.rest c.stand c.whole
  where
    by : (rest : List Stored) → Stand image at to rest → so_far ++ kept_rows_of rest ≡ kept_rows_of all → Copied image next to all (so_far ++ row ∷ [])
    by [] st whole = let size : at + 0 ≡ to = st.size in absurd (omega (arith, before, size))
    by (s ∷ rest) st whole =
        let f = first_stands image at to s rest st in
        let one = is s rest st in
        let slot_is = one.0 in
        let moved : at + 13 + slot_of s ≡ next = omega (arith, slot_is, next_is) in
        record {
          rest = rest;
          stand = subst (λ (p : ℕ). Stand image p to rest) moved f.next;
          whole = append_assoc so_far (row ∷ []) (kept_rows_of rest) ∙ (λ i. so_far ++ (one.1 i ∷ kept_rows_of rest)) ∙ whole;
        }

-- at the end nothing stands ahead
pub copy_ends : (image : Image) (at to : ℕ) (all : List Stored) (so_far : List KeptRow) → to ≤ at → Copied image at to all so_far → so_far ≡ kept_rows_of all
copy_ends image at to all so_far behind c = by c.rest c.stand c.whole
  where
    by : (rest : List Stored) → Stand image at to rest → so_far ++ kept_rows_of rest ≡ kept_rows_of all → so_far ≡ kept_rows_of all
    by [] st whole = sym (append-nil so_far) ∙ whole
    by (s ∷ rest) st whole =
        let f = first_stands image at to s rest st in
        let inside = f.inside in
        absurd (omega (arith, behind, inside))

-- before the end a row stands ahead
pub copy_some : (image : Image) (at to : ℕ) (all : List Stored) (so_far : List KeptRow) (cell : Option Cell) → at < to → Copied image at to all so_far
    → ((s : Stored) (more : List Stored) → Stand image at to (s ∷ more) → cell ≡ Some (cell_of s)) → cell ≡ None → ⊥
copy_some image at to all so_far cell before c cell_is none = by c.rest c.stand
  where
    by : (rest : List Stored) → Stand image at to rest → ⊥
    by [] st = let size : at + 0 ≡ to = st.size in absurd (omega (arith, before, size))
    by (s ∷ rest) st = let bad : None ≡ Some (cell_of s) = sym none ∙ cell_is s rest st in cc

pub cell_same : (a b : Cell) → Some a ≡ Some b → a ≡ b
cell_same a b same = cc

pub rows_same : (xs ys : List KeptRow) (found : Option (List KeptRow)) → found ≡ Some xs → found ≡ Some ys → xs ≡ ys
rows_same xs ys found one two = let same : Some xs ≡ Some ys = sym one ∙ two in cc

-- ---- leaves of a tree

-- the leaf behind a page, parted from the others
pub record IsBehind (leaves : List TreeLeaf) (page : ℕ) (leaf : TreeLeaf) : Type 0 where
  pub before : List TreeLeaf
  pub was : TreeLeaf
  pub after : List TreeLeaf
  pub is : leaves ≡ before ++ (was ∷ leaf ∷ after)
  pub page_is : was.page ≡ page

first_some : (leaves : List TreeLeaf) (leaf : TreeLeaf) → first_leaf leaves ≡ Some leaf → (rest : List TreeLeaf) × (leaves ≡ leaf ∷ rest)
first_some [] leaf is = absurd (let no : None ≡ Some leaf = is in cc)
first_some (x ∷ rest) leaf is = let same : x ≡ leaf = cc in (rest, λ i. same i ∷ rest)

same_number : (a b : ℕ) → (a == b) ≡ true → a ≡ b
same_number a b is = grind (arith, is)

behind_is : (leaves : List TreeLeaf) (page : ℕ) (leaf : TreeLeaf) → leaf_behind leaves page ≡ Some leaf → IsBehind leaves page leaf
behind_is [] page leaf is = absurd (let no : None ≡ Some leaf = is in cc)
behind_is (x ∷ leaves) page leaf is = by (x.page == page) refl is (behind_is leaves page leaf)
  where
    by : (b : Bool) → (x.page == page) ≡ b → (if b then first_leaf leaves else leaf_behind leaves page) ≡ Some leaf → (leaf_behind leaves page ≡ Some leaf → IsBehind leaves page leaf) → IsBehind (x ∷ leaves) page leaf
    by true here first deeper =
        let rest = first_some leaves leaf first in
        record { before = []; was = x; after = rest.0; is = λ i. x ∷ rest.1 i; page_is = same_number x.page page here }
    by false here first deeper =
        let b = deeper first in
        record { before = x ∷ b.before; was = b.was; after = b.after; is = λ i. x ∷ b.is i; page_is = b.page_is }

-- behind a leaf that stands once come those that stand behind it
behind_one : (before after : List TreeLeaf) (leaf : TreeLeaf) → times leaf.page (leaf_pages before) ≡ 0 → leaf_behind (before ++ (leaf ∷ after)) leaf.page ≡ first_leaf after
behind_one [] after leaf none = let same : (leaf.page == leaf.page) ≡ true = grind arith in ap (λ (b : Bool). if b then first_leaf after else leaf_behind after leaf.page) same
behind_one (x ∷ before) after leaf none =
    ap (λ (b : Bool). if b then first_leaf (before ++ (leaf ∷ after)) else leaf_behind (before ++ (leaf ∷ after)) leaf.page) (by (x.page == leaf.page) none)
    ∙ behind_one before after leaf (let rest : times leaf.page (leaf_pages (x ∷ before)) ≡ 0 = none in omega (arith, rest))
  where
    by : (b : Bool) → cond b 1 0 + times leaf.page (leaf_pages before) ≡ 0 → b ≡ false
    by false is = refl
    by true is = absurd (omega (arith, is))

link_is : (pages : ℕ) (after : List TreeLeaf) → ArePages pages (leaf_pages after) → link_of (first_page after) ≡ page_in (first_leaf after)
link_is pages [] are = refl
link_is pages (leaf ∷ after) are = some leaf.page are.0
  where
    some : (n : ℕ) → 16 ≤ n → (if n == 0 then None else Some n) ≡ Some n
    some n large = let no : (n == 0) ≡ false = grind (arith, large) in ap (λ (b : Bool). if b then None else Some n) no

-- what is answered of a leaf of a tree
pub leaf_of : (pages : ℕ) (contents : Contents) (table root : ℕ) (tree : Tree) (before after : List TreeLeaf) (leaf : TreeLeaf) (answer : Leaf) → IsTree pages contents table root tree → tree.leaves ≡ before ++ (leaf ∷ after) → answer.page.0 ≡ leaf.page → IsWhole (first_page after) leaf.rows answer → IsLeafOf tree leaf answer
leaf_of pages contents table root tree before after leaf answer is parts page whole =
    let was : IsTreeOf pages contents table root is.levels (before ++ (leaf ∷ after)) = subst (λ (l : List TreeLeaf). IsTreeOf pages contents table root is.levels l) parts is.levelled in
    let alone = leaf_alone is.levels before after leaf was.once in
    let outer : ArePages pages (leaf_pages before ++ (leaf.page ∷ leaf_pages after)) = subst (ArePages pages) (leaf_pages_append before (leaf ∷ after)) (pages_first pages (leaf_pages (before ++ (leaf ∷ after))) (level_pages is.levels) was.inside) in
    let behind = (pages_second pages (leaf_pages before) (leaf.page ∷ leaf_pages after) outer).2 in
    record {
      page = page;
      rows = whole.rows_are;
      next = whole.next_is ∙ link_is pages after behind ∙ sym (ap page_in (ap (λ (l : List TreeLeaf). leaf_behind l leaf.page) parts ∙ behind_one before after leaf alone.left));
    }

-- ---- the leaf to the right

pub record RightOf (pages : ℕ) (contents : Contents) (table : ℕ) (tree : Tree) (page : ℕ) (leaf : TreeLeaf) : Type 0 where
  pub rows : List Stored
  pub stands : IsLeafPage (page_of contents page) table page leaf.page rows
  pub from : 1 ≤ leaf.page
  pub inside : leaf.page < pages
  pub next : ℕ
  pub right : IsLeafPage (page_of contents leaf.page) table leaf.page next leaf.rows
  pub answers : (answer : Leaf) → answer.page.0 ≡ leaf.page → IsWhole next leaf.rows answer → IsLeafOf tree leaf answer

two_stand : (contents : Contents) (table : ℕ) (before after : List TreeLeaf) (was leaf : TreeLeaf) → LeavesStand contents table (before ++ (was ∷ leaf ∷ after)) → IsLeaf (page_of contents was.page) table was.page leaf.page was.rows × IsLeaf (page_of contents leaf.page) table leaf.page (first_page after) leaf.rows
two_stand contents table [] after was leaf stand = (stand.0, stand.1.0)
two_stand contents table (x ∷ before) after was leaf stand = two_stand contents table before after was leaf stand.1

two_pages : (pages : ℕ) (before after : List TreeLeaf) (was leaf : TreeLeaf) (inner : List ℕ) → ArePages pages (leaf_pages (before ++ (was ∷ leaf ∷ after)) ++ inner) → (16 ≤ leaf.page) × (leaf.page < pages)
two_pages pages [] after was leaf inner are = (are.2.0, are.2.1)
two_pages pages (x ∷ before) after was leaf inner are = two_pages pages before after was leaf inner are.2

one_more : (before after : List TreeLeaf) (was leaf : TreeLeaf) → before ++ (was ∷ leaf ∷ after) ≡ (before ++ (was ∷ [])) ++ (leaf ∷ after)
one_more [] after was leaf = refl
one_more (x ∷ before) after was leaf = λ i. x ∷ one_more before after was leaf i

pub right_is : (pages : ℕ) (contents : Contents) (table root : ℕ) (tree : Tree) (page : ℕ) (leaf : TreeLeaf) → IsTree pages contents table root tree → leaf_after tree (Some page) ≡ Some leaf → RightOf pages contents table tree page leaf
right_is pages contents table root tree page leaf is some =
    let b = behind_is tree.leaves page leaf some in
    let was : IsTreeOf pages contents table root is.levels (b.before ++ (b.was ∷ leaf ∷ b.after)) = subst (λ (l : List TreeLeaf). IsTreeOf pages contents table root is.levels l) b.is is.levelled in
    let both = two_stand contents table b.before b.after b.was leaf was.stand in
    let inside = two_pages pages b.before b.after b.was leaf (level_pages is.levels) was.inside in
    let from = inside.0 in
    record {
      rows = b.was.rows;
      stands = subst (λ (p : ℕ). IsLeafPage (page_of contents p) table p leaf.page b.was.rows) b.page_is both.0.page;
      from = omega (arith, from);
      inside = inside.1;
      next = first_page b.after;
      right = both.1.page;
      answers = λ answer page whole. leaf_of pages contents table root tree (b.before ++ (b.was ∷ [])) b.after leaf answer is (b.is ∙ one_more b.before b.after b.was leaf) page whole;
    }

-- ---- the first leaf

pub record FirstOf (contents : Contents) (table : ℕ) (tree : Tree) (page : ℕ) (leaf : TreeLeaf) : Type 0 where
  pub page_is : leaf.page ≡ page
  pub next : ℕ
  pub stands : IsLeafPage (page_of contents page) table page next leaf.rows
  pub answers : (answer : Leaf) → answer.page.0 ≡ page → IsWhole next leaf.rows answer → IsLeafOf tree leaf answer

some_page : (a b : ℕ) → Some a ≡ Some b → a ≡ b
some_page a b same = cc

-- the least key goes to the first leaf
pub first_is : (pages : ℕ) (contents : Contents) (table root : ℕ) (tree : Tree) (key : ℤ) (page : ℕ) (leaf : TreeLeaf) → IsTree pages contents table root tree → key ≡ least_key → page_in_leaf (pick_leaf key tree.leaves) ≡ Some page → leaf_after tree None ≡ Some leaf → FirstOf contents table tree page leaf
first_is pages contents table root tree key page leaf is least at_page first =
    let rest = first_some tree.leaves leaf first in
    let was : IsTreeOf pages contents table root is.levels (leaf ∷ rest.0) = subst (λ (l : List TreeLeaf). IsTreeOf pages contents table root is.levels l) rest.1 is.levelled in
    let picked : pick_leaf key (leaf ∷ rest.0) ≡ Some leaf = ap (λ (k : ℤ). pick_leaf k (leaf ∷ rest.0)) least ∙ least_picks root is.levels leaf rest.0 was.levelled in
    let page_is : leaf.page ≡ page = some_page leaf.page page (ap page_in_leaf (sym picked) ∙ ap (λ (l : List TreeLeaf). page_in_leaf (pick_leaf key l)) (sym rest.1) ∙ at_page) in
    record {
      page_is = page_is;
      next = first_page rest.0;
      stands = subst (λ (p : ℕ). IsLeafPage (page_of contents p) table p (first_page rest.0) leaf.rows) page_is was.stand.0.page;
      answers = λ answer at whole. leaf_of pages contents table root tree [] rest.0 leaf answer is rest.1 (at ∙ sym page_is) whole;
    }

-- the least key of the code
pub least_is : cast_signed w64 (2 ^ 63) ≡ least_key
unfolding least_key
least_is = refl
