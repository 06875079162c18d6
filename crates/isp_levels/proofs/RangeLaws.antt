-- Leaves whose keys lie in their ranges: what a change of one leaf's rows keeps, and a division in two.
use Rattle.std.proofs.Common.{◌≡◌, ℤ, true, false, List, [], ◌∷◌, ◌++◌, Option, Some, None, refl, sym, ◌∙◌, ap, subst, arith}
use Rattle.std.specs.Prelude.{int_lt}
use Rattle.std.proofs.lemmas.Int.{ints}
use Rattle.isp_format.specs.Leaf.{Stored}
use Rattle.isp_levels.specs.Edits.{KeyBelow}
use Rattle.isp_levels.specs.Levels.{AllBegin, AllForked, BeginsAt, InnerNode, LieBelow, LieFrom, LiesBefore, Ranged, TreeLeaf}
use Rattle.isp_cells.specs.Rows.{IsBelowAll, Rises, behind, below, exchanged, find, one_or_none}
use Rattle.isp_cells.proofs.RowLaws.{HasKey, exchanged_rises, parted}

-- ---- keys

lt_from : (a b c : ℤ) → int_lt a b ≡ true → int_lt c b ≡ false → int_lt a c ≡ true
lt_from a b c less from = grind (arith, ints)

from_lt : (low a b : ℤ) → int_lt a low ≡ false → int_lt a b ≡ true → int_lt low b ≡ true
from_lt low a b from less = grind (arith, ints)

from_from : (low a b : ℤ) → int_lt a low ≡ false → int_lt a b ≡ true → int_lt b low ≡ false
from_from low a b from less = grind (arith, ints)

itself : (a : ℤ) → int_lt a a ≡ false
itself a = grind (arith, ints)

below_from : (a b : ℤ) → int_lt a b ≡ true → int_lt b a ≡ false
below_from a b less = grind (arith, ints)

pub lie_below_on : (low high : ℤ) (rows : List Stored) → LieBelow low rows → int_lt high low ≡ false → LieBelow high rows
lie_below_on low high [] lie from = tt
lie_below_on low high (s ∷ rows) lie from = (lt_from s.key low high lie.0 from, lie_below_on low high rows lie.1 from)

-- ---- rows in two parts

from_first : (low : ℤ) (xs ys : List Stored) → LieFrom low (xs ++ ys) → LieFrom low xs
from_first low [] ys lie = tt
from_first low (x ∷ xs) ys lie = (lie.0, from_first low xs ys lie.1)

from_second : (low : ℤ) (xs ys : List Stored) → LieFrom low (xs ++ ys) → LieFrom low ys
from_second low [] ys lie = lie
from_second low (x ∷ xs) ys lie = from_second low xs ys lie.1

from_both : (low : ℤ) (xs ys : List Stored) → LieFrom low xs → LieFrom low ys → LieFrom low (xs ++ ys)
from_both low [] ys one other = other
from_both low (x ∷ xs) ys one other = (one.0, from_both low xs ys one.1 other)

lie_first : (high : ℤ) (xs ys : List Stored) → LieBelow high (xs ++ ys) → LieBelow high xs
lie_first high [] ys lie = tt
lie_first high (x ∷ xs) ys lie = (lie.0, lie_first high xs ys lie.1)

lie_second : (high : ℤ) (xs ys : List Stored) → LieBelow high (xs ++ ys) → LieBelow high ys
lie_second high [] ys lie = lie
lie_second high (x ∷ xs) ys lie = lie_second high xs ys lie.1

pub lie_both : (high : ℤ) (xs ys : List Stored) → LieBelow high xs → LieBelow high ys → LieBelow high (xs ++ ys)
lie_both high [] ys one other = other
lie_both high (x ∷ xs) ys one other = (one.0, lie_both high xs ys one.1 other)

under_second : (key : ℤ) (xs ys : List Stored) → IsBelowAll key (xs ++ ys) → IsBelowAll key ys
under_second key [] ys all = all
under_second key (x ∷ xs) ys all = under_second key xs ys all.1

under_first : (key : ℤ) (xs ys : List Stored) → IsBelowAll key (xs ++ ys) → IsBelowAll key xs
under_first key [] ys all = tt
under_first key (x ∷ xs) ys all = (all.0, under_first key xs ys all.1)

rises_first : (xs ys : List Stored) → Rises (xs ++ ys) → Rises xs
rises_first [] ys rises = tt
rises_first (x ∷ xs) ys rises = (under_first x.key xs ys rises.0, rises_first xs ys rises.1)

rises_second : (xs ys : List Stored) → Rises (xs ++ ys) → Rises ys
rises_second [] ys rises = rises
rises_second (x ∷ xs) ys rises = rises_second xs ys rises.1

-- the first part lies below the first row of the second; the second from there on
first_below : (s : Stored) (xs ys : List Stored) → Rises (xs ++ (s ∷ ys)) → LieBelow s.key xs
first_below s [] ys rises = tt
first_below s (x ∷ xs) ys rises = ((under_second x.key xs (s ∷ ys) rises.0).0, first_below s xs ys rises.1)

all_from : (key : ℤ) (rows : List Stored) → IsBelowAll key rows → LieFrom key rows
all_from key [] all = tt
all_from key (s ∷ rows) all = (below_from key s.key all.0, all_from key rows all.1)

-- ---- a leaf with other rows in its range

-- which leaves lie where is told by where they begin, and by the rows of those before
other_leaf : (b leaf other : TreeLeaf) (before after : List TreeLeaf) → other.low ≡ leaf.low → LiesBefore b (before ++ (leaf ∷ after)) → LiesBefore b (before ++ (other ∷ after))
other_leaf b leaf other [] after low lies = (ap (int_lt b.low) low ∙ lies.0, subst (λ (k : ℤ). LieBelow k b.rows) (sym low) lies.1, lies.2)
other_leaf b leaf other (x ∷ before) after low lies = (lies.0, lies.1, other_leaf b leaf other before after low lies.2)

pub ranged_with : (before after : List TreeLeaf) (leaf other : TreeLeaf) → other.low ≡ leaf.low → LieFrom leaf.low other.rows → Rises other.rows → LiesBefore other after → Ranged (before ++ (leaf ∷ after)) → Ranged (before ++ (other ∷ after))
ranged_with [] after leaf other low from rises lies ranged = (subst (λ (k : ℤ). LieFrom k other.rows) (sym low) from, rises, lies, ranged.3)
ranged_with (b ∷ before) after leaf other low from rises lies ranged =
    (ranged.0, ranged.1, other_leaf b leaf other before after low ranged.2, ranged_with before after leaf other low from rises lies ranged.3)

-- rows with one exchanged at a key of the range stay in it
from_exchanged : (low key : ℤ) (row : Option Stored) (rows : List Stored) → HasKey key row → int_lt key low ≡ false → LieFrom low rows → LieFrom low (exchanged key row rows)
from_exchanged low key row rows has from lie =
    let parts = subst (LieFrom low) (parted key rows) lie in
    let rest = from_second low (below key rows) (one_or_none (find key rows) ++ behind key rows) parts in
    from_both low (below key rows) (one_or_none row ++ behind key rows) (from_first low (below key rows) (one_or_none (find key rows) ++ behind key rows) parts)
    (from_both low (one_or_none row) (behind key rows) (one row has) (from_second low (one_or_none (find key rows)) (behind key rows) rest))
  where
    one : (row : Option Stored) → HasKey key row → LieFrom low (one_or_none row)
    one None has = tt
    one (Some s) has = (ap (λ (k : ℤ). int_lt k low) has ∙ from, tt)

lie_exchanged : (high key : ℤ) (row : Option Stored) (rows : List Stored) → HasKey key row → int_lt key high ≡ true → LieBelow high rows → LieBelow high (exchanged key row rows)
lie_exchanged high key row rows has less lie =
    let parts = subst (LieBelow high) (parted key rows) lie in
    let rest = lie_second high (below key rows) (one_or_none (find key rows) ++ behind key rows) parts in
    lie_both high (below key rows) (one_or_none row ++ behind key rows) (lie_first high (below key rows) (one_or_none (find key rows) ++ behind key rows) parts)
    (lie_both high (one_or_none row) (behind key rows) (one row has) (lie_second high (one_or_none (find key rows)) (behind key rows) rest))
  where
    one : (row : Option Stored) → HasKey key row → LieBelow high (one_or_none row)
    one None has = tt
    one (Some s) has = (ap (λ (k : ℤ). int_lt k high) has ∙ less, tt)

lies_exchanged : (leaf : TreeLeaf) (key : ℤ) (row : Option Stored) (after : List TreeLeaf) → HasKey key row → KeyBelow key after → LiesBefore leaf after → LiesBefore (record leaf { rows = exchanged key row leaf.rows }) after
lies_exchanged leaf key row [] has under lies = tt
lies_exchanged leaf key row (x ∷ after) has under lies = (lies.0, lie_exchanged x.low key row leaf.rows has under.0 lies.1, lies_exchanged leaf key row after has under.1 lies.2)

leaf_of : (before after : List TreeLeaf) (leaf : TreeLeaf) → Ranged (before ++ (leaf ∷ after)) → Ranged (leaf ∷ after)
leaf_of [] after leaf ranged = ranged
leaf_of (b ∷ before) after leaf ranged = leaf_of before after leaf ranged.3

pub ranged_exchanged : (before after : List TreeLeaf) (leaf : TreeLeaf) (key : ℤ) (row : Option Stored) → HasKey key row → int_lt key leaf.low ≡ false → KeyBelow key after → Ranged (before ++ (leaf ∷ after)) → Ranged (before ++ (record leaf { rows = exchanged key row leaf.rows } ∷ after))
ranged_exchanged before after leaf key row has from under ranged =
    let here = leaf_of before after leaf ranged in
    ranged_with before after leaf (record leaf { rows = exchanged key row leaf.rows }) refl (from_exchanged leaf.low key row leaf.rows has from here.0) (exchanged_rises key row leaf.rows has here.1) (lies_exchanged leaf key row after has under here.2) ranged

-- ---- a leaf in two

two_leaves : (b leaf left right : TreeLeaf) (before after : List TreeLeaf) → left.low ≡ leaf.low → int_lt right.low leaf.low ≡ false → LiesBefore b (before ++ (leaf ∷ after)) → LiesBefore b (before ++ (left ∷ right ∷ after))
two_leaves b leaf left right [] after low from lies =
    (ap (int_lt b.low) low ∙ lies.0, subst (λ (k : ℤ). LieBelow k b.rows) (sym low) lies.1, (lt_from b.low leaf.low right.low lies.0 from, lie_below_on leaf.low right.low b.rows lies.1 from, lies.2))
two_leaves b leaf left right (x ∷ before) after low from lies = (lies.0, lies.1, two_leaves b leaf left right before after low from lies.2)

right_lies : (leaf right : TreeLeaf) (s : Stored) (xs ys : List Stored) (after : List TreeLeaf) → leaf.rows ≡ xs ++ (s ∷ ys) → right.low ≡ s.key → right.rows ≡ s ∷ ys → LiesBefore leaf after → LiesBefore right after
right_lies leaf right s xs ys [] rows low right_rows lies = tt
right_lies leaf right s xs ys (x ∷ after) rows low right_rows lies =
    let second : LieBelow x.low (s ∷ ys) = lie_second x.low xs (s ∷ ys) (subst (LieBelow x.low) rows lies.1) in
    (ap (λ (k : ℤ). int_lt k x.low) low ∙ second.0, subst (LieBelow x.low) (sym right_rows) second, right_lies leaf right s xs ys after rows low right_rows lies.2)

left_lies : (leaf left : TreeLeaf) (xs more : List Stored) (after : List TreeLeaf) → leaf.rows ≡ xs ++ more → left.low ≡ leaf.low → left.rows ≡ xs → LiesBefore leaf after → LiesBefore left after
left_lies leaf left xs more [] rows low left_rows lies = tt
left_lies leaf left xs more (x ∷ after) rows low left_rows lies =
    let first : LieBelow x.low xs = lie_first x.low xs more (subst (LieBelow x.low) rows lies.1) in
    (ap (λ (k : ℤ). int_lt k x.low) low ∙ lies.0, subst (LieBelow x.low) (sym left_rows) first, left_lies leaf left xs more after rows low left_rows lies.2)

-- the rows of a leaf go to two, neither of which is empty; the right one begins at the key of its first row
pub ranged_divided : (before after : List TreeLeaf) (leaf left right : TreeLeaf) (r s : Stored) (xs ys : List Stored) → leaf.rows ≡ (r ∷ xs) ++ (s ∷ ys) → left.low ≡ leaf.low → left.rows ≡ r ∷ xs → right.low ≡ s.key → right.rows ≡ s ∷ ys
    → Ranged (before ++ (leaf ∷ after)) → Ranged (before ++ (left ∷ right ∷ after))
ranged_divided [] after leaf left right r s xs ys rows left_low left_rows right_low right_rows ranged =
    let from : LieFrom leaf.low ((r ∷ xs) ++ (s ∷ ys)) = subst (LieFrom leaf.low) rows ranged.0 in
    let rises : Rises ((r ∷ xs) ++ (s ∷ ys)) = subst Rises rows ranged.1 in
    let under : LieBelow s.key (r ∷ xs) = first_below s (r ∷ xs) ys rises in
    let second : Rises (s ∷ ys) = rises_second (r ∷ xs) (s ∷ ys) rises in
    let begins : int_lt leaf.low s.key ≡ true = from_lt leaf.low r.key s.key from.0 under.0 in
    let right_from : LieFrom s.key (s ∷ ys) = (itself s.key, all_from s.key ys second.0) in (
      subst (λ (k : ℤ). LieFrom k left.rows) (sym left_low) (subst (LieFrom leaf.low) (sym left_rows) (from_first leaf.low (r ∷ xs) (s ∷ ys) from)),
      subst Rises (sym left_rows) (rises_first (r ∷ xs) (s ∷ ys) rises),
      (
        ap (λ (k : ℤ). int_lt k right.low) left_low ∙ ap (int_lt leaf.low) right_low ∙ begins,
        subst (λ (k : ℤ). LieBelow k left.rows) (sym right_low) (subst (LieBelow s.key) (sym left_rows) under),
        left_lies leaf left (r ∷ xs) (s ∷ ys) after rows left_low left_rows ranged.2,
      ),
      (
        subst (λ (k : ℤ). LieFrom k right.rows) (sym right_low) (subst (LieFrom s.key) (sym right_rows) right_from),
        subst Rises (sym right_rows) second,
        right_lies leaf right s (r ∷ xs) ys after rows right_low right_rows ranged.2,
        ranged.3,
      ),
    )
ranged_divided (b ∷ before) after leaf left right r s xs ys rows left_low left_rows right_low right_rows ranged =
    let here = leaf_of before after leaf ranged.3 in
    let from : LieFrom leaf.low ((r ∷ xs) ++ (s ∷ ys)) = subst (LieFrom leaf.low) rows here.0 in
    let rises : Rises ((r ∷ xs) ++ (s ∷ ys)) = subst Rises rows here.1 in
    let under : LieBelow s.key (r ∷ xs) = first_below s (r ∷ xs) ys rises in
    let right_from : int_lt right.low leaf.low ≡ false = ap (λ (k : ℤ). int_lt k leaf.low) right_low ∙ from_from leaf.low r.key s.key from.0 under.0 in
    (ranged.0, ranged.1, two_leaves b leaf left right before after left_low right_from ranged.2, ranged_divided before after leaf left right r s xs ys rows left_low left_rows right_low right_rows ranged.3)

-- ---- pages above the leaves

-- a page with other entries that begin where it does; a page in two
pub begin_entry : (left right : List InnerNode) (node other : InnerNode) → AllBegin (left ++ (node ∷ right)) → BeginsAt other.low other.names → AllBegin (left ++ (other ∷ right))
begin_entry [] right node other all here = (here, all.1)
begin_entry (x ∷ left) right node other all here = (all.0, begin_entry left right node other all.1 here)

pub begin_divided : (left right : List InnerNode) (node one other : InnerNode) → AllBegin (left ++ (node ∷ right)) → BeginsAt one.low one.names → BeginsAt other.low other.names → AllBegin (left ++ (one ∷ other ∷ right))
begin_divided [] right node one other all first second = (first, (second, all.1))
begin_divided (x ∷ left) right node one other all first second = (all.0, begin_divided left right node one other all.1 first second)

pub forked_entry : (left right : List InnerNode) (node other : InnerNode) → AllForked (left ++ (node ∷ right)) → AllForked (other ∷ []) → AllForked (left ++ (other ∷ right))
forked_entry [] right node other all here = (here.0, all.1)
forked_entry (x ∷ left) right node other all here = (all.0, forked_entry left right node other all.1 here)

pub forked_divided : (left right : List InnerNode) (node one other : InnerNode) → AllForked (left ++ (node ∷ right)) → AllForked (one ∷ other ∷ []) → AllForked (left ++ (one ∷ other ∷ right))
forked_divided [] right node one other all both = (both.0, (both.1.0, all.1))
forked_divided (x ∷ left) right node one other all both = (all.0, forked_divided left right node one other all.1 both)
