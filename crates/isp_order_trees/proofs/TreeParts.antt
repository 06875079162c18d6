-- The trees of tables, where one of them changes, or where a table changes and its trees stay; and the box of a row.
use Rattle.std.proofs.Common.{◌≡◌, ◌⊎◌, ◌∙◌, inl, inr, refl, sym, ap, subst, ℕ, ℤ, suc, ◌==◌, ◌&&◌, Bool, true, false, cond, Option, Some, None, List, [], ◌∷◌, ◌++◌, map, arith, eqb-true, eq-eqb, ◌≤ℤ◌}
use Rattle.std.specs.Prelude.{slice_get}
use Rattle.std.specs.List.{fold}
use Rattle.std.specs.Option.{unwrap_or}
use Rattle.std.proofs.lemmas.Bool.{false≢true, and_parts}
use Rattle.std.proofs.lemmas.Int.{ints}
use Rattle.isp_base.specs.Lists.{Has}
use Rattle.isp_mbr.specs.Corners.{Corners}
use Rattle.isp_mbr.specs.Boxes.{IsBox, union}
use Rattle.isp_mbr.proofs.BoxLaws.{IsBox-union}
use Rattle.isp_geom.specs.declared.form.Point.{Point}
use Rattle.isp_geom.specs.Bounds.{points_of, corner, widened}
use Rattle.isp_plain.specs.declared.value.Row.{Row}
use Rattle.isp_plain.specs.declared.value.Value.{Value}
use Rattle.isp_plain.specs.declared.value.Value.TheVariants.{Int, Text, Geo}
use Rattle.isp_plain.specs.RowBytes.{row_bytes}
use Rattle.isp_plain.specs.Values.{no_box}
use Rattle.isp_forest.specs.Tree.{Node, Tree, page_at}
use Rattle.isp_forest.specs.Forest.{Forest}
use Rattle.isp_leaf_laws.proofs.StayLaws.{empty_forest}
use Rattle.isp_events.specs.Stored.{KeptRow, StoredTable, box_of_value, change_table, change_tree, indexed, kept_at, no_table, table_at, table_from, tree_among, tree_of}
use Rattle.isp_events.specs.Next.{box_of_new}
use Rattle.isp_events.specs.Writing.{Put, needs_slot, row_after, table_after_put, table_with_new, table_with_row}
use Rattle.isp_events.specs.Ending.{empty_tree, empty_trees}
use Rattle.isp_order.proofs.TableLaws.{kept_of, other_table, same_table}

-- ---- a tree changes

abbrev pub with_tree : ℕ → (Tree → Tree) → StoredTable → StoredTable
with_tree c g table = record table { trees = change_tree c g table.trees }

pub columns_stay : (c : ℕ) (g : Tree → Tree) (trees : List (ℕ × Tree)) → map (λ t. t.0) (change_tree c g trees) ≡ map (λ t. t.0) trees
columns_stay c g [] = refl
columns_stay c g (t ∷ trees) = ap (λ xs. t.0 ∷ xs) (columns_stay c g trees)

tree_same : (c : ℕ) (g : Tree → Tree) (trees : List (ℕ × Tree)) → Has (map (λ t. t.0) trees) c → tree_among (change_tree c g trees) c ≡ g (tree_among trees c)
tree_same c g [] h = absurd h
tree_same c g (t ∷ trees) h = by_test (t.0 == c) refl h (λ k. tree_same c g trees k)
  where
    by_test : (b : Bool) → (t.0 == c) ≡ b → Has (t.0 ∷ map (λ x. x.0) trees) c
        → (Has (map (λ x. x.0) trees) c → tree_among (change_tree c g trees) c ≡ g (tree_among trees c))
        → cond b (cond b (g t.1) t.1) (tree_among (change_tree c g trees) c) ≡ g (cond b t.1 (tree_among trees c))
    by_test true e k again = refl
    by_test false e (inl same) again = absurd (false≢true (sym e ∙ eq-eqb t.0 c same))
    by_test false e (inr k) again = again k

tree_other : (c k : ℕ) (g : Tree → Tree) (trees : List (ℕ × Tree)) → (k == c) ≡ false → tree_among (change_tree c g trees) k ≡ tree_among trees k
tree_other c k g [] other = refl
tree_other c k g (t ∷ trees) other = by_test (t.0 == k) refl (tree_other c k g trees other)
  where
    by_test : (b : Bool) → (t.0 == k) ≡ b → tree_among (change_tree c g trees) k ≡ tree_among trees k
        → cond b (cond (t.0 == c) (g t.1) t.1) (tree_among (change_tree c g trees) k) ≡ cond b t.1 (tree_among trees k)
    by_test true e again = let no : (t.0 == c) ≡ false = ap (λ z. z == c) (eqb-true t.0 k e) ∙ other in ap (λ b. cond b (g t.1) t.1) no
    by_test false e again = again

-- a tree that has a page is listed
pub tree_listed : (trees : List (ℕ × Tree)) (c p : ℕ) (page : Node) → page_at (tree_among trees c) p ≡ Some page → Has (map (λ t. t.0) trees) c
tree_listed [] c p page h = let no : ⊥ = cc in absurd no
tree_listed (t ∷ trees) c p page h = by_test (t.0 == c) refl (λ k. tree_listed trees c p page k) h
  where
    by_test : (b : Bool) → (t.0 == c) ≡ b → (page_at (tree_among trees c) p ≡ Some page → Has (map (λ x. x.0) trees) c)
        → page_at (cond b t.1 (tree_among trees c)) p ≡ Some page → Has (t.0 ∷ map (λ x. x.0) trees) c
    by_test true e again k = inl (eqb-true t.0 c e)
    by_test false e again k = inr (again k)

-- which columns a table has trees for stays
pub indexed_stay : (n c : ℕ) (g : Tree → Tree) (tables : List StoredTable) (i : ℕ) → indexed (table_at (change_table n (with_tree c g) tables) i) ≡ indexed (table_at tables i)
indexed_stay n c g tables i = kept_of indexed n i (with_tree c g) tables (columns_stay c g (table_at tables n).trees)

-- the tree that changes
pub tree_here : (n c : ℕ) (g : Tree → Tree) (tables : List StoredTable) → Has (indexed (table_at tables n)) c
    → tree_of (table_at (change_table n (with_tree c g) tables) n) c ≡ g (tree_of (table_at tables n) c)
tree_here n c g tables listed = elim (same_table n (with_tree c g) tables) [
  | inl is ↦ ap (λ (x : StoredTable). tree_of x c) is ∙ tree_same c g (table_at tables n).trees listed
  | inr none ↦ absurd (subst (λ (x : StoredTable). Has (indexed x) c) none.1 listed)
]

-- all others stay
pub tree_elsewhere : (n c : ℕ) (g : Tree → Tree) (tables : List StoredTable) (i k : ℕ) → ((i == n) && (k == c)) ≡ false
    → tree_of (table_at (change_table n (with_tree c g) tables) i) k ≡ tree_of (table_at tables i) k
tree_elsewhere n c g tables i k other = by_table (i == n) refl other
  where
    at_n : (k == c) ≡ false → tree_of (table_at (change_table n (with_tree c g) tables) n) k ≡ tree_of (table_at tables n) k
    at_n t = elim (same_table n (with_tree c g) tables) [
      | inl is ↦ ap (λ (x : StoredTable). tree_of x k) is ∙ tree_other c k g (table_at tables n).trees t
      | inr none ↦ ap (λ (x : StoredTable). tree_of x k) (none.0 ∙ sym none.1)
    ]

    by_table : (b : Bool) → (i == n) ≡ b → (b && (k == c)) ≡ false → tree_of (table_at (change_table n (with_tree c g) tables) i) k ≡ tree_of (table_at tables i) k
    by_table true e t =
        let at : i ≡ n = eqb-true i n e in
        ap (λ z. tree_of (table_at (change_table n (with_tree c g) tables) z) k) at ∙ at_n t ∙ ap (λ z. tree_of (table_at tables z) k) (sym at)
    by_table false e t = ap (λ (x : StoredTable). tree_of x k) (other_table n i (with_tree c g) tables e)

-- it is the tree that changes, or another one, which stays
pub record IsChanged (n c : ℕ) (g : Tree → Tree) (tables : List StoredTable) (i k : ℕ) : Type 0 where
  pub table : i ≡ n
  pub column : k ≡ c
  pub is : tree_of (table_at (change_table n (with_tree c g) tables) i) k ≡ g (tree_of (table_at tables n) c)

pub tree_changed : (n c : ℕ) (g : Tree → Tree) (tables : List StoredTable) (i k : ℕ) → Has (indexed (table_at tables i)) k
    → IsChanged n c g tables i k ⊎ (tree_of (table_at (change_table n (with_tree c g) tables) i) k ≡ tree_of (table_at tables i) k)
tree_changed n c g tables i k listed = by_test ((i == n) && (k == c)) refl
  where
    by_test : (b : Bool) → ((i == n) && (k == c)) ≡ b → IsChanged n c g tables i k ⊎ (tree_of (table_at (change_table n (with_tree c g) tables) i) k ≡ tree_of (table_at tables i) k)
    by_test true e =
        let parts = and_parts (i == n) (k == c) e in
        let table : i ≡ n = eqb-true i n parts.0 in
        let column : k ≡ c = eqb-true k c parts.1 in
        let here : Has (indexed (table_at tables n)) c = subst (λ z. Has (indexed (table_at tables n)) z) column (subst (λ z. Has (indexed (table_at tables z)) k) table listed) in
        inl (record {
          table = table;
          column = column;
          is = ap (λ z. tree_of (table_at (change_table n (with_tree c g) tables) z) k) table ∙ ap (tree_of (table_at (change_table n (with_tree c g) tables) n)) column ∙ tree_here n c g tables here;
        })
    by_test false e = inr (tree_elsewhere n c g tables i k e)

-- what the change keeps of its tree is kept of each
pub tree_keeps : (P : Tree → Type 0) (n c : ℕ) (g : Tree → Tree) (tables : List StoredTable) → (P (tree_of (table_at tables n) c) → P (g (tree_of (table_at tables n) c)))
    → (i k : ℕ) → Has (indexed (table_at tables i)) k → P (tree_of (table_at tables i) k) → P (tree_of (table_at (change_table n (with_tree c g) tables) i) k)
tree_keeps P n c g tables keeps i k listed h = elim (tree_changed n c g tables i k listed) [
  | inl is ↦ subst P (sym is.is) (keeps (subst P (ap (λ z. tree_of (table_at tables z) k) is.table ∙ ap (tree_of (table_at tables n)) is.column) h))
  | inr same ↦ subst P (sym same) h
]

-- ---- trees that stay

-- each table has the trees that it had
abbrev pub SameTrees : List StoredTable → List StoredTable → Type 0
SameTrees tables after = (i : ℕ) → (table_at after i).trees ≡ (table_at tables i).trees

pub same_tree : (tables after : List StoredTable) → SameTrees tables after → (i k : ℕ) → tree_of (table_at after i) k ≡ tree_of (table_at tables i) k
same_tree tables after same i k = ap (λ trees. tree_among trees k) (same i)

pub same_indexed : (tables after : List StoredTable) → SameTrees tables after → (i : ℕ) → indexed (table_at after i) ≡ indexed (table_at tables i)
same_indexed tables after same i = ap (λ (trees : List (ℕ × Tree)). map (λ t. t.0) trees) (same i)

pub change_leaves_trees : (n : ℕ) (f : StoredTable → StoredTable) (tables : List StoredTable) → ((t : StoredTable) → (f t).trees ≡ t.trees) → SameTrees tables (change_table n f tables)
change_leaves_trees n f tables keeps i = kept_of (λ t. t.trees) n i f tables (keeps (table_at tables n))

pub row_leaves_trees : (p : Put) (key : ℤ) (placed : List (ℕ × ℕ)) (new : Row) (table : StoredTable) → (table_with_new p key placed new table).trees ≡ table.trees
row_leaves_trees p key placed new table =
    let kept : KeptRow = row_after table.schema (indexed table) placed (kept_at table key) new in
    one (needs_slot (row_bytes table.schema new) (kept_at table key)) (table_after_put p key kept table) (table_with_row key (λ other. kept) table) refl refl
  where
    one : (b : Bool) (x y : StoredTable) → x.trees ≡ table.trees → y.trees ≡ table.trees → (cond b x y).trees ≡ table.trees
    one true x y h k = h
    one false x y h k = k

-- ---- one table more

-- a table with a tree is where it was
pub earlier_from : (k i c : ℕ) (new : StoredTable) (tables : List StoredTable) → Has (indexed (table_from k tables i)) c → table_from k (tables ++ new ∷ []) i ≡ table_from k tables i
earlier_from k i c new [] h = absurd h
earlier_from k i c new (t ∷ tables) h = by_test (k == i) h (λ z. earlier_from (suc k) i c new tables z)
  where
    by_test : (b : Bool) → Has (indexed (cond b t (table_from (suc k) tables i))) c
        → (Has (indexed (table_from (suc k) tables i)) c → table_from (suc k) (tables ++ new ∷ []) i ≡ table_from (suc k) tables i)
        → cond b t (table_from (suc k) (tables ++ new ∷ []) i) ≡ cond b t (table_from (suc k) tables i)
    by_test true h again = refl
    by_test false h again = again h

pub earlier_with_tree : (i c : ℕ) (new : StoredTable) (tables : List StoredTable) → Has (indexed (table_at tables i)) c → table_at (tables ++ new ∷ []) i ≡ table_at tables i
earlier_with_tree i c new tables h = earlier_from 1 i c new tables h

-- each table is an earlier one or the new one
pub new_from : (k i : ℕ) (new : StoredTable) (tables : List StoredTable) → (table_from k (tables ++ new ∷ []) i ≡ table_from k tables i) ⊎ (table_from k (tables ++ new ∷ []) i ≡ new)
new_from k i new [] = by_test (k == i)
  where
    by_test : (b : Bool) → (cond b new no_table ≡ no_table) ⊎ (cond b new no_table ≡ new)
    by_test true = inr refl
    by_test false = inl refl
new_from k i new (t ∷ tables) = by_test (k == i) (new_from (suc k) i new tables)
  where
    by_test : (b : Bool) → (table_from (suc k) (tables ++ new ∷ []) i ≡ table_from (suc k) tables i) ⊎ (table_from (suc k) (tables ++ new ∷ []) i ≡ new)
        → (cond b t (table_from (suc k) (tables ++ new ∷ []) i) ≡ cond b t (table_from (suc k) tables i)) ⊎ (cond b t (table_from (suc k) (tables ++ new ∷ []) i) ≡ new)
    by_test true again = inl refl
    by_test false again = again

pub empty_trees_whole : (columns roots : List ℕ) (k : ℕ) → Has (map (λ t. t.0) (empty_trees columns roots)) k → Forest (tree_among (empty_trees columns roots) k)
empty_trees_whole [] roots k h = absurd h
empty_trees_whole (c ∷ columns) [] k h = absurd h
empty_trees_whole (c ∷ columns) (root ∷ roots) k h = by_test (c == k) refl h (λ z. empty_trees_whole columns roots k z)
  where
    by_test : (b : Bool) → (c == k) ≡ b → Has (c ∷ map (λ t. t.0) (empty_trees columns roots)) k
        → (Has (map (λ t. t.0) (empty_trees columns roots)) k → Forest (tree_among (empty_trees columns roots) k))
        → Forest (cond b (empty_tree root) (tree_among (empty_trees columns roots) k))
    by_test true e z again = empty_forest root
    by_test false e (inl same) again = absurd (false≢true (sym e ∙ eq-eqb c k same))
    by_test false e (inr z) again = again z

-- ---- a row's box

at_most_itself : (z : ℤ) → z ≤ℤ z
at_most_itself z = omega (arith, ints)

points_box : (ps : List Point) (o : Option Corners) → IsBox (unwrap_or o no_box) → IsBox (unwrap_or (fold widened o ps) no_box)
points_box [] o h = h
points_box (p ∷ ps) None h = points_box ps (Some (corner p)) (at_most_itself p.x, at_most_itself p.y)
points_box (p ∷ ps) (Some b) h = points_box ps (Some (union b (corner p))) (IsBox-union b (corner p) h)

value_box : (o : Option Value) → IsBox (box_of_value o)
value_box None = (at_most_itself _, at_most_itself _)
value_box (Some (Int k)) = (at_most_itself _, at_most_itself _)
value_box (Some (Text t)) = (at_most_itself _, at_most_itself _)
value_box (Some (Geo form)) = points_box (points_of form) None (at_most_itself _, at_most_itself _)

pub new_box : (new : Option Row) (column : ℕ) → IsBox (box_of_new new column)
new_box None column = (at_most_itself _, at_most_itself _)
new_box (Some row) column = value_box (slice_get row.values column)
