-- How often a number lies on the leaves of all trees, where one tree changes.
use Rattle.std.proofs.Common.{◌≡◌, ◌∙◌, ◌+◌, ◌≤◌, ◌<◌, inl, inr, refl, ap, ℕ, suc, ◌==◌, Bool, true, false, cond, List, [], ◌∷◌, ◌++◌, map, arith, eqb-true}
use Rattle.std.specs.Prelude.{filter_map, flat_map}
use Rattle.std.specs.List.{cons_option}
use Rattle.isp_base.specs.Lists.{Has, times}
use Rattle.isp_plain.specs.declared.value.Column.{Column}
use Rattle.isp_forest.specs.declared.entry.Entry.{Entry}
use Rattle.isp_forest.specs.declared.entry.To.{To}
use Rattle.isp_forest.specs.declared.entry.To.TheVariants.{Child, Row}
use Rattle.isp_forest.specs.Tree.{Node, Tree}
use Rattle.isp_laws.proofs.ListLaws.{times-append}
use Rattle.isp_leaf_laws.specs.LeafLaws.{leaf_numbers as numbers_of_leaves, number_in as number_to}
use Rattle.isp_events.specs.Stored.{StoredTable, change_table, change_tree, changed_from, no_table, table_at, table_from, tree_among}
use Rattle.isp_events.specs.Ending.{empty_trees, indexed_from}
use Rattle.isp_order.specs.Trees.{all_numbers, leaf_numbers, number_in, numbers_of_trees, row_numbers}

-- ---- the numbers of a tree, by either word

same_number : (to : To) → number_in to ≡ number_to to
same_number (Child page) = refl
same_number (Row key number) = refl

same_rows : (es : List Entry) → row_numbers es ≡ filter_map (λ (e : Entry). number_to e.to) es
same_rows [] = refl
same_rows (e ∷ es) = ap (λ o. cons_option o (row_numbers es)) (same_number e.to) ∙ ap (cons_option (number_to e.to)) (same_rows es)

same_pages : (m : List (ℕ × Node)) → flat_map (λ p. row_numbers p.1.entries) m ≡ flat_map (λ p. filter_map (λ (e : Entry). number_to e.to) p.1.entries) m
same_pages [] = refl
same_pages (p ∷ rest) =
    ap (λ xs. xs ++ flat_map (λ x. row_numbers x.1.entries) rest) (same_rows p.1.entries)
    ∙ ap (λ xs. filter_map (λ (e : Entry). number_to e.to) p.1.entries ++ xs) (same_pages rest)

pub same_leaves : (tree : Tree) → leaf_numbers tree ≡ numbers_of_leaves tree
same_leaves tree = same_pages tree.pages

-- ---- one tree of a table changes

columns_apart : (c : ℕ) (g : Tree → Tree) (trees : List (ℕ × Tree)) → times c (map (λ t. t.0) trees) ≡ 0 → change_tree c g trees ≡ trees
columns_apart c g [] h = refl
columns_apart c g (t ∷ trees) h = by_test (t.0 == c) refl h (λ k. columns_apart c g trees k)
  where
    by_test : (b : Bool) → (t.0 == c) ≡ b → cond b 1 0 + times c (map (λ x. x.0) trees) ≡ 0 → (times c (map (λ x. x.0) trees) ≡ 0 → change_tree c g trees ≡ trees)
        → ◌≡◌ {A = List (ℕ × Tree)} ((t.0, cond b (g t.1) t.1) ∷ change_tree c g trees) (t ∷ trees)
    by_test true e k again = absurd (omega (arith, k))
    by_test false e k again = ap (λ rest. t ∷ rest) (again (omega (arith, k)))

pub tree_bound : (c : ℕ) (g : Tree → Tree) (trees : List (ℕ × Tree)) (m extra : ℕ) → times c (map (λ t. t.0) trees) ≤ 1
    → times m (leaf_numbers (g (tree_among trees c))) ≤ times m (leaf_numbers (tree_among trees c)) + extra
    → times m (numbers_of_trees (change_tree c g trees)) ≤ times m (numbers_of_trees trees) + extra
tree_bound c g [] m extra once h = omega arith
tree_bound c g (t ∷ trees) m extra once h = by_test (t.0 == c) refl once h (λ k l. tree_bound c g trees m extra k l)
  where
    by_test : (b : Bool) → (t.0 == c) ≡ b → cond b 1 0 + times c (map (λ x. x.0) trees) ≤ 1
        → times m (leaf_numbers (g (cond b t.1 (tree_among trees c)))) ≤ times m (leaf_numbers (cond b t.1 (tree_among trees c))) + extra
        → (times c (map (λ x. x.0) trees) ≤ 1 → times m (leaf_numbers (g (tree_among trees c))) ≤ times m (leaf_numbers (tree_among trees c)) + extra
        → times m (numbers_of_trees (change_tree c g trees)) ≤ times m (numbers_of_trees trees) + extra)
        → times m (leaf_numbers (cond b (g t.1) t.1) ++ numbers_of_trees (change_tree c g trees)) ≤ times m (leaf_numbers t.1 ++ numbers_of_trees trees) + extra
    by_test true e k l again =
        let rest : times m (numbers_of_trees (change_tree c g trees)) ≡ times m (numbers_of_trees trees) = ap (λ (ts : List (ℕ × Tree)). times m (numbers_of_trees ts)) (columns_apart c g trees (omega (arith, k))) in
        omega (arith, l, rest, times-append m (leaf_numbers (g t.1)) (numbers_of_trees (change_tree c g trees)), times-append m (leaf_numbers t.1) (numbers_of_trees trees))
    by_test false e k l again =
        let rest : times m (numbers_of_trees (change_tree c g trees)) ≤ times m (numbers_of_trees trees) + extra = again (omega (arith, k)) l in
        omega (arith, rest, times-append m (leaf_numbers t.1) (numbers_of_trees (change_tree c g trees)), times-append m (leaf_numbers t.1) (numbers_of_trees trees))

-- ---- one table changes

tables_apart : (k n : ℕ) (f : StoredTable → StoredTable) (tables : List StoredTable) → n < k → changed_from k n f tables ≡ tables
tables_apart k n f [] less = refl
tables_apart k n f (t ∷ tables) less = by_test (k == n) refl (tables_apart (suc k) n f tables (omega (arith, less)))
  where
    by_test : (b : Bool) → (k == n) ≡ b → changed_from (suc k) n f tables ≡ tables → cond b (f t) t ∷ changed_from (suc k) n f tables ≡ t ∷ tables
    by_test true e again = let at : k ≡ n = eqb-true k n e in absurd (omega (arith, at, less))
    by_test false e again = ap (λ rest. t ∷ rest) again

bound_from : (k n : ℕ) (f : StoredTable → StoredTable) (tables : List StoredTable) (m extra : ℕ)
    → times m (numbers_of_trees (f (table_from k tables n)).trees) ≤ times m (numbers_of_trees (table_from k tables n).trees) + extra
    → times m (all_numbers (changed_from k n f tables)) ≤ times m (all_numbers tables) + extra
bound_from k n f [] m extra h = omega arith
bound_from k n f (t ∷ tables) m extra h = by_test (k == n) refl h (λ l. bound_from (suc k) n f tables m extra l)
  where
    by_test : (b : Bool) → (k == n) ≡ b
        → times m (numbers_of_trees (f (cond b t (table_from (suc k) tables n))).trees) ≤ times m (numbers_of_trees (cond b t (table_from (suc k) tables n)).trees) + extra
        → (times m (numbers_of_trees (f (table_from (suc k) tables n)).trees) ≤ times m (numbers_of_trees (table_from (suc k) tables n).trees) + extra
        → times m (all_numbers (changed_from (suc k) n f tables)) ≤ times m (all_numbers tables) + extra)
        → times m (numbers_of_trees (cond b (f t) t).trees ++ all_numbers (changed_from (suc k) n f tables)) ≤ times m (numbers_of_trees t.trees ++ all_numbers tables) + extra
    by_test true e l again =
        let at : k ≡ n = eqb-true k n e in
        let rest : times m (all_numbers (changed_from (suc k) n f tables)) ≡ times m (all_numbers tables) = ap (λ (ts : List StoredTable). times m (all_numbers ts)) (tables_apart (suc k) n f tables (omega (arith, at))) in
        omega (arith, l, rest, times-append m (numbers_of_trees (f t).trees) (all_numbers (changed_from (suc k) n f tables)), times-append m (numbers_of_trees t.trees) (all_numbers tables))
    by_test false e l again =
        let rest : times m (all_numbers (changed_from (suc k) n f tables)) ≤ times m (all_numbers tables) + extra = again l in
        omega (arith, rest, times-append m (numbers_of_trees t.trees) (all_numbers (changed_from (suc k) n f tables)), times-append m (numbers_of_trees t.trees) (all_numbers tables))

pub table_bound : (n : ℕ) (f : StoredTable → StoredTable) (tables : List StoredTable) (m extra : ℕ)
    → times m (numbers_of_trees (f (table_at tables n)).trees) ≤ times m (numbers_of_trees (table_at tables n).trees) + extra
    → times m (all_numbers (change_table n f tables)) ≤ times m (all_numbers tables) + extra
table_bound n f tables m extra h = bound_from 1 n f tables m extra h

pub trees_bound : (n : ℕ) (f : StoredTable → StoredTable) (tables : List StoredTable) (m : ℕ) → ((t : StoredTable) → (f t).trees ≡ t.trees)
    → times m (all_numbers (change_table n f tables)) ≤ times m (all_numbers tables)
trees_bound n f tables m same =
    let e : times m (numbers_of_trees (f (table_at tables n)).trees) ≡ times m (numbers_of_trees (table_at tables n).trees) = ap (λ (ts : List (ℕ × Tree)). times m (numbers_of_trees ts)) (same (table_at tables n)) in
    let h : times m (all_numbers (change_table n f tables)) ≤ times m (all_numbers tables) + 0 = table_bound n f tables m 0 (omega (arith, e)) in
    omega (arith, h)

-- ---- one table more, with empty trees

empty_numbers : (columns roots : List ℕ) → numbers_of_trees (empty_trees columns roots) ≡ []
empty_numbers [] roots = refl
empty_numbers (c ∷ columns) [] = refl
empty_numbers (c ∷ columns) (root ∷ roots) = empty_numbers columns roots

pub new_bound : (tables : List StoredTable) (new : StoredTable) (columns roots : List ℕ) (m : ℕ) → new.trees ≡ empty_trees columns roots
    → times m (all_numbers (tables ++ new ∷ [])) ≤ times m (all_numbers tables)
new_bound [] new columns roots m is =
    let none : numbers_of_trees new.trees ≡ [] = ap numbers_of_trees is ∙ empty_numbers columns roots in
    let e : times m (numbers_of_trees new.trees ++ []) ≡ times m ([] ++ []) = ap (λ xs. times m (xs ++ [])) none in
    omega (arith, e)
new_bound (t ∷ tables) new columns roots m is =
    omega (arith, new_bound tables new columns roots m is, times-append m (numbers_of_trees t.trees) (all_numbers (tables ++ new ∷ [])), times-append m (numbers_of_trees t.trees) (all_numbers tables))

-- ---- the columns of a table differ

columns_above : (k c : ℕ) (columns : List Column) → c < k → times c (indexed_from k columns) ≡ 0
columns_above k c [] less = refl
columns_above k c (x ∷ columns) less = by_test x.indexed (columns_above (suc k) c columns (omega (arith, less)))
  where
    other : (b : Bool) → (k == c) ≡ b → b ≡ false
    other true e = let at : k ≡ c = eqb-true k c e in absurd (omega (arith, at, less))
    other false e = refl

    by_test : (b : Bool) → times c (indexed_from (suc k) columns) ≡ 0 → times c (cond b (k ∷ indexed_from (suc k) columns) (indexed_from (suc k) columns)) ≡ 0
    by_test true again = let e : (k == c) ≡ false = other (k == c) refl in rw e (omega (arith, again))
    by_test false again = again

pub columns_once : (k c : ℕ) (columns : List Column) → times c (indexed_from k columns) ≤ 1
columns_once k c [] = omega arith
columns_once k c (x ∷ columns) = by_test x.indexed (columns_once (suc k) c columns)
  where
    here : (b : Bool) → (k == c) ≡ b → times c (indexed_from (suc k) columns) ≤ 1 → cond b 1 0 + times c (indexed_from (suc k) columns) ≤ 1
    here true e again = let at : k ≡ c = eqb-true k c e in omega (arith, columns_above (suc k) c columns (omega (arith, at)))
    here false e again = omega (arith, again)

    by_test : (b : Bool) → times c (indexed_from (suc k) columns) ≤ 1 → times c (cond b (k ∷ indexed_from (suc k) columns) (indexed_from (suc k) columns)) ≤ 1
    by_test true again = here (k == c) refl again
    by_test false again = again

-- what holds of a table that isn't there and of each that is, holds at each number
pub each_table : (P : StoredTable → Type 0) (k n : ℕ) (tables : List StoredTable) → P no_table → ((t : StoredTable) → Has tables t → P t) → P (table_from k tables n)
each_table P k n [] none each = none
each_table P k n (t ∷ tables) none each = by_test (k == n) (each_table P (suc k) n tables none (λ x h. each x (inr h)))
  where
    by_test : (b : Bool) → P (table_from (suc k) tables n) → P (cond b t (table_from (suc k) tables n))
    by_test true again = each t (inl refl)
    by_test false again = again
