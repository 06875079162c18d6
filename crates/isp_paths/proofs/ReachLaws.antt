-- A path reaches every row of which the condition holds.
use Rattle.std.proofs.Common.{◌≡◌, ◌∙◌, ℕ, ℤ, ◌==◌, Bool, true, false, cond, List, [], ◌∷◌, slice_get, Option, Some, None, refl, sym, ap, subst, arith}
use Rattle.std.proofs.lemmas.Bool.{and_parts}
use Rattle.std.proofs.lemmas.Bool.Decides.{nat_tests}
use Rattle.std.proofs.lemmas.Cmp.{int_ranked}
use Rattle.std.specs.List.{list_all}
use Rattle.std.specs.Ordering.{MatchOrdering, is_eq, int_cmp}
use Rattle.std.specs.declared.cmp.Ordering.{Ordering}
use Rattle.std.specs.declared.cmp.Ordering.TheVariants as order
use Rattle.isp_mbr.specs.declared.predicate.Predicate.{Predicate}
use Rattle.isp_plain.specs.declared.statement.Atom.{Atom}
use Rattle.isp_plain.specs.declared.statement.Atom.TheVariants as atom
use Rattle.isp_plain.specs.declared.statement.Condition.{Condition}
use Rattle.isp_plain.specs.declared.statement.Op.{Op}
use Rattle.isp_plain.specs.declared.statement.Op.TheVariants as op
use Rattle.isp_plain.specs.declared.statement.Statement.TheVariants as statement
use Rattle.isp_plain.specs.declared.value.Column.{Column}
use Rattle.isp_plain.specs.declared.value.Row.{Row}
use Rattle.isp_plain.specs.declared.value.Value.{Value}
use Rattle.isp_plain.specs.declared.value.Value.TheVariants as value
use Rattle.isp_plain.specs.Conditions.{atom_holds, value_compares}
use Rattle.isp_plain.specs.Values.{key_of}
use Rattle.isp_paths.specs.Paths.{equal_number, first_key, first_tree, is_indexed_column, key_in, key_or, or_else, path_by, tree_or_scan}
use Rattle.isp_paths.specs.Reaching.{HasBox, HasKey, HasTree, PathsReach, Reaches}

never : {A P : Type 0} (x : A) → ◌≡◌ {A = Option A} None (Some x) → P
never x e = absurd cc

wrong : {P : Type 0} → false ≡ true → P
wrong e = absurd cc

some_is : {A : Type 0} (x y : A) → ◌≡◌ {A = Option A} (Some x) (Some y) → x ≡ y
some_is x y e = cc

-- ---- numbers that compare as equal

ranked_equal : (o : Ordering) (P Q R : Type 0) → is_eq o ≡ true → MatchOrdering o P Q R → Q
ranked_equal order.Less P Q R e m = wrong e
ranked_equal order.Equal P Q R e m = m
ranked_equal order.Greater P Q R e m = wrong e

same_number : (a b : ℤ) → is_eq (int_cmp a b) ≡ true → a ≡ b
same_number a b e = ranked_equal (int_cmp a b) _ _ _ e (int_ranked a b (int_cmp a b) refl)

-- ---- the key

-- the first value compares as equal with the number
begins : (values : List Value) (key : ℤ) → value_compares op.Eq (value.Int key) (slice_get values 0) ≡ true → (others : List Value) × (values ≡ value.Int key ∷ others)
begins [] key e = wrong e
begins (value.Int a ∷ others) key e = (others, ap (λ (n : ℤ). value.Int n ∷ others) (same_number a key e))
begins (value.Text a ∷ others) key e = wrong e
begins (value.Geo a ∷ others) key e = wrong e

-- a row whose first value compares so has the number that the comparison names
numbered : (o : Op) (v : Value) (row : Row) (key : ℤ) → equal_number o v ≡ Some key → value_compares o v (slice_get row.values 0) ≡ true → HasKey key row
numbered op.Eq (value.Int n) row key e h = subst (λ (k : ℤ). HasKey k row) (some_is n key e) (begins row.values n h)
numbered op.Eq (value.Text t) row key e h = never key e
numbered op.Eq (value.Geo g) row key e h = never key e
numbered op.Ne v row key e h = never key e
numbered op.Lt v row key e h = never key e
numbered op.Le v row key e h = never key e
numbered op.Gt v row key e h = never key e
numbered op.Ge v row key e h = never key e

first_column : (column : ℕ) (t : Bool) (o : Op) (v : Value) (row : Row) (key : ℤ) → (column == 0) ≡ t → cond t (equal_number o v) None ≡ Some key
    → value_compares o v (slice_get row.values column) ≡ true → HasKey key row
first_column column true o v row key t e h =
    let first : column ≡ 0 = grind (arith, nat_tests) in
    numbered o v row key e (ap (λ (c : ℕ). value_compares o v (slice_get row.values c)) (sym first) ∙ h)
first_column column false o v row key t e h = never key e

atom_key : (a : Atom) (row : Row) (key : ℤ) → key_in a ≡ Some key → atom_holds row a ≡ true → HasKey key row
atom_key (atom.Cmp column o v) row key e h = first_column column (column == 0) o v row key refl e h
atom_key (atom.Box column p) row key e h = never key e

some_key : (k : Option ℤ) (a : Atom) (rest : Option ℤ) (key : ℤ) (row : Row) → key_in a ≡ k → or_else k rest ≡ Some key → atom_holds row a ≡ true
    → (rest ≡ Some key → HasKey key row) → HasKey key row
some_key (Some n) a rest key row is e h later = atom_key a row key (is ∙ e) h
some_key None a rest key row is e h later = later e

by_key : (atoms : List Atom) (row : Row) (key : ℤ) → first_key atoms ≡ Some key → list_all (atom_holds row) atoms ≡ true → HasKey key row
by_key [] row key e h = never key e
by_key (a ∷ others) row key e h =
    let both = and_parts (atom_holds row a) (list_all (atom_holds row) others) h in
    some_key (key_in a) a (first_key others) key row refl e both.0 (λ later. by_key others row key later both.1)

-- ---- the tree

-- the tests ask for this search: the column has a tree, and they hold of no row but those that the search finds
abbrev Asks : List Column → List Atom → ℕ × Predicate → Type 0
Asks columns atoms tree = HasTree columns tree.0 × ((row : Row) → list_all (atom_holds row) atoms ≡ true → HasBox tree.0 tree.1 row)

-- what the tests behind one ask for
behind : (columns : List Column) (a : Atom) (others : List Atom) (tree : ℕ × Predicate) → Asks columns others tree → Asks columns (a ∷ others) tree
behind columns a others tree asked = (asked.0, λ row h. asked.1 row (and_parts (atom_holds row a) (list_all (atom_holds row) others) h).1)

box_asks : (columns : List Column) (column : ℕ) (p : Predicate) (others : List Atom) (tree : ℕ × Predicate) (t : Bool) → is_indexed_column (slice_get columns column) ≡ t
    → or_else (cond {A = Option (ℕ × Predicate)} t (Some (column, p)) None) (first_tree columns others) ≡ Some tree → (first_tree columns others ≡ Some tree → Asks columns others tree)
    → Asks columns (atom.Box column p ∷ others) tree
box_asks columns column p others tree true t e later =
    subst (λ (found : ℕ × Predicate). Asks columns (atom.Box column p ∷ others) found) (some_is (column, p) tree e)
    (t, λ row h. (and_parts (atom_holds row (atom.Box column p)) (list_all (atom_holds row) others) h).0)
box_asks columns column p others tree false t e later = behind columns (atom.Box column p) others tree (later e)

by_tree : (columns : List Column) (atoms : List Atom) (tree : ℕ × Predicate) → first_tree columns atoms ≡ Some tree → Asks columns atoms tree
by_tree columns [] tree e = never tree e
by_tree columns (atom.Cmp column o v ∷ others) tree e = behind columns (atom.Cmp column o v) others tree (by_tree columns others tree e)
by_tree columns (atom.Box column p ∷ others) tree e =
    box_asks columns column p others tree (is_indexed_column (slice_get columns column)) refl e (λ later. by_tree columns others tree later)

-- ---- the path

tree_reaches : (columns : List Column) (w : Condition) (o : Option (ℕ × Predicate)) → first_tree columns w.atoms ≡ o → Reaches columns w (tree_or_scan o)
tree_reaches columns w (Some tree) is = by_tree columns w.atoms tree is
tree_reaches columns w None is = tt

key_reaches : (columns : List Column) (w : Condition) (k : Option ℤ) → first_key w.atoms ≡ k → Reaches columns w (key_or k (tree_or_scan (first_tree columns w.atoms)))
key_reaches columns w (Some key) is = λ row h. by_key w.atoms row key is h
key_reaches columns w None is = tree_reaches columns w (first_tree columns w.atoms) refl

-- the path that a condition's tests make reaches every row of which it holds
pub path_reaches : (columns : List Column) (w : Condition) → Reaches columns w (path_by columns w.atoms)
path_reaches columns w = key_reaches columns w (first_key w.atoms) refl

pub paths_reach : PathsReach
paths_reach schema (statement.Select table columns w) = path_reaches schema.columns w
paths_reach schema (statement.Update table sets w) = path_reaches schema.columns w
paths_reach schema (statement.Delete table w) = path_reaches schema.columns w
paths_reach schema _ = tt

-- a row that begins with the number has it as its key
pub key_is : (key : ℤ) (row : Row) → HasKey key row → key_of row ≡ key
key_is key row h = ap (λ (values : List Value). key_of (record { values = values })) h.1
