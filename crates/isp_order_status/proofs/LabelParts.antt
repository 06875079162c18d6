-- A number lies at one key of one table: the entries on leaves as a list, each with its table and key.
use Rattle.std.proofs.Common.{◌≡◌, ◌∙◌, ◌≤◌, ◌<◌, inl, inr, refl, sym, ap, subst, ℕ, ℤ, suc, ◌==◌, Bool, true, false, cond, Option, Some, None, List, [], ◌∷◌, ◌++◌, map, arith, eqb-true, eq-eqb}
use Rattle.std.specs.Prelude.{filter_map, flat_map}
use Rattle.std.specs.List.{cons_option}
use Rattle.std.proofs.lemmas.List.{map-append}
use Rattle.isp_base.specs.Lists.{Has, times}
use Rattle.isp_forest.specs.declared.entry.Entry.{Entry}
use Rattle.isp_forest.specs.declared.entry.To.{To}
use Rattle.isp_forest.specs.declared.entry.To.TheVariants.{Child, Row}
use Rattle.isp_forest.specs.Tree.{Node, Tree, page_in}
use Rattle.isp_laws.proofs.ListLaws.{Has-append_left, Has-append_right, Has-map_of, times-Has}
use Rattle.isp_events.specs.Stored.{StoredTable, table_at, table_from, tree_among, tree_of}
use Rattle.isp_events.specs.Sessions.{EntryAt}
use Rattle.isp_order.specs.Trees.{AreNumbered, LiesIn, all_numbers, leaf_entry, leaf_numbers, number_in, numbers_of_trees, row_numbers}
use Rattle.isp_order_trees.proofs.NoteParts.{in_noted}

abbrev label_in : To → Option (ℤ × ℕ)
label_in (Child p) = None
label_in (Row key number) = Some (key, number)

abbrev labels_on : List Entry → List (ℤ × ℕ)
labels_on es = filter_map (λ (e : Entry). label_in e.to) es

abbrev labels_of_pages : List (ℕ × Node) → List (ℤ × ℕ)
labels_of_pages m = flat_map (λ p. labels_on p.1.entries) m

abbrev labels_of_trees : List (ℕ × Tree) → List (ℤ × ℕ)
labels_of_trees trees = flat_map (λ t. labels_of_pages t.1.pages) trees

abbrev labelled : ℕ → ℤ × ℕ → ℕ × (ℤ × ℕ)
labelled i x = (i, x)

abbrev labels_from : ℕ → List StoredTable → List (ℕ × (ℤ × ℕ))
labels_from i [] = []
labels_from i (t ∷ tables) = map (labelled i) (labels_of_trees t.trees) ++ labels_from (suc i) tables

abbrev number_of : ℕ × (ℤ × ℕ) → ℕ
number_of l = l.1.1

-- ---- their numbers are all numbers

on_numbers : (es : List Entry) → map (λ (x : ℤ × ℕ). x.1) (labels_on es) ≡ row_numbers es
on_numbers [] = refl
on_numbers (e ∷ es) = one e.to (on_numbers es)
  where
    one : (to : To) → map (λ (x : ℤ × ℕ). x.1) (labels_on es) ≡ row_numbers es
        → map (λ (x : ℤ × ℕ). x.1) (cons_option (label_in to) (labels_on es)) ≡ cons_option (number_in to) (row_numbers es)
    one (Child p) h = h
    one (Row key number) h = ap (λ xs. number ∷ xs) h

pages_numbers : (m : List (ℕ × Node)) → map (λ (x : ℤ × ℕ). x.1) (labels_of_pages m) ≡ flat_map (λ p. row_numbers p.1.entries) m
pages_numbers [] = refl
pages_numbers (p ∷ m) =
    map-append (λ (x : ℤ × ℕ). x.1) (labels_on p.1.entries) (labels_of_pages m)
    ∙ ap (λ xs. xs ++ map (λ (x : ℤ × ℕ). x.1) (labels_of_pages m)) (on_numbers p.1.entries)
    ∙ ap (λ xs. row_numbers p.1.entries ++ xs) (pages_numbers m)

trees_numbers : (trees : List (ℕ × Tree)) → map (λ (x : ℤ × ℕ). x.1) (labels_of_trees trees) ≡ numbers_of_trees trees
trees_numbers [] = refl
trees_numbers (t ∷ trees) =
    map-append (λ (x : ℤ × ℕ). x.1) (labels_of_pages t.1.pages) (labels_of_trees trees)
    ∙ ap (λ xs. xs ++ map (λ (x : ℤ × ℕ). x.1) (labels_of_trees trees)) (pages_numbers t.1.pages)
    ∙ ap (λ xs. leaf_numbers t.1 ++ xs) (trees_numbers trees)

labelled_numbers : (i : ℕ) (xs : List (ℤ × ℕ)) → map number_of (map (labelled i) xs) ≡ map (λ (x : ℤ × ℕ). x.1) xs
labelled_numbers i [] = refl
labelled_numbers i (x ∷ xs) = ap (λ ns. x.1 ∷ ns) (labelled_numbers i xs)

tables_numbers : (i : ℕ) (tables : List StoredTable) → map number_of (labels_from i tables) ≡ all_numbers tables
tables_numbers i [] = refl
tables_numbers i (t ∷ tables) =
    map-append number_of (map (labelled i) (labels_of_trees t.trees)) (labels_from (suc i) tables)
    ∙ ap (λ xs. xs ++ map number_of (labels_from (suc i) tables)) (labelled_numbers i (labels_of_trees t.trees) ∙ trees_numbers t.trees)
    ∙ ap (λ xs. numbers_of_trees t.trees ++ xs) (tables_numbers (suc i) tables)

-- ---- an entry on a leaf is on the list

in_page : (m : List (ℕ × Node)) (q : ℕ) (page : Node) (x : ℤ × ℕ) → page_in m q ≡ Some page → Has (labels_on page.entries) x → Has (labels_of_pages m) x
in_page [] q page x h k = let no : ⊥ = cc in absurd no
in_page (p ∷ m) q page x h k = by_test (p.0 == q) h (λ z. in_page m q page x z k)
  where
    by_test : (b : Bool) → cond b (Some p.1) (page_in m q) ≡ Some page → (page_in m q ≡ Some page → Has (labels_of_pages m) x) → Has (labels_on p.1.entries ++ labels_of_pages m) x
    by_test true z again =
        let same : page ≡ p.1 = cc in
        Has-append_left (labels_on p.1.entries) (labels_of_pages m) x (subst (λ (y : Node). Has (labels_on y.entries) x) same k)
    by_test false z again = Has-append_right (labels_on p.1.entries) (labels_of_pages m) x (again z)

in_tree : (trees : List (ℕ × Tree)) (c : ℕ) (x : ℤ × ℕ) → Has (labels_of_pages (tree_among trees c).pages) x → Has (labels_of_trees trees) x
in_tree [] c x h = absurd h
in_tree (t ∷ trees) c x h = by_test (t.0 == c) h (λ z. in_tree trees c x z)
  where
    by_test : (b : Bool) → Has (labels_of_pages (cond b t.1 (tree_among trees c)).pages) x → (Has (labels_of_pages (tree_among trees c).pages) x → Has (labels_of_trees trees) x)
        → Has (labels_of_pages t.1.pages ++ labels_of_trees trees) x
    by_test true z again = Has-append_left (labels_of_pages t.1.pages) (labels_of_trees trees) x z
    by_test false z again = Has-append_right (labels_of_pages t.1.pages) (labels_of_trees trees) x (again z)

in_table : (k i : ℕ) (tables : List StoredTable) (x : ℤ × ℕ) → Has (labels_of_trees (table_from k tables i).trees) x → Has (labels_from k tables) (labelled i x)
in_table k i [] x h = absurd h
in_table k i (t ∷ tables) x h = by_test (k == i) refl h (λ z. in_table (suc k) i tables x z)
  where
    by_test : (b : Bool) → (k == i) ≡ b → Has (labels_of_trees (cond b t (table_from (suc k) tables i)).trees) x
        → (Has (labels_of_trees (table_from (suc k) tables i).trees) x → Has (labels_from (suc k) tables) (labelled i x))
        → Has (map (labelled k) (labels_of_trees t.trees) ++ labels_from (suc k) tables) (labelled i x)
    by_test true e z again =
        subst (λ j. Has (map (labelled k) (labels_of_trees t.trees) ++ labels_from (suc k) tables) (labelled j x)) (eqb-true k i e)
        (Has-append_left (map (labelled k) (labels_of_trees t.trees)) (labels_from (suc k) tables) (labelled k x) (Has-map_of (labelled k) (labels_of_trees t.trees) x z))
    by_test false e z again = Has-append_right (map (labelled k) (labels_of_trees t.trees)) (labels_from (suc k) tables) (labelled i x) (again z)

lies_label : (tables : List StoredTable) (e : EntryAt) → LiesIn tables e → Has (labels_from 1 tables) (labelled e.table (e.key, e.number))
lies_label tables e h =
    let on : Has (labels_on h.leaf.entries) (e.key, e.number) = in_noted (λ (x : Entry). label_in x.to) h.leaf.entries (leaf_entry e) (e.key, e.number) h.has refl in
    in_table 1 e.table tables (e.key, e.number) (in_tree (table_at tables e.table).trees e.column (e.key, e.number)
    (in_page (tree_of (table_at tables e.table) e.column).pages h.p h.leaf (e.key, e.number) h.there on))

-- ---- a number stands once

twice : (ls : List (ℕ × (ℤ × ℕ))) (l b : ℕ × (ℤ × ℕ)) (n : ℕ) → times n (number_of l ∷ map number_of ls) ≤ 1 → number_of l ≡ n → Has ls b → number_of b ≡ n → ⊥
twice ls l b n once is k y =
    let rest : 0 < times n (map number_of ls) = times-Has n (map number_of ls) (subst (λ z. Has (map number_of ls) z) y (Has-map_of number_of ls b k)) in
    let t : (number_of l == n) ≡ true = eq-eqb (number_of l) n is in
    let one : ◌≡◌ {A = ℕ} (cond (number_of l == n) 1 0) 1 = ap (λ z. cond z 1 0) t in
    omega (arith, once, rest, one)

one_label : (ls : List (ℕ × (ℤ × ℕ))) (n : ℕ) (a b : ℕ × (ℤ × ℕ)) → times n (map number_of ls) ≤ 1 → Has ls a → Has ls b → number_of a ≡ n → number_of b ≡ n → a ≡ b
one_label [] n a b once h k x y = absurd h
one_label (l ∷ ls) n a b once (inl h) (inl k) x y = sym h ∙ k
one_label (l ∷ ls) n a b once (inl h) (inr k) x y = absurd (twice ls l b n once (ap number_of h ∙ x) k y)
one_label (l ∷ ls) n a b once (inr h) (inl k) x y = absurd (twice ls l a n once (ap number_of k ∙ y) h x)
one_label (l ∷ ls) n a b once (inr h) (inr k) x y = one_label ls n a b (omega (arith, once)) h k x y

-- two entries with one number are of one key of one table
pub one_place : (tables : List StoredTable) (entries : ℕ) → AreNumbered tables entries → (a b : EntryAt) → LiesIn tables a → LiesIn tables b → a.number ≡ b.number
    → (a.table ≡ b.table) × (a.key ≡ b.key)
one_place tables entries n a b h k same =
    let once : times b.number (map number_of (labels_from 1 tables)) ≤ 1 = subst (λ xs. times b.number xs ≤ 1) (sym (tables_numbers 1 tables)) (n.once b.number) in
    let one : labelled a.table (a.key, a.number) ≡ labelled b.table (b.key, b.number) =
    one_label (labels_from 1 tables) b.number (labelled a.table (a.key, a.number)) (labelled b.table (b.key, b.number)) once (lies_label tables a h) (lies_label tables b k) same refl in
    (ap (λ (l : ℕ × (ℤ × ℕ)). l.0) one, ap (λ (l : ℕ × (ℤ × ℕ)). l.1.0) one)

-- and it was given
pub lies_given : (tables : List StoredTable) (entries : ℕ) → AreNumbered tables entries → (e : EntryAt) → LiesIn tables e → e.number < entries
lies_given tables entries n e h =
    n.given e.number (subst (λ xs. Has xs e.number) (tables_numbers 1 tables) (Has-map_of number_of (labels_from 1 tables) (labelled e.table (e.key, e.number)) (lies_label tables e h)))
