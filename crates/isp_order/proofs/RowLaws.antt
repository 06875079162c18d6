-- Rows at their keys, after a row was put, rewritten, marked, put back or purged.
use Rattle.std.proofs.Common.{◌≡◌, ◌⊎◌, ◌∙◌, inl, inr, refl, sym, ap, subst, ℕ, ℤ, zero, suc, ◌==◌, ◌||◌, not, cond, Bool, true, false, List, [], ◌∷◌, ◌++◌, Option, Some, None, map, take, drop}
use Rattle.std.specs.Prelude.{filter, flat_map, int_lt}
use Rattle.std.specs.Option.{option_and_then, option_map}
use Rattle.std.specs.List.{list_any}
use Rattle.std.specs.Map.{lookup}
use Rattle.std.specs.BTreeMap.{insert_entry, is_at}
use Rattle.std.specs.Ordering.{int_cmp, int_eq, match_ordering}
use Rattle.std.specs.Cmp.{int_ranks}
use Rattle.std.specs.declared.cmp.Ordering.{Ordering}
use Rattle.std.specs.declared.cmp.Ordering.TheVariants.{Less, Equal, Greater}
use Rattle.std.proofs.lemmas.Bool.{false≢true, and_parts}
use Rattle.std.proofs.lemmas.Bool.Decides.{Decides-int_eq}
use Rattle.std.proofs.lemmas.Cmp.{int_cmp_total}
use Rattle.std.proofs.lemmas.List.{map-append}
use Rattle.std.proofs.lemmas.List.Elements.{filter-append}
use Rattle.isp_base.specs.Lists.{Has}
use Rattle.isp_laws.proofs.ListLaws.{Has-append, Has-append_left, Has-append_right, Has-map_of}
use Rattle.isp_events.specs.Stored.{KeptRow, Leaf, StoredTable, change_row, changed_at_key, kept_at, keys_of_leaves, rows_of}
use Rattle.isp_events.specs.Writing.{Put, ascend, leaves_after_put, moved_leaves, parts_of, put_in, table_with_row, with_page, with_row_in}
use Rattle.isp_events.specs.Purging.{leaf_without, table_without}

-- ---- keys

pub key_is : (a b : ℤ) → int_eq a b ≡ true → a ≡ b
key_is a b h = (Decides-int_eq a b).0 h

pub key_same : (a : ℤ) → int_eq a a ≡ true
key_same a = (Decides-int_eq a a).1 refl

pub key_other : (a b : ℤ) → (a ≡ b → ⊥) → int_eq a b ≡ false
key_other a b ne = by_test (int_eq a b) refl
  where
    by_test : (t : Bool) → int_eq a b ≡ t → t ≡ false
    by_test true e = absurd (ne (key_is a b e))
    by_test false e = refl

less_of : (a b : ℤ) → int_lt a b ≡ true → int_cmp a b ≡ Less
less_of a b h = ap (λ t. cond t Less (cond (int_lt b a) Greater Equal)) h

lt_of : (a b : ℤ) → int_cmp a b ≡ Less → int_lt a b ≡ true
lt_of a b h = by_tests (int_lt a b) (int_lt b a) h
  where
    by_tests : (s t : Bool) → cond s Less (cond t Greater Equal) ≡ Less → s ≡ true
    by_tests true t e = refl
    by_tests false true e = let no : ⊥ = cc in absurd no
    by_tests false false e = let no : ⊥ = cc in absurd no

pub lt_trans : (a b c : ℤ) → int_lt a b ≡ true → int_lt b c ≡ true → int_lt a c ≡ true
lt_trans a b c h k = lt_of a c (int_cmp_total.trans a b c (less_of a b h) (less_of b c k))

pub lt_apart : (a b : ℤ) → int_lt a b ≡ true → a ≡ b → ⊥
lt_apart a b h e =
    let less : int_cmp a b ≡ Less = less_of a b h in
    let same : int_eq a b ≡ true = (Decides-int_eq a b).1 e in
    let no : ⊥ = cc in no

equal_is : (a b : ℤ) → int_cmp a b ≡ Equal → a ≡ b
equal_is a b h = (Decides-int_eq a b).0 (ap (λ o. Rattle.std.specs.Ordering.is_eq o) h)

-- ---- rows by keys that rise

keys_in : List (ℤ × KeptRow) → List ℤ
keys_in rows = map (λ e. e.0) rows

pub first_least : (k : ℤ) (keys : List ℤ) (j : ℤ) → ascend (k ∷ keys) ≡ true → Has keys j → int_lt k j ≡ true
first_least k [] j h i = absurd i
first_least k (l ∷ keys) j h (inl e) = subst (λ x. int_lt k x ≡ true) e (and_parts (int_lt k l) (ascend (l ∷ keys)) h).0
first_least k (l ∷ keys) j h (inr i) =
    let parts = and_parts (int_lt k l) (ascend (l ∷ keys)) h in
    lt_trans k l j parts.0 (first_least l keys j parts.1 i)

pub ascend_rest : (k : ℤ) (keys : List ℤ) → ascend (k ∷ keys) ≡ true → ascend keys ≡ true
ascend_rest k [] h = refl
ascend_rest k (l ∷ keys) h = (and_parts (int_lt k l) (ascend (l ∷ keys)) h).1

has_key : (rows : List (ℤ × KeptRow)) (key : ℤ) (kept : KeptRow) → Has {X = ℤ × KeptRow} rows (key, kept) → Has (map (λ e. e.0) rows) key
has_key rows key kept h = Has-map_of {X = ℤ × KeptRow} (λ e. e.0) rows (key, kept) h

pub lookup_has : (rows : List (ℤ × KeptRow)) (key : ℤ) (kept : KeptRow) → lookup (is_at (int_cmp key)) rows ≡ Some kept → Has {X = ℤ × KeptRow} rows (key, kept)
lookup_has [] key kept h = let no : None ≡ Some kept = h in let f : ⊥ = cc in absurd f
lookup_has (e ∷ rows) key kept h = by_test (int_eq key e.0) refl (lookup_has rows key kept) h
  where
    by_test : (t : Bool) → int_eq key e.0 ≡ t → (lookup (is_at (int_cmp key)) rows ≡ Some kept → Has {X = ℤ × KeptRow} rows (key, kept))
        → cond t (Some e.1) (lookup (is_at (int_cmp key)) rows) ≡ Some kept → Has {X = ℤ × KeptRow} (e ∷ rows) (key, kept)
    by_test true i again k =
        let one : e.1 ≡ kept = some_is e.1 kept k in
        let zero' : key ≡ e.0 = key_is key e.0 i in
        inl (pair_is e.0 e.1 key kept (sym zero') one)
      where
        some_is : (x y : KeptRow) → Some x ≡ Some y → x ≡ y
        some_is x y l = cc

        pair_is : (a : ℤ) (b : KeptRow) (c : ℤ) (d : KeptRow) → a ≡ c → b ≡ d → ◌≡◌ {A = ℤ × KeptRow} (a, b) (c, d)
        pair_is a b c d p q = ap (λ x. (let y : ℤ × KeptRow = (x, b) in y)) p ∙ ap (λ x. (let y : ℤ × KeptRow = (c, x) in y)) q
    by_test false i again k = inr (again k)

pub has_lookup : (rows : List (ℤ × KeptRow)) (key : ℤ) (kept : KeptRow) → ascend (map (λ e. e.0) rows) ≡ true → Has {X = ℤ × KeptRow} rows (key, kept)
    → lookup (is_at (int_cmp key)) rows ≡ Some kept
has_lookup [] key kept up h = absurd h
has_lookup (e ∷ rows) key kept up (inl is) =
    let k : e.0 ≡ key = ap (λ p. p.0) is in
    let v : e.1 ≡ kept = ap (λ p. p.1) is in
    let t : int_eq key e.0 ≡ true = (Decides-int_eq key e.0).1 (sym k) in
    ap (λ b. cond b (Some e.1) (lookup (is_at (int_cmp key)) rows)) t ∙ ap (λ x. Some x) v
has_lookup (e ∷ rows) key kept up (inr h) =
    let less : int_lt e.0 key ≡ true = first_least e.0 (map (λ p. p.0) rows) key up (has_key rows key kept h) in
    let t : int_eq key e.0 ≡ false = key_other key e.0 (λ is. lt_apart e.0 key less (sym is)) in
    ap (λ b. cond b (Some e.1) (lookup (is_at (int_cmp key)) rows)) t ∙ has_lookup rows key kept (ascend_rest e.0 (map (λ p. p.0) rows) up) h

-- rows that have the same at the key
pub same_lookup : (rows others : List (ℤ × KeptRow)) (key : ℤ) → ascend (map (λ e. e.0) rows) ≡ true → ascend (map (λ e. e.0) others) ≡ true
    → ((kept : KeptRow) → Has {X = ℤ × KeptRow} rows (key, kept) → Has {X = ℤ × KeptRow} others (key, kept))
    → ((kept : KeptRow) → Has {X = ℤ × KeptRow} others (key, kept) → Has {X = ℤ × KeptRow} rows (key, kept))
    → lookup (is_at (int_cmp key)) others ≡ lookup (is_at (int_cmp key)) rows
same_lookup rows others key up up' to back = by_found (lookup (is_at (int_cmp key)) rows) (lookup (is_at (int_cmp key)) others) refl refl
  where
    by_found : (a b : Option KeptRow) → lookup (is_at (int_cmp key)) rows ≡ a → lookup (is_at (int_cmp key)) others ≡ b → b ≡ a
    by_found (Some kept) b e f = sym f ∙ has_lookup others key kept up' (to kept (lookup_has rows key kept e))
    by_found None None e f = refl
    by_found None (Some kept) e f = sym (sym e ∙ has_lookup rows key kept up (back kept (lookup_has others key kept f)))

-- ---- a row that changes where it is

changed_lookup : (key : ℤ) (f : KeptRow → KeptRow) (rows : List (ℤ × KeptRow)) → lookup (is_at (int_cmp key)) (changed_at_key key f rows) ≡ option_map f (lookup (is_at (int_cmp key)) rows)
changed_lookup key f [] = refl
changed_lookup key f (e ∷ rows) = by_test (int_eq key e.0) refl (changed_lookup key f rows)
  where
    by_test : (t : Bool) → int_eq key e.0 ≡ t → lookup (is_at (int_cmp key)) (changed_at_key key f rows) ≡ option_map f (lookup (is_at (int_cmp key)) rows)
        → cond t (Some (cond (int_eq e.0 key) (f e.1) e.1)) (lookup (is_at (int_cmp key)) (changed_at_key key f rows)) ≡ option_map f (cond t (Some e.1) (lookup (is_at (int_cmp key)) rows))
    by_test true i again =
        let back : int_eq e.0 key ≡ true = (Decides-int_eq e.0 key).1 (sym (key_is key e.0 i)) in
        ap (λ b. Some (cond b (f e.1) e.1)) back
    by_test false i again = again

other_lookup : (key k : ℤ) (f : KeptRow → KeptRow) (rows : List (ℤ × KeptRow)) → (k ≡ key → ⊥) → lookup (is_at (int_cmp k)) (changed_at_key key f rows) ≡ lookup (is_at (int_cmp k)) rows
other_lookup key k f [] ne = refl
other_lookup key k f (e ∷ rows) ne = by_test (int_eq k e.0) refl (other_lookup key k f rows ne)
  where
    by_test : (t : Bool) → int_eq k e.0 ≡ t → lookup (is_at (int_cmp k)) (changed_at_key key f rows) ≡ lookup (is_at (int_cmp k)) rows
        → cond t (Some (cond (int_eq e.0 key) (f e.1) e.1)) (lookup (is_at (int_cmp k)) (changed_at_key key f rows)) ≡ cond t (Some e.1) (lookup (is_at (int_cmp k)) rows)
    by_test true i again =
        let other : int_eq e.0 key ≡ false = key_other e.0 key (λ is. ne (key_is k e.0 i ∙ is)) in
        ap (λ b. Some (cond b (f e.1) e.1)) other
    by_test false i again = again

pub rows_changed : (key : ℤ) (f : KeptRow → KeptRow) (leaves : List Leaf)
    → flat_map (λ (leaf : Leaf). leaf.rows) (change_row key f leaves) ≡ changed_at_key key f (flat_map (λ (leaf : Leaf). leaf.rows) leaves)
rows_changed key f [] = refl
rows_changed key f (leaf ∷ leaves) =
    ap (λ rest. changed_at_key key f leaf.rows ++ rest) (rows_changed key f leaves)
    ∙ sym (map-append (λ e. (let p : ℤ × KeptRow = (e.0, cond (int_eq e.0 key) (f e.1) e.1) in p)) leaf.rows (flat_map (λ (x : Leaf). x.rows) leaves))

pub row_changed : (key : ℤ) (f : KeptRow → KeptRow) (table : StoredTable) → kept_at (table_with_row key f table) key ≡ option_map f (kept_at table key)
row_changed key f table = ap (λ rows. lookup (is_at (int_cmp key)) rows) (rows_changed key f table.leaves) ∙ changed_lookup key f (rows_of table)

pub row_unchanged : (key k : ℤ) (f : KeptRow → KeptRow) (table : StoredTable) → (k ≡ key → ⊥) → kept_at (table_with_row key f table) k ≡ kept_at table k
row_unchanged key k f table ne = ap (λ rows. lookup (is_at (int_cmp k)) rows) (rows_changed key f table.leaves) ∙ other_lookup key k f (rows_of table) ne

-- ---- a row that is purged

pub rows_left : (key : ℤ) (leaves : List Leaf)
    → flat_map (λ (leaf : Leaf). leaf.rows) (map (leaf_without key) leaves) ≡ filter (λ e. not (int_eq e.0 key)) (flat_map (λ (leaf : Leaf). leaf.rows) leaves)
rows_left key [] = refl
rows_left key (leaf ∷ leaves) =
    ap (λ rest. filter (λ e. not (int_eq e.0 key)) leaf.rows ++ rest) (rows_left key leaves)
    ∙ sym (filter-append (λ e. not (int_eq e.0 key)) leaf.rows (flat_map (λ (x : Leaf). x.rows) leaves))

left_lookup : (key k : ℤ) (rows : List (ℤ × KeptRow)) → (k ≡ key → ⊥) → lookup (is_at (int_cmp k)) (filter (λ e. not (int_eq e.0 key)) rows) ≡ lookup (is_at (int_cmp k)) rows
left_lookup key k [] ne = refl
left_lookup key k (e ∷ rows) ne = by_test (int_eq e.0 key) refl (left_lookup key k rows ne)
  where
    by_test : (t : Bool) → int_eq e.0 key ≡ t → lookup (is_at (int_cmp k)) (filter (λ x. not (int_eq x.0 key)) rows) ≡ lookup (is_at (int_cmp k)) rows
        → lookup (is_at (int_cmp k)) (cond (not t) (e ∷ filter (λ x. not (int_eq x.0 key)) rows) (filter (λ x. not (int_eq x.0 key)) rows))
        ≡ cond (int_eq k e.0) (Some e.1) (lookup (is_at (int_cmp k)) rows)
    by_test true i again =
        let other : int_eq k e.0 ≡ false = key_other k e.0 (λ is. ne (is ∙ key_is e.0 key i)) in
        again ∙ sym (ap (λ b. cond b (Some e.1) (lookup (is_at (int_cmp k)) rows)) other)
    by_test false i again = ap (λ o. cond (int_eq k e.0) (Some e.1) o) again

gone_lookup : (key : ℤ) (rows : List (ℤ × KeptRow)) → lookup (is_at (int_cmp key)) (filter (λ e. not (int_eq e.0 key)) rows) ≡ None
gone_lookup key [] = refl
gone_lookup key (e ∷ rows) = by_test (int_eq e.0 key) refl (gone_lookup key rows)
  where
    by_test : (t : Bool) → int_eq e.0 key ≡ t → lookup (is_at (int_cmp key)) (filter (λ x. not (int_eq x.0 key)) rows) ≡ None
        → lookup (is_at (int_cmp key)) (cond (not t) (e ∷ filter (λ x. not (int_eq x.0 key)) rows) (filter (λ x. not (int_eq x.0 key)) rows)) ≡ None
    by_test true i again = again
    by_test false i again =
        let other : int_eq key e.0 ≡ false = key_other key e.0 (λ is. false≢true (sym i ∙ (Decides-int_eq e.0 key).1 (sym is))) in
        ap (λ b. cond b (Some e.1) (lookup (is_at (int_cmp key)) (filter (λ x. not (int_eq x.0 key)) rows))) other ∙ again

pub row_gone : (key : ℤ) (table : StoredTable) → kept_at (table_without key table) key ≡ None
row_gone key table = ap (λ rows. lookup (is_at (int_cmp key)) rows) (rows_left key table.leaves) ∙ gone_lookup key (rows_of table)

pub row_left : (key k : ℤ) (table : StoredTable) → (k ≡ key → ⊥) → kept_at (table_without key table) k ≡ kept_at table k
row_left key k table ne = ap (λ rows. lookup (is_at (int_cmp k)) rows) (rows_left key table.leaves) ∙ left_lookup key k (rows_of table) ne

-- ---- a row that is put

inserted : (rows : List (ℤ × KeptRow)) (key : ℤ) (kept : KeptRow) → Has {X = ℤ × KeptRow} (insert_entry int_cmp rows key kept) (key, kept)
inserted [] key kept = inl refl
inserted (e ∷ rows) key kept = by_order (int_cmp key e.0) refl (inserted rows key kept)
  where
    by_order : (o : Ordering) → int_cmp key e.0 ≡ o → Has {X = ℤ × KeptRow} (insert_entry int_cmp rows key kept) (key, kept)
        → Has {X = ℤ × KeptRow} (match_ordering o ((key, kept) ∷ e ∷ rows) ((e.0, kept) ∷ rows) (e ∷ insert_entry int_cmp rows key kept)) (key, kept)
    by_order Less i again = inl refl
    by_order Equal i again = inl (ap (λ x. (let p : ℤ × KeptRow = (x, kept) in p)) (sym (equal_is key e.0 i)))
    by_order Greater i again = inr again

inserted_old : (rows : List (ℤ × KeptRow)) (key : ℤ) (kept : KeptRow) (k : ℤ) (other : KeptRow) → (k ≡ key → ⊥)
    → Has {X = ℤ × KeptRow} rows (k, other) → Has {X = ℤ × KeptRow} (insert_entry int_cmp rows key kept) (k, other)
inserted_old [] key kept k other ne h = absurd h
inserted_old (e ∷ rows) key kept k other ne h = by_order (int_cmp key e.0) refl (inserted_old rows key kept k other ne) h
  where
    by_order : (o : Ordering) → int_cmp key e.0 ≡ o
        → (Has {X = ℤ × KeptRow} rows (k, other) → Has {X = ℤ × KeptRow} (insert_entry int_cmp rows key kept) (k, other)) → Has {X = ℤ × KeptRow} (e ∷ rows) (k, other)
        → Has {X = ℤ × KeptRow} (match_ordering o ((key, kept) ∷ e ∷ rows) ((e.0, kept) ∷ rows) (e ∷ insert_entry int_cmp rows key kept)) (k, other)
    by_order Less i again j = inr j
    by_order Equal i again (inl is) = absurd (ne (sym (equal_is key e.0 i ∙ ap (λ p. p.0) is)))
    by_order Equal i again (inr j) = inr j
    by_order Greater i again (inl is) = inl is
    by_order Greater i again (inr j) = inr (again j)

inserted_back : (rows : List (ℤ × KeptRow)) (key : ℤ) (kept : KeptRow) (k : ℤ) (other : KeptRow) → (k ≡ key → ⊥)
    → Has {X = ℤ × KeptRow} (insert_entry int_cmp rows key kept) (k, other) → Has {X = ℤ × KeptRow} rows (k, other)
inserted_back [] key kept k other ne (inl is) = absurd (ne (sym (ap (λ p. p.0) is)))
inserted_back [] key kept k other ne (inr h) = absurd h
inserted_back (e ∷ rows) key kept k other ne h = by_order (int_cmp key e.0) refl (inserted_back rows key kept k other ne) h
  where
    by_order : (o : Ordering) → int_cmp key e.0 ≡ o
        → (Has {X = ℤ × KeptRow} (insert_entry int_cmp rows key kept) (k, other) → Has {X = ℤ × KeptRow} rows (k, other))
        → Has {X = ℤ × KeptRow} (match_ordering o ((key, kept) ∷ e ∷ rows) ((e.0, kept) ∷ rows) (e ∷ insert_entry int_cmp rows key kept)) (k, other)
        → Has {X = ℤ × KeptRow} (e ∷ rows) (k, other)
    by_order Less i again (inl is) = absurd (ne (sym (ap (λ p. p.0) is)))
    by_order Less i again (inr j) = j
    by_order Equal i again (inl is) = absurd (ne (sym (equal_is key e.0 i ∙ ap (λ p. p.0) is)))
    by_order Equal i again (inr j) = inr j
    by_order Greater i again (inl is) = inl is
    by_order Greater i again (inr j) = inr (again j)

parted : (n : ℕ) (rows : List (ℤ × KeptRow)) (e : ℤ × KeptRow) → Has rows e → Has (take n rows) e ⊎ Has (drop n rows) e
parted zero rows e h = inr h
parted (suc n) [] e h = absurd h
parted (suc n) (x ∷ rows) e (inl is) = inl (inl is)
parted (suc n) (x ∷ rows) e (inr h) = elim (parted n rows e h) [ inl k ↦ inl (inr k) | inr k ↦ inr k ]

of_front : (n : ℕ) (rows : List (ℤ × KeptRow)) (e : ℤ × KeptRow) → Has (take n rows) e → Has rows e
of_front zero rows e h = absurd h
of_front (suc n) [] e h = absurd h
of_front (suc n) (x ∷ rows) e (inl is) = inl is
of_front (suc n) (x ∷ rows) e (inr h) = inr (of_front n rows e h)

of_back : (n : ℕ) (rows : List (ℤ × KeptRow)) (e : ℤ × KeptRow) → Has (drop n rows) e → Has rows e
of_back zero rows e h = h
of_back (suc n) [] e h = h
of_back (suc n) (x ∷ rows) e h = inr (of_back n rows e h)

leaf_rows : List Leaf → List (ℤ × KeptRow)
leaf_rows leaves = flat_map (λ (leaf : Leaf). leaf.rows) leaves

part_rows : (d : Option (ℕ × ℕ)) (leaf : Leaf) (e : ℤ × KeptRow) → Has leaf.rows e → Has (flat_map (λ (x : Leaf). x.rows) (parts_of d leaf)) e
part_rows None leaf e h = Has-append_left leaf.rows [] e h
part_rows (Some d) leaf e h = elim (parted d.1 leaf.rows e h) [
  | inl k ↦ Has-append_left (take d.1 leaf.rows) (drop d.1 leaf.rows ++ []) e k
  | inr k ↦ Has-append_right (take d.1 leaf.rows) (drop d.1 leaf.rows ++ []) e (Has-append_left (drop d.1 leaf.rows) [] e k)
]

part_back : (d : Option (ℕ × ℕ)) (leaf : Leaf) (e : ℤ × KeptRow) → Has (flat_map (λ (x : Leaf). x.rows) (parts_of d leaf)) e → Has leaf.rows e
part_back None leaf e h = elim (Has-append leaf.rows [] e h) [ inl k ↦ k | inr k ↦ absurd k ]
part_back (Some d) leaf e h = elim (Has-append (take d.1 leaf.rows) (drop d.1 leaf.rows ++ []) e h) [
  | inl k ↦ of_front d.1 leaf.rows e k
  | inr k ↦ elim (Has-append (drop d.1 leaf.rows) [] e k) [ inl l ↦ of_back d.1 leaf.rows e l | inr l ↦ absurd l ]
]

flat_more : (a b : List Leaf) (e : ℤ × KeptRow) → Has (flat_map (λ (x : Leaf). x.rows) (a ++ b)) e
    → Has (flat_map (λ (x : Leaf). x.rows) a) e ⊎ Has (flat_map (λ (x : Leaf). x.rows) b) e
flat_more [] b e h = inr h
flat_more (x ∷ a) b e h = elim (Has-append x.rows (flat_map (λ (y : Leaf). y.rows) (a ++ b)) e h) [
  | inl k ↦ inl (Has-append_left x.rows (flat_map (λ (y : Leaf). y.rows) a) e k)
  | inr k ↦ elim (flat_more a b e k) [ inl l ↦ inl (Has-append_right x.rows (flat_map (λ (y : Leaf). y.rows) a) e l) | inr l ↦ inr l ]
]

flat_left : (a b : List Leaf) (e : ℤ × KeptRow) → Has (flat_map (λ (x : Leaf). x.rows) a) e → Has (flat_map (λ (x : Leaf). x.rows) (a ++ b)) e
flat_left [] b e h = absurd h
flat_left (x ∷ a) b e h = elim (Has-append x.rows (flat_map (λ (y : Leaf). y.rows) a) e h) [
  | inl k ↦ Has-append_left x.rows (flat_map (λ (y : Leaf). y.rows) (a ++ b)) e k
  | inr k ↦ Has-append_right x.rows (flat_map (λ (y : Leaf). y.rows) (a ++ b)) e (flat_left a b e k)
]

flat_right : (a b : List Leaf) (e : ℤ × KeptRow) → Has (flat_map (λ (x : Leaf). x.rows) b) e → Has (flat_map (λ (x : Leaf). x.rows) (a ++ b)) e
flat_right [] b e h = h
flat_right (x ∷ a) b e h = Has-append_right x.rows (flat_map (λ (y : Leaf). y.rows) (a ++ b)) e (flat_right a b e h)

module _ (p : Put) (key : ℤ) (kept : KeptRow) where
  leaf_old : (leaf : Leaf) (k : ℤ) (other : KeptRow) → (k ≡ key → ⊥) → Has {X = ℤ × KeptRow} leaf.rows (k, other)
      → Has {X = ℤ × KeptRow} (flat_map (λ (x : Leaf). x.rows) (put_in p key kept leaf)) (k, other)
  leaf_old leaf k other ne h = by_test (leaf.page == p.leaf)
    where
      by_test : (t : Bool) → Has {X = ℤ × KeptRow} (flat_map (λ (x : Leaf). x.rows) (cond t (parts_of p.divided (with_row_in key kept leaf)) (leaf ∷ []))) (k, other)
      by_test true = part_rows p.divided (with_row_in key kept leaf) (k, other) (inserted_old leaf.rows key kept k other ne h)
      by_test false = Has-append_left leaf.rows [] (k, other) h

  leaf_back : (leaf : Leaf) (k : ℤ) (other : KeptRow) → (k ≡ key → ⊥) → Has {X = ℤ × KeptRow} (flat_map (λ (x : Leaf). x.rows) (put_in p key kept leaf)) (k, other)
      → Has {X = ℤ × KeptRow} leaf.rows (k, other)
  leaf_back leaf k other ne h = by_test (leaf.page == p.leaf) h
    where
      by_test : (t : Bool) → Has {X = ℤ × KeptRow} (flat_map (λ (x : Leaf). x.rows) (cond t (parts_of p.divided (with_row_in key kept leaf)) (leaf ∷ []))) (k, other) → Has {X = ℤ × KeptRow} leaf.rows (k, other)
      by_test true i = inserted_back leaf.rows key kept k other ne (part_back p.divided (with_row_in key kept leaf) (k, other) i)
      by_test false i = elim (Has-append leaf.rows [] (k, other) i) [ inl j ↦ j | inr j ↦ absurd j ]

  put_old : (leaves : List Leaf) (k : ℤ) (other : KeptRow) → (k ≡ key → ⊥) → Has {X = ℤ × KeptRow} (flat_map (λ (x : Leaf). x.rows) leaves) (k, other)
      → Has {X = ℤ × KeptRow} (flat_map (λ (x : Leaf). x.rows) (flat_map (put_in p key kept) leaves)) (k, other)
  put_old [] k other ne h = absurd h
  put_old (leaf ∷ leaves) k other ne h = elim (Has-append leaf.rows (flat_map (λ (x : Leaf). x.rows) leaves) (k, other) h) [
    | inl i ↦ flat_left (put_in p key kept leaf) (flat_map (put_in p key kept) leaves) (k, other) (leaf_old leaf k other ne i)
    | inr i ↦ flat_right (put_in p key kept leaf) (flat_map (put_in p key kept) leaves) (k, other) (put_old leaves k other ne i)
  ]

  put_back : (leaves : List Leaf) (k : ℤ) (other : KeptRow) → (k ≡ key → ⊥)
      → Has {X = ℤ × KeptRow} (flat_map (λ (x : Leaf). x.rows) (flat_map (put_in p key kept) leaves)) (k, other)
      → Has {X = ℤ × KeptRow} (flat_map (λ (x : Leaf). x.rows) leaves) (k, other)
  put_back [] k other ne h = absurd h
  put_back (leaf ∷ leaves) k other ne h = elim (flat_more (put_in p key kept leaf) (flat_map (put_in p key kept) leaves) (k, other) h) [
    | inl i ↦ Has-append_left leaf.rows (flat_map (λ (x : Leaf). x.rows) leaves) (k, other) (leaf_back leaf k other ne i)
    | inr i ↦ Has-append_right leaf.rows (flat_map (λ (x : Leaf). x.rows) leaves) (k, other) (put_back leaves k other ne i)
  ]

  put_new : (leaves : List Leaf) → list_any (λ (leaf : Leaf). leaf.page == p.leaf) leaves ≡ true
      → Has {X = ℤ × KeptRow} (flat_map (λ (x : Leaf). x.rows) (flat_map (put_in p key kept) leaves)) (key, kept)
  put_new [] h = absurd (false≢true h)
  put_new (leaf ∷ leaves) h = by_test (leaf.page == p.leaf) refl (put_new leaves) h
    where
      by_test : (t : Bool) → (leaf.page == p.leaf) ≡ t
          → (list_any (λ (x : Leaf). x.page == p.leaf) leaves ≡ true → Has {X = ℤ × KeptRow} (flat_map (λ (x : Leaf). x.rows) (flat_map (put_in p key kept) leaves)) (key, kept))
          → (t || list_any (λ (x : Leaf). x.page == p.leaf) leaves) ≡ true
          → Has {X = ℤ × KeptRow} (flat_map (λ (x : Leaf). x.rows) (cond t (parts_of p.divided (with_row_in key kept leaf)) (leaf ∷ []) ++ flat_map (put_in p key kept) leaves)) (key, kept)
      by_test true e again i =
          flat_left (parts_of p.divided (with_row_in key kept leaf)) (flat_map (put_in p key kept) leaves) (key, kept)
          (part_rows p.divided (with_row_in key kept leaf) (key, kept) (inserted leaf.rows key kept))
      by_test false e again i = flat_right (leaf ∷ []) (flat_map (put_in p key kept) leaves) (key, kept) (again i)

page_moved : (moved : Option ℕ) (leaf : Leaf) → (with_page moved leaf).rows ≡ leaf.rows
page_moved None leaf = refl
page_moved (Some page) leaf = refl

-- a lone leaf that moves keeps its rows
pub moved_rows : (moved : Option ℕ) (leaves : List Leaf) → flat_map (λ (x : Leaf). x.rows) (moved_leaves moved leaves) ≡ flat_map (λ (x : Leaf). x.rows) leaves
moved_rows moved [] = refl
moved_rows moved (leaf ∷ []) = ap (λ rows. rows ++ []) (page_moved moved leaf)
moved_rows moved (leaf ∷ other ∷ leaves) = refl

-- where the keys rise before and after, the row stands at its key, and what stands at others stays
pub put_at_key : (p : Put) (key : ℤ) (kept : KeptRow) (leaves : List Leaf)
    → list_any (λ (leaf : Leaf). leaf.page == p.leaf) (moved_leaves p.moved leaves) ≡ true → ascend (keys_of_leaves (leaves_after_put p key kept leaves)) ≡ true
    → lookup (is_at (int_cmp key)) (flat_map (λ (x : Leaf). x.rows) (leaves_after_put p key kept leaves)) ≡ Some kept
put_at_key p key kept leaves there up =
    has_lookup (flat_map (λ (x : Leaf). x.rows) (leaves_after_put p key kept leaves)) key kept up (put_new p key kept (moved_leaves p.moved leaves) there)

pub put_at_others : (p : Put) (key : ℤ) (kept : KeptRow) (leaves : List Leaf) (k : ℤ) → (k ≡ key → ⊥)
    → ascend (keys_of_leaves leaves) ≡ true → ascend (keys_of_leaves (leaves_after_put p key kept leaves)) ≡ true
    → lookup (is_at (int_cmp k)) (flat_map (λ (x : Leaf). x.rows) (leaves_after_put p key kept leaves)) ≡ lookup (is_at (int_cmp k)) (flat_map (λ (x : Leaf). x.rows) leaves)
put_at_others p key kept leaves k ne up up' =
    let moved : flat_map (λ (x : Leaf). x.rows) (moved_leaves p.moved leaves) ≡ flat_map (λ (x : Leaf). x.rows) leaves = moved_rows p.moved leaves in
    same_lookup (flat_map (λ (x : Leaf). x.rows) leaves) (flat_map (λ (x : Leaf). x.rows) (leaves_after_put p key kept leaves)) k up up'
    (λ other h. put_old p key kept (moved_leaves p.moved leaves) k other ne (subst (λ rows. Has {X = ℤ × KeptRow} rows (k, other)) (sym moved) h))
    (λ other h. subst (λ rows. Has {X = ℤ × KeptRow} rows (k, other)) moved (put_back p key kept (moved_leaves p.moved leaves) k other ne h))
