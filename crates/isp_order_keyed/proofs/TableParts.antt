-- Tables that stay keyed where one of them changes, or one more is made.
use Rattle.std.proofs.Common.{◌≡◌, ◌⊎◌, ◌∙◌, ◌≤◌, ◌<◌, inl, inr, refl, sym, ap, subst, ℕ, ℤ, suc, ◌+◌, ◌==◌, not, cond, Bool, true, false, List, [], ◌∷◌, ◌++◌, Option, Some, None, map, length, arith, eqb-true, eq-eqb}
use Rattle.std.specs.Prelude.{nat_lt}
use Rattle.std.specs.List.{prefix_len}
use Rattle.std.specs.Option.{IsNone, is_some, option_map}
use Rattle.std.specs.Ordering.{int_eq}
use Rattle.std.specs.Str.{bytes_eq}
use Rattle.std.proofs.lemmas.Bool.{false≢true}
use Rattle.std.proofs.lemmas.Bool.Decides.{Decides-int_eq, nat_tests}
use Rattle.std.proofs.lemmas.List.{length-append}
use Rattle.std.proofs.lemmas.Slice.Eq.{bytes_eq-Decides}
use Rattle.isp_base.specs.Lists.{Has}
use Rattle.isp_laws.proofs.ListLaws.{Has-append}
use Rattle.isp_plain.specs.declared.value.Row.{Row}
use Rattle.isp_plain.specs.declared.value.Schema.{Schema}
use Rattle.isp_plain.specs.Does.{place_of}
use Rattle.isp_plain.specs.RowBytes.{row_bytes}
use Rattle.isp_plain.specs.Tables.{Table}
use Rattle.isp_forest.specs.Tree.{Tree}
use Rattle.isp_events.specs.Stored.{KeptRow, StoredTable, Version, change_table, changed_from, indexed, kept_at, keys_of_leaves, no_table, rows_of, table_at, table_from}
use Rattle.isp_events.specs.Views.{seen, seen_from}
use Rattle.isp_events.specs.Ways.{IsDefinition, IsStorable}
use Rattle.isp_events.specs.Writing.{are_apart, ascend, slot_after, table_with_row}
use Rattle.isp_events.specs.Ending.{empty_trees, indexed_in, new_table}
use Rattle.isp_events.specs.Purging.{table_without}
use Rattle.isp_order.specs.Trees.{AreKeyed, IsKeyed, IsStored, version_kept}
use Rattle.isp_order.proofs.RowLaws.{has_lookup, key_is, lookup_has, row_changed, row_gone, row_left, row_unchanged}
use Rattle.isp_order.proofs.TableLaws.{earlier_table, kept_of, length_changed}
use Rattle.isp_event_laws.proofs.ListTests.{below}
use Rattle.isp_order_trees.proofs.TreeParts.{columns_stay, with_tree}
use Rattle.isp_order_trees.proofs.CoveredLaws.{table_there}
use Rattle.isp_order_keyed.proofs.LeafParts.{leaf_pages, row_keys, row_pages, without_pages, without_rises}
use Rattle.isp_order_keyed.proofs.StoredParts.{none_some, some_is}

-- ---- one table

stored_in : (table after : StoredTable) (key : ℤ) (slot : ℕ) (v : Version) → after.schema ≡ table.schema → indexed after ≡ indexed table → IsStored table key slot v → IsStored after key slot v
stored_in table after key slot v schema columns i = record {
  storable = subst (λ (s : Schema). IsStorable s v.row) (sym schema) i.storable;
  own_key = i.own_key;
  each_column = i.each_column ∙ ap (λ (cs : List ℕ). length cs) (sym columns);
  fits = subst (λ (s : Schema). row_bytes s v.row ≤ slot) (sym schema) i.fits;
}

-- what lies at one key is stored as it may be, and all others stay
pub keyed_by : (table after : StoredTable) (key : ℤ) → IsKeyed table → after.schema ≡ table.schema → indexed after ≡ indexed table
    → are_apart (leaf_pages after.leaves) ≡ true → ascend (keys_of_leaves after.leaves) ≡ true
    → ((k : ℤ) → (k ≡ key → ⊥) → kept_at after k ≡ kept_at table k)
    → ((kept : KeptRow) → kept_at after key ≡ Some kept → IsStored table key kept.slot (version_kept kept)) → IsKeyed after
keyed_by table after key keyed schema columns apart rising stays here = record {
  defined = subst IsDefinition (sym schema) keyed.defined;
  columns = columns ∙ keyed.columns ∙ ap indexed_in (sym schema);
  apart = apart;
  rising = rising;
  rows = λ k kept h. stored_in table after k kept.slot (version_kept kept) schema columns (stored k kept (has_lookup (rows_of after) k kept rising h));
}
  where
    stored : (k : ℤ) (kept : KeptRow) → kept_at after k ≡ Some kept → IsStored table k kept.slot (version_kept kept)
    stored k kept there = by_key (int_eq k key) refl
      where
        by_key : (b : Bool) → int_eq k key ≡ b → IsStored table k kept.slot (version_kept kept)
        by_key true e =
            let at : k ≡ key = key_is k key e in
            subst (λ i. IsStored table i kept.slot (version_kept kept)) (sym at) (here kept (ap (kept_at after) (sym at) ∙ there))
        by_key false e =
            keyed.rows k kept (lookup_has (rows_of table) k kept (sym (stays k (λ is. false≢true (sym e ∙ (Decides-int_eq k key).1 is))) ∙ there))

-- trees alone change
pub trees_keyed : (c : ℕ) (g : Tree → Tree) (table : StoredTable) → IsKeyed table → IsKeyed (with_tree c g table)
trees_keyed c g table keyed = record {
  defined = keyed.defined;
  columns = columns_stay c g table.trees ∙ keyed.columns;
  apart = keyed.apart;
  rising = keyed.rising;
  rows = λ k kept h. stored_in table (with_tree c g table) k kept.slot (version_kept kept) refl (columns_stay c g table.trees) (keyed.rows k kept h);
}

-- a row changes in its slot
pub row_keyed : (key : ℤ) (f : KeptRow → KeptRow) (table : StoredTable) → IsKeyed table
    → ((kept : KeptRow) → kept_at table key ≡ Some kept → IsStored table key (f kept).slot (version_kept (f kept))) → IsKeyed (table_with_row key f table)
row_keyed key f table keyed made =
    keyed_by table (table_with_row key f table) key keyed refl refl
    (ap are_apart (row_pages key f table.leaves) ∙ keyed.apart) (ap ascend (row_keys key f table.leaves) ∙ keyed.rising)
    (λ k other. row_unchanged key k f table other) (λ kept there. by_kept kept (kept_at table key) refl (sym (row_changed key f table) ∙ there))
  where
    by_kept : (kept : KeptRow) (o : Option KeptRow) → kept_at table key ≡ o → option_map f o ≡ Some kept → IsStored table key kept.slot (version_kept kept)
    by_kept kept None is h = absurd (none_some kept h)
    by_kept kept (Some old) is h =
        let same : f old ≡ kept = some_is (f old) kept h in
        subst (λ (x : KeptRow). IsStored table key x.slot (version_kept x)) same (made old is)

-- a row is purged
pub without_keyed : (key : ℤ) (table : StoredTable) → IsKeyed table → IsKeyed (table_without key table)
without_keyed key table keyed =
    keyed_by table (table_without key table) key keyed refl refl
    (ap are_apart (without_pages key table.leaves) ∙ keyed.apart) (without_rises key table.leaves keyed.rising)
    (λ k other. row_left key k table other) (λ kept there. absurd (none_some kept (sym (row_gone key table) ∙ there)))

-- the row fits the slot that it has then
pub slot_fits : (bytes : ℕ) (old : Option KeptRow) → bytes ≤ slot_after bytes old
slot_fits bytes None = omega arith
slot_fits bytes (Some kept) = by_test (nat_lt kept.slot bytes) refl
  where
    by_test : (b : Bool) → nat_lt kept.slot bytes ≡ b → bytes ≤ cond b bytes kept.slot
    by_test true e = omega arith
    by_test false e = let less : bytes ≤ kept.slot = grind (arith, nat_tests) in less

-- ---- one of the tables changes

past : (k n : ℕ) (f : StoredTable → StoredTable) (tables : List StoredTable) → n < k → changed_from k n f tables ≡ tables
past k n f [] low = refl
past k n f (t ∷ tables) low = by_test (k == n) refl (past (suc k) n f tables (omega (arith, low)))
  where
    by_test : (b : Bool) → (k == n) ≡ b → changed_from (suc k) n f tables ≡ tables → cond b (f t) t ∷ changed_from (suc k) n f tables ≡ t ∷ tables
    by_test true e again = let is : k ≡ n = eqb-true k n e in let no : ⊥ = omega (arith, low, is) in absurd no
    by_test false e again = ap (λ ts. t ∷ ts) again

changed_has : (k n : ℕ) (f : StoredTable → StoredTable) (tables : List StoredTable) (t : StoredTable) → Has (changed_from k n f tables) t
    → Has tables t ⊎ (Has tables (table_from k tables n) × (t ≡ f (table_from k tables n)))
changed_has k n f [] t h = absurd h
changed_has k n f (x ∷ tables) t h = by_test (k == n) refl h (λ i. changed_has (suc k) n f tables t i)
  where
    by_test : (b : Bool) → (k == n) ≡ b → Has (cond b (f x) x ∷ changed_from (suc k) n f tables) t
        → (Has (changed_from (suc k) n f tables) t → Has tables t ⊎ (Has tables (table_from (suc k) tables n) × (t ≡ f (table_from (suc k) tables n))))
        → Has (x ∷ tables) t ⊎ (Has (x ∷ tables) (cond b x (table_from (suc k) tables n)) × (t ≡ f (cond b x (table_from (suc k) tables n))))
    by_test true e (inl is) again = inr (inl refl, sym is)
    by_test true e (inr i) again =
        let at : k ≡ n = eqb-true k n e in
        inl (inr (subst (λ (ts : List StoredTable). Has ts t) (past (suc k) n f tables (omega (arith, at))) i))
    by_test false e (inl is) again = inl (inl is)
    by_test false e (inr i) again = elim (again i) [ inl old ↦ inl (inr old) | inr new ↦ inr (inr new.0, new.1) ]

pub change_keyed : (n : ℕ) (f : StoredTable → StoredTable) (tables : List StoredTable) → (f (table_at tables n)).name ≡ (table_at tables n).name
    → (IsKeyed (table_at tables n) → IsKeyed (f (table_at tables n))) → AreKeyed tables → AreKeyed (change_table n f tables)
change_keyed n f tables name keeps keyed = record {
  names = λ i k low high same. keyed.names i k (subst (λ l. i < l) (length_changed n f tables) low) (subst (λ l. k < l) (length_changed n f tables) high)
      (sym (stays (1 + i)) ∙ same ∙ stays (1 + k));
  each = λ t h. elim (changed_has 1 n f tables t h) [
    | inl old ↦ keyed.each t old
    | inr new ↦ subst IsKeyed (sym new.1) (keeps (keyed.each (table_at tables n) new.0))
  ];
}
  where
    stays : (i : ℕ) → (table_at (change_table n f tables) i).name ≡ (table_at tables i).name
    stays i = kept_of (λ (t : StoredTable). t.name) n i f tables name

-- ---- one table more

new_there : (k i : ℕ) (new : StoredTable) (tables : List StoredTable) → i ≡ k + length tables → table_from k (tables ++ new ∷ []) i ≡ new
new_there k i new [] at = let same : (k == i) ≡ true = eq-eqb k i (omega (arith, at)) in ap (λ b. cond b new no_table) same
new_there k i new (t ∷ tables) at = by_test (k == i) refl (new_there (suc k) i new tables (omega (arith, at)))
  where
    by_test : (b : Bool) → (k == i) ≡ b → table_from (suc k) (tables ++ new ∷ []) i ≡ new → cond b t (table_from (suc k) (tables ++ new ∷ []) i) ≡ new
    by_test true e again = let is : k ≡ i = eqb-true k i e in let no : ⊥ = omega (arith, at, is) in absurd no
    by_test false e again = again

earlier_or_last : (i l : ℕ) → i < l + 1 → (i < l) ⊎ (i ≡ l)
earlier_or_last i l low = by_test (nat_lt i l) refl
  where
    by_test : (b : Bool) → nat_lt i l ≡ b → (i < l) ⊎ (i ≡ l)
    by_test true e = inl (below i l e)
    by_test false e = let most : l ≤ i = grind (arith, nat_tests) in inr (omega (arith, most, low))

pub more_keyed : (tables : List StoredTable) (new : StoredTable) → ((i : ℕ) → i < length tables → (table_at tables (1 + i)).name ≡ new.name → ⊥) → IsKeyed new → AreKeyed tables
    → AreKeyed (tables ++ new ∷ [])
more_keyed tables new other made keyed = record {
  names = λ i k low high same. by_places i k (earlier_or_last i (length tables) (shorter i low)) (earlier_or_last k (length tables) (shorter k high)) same;
  each = λ t h. elim (Has-append tables (new ∷ []) t h) [
    | inl old ↦ keyed.each t old
    | inr last ↦ elim last [ inl is ↦ subst IsKeyed is made | inr none ↦ absurd none ]
  ];
}
  where
    shorter : (i : ℕ) → i < length (tables ++ new ∷ []) → i < length tables + 1
    shorter i h = subst (λ l. i < l) (length-append tables (new ∷ [])) h

    earlier : (i : ℕ) → i < length tables → table_at (tables ++ new ∷ []) (1 + i) ≡ table_at tables (1 + i)
    earlier i low = earlier_table (1 + i) new tables (omega (arith, low))

    last : (i : ℕ) → i ≡ length tables → table_at (tables ++ new ∷ []) (1 + i) ≡ new
    last i at = new_there 1 (1 + i) new tables (omega (arith, at))

    by_places : (i k : ℕ) → (i < length tables) ⊎ (i ≡ length tables) → (k < length tables) ⊎ (k ≡ length tables)
        → (table_at (tables ++ new ∷ []) (1 + i)).name ≡ (table_at (tables ++ new ∷ []) (1 + k)).name → i ≡ k
    by_places i k (inl low) (inl high) same =
        keyed.names i k low high (sym (ap (λ (t : StoredTable). t.name) (earlier i low)) ∙ same ∙ ap (λ (t : StoredTable). t.name) (earlier k high))
    by_places i k (inl low) (inr at) same =
        absurd (other i low (sym (ap (λ (t : StoredTable). t.name) (earlier i low)) ∙ same ∙ ap (λ (t : StoredTable). t.name) (last k at)))
    by_places i k (inr at) (inl high) same =
        absurd (other k high (sym (ap (λ (t : StoredTable). t.name) (earlier k high)) ∙ sym same ∙ ap (λ (t : StoredTable). t.name) (last i at)))
    by_places i k (inr at) (inr too) same = at ∙ sym too

-- ---- the new table

columns_new : (columns roots : List ℕ) → length roots ≡ length columns → map (λ t. t.0) (empty_trees columns roots) ≡ columns
columns_new [] roots same = refl
columns_new (c ∷ columns) [] same = let no : ⊥ = omega (arith, same) in absurd no
columns_new (c ∷ columns) (root ∷ roots) same = ap (λ cs. c ∷ cs) (columns_new columns roots (omega (arith, same)))

pub new_keyed : (name : List ℕ) (schema : Schema) (leaf : ℕ) (roots : List ℕ) → IsDefinition schema → length roots ≡ length (indexed_in schema) → IsKeyed (new_table name schema leaf roots)
new_keyed name schema leaf roots defined same = record {
  defined = defined;
  columns = columns_new (indexed_in schema) roots same;
  apart = refl;
  rising = refl;
  rows = λ k kept h. absurd h;
}

-- a name that the tables that are seen don't have is none of theirs
module _ (row : ℕ → ℤ → Option Row) (name : List ℕ) where
  within : (k : ℕ) (tables : List StoredTable) (t : StoredTable) → Has tables t → t.name ≡ name
      → nat_lt (prefix_len (λ (table : Table). not (bytes_eq table.name name)) (seen_from k row tables)) (length (seen_from k row tables)) ≡ true
  within k [] t h is = absurd h
  within k (x ∷ tables) t h is = by_test (bytes_eq x.name name) refl h (λ i. within (suc k) tables t i is)
    where
      up : (a b : ℕ) → nat_lt a b ≡ true → nat_lt (1 + a) (suc b) ≡ true
      up a b i = grind (arith, nat_tests)

      low : (b : ℕ) → nat_lt 0 (suc b) ≡ true
      low b = grind (arith, nat_tests)

      by_test : (b : Bool) → bytes_eq x.name name ≡ b → Has (x ∷ tables) t
          → (Has tables t → nat_lt (prefix_len (λ (table : Table). not (bytes_eq table.name name)) (seen_from (suc k) row tables)) (length (seen_from (suc k) row tables)) ≡ true)
          → nat_lt (cond (not b) (1 + prefix_len (λ (table : Table). not (bytes_eq table.name name)) (seen_from (suc k) row tables)) 0) (suc (length (seen_from (suc k) row tables))) ≡ true
      by_test true e i again = low (length (seen_from (suc k) row tables))
      by_test false e (inl same) again = absurd (false≢true (sym e ∙ (bytes_eq-Decides x.name name).1 (ap (λ (y : StoredTable). y.name) same ∙ is)))
      by_test false e (inr i) again = up (prefix_len (λ (table : Table). not (bytes_eq table.name name)) (seen_from (suc k) row tables)) (length (seen_from (suc k) row tables)) (again i)

  pub name_new : (tables : List StoredTable) → IsNone (place_of (seen row tables) name) → (i : ℕ) → i < length tables → (table_at tables (1 + i)).name ≡ name → ⊥
  name_new tables none i low is =
      let there : nat_lt (prefix_len (λ (table : Table). not (bytes_eq table.name name)) (seen row tables)) (length (seen row tables)) ≡ true =
      within 1 tables (table_at tables (1 + i)) (table_there (1 + i) tables (omega arith) (omega (arith, low))) is in
      false≢true (sym none ∙ ap (λ b. is_some (cond b (Some (prefix_len (λ (table : Table). not (bytes_eq table.name name)) (seen row tables))) None)) there)
