-- Rows that stand at their keys, and entries on leaves, where tables change.
use Rattle.std.proofs.Common.{◌≡◌, ◌∙◌, inl, inr, refl, sym, ap, subst, ℕ, ℤ, suc, ◌==◌, Bool, true, false, cond, Option, Some, None, List, [], ◌∷◌, ◌++◌, map, eqb-true, eq-eqb}
use Rattle.std.specs.Prelude.{flat_map}
use Rattle.std.specs.List.{list_any}
use Rattle.std.specs.Map.{lookup}
use Rattle.std.specs.BTreeMap.{is_at}
use Rattle.std.specs.Option.{option_and_then, option_map}
use Rattle.std.specs.Ordering.{int_cmp}
use Rattle.std.proofs.lemmas.Bool.{false≢true, and_parts}
use Rattle.isp_base.specs.Lists.{Has}
use Rattle.isp_plain.specs.declared.value.Row.{Row}
use Rattle.isp_plain.specs.RowBytes.{row_bytes}
use Rattle.isp_forest.specs.Tree.{Tree}
use Rattle.isp_searches.specs.SearchLaws.{IsOnLeaf}
use Rattle.isp_events.specs.Stored.{KeptRow, Leaf, StoredTable, Version, change_table, indexed, kept_at, keys_of_leaves, no_table, number_at, table_at, table_from, tree_of, version_of}
use Rattle.isp_events.specs.Sessions.{Change, EntryAt}
use Rattle.isp_events.specs.Writing.{Put, ascend, fits_leaves, fits_put, leaves_after_put, marked, moved_leaves, needs_slot, placed_for, row_after, table_after_put, table_with_new, table_with_row, takes_undo_alone}
use Rattle.isp_order.specs.Trees.{HasEntries, HasNumber, LiesIn, StandsAt, entry_of, leaf_entry}
use Rattle.isp_order.proofs.RowLaws.{put_at_key, put_at_others, row_changed, row_unchanged}
use Rattle.isp_order.proofs.TableLaws.{kept_of}
use Rattle.isp_order_trees.proofs.TreeParts.{SameTrees, earlier_with_tree, same_tree, tree_keeps, tree_listed, with_tree}

-- ---- entries on leaves

pub lies_same : (tables after : List StoredTable) → SameTrees tables after → (e : EntryAt) → LiesIn tables e → LiesIn after e
lies_same tables after same e h = subst (λ (t : Tree). IsOnLeaf t (leaf_entry e) e.key e.number) (sym (same_tree tables after same e.table e.column)) h

pub lies_with : (n c : ℕ) (g : Tree → Tree) (tables : List StoredTable) (e : EntryAt)
    → (IsOnLeaf (tree_of (table_at tables n) c) (leaf_entry e) e.key e.number → IsOnLeaf (g (tree_of (table_at tables n) c)) (leaf_entry e) e.key e.number)
    → LiesIn tables e → LiesIn (change_table n (with_tree c g) tables) e
lies_with n c g tables e keeps h =
    tree_keeps (λ (t : Tree). IsOnLeaf t (leaf_entry e) e.key e.number) n c g tables keeps e.table e.column (tree_listed (table_at tables e.table).trees e.column h.p h.leaf h.there) h

pub lies_earlier : (tables : List StoredTable) (new : StoredTable) (e : EntryAt) → LiesIn tables e → LiesIn (tables ++ new ∷ []) e
lies_earlier tables new e h =
    subst (λ (t : StoredTable). IsOnLeaf (tree_of t e.column) (leaf_entry e) e.key e.number)
    (sym (earlier_with_tree e.table e.column new tables (tree_listed (table_at tables e.table).trees e.column h.p h.leaf h.there))) h

pub entries_to : (tables after : List StoredTable) (t : ℕ) (k : ℤ) (v : Version) → indexed (table_at after t) ≡ indexed (table_at tables t)
    → ((column number : ℕ) → HasNumber tables t v column number → LiesIn tables (entry_of t k v column number) → LiesIn after (entry_of t k v column number))
    → HasEntries tables t k v → HasEntries after t k v
entries_to tables after t k v columns moves h column number has =
    let had : HasNumber tables t v column number = subst (λ cs. number_at cs v.numbers column ≡ Some number) columns has in
    moves column number had (h column number had)

-- ---- rows that stay

abbrev pub SameRows : List StoredTable → List StoredTable → Type 0
SameRows tables after = (i : ℕ) → (table_at after i).leaves ≡ (table_at tables i).leaves

abbrev present_in : List Leaf → ℤ → Option Version
present_in leaves key = option_and_then version_of (lookup (is_at (int_cmp key)) (flat_map (λ (leaf : Leaf). leaf.rows) leaves))

pub same_stands : (tables after : List StoredTable) → SameRows tables after → (t : ℕ) (k : ℤ) (v : Version) → StandsAt after t k v → StandsAt tables t k v
same_stands tables after same t k v h = sym (ap (λ leaves. present_in leaves k) (same t)) ∙ h

pub change_leaves_rows : (n : ℕ) (f : StoredTable → StoredTable) (tables : List StoredTable) → ((t : StoredTable) → (f t).leaves ≡ t.leaves) → SameRows tables (change_table n f tables)
change_leaves_rows n f tables keeps i = kept_of (λ (t : StoredTable). t.leaves) n i f tables (keeps (table_at tables n))

-- a table that has something is where it was
pub earlier_if : (P : StoredTable → Type 0) → (P no_table → ⊥) → (k i : ℕ) (new : StoredTable) (tables : List StoredTable) → P (table_from k tables i)
    → table_from k (tables ++ new ∷ []) i ≡ table_from k tables i
earlier_if P never k i new [] h = absurd (never h)
earlier_if P never k i new (t ∷ tables) h = by_test (k == i) h (λ z. earlier_if P never (suc k) i new tables z)
  where
    by_test : (b : Bool) → P (cond b t (table_from (suc k) tables i)) → (P (table_from (suc k) tables i) → table_from (suc k) (tables ++ new ∷ []) i ≡ table_from (suc k) tables i)
        → cond b t (table_from (suc k) (tables ++ new ∷ []) i) ≡ cond b t (table_from (suc k) tables i)
    by_test true z again = refl
    by_test false z again = again z

-- ---- a row that is written

-- what is kept at the key then
abbrev pub kept_then : StoredTable → Change → List (ℕ × ℕ) → Option Row → Option KeptRow
kept_then table change placed None = option_map marked (kept_at table change.key)
kept_then table change placed (Some new) = Some (row_after table.schema (indexed table) placed (kept_at table change.key) new)

slot_there : (bytes : ℕ) (o : Option KeptRow) → needs_slot bytes o ≡ false → (kept : KeptRow) × (o ≡ Some kept)
slot_there bytes None h = cc
slot_there bytes (Some kept) h = (kept, refl)

module _ (table : StoredTable) (change : Change) (placed : List (ℕ × ℕ)) (p : Put) (up : ascend (keys_of_leaves table.leaves) ≡ true) where
  put_parts : (kept : KeptRow) → fits_leaves p change.key table.leaves (leaves_after_put p change.key kept table.leaves) ≡ true
      → (list_any (λ (leaf : Leaf). leaf.page == p.leaf) (moved_leaves p.moved table.leaves) ≡ true) × (ascend (keys_of_leaves (leaves_after_put p change.key kept table.leaves)) ≡ true)
  put_parts kept h =
      let parts = and_parts _ _ h in
      and_parts _ _ parts.1

  pub row_new : (new : Row) → cond (needs_slot (row_bytes table.schema new) (kept_at table change.key)) (fits_put p (record change { new = Some new }) placed table) (takes_undo_alone p) ≡ true
      → (kept_at (table_with_new p change.key placed new table) change.key ≡ Some (row_after table.schema (indexed table) placed (kept_at table change.key) new))
      × ((k : ℤ) → (k ≡ change.key → ⊥) → kept_at (table_with_new p change.key placed new table) k ≡ kept_at table k)
  row_new new fits = by_test (needs_slot (row_bytes table.schema new) (kept_at table change.key)) refl fits
    where
      kept : KeptRow
      kept = row_after table.schema (indexed table) placed (kept_at table change.key) new

      by_test : (b : Bool) → needs_slot (row_bytes table.schema new) (kept_at table change.key) ≡ b
          → cond b (fits_leaves p change.key table.leaves (cond (needs_slot (row_bytes table.schema new) (kept_at table change.key)) (table_after_put p change.key kept table) (table_with_row change.key (λ other. kept) table)).leaves) (takes_undo_alone p) ≡ true
          → (kept_at (cond b (table_after_put p change.key kept table) (table_with_row change.key (λ other. kept) table)) change.key ≡ Some kept)
          × ((k : ℤ) → (k ≡ change.key → ⊥) → kept_at (cond b (table_after_put p change.key kept table) (table_with_row change.key (λ other. kept) table)) k ≡ kept_at table k)
      by_test true e f =
          let fits' : fits_leaves p change.key table.leaves (leaves_after_put p change.key kept table.leaves) ≡ true =
          ap (λ b. fits_leaves p change.key table.leaves (cond b (table_after_put p change.key kept table) (table_with_row change.key (λ other. kept) table)).leaves) (sym e) ∙ f in
          let parts = put_parts kept fits' in
          (put_at_key p change.key kept table.leaves parts.0 parts.1, λ k other. put_at_others p change.key kept table.leaves k other up parts.1)
      by_test false e f =
          let there = slot_there (row_bytes table.schema new) (kept_at table change.key) e in
          (row_changed change.key (λ other. kept) table ∙ ap (option_map (λ other. kept)) there.1, λ k other. row_unchanged change.key k (λ other. kept) table other)

-- ---- numbers of the new row

pub number_mapped : (columns : List ℕ) (f : ℕ → ℕ) (c n : ℕ) → number_at columns (map f columns) c ≡ Some n → Has columns c × (f c ≡ n)
number_mapped [] f c n h = let no : ⊥ = cc in absurd no
number_mapped (k ∷ columns) f c n h = by_test (k == c) refl h (λ z. number_mapped columns f c n z)
  where
    by_test : (b : Bool) → (k == c) ≡ b → cond b (Some (f k)) (number_at columns (map f columns) c) ≡ Some n → (number_at columns (map f columns) c ≡ Some n → Has columns c × (f c ≡ n))
        → Has (k ∷ columns) c × (f c ≡ n)
    by_test true e z again = let at : k ≡ c = eqb-true k c e in let is : f k ≡ n = cc in (inl at, ap f (sym at) ∙ is)
    by_test false e z again = let r = again z in (inr r.0, r.1)

pub placed_has : (placed : List (ℕ × ℕ)) (c n : ℕ) → placed_for placed c ≡ Some n → Has {X = ℕ × ℕ} placed (c, n)
placed_has [] c n h = let no : ⊥ = cc in absurd no
placed_has (p ∷ placed) c n h = by_test (p.0 == c) refl h (λ z. placed_has placed c n z)
  where
    pair_is : (a b d e : ℕ) → a ≡ d → b ≡ e → ◌≡◌ {A = ℕ × ℕ} (a, b) (d, e)
    pair_is a b d e x y = ap (λ z. (let w : ℕ × ℕ = (z, b) in w)) x ∙ ap (λ z. (let w : ℕ × ℕ = (d, z) in w)) y

    by_test : (b : Bool) → (p.0 == c) ≡ b → cond b (Some p.1) (placed_for placed c) ≡ Some n → (placed_for placed c ≡ Some n → Has {X = ℕ × ℕ} placed (c, n)) → Has {X = ℕ × ℕ} (p ∷ placed) (c, n)
    by_test true e z again = let is : p.1 ≡ n = cc in inl (pair_is p.0 p.1 c n (eqb-true p.0 c e) is)
    by_test false e z again = inr (again z)

pub not_placed : (placed : List (ℕ × ℕ)) (c : ℕ) → placed_for placed c ≡ None → Has (map (λ p. p.0) placed) c → ⊥
not_placed [] c none h = h
not_placed (p ∷ placed) c none h = by_test (p.0 == c) refl none h (λ z k. not_placed placed c z k)
  where
    by_test : (b : Bool) → (p.0 == c) ≡ b → cond b (Some p.1) (placed_for placed c) ≡ None → Has (p.0 ∷ map (λ x. x.0) placed) c
        → (placed_for placed c ≡ None → Has (map (λ x. x.0) placed) c → ⊥) → ⊥
    by_test true e z k again = let no : ⊥ = cc in no
    by_test false e z (inl is) again = false≢true (sym e ∙ eq-eqb p.0 c is)
    by_test false e z (inr k) again = again z k
