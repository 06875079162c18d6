-- Tables as they are seen, row by row.
use Rattle.std.proofs.Common.{◌≡◌, ◌⊎◌, ◌∙◌, ◌+◌, ◌≤◌, inl, inr, refl, sym, ap, subst, ℕ, zero, suc, ℤ, ◌==◌, Bool, true, false, cond, not, Option, Some, None, List, [], ◌∷◌, length, map, slice_get, arith, eqb-true, eq-eqb}
use Rattle.std.specs.Prelude.{filter_map, flat_map, int_lt}
use Rattle.std.specs.Map.{keys_of, lookup}
use Rattle.std.specs.BTreeMap.{is_at}
use Rattle.std.specs.Option.{option_and_then}
use Rattle.std.specs.Ordering.{int_cmp, int_eq, is_eq}
use Rattle.std.specs.List.{AllByRecursion, cons_option}
use Rattle.std.specs.declared.cmp.Ordering.TheVariants.{Less, Equal, Greater}
use Rattle.std.proofs.lemmas.Bool.{false≢true, and_parts}
use Rattle.isp_base.specs.Lists.{Has}
use Rattle.isp_plain.specs.declared.value.Row.{Row}
use Rattle.isp_plain.specs.Tables.{Table, definition_of}
use Rattle.isp_changes.specs.Rows.{AreRising, AreRisingTables, row_at}
use Rattle.isp_changes.specs.Changes.{row_in}
use Rattle.isp_changes.proofs.RowProofs.{Above, absent, no_rows, rising_first, same_key}
use Rattle.isp_changes.proofs.TableProofs.{same_tables}
use Rattle.isp_events.specs.Stored.{KeptRow, Leaf, StoredTable, kept_at, row_with_key, rows_of, table_at, table_from}
use Rattle.isp_events.specs.Views.{seen, seen_from, seen_rows}
use Rattle.isp_events.specs.Writing.{ascend}
use Rattle.isp_order.specs.Trees.{AreKeyed, IsKeyed}
use Rattle.isp_order.proofs.RowLaws.{ascend_rest, first_least, key_is}
use Rattle.isp_order.proofs.TableLaws.{definitions_seen}
use Rattle.isp_views.specs.Views.{IsShown, definition_at}

less_of : (a b : ℤ) → int_lt a b ≡ true → int_cmp a b ≡ Less
less_of a b h = ap (λ t. cond t Less (cond (int_lt b a) Greater Equal)) h

-- ---- the rows of one table

abbrev pub seen_of : (ℤ → Option Row) → List (ℤ × KeptRow) → List (ℤ × Row)
seen_of f rows = filter_map (λ e. row_with_key e.0 (f e.0)) rows

abbrev keys_in : List (ℤ × KeptRow) → List ℤ
keys_in rows = map (λ e. e.0) rows

above_seen : (f : ℤ → Option Row) (first : ℤ) (rows : List (ℤ × KeptRow)) → ((k : ℤ) → Has (keys_in rows) k → int_lt first k ≡ true) → Above first (seen_of f rows)
above_seen f first [] h = tt
above_seen f first (e ∷ rows) h = by_row (f e.0) (above_seen f first rows (λ k i. h k (inr i)))
  where
    by_row : (r : Option Row) → Above first (seen_of f rows) → Above first (cons_option (row_with_key e.0 r) (seen_of f rows))
    by_row None later = later
    by_row (Some row) later = (less_of first e.0 (h e.0 (inl refl)), later)

pub seen_rises : (f : ℤ → Option Row) (rows : List (ℤ × KeptRow)) → ascend (keys_in rows) ≡ true → AreRising (seen_of f rows)
seen_rises f [] h = no_rows
seen_rises f (e ∷ rows) h = by_row (f e.0) (seen_rises f rows (ascend_rest e.0 (keys_in rows) h))
  where
    by_row : (r : Option Row) → AreRising (seen_of f rows) → AreRising (cons_option (row_with_key e.0 r) (seen_of f rows))
    by_row None later = later
    by_row (Some row) later = rising_first (e.0, row) (seen_of f rows) (above_seen f e.0 rows (λ k i. first_least e.0 (keys_in rows) k h i)) later

pub seen_at : (f : ℤ → Option Row) (rows : List (ℤ × KeptRow)) → ascend (keys_in rows) ≡ true → (key : ℤ)
    → row_at (seen_of f rows) key ≡ option_and_then (λ (kept : KeptRow). f key) (lookup (is_at (int_cmp key)) rows)
seen_at f [] h key = refl
seen_at f (e ∷ rows) h key = by_key (is_at (int_cmp key) e.0) refl (f e.0) refl (seen_at f rows (ascend_rest e.0 (keys_in rows) h) key)
  where
    by_key : (b : Bool) → is_at (int_cmp key) e.0 ≡ b → (r : Option Row) → f e.0 ≡ r
        → row_at (seen_of f rows) key ≡ option_and_then (λ (kept : KeptRow). f key) (lookup (is_at (int_cmp key)) rows)
        → row_at (cons_option (row_with_key e.0 r) (seen_of f rows)) key ≡ option_and_then (λ (kept : KeptRow). f key) (cond b (Some e.1) (lookup (is_at (int_cmp key)) rows))
    by_key true is None r again =
        let same : key ≡ e.0 = same_key key e.0 is in
        ap (row_at (seen_of f rows)) same ∙ absent e.0 (seen_of f rows) (above_seen f e.0 rows (λ k i. first_least e.0 (keys_in rows) k h i)) ∙ sym (ap f same ∙ r)
    by_key true is (Some row) r again = ap (λ b. cond b (Some row) (row_at (seen_of f rows) key)) is ∙ sym (ap f (same_key key e.0 is) ∙ r)
    by_key false is None r again = again
    by_key false is (Some row) r again = ap (λ b. cond b (Some row) (row_at (seen_of f rows) key)) is ∙ again

-- ---- all tables

-- what is kept at the key shows so
abbrev pub shown : (ℕ → ℤ → Option Row) → List StoredTable → ℕ → ℤ → Option Row
shown f tables t key = option_and_then (λ (kept : KeptRow). f t key) (kept_at (table_at tables t) key)

rise_from : (n : ℕ) (f : ℕ → ℤ → Option Row) (tables : List StoredTable) → ((table : StoredTable) → Has tables table → IsKeyed table) → AreRisingTables (seen_from n f tables)
rise_from n f [] keyed = tt
rise_from n f (table ∷ tables) keyed = (seen_rises (f n) (rows_of table) (keyed table (inl refl)).rising, rise_from (suc n) f tables (λ t h. keyed t (inr h)))

pub seen_rise : (f : ℕ → ℤ → Option Row) (tables : List StoredTable) → AreKeyed tables → AreRisingTables (seen f tables)
seen_rise f tables keyed = rise_from 1 f tables keyed.each

seen_at_from : (n : ℕ) (f : ℕ → ℤ → Option Row) (tables : List StoredTable) → ((table : StoredTable) → Has tables table → IsKeyed table) → (place : ℕ) (key : ℤ)
    → row_in (seen_from n f tables) place key ≡ option_and_then (λ (kept : KeptRow). f (n + place) key) (kept_at (table_from n tables (n + place)) key)
seen_at_from n f [] keyed place key = refl
seen_at_from n f (table ∷ tables) keyed zero key =
    seen_at (f n) (rows_of table) (keyed table (inl refl)).rising key
    ∙ ap (λ i. option_and_then (λ (kept : KeptRow). f i key) (kept_at table key)) here
    ∙ sym (ap (λ (t : StoredTable). option_and_then (λ (kept : KeptRow). f (n + 0) key) (kept_at t key)) (if_so_table (n == n + 0) table (table_from (suc n) tables (n + 0)) (eq-eqb n (n + 0) here)))
  where
    here : n ≡ n + 0
    here = omega arith

    if_so_table : (b : Bool) (x y : StoredTable) → b ≡ true → cond b x y ≡ x
    if_so_table b x y e = ap (λ c. cond c x y) e
seen_at_from n f (table ∷ tables) keyed (suc place) key =
    seen_at_from (suc n) f tables (λ t h. keyed t (inr h)) place key
    ∙ ap (λ i. option_and_then (λ (kept : KeptRow). f i key) (kept_at (table_from (suc n) tables i) key)) next
    ∙ sym (ap (λ (t : StoredTable). option_and_then (λ (kept : KeptRow). f (n + suc place) key) (kept_at t key))
    (if_not_table (n == n + suc place) table (table_from (suc n) tables (n + suc place)) (apart (n == n + suc place) refl)))
  where
    next : suc n + place ≡ n + suc place
    next = omega arith

    if_not_table : (b : Bool) (x y : StoredTable) → b ≡ false → cond b x y ≡ y
    if_not_table b x y e = ap (λ c. cond c x y) e

    apart : (b : Bool) → (n == n + suc place) ≡ b → b ≡ false
    apart true e = (let same : n ≡ n + suc place = eqb-true n (n + suc place) e in let no : ⊥ = omega (arith, same) in absurd no)
    apart false e = refl

pub seen_shows : (f : ℕ → ℤ → Option Row) (tables : List StoredTable) → AreKeyed tables → (place : ℕ) (key : ℤ)
    → row_in (seen f tables) place key ≡ shown f tables (suc place) key
seen_shows f tables keyed place key = seen_at_from 1 f tables keyed.each place key ∙ ap (λ i. shown f tables i key) (one_more place)
  where
    one_more : (n : ℕ) → 1 + n ≡ suc n
    one_more n = omega arith

-- a function that shows nothing where nothing is kept
abbrev pub Covers : (ℕ → ℤ → Option Row) → List StoredTable → Type 0
Covers f tables = (t : ℕ) (key : ℤ) → kept_at (table_at tables t) key ≡ None → f t key ≡ None

pub covered_shows : (f : ℕ → ℤ → Option Row) (tables : List StoredTable) → Covers f tables → (t : ℕ) (key : ℤ) → shown f tables t key ≡ f t key
covered_shows f tables covers t key = by_kept (kept_at (table_at tables t) key) refl
  where
    by_kept : (kept : Option KeptRow) → kept_at (table_at tables t) key ≡ kept → option_and_then (λ (k : KeptRow). f t key) kept ≡ f t key
    by_kept None e = sym (covers t key e)
    by_kept (Some kept) e = refl

pub is_shown : (f : ℕ → ℤ → Option Row) (tables : List StoredTable) → AreKeyed tables → Covers f tables → IsShown tables f (seen f tables)
is_shown f tables keyed covers = record {
  definitions = definitions_seen f tables;
  rise = seen_rise f tables keyed;
  each = λ place key. seen_shows f tables keyed place key ∙ covered_shows f tables covers (suc place) key;
}

-- tables that show the same are the same
pub same_shown : (tables others : List StoredTable) (f g : ℕ → ℤ → Option Row) (plain more : List Table) → map definition_at tables ≡ map definition_at others
    → IsShown tables f plain → IsShown others g more → ((t : ℕ) (key : ℤ) → f t key ≡ g t key) → plain ≡ more
same_shown tables others f g plain more definitions a b same =
    same_tables plain more a.rise b.rise (a.definitions ∙ definitions ∙ sym b.definitions) (λ place key. a.each place key ∙ same (suc place) key ∙ sym (b.each place key))
