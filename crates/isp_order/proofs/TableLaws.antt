-- Tables by their numbers, one of which changes.
use Rattle.std.proofs.Common.{◌≡◌, ◌⊎◌, ◌∙◌, ◌≤◌, ◌<◌, inl, inr, refl, sym, ap, subst, ℕ, suc, ◌+◌, ◌==◌, cond, Bool, true, false, not, Some, None, List, [], ◌∷◌, ◌++◌, map, length, arith, eqb-true, eq-eqb}
use Rattle.std.proofs.lemmas.Bool.{false≢true}
use Rattle.isp_plain.specs.declared.value.Schema.{Schema}
use Rattle.isp_plain.specs.declared.value.Row.{Row}
use Rattle.isp_plain.specs.Tables.{definition_of}
use Rattle.std.specs.Prelude.{ℤ, Option, nat_lt}
use Rattle.std.specs.List.{prefix_len}
use Rattle.std.specs.Option.{option_map, unwrap_or}
use Rattle.std.specs.Str.{bytes_eq}
use Rattle.std.proofs.lemmas.List.{length-map}
use Rattle.isp_reclock.specs.declared.entries.Lock.{Lock}
use Rattle.isp_plain.specs.RowBytes.{row_bytes}
use Rattle.isp_events.specs.Stored.{KeptRow, StoredTable, change_table, changed_from, indexed, kept_at, no_table, table_at, table_from}
use Rattle.isp_events.specs.Sessions.{Change}
use Rattle.isp_events.specs.State.{Queued, dead_entry, dead_row}
use Rattle.isp_events.specs.Views.{seen, seen_from}
use Rattle.isp_events.specs.Next.{number_of}
use Rattle.isp_events.specs.Writing.{Put, needs_slot, row_after, table_after_put, table_after_row, table_with_new, table_with_row}
use Rattle.isp_events.specs.Purging.{may_leave, table_without, table_without_entry, tables_purged}

-- ---- one table changes

other_from : (k n i : ℕ) (f : StoredTable → StoredTable) (tables : List StoredTable) → (i == n) ≡ false → table_from k (changed_from k n f tables) i ≡ table_from k tables i
other_from k n i f [] h = refl
other_from k n i f (t ∷ tables) h = by_place (k == i) refl (other_from (suc k) n i f tables h)
  where
    by_place : (b : Bool) → (k == i) ≡ b → table_from (suc k) (changed_from (suc k) n f tables) i ≡ table_from (suc k) tables i
        → cond b (cond (k == n) (f t) t) (table_from (suc k) (changed_from (suc k) n f tables) i) ≡ cond b t (table_from (suc k) tables i)
    by_place true e again = let other : (k == n) ≡ false = ap (λ j. j == n) (eqb-true k i e) ∙ h in ap (λ b. cond b (f t) t) other
    by_place false e again = again

pub other_table : (n i : ℕ) (f : StoredTable → StoredTable) (tables : List StoredTable) → (i == n) ≡ false → table_at (change_table n f tables) i ≡ table_at tables i
other_table n i f tables h = other_from 1 n i f tables h

same_from : (k n : ℕ) (f : StoredTable → StoredTable) (tables : List StoredTable)
    → (table_from k (changed_from k n f tables) n ≡ f (table_from k tables n)) ⊎ ((table_from k (changed_from k n f tables) n ≡ no_table) × (table_from k tables n ≡ no_table))
same_from k n f [] = inr (refl, refl)
same_from k n f (t ∷ tables) = by_place (k == n) refl (same_from (suc k) n f tables)
  where
    by_place : (b : Bool) → (k == n) ≡ b
        → (table_from (suc k) (changed_from (suc k) n f tables) n ≡ f (table_from (suc k) tables n)) ⊎ ((table_from (suc k) (changed_from (suc k) n f tables) n ≡ no_table) × (table_from (suc k) tables n ≡ no_table))
        → (cond b (cond b (f t) t) (table_from (suc k) (changed_from (suc k) n f tables) n) ≡ f (cond b t (table_from (suc k) tables n)))
        ⊎ ((cond b (cond b (f t) t) (table_from (suc k) (changed_from (suc k) n f tables) n) ≡ no_table) × (cond b t (table_from (suc k) tables n) ≡ no_table))
    by_place true e again = inl refl
    by_place false e again = again

-- it is the changed one, or there is none of that number
pub same_table : (n : ℕ) (f : StoredTable → StoredTable) (tables : List StoredTable)
    → (table_at (change_table n f tables) n ≡ f (table_at tables n)) ⊎ ((table_at (change_table n f tables) n ≡ no_table) × (table_at tables n ≡ no_table))
same_table n f tables = same_from 1 n f tables

-- where it is there, it is the changed one
there_from : (k n : ℕ) (f : StoredTable → StoredTable) (tables : List StoredTable) → k ≤ n → n < k + length tables
    → table_from k (changed_from k n f tables) n ≡ f (table_from k tables n)
there_from k n f [] low high = let no : ⊥ = omega (arith, low, high) in absurd no
there_from k n f (t ∷ tables) low high = by_place (k == n) refl (λ up. there_from (suc k) n f tables up (omega (arith, high)))
  where
    by_place : (b : Bool) → (k == n) ≡ b → (suc k ≤ n → table_from (suc k) (changed_from (suc k) n f tables) n ≡ f (table_from (suc k) tables n))
        → cond b (cond b (f t) t) (table_from (suc k) (changed_from (suc k) n f tables) n) ≡ f (cond b t (table_from (suc k) tables n))
    by_place true e again = refl
    by_place false e again = again (above (λ is. false≢true (sym e ∙ eq-eqb k n is)))
      where
        above : ((k ≡ n) → ⊥) → suc k ≤ n
        above ne = omega (arith, low, ne)

pub there_table : (n : ℕ) (f : StoredTable → StoredTable) (tables : List StoredTable) → 1 ≤ n → n ≤ length tables → table_at (change_table n f tables) n ≡ f (table_at tables n)
there_table n f tables low high = there_from 1 n f tables low (omega (arith, high))

-- what the change keeps of each table is kept at each number
pub kept_of : {Y : Type 0} (g : StoredTable → Y) (n i : ℕ) (f : StoredTable → StoredTable) (tables : List StoredTable) → g (f (table_at tables n)) ≡ g (table_at tables n)
    → g (table_at (change_table n f tables) i) ≡ g (table_at tables i)
kept_of g n i f tables keeps = by_test (i == n) refl
  where
    at_same : g (table_at (change_table n f tables) n) ≡ g (table_at tables n)
    at_same = elim (same_table n f tables) [ inl e ↦ ap g e ∙ keeps | inr e ↦ ap g e.0 ∙ sym (ap g e.1) ]

    by_test : (b : Bool) → (i == n) ≡ b → g (table_at (change_table n f tables) i) ≡ g (table_at tables i)
    by_test true e = subst (λ j. g (table_at (change_table n f tables) j) ≡ g (table_at tables j)) (sym (eqb-true i n e)) at_same
    by_test false e = ap g (other_table n i f tables e)

length_from : (k n : ℕ) (f : StoredTable → StoredTable) (tables : List StoredTable) → length (changed_from k n f tables) ≡ length tables
length_from k n f [] = refl
length_from k n f (t ∷ tables) = ap suc (length_from (suc k) n f tables)

pub length_changed : (n : ℕ) (f : StoredTable → StoredTable) (tables : List StoredTable) → length (change_table n f tables) ≡ length tables
length_changed n f tables = length_from 1 n f tables

-- ---- one table more

more_from : (k i : ℕ) (table : StoredTable) (tables : List StoredTable) → i < k + length tables → table_from k (tables ++ table ∷ []) i ≡ table_from k tables i
more_from k i table [] h = past (k == i) refl
  where
    past : (b : Bool) → (k == i) ≡ b → cond b table no_table ≡ no_table
    past true e = let is : k ≡ i = eqb-true k i e in let no : ⊥ = omega (arith, h, is) in absurd no
    past false e = refl
more_from k i table (t ∷ tables) h = ap (cond (k == i) t) (more_from (suc k) i table tables (omega (arith, h)))

pub earlier_table : (i : ℕ) (table : StoredTable) (tables : List StoredTable) → i ≤ length tables → table_at (tables ++ table ∷ []) i ≡ table_at tables i
earlier_table i table tables h = more_from 1 i table tables (omega (arith, h))

-- ---- names and columns

abbrev pub definition_at : StoredTable → List ℕ × Schema
definition_at table = (table.name, table.schema)

definitions_from : (k : ℕ) (row : ℕ → ℤ → Option Row) (tables : List StoredTable) → map definition_of (seen_from k row tables) ≡ map definition_at tables
definitions_from k row [] = refl
definitions_from k row (t ∷ tables) = ap (λ xs. (t.name, t.schema) ∷ xs) (definitions_from (suc k) row tables)

-- whatever rows are seen, names and columns are the tables' own
pub definitions_seen : (row : ℕ → ℤ → Option Row) (tables : List StoredTable) → map definition_of (seen row tables) ≡ map definition_at tables
definitions_seen row tables = definitions_from 1 row tables

changed_definitions : (k n : ℕ) (f : StoredTable → StoredTable) (tables : List StoredTable) → ((t : StoredTable) → definition_at (f t) ≡ definition_at t)
    → map definition_at (changed_from k n f tables) ≡ map definition_at tables
changed_definitions k n f [] keeps = refl
changed_definitions k n f (t ∷ tables) keeps =
    ap (λ d. d ∷ map definition_at (changed_from (suc k) n f tables)) (by_test (k == n)) ∙ ap (λ ds. definition_at t ∷ ds) (changed_definitions (suc k) n f tables keeps)
  where
    by_test : (b : Bool) → definition_at (cond b (f t) t) ≡ definition_at t
    by_test true = keeps t
    by_test false = refl

pub definitions_changed : (n : ℕ) (f : StoredTable → StoredTable) (tables : List StoredTable) → ((t : StoredTable) → definition_at (f t) ≡ definition_at t)
    → map definition_at (change_table n f tables) ≡ map definition_at tables
definitions_changed n f tables keeps = changed_definitions 1 n f tables keeps

-- ---- tables with the same names and columns

cons_head : {Y : Type 0} (x y : Y) (xs ys : List Y) → x ∷ xs ≡ y ∷ ys → x ≡ y
cons_head x y xs ys h = cc

cons_tail : {Y : Type 0} (x y : Y) (xs ys : List Y) → x ∷ xs ≡ y ∷ ys → xs ≡ ys
cons_tail x y xs ys h = cc

nil_cons : {Y : Type 0} (x : Y) (xs : List Y) → [] ≡ x ∷ xs → ⊥
nil_cons x xs h = cc

schema_from : (k n : ℕ) (tables others : List StoredTable) → map definition_at tables ≡ map definition_at others → (table_from k tables n).schema ≡ (table_from k others n).schema
schema_from k n [] [] h = refl
schema_from k n [] (t ∷ others) h = absurd (nil_cons (definition_at t) (map definition_at others) h)
schema_from k n (t ∷ tables) [] h = absurd (nil_cons (definition_at t) (map definition_at tables) (sym h))
schema_from k n (t ∷ tables) (u ∷ others) h =
    by_place (k == n) (schema_from (suc k) n tables others (cons_tail (definition_at t) (definition_at u) (map definition_at tables) (map definition_at others) h))
    (ap (λ d. d.1) (cons_head (definition_at t) (definition_at u) (map definition_at tables) (map definition_at others) h))
  where
    by_place : (b : Bool) → (table_from (suc k) tables n).schema ≡ (table_from (suc k) others n).schema → t.schema ≡ u.schema
        → (cond b t (table_from (suc k) tables n)).schema ≡ (cond b u (table_from (suc k) others n)).schema
    by_place true again e = e
    by_place false again e = again

pub same_schema : (n : ℕ) (tables others : List StoredTable) → map definition_at tables ≡ map definition_at others → (table_at tables n).schema ≡ (table_at others n).schema
same_schema n tables others h = schema_from 1 n tables others h

same_position : (name : List ℕ) (tables others : List StoredTable) → map definition_at tables ≡ map definition_at others
    → prefix_len (λ (table : StoredTable). not (bytes_eq table.name name)) tables ≡ prefix_len (λ (table : StoredTable). not (bytes_eq table.name name)) others
same_position name [] [] h = refl
same_position name [] (t ∷ others) h = absurd (nil_cons (definition_at t) (map definition_at others) h)
same_position name (t ∷ tables) [] h = absurd (nil_cons (definition_at t) (map definition_at tables) (sym h))
same_position name (t ∷ tables) (u ∷ others) h =
    let head : t.name ≡ u.name = ap (λ d. d.0) (cons_head (definition_at t) (definition_at u) (map definition_at tables) (map definition_at others) h) in
    let tail = same_position name tables others (cons_tail (definition_at t) (definition_at u) (map definition_at tables) (map definition_at others) h) in
    ap (λ b. cond (not b) (1 + prefix_len (λ (table : StoredTable). not (bytes_eq table.name name)) tables) 0) (ap (λ n. bytes_eq n name) head)
    ∙ ap (λ o. cond (not (bytes_eq u.name name)) (1 + o) 0) tail

pub same_length : (tables others : List StoredTable) → map definition_at tables ≡ map definition_at others → length tables ≡ length others
same_length tables others h = sym (length-map tables definition_at) ∙ ap (λ xs. length xs) h ∙ length-map others definition_at

name_from : (k n : ℕ) (tables others : List StoredTable) → map definition_at tables ≡ map definition_at others → (table_from k tables n).name ≡ (table_from k others n).name
name_from k n [] [] h = refl
name_from k n [] (t ∷ others) h = absurd (nil_cons (definition_at t) (map definition_at others) h)
name_from k n (t ∷ tables) [] h = absurd (nil_cons (definition_at t) (map definition_at tables) (sym h))
name_from k n (t ∷ tables) (u ∷ others) h =
    by_place (k == n) (name_from (suc k) n tables others (cons_tail (definition_at t) (definition_at u) (map definition_at tables) (map definition_at others) h))
    (ap (λ d. d.0) (cons_head (definition_at t) (definition_at u) (map definition_at tables) (map definition_at others) h))
  where
    by_place : (b : Bool) → (table_from (suc k) tables n).name ≡ (table_from (suc k) others n).name → t.name ≡ u.name
        → (cond b t (table_from (suc k) tables n)).name ≡ (cond b u (table_from (suc k) others n)).name
    by_place true again e = e
    by_place false again e = again

pub same_name : (n : ℕ) (tables others : List StoredTable) → map definition_at tables ≡ map definition_at others → (table_at tables n).name ≡ (table_at others n).name
same_name n tables others h = name_from 1 n tables others h

pub same_number : (name : List ℕ) (tables others : List StoredTable) → map definition_at tables ≡ map definition_at others → number_of tables name ≡ number_of others name
same_number name tables others h =
    ap (λ l. number_at_place l (length tables)) (same_position name tables others h)
    ∙ ap (number_at_place (prefix_len (λ (table : StoredTable). not (bytes_eq table.name name)) others)) (same_length tables others h)
  where
    number_at_place : ℕ → ℕ → ℕ
    number_at_place place n = unwrap_or (option_map suc (cond (nat_lt place n) (Some place) None)) 0

-- ---- rows change no name and no column

new_keeps : (p : Put) (key : ℤ) (placed : List (ℕ × ℕ)) (new : Row) (t : StoredTable) → definition_at (table_with_new p key placed new t) ≡ definition_at t
new_keeps p key placed new t =
    by_test (needs_slot (row_bytes t.schema new) (kept_at t key)) (row_after t.schema (indexed t) placed (kept_at t key) new)
  where
    by_test : (b : Bool) (kept : KeptRow) → definition_at (cond b (table_after_put p key kept t) (table_with_row key (λ other. kept) t)) ≡ definition_at t
    by_test true kept = refl
    by_test false kept = refl

pub row_keeps : (p : Put) (change : Change) (placed : List (ℕ × ℕ)) (new : Option Row) (t : StoredTable) → definition_at (table_after_row p change placed new t) ≡ definition_at t
row_keeps p change placed (Some new) t = new_keeps p change.key placed new t
row_keeps p change placed None t = refl

pub purged_keeps : (locks : List Lock) (queue : List Queued) (tables : List StoredTable) → map definition_at (tables_purged locks queue tables) ≡ map definition_at tables
purged_keeps locks [] tables = refl
purged_keeps locks (dead_entry entry ∷ queue) tables = definitions_changed entry.table (table_without_entry entry) tables (λ t. refl)
purged_keeps locks (dead_row number key ∷ queue) tables = by_test (may_leave locks (table_at tables number) number key)
  where
    by_test : (b : Bool) → map definition_at (cond b (change_table number (table_without key) tables) tables) ≡ map definition_at tables
    by_test true = definitions_changed number (table_without key) tables (λ t. refl)
    by_test false = refl
