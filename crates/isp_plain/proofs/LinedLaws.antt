-- Statements put no line feed into tables whose texts have none, and show none. So their replies' texts are one line.
use Rattle.std.proofs.Common.{◌≡◌, ◌∙◌, refl, ℕ, zero, suc, ℤ, Bool, true, false, not, List, [], ◌∷◌, map, Option, Some, None, if◌then◌else◌}
use Rattle.std.specs.declared.cmp.Ordering.{Ordering}
use Rattle.std.specs.declared.cmp.Ordering.TheVariants.{Less, Equal, Greater}
use Rattle.std.specs.Ordering.{int_cmp, match_ordering}
use Rattle.std.specs.BTreeMap.{insert_entry}
use Rattle.std.specs.Prelude.{filter, slice_get, slice_set}
use Rattle.std.specs.List.{fold, filter_map, cons_option, list_all, list_any}
use Rattle.std.specs.Map.{values_of}
use Rattle.std.proofs.lemmas.Bool.{and_parts, and_from}
use Rattle.std.proofs.lemmas.List.Folds.{list_all-append}
use Rattle.isp_plain.specs.declared.value.Row.{Row}
use Rattle.isp_plain.specs.declared.value.Value.{Value}
use Rattle.isp_plain.specs.declared.statement.Assign.{Assign}
use Rattle.isp_plain.specs.declared.statement.Condition.{Condition}
use Rattle.isp_plain.specs.declared.statement.Statement.{Statement}
use Rattle.isp_plain.specs.declared.statement.Statement.TheVariants.{Create, Insert, Select, Update, Delete, Begin, Commit, Rollback, Refused}
use Rattle.isp_plain.specs.Conditions.{holds}
use Rattle.isp_plain.specs.Does.{Change, does, place_of, changed_in, changed_at, insert, insert_or, update, updated, delete, outgrows, cut, selected, with_set, with_sets, select_reply, table_at}
use Rattle.isp_plain.specs.Entries.{first_duplicate, with_row, with_rows}
use Rattle.isp_plain.specs.Lined.{is_lined_value, is_lined_row, are_lined_rows, is_lined_table, are_lined, is_lined_statement, is_lined_reply, is_one_line}
use Rattle.isp_plain.specs.Tables.{Table}
use Rattle.isp_plain.specs.Texts.{reply_text}
use Rattle.isp_plain.specs.Values.{key_of}
use Rattle.isp_plain.proofs.TextLaws.{reply_line}

-- ---- lists whose members pass a test

module _ {X : Type 0} (p : X → Bool) where
  passes_if : (b : Bool) (x y : X) → p x ≡ true → p y ≡ true → p (if b then x else y) ≡ true
  passes_if true x y first second = first
  passes_if false x y first second = second

  kept_if : (b : Bool) (x : X) (xs : List X) → p x ≡ true → list_all p xs ≡ true → list_all p (if b then x ∷ xs else xs) ≡ true
  kept_if true x xs first others = and_from (p x) (list_all p xs) first others
  kept_if false x xs first others = others

  all_filter : (keep : X → Bool) (xs : List X) → list_all p xs ≡ true → list_all p (filter keep xs) ≡ true
  all_filter keep [] all = refl
  all_filter keep (x ∷ xs) all =
      let parts = and_parts (p x) (list_all p xs) all in kept_if (keep x) x (filter keep xs) parts.0 (all_filter keep xs parts.1)

  all_set : (xs : List X) (at : ℕ) (x : X) → list_all p xs ≡ true → p x ≡ true → list_all p (slice_set xs at x) ≡ true
  all_set [] at x all is = refl
  all_set (y ∷ ys) zero x all is = and_from (p x) (list_all p ys) is (and_parts (p y) (list_all p ys) all).1
  all_set (y ∷ ys) (suc at) x all is =
      let parts = and_parts (p y) (list_all p ys) all in and_from (p y) (list_all p (slice_set ys at x)) parts.0 (all_set ys at x parts.1 is)

  -- the member that is found passes
  abbrev Passes : Option X → Type 0
  Passes (Some x) = p x ≡ true
  Passes None = Unit {0}

  found_passes : (xs : List X) (at : ℕ) → list_all p xs ≡ true → Passes (slice_get xs at)
  found_passes [] at all = tt
  found_passes (x ∷ xs) zero all = (and_parts (p x) (list_all p xs) all).0
  found_passes (x ∷ xs) (suc at) all = found_passes xs at (and_parts (p x) (list_all p xs) all).1

  all_cons_option : (found : Option X) (xs : List X) → Passes found → list_all p xs ≡ true → list_all p (cons_option found xs) ≡ true
  all_cons_option None xs is all = all
  all_cons_option (Some x) xs is all = and_from (p x) (list_all p xs) is all

  all_filter_map : (places : List ℕ) (xs : List X) → list_all p xs ≡ true → list_all p (filter_map (slice_get xs) places) ≡ true
  all_filter_map [] xs all = refl
  all_filter_map (place ∷ places) xs all = all_cons_option (slice_get xs place) _ (found_passes xs place all) (all_filter_map places xs all)

-- ---- rows

set_lined : (values : List Value) (set : Assign) → list_all is_lined_value values ≡ true → is_lined_value set.v ≡ true → list_all is_lined_value (with_set values set) ≡ true
set_lined values set all is = all_set is_lined_value values set.column set.v all is

sets_lined : (sets : List Assign) (values : List Value) → list_all (λ set. is_lined_value set.v) sets ≡ true → list_all is_lined_value values ≡ true → list_all is_lined_value (fold with_set values sets) ≡ true
sets_lined [] values new all = all
sets_lined (set ∷ sets) values new all =
    let parts = and_parts (is_lined_value set.v) (list_all (λ set. is_lined_value set.v) sets) new in
    sets_lined sets (with_set values set) parts.1 (set_lined values set all parts.0)

selected_lined : (rows : List Row) (columns : List ℕ) (condition : Condition) → are_lined_rows rows ≡ true → are_lined_rows (selected rows columns condition) ≡ true
selected_lined rows columns condition all = cut_all (filter (holds condition) rows) (all_filter is_lined_row (holds condition) rows all)
  where
    cut_all : (rows : List Row) → are_lined_rows rows ≡ true → are_lined_rows (map (cut columns) rows) ≡ true
    cut_all [] all = refl
    cut_all (row ∷ rows) all =
        let parts = and_parts (is_lined_row row) (are_lined_rows rows) all in
        and_from (is_lined_row (cut columns row)) (are_lined_rows (map (cut columns) rows)) (all_filter_map is_lined_value columns row.values parts.0) (cut_all rows parts.1)

-- ---- one table

at_order : (order : Ordering) (e : ℤ × Row) (entries : List (ℤ × Row)) (key : ℤ) (row : Row) → is_lined_row row ≡ true → is_lined_row e.1 ≡ true → are_lined_rows (values_of entries) ≡ true →
    are_lined_rows (values_of (with_row entries key row)) ≡ true →
    are_lined_rows (values_of (match_ordering order ((key, row) ∷ e ∷ entries) ((e.0, row) ∷ entries) (e ∷ insert_entry int_cmp entries key row))) ≡ true
at_order Less e entries key row is first others later = and_from _ _ is (and_from _ _ first others)
at_order Equal e entries key row is first others later = and_from _ _ is others
at_order Greater e entries key row is first others later = and_from _ _ first later

row_added : (entries : List (ℤ × Row)) (key : ℤ) (row : Row) → is_lined_row row ≡ true → are_lined_rows (values_of entries) ≡ true → are_lined_rows (values_of (with_row entries key row)) ≡ true
row_added [] key row is all = and_from (is_lined_row row) true is refl
row_added (e ∷ entries) key row is all =
    let parts = and_parts (is_lined_row e.1) (are_lined_rows (values_of entries)) all in
    at_order (int_cmp key e.0) e entries key row is parts.0 parts.1 (row_added entries key row is parts.1)

rows_added : (rows : List Row) (entries : List (ℤ × Row)) → are_lined_rows rows ≡ true → are_lined_rows (values_of entries) ≡ true → are_lined_rows (values_of (with_rows entries rows)) ≡ true
rows_added [] entries new all = all
rows_added (row ∷ rows) entries new all =
    let parts = and_parts (is_lined_row row) (are_lined_rows rows) new in
    rows_added rows (with_row entries (key_of row) row) parts.1 (row_added entries (key_of row) row parts.0 all)

-- the table after a change is one whose texts are lines
abbrev Keeps : (Table → Change) → Type 0
Keeps change = (table : Table) → is_lined_table table ≡ true → is_lined_table (change table).table ≡ true

insert_keeps : (rows : List Row) → are_lined_rows rows ≡ true → Keeps (insert rows)
insert_keeps rows new table all = at (first_duplicate table.rows rows)
  where
    at : (found : Option ℤ) → is_lined_table (insert_or rows table found).table ≡ true
    at None = rows_added rows table.rows new all
    at (Some key) = all

rows_updated : (sets : List Assign) (condition : Condition) (entries : List (ℤ × Row)) → list_all (λ set. is_lined_value set.v) sets ≡ true → are_lined_rows (values_of entries) ≡ true →
    are_lined_rows (values_of (map (λ (e : ℤ × Row). (e.0, updated sets condition e.1)) entries)) ≡ true
rows_updated sets condition [] new all = refl
rows_updated sets condition (e ∷ entries) new all =
    let parts = and_parts (is_lined_row e.1) (are_lined_rows (values_of entries)) all in
    and_from _ _ (passes_if is_lined_row (holds condition e.1) (with_sets sets e.1) e.1 (sets_lined sets e.1.values new parts.0) parts.0) (rows_updated sets condition entries new parts.1)

update_keeps : (sets : List Assign) (condition : Condition) → list_all (λ set. is_lined_value set.v) sets ≡ true → Keeps (update sets condition)
update_keeps sets condition new table all = either (list_any (outgrows table.schema sets condition) (values_of table.rows)) _ _ all (rows_updated sets condition table.rows new all)
  where
    either : (b : Bool) (first second : Change) → is_lined_table first.table ≡ true → is_lined_table second.table ≡ true → is_lined_table (if b then first else second).table ≡ true
    either true first second is other = is
    either false first second is other = other

delete_keeps : (condition : Condition) → Keeps (delete condition)
delete_keeps condition table all = kept table.rows all
  where
    at : (b : Bool) (e : ℤ × Row) (entries : List (ℤ × Row)) → is_lined_row e.1 ≡ true → are_lined_rows (values_of entries) ≡ true → are_lined_rows (values_of (if b then e ∷ entries else entries)) ≡ true
    at true e entries first others = and_from _ _ first others
    at false e entries first others = others

    kept : (entries : List (ℤ × Row)) → are_lined_rows (values_of entries) ≡ true → are_lined_rows (values_of (filter (λ (e : ℤ × Row). not (holds condition e.1)) entries)) ≡ true
    kept [] all = refl
    kept (e ∷ entries) all =
        let parts = and_parts (is_lined_row e.1) (are_lined_rows (values_of entries)) all in at (not (holds condition e.1)) e _ parts.0 (kept entries parts.1)

-- ---- the tables

changed_lined : (tables : List Table) (change : Table → Change) (place : Option ℕ) → Keeps change → are_lined tables ≡ true → are_lined (changed_in tables place change).tables ≡ true
changed_lined tables change None keeps all = all
changed_lined tables change (Some place) keeps all = at (slice_get tables place) (found_passes is_lined_table tables place all)
  where
    at : (found : Option Table) → Passes is_lined_table found → are_lined (changed_at tables place change found).tables ≡ true
    at None is = all
    at (Some table) is = all_set is_lined_table tables place (change table).table all (keeps table is)

-- a statement that puts no line feed into tables keeps tables without one
pub does_lined : (tables : List Table) (statement : Statement) → are_lined tables ≡ true → is_lined_statement statement ≡ true → are_lined (does tables statement).tables ≡ true
does_lined tables (Create name schema) all is = list_all-append is_lined_table tables _ ∙ and_from (are_lined tables) true all refl
does_lined tables (Insert name rows) all is = changed_lined tables (insert rows) (place_of tables name) (insert_keeps rows is) all
does_lined tables (Select name columns condition) all is = all
does_lined tables (Update name sets condition) all is = changed_lined tables (update sets condition) (place_of tables name) (update_keeps sets condition is) all
does_lined tables (Delete name condition) all is = changed_lined tables (delete condition) (place_of tables name) (delete_keeps condition) all
does_lined tables Begin all is = all
does_lined tables Commit all is = all
does_lined tables Rollback all is = all
does_lined tables (Refused refusal) all is = all

-- ---- replies

change_shows : (tables : List Table) (change : Table → Change) → ((table : Table) → is_lined_reply (change table).reply ≡ true) → (place : Option ℕ) → is_lined_reply (changed_in tables place change).reply ≡ true
change_shows tables change each None = refl
change_shows tables change each (Some place) = at (slice_get tables place)
  where
    at : (found : Option Table) → is_lined_reply (changed_at tables place change found).reply ≡ true
    at None = refl
    at (Some table) = each table

insert_shows : (rows : List Row) (table : Table) (found : Option ℤ) → is_lined_reply (insert_or rows table found).reply ≡ true
insert_shows rows table None = refl
insert_shows rows table (Some key) = refl

update_shows : (b : Bool) (first second : Change) → is_lined_reply first.reply ≡ true → is_lined_reply second.reply ≡ true → is_lined_reply (if b then first else second).reply ≡ true
update_shows true first second is other = is
update_shows false first second is other = other

select_shows : (tables : List Table) (place : Option ℕ) (columns : List ℕ) (condition : Condition) → are_lined tables ≡ true → is_lined_reply (select_reply (table_at tables place) columns condition) ≡ true
select_shows tables None columns condition all = refl
select_shows tables (Some place) columns condition all = at (slice_get tables place) (found_passes is_lined_table tables place all)
  where
    at : (found : Option Table) → Passes is_lined_table found → is_lined_reply (select_reply found columns condition) ≡ true
    at None is = refl
    at (Some table) is = selected_lined (values_of table.rows) columns condition is

-- and shows none
pub does_shows : (tables : List Table) (statement : Statement) → are_lined tables ≡ true → is_lined_reply (does tables statement).reply ≡ true
does_shows tables (Create name schema) all = refl
does_shows tables (Insert name rows) all = change_shows tables (insert rows) (λ table. insert_shows rows table (first_duplicate table.rows rows)) (place_of tables name)
does_shows tables (Select name columns condition) all = select_shows tables (place_of tables name) columns condition all
does_shows tables (Update name sets condition) all =
    change_shows tables (update sets condition) (λ table. update_shows (list_any (outgrows table.schema sets condition) (values_of table.rows)) _ _ refl refl) (place_of tables name)
does_shows tables (Delete name condition) all = change_shows tables (delete condition) (λ table. refl) (place_of tables name)
does_shows tables Begin all = refl
does_shows tables Commit all = refl
does_shows tables Rollback all = refl
does_shows tables (Refused refusal) all = refl

-- so the text of its reply is one line
pub does_line : (tables : List Table) (statement : Statement) → are_lined tables ≡ true → is_one_line (reply_text (does tables statement).reply) ≡ true
does_line tables statement all = reply_line (does tables statement).reply (does_shows tables statement all)
