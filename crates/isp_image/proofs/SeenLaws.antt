-- The rows that are seen of a table, and the tables of a database, where one row is exchanged.
use Rattle.std.proofs.Common.{◌≡◌, ℕ, suc, ℤ, Bool, true, false, List, [], ◌∷◌, map, Option, Some, None, cond, refl, sym, ◌∙◌, ap, arith, if◌then◌else◌}
use Rattle.std.specs.Prelude.{int_lt, slice_get, slice_set}
use Rattle.std.specs.declared.cmp.Ordering.TheVariants.{Less, Equal, Greater}
use Rattle.std.specs.Option.{option_map}
use Rattle.std.specs.Ordering.{int_cmp, int_eq, is_eq, match_ordering}
use Rattle.std.proofs.lemmas.Int.{ints}
use Rattle.isp_plain.specs.declared.value.Row.{Row}
use Rattle.isp_plain.specs.Entries.{with_row, without_row}
use Rattle.isp_changes.specs.Changes.{after_change, changed_table, with_changed, with_new}
use Rattle.isp_clustered.specs.Trees.{Tree}
use Rattle.isp_image.specs.Databases.{FileRow, FileTable, back_of, image_of, row_key, seen, shown, table_of}
use Rattle.isp_image.specs.Courses.{change_at}
use Rattle.isp_image.specs.Keyed.{IsAtKey, IsBelowEach, RisesBy, found, joined, placed}
use Rattle.isp_image.proofs.KeyedLaws.{above_not_at, above_not_below, below_rest, found_at, placed_back, placed_front, placed_rises, placed_twice}
use Rattle.isp_image.proofs.ListLaws.{get_map, get_set, map_set, set_get, set_set}

abbrev pub Entry : Type 0
Entry = ℤ × Row

abbrev pub entry_key : Entry → ℤ
entry_key e = e.0

abbrev pub entry : ℤ → Option Row → Option Entry
entry key row = option_map (λ r. (key, r)) row

-- ---- rows of a plain table

cmp_below : (a key : ℤ) → int_lt a key ≡ true → int_cmp key a ≡ Greater
cmp_below a key less = let not : int_lt key a ≡ false = grind (arith, ints, less) in (λ i. cond (not i) Less (cond (less i) Greater Equal))

cmp_at : (a key : ℤ) → int_lt a key ≡ false → int_eq a key ≡ true → int_cmp key a ≡ Equal
cmp_at a key not at = let other : int_lt key a ≡ false = grind (arith, ints, at) in (λ i. cond (other i) Less (cond (not i) Greater Equal))

cmp_above : (a key : ℤ) → int_lt a key ≡ false → int_eq a key ≡ false → int_cmp key a ≡ Less
cmp_above a key not apart = let less : int_lt key a ≡ true = grind (arith, ints, not, apart) in (λ i. cond (less i) Less (cond (int_lt a key) Greater Equal))

at_is : (a key : ℤ) → int_eq a key ≡ true → a ≡ key
at_is a key at = grind (arith, ints, at)

without_front : (key : ℤ) (rows : List Entry) → IsBelowEach entry_key key rows → without_row rows key ≡ rows
without_front key [] all = refl
without_front key (e ∷ rows) all =
    let order = cmp_above e.0 key (above_not_below e.0 key all.0) (above_not_at e.0 key all.0) in
    (λ i. cond (is_eq (order i)) rows (e ∷ without_row rows key)) ∙ (λ i. e ∷ without_front key rows all.1 i)

pub with_new_is : (key : ℤ) (row : Option Row) (rows : List Entry) → RisesBy entry_key rows → with_new rows key row ≡ placed entry_key key (entry key row) rows
with_new_is key None [] rises = refl
with_new_is key (Some row) [] rises = refl
with_new_is key None (e ∷ rows) rises = by (int_lt e.0 key) refl (int_eq e.0 key) refl (with_new_is key None rows rises.1)
  where
    by : (b : Bool) → int_lt e.0 key ≡ b → (c : Bool) → int_eq e.0 key ≡ c → without_row rows key ≡ placed entry_key key None rows
        → without_row (e ∷ rows) key ≡ (if b then e ∷ placed entry_key key None rows else (if c then rows else e ∷ rows))
    by true less c at rest = (λ i. cond (is_eq (cmp_below e.0 key less i)) rows (e ∷ without_row rows key)) ∙ (λ i. e ∷ rest i)
    by false far true at rest = (λ i. cond (is_eq (cmp_at e.0 key far at i)) rows (e ∷ without_row rows key))
    by false far false apart rest = (λ i. cond (is_eq (cmp_above e.0 key far apart i)) rows (e ∷ without_row rows key)) ∙ (λ i. e ∷ without_front key rows (below_rest entry_key key e rows rises far) i)
with_new_is key (Some row) (e ∷ rows) rises = by (int_lt e.0 key) refl (int_eq e.0 key) refl (with_new_is key (Some row) rows rises.1)
  where
    by : (b : Bool) → int_lt e.0 key ≡ b → (c : Bool) → int_eq e.0 key ≡ c → with_row rows key row ≡ placed entry_key key (Some (key, row)) rows
        → with_row (e ∷ rows) key row ≡ (if b then e ∷ placed entry_key key (Some (key, row)) rows else (key, row) ∷ (if c then rows else e ∷ rows))
    by true less c at rest = (λ i. match_ordering (cmp_below e.0 key less i) ((key, row) ∷ e ∷ rows) ((e.0, row) ∷ rows) (e ∷ with_row rows key row)) ∙ (λ i. e ∷ rest i)
    by false far true at rest = (λ i. match_ordering (cmp_at e.0 key far at i) ((key, row) ∷ e ∷ rows) ((at_is e.0 key at i, row) ∷ rows) (e ∷ with_row rows key row))
    by false far false apart rest = (λ i. match_ordering (cmp_above e.0 key far apart i) ((key, row) ∷ e ∷ rows) ((e.0, row) ∷ rows) (e ∷ with_row rows key row))

-- ---- rows that are seen

abbrev pub entry_of : Option FileRow → Option Entry
entry_of None = None
entry_of (Some r) = if r.stored.marked then None else Some (r.stored.key, r.row)

abbrev front_of : Bool → Entry → List Entry → List Entry
front_of marked e rows = if marked then rows else e ∷ rows

pub below_shown : (key : ℤ) (rows : List FileRow) → IsBelowEach row_key key rows → IsBelowEach entry_key key (shown rows)
below_shown key [] all = tt
below_shown key (r ∷ rows) all = by r.stored.marked (below_shown key rows all.1)
  where
    by : (b : Bool) → IsBelowEach entry_key key (shown rows) → IsBelowEach entry_key key (if b then shown rows else (r.stored.key, r.row) ∷ shown rows)
    by true rest = rest
    by false rest = (all.0, rest)

pub shown_rises : (rows : List FileRow) → RisesBy row_key rows → RisesBy entry_key (shown rows)
shown_rises [] rises = tt
shown_rises (r ∷ rows) rises = by r.stored.marked (shown_rises rows rises.1)
  where
    by : (b : Bool) → RisesBy entry_key (shown rows) → RisesBy entry_key (if b then shown rows else (r.stored.key, r.row) ∷ shown rows)
    by true rest = rest
    by false rest = (below_shown r.stored.key rows rises.0, rest)

shown_joined : (one : Option FileRow) (rows : List FileRow) → shown (joined one rows) ≡ joined (entry_of one) (shown rows)
shown_joined None rows = refl
shown_joined (Some r) rows = by r.stored.marked
  where
    by : (b : Bool) → (if b then shown rows else (r.stored.key, r.row) ∷ shown rows) ≡ joined (if b then None else Some (r.stored.key, r.row)) (shown rows)
    by true = refl
    by false = refl

pub shown_placed : (key : ℤ) (one : Option FileRow) (rows : List FileRow) → RisesBy row_key rows → shown (placed row_key key one rows) ≡ placed entry_key key (entry_of one) (shown rows)
shown_placed key one [] rises = shown_joined one []
shown_placed key one (r ∷ rows) rises = by (int_lt r.stored.key key) refl (shown_placed key one rows rises.1)
  where
    passes : (m : Bool) → int_lt r.stored.key key ≡ true → shown (placed row_key key one rows) ≡ placed entry_key key (entry_of one) (shown rows)
        → (if m then shown (placed row_key key one rows) else (r.stored.key, r.row) ∷ shown (placed row_key key one rows)) ≡ placed entry_key key (entry_of one) (if m then shown rows else (r.stored.key, r.row) ∷ shown rows)
    passes true less rest = rest
    passes false less rest =
        (λ i. (r.stored.key, r.row) ∷ rest i)
        ∙ sym (λ i. if less i then (r.stored.key, r.row) ∷ placed entry_key key (entry_of one) (shown rows) else joined (entry_of one) (if int_eq r.stored.key key then shown rows else (r.stored.key, r.row) ∷ shown rows))

    rest_is : (c : Bool) → shown (if c then rows else r ∷ rows) ≡ (if c then shown rows else shown (r ∷ rows))
    rest_is true = refl
    rest_is false = refl

    behind : int_lt r.stored.key key ≡ false → IsBelowEach entry_key key (shown rows)
    behind far = below_shown key rows (below_rest row_key key r rows rises far)

    stops : (m : Bool) → int_lt r.stored.key key ≡ false → (c : Bool) → int_eq r.stored.key key ≡ c
        → joined (entry_of one) (if c then shown rows else (if m then shown rows else (r.stored.key, r.row) ∷ shown rows)) ≡ placed entry_key key (entry_of one) (if m then shown rows else (r.stored.key, r.row) ∷ shown rows)
    stops true far true at = sym (placed_front entry_key key (entry_of one) (shown rows) (behind far))
    stops true far false at = sym (placed_front entry_key key (entry_of one) (shown rows) (behind far))
    stops false far c at =
        sym (λ i. if far i then (r.stored.key, r.row) ∷ placed entry_key key (entry_of one) (shown rows) else joined (entry_of one) (if at i then shown rows else (r.stored.key, r.row) ∷ shown rows))

    by : (b : Bool) → int_lt r.stored.key key ≡ b → shown (placed row_key key one rows) ≡ placed entry_key key (entry_of one) (shown rows)
        → shown (if b then r ∷ placed row_key key one rows else joined one (if int_eq r.stored.key key then rows else r ∷ rows)) ≡ placed entry_key key (entry_of one) (shown (r ∷ rows))
    by true less rest = passes r.stored.marked less rest
    by false far rest =
        shown_joined one (if int_eq r.stored.key key then rows else r ∷ rows)
        ∙ ap (joined (entry_of one)) (rest_is (int_eq r.stored.key key))
        ∙ stops r.stored.marked far (int_eq r.stored.key key) refl

pub seen_entry : (key : ℤ) (one : Option FileRow) → IsAtKey row_key key one → entry key (seen one) ≡ entry_of one
seen_entry key None at = refl
seen_entry key (Some r) at = by r.stored.marked
  where
    by : (b : Bool) → entry key (if b then None else Some r.row) ≡ (if b then None else Some (r.stored.key, r.row))
    by true = refl
    by false = λ i. Some (sym at i, r.row)

-- ---- tables

pub changed_is : (place : ℕ) (key : ℤ) (one : Option FileRow) (t : FileTable) (tree : Tree) → IsAtKey row_key key one → RisesBy row_key t.rows
    → changed_table (change_at place key one) (table_of t) ≡ table_of (record { def = t.def; tree = tree; rows = placed row_key key one t.rows })
changed_is place key one t tree at rises =
    let rows : with_new (shown t.rows) key (seen one) ≡ shown (placed row_key key one t.rows) =
    with_new_is key (seen one) (shown t.rows) (shown_rises t.rows rises)
    ∙ ap (λ (e : Option Entry). placed entry_key key e (shown t.rows)) (seen_entry key one at)
    ∙ sym (shown_placed key one t.rows rises) in
    λ i. record { name = t.def.name; schema = t.def.schema; rows = rows i }

pub exchanged_is : (tables : List FileTable) (place : ℕ) (key : ℤ) (one : Option FileRow) (t : FileTable) (tree : Tree) → slice_get tables place ≡ Some t → IsAtKey row_key key one → RisesBy row_key t.rows
    → after_change (map table_of tables) (change_at place key one) ≡ map table_of (slice_set tables place (record { def = t.def; tree = tree; rows = placed row_key key one t.rows }))
exchanged_is tables place key one t tree is at rises =
    let plain = map table_of tables in
    let change = change_at place key one in
    ap (with_changed plain change) (get_map table_of tables place ∙ ap (option_map table_of) is)
    ∙ ap (slice_set plain place) (changed_is place key one t tree at rises)
    ∙ sym (map_set table_of tables place (record { def = t.def; tree = tree; rows = placed row_key key one t.rows }))

same_table : (t : FileTable) (rows : List FileRow) → rows ≡ t.rows → ◌≡◌ {A = FileTable} (record { def = t.def; tree = t.tree; rows = rows }) t
same_table t rows is = λ i. record { def = t.def; tree = t.tree; rows = is i }

-- what stood at a key is put back
pub goes_back : (tables : List FileTable) (place : ℕ) (key : ℤ) (one : Option FileRow) (t : FileTable) (tree : Tree) → slice_get tables place ≡ Some t → IsAtKey row_key key one → RisesBy row_key t.rows
    → after_change (map table_of (slice_set tables place (record { def = t.def; tree = tree; rows = placed row_key key one t.rows }))) (change_at place key (found row_key key t.rows)) ≡ map table_of tables
goes_back tables place key one t tree is at rises =
    let now : FileTable = record { def = t.def; tree = tree; rows = placed row_key key one t.rows } in
    let was = found row_key key t.rows in
    let rows : placed row_key key was (placed row_key key one t.rows) ≡ t.rows = placed_twice row_key key was one t.rows at rises ∙ placed_back row_key key t.rows in
    exchanged_is (slice_set tables place now) place key was now t.tree (get_set tables place t now is) (found_at row_key key t.rows) (placed_rises row_key key one t.rows at rises)
    ∙ ap (λ (u : FileTable). map table_of (slice_set (slice_set tables place now) place u)) (same_table t (placed row_key key was (placed row_key key one t.rows)) rows)
    ∙ ap (map table_of) (set_set tables place now t ∙ set_get tables place t is)

pub back_is : (place : ℕ) (key : ℤ) (one : Option FileRow) → back_of (image_of place key one) ≡ change_at place key one
back_is place key None = refl
back_is place key (Some r) = by r.stored.marked
  where
    by : (b : Bool) → back_of (record { image = record { table = suc place; key = key; kind = if b then 2 else 1; row = r.stored.row }; row = Some r.row }) ≡ record { table = place; key = key; new = if b then None else Some r.row }
    by true = refl
    by false = refl
