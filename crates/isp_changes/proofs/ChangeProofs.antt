-- Changes of single rows: put back, the newest first, they leave what stood there; and one after another they are what a
-- statement does.
use Rattle.std.proofs.Common.{◌≡◌, ℕ, zero, suc, ℤ, Bool, true, false, not, cond, List, [], ◌∷◌, ◌++◌, refl, ap, ◌∙◌, sym, subst, length, map, slice_get, Some, None, Option, append-nil}
use Rattle.std.specs.Prelude.{filter, slice_set}
use Rattle.std.specs.declared.cmp.Ordering.TheVariants.{Less, Equal, Greater}
use Rattle.std.specs.Ordering.{int_cmp, int_eq, is_eq, match_ordering, ordering_reverse}
use Rattle.std.specs.Cmp.{Equal-is, int_cmp_total, signed_Decides}
use Rattle.std.specs.List.{AllByRecursion, list_any}
use Rattle.std.specs.Map.{remove_entry, values_of}
use Rattle.std.specs.BTreeMap.{is_at}
use Rattle.std.specs.Option.{option_and_then}
use Rattle.isp_plain.specs.declared.value.Row.{Row}
use Rattle.isp_plain.specs.declared.statement.Assign.{Assign}
use Rattle.isp_plain.specs.declared.statement.Condition.{Condition}
use Rattle.isp_plain.specs.declared.statement.Reply.TheVariants as reply
use Rattle.isp_plain.specs.declared.statement.Statement.TheVariants.{Create, Insert, Select, Update, Delete, Begin, Commit, Rollback, Refused}
use Rattle.isp_plain.specs.Conditions.{holds}
use Rattle.isp_plain.specs.Does.{Change, changed_at, changed_in, delete, insert, insert_or, outgrows, place_of, update, updated, with_sets}
use Rattle.isp_plain.specs.Entries.{first_duplicate, with_row, with_rows}
use Rattle.isp_plain.specs.Tables.{Table}
use Rattle.isp_plain.specs.Values.{key_of}
use Rattle.isp_changes.specs.Rows.{AreRising, AreRisingTables, row_at}
use Rattle.isp_changes.specs.Changes.{RowChange, adding, after_change, after_changes, changed_table, changes_in, changes_of, image_of, of_found, of_place, replacing, undo_of, with_changed, with_new}
use Rattle.isp_changes.specs.ChangeLaws.{AllGoesBack, DoesByChanges, RefusedLeaves, counts, is_refusal}
use Rattle.isp_changes.specs.RowLaws.{KeysRise}
use Rattle.isp_changes.proofs.RowProofs.{Above, first_above, if_not, if_so, later_rise, no_rows, rows_kept, rows_mapped, rows_with_new, rows_with_rows, same_at, same_rows}

-- ---- tables by place

pub get_set : (tables : List Table) (place : ℕ) (table new : Table) → slice_get tables place ≡ Some table → slice_get (slice_set tables place new) place ≡ Some new
get_set [] place table new is = cc
get_set (t ∷ tables) zero table new is = refl
get_set (t ∷ tables) (suc place) table new is = get_set tables place table new is

pub set_set : (tables : List Table) (place : ℕ) (table new : Table) → slice_set (slice_set tables place table) place new ≡ slice_set tables place new
set_set [] place table new = refl
set_set (t ∷ tables) zero table new = refl
set_set (t ∷ tables) (suc place) table new = ap (λ ts. t ∷ ts) (set_set tables place table new)

some_table : (x y : Table) → Some x ≡ Some y → x ≡ y
some_table x y is = cc

pub set_get : (tables : List Table) (place : ℕ) (table : Table) → slice_get tables place ≡ Some table → slice_set tables place table ≡ tables
set_get [] place table is = refl
set_get (t ∷ tables) zero table is = ap (λ x. x ∷ tables) (sym (some_table t table is))
set_get (t ∷ tables) (suc place) table is = ap (λ ts. t ∷ ts) (set_get tables place table is)

pub rising_get : (tables : List Table) (place : ℕ) (table : Table) → AreRisingTables tables → slice_get tables place ≡ Some table → AreRising table.rows
rising_get [] place table rise is = cc
rising_get (t ∷ tables) zero table rise is = subst (λ (x : Table). AreRising x.rows) (some_table t table is) rise.0
rising_get (t ∷ tables) (suc place) table rise is = rising_get tables place table rise.1 is

pub rising_set : (tables : List Table) (place : ℕ) (table : Table) → AreRisingTables tables → AreRising table.rows → AreRisingTables (slice_set tables place table)
rising_set [] place table rise rises = tt
rising_set (t ∷ tables) zero table rise rises = (rises, rise.1)
rising_set (t ∷ tables) (suc place) table rise rises = (rise.0, rising_set tables place table rise.1 rises)

pub rising_more : (tables : List Table) (table : Table) → AreRisingTables tables → AreRising table.rows → AreRisingTables (tables ++ table ∷ [])
rising_more [] table rise rises = (rises, tt)
rising_more (t ∷ tables) table rise rises = (rise.0, rising_more tables table rise.1 rises)

-- ---- a change

pub change_rises : (tables : List Table) (change : RowChange) → AreRisingTables tables → AreRisingTables (after_change tables change)
change_rises tables change rise = by (slice_get tables change.table) refl
  where
    by : (found : Option Table) → slice_get tables change.table ≡ found → AreRisingTables (with_changed tables change found)
    by None is = rise
    by (Some table) is =
        rising_set tables change.table (changed_table change table) rise
        (rows_with_new table.rows change.key change.new (rising_get tables change.table table rise is)).rises

pub changes_rise : (tables : List Table) (changes : List RowChange) → AreRisingTables tables → AreRisingTables (after_changes tables changes)
changes_rise tables [] rise = rise
changes_rise tables (change ∷ changes) rise = changes_rise (after_change tables change) changes (change_rises tables change rise)

-- ---- put back

back_at : (b : Bool) (q at : ℤ) (rows : List (ℤ × Row)) (new : Option Row) → int_eq q at ≡ b →
    cond b (row_at rows at) (cond b new (row_at rows q)) ≡ row_at rows q
back_at true q at rows new is = ap (row_at rows) (sym ((signed_Decides q at).0 is))
back_at false q at rows new is = refl

pub rows_back : (rows : List (ℤ × Row)) (at : ℤ) (new : Option Row) → AreRising rows → with_new (with_new rows at new) at (row_at rows at) ≡ rows
rows_back rows at new rises =
    let changed = rows_with_new rows at new rises in
    let back = rows_with_new (with_new rows at new) at (row_at rows at) changed.rises in
    same_rows (with_new (with_new rows at new) at (row_at rows at)) rows back.rises rises
    (λ q. back.each q ∙ (ap (cond (int_eq q at) (row_at rows at)) (changed.each q) ∙ back_at (int_eq q at) q at rows new refl))

pub goes_back : (tables : List Table) (change : RowChange) → AreRisingTables tables → after_change (after_change tables change) (image_of tables change) ≡ tables
goes_back tables change rise = by (slice_get tables change.table) refl
  where
    image : Option Table → RowChange
    image found = replacing change.table change.key (option_and_then (λ (table : Table). row_at table.rows change.key) found)

    by : (found : Option Table) → slice_get tables change.table ≡ found → after_change (with_changed tables change found) (image found) ≡ tables
    by None is = ap (with_changed tables (image None)) is
    by (Some table) is =
        let place = change.table in
        let changed = changed_table change table in
        let there : slice_get (slice_set tables place changed) place ≡ Some changed = get_set tables place table changed is in
        let whole : changed_table (image (Some table)) changed ≡ table =
        ap (λ rows. let t : Table = record table { rows = rows } in t) (rows_back table.rows change.key change.new (rising_get tables place table rise is)) in
        ap (with_changed (slice_set tables place changed) (image (Some table))) there
        ∙ (set_set tables place changed (changed_table (image (Some table)) changed)
        ∙ (ap (slice_set tables place) whole ∙ set_get tables place table is))

changes_append : (tables : List Table) (changes more : List RowChange) → after_changes tables (changes ++ more) ≡ after_changes (after_changes tables changes) more
changes_append tables [] more = refl
changes_append tables (change ∷ changes) more = changes_append (after_change tables change) changes more

pub all_goes_back : AllGoesBack
all_goes_back tables [] rise = refl
all_goes_back tables (change ∷ changes) rise =
    let mid = after_change tables change in
    changes_append (after_changes mid changes) (undo_of mid changes) (image_of tables change ∷ [])
    ∙ (ap (λ ts. after_change ts (image_of tables change)) (all_goes_back mid changes (change_rises tables change rise)) ∙ goes_back tables change rise)

-- ---- changes of one table

abbrev rows_after : List (ℤ × Row) → List RowChange → List (ℤ × Row)
rows_after rows [] = rows
rows_after rows (change ∷ changes) = rows_after (with_new rows change.key change.new) changes

abbrev AllAt : ℕ → List RowChange → Type 0
AllAt place changes = AllByRecursion (λ (change : RowChange). change.table ≡ place) changes

with_rows_of : Table → List (ℤ × Row) → Table
with_rows_of table rows = record table { rows = rows }

changes_at : (tables : List Table) (place : ℕ) (table : Table) (changes : List RowChange) → slice_get tables place ≡ Some table → AllAt place changes →
    after_changes tables changes ≡ slice_set tables place (with_rows_of table (rows_after table.rows changes))
unfolding with_rows_of
changes_at tables place table [] is all = sym (set_get tables place table is)
changes_at tables place table (change ∷ changes) is all =
    let here : after_change tables change ≡ slice_set tables place (changed_table change table) =
    ap (with_changed tables change) (ap (slice_get tables) all.0 ∙ is) ∙ ap (λ p. slice_set tables p (changed_table change table)) all.0 in
    ap (λ ts. after_changes ts changes) here
    ∙ (changes_at (slice_set tables place (changed_table change table)) place (changed_table change table) changes
    (get_set tables place table (changed_table change table) is) all.1
    ∙ set_set tables place (changed_table change table) _)

-- changes above the first key leave the row there
abbrev AllAbove : ℤ → List RowChange → Type 0
AllAbove first changes = AllByRecursion (λ (change : RowChange). int_cmp first change.key ≡ Less) changes

greater : (a b : ℤ) → int_cmp a b ≡ Less → int_cmp b a ≡ Greater
greater a b is = int_cmp_total.antisymm b a ∙ ap ordering_reverse is

skip_one : (e : ℤ × Row) (rows : List (ℤ × Row)) (at : ℤ) (new : Option Row) → int_cmp e.0 at ≡ Less → with_new (e ∷ rows) at new ≡ e ∷ with_new rows at new
skip_one e rows at (Some row) less =
    ap (λ o. match_ordering o ((at, row) ∷ e ∷ rows) ((e.0, row) ∷ rows) (e ∷ with_row rows at row)) (greater e.0 at less)
skip_one e rows at None less =
    if_not (is_at (int_cmp at) e.0) rows (e ∷ remove_entry (is_at (int_cmp at)) rows) (ap is_eq (greater e.0 at less))

skipped : (e : ℤ × Row) (rows : List (ℤ × Row)) (changes : List RowChange) → AllAbove e.0 changes → rows_after (e ∷ rows) changes ≡ e ∷ rows_after rows changes
skipped e rows [] above = refl
skipped e rows (change ∷ changes) above =
    ap (λ rs. rows_after rs changes) (skip_one e rows change.key change.new above.0) ∙ skipped e (with_new rows change.key change.new) changes above.1

pub itself : (key : ℤ) → int_cmp key key ≡ Equal
itself key = (Equal-is (int_cmp key key)).0 (same_at key)

put_first : (e : ℤ × Row) (rows : List (ℤ × Row)) (row : Row) → with_row (e ∷ rows) e.0 row ≡ (e.0, row) ∷ rows
put_first e rows row = ap (λ o. match_ordering o ((e.0, row) ∷ e ∷ rows) ((e.0, row) ∷ rows) (e ∷ with_row rows e.0 row)) (itself e.0)

out_first : (e : ℤ × Row) (rows : List (ℤ × Row)) → with_new (e ∷ rows) e.0 None ≡ rows
out_first e rows = if_so (is_at (int_cmp e.0) e.0) rows (e ∷ remove_entry (is_at (int_cmp e.0)) rows) (same_at e.0)

module _ (place : ℕ) (new : Row → Option Row) (test : Row → Bool) where
  abbrev made : List (ℤ × Row) → List RowChange
  made rows = map (λ (e : ℤ × Row). replacing place e.0 (new e.1)) (filter (λ (e : ℤ × Row). test e.1) rows)

  made_above : (first : ℤ) (rows : List (ℤ × Row)) → Above first rows → AllAbove first (made rows)
  made_above first [] above = tt
  made_above first (e ∷ rows) above = by (test e.1) (made_above first rows above.1)
    where
      by : (b : Bool) → AllAbove first (made rows) → AllAbove first (map (λ (e : ℤ × Row). replacing place e.0 (new e.1)) (cond b (e ∷ filter (λ (e : ℤ × Row). test e.1) rows) (filter (λ (e : ℤ × Row). test e.1) rows)))
      by true later = (above.0, later)
      by false later = later

  made_at : (rows : List (ℤ × Row)) → AllAt place (made rows)
  made_at [] = tt
  made_at (e ∷ rows) = by (test e.1) (made_at rows)
    where
      by : (b : Bool) → AllAt place (made rows) → AllAt place (map (λ (e : ℤ × Row). replacing place e.0 (new e.1)) (cond b (e ∷ filter (λ (e : ℤ × Row). test e.1) rows) (filter (λ (e : ℤ × Row). test e.1) rows)))
      by true later = (refl, later)
      by false later = later

  as_many : (rows : List (ℤ × Row)) → length (made rows) ≡ length (filter test (values_of rows))
  as_many [] = refl
  as_many (e ∷ rows) = by (test e.1) (as_many rows)
    where
      by : (b : Bool) → length (made rows) ≡ length (filter test (values_of rows)) → length {A = RowChange} (map (λ (e : ℤ × Row). replacing place e.0 (new e.1)) (cond b (e ∷ filter (λ (e : ℤ × Row). test e.1) rows) (filter (λ (e : ℤ × Row). test e.1) rows)))
          ≡ length (cond b (e.1 ∷ filter test (values_of rows)) (filter test (values_of rows)))
      by true later = ap suc later
      by false later = later

module _ (place : ℕ) (test : Row → Bool) where
  updates_rows : (becomes : Row → Row) (rows : List (ℤ × Row)) → AreRising rows →
      rows_after rows (made place (λ row. Some (becomes row)) test rows) ≡ map (λ (e : ℤ × Row). (e.0, cond (test e.1) (becomes e.1) e.1)) rows
  updates_rows becomes [] rises = refl
  updates_rows becomes (e ∷ rows) rises = by (test e.1) (updates_rows becomes rows (later_rise e rows rises))
    where
      above : AllAbove e.0 (made place (λ row. Some (becomes row)) test rows)
      above = made_above place (λ row. Some (becomes row)) test e.0 rows (first_above e rows rises)

      by : (b : Bool) → rows_after rows (made place (λ row. Some (becomes row)) test rows) ≡ map (λ (e : ℤ × Row). (e.0, cond (test e.1) (becomes e.1) e.1)) rows →
          rows_after (e ∷ rows) (map (λ (e : ℤ × Row). replacing place e.0 (Some (becomes e.1))) (cond b (e ∷ filter (λ (e : ℤ × Row). test e.1) rows) (filter (λ (e : ℤ × Row). test e.1) rows)))
          ≡ (e.0, cond b (becomes e.1) e.1) ∷ map (λ (e : ℤ × Row). (e.0, cond (test e.1) (becomes e.1) e.1)) rows
      by true later =
          ap (λ rs. rows_after rs (made place (λ row. Some (becomes row)) test rows)) (put_first e rows (becomes e.1))
          ∙ (skipped (e.0, becomes e.1) rows (made place (λ row. Some (becomes row)) test rows) above ∙ ap (λ rs. (e.0, becomes e.1) ∷ rs) later)
      by false later = skipped e rows (made place (λ row. Some (becomes row)) test rows) above ∙ ap (λ rs. e ∷ rs) later

  deletes_rows : (rows : List (ℤ × Row)) → AreRising rows → rows_after rows (made place (λ row. None) test rows) ≡ filter (λ (e : ℤ × Row). not (test e.1)) rows
  deletes_rows [] rises = refl
  deletes_rows (e ∷ rows) rises = by (test e.1) (deletes_rows rows (later_rise e rows rises))
    where
      above : AllAbove e.0 (made place (λ row. None) test rows)
      above = made_above place (λ row. None) test e.0 rows (first_above e rows rises)

      by : (b : Bool) → rows_after rows (made place (λ row. None) test rows) ≡ filter (λ (e : ℤ × Row). not (test e.1)) rows →
          rows_after (e ∷ rows) (map (λ (e : ℤ × Row). replacing place e.0 None) (cond b (e ∷ filter (λ (e : ℤ × Row). test e.1) rows) (filter (λ (e : ℤ × Row). test e.1) rows)))
          ≡ cond (not b) (e ∷ filter (λ (e : ℤ × Row). not (test e.1)) rows) (filter (λ (e : ℤ × Row). not (test e.1)) rows)
      by true later = ap (λ rs. rows_after rs (made place (λ row. None) test rows)) (out_first e rows) ∙ later
      by false later = skipped e rows (made place (λ row. None) test rows) above ∙ ap (λ rs. e ∷ rs) later

inserts_rows : (place : ℕ) (rows : List (ℤ × Row)) (new : List Row) → rows_after rows (map (adding place) new) ≡ with_rows rows new
inserts_rows place rows [] = refl
inserts_rows place rows (row ∷ new) = inserts_rows place (with_row rows (key_of row) row) new

adding_at : (place : ℕ) (new : List Row) → AllAt place (map (adding place) new)
adding_at place [] = tt
adding_at place (row ∷ new) = (refl, adding_at place new)

length-adding : (place : ℕ) (new : List Row) → length (map (adding place) new) ≡ length new
length-adding place [] = refl
length-adding place (row ∷ new) = ap suc (length-adding place new)

-- ---- what a statement does to its table

-- the changes leave the table that the change leaves, and are as many as it counts
pub record IsMade (tables : List Table) (place : ℕ) (change : Change) (changes : List RowChange) : Type 0 where
  pub leaves : after_changes tables changes ≡ slice_set tables place change.table
  pub counted : change.reply ≡ reply.Count (length changes)

pub made_update : (sets : List Assign) (w : Condition) (name : List ℕ) (tables : List Table) (place : ℕ) (table : Table) → slice_get tables place ≡ Some table → AreRising table.rows →
    list_any (outgrows table.schema sets w) (values_of table.rows) ≡ false → IsMade tables place (update sets w table) (changes_in place (Update name sets w) table.rows)
unfolding with_rows_of
made_update sets w name tables place table is rises none =
    let changes = changes_in place (Update name sets w) table.rows in
    let becomes : update sets w table ≡ _ = if_not (list_any (outgrows table.schema sets w) (values_of table.rows)) _ _ none in
    record {
      leaves = changes_at tables place table changes is (made_at place (λ row. Some (with_sets sets row)) (holds w) table.rows)
          ∙ (ap (λ rows. slice_set tables place (with_rows_of table rows)) (updates_rows place (holds w) (with_sets sets) table.rows rises)
          ∙ ap (λ (c : Change). slice_set tables place c.table) (sym becomes));
      counted = ap (λ (c : Change). c.reply) becomes ∙ ap reply.Count (sym (as_many place (λ row. Some (with_sets sets row)) (holds w) table.rows));
    }

pub made_delete : (w : Condition) (name : List ℕ) (tables : List Table) (place : ℕ) (table : Table) → slice_get tables place ≡ Some table → AreRising table.rows →
    IsMade tables place (delete w table) (changes_in place (Delete name w) table.rows)
unfolding with_rows_of
made_delete w name tables place table is rises =
    let changes = changes_in place (Delete name w) table.rows in
    record {
      leaves = changes_at tables place table changes is (made_at place (λ row. None) (holds w) table.rows)
          ∙ ap (λ rows. slice_set tables place (with_rows_of table rows)) (deletes_rows place (holds w) table.rows rises);
      counted = ap reply.Count (sym (as_many place (λ row. None) (holds w) table.rows));
    }

pub made_insert : (rows : List Row) (tables : List Table) (place : ℕ) (table : Table) → slice_get tables place ≡ Some table →
    first_duplicate table.rows rows ≡ None → IsMade tables place (insert rows table) (map (adding place) rows)
unfolding with_rows_of
made_insert rows tables place table is none =
    let becomes : insert rows table ≡ insert_or rows table None = ap (insert_or rows table) none in
    record {
      leaves = changes_at tables place table (map (adding place) rows) is (adding_at place rows)
          ∙ (ap (λ rs. slice_set tables place (with_rows_of table rs)) (inserts_rows place table.rows rows)
          ∙ ap (λ (c : Change). slice_set tables place c.table) (sym becomes));
      counted = ap (λ (c : Change). c.reply) becomes ∙ ap reply.Count (sym (length-adding place rows));
    }

-- ---- a statement

-- a statement that is not refused does what its changes leave
module _ (tables : List Table) (change : Table → Change) (changes : ℕ → Table → List RowChange)
    (each : (place : ℕ) (table : Table) → slice_get tables place ≡ Some table → is_refusal (change table).reply ≡ false → IsMade tables place (change table) (changes place table)) where
  abbrev IsDoneAt : Option ℕ → Type 0
  IsDoneAt place =
      (after_changes tables (of_place [] changes tables place) ≡ (changed_in tables place change).tables)
      × ((changed_in tables place change).reply ≡ reply.Count (length (of_place [] changes tables place)))

  done_found : (place : ℕ) (found : Option Table) → slice_get tables place ≡ found → is_refusal (changed_at tables place change found).reply ≡ false →
      (after_changes tables (of_found [] changes place found) ≡ (changed_at tables place change found).tables)
      × ((changed_at tables place change found).reply ≡ reply.Count (length (of_found [] changes place found)))
  done_found place None is answered = cc
  done_found place (Some table) is answered = let made = each place table is answered in (made.leaves, made.counted)

  done_in : (place : Option ℕ) → is_refusal (changed_in tables place change).reply ≡ false → IsDoneAt place
  done_in None answered = cc
  done_in (Some place) answered = done_found place (slice_get tables place) refl answered

not_refused : (rows : List Row) (table : Table) (found : Option ℤ) → is_refusal (insert_or rows table found).reply ≡ false → found ≡ None
not_refused rows table None answered = refl
not_refused rows table (Some key) answered = cc

not_large : (b : Bool) (first other : Change) → is_refusal first.reply ≡ true → is_refusal (cond b first other).reply ≡ false → b ≡ false
not_large true first other refuses answered = cc
not_large false first other refuses answered = refl

-- the tables are the same with no table added
none_added : (tables : List Table) (changes : List RowChange) (after : List Table) → after_changes tables changes ≡ after → after_changes (tables ++ []) changes ≡ after
none_added tables changes after is = ap (λ ts. after_changes ts changes) (append-nil tables) ∙ is

pub does_by_changes : DoesByChanges
does_by_changes tables (Create name schema) rise answered = record { leaves = refl; answers = λ no. cc }
does_by_changes tables (Insert name rows) rise answered =
    let done = done_in tables (insert rows) (λ place table. changes_in place (Insert name rows) table.rows)
    (λ place table is ok. made_insert rows tables place table is (not_refused rows table (first_duplicate table.rows rows) ok)) (place_of tables name) answered in
    record { leaves = none_added tables (changes_of tables (Insert name rows)) _ done.0; answers = λ _. done.1 }
does_by_changes tables (Select name columns w) rise answered = record { leaves = append-nil tables; answers = λ no. cc }
does_by_changes tables (Update name sets w) rise answered =
    let done = done_in tables (update sets w) (λ place table. changes_in place (Update name sets w) table.rows)
    (λ place table is ok. made_update sets w name tables place table is (rising_get tables place table rise is)
    (not_large (list_any (outgrows table.schema sets w) (values_of table.rows)) _ _ refl ok)) (place_of tables name) answered in
    record { leaves = none_added tables (changes_of tables (Update name sets w)) _ done.0; answers = λ _. done.1 }
does_by_changes tables (Delete name w) rise answered =
    let done = done_in tables (delete w) (λ place table. changes_in place (Delete name w) table.rows)
    (λ place table is ok. made_delete w name tables place table is (rising_get tables place table rise is)) (place_of tables name) answered in
    record { leaves = none_added tables (changes_of tables (Delete name w)) _ done.0; answers = λ _. done.1 }
does_by_changes tables Begin rise answered = record { leaves = append-nil tables; answers = λ no. cc }
does_by_changes tables Commit rise answered = record { leaves = append-nil tables; answers = λ no. cc }
does_by_changes tables Rollback rise answered = record { leaves = append-nil tables; answers = λ no. cc }
does_by_changes tables (Refused refusal) rise answered = cc

-- a refusal leaves the tables
module _ (tables : List Table) (change : Table → Change) (each : (table : Table) → is_refusal (change table).reply ≡ true → (change table).table ≡ table) where
  leaves_found : (place : ℕ) (found : Option Table) → slice_get tables place ≡ found → is_refusal (changed_at tables place change found).reply ≡ true →
      (changed_at tables place change found).tables ≡ tables
  leaves_found place None is refused = refl
  leaves_found place (Some table) is refused = ap (slice_set tables place) (each table refused) ∙ set_get tables place table is

  leaves_in : (place : Option ℕ) → is_refusal (changed_in tables place change).reply ≡ true → (changed_in tables place change).tables ≡ tables
  leaves_in None refused = refl
  leaves_in (Some place) refused = leaves_found place (slice_get tables place) refl refused

insert_leaves : (rows : List Row) (table : Table) (found : Option ℤ) → is_refusal (insert_or rows table found).reply ≡ true → (insert_or rows table found).table ≡ table
insert_leaves rows table None refused = cc
insert_leaves rows table (Some key) refused = refl

update_leaves : (b : Bool) (first other : Change) (table : Table) → first.table ≡ table → is_refusal other.reply ≡ false →
    is_refusal (cond b first other).reply ≡ true → (cond b first other).table ≡ table
update_leaves true first other table is counts refused = is
update_leaves false first other table is counts refused = cc

pub refused_leaves : RefusedLeaves
refused_leaves tables (Create name schema) refused = cc
refused_leaves tables (Insert name rows) refused =
    leaves_in tables (insert rows) (λ table no. insert_leaves rows table (first_duplicate table.rows rows) no) (place_of tables name) refused
refused_leaves tables (Select name columns w) refused = refl
refused_leaves tables (Update name sets w) refused =
    leaves_in tables (update sets w) (λ table no. update_leaves (list_any (outgrows table.schema sets w) (values_of table.rows)) _ _ table refl refl no) (place_of tables name) refused
refused_leaves tables (Delete name w) refused = leaves_in tables (delete w) (λ table no. cc) (place_of tables name) refused
refused_leaves tables Begin refused = refl
refused_leaves tables Commit refused = refl
refused_leaves tables Rollback refused = refl
refused_leaves tables (Refused refusal) refused = refl

-- keys go on rising
module _ (tables : List Table) (change : Table → Change) (each : (table : Table) → AreRising table.rows → AreRising (change table).table.rows) (rise : AreRisingTables tables) where
  rise_found : (place : ℕ) (found : Option Table) → slice_get tables place ≡ found → AreRisingTables (changed_at tables place change found).tables
  rise_found place None is = rise
  rise_found place (Some table) is = rising_set tables place (change table).table rise (each table (rising_get tables place table rise is))

  rise_in : (place : Option ℕ) → AreRisingTables (changed_in tables place change).tables
  rise_in None = rise
  rise_in (Some place) = rise_found place (slice_get tables place) refl

insert_rises : (rows : List Row) (table : Table) (found : Option ℤ) → AreRising table.rows → AreRising (insert_or rows table found).table.rows
insert_rises rows table None rises = (rows_with_rows table.rows rows rises).rises
insert_rises rows table (Some key) rises = rises

update_rises : (b : Bool) (first other : Change) → AreRising first.table.rows → AreRising other.table.rows → AreRising (cond b first other).table.rows
update_rises true first other rises others_rise = rises
update_rises false first other rises others_rise = others_rise

pub keys_rise : KeysRise
keys_rise tables (Create name schema) rise = rising_more tables (record { name = name; schema = schema; rows = [] }) rise no_rows
keys_rise tables (Insert name rows) rise = rise_in tables (insert rows) (λ table. insert_rises rows table (first_duplicate table.rows rows)) rise (place_of tables name)
keys_rise tables (Select name columns w) rise = rise
keys_rise tables (Update name sets w) rise =
    rise_in tables (update sets w) (λ table rises. update_rises (list_any (outgrows table.schema sets w) (values_of table.rows)) _ _ rises
    (rows_mapped table.rows (updated sets w) rises).rises) rise (place_of tables name)
keys_rise tables (Delete name w) rise = rise_in tables (delete w) (λ table rises. (rows_kept table.rows (holds w) rises).rises) rise (place_of tables name)
keys_rise tables Begin rise = rise
keys_rise tables Commit rise = rise
keys_rise tables Rollback rise = rise
keys_rise tables (Refused refusal) rise = rise
