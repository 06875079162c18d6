-- One table: what a statement on its rows answers and leaves depends on the rows of which its condition holds.
use Rattle.std.proofs.Common.{◌≡◌, ◌⊎◌, ◌∙◌, inl, inr, refl, sym, ap, subst, ℕ, ℤ, Bool, true, false, not, cond, ◌&&◌, ◌||◌, Option, Some, None, List, [], ◌∷◌, length, map, is_some}
use Rattle.std.specs.Prelude.{filter, nat_lt, MatchBool}
use Rattle.std.specs.List.{list_any}
use Rattle.std.specs.Map.{keys_of, values_of}
use Rattle.std.specs.BTreeMap.{is_at}
use Rattle.std.specs.Ordering.{int_cmp, int_eq}
use Rattle.std.specs.Cmp.{int_cmp_total, signed_Decides}
use Rattle.std.specs.Option.{option_map}
use Rattle.std.proofs.lemmas.Bool.{false≢true}
use Rattle.std.proofs.lemmas.Cmp.{eq_by_cmp_equiv}
use Rattle.std.proofs.lemmas.Map.Entries.{lookup-filter-values, option_filter}
use Rattle.std.proofs.lemmas.Map.Keys.{IsDistinct-from_sorted}
use Rattle.isp_plain.specs.declared.value.Row.{Row}
use Rattle.isp_plain.specs.declared.statement.Assign.{Assign}
use Rattle.isp_plain.specs.declared.statement.Condition.{Condition}
use Rattle.isp_plain.specs.Conditions.{holds}
use Rattle.isp_plain.specs.Does.{count_of, outgrows, updated, with_sets}
use Rattle.isp_plain.specs.Entries.{first_duplicate, has_key, with_row, with_rows}
use Rattle.isp_plain.specs.RowBytes.{row_bytes, row_limit}
use Rattle.isp_plain.specs.Values.{key_of}
use Rattle.isp_changes.specs.Rows.{AreRising, row_at, unless}
use Rattle.isp_changes.proofs.RowProofs.{rises_kept, rows_kept, rows_mapped, rows_with_new, same_rows}
use Rattle.isp_locality.specs.Apart.{AgreeRows, AreOutside, Keys, RowsStay}

-- ---- the rows of which a test is true

abbrev pub passing : (Row → Bool) → List (ℤ × Row) → List (ℤ × Row)
passing test rows = filter (λ e. test e.1) rows

pub at_passing : (test : Row → Bool) (rows : List (ℤ × Row)) → AreRising rows → (key : ℤ) → row_at (passing test rows) key ≡ option_filter test (row_at rows key)
at_passing test rows rises key = lookup-filter-values (eq_by_cmp_equiv int_cmp_total) test key rows (IsDistinct-from_sorted int_cmp (keys_of rows) rises)

some_is : {X : Type 0} (x y : X) → Some x ≡ Some y → x ≡ y
some_is x y h = cc

some_none : {X : Type 0} (x : X) → Some x ≡ None → ⊥
some_none x h = cc

-- no row of the set passes
abbrev pub NonePass : Keys → (Row → Bool) → List (ℤ × Row) → Type 0
NonePass apart test rows = (key : ℤ) (row : Row) → apart key ≡ true → row_at rows key ≡ Some row → test row ≡ false

none_left : (apart : Keys) (test : Row → Bool) (rows : List (ℤ × Row)) → NonePass apart test rows → (key : ℤ) → apart key ≡ true → option_filter test (row_at rows key) ≡ None
none_left apart test rows none key h = by_row (row_at rows key) refl
  where
    by_row : (r : Option Row) → row_at rows key ≡ r → option_filter test r ≡ None
    by_row None e = refl
    by_row (Some row) e = ap (λ b. cond b (Some row) None) (none key row h e)

pub same_passing : (apart : Keys) (test : Row → Bool) (rows others : List (ℤ × Row)) → AgreeRows apart rows others → NonePass apart test rows → NonePass apart test others
    → passing test rows ≡ passing test others
same_passing apart test rows others agree none other_none =
    same_rows (passing test rows) (passing test others) (rises_kept (λ e. test e.1) rows agree.rises) (rises_kept (λ e. test e.1) others agree.others_rise)
    (λ key. at_passing test rows agree.rises key ∙ by_set key (apart key) refl ∙ sym (at_passing test others agree.others_rise key))
  where
    by_set : (key : ℤ) (b : Bool) → apart key ≡ b → option_filter test (row_at rows key) ≡ option_filter test (row_at others key)
    by_set key false e = ap (option_filter test) (agree.each key e)
    by_set key true e = none_left apart test rows none key e ∙ sym (none_left apart test others other_none key e)

pub values_passing : (test : Row → Bool) (rows : List (ℤ × Row)) → filter test (values_of rows) ≡ values_of (passing test rows)
values_passing test [] = refl
values_passing test (e ∷ rows) = by_test (test e.1) (values_passing test rows)
  where
    by_test : (b : Bool) → filter test (values_of rows) ≡ values_of (passing test rows)
        → cond b (e.1 ∷ filter test (values_of rows)) (filter test (values_of rows)) ≡ values_of (cond b (e ∷ passing test rows) (passing test rows))
    by_test true h = ap (λ xs. e.1 ∷ xs) h
    by_test false h = h

pub same_values : (apart : Keys) (test : Row → Bool) (rows others : List (ℤ × Row)) → AgreeRows apart rows others → NonePass apart test rows → NonePass apart test others
    → filter test (values_of rows) ≡ filter test (values_of others)
same_values apart test rows others agree none other_none =
    values_passing test rows ∙ ap values_of (same_passing apart test rows others agree none other_none) ∙ sym (values_passing test others)

-- some row passes two tests where some row that passes the one passes the other
pub any_both : (one two : Row → Bool) (rows : List Row) → list_any (λ row. one row && two row) rows ≡ list_any two (filter one rows)
any_both one two [] = refl
any_both one two (row ∷ rows) = by_test (one row) (any_both one two rows)
  where
    by_test : (b : Bool) → list_any (λ r. one r && two r) rows ≡ list_any two (filter one rows)
        → ((b && two row) || list_any (λ r. one r && two r) rows) ≡ list_any two (cond b (row ∷ filter one rows) (filter one rows))
    by_test true h = ap (λ b. two row || b) h
    by_test false h = h

pub any_at : (test : Row → Bool) (rows : List (ℤ × Row)) (key : ℤ) (row : Row) → row_at rows key ≡ Some row → test row ≡ true → list_any test (values_of rows) ≡ true
any_at test [] key row h is = absurd (some_none row (sym h))
any_at test (e ∷ rows) key row h is = by_key (is_at (int_cmp key) e.0) (λ k. any_at test rows key row k is) h
  where
    or_true : (b : Bool) → (b || true) ≡ true
    or_true true = refl
    or_true false = refl

    by_key : (b : Bool) → (row_at rows key ≡ Some row → list_any test (values_of rows) ≡ true) → cond b (Some e.1) (row_at rows key) ≡ Some row
        → (test e.1 || list_any test (values_of rows)) ≡ true
    by_key true again k = ap (λ b. b || list_any test (values_of rows)) (ap test (some_is e.1 row k) ∙ is)
    by_key false again k = ap (λ b. test e.1 || b) (again k) ∙ or_true (test e.1)

-- ---- UPDATE and DELETE

module _ (apart : Keys) (w : Condition) (rows others : List (ℤ × Row)) (agree : AgreeRows apart rows others)
    (none : NonePass apart (holds w) rows) (other_none : NonePass apart (holds w) others) where
  pub same_count : count_of w (values_of rows) ≡ count_of w (values_of others)
  same_count = ap length (same_values apart (holds w) rows others agree none other_none)

  updated_stays : (sets : List Assign) (xs : List (ℤ × Row)) → NonePass apart (holds w) xs → (key : ℤ) → apart key ≡ true → option_map (updated sets w) (row_at xs key) ≡ row_at xs key
  updated_stays sets xs none_of key h = by_row (row_at xs key) refl
    where
      by_row : (r : Option Row) → row_at xs key ≡ r → option_map (updated sets w) r ≡ r
      by_row None e = refl
      by_row (Some row) e = ap (λ b. Some (cond b (with_sets sets row) row)) (none_of key row h e)

  left_stays : (xs : List (ℤ × Row)) → NonePass apart (holds w) xs → (key : ℤ) → apart key ≡ true → unless (holds w) (row_at xs key) ≡ row_at xs key
  left_stays xs none_of key h = by_row (row_at xs key) refl
    where
      by_row : (r : Option Row) → row_at xs key ≡ r → unless (holds w) r ≡ r
      by_row None e = refl
      by_row (Some row) e = ap (λ b. cond b None (Some row)) (none_of key row h e)

  pub update_agrees : (sets : List Assign) → AgreeRows apart (map (λ e. (e.0, updated sets w e.1)) rows) (map (λ e. (e.0, updated sets w e.1)) others)
  update_agrees sets =
      let a = rows_mapped rows (updated sets w) agree.rises in
      let b = rows_mapped others (updated sets w) agree.others_rise in
      record { rises = a.rises; others_rise = b.rises; each = λ key h. a.each key ∙ ap (option_map (updated sets w)) (agree.each key h) ∙ sym (b.each key) }

  pub update_stays : (sets : List Assign) → RowsStay apart rows (map (λ e. (e.0, updated sets w e.1)) rows)
  update_stays sets key h = (rows_mapped rows (updated sets w) agree.rises).each key ∙ updated_stays sets rows none key h

  pub update_others : (sets : List Assign) → RowsStay apart others (map (λ e. (e.0, updated sets w e.1)) others)
  update_others sets key h = (rows_mapped others (updated sets w) agree.others_rise).each key ∙ updated_stays sets others other_none key h

  pub delete_agrees : AgreeRows apart (filter (λ e. not (holds w e.1)) rows) (filter (λ e. not (holds w e.1)) others)
  delete_agrees =
      let a = rows_kept rows (holds w) agree.rises in
      let b = rows_kept others (holds w) agree.others_rise in
      record { rises = a.rises; others_rise = b.rises; each = λ key h. a.each key ∙ ap (unless (holds w)) (agree.each key h) ∙ sym (b.each key) }

  pub delete_stays : RowsStay apart rows (filter (λ e. not (holds w e.1)) rows)
  delete_stays key h = (rows_kept rows (holds w) agree.rises).each key ∙ left_stays rows none key h

  pub delete_others : RowsStay apart others (filter (λ e. not (holds w e.1)) others)
  delete_others key h = (rows_kept others (holds w) agree.others_rise).each key ∙ left_stays others other_none key h

-- ---- INSERT

key_is : (a b : ℤ) → int_eq a b ≡ true → a ≡ b
key_is a b h = (signed_Decides a b).0 h

-- a row put outside of the set
pub put_agrees : (apart : Keys) (rows others : List (ℤ × Row)) (row : Row) → AgreeRows apart rows others
    → AgreeRows apart (with_row rows (key_of row) row) (with_row others (key_of row) row)
put_agrees apart rows others row agree =
    let a = rows_with_new rows (key_of row) (Some row) agree.rises in
    let b = rows_with_new others (key_of row) (Some row) agree.others_rise in
    record { rises = a.rises; others_rise = b.rises; each = λ key h. a.each key ∙ ap (λ r. cond (int_eq key (key_of row)) (Some row) r) (agree.each key h) ∙ sym (b.each key) }

put_stays : (apart : Keys) (rows : List (ℤ × Row)) (row : Row) → AreRising rows → apart (key_of row) ≡ false → RowsStay apart rows (with_row rows (key_of row) row)
put_stays apart rows row rises out key h = (rows_with_new rows (key_of row) (Some row) rises).each key ∙ by_key (int_eq key (key_of row)) refl
  where
    by_key : (b : Bool) → int_eq key (key_of row) ≡ b → cond b (Some row) (row_at rows key) ≡ row_at rows key
    by_key true e = absurd (false≢true (sym out ∙ ap apart (sym (key_is key (key_of row) e)) ∙ h))
    by_key false e = refl

pub record Inserts (apart : Keys) (rows others : List (ℤ × Row)) (more : List Row) : Type 0 where
  pub agree : AgreeRows apart (with_rows rows more) (with_rows others more)
  pub stay : RowsStay apart rows (with_rows rows more)
  pub others_stay : RowsStay apart others (with_rows others more)

pub record IsInserted (apart : Keys) (rows others : List (ℤ × Row)) (more : List Row) : Type 0 where
  pub same : first_duplicate rows more ≡ first_duplicate others more
  pub inserts : first_duplicate rows more ≡ None → Inserts apart rows others more

pub inserted : (apart : Keys) (rows others : List (ℤ × Row)) (more : List Row) → AgreeRows apart rows others → AreOutside apart rows more → IsInserted apart rows others more
inserted apart rows others [] agree outside = record {
  same = refl;
  inserts = λ h. record { agree = agree; stay = λ key k. refl; others_stay = λ key k. refl };
}
inserted apart rows others (row ∷ more) agree outside =
    by_there (has_key rows (key_of row)) refl (inserted apart (with_row rows (key_of row) row) (with_row others (key_of row) row) more (put_agrees apart rows others row agree)) outside.1
  where
    first : has_key others (key_of row) ≡ has_key rows (key_of row)
    first = ap is_some (sym (agree.each (key_of row) outside.0))

    here : (b : Bool) → has_key rows (key_of row) ≡ b → first_duplicate others (row ∷ more) ≡ cond b (Some (key_of row)) (first_duplicate (with_row others (key_of row) row) more)
    here b e = ap (λ x. cond x (Some (key_of row)) (first_duplicate (with_row others (key_of row) row) more)) (first ∙ e)

    own : (b : Bool) → has_key rows (key_of row) ≡ b → first_duplicate rows (row ∷ more) ≡ cond b (Some (key_of row)) (first_duplicate (with_row rows (key_of row) row) more)
    own b e = ap (λ x. cond x (Some (key_of row)) (first_duplicate (with_row rows (key_of row) row) more)) e

    by_there : (b : Bool) → has_key rows (key_of row) ≡ b
        → (AreOutside apart (with_row rows (key_of row) row) more → IsInserted apart (with_row rows (key_of row) row) (with_row others (key_of row) row) more)
        → MatchBool b (Unit {0}) (AreOutside apart (with_row rows (key_of row) row) more) → IsInserted apart rows others (row ∷ more)
    by_there true e again out = record {
      same = own true e ∙ sym (here true e);
      inserts = λ h. absurd (some_none (key_of row) (sym (own true e) ∙ h));
    }
    by_there false e again out =
        let i = again out in
        record {
          same = own false e ∙ i.same ∙ sym (here false e);
          inserts = λ h. (let j = i.inserts (sym (own false e) ∙ h) in record {
            agree = j.agree;
            stay = λ key k. j.stay key k ∙ put_stays apart rows row agree.rises outside.0 key k;
            others_stay = λ key k. j.others_stay key k ∙ put_stays apart others row agree.others_rise outside.0 key k;
          });
        }
