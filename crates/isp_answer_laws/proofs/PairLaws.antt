-- What was read, as rows by key; and rows that INSERT adds.
use Rattle.std.proofs.Common.{◌≡◌, ◌⊎◌, ◌∙◌, inl, inr, refl, sym, ap, subst, ℕ, suc, ℤ, Bool, true, false, not, cond, ◌&&◌, ◌||◌, Option, Some, None, List, [], ◌∷◌, ◌++◌, length, map, is_some}
use Rattle.std.specs.Prelude.{filter, filter_map, int_lt}
use Rattle.std.specs.List.{cons_option, list_any}
use Rattle.std.specs.Map.{values_of}
use Rattle.std.specs.BTreeMap.{is_at}
use Rattle.std.specs.Option.{option_or}
use Rattle.std.specs.Ordering.{int_cmp, int_eq}
use Rattle.std.specs.declared.cmp.Ordering.TheVariants.{Less, Equal, Greater}
use Rattle.std.proofs.lemmas.Bool.{false≢true}
use Rattle.std.proofs.lemmas.Map.Entries.{option_filter}
use Rattle.isp_base.specs.Lists.{Has}
use Rattle.isp_laws.proofs.ListLaws.{Has-map_of}
use Rattle.isp_plain.specs.declared.statement.Assign.{Assign}
use Rattle.isp_plain.specs.declared.statement.Condition.{Condition}
use Rattle.isp_plain.specs.declared.statement.Statement.{Statement}
use Rattle.isp_plain.specs.declared.statement.Statement.TheVariants.{Update, Delete}
use Rattle.isp_plain.specs.declared.value.Row.{Row}
use Rattle.isp_plain.specs.Conditions.{holds}
use Rattle.isp_plain.specs.Does.{with_sets}
use Rattle.isp_plain.specs.Entries.{first_duplicate, has_key, with_row}
use Rattle.isp_plain.specs.Values.{key_of}
use Rattle.isp_changes.specs.Rows.{AreRising, last_with, row_at}
use Rattle.isp_changes.specs.Changes.{is_held}
use Rattle.isp_changes.proofs.RowProofs.{Above, absent, no_rows, rising_first, rises_kept, rows_with_new, same_at, same_key, same_rows}
use Rattle.isp_events.specs.Stored.{row_with_key}
use Rattle.isp_events.specs.Sessions.{Change, adding, change_of, changes_of}
use Rattle.isp_events.specs.Next.{rows_read}
use Rattle.isp_events.specs.Writing.{ascend}
use Rattle.isp_order.specs.Work.{AreApart}
use Rattle.isp_order.proofs.RowLaws.{ascend_rest, first_least, key_is, key_same, lt_apart}
use Rattle.isp_locality.proofs.RowLocal.{any_both, at_passing, passing, values_passing}

some_is : {X : Type 0} (x y : X) → Some x ≡ Some y → x ≡ y
some_is x y h = cc

none_some : {X : Type 0} (x : X) → None ≡ Some x → ⊥
none_some x h = cc

less_of : (a b : ℤ) → int_lt a b ≡ true → int_cmp a b ≡ Less
less_of a b h = ap (λ t. cond t Less (cond (int_lt b a) Greater Equal)) h

-- ---- what was read

abbrev pub pairs_of : List (ℤ × Option Row) → List (ℤ × Row)
pairs_of read = filter_map (λ r. row_with_key r.0 r.1) read

abbrev keys_read : List (ℤ × Option Row) → List ℤ
keys_read read = map (λ r. r.0) read

values_pairs : (read : List (ℤ × Option Row)) → values_of (pairs_of read) ≡ rows_read read
values_pairs [] = refl
values_pairs (r ∷ read) = by_row r.1 (values_pairs read)
  where
    by_row : (o : Option Row) → values_of (pairs_of read) ≡ rows_read read → values_of (cons_option (row_with_key r.0 o) (pairs_of read)) ≡ cons_option o (rows_read read)
    by_row None again = again
    by_row (Some row) again = ap (λ xs. row ∷ xs) again

above_pairs : (first : ℤ) (read : List (ℤ × Option Row)) → ((k : ℤ) → Has (keys_read read) k → int_lt first k ≡ true) → Above first (pairs_of read)
above_pairs first [] h = tt
above_pairs first (r ∷ read) h = by_row r.1 (above_pairs first read (λ k i. h k (inr i)))
  where
    by_row : (o : Option Row) → Above first (pairs_of read) → Above first (cons_option (row_with_key r.0 o) (pairs_of read))
    by_row None later = later
    by_row (Some row) later = (less_of first r.0 (h r.0 (inl refl)), later)

pairs_rise : (read : List (ℤ × Option Row)) → ascend (keys_read read) ≡ true → AreRising (pairs_of read)
pairs_rise [] h = no_rows
pairs_rise (r ∷ read) h = by_row r.1 (pairs_rise read (ascend_rest r.0 (keys_read read) h))
  where
    by_row : (o : Option Row) → AreRising (pairs_of read) → AreRising (cons_option (row_with_key r.0 o) (pairs_of read))
    by_row None later = later
    by_row (Some row) later = rising_first (r.0, row) (pairs_of read) (above_pairs r.0 read (λ k i. first_least r.0 (keys_read read) k h i)) later

key_read : (read : List (ℤ × Option Row)) (key : ℤ) (row : Option Row) → Has {X = ℤ × Option Row} read (key, row) → Has (keys_read read) key
key_read [] key row h = absurd h
key_read (r ∷ read) key row (inl is) = inl (ap (λ p. p.0) is)
key_read (r ∷ read) key row (inr h) = inr (key_read read key row h)

-- what was read of a key stands there, and what stands there was read
pair_at : (read : List (ℤ × Option Row)) (key : ℤ) (row : Row) → row_at (pairs_of read) key ≡ Some row → Has {X = ℤ × Option Row} read (key, Some row)
pair_at [] key row h = absurd (none_some row h)
pair_at (r ∷ read) key row h = by_row r.1 refl (pair_at read key row) h
  where
    pair_is : (a b : ℤ) (c d : Option Row) → a ≡ b → c ≡ d → ◌≡◌ {A = ℤ × Option Row} (a, c) (b, d)
    pair_is a b c d p q i = (p i, q i)

    by_row : (o : Option Row) → r.1 ≡ o → (row_at (pairs_of read) key ≡ Some row → Has {X = ℤ × Option Row} read (key, Some row))
        → row_at (cons_option (row_with_key r.0 o) (pairs_of read)) key ≡ Some row → Has {X = ℤ × Option Row} (r ∷ read) (key, Some row)
    by_row None e again k = inr (again k)
    by_row (Some x) e again k = by_key (is_at (int_cmp key) r.0) refl k
      where
        by_key : (b : Bool) → is_at (int_cmp key) r.0 ≡ b → cond b (Some x) (row_at (pairs_of read) key) ≡ Some row → Has {X = ℤ × Option Row} (r ∷ read) (key, Some row)
        by_key true i l = inl (pair_is r.0 key r.1 (Some row) (sym (same_key key r.0 i)) (e ∙ l))
        by_key false i l = inr (again l)

at_pair : (read : List (ℤ × Option Row)) (key : ℤ) (row : Row) → ascend (keys_read read) ≡ true → Has {X = ℤ × Option Row} read (key, Some row) → row_at (pairs_of read) key ≡ Some row
at_pair [] key row up h = absurd h
at_pair (r ∷ read) key row up (inl is) =
    ap (λ o. row_at (cons_option (row_with_key r.0 o) (pairs_of read)) key) (ap (λ p. p.1) is)
    ∙ ap (λ b. cond b (Some row) (row_at (pairs_of read) key)) (ap (λ k. is_at (int_cmp key) k) (ap (λ p. p.0) is) ∙ same_at key)
at_pair (r ∷ read) key row up (inr h) = by_row r.1 (at_pair read key row (ascend_rest r.0 (keys_read read) up) h)
  where
    apart : (b : Bool) → is_at (int_cmp key) r.0 ≡ b → b ≡ false
    apart true e =
        let same : key ≡ r.0 = same_key key r.0 e in
        absurd (lt_apart r.0 key (first_least r.0 (keys_read read) key up (key_read read key (Some row) h)) (sym same))
    apart false e = refl

    by_row : (o : Option Row) → row_at (pairs_of read) key ≡ Some row → row_at (cons_option (row_with_key r.0 o) (pairs_of read)) key ≡ Some row
    by_row None again = again
    by_row (Some x) again = ap (λ b. cond b (Some x) (row_at (pairs_of read) key)) (apart (is_at (int_cmp key) r.0) refl) ∙ again

-- where what was read is what stands, and all that passes was read, the rows that pass are the same
pub read_passes : (test : Row → Bool) (read : List (ℤ × Option Row)) (rows : List (ℤ × Row)) → ascend (keys_read read) ≡ true → AreRising rows
    → ((key : ℤ) (row : Option Row) → Has {X = ℤ × Option Row} read (key, row) → row_at rows key ≡ row)
    → ((key : ℤ) (row : Row) → row_at rows key ≡ Some row → test row ≡ true → Has {X = ℤ × Option Row} read (key, Some row))
    → filter test (rows_read read) ≡ filter test (values_of rows)
read_passes test read rows up rises stands all =
    ap (filter test) (sym (values_pairs read)) ∙ values_passing test (pairs_of read)
    ∙ ap values_of (same_rows (passing test (pairs_of read)) (passing test rows) (rises_kept (λ e. test e.1) (pairs_of read) (pairs_rise read up)) (rises_kept (λ e. test e.1) rows rises)
    (λ key. at_passing test (pairs_of read) (pairs_rise read up) key ∙ by_rows key (row_at (pairs_of read) key) (row_at rows key) refl refl ∙ sym (at_passing test rows rises key)))
    ∙ sym (values_passing test rows)
  where
    by_rows : (key : ℤ) (a b : Option Row) → row_at (pairs_of read) key ≡ a → row_at rows key ≡ b → option_filter test a ≡ option_filter test b
    by_rows key None None e f = refl
    by_rows key (Some x) b e f = ap (option_filter test) (sym (stands key (Some x) (pair_at read key x e)) ∙ f)
    by_rows key None (Some y) e f = by_test (test y) refl
      where
        by_test : (t : Bool) → test y ≡ t → None ≡ cond t (Some y) None
        by_test true g = absurd (none_some y (sym e ∙ at_pair read key y up (all key y f g)))
        by_test false g = refl

-- changes of UPDATE and DELETE are as many as the rows read that hold
pub count_update : (name : List ℕ) (sets : List Assign) (w : Condition) (read : List (ℤ × Option Row)) → length (changes_of (Update name sets w) read) ≡ length (filter (holds w) (rows_read read))
count_update name sets w [] = refl
count_update name sets w (r ∷ read) = by_row r.1 (count_update name sets w read)
  where
    by_row : (o : Option Row) → length (changes_of (Update name sets w) read) ≡ length (filter (holds w) (rows_read read))
        → length (cons_option (change_of (Update name sets w) r.0 o) (changes_of (Update name sets w) read)) ≡ length (filter (holds w) (cons_option o (rows_read read)))
    by_row None again = again
    by_row (Some row) again = by_test (holds w row)
      where
        by_test : (b : Bool)
            → length (cons_option (cond b (Some (record { key = r.0; old = Some row; new = Some (with_sets sets row) })) None) (changes_of (Update name sets w) read))
            ≡ length (cond b (row ∷ filter (holds w) (rows_read read)) (filter (holds w) (rows_read read)))
        by_test true = ap suc again
        by_test false = again

pub count_delete : (name : List ℕ) (w : Condition) (read : List (ℤ × Option Row)) → length (changes_of (Delete name w) read) ≡ length (filter (holds w) (rows_read read))
count_delete name w [] = refl
count_delete name w (r ∷ read) = by_row r.1 (count_delete name w read)
  where
    by_row : (o : Option Row) → length (changes_of (Delete name w) read) ≡ length (filter (holds w) (rows_read read))
        → length (cons_option (change_of (Delete name w) r.0 o) (changes_of (Delete name w) read)) ≡ length (filter (holds w) (cons_option o (rows_read read)))
    by_row None again = again
    by_row (Some row) again = by_test (holds w row)
      where
        by_test : (b : Bool)
            → length (cons_option (cond b (Some (record { key = r.0; old = Some row; new = None })) None) (changes_of (Delete name w) read))
            ≡ length (cond b (row ∷ filter (holds w) (rows_read read)) (filter (holds w) (rows_read read)))
        by_test true = ap suc again
        by_test false = again

-- no row that was read passes, where each doesn't
pub none_read : (test : Row → Bool) (read : List (ℤ × Option Row)) → ((key : ℤ) (row : Row) → Has {X = ℤ × Option Row} read (key, Some row) → test row ≡ false) → list_any test (rows_read read) ≡ false
none_read test [] h = refl
none_read test (r ∷ read) h = by_row r.1 refl (none_read test read (λ key row k. h key row (inr k)))
  where
    pair_is : (a : ℤ) (c d : Option Row) → c ≡ d → ◌≡◌ {A = ℤ × Option Row} (a, c) (a, d)
    pair_is a c d q i = (a, q i)

    by_row : (o : Option Row) → r.1 ≡ o → list_any test (rows_read read) ≡ false → list_any test (cons_option o (rows_read read)) ≡ false
    by_row None e again = again
    by_row (Some row) e again = ap (λ b. b || list_any test (rows_read read)) (h r.0 row (inl (pair_is r.0 r.1 (Some row) e))) ∙ again

-- ---- rows that INSERT adds

last_found : (rows : List Row) (key : ℤ) (row : Row) → last_with rows key ≡ Some row → Has rows row × (key_of row ≡ key)
last_found [] key row h = absurd (none_some row h)
last_found (x ∷ rows) key row h = by_later (last_with rows key) refl (last_found rows key row) h
  where
    by_later : (o : Option Row) → last_with rows key ≡ o → (last_with rows key ≡ Some row → Has rows row × (key_of row ≡ key))
        → option_or o (cond (int_eq key (key_of x)) (Some x) None) ≡ Some row → Has (x ∷ rows) row × (key_of row ≡ key)
    by_later (Some y) e again k = (let r = again (e ∙ k) in (inr r.0, r.1))
    by_later None e again k = by_key (int_eq key (key_of x)) refl k
      where
        by_key : (b : Bool) → int_eq key (key_of x) ≡ b → cond b (Some x) None ≡ Some row → Has (x ∷ rows) row × (key_of row ≡ key)
        by_key true i l = (inl (some_is x row l), ap key_of (sym (some_is x row l)) ∙ sym (key_is key (key_of x) i))
        by_key false i l = absurd (none_some row l)

pub last_is : (rows : List Row) (key : ℤ) (row : Row) → last_with rows key ≡ Some row → Has rows row × (key_of row ≡ key)
last_is rows key row h = last_found rows key row h

pub last_none : (rows : List Row) (key : ℤ) → last_with rows key ≡ None → Has (map key_of rows) key → ⊥
last_none [] key h has = has
last_none (x ∷ rows) key h has = by_later (last_with rows key) refl (last_none rows key) h has
  where
    by_later : (o : Option Row) → last_with rows key ≡ o → (last_with rows key ≡ None → Has (map key_of rows) key → ⊥)
        → option_or o (cond (int_eq key (key_of x)) (Some x) None) ≡ None → Has (map key_of (x ∷ rows)) key → ⊥
    by_later (Some y) e again k i = none_some y (sym k)
    by_later None e again k (inr i) = again e i
    by_later None e again k (inl i) =
        let same : int_eq key (key_of x) ≡ true = subst (λ z. int_eq key z ≡ true) (sym i) (key_same key) in
        none_some x (sym k ∙ ap (λ b. cond b (Some x) None) same)

-- a row was put, and stands at its key alone
put_elsewhere : (entries : List (ℤ × Row)) (row : Row) (key : ℤ) → AreRising entries → (key ≡ key_of row → ⊥) → row_at (with_row entries (key_of row) row) key ≡ row_at entries key
put_elsewhere entries row key rises ne = (rows_with_new entries (key_of row) (Some row) rises).each key ∙ by_key (int_eq key (key_of row)) refl
  where
    by_key : (b : Bool) → int_eq key (key_of row) ≡ b → cond b (Some row) (row_at entries key) ≡ row_at entries key
    by_key true e = absurd (ne (key_is key (key_of row) e))
    by_key false e = refl

put_here : (entries : List (ℤ × Row)) (row : Row) → AreRising entries → row_at (with_row entries (key_of row) row) (key_of row) ≡ Some row
put_here entries row rises =
    (rows_with_new entries (key_of row) (Some row) rises).each (key_of row) ∙ ap (λ b. cond b (Some row) (row_at entries (key_of row))) (key_same (key_of row))

pub put_rises : (entries : List (ℤ × Row)) (row : Row) → AreRising entries → AreRising (with_row entries (key_of row) row)
put_rises entries row rises = (rows_with_new entries (key_of row) (Some row) rises).rises

-- keys that differ and are absent make no duplicate
pub no_duplicate : (entries : List (ℤ × Row)) (rows : List Row) → AreRising entries → AreApart (map key_of rows) → ((row : Row) → Has rows row → row_at entries (key_of row) ≡ None)
    → first_duplicate entries rows ≡ None
no_duplicate entries [] rises apart absent = refl
no_duplicate entries (row ∷ rows) rises apart absent =
    ap (λ o. cond (is_some o) (Some (key_of row)) (first_duplicate (with_row entries (key_of row) row) rows)) (absent row (inl refl))
    ∙ no_duplicate (with_row entries (key_of row) row) rows (put_rises entries row rises) apart.1
    (λ other has. put_elsewhere entries row (key_of other) rises (λ same. apart.0 (subst (λ k. Has (map key_of rows) k) same (Has-map_of key_of rows other has))) ∙ absent other (inr has))

-- a key that was there, or that one of the rows has, is there or one of the later rows has it, once the first is put
pub there_later : (entries : List (ℤ × Row)) (first : Row) (earlier : List Row) (row : Row) → AreRising entries
    → (row_at entries (key_of row) ≡ None → ⊥) ⊎ Has (map key_of (first ∷ earlier)) (key_of row)
    → (row_at (with_row entries (key_of first) first) (key_of row) ≡ None → ⊥) ⊎ Has (map key_of earlier) (key_of row)
there_later entries first earlier row rises (inr (inr h)) = inr h
there_later entries first earlier row rises (inr (inl same)) =
    inl (λ none. none_some first (sym none ∙ ap (row_at (with_row entries (key_of first) first)) (sym same) ∙ put_here entries first rises))
there_later entries first earlier row rises (inl ne) = by_key (int_eq (key_of row) (key_of first)) refl
  where
    by_key : (b : Bool) → int_eq (key_of row) (key_of first) ≡ b
        → (row_at (with_row entries (key_of first) first) (key_of row) ≡ None → ⊥) ⊎ Has (map key_of earlier) (key_of row)
    by_key true e =
        let same : key_of row ≡ key_of first = key_is (key_of row) (key_of first) e in
        inl (λ none. none_some first (sym none ∙ ap (row_at (with_row entries (key_of first) first)) same ∙ put_here entries first rises))
    by_key false e =
        inl (λ none. ne (sym (put_elsewhere entries first (key_of row) rises (λ same. false≢true (sym e ∙ subst (λ k. int_eq (key_of row) k ≡ true) same (key_same (key_of row))))) ∙ none))

-- behind such rows one with a key that is there, or that one of them has
pub duplicate_found : (entries : List (ℤ × Row)) (earlier : List Row) (row : Row) (rest : List Row) → AreRising entries → AreApart (map key_of earlier)
    → ((other : Row) → Has earlier other → row_at entries (key_of other) ≡ None)
    → (row_at entries (key_of row) ≡ None → ⊥) ⊎ Has (map key_of earlier) (key_of row) → first_duplicate entries (earlier ++ row ∷ rest) ≡ Some (key_of row)
duplicate_found entries [] row rest rises apart absent (inr h) = absurd h
duplicate_found entries [] row rest rises apart absent (inl there) = by_row (row_at entries (key_of row)) refl
  where
    by_row : (o : Option Row) → row_at entries (key_of row) ≡ o → cond (is_some o) (Some (key_of row)) (first_duplicate (with_row entries (key_of row) row) rest) ≡ Some (key_of row)
    by_row None e = absurd (there e)
    by_row (Some x) e = refl
duplicate_found entries (first ∷ earlier) row rest rises apart absent there =
    ap (λ o. cond (is_some o) (Some (key_of first)) (first_duplicate (with_row entries (key_of first) first) (earlier ++ row ∷ rest))) (absent first (inl refl))
    ∙ duplicate_found (with_row entries (key_of first) first) earlier row rest (put_rises entries first rises) apart.1
    (λ other has. put_elsewhere entries first (key_of other) rises (λ same. apart.0 (subst (λ k. Has (map key_of earlier) k) same (Has-map_of key_of earlier other has))) ∙ absent other (inr has))
    (there_later entries first earlier row rises there)
