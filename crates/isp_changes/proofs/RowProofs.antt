-- Rows by key, whose keys rise.
use Rattle.std.proofs.Common.{◌≡◌, ℤ, Bool, true, false, not, cond, List, [], ◌∷◌, refl, ap, ◌∙◌, sym, subst, Some, None, Option}
use Rattle.std.specs.Prelude.{filter}
use Rattle.std.specs.declared.cmp.Ordering.{Ordering}
use Rattle.std.specs.declared.cmp.Ordering.TheVariants.{Less, Equal, Greater}
use Rattle.std.specs.Ordering.{eq_by_cmp, int_cmp, int_eq, is_eq, match_ordering, ordering_reverse}
use Rattle.std.specs.Cmp.{Equal-is, both_ways, int_cmp_is, int_cmp_total, signed_Decides}
use Rattle.std.specs.List.{AllByRecursion}
use Rattle.std.specs.List.Sorted.{IsStrictlySortedBy}
use Rattle.std.specs.Map.{keys_of, remove_entry}
use Rattle.std.specs.BTreeMap.{is_at}
use Rattle.std.specs.Option.{option_or}
use Rattle.std.proofs.lemmas.Cmp.{eq_by_cmp_equiv}
use Rattle.std.proofs.lemmas.Map.{lookup-remove_entry}
use Rattle.std.proofs.lemmas.Map.Entries.{lookup-filter-values, option_filter}
use Rattle.std.proofs.lemmas.Map.Keys.{IsDistinct-from_sorted}
use Rattle.std.proofs.lemmas.Map.Lookups.{exact_signed}
use Rattle.std.proofs.lemmas.Map.Made.{keys_of-map_values, lookup-map_values}
use Rattle.isp_plain.specs.declared.value.Row.{Row}
use Rattle.isp_plain.specs.Entries.{with_row}
use Rattle.isp_plain.specs.Values.{key_of}
use Rattle.isp_changes.specs.Rows.{AreRising, last_with, row_at, unless}
use Rattle.isp_changes.specs.RowLaws.{RowsKept, RowsMapped, RowsWithNew, RowsWithRows, SameRows}

-- ---- tests of keys

pub same_at : (key : ℤ) → is_at (int_cmp key) key ≡ true
same_at key = ap is_eq (sym (int_cmp_is key key Equal refl))

pub same_key : (q key : ℤ) → is_at (int_cmp q) key ≡ true → q ≡ key
same_key q key is = exact_signed q key ((Equal-is (int_cmp q key)).0 is)

pub at_is : (q key : ℤ) → is_at (int_cmp q) key ≡ int_eq q key
at_is q key = both_ways (is_at (int_cmp q) key) (int_eq q key)
    (λ h. (signed_Decides q key).1 (same_key q key h))
    (λ h. let same : q ≡ key = (signed_Decides q key).0 h in ap (λ k. is_at (int_cmp q) k) (sym same) ∙ same_at q)

pub if_so : {X : Type 0} (b : Bool) (x y : X) → b ≡ true → cond b x y ≡ x
if_so true x y is = refl
if_so false x y is = cc

pub if_not : {X : Type 0} (b : Bool) (x y : X) → b ≡ false → cond b x y ≡ y
if_not true x y is = cc
if_not false x y is = refl

reversed : (a b : ℤ) → int_cmp a b ≡ Greater → int_cmp b a ≡ Less
reversed a b is = int_cmp_total.antisymm b a ∙ ap ordering_reverse is

-- ---- rows above a key

abbrev pub Above : ℤ → List (ℤ × Row) → Type 0
Above first rows = AllByRecursion (λ k. int_cmp first k ≡ Less) (keys_of rows)

pub above_later : (a b : ℤ) (rows : List (ℤ × Row)) → int_cmp a b ≡ Less → Above b rows → Above a rows
above_later a b [] less above = tt
above_later a b (e ∷ rows) less above = (int_cmp_total.trans a b e.0 less above.0, above_later a b rows less above.1)

pub absent : (first : ℤ) (rows : List (ℤ × Row)) → Above first rows → row_at rows first ≡ None
absent first [] above = refl
absent first (e ∷ rows) above = if_not (is_at (int_cmp first) e.0) (Some e.1) (row_at rows first) (ap is_eq above.0) ∙ absent first rows above.1

pub first_above : (e : ℤ × Row) (rows : List (ℤ × Row)) → AreRising (e ∷ rows) → Above e.0 rows
unfolding IsStrictlySortedBy
first_above e rows rises = rises.0

pub later_rise : (e : ℤ × Row) (rows : List (ℤ × Row)) → AreRising (e ∷ rows) → AreRising rows
unfolding IsStrictlySortedBy
later_rise e rows rises = rises.1

pub no_rows : AreRising []
unfolding IsStrictlySortedBy
no_rows = tt

pub rising_first : (e : ℤ × Row) (rows : List (ℤ × Row)) → Above e.0 rows → AreRising rows → AreRising (e ∷ rows)
unfolding IsStrictlySortedBy
rising_first e rows above rises = (above, rises)

pub row_first : (e : ℤ × Row) (rows : List (ℤ × Row)) → row_at (e ∷ rows) e.0 ≡ Some e.1
row_first e rows = if_so (is_at (int_cmp e.0) e.0) (Some e.1) (row_at rows e.0) (same_at e.0)

row_later : (e : ℤ × Row) (rows : List (ℤ × Row)) (q : ℤ) → is_at (int_cmp q) e.0 ≡ false → row_at (e ∷ rows) q ≡ row_at rows q
row_later e rows q is = if_not (is_at (int_cmp q) e.0) (Some e.1) (row_at rows q) is

-- ---- one list

-- the first key of one list is below all of the other
unlike : (d : ℤ × Row) (rows : List (ℤ × Row)) (e : ℤ × Row) (others : List (ℤ × Row)) → int_cmp d.0 e.0 ≡ Less → AreRising (e ∷ others) →
    row_at (d ∷ rows) d.0 ≡ row_at (e ∷ others) d.0 → ⊥
unlike d rows e others less rises is =
    let none : row_at (e ∷ others) d.0 ≡ None =
    row_later e others d.0 (ap is_eq less) ∙ absent d.0 others (above_later d.0 e.0 others less (first_above e others rises)) in
    let some = row_first d rows in
    let no : Some d.1 ≡ None = sym some ∙ (is ∙ none) in cc

rest_at : (b : Bool) (q : ℤ) (d : ℤ × Row) (rows : List (ℤ × Row)) (e : ℤ × Row) (others : List (ℤ × Row)) → is_at (int_cmp q) d.0 ≡ b → d.0 ≡ e.0 →
    Above d.0 rows → Above e.0 others → row_at (d ∷ rows) q ≡ row_at (e ∷ others) q → row_at rows q ≡ row_at others q
rest_at true q d rows e others is same above others_above h =
    let first : q ≡ d.0 = same_key q d.0 is in
    let second : q ≡ e.0 = first ∙ same in
    (ap (row_at rows) first ∙ absent d.0 rows above) ∙ sym (ap (row_at others) second ∙ absent e.0 others others_above)
rest_at false q d rows e others is same above others_above h =
    let other : is_at (int_cmp q) e.0 ≡ false = ap (λ k. is_at (int_cmp q) k) (sym same) ∙ is in
    sym (row_later d rows q is) ∙ (h ∙ row_later e others q other)

pair_is : (d e : ℤ × Row) → d.0 ≡ e.0 → d.1 ≡ e.1 → d ≡ e
pair_is d e first second i = (first i, second i)

some_is : (x y : Row) → Some x ≡ Some y → x ≡ y
some_is x y is = cc

pub same_rows : SameRows
same_rows [] [] rises others_rise h = refl
same_rows [] (e ∷ others) rises others_rise h = let no : None ≡ Some e.1 = h e.0 ∙ row_first e others in cc
same_rows (d ∷ rows) [] rises others_rise h = let no : Some d.1 ≡ None = sym (row_first d rows) ∙ h d.0 in cc
same_rows (d ∷ rows) (e ∷ others) rises others_rise h =
    by (int_cmp d.0 e.0) refl (same_rows rows others (later_rise d rows rises) (later_rise e others others_rise))
  where
    by : (o : Ordering) → int_cmp d.0 e.0 ≡ o → (((q : ℤ) → row_at rows q ≡ row_at others q) → rows ≡ others) → (d ∷ rows) ≡ (e ∷ others)
    by Less is later = absurd (unlike d rows e others is others_rise (h d.0))
    by Greater is later = absurd (unlike e others d rows (reversed d.0 e.0 is) rises (sym (h e.0)))
    by Equal is later =
        let key : d.0 ≡ e.0 = exact_signed d.0 e.0 is in
        let row : d.1 ≡ e.1 = some_is d.1 e.1 (sym (row_first d rows) ∙ (h d.0 ∙ (ap (row_at (e ∷ others)) key ∙ row_first e others))) in
        let rest : rows ≡ others =
        later (λ q. rest_at (is_at (int_cmp q) d.0) q d rows e others refl key (first_above d rows rises) (first_above e others others_rise) (h q)) in
        ap (λ x. x ∷ rows) (pair_is d e key row) ∙ ap (λ rs. e ∷ rs) rest

-- ---- a row put

above_with : (first : ℤ) (rows : List (ℤ × Row)) (at : ℤ) (row : Row) → Above first rows → int_cmp first at ≡ Less → Above first (with_row rows at row)
above_with first [] at row above less = (less, tt)
above_with first (e ∷ rows) at row above less = by (int_cmp at e.0) (above_with first rows at row above.1 less)
  where
    by : (o : Ordering) → Above first (with_row rows at row) → AllByRecursion (λ k. int_cmp first k ≡ Less) (keys_of (match_ordering o ((at, row) ∷ e ∷ rows) ((e.0, row) ∷ rows) (e ∷ with_row rows at row)))
    by Less later = (less, above)
    by Equal later = above
    by Greater later = (above.0, later)

pub rises_with : (rows : List (ℤ × Row)) (at : ℤ) (row : Row) → AreRising rows → AreRising (with_row rows at row)
rises_with [] at row rises = rising_first (at, row) [] tt rises
rises_with (e ∷ rows) at row rises = by (int_cmp at e.0) refl (rises_with rows at row (later_rise e rows rises))
  where
    by : (o : Ordering) → int_cmp at e.0 ≡ o → AreRising (with_row rows at row) → AreRising (match_ordering o ((at, row) ∷ e ∷ rows) ((e.0, row) ∷ rows) (e ∷ with_row rows at row))
    by Less is later = rising_first (at, row) (e ∷ rows) (is, above_later at e.0 rows is (first_above e rows rises)) rises
    by Equal is later = rising_first (e.0, row) rows (first_above e rows rises) (later_rise e rows rises)
    by Greater is later = rising_first e (with_row rows at row) (above_with e.0 rows at row (first_above e rows rises) (reversed at e.0 is)) later

twice : {X : Type 0} (b : Bool) (x y z : X) → cond b x z ≡ cond b x (cond b y z)
twice true x y z = refl
twice false x y z = refl

swapped : {X : Type 0} (b c : Bool) (x y z : X) → (b ≡ true → c ≡ true → ⊥) → cond b x (cond c y z) ≡ cond c y (cond b x z)
swapped true true x y z apart = absurd (apart refl refl)
swapped true false x y z apart = refl
swapped false c x y z apart = refl

at_with_row : (rows : List (ℤ × Row)) (at : ℤ) (row : Row) (q : ℤ) → row_at (with_row rows at row) q ≡ cond (is_at (int_cmp q) at) (Some row) (row_at rows q)
at_with_row [] at row q = refl
at_with_row (e ∷ rows) at row q = by (int_cmp at e.0) refl (at_with_row rows at row q)
  where
    by : (o : Ordering) → int_cmp at e.0 ≡ o → row_at (with_row rows at row) q ≡ cond (is_at (int_cmp q) at) (Some row) (row_at rows q) →
        row_at (match_ordering o ((at, row) ∷ e ∷ rows) ((e.0, row) ∷ rows) (e ∷ with_row rows at row)) q ≡ cond (is_at (int_cmp q) at) (Some row) (row_at (e ∷ rows) q)
    by Less is later = refl
    by Equal is later =
        let same : at ≡ e.0 = exact_signed at e.0 is in
        twice (is_at (int_cmp q) e.0) (Some row) (Some e.1) (row_at rows q) ∙ ap (λ k. cond (is_at (int_cmp q) k) (Some row) (row_at (e ∷ rows) q)) (sym same)
    by Greater is later =
        ap (λ r. cond (is_at (int_cmp q) e.0) (Some e.1) r) later
        ∙ swapped (is_at (int_cmp q) e.0) (is_at (int_cmp q) at) (Some e.1) (Some row) (row_at rows q)
        (λ first other. let same : at ≡ e.0 = sym (same_key q at other) ∙ same_key q e.0 first in
        let equal : int_cmp at e.0 ≡ Equal = ap (int_cmp at) (sym same) ∙ (Equal-is (int_cmp at at)).0 (same_at at) in
        let no : Greater ≡ Equal = sym is ∙ equal in cc)

-- ---- rows taken out

above_without : (first : ℤ) (test : ℤ → Bool) (rows : List (ℤ × Row)) → Above first rows → Above first (remove_entry test rows)
above_without first test [] above = tt
above_without first test (e ∷ rows) above = by (test e.0) (above_without first test rows above.1)
  where
    by : (b : Bool) → Above first (remove_entry test rows) → Above first (cond b rows (e ∷ remove_entry test rows))
    by true later = above.1
    by false later = (above.0, later)

rises_without : (test : ℤ → Bool) (rows : List (ℤ × Row)) → AreRising rows → AreRising (remove_entry test rows)
rises_without test [] rises = rises
rises_without test (e ∷ rows) rises = by (test e.0) (rises_without test rows (later_rise e rows rises))
  where
    by : (b : Bool) → AreRising (remove_entry test rows) → AreRising (cond b rows (e ∷ remove_entry test rows))
    by true later = later_rise e rows rises
    by false later = rising_first e (remove_entry test rows) (above_without e.0 test rows (first_above e rows rises)) later

above_kept : (first : ℤ) (p : ℤ × Row → Bool) (rows : List (ℤ × Row)) → Above first rows → Above first (filter p rows)
above_kept first p [] above = tt
above_kept first p (e ∷ rows) above = by (p e) (above_kept first p rows above.1)
  where
    by : (b : Bool) → Above first (filter p rows) → Above first (cond b (e ∷ filter p rows) (filter p rows))
    by true later = (above.0, later)
    by false later = later

pub rises_kept : (p : ℤ × Row → Bool) (rows : List (ℤ × Row)) → AreRising rows → AreRising (filter p rows)
rises_kept p [] rises = rises
rises_kept p (e ∷ rows) rises = by (p e) (rises_kept p rows (later_rise e rows rises))
  where
    by : (b : Bool) → AreRising (filter p rows) → AreRising (cond b (e ∷ filter p rows) (filter p rows))
    by true later = rising_first e (filter p rows) (above_kept e.0 p rows (first_above e rows rises)) later
    by false later = later

same_tests : (at x y : ℤ) → is_at (int_cmp at) x ≡ true → is_at (int_cmp at) y ≡ eq_by_cmp int_cmp x y
same_tests at x y is = ap (λ k. is_at (int_cmp k) y) (same_key at x is)

turned : (q at : ℤ) → is_at (int_cmp at) q ≡ int_eq q at
turned q at = (eq_by_cmp_equiv int_cmp_total).symm at q ∙ at_is q at

-- ---- the laws

pub rows_with_new : RowsWithNew
rows_with_new rows at (Some row) rises = record {
  rises = rises_with rows at row rises;
  each = λ q. at_with_row rows at row q ∙ ap (λ b. cond b (Some row) (row_at rows q)) (at_is q at);
}
rows_with_new rows at None rises = record {
  rises = rises_without (is_at (int_cmp at)) rows rises;
  each = λ q. lookup-remove_entry (eq_by_cmp_equiv int_cmp_total) (is_at (int_cmp at)) (same_tests at) q rows (IsDistinct-from_sorted int_cmp (keys_of rows) rises)
      ∙ ap (λ b. cond b None (row_at rows q)) (turned q at);
}

or_then : (a : Option Row) (b : Bool) (x : Row) (z : Option Row) → option_or a (cond b (Some x) z) ≡ option_or (option_or a (cond b (Some x) None)) z
or_then (Some y) b x z = refl
or_then None true x z = refl
or_then None false x z = refl

pub rows_with_rows : RowsWithRows
rows_with_rows rows [] rises = record { rises = rises; each = λ q. refl }
rows_with_rows rows (row ∷ more) rises =
    let here = rows_with_new rows (key_of row) (Some row) rises in
    let later = rows_with_rows (with_row rows (key_of row) row) more here.rises in
    record {
      rises = later.rises;
      each = λ q. later.each q ∙ (ap (option_or (last_with more q)) (here.each q) ∙ or_then (last_with more q) (int_eq q (key_of row)) row (row_at rows q));
    }

pub rows_mapped : RowsMapped
rows_mapped rows becomes rises = record {
  rises = subst (λ keys. IsStrictlySortedBy int_cmp keys) (sym (keys_of-map_values becomes rows)) rises;
  each = λ q. lookup-map_values becomes (is_at (int_cmp q)) rows;
}

filter_unless : (leaves : Row → Bool) (found : Option Row) → option_filter (λ row. not (leaves row)) found ≡ unless leaves found
filter_unless leaves None = refl
filter_unless leaves (Some row) = by (leaves row)
  where
    by : (b : Bool) → cond (not b) (Some row) None ≡ cond b None (Some row)
    by true = refl
    by false = refl

pub rows_kept : RowsKept
rows_kept rows leaves rises = record {
  rises = rises_kept (λ e. not (leaves e.1)) rows rises;
  each = λ q. lookup-filter-values (eq_by_cmp_equiv int_cmp_total) (λ row. not (leaves row)) q rows (IsDistinct-from_sorted int_cmp (keys_of rows) rises)
      ∙ filter_unless leaves (row_at rows q);
}
