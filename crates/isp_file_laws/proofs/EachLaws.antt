-- What is said of each row of plain tables, by its key, and what changes of single rows keep of it.
use Rattle.std.proofs.Common.{◌≡◌, ℕ, zero, suc, ℤ, Bool, true, false, cond, List, [], ◌∷◌, map, Option, Some, None, refl, subst, if◌then◌else◌}
use Rattle.std.specs.Prelude.{slice_get, slice_set}
use Rattle.std.specs.declared.cmp.Ordering.{Ordering}
use Rattle.std.specs.declared.cmp.Ordering.TheVariants.{Less, Equal, Greater}
use Rattle.std.specs.BTreeMap.{is_at}
use Rattle.std.specs.List.{AllByRecursion, list_all}
use Rattle.std.specs.Ordering.{int_cmp, match_ordering}
use Rattle.std.proofs.lemmas.Bool.{and_from}
use Rattle.std.proofs.lemmas.Map.Lookups.{exact_signed}
use Rattle.isp_plain.specs.declared.value.Row.{Row}
use Rattle.isp_plain.specs.Entries.{with_row, without_row}
use Rattle.isp_plain.specs.Tables.{Table}
use Rattle.isp_changes.specs.Changes.{RowChange, after_change, after_changes, changed_table, with_changed, with_new}
use Rattle.isp_image.specs.Databases.{FileRow, shown}
use Rattle.isp_image.proofs.KeyedLaws.{OfSome}

-- ---- lists

module _ {X : Type 0} where
  some_is : (x y : X) → Some x ≡ Some y → x ≡ y
  some_is x y is = cc

  pub all_places : (P : X → Type 0) (xs : List X) → ((n : ℕ) (x : X) → slice_get xs n ≡ Some x → P x) → AllByRecursion P xs
  all_places P [] each = tt
  all_places P (x ∷ xs) each = (each 0 x refl, all_places P xs (λ n y is. each (suc n) y is))

  pub all_map : {Y : Type 0} (f : X → Y) (P : Y → Type 0) (xs : List X) → ((n : ℕ) (x : X) → slice_get xs n ≡ Some x → P (f x)) → AllByRecursion P (map f xs)
  all_map f P [] each = tt
  all_map f P (x ∷ xs) each = (each 0 x refl, all_map f P xs (λ n y is. each (suc n) y is))

  pub all_get : (P : X → Type 0) (xs : List X) (n : ℕ) (x : X) → AllByRecursion P xs → slice_get xs n ≡ Some x → P x
  all_get P [] n x all is = absurd (let no_way : None ≡ Some x = is in let bad : ⊥ = cc in bad)
  all_get P (y ∷ xs) zero x all is = subst P (some_is y x is) all.0
  all_get P (y ∷ xs) (suc n) x all is = all_get P xs n x all.1 is

  pub all_set : (P : X → Type 0) (xs : List X) (n : ℕ) (x : X) → AllByRecursion P xs → P x → AllByRecursion P (slice_set xs n x)
  all_set P [] n x all is = tt
  all_set P (y ∷ xs) zero x all is = (is, all.1)
  all_set P (y ∷ xs) (suc n) x all is = (all.0, all_set P xs n x all.1 is)

  pub all_weaker : (P Q : X → Type 0) (xs : List X) → ((x : X) → P x → Q x) → AllByRecursion P xs → AllByRecursion Q xs
  all_weaker P Q [] within all = tt
  all_weaker P Q (x ∷ xs) within all = (within x all.0, all_weaker P Q xs within all.1)

  pub passes_all : (p : X → Bool) (xs : List X) → AllByRecursion (λ x. p x ≡ true) xs → list_all p xs ≡ true
  passes_all p [] all = refl
  passes_all p (x ∷ xs) all = and_from (p x) (list_all p xs) all.0 (passes_all p xs all.1)

-- ---- rows, changes, tables

module _ (Q : ℤ → Row → Type 0) where
  abbrev pub AreEach : List (ℤ × Row) → Type 0
  AreEach rows = AllByRecursion (λ (e : ℤ × Row). Q e.0 e.1) rows

  abbrev pub AreEachIn : List Table → Type 0
  AreEachIn tables = AllByRecursion (λ (table : Table). AreEach table.rows) tables

  -- of the row that the change puts, if it puts one
  abbrev pub OfChange : RowChange → Type 0
  OfChange change = OfSome (Q change.key) change.new

  each_with : (rows : List (ℤ × Row)) (key : ℤ) (row : Row) → Q key row → AreEach rows → AreEach (with_row rows key row)
  each_with [] key row is all = (is, tt)
  each_with (e ∷ rows) key row is all = by (int_cmp key e.0) refl (each_with rows key row is all.1)
    where
      by : (o : Ordering) → int_cmp key e.0 ≡ o → AreEach (with_row rows key row) → AreEach (match_ordering o ((key, row) ∷ e ∷ rows) ((e.0, row) ∷ rows) (e ∷ with_row rows key row))
      by Less at rest = (is, all)
      by Equal at rest = (subst (λ (k : ℤ). Q k row) (exact_signed key e.0 at) is, all.1)
      by Greater at rest = (all.0, rest)

  each_without : (rows : List (ℤ × Row)) (key : ℤ) → AreEach rows → AreEach (without_row rows key)
  each_without [] key all = tt
  each_without (e ∷ rows) key all = by (is_at (int_cmp key) e.0) (each_without rows key all.1)
    where
      by : (b : Bool) → AreEach (without_row rows key) → AreEach (cond b rows (e ∷ without_row rows key))
      by true rest = all.1
      by false rest = (all.0, rest)

  each_new : (rows : List (ℤ × Row)) (key : ℤ) (new : Option Row) → OfSome (Q key) new → AreEach rows → AreEach (with_new rows key new)
  each_new rows key None is all = each_without rows key all
  each_new rows key (Some row) is all = each_with rows key row is all

  pub each_changed : (tables : List Table) (change : RowChange) → OfChange change → AreEachIn tables → AreEachIn (after_change tables change)
  each_changed tables change is all = by (slice_get tables change.table) refl
    where
      by : (o : Option Table) → slice_get tables change.table ≡ o → AreEachIn (with_changed tables change o)
      by None none = all
      by (Some table) there =
          all_set (λ (t : Table). AreEach t.rows) tables change.table (changed_table change table) all
          (each_new table.rows change.key change.new is (all_get (λ (t : Table). AreEach t.rows) tables change.table table all there))

  pub each_after : (changes : List RowChange) (tables : List Table) → AllByRecursion OfChange changes → AreEachIn tables → AreEachIn (after_changes tables changes)
  each_after [] tables are all = all
  each_after (change ∷ changes) tables are all = each_after changes (after_change tables change) are.1 (each_changed tables change are.0 all)

  -- the rows of a file that are seen
  pub each_shown : (rows : List FileRow) → AllByRecursion (λ (r : FileRow). Q r.stored.key r.row) rows → AreEach (shown rows)
  each_shown [] all = tt
  each_shown (r ∷ rows) all = by r.stored.marked (each_shown rows all.1)
    where
      by : (b : Bool) → AreEach (shown rows) → AreEach (if b then shown rows else (r.stored.key, r.row) ∷ shown rows)
      by true rest = rest
      by false rest = (all.0, rest)
