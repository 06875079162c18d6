-- Rows that are put in the places of others one by one, and how many rows are left where some leave.
use Rattle.std.proofs.Common.{◌≡◌, ℕ, suc, ◌+◌, ℤ, Bool, true, false, not, List, [], ◌∷◌, refl, ap, ◌∙◌, sym, length, map, cond, Some, None, Option, arith}
use Rattle.std.specs.Prelude.{filter}
use Rattle.std.specs.declared.cmp.Ordering.TheVariants.{Less, Equal}
use Rattle.std.specs.Ordering.{int_cmp, is_eq, ordering_reverse}
use Rattle.std.specs.Cmp.{int_cmp_is, int_cmp_total}
use Rattle.std.specs.List.{AllByRecursion, list_any}
use Rattle.std.specs.List.Sorted.{IsStrictlySortedBy}
use Rattle.std.specs.Map.{lookup, keys_of, values_of}
use Rattle.std.specs.BTreeMap.{is_at}
use Rattle.isp_plain.specs.declared.refusal.Refusal.TheVariants.{RowTooLarge}
use Rattle.isp_plain.specs.declared.value.Row.{Row}
use Rattle.isp_plain.specs.declared.statement.Assign.{Assign}
use Rattle.isp_plain.specs.declared.statement.Condition.{Condition}
use Rattle.isp_plain.specs.declared.statement.Reply.TheVariants as reply
use Rattle.isp_plain.specs.Conditions.{holds}
use Rattle.isp_plain.specs.Does.{Change, count_of, outgrows, refused, update, updated, with_sets}
use Rattle.isp_plain.specs.Entries.{with_value}
use Rattle.isp_plain.specs.Tables.{Table}
use Rattle.isp_plain.specs.Updating.{changes_of, with_changes}

absent_at : (found : Bool) (e : ℤ × Row) (entries changed : List (ℤ × Row)) (row : Row) (later : Option Row) → cond found (Some e.1) later ≡ None → (later ≡ None → changed ≡ entries) →
    cond found ((e.0, row) ∷ entries) (e ∷ changed) ≡ e ∷ entries
absent_at true e entries changed row later is so = cc
absent_at false e entries changed row later is so = ap (λ es. e ∷ es) (so is)

-- a row put in no place changes nothing
pub with_value-absent : (entries : List (ℤ × Row)) (key : ℤ) (row : Row) → lookup (is_at (int_cmp key)) entries ≡ None → with_value entries key row ≡ entries
with_value-absent [] key row is = refl
with_value-absent (e ∷ entries) key row is =
    absent_at (is_at (int_cmp key) e.0) e entries (with_value entries key row) row (lookup (is_at (int_cmp key)) entries) is (with_value-absent entries key row)

count_at : (p : Row → Bool) (b : Bool) (e : ℤ × Row) (entries : List (ℤ × Row)) →
    length (filter (λ (x : ℤ × Row). not (p x.1)) entries) + length (filter p (values_of entries)) ≡ length entries →
    length (cond (not b) (e ∷ filter (λ (x : ℤ × Row). not (p x.1)) entries) (filter (λ (x : ℤ × Row). not (p x.1)) entries))
    + length (cond b (e.1 ∷ filter p (values_of entries)) (filter p (values_of entries))) ≡ suc (length entries)
count_at p true e entries so_far = omega (arith, so_far)
count_at p false e entries so_far = omega (arith, so_far)

-- those that leave and those that stay are all
pub counted : (p : Row → Bool) (entries : List (ℤ × Row)) → length (filter (λ (x : ℤ × Row). not (p x.1)) entries) + length (filter p (values_of entries)) ≡ length entries
counted p [] = refl
counted p (e ∷ entries) = count_at p (p e.1) e entries (counted p entries)

-- ---- rows in the places of others, the keys of which rise

same_key : (key : ℤ) → is_at (int_cmp key) key ≡ true
same_key key = ap is_eq (sym (int_cmp_is key key Equal refl))

if_so : {X : Type 0} (b : Bool) (x y : X) → b ≡ true → cond b x y ≡ x
if_so true x y is = refl
if_so false x y is = cc

if_other : {X : Type 0} (b : Bool) (x y : X) → b ≡ false → cond b x y ≡ y
if_other true x y is = cc
if_other false x y is = refl

behind : (first key : ℤ) → int_cmp first key ≡ Less → is_at (int_cmp key) first ≡ false
behind first key is = ap is_eq (int_cmp_total.antisymm key first ∙ ap ordering_reverse is)

-- none of the changes is at the key
abbrev Apart : ℤ → List (ℤ × Row) → Type 0
Apart first [] = Unit {0}
Apart first (change ∷ changes) = (is_at (int_cmp change.0) first ≡ false) × Apart first changes

-- so they leave the row at that key
skipped : (e : ℤ × Row) (entries changes : List (ℤ × Row)) → Apart e.0 changes → with_changes (e ∷ entries) changes ≡ e ∷ with_changes entries changes
skipped e entries [] apart = refl
skipped e entries (change ∷ changes) apart =
    ap (λ es. with_changes es changes) (if_other (is_at (int_cmp change.0) e.0) ((e.0, change.1) ∷ entries) (e ∷ with_value entries change.0 change.1) apart.0)
    ∙ skipped e (with_value entries change.0 change.1) changes apart.1

module _ (new : Row → Row) (test : Row → Bool) where
  abbrev changes : List (ℤ × Row) → List (ℤ × Row)
  changes entries = map (λ (e : ℤ × Row). (e.0, new e.1)) (filter (λ (e : ℤ × Row). test e.1) entries)

  abbrev changed : List (ℤ × Row) → List (ℤ × Row)
  changed entries = map (λ (e : ℤ × Row). (e.0, cond (test e.1) (new e.1) e.1)) entries

  apart_if : (first : ℤ) (b : Bool) (e : ℤ × Row) (rest : List (ℤ × Row)) → is_at (int_cmp e.0) first ≡ false →
      Apart first (map (λ (e : ℤ × Row). (e.0, new e.1)) rest) → Apart first (map (λ (e : ℤ × Row). (e.0, new e.1)) (cond b (e ∷ rest) rest))
  apart_if first true e rest this others = (this, others)
  apart_if first false e rest this others = others

  apart : (first : ℤ) (entries : List (ℤ × Row)) → AllByRecursion (λ k. int_cmp first k ≡ Less) (keys_of entries) → Apart first (changes entries)
  apart first [] below = tt
  apart first (e ∷ entries) below =
      apart_if first (test e.1) e (filter (λ (e : ℤ × Row). test e.1) entries) (behind first e.0 below.0) (apart first entries below.1)

  step : (b : Bool) (e : ℤ × Row) (entries : List (ℤ × Row)) → Apart e.0 (changes entries) → with_changes entries (changes entries) ≡ changed entries →
      with_changes (e ∷ entries) (map (λ (e : ℤ × Row). (e.0, new e.1)) (cond b (e ∷ filter (λ (e : ℤ × Row). test e.1) entries) (filter (λ (e : ℤ × Row). test e.1) entries)))
      ≡ (e.0, cond b (new e.1) e.1) ∷ changed entries
  step true e entries apart later =
      ap (λ es. with_changes es (changes entries)) (if_so (is_at (int_cmp e.0) e.0) ((e.0, new e.1) ∷ entries) (e ∷ with_value entries e.0 (new e.1)) (same_key e.0))
      ∙ (skipped (e.0, new e.1) entries (changes entries) apart ∙ ap (λ es. (e.0, new e.1) ∷ es) later)
  step false e entries apart later = skipped e entries (changes entries) apart ∙ ap (λ es. e ∷ es) later

  all_changed : (entries : List (ℤ × Row)) → IsStrictlySortedBy int_cmp (keys_of entries) → with_changes entries (changes entries) ≡ changed entries
  unfolding IsStrictlySortedBy
  all_changed [] sorted = refl
  all_changed (e ∷ entries) sorted = step (test e.1) e entries (apart e.0 entries sorted.0) (all_changed entries sorted.1)

  one_more : (b : Bool) (e : ℤ × Row) (rest : List (ℤ × Row)) (rows : List Row) → length {A = ℤ × Row} (map (λ (e : ℤ × Row). (e.0, new e.1)) rest) ≡ length rows →
      length {A = ℤ × Row} (map (λ (e : ℤ × Row). (e.0, new e.1)) (cond b (e ∷ rest) rest)) ≡ length (cond b (e.1 ∷ rows) rows)
  one_more true e rest rows so_far = ap suc so_far
  one_more false e rest rows so_far = so_far

  as_many : (entries : List (ℤ × Row)) → length (changes entries) ≡ length (filter test (values_of entries))
  as_many [] = refl
  as_many (e ∷ entries) = one_more (test e.1) e (filter (λ (e : ℤ × Row). test e.1) entries) (filter test (values_of entries)) (as_many entries)

same_change : (table : Table) (n m : ℕ) (rows others : List (ℤ × Row)) → n ≡ m → rows ≡ others →
    (let c : Change = record { reply = reply.Count n; table = record table { rows = rows } } in c) ≡ record { reply = reply.Count m; table = record table { rows = others } }
same_change table n m rows others count is = ap (λ k. let c : Change = record { reply = reply.Count k; table = record table { rows = rows } } in c) count
    ∙ ap (λ rs. let c : Change = record { reply = reply.Count m; table = record table { rows = rs } } in c) is

-- what UPDATE leaves where no row gets too large
pub update_is : (sets : List Assign) (condition : Condition) (table : Table) (written : List (ℤ × Row)) →
    list_any (outgrows table.schema sets condition) (values_of table.rows) ≡ false → written ≡ changes_of sets condition table.rows → IsStrictlySortedBy int_cmp (keys_of table.rows) →
    update sets condition table ≡ (let c : Change = record { reply = reply.Count (length written); table = record table { rows = with_changes table.rows written } } in c)
update_is sets condition table written none is sorted =
    let count : length written ≡ count_of condition (values_of table.rows) = ap length is ∙ as_many (with_sets sets) (holds condition) table.rows in
    let rows : with_changes table.rows written ≡ map (λ e. (e.0, updated sets condition e.1)) table.rows =
    ap (with_changes table.rows) is ∙ all_changed (with_sets sets) (holds condition) table.rows sorted in
    if_other (list_any (outgrows table.schema sets condition) (values_of table.rows)) _ _ none ∙ sym (same_change table _ _ _ _ count rows)

pub refused_is : (sets : List Assign) (condition : Condition) (table : Table) → list_any (outgrows table.schema sets condition) (values_of table.rows) ≡ true → update sets condition table ≡ refused RowTooLarge table
refused_is sets condition table some = if_so (list_any (outgrows table.schema sets condition) (values_of table.rows)) _ _ some
