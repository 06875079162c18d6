-- The rows of a leaf of which a condition holds, one row after another.
use Rattle.std.proofs.Common.{◌≡◌, ℕ, ℤ, zero, suc, ◌+◌, ◌≤◌, Bool, true, false, List, [], ◌∷◌, ◌++◌, drop, map, filter, Some, None, refl, sym, ◌∙◌, ap, subst, arith, if◌then◌else◌}
use Rattle.std.specs.Prelude.{Err, IfErr, Result, min, nat_le, slice_get}
use Rattle.std.proofs.Math.Nat.{min-eq_left, min-eq_right}
use Rattle.std.proofs.lemmas.Bool.Decides.{nat_tests}
use Rattle.isp_row.specs.declared.error.RowError.{RowError}
use Rattle.isp_row.specs.declared.error.RowError.TheVariants.{OutOfMemory}
use Rattle.std.specs.List.{AllByRecursion}
use Rattle.std.specs.Map.{values_of}
use Rattle.isp_clustered.specs.Leaves.{kept_row_of}
use Rattle.isp_clustered.specs.declared.kept.KeptRow.{KeptRow}
use Rattle.isp_image.specs.Databases.{FileRow, shown}
use Rattle.isp_image.specs.Files.{IsFileRow}
use Rattle.isp_plain.specs.Conditions.{holds}
use Rattle.isp_plain.specs.Values.{first_number, key_of}
use Rattle.isp_plain.specs.declared.statement.Condition.{Condition}
use Rattle.isp_plain.specs.declared.value.Row.{Row}
use Rattle.isp_plain.specs.declared.value.Schema.{Schema}
use Rattle.isp_plain.specs.declared.value.Value.{Value}
use Rattle.isp_plain.specs.declared.value.Value.TheVariants.{Int, Text, Geo}
use Rattle.isp_row.specs.RowSpelling.{IsRowOf, StartsWith}
use Rattle.isp_scan.specs.Scanning.{AreKeptAs, IsKeptAs, held_rows}

-- ---- one row

pub held_more : (w : Condition) (r : FileRow) (rows : List FileRow) → held_rows w (r ∷ rows) ≡ held_rows w (r ∷ []) ++ held_rows w rows
held_more w r rows = by r.stored.marked
  where
    inner : (c : Bool) → values_of (if c then (r.stored.key, r.row) ∷ filter (λ (e : ℤ × Row). holds w e.1) (shown rows) else filter (λ (e : ℤ × Row). holds w e.1) (shown rows))
        ≡ values_of (if c then (r.stored.key, r.row) ∷ [] else []) ++ held_rows w rows
    inner true = refl
    inner false = refl

    by : (b : Bool) → values_of (filter (λ (e : ℤ × Row). holds w e.1) (if b then shown rows else (r.stored.key, r.row) ∷ shown rows))
        ≡ values_of (filter (λ (e : ℤ × Row). holds w e.1) (if b then [] else (r.stored.key, r.row) ∷ [])) ++ held_rows w rows
    by true = refl
    by false = inner (holds w r.row)

-- ---- rows that are read

starts_own : (key : ℤ) (values : List Value) → StartsWith key values → StartsWith (first_number values) values
starts_own key [] starts = starts
starts_own key (Int number ∷ values) starts = refl
starts_own key (Text text ∷ values) starts = starts
starts_own key (Geo form ∷ values) starts = starts

pub own_key : (schema : Schema) (key : ℤ) (row : Row) → IsRowOf schema key row → IsRowOf schema (key_of row) row
own_key schema key row is = record { values = is.values; first = starts_own key row.values is.first }

-- ---- the leaf

joins : (xs ys zs : List Row) → (xs ++ ys) ++ zs ≡ xs ++ (ys ++ zs)
joins [] ys zs = refl
joins (x ∷ xs) ys zs = ap (λ (l : List Row). x ∷ l) (joins xs ys zs)

-- a row on the leaf is one of the rows that it is kept as, and the others stand behind it
pub record StandsThere (schema : Schema) (rows : List FileRow) (place : ℕ) (at : KeptRow) : Type 0 where
  pub row : FileRow
  pub kept : IsKeptAs schema at row
  pub behind : drop place rows ≡ row ∷ drop (suc place) rows

same_some : (a b : KeptRow) → Some a ≡ Some b → a ≡ b
same_some a b is = cc

none_some : (a : KeptRow) → None ≡ Some a → ⊥
none_some a is = cc

pub stands_there : (schema : Schema) (leaf : List KeptRow) (rows : List FileRow) (place : ℕ) (at : KeptRow) → AreKeptAs schema leaf rows → slice_get leaf place ≡ Some at → StandsThere schema rows place at
stands_there schema leaf rows place at are got = by rows place are.spell (sym (ap (λ (l : List KeptRow). slice_get l place) are.are) ∙ got)
  where
    by : (rows : List FileRow) (place : ℕ) → AllByRecursion (IsFileRow schema) rows → slice_get (map (λ (r : FileRow). kept_row_of r.stored) rows) place ≡ Some at → StandsThere schema rows place at
    by [] place all here = absurd (none_some at here)
    by (r ∷ rows) zero all here = record { row = r; kept = record { is = sym (same_some (kept_row_of r.stored) at here); spells = all.0 }; behind = refl }
    by (r ∷ rows) (suc place) all here = let found = by rows place all.1 here in record { row = found.row; kept = found.kept; behind = found.behind }

one_more : (n : ℕ) → n + 1 ≡ suc n
one_more n = omega arith

pub held_on : (schema : Schema) (w : Condition) (rows : List FileRow) (place : ℕ) (at : KeptRow) (old new : List Row) (s : StandsThere schema rows place at)
    → new ≡ old ++ held_rows w (s.row ∷ []) → old ++ held_rows w (drop place rows) ≡ held_rows w rows → new ++ held_rows w (drop (place + 1) rows) ≡ held_rows w rows
held_on schema w rows place at old new s is before =
    let rest = drop (suc place) rows in
    ap (λ (n : ℕ). new ++ held_rows w (drop n rows)) (one_more place)
    ∙ ap (λ (l : List Row). l ++ held_rows w rest) is
    ∙ joins old (held_rows w (s.row ∷ [])) (held_rows w rest)
    ∙ ap (λ (l : List Row). old ++ l) (sym (ap (held_rows w) s.behind ∙ held_more w s.row rest))
    ∙ before

-- ---- errors and lengths

pub memory_lacks : {T : Type 0} (result : Result T RowError) (e other : RowError) → result ≡ Err e → e ≡ other → other ≡ OutOfMemory → IfErr result (λ e. e ≡ OutOfMemory)
memory_lacks {T} result e other is same lacks = subst (λ (r : Result T RowError). IfErr r (λ e. e ≡ OutOfMemory)) (sym is) (same ∙ lacks)

pub short_of : (a b : ℕ) → min a 65536 ≡ min b 65536 → a ≤ 1000 → b ≤ 1000
short_of a b same small = by (nat_le b 65536) refl
  where
    first : min a 65536 ≡ a
    first = min-eq_left (omega (arith, small))

    by : (c : Bool) → nat_le b 65536 ≡ c → b ≤ 1000
    by true few =
        let within : b ≤ 65536 = grind (arith, nat_tests, few) in
        let second : min b 65536 ≡ b = min-eq_left within in
        let is : a ≡ b = sym first ∙ (same ∙ second) in omega (arith, is, small)
    by false many =
        let over : 65536 ≤ b = grind (arith, nat_tests, many) in
        let second : min b 65536 ≡ 65536 = min-eq_right over in
        let is : a ≡ 65536 = sym first ∙ (same ∙ second) in absurd (omega (arith, is, small))
