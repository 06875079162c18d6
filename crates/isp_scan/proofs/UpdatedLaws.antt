-- The rows of UPDATE can be written.
use Rattle.std.proofs.Common.{◌≡◌, ◌≤◌, Bool, true, false, ◌||◌, List, [], ◌∷◌, map, Option, Some, None, refl, sym, ◌∙◌, subst, arith, if◌then◌else◌}
use Rattle.std.specs.List.{AllByRecursion, list_any}
use Rattle.std.proofs.lemmas.Bool.Decides.{nat_tests}
use Rattle.isp_plain.specs.Does.{with_sets}
use Rattle.isp_plain.specs.RowBytes.{row_bytes, row_limit}
use Rattle.isp_plain.specs.Values.{key_of}
use Rattle.isp_plain.specs.declared.statement.Assign.{Assign}
use Rattle.isp_plain.specs.declared.value.Row.{Row}
use Rattle.isp_plain.specs.declared.value.Schema.{Schema}
use Rattle.isp_work.specs.Finding.{is_too_large}
use Rattle.isp_scan.specs.Scanning.{AreRowsOf, updated_or_none}
use Rattle.isp_scan.proofs.HeldLaws.{own_key}
use Rattle.isp_scan.specs.Readings.{IsPutRow, SetsFit}

-- ---- the rows of UPDATE

or_first : (a b : Bool) → (a || b) ≡ false → a ≡ false
or_first true b is = cc
or_first false b is = refl

or_later : (a b : Bool) → (a || b) ≡ false → b ≡ false
or_later true b is = cc
or_later false b is = is

none_rows : {A : Type 0} (rows : List Row) → None ≡ Some rows → A
none_rows rows is = cc

some_rows : (a b : List Row) → Some a ≡ Some b → a ≡ b
some_rows a b is = cc

each_new : (schema : Schema) (sets : List Assign) (rows : List Row) → SetsFit schema sets → AreRowsOf schema rows → list_any (is_too_large schema sets) rows ≡ false → AllByRecursion (IsPutRow schema) (map (with_sets sets) rows)
each_new schema sets [] fit all small = tt
each_new schema sets (row ∷ rows) fit all small =
    let few = or_first (is_too_large schema sets row) (list_any (is_too_large schema sets) rows) small in
    let within : row_bytes schema (with_sets sets row) ≤ row_limit = grind (arith, nat_tests, few) in (
      record { is_row = own_key schema (key_of row) (with_sets sets row) (fit (key_of row) row all.0); small = within },
      each_new schema sets rows fit all.1 (or_later (is_too_large schema sets row) (list_any (is_too_large schema sets) rows) small),
    )

new_by : (schema : Schema) (sets : List Assign) (rows new : List Row) (b : Bool) → SetsFit schema sets → AreRowsOf schema rows → list_any (is_too_large schema sets) rows ≡ b → (if b then None else Some (map (with_sets sets) rows)) ≡ Some new
    → AllByRecursion (IsPutRow schema) new
new_by schema sets rows new true fit all small is = none_rows new is
new_by schema sets rows new false fit all small is = subst (AllByRecursion (IsPutRow schema)) (some_rows (map (with_sets sets) rows) new is) (each_new schema sets rows fit all small)

pub new_rows : (schema : Schema) (sets : List Assign) (rows slice : List Row) {new : List Row} {found : Option (List Row)} → SetsFit schema sets → AreRowsOf schema rows → slice ≡ rows → found ≡ updated_or_none schema sets slice → found ≡ Some new
    → AllByRecursion (IsPutRow schema) new
new_rows schema sets rows slice {new = new} fit all same found is =
    new_by schema sets slice new (list_any (is_too_large schema sets) slice) fit (subst (AreRowsOf schema) (sym same) all) refl (sym found ∙ is)
