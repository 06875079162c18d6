-- The definition of a table with a key and an indexed geometry, by computation.
use Rattle.std.proofs.Common.{◌≡◌, ℕ, true, false, List, [], ◌∷◌, ◌++◌, Some, refl}
use Rattle.std.specs.Prelude.{replicate}
use Rattle.isp_format.specs.Definition.{definition_page, definition_place}
use Rattle.isp_plain.specs.declared.value.Kind.TheVariants as kind
use Rattle.isp_catalog.specs.Reading.{table_in}
use Rattle.isp_catalog.specs.Writing.{table_bytes}
use Rattle.isp_catalog.specs.declared.table.TableDef.{TableDef}

abbrev points : TableDef
points = record {
  number = 1;
  name = 112 ∷ [];
  schema = record { columns = record { name = 105 ∷ 100 ∷ []; kind = kind.BigInt; indexed = false } ∷ record { name = 103 ∷ []; kind = kind.Geo; indexed = true } ∷ [] };
  root = record { 0 = 16 };
  trees = record { 0 = 0 } ∷ record { 0 = 0 } ∷ [];
}

-- name, number of columns, roots, and the two columns
abbrev spelled : List ℕ
spelled =
    1 ∷ 112 ∷ (replicate {A = ℕ} 31 0 ++ (2 ∷ 0 ∷ 0 ∷ 0 ∷ 16 ∷ (replicate {A = ℕ} 8 0
    ++ (2 ∷ 105 ∷ 100 ∷ (replicate {A = ℕ} 30 0 ++ (1 ∷ 0 ∷ 0 ∷ 0
    ∷ (1 ∷ 103 ∷ (replicate {A = ℕ} 31 0 ++ (3 ∷ 0 ∷ 0 ∷ 1 ∷ [])))))))))

points_spelled : table_bytes points ≡ spelled
points_spelled = refl

points_read : table_in 128 1 spelled 0 ≡ Some points
unfolding table_in
points_read = refl

-- five definitions stand on a page, the last one on page 14
first_place : definition_place 1 ≡ 64
first_place = refl

fifth_page : definition_page 5 ≡ 2
fifth_page = refl

fifth_place : definition_place 5 ≡ 3264
fifth_place = refl

sixth_page : definition_page 6 ≡ 3
sixth_page = refl

last_page : definition_page 64 ≡ 14
last_page = refl
