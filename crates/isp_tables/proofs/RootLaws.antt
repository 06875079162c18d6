-- The roots of a file's tables, place by place.
use Rattle.std.proofs.Common.{◌≡◌, ℕ, zero, suc, ◌<◌, List, [], ◌∷◌, map, slice_get, Some, None, refl, sym, ◌∙◌, ap, subst}
use Rattle.std.specs.Option.{option_map}
use Rattle.isp_base.specs.declared.page_no.PageNo.{PageNo}
use Rattle.isp_catalog.specs.declared.table.TableDef.{TableDef}
use Rattle.isp_image.specs.Databases.{Database, FileTable}
use Rattle.isp_trx.specs.Roots.{AreWithin, numbers_of}
use Rattle.isp_trx.specs.Writes.{AreRoots}
use Rattle.isp_tables.specs.Calls.{AreInside}
use Rattle.isp_tables.specs.Opened.{defs_in}
use Rattle.isp_tables.specs.TableLists.{roots_of}
use Rattle.isp_tables.proofs.TableLaws.{def_of, inside_at}

numbers_there : (roots : List PageNo) (defs : List TableDef) (place : ℕ) (root : PageNo) → numbers_of roots ≡ roots_of defs → slice_get roots place ≡ Some root → (def : TableDef) × (slice_get defs place ≡ Some def) × (def.root.0 ≡ root.0)
numbers_there roots defs place root same is = by roots defs place (ap (λ (l : List ℕ). slice_get l place) (sym same)) is
  where
    none_root : {A : Type 0} (r : PageNo) → None ≡ Some r → A
    none_root r none = cc

    same_root : (r q : PageNo) → Some r ≡ Some q → r ≡ q
    same_root r q both = cc

    same_number : (a b : ℕ) → Some a ≡ Some b → a ≡ b
    same_number a b both = cc

    none_number : {A : Type 0} (a : ℕ) → None ≡ Some a → A
    none_number a none = cc

    by : (roots : List PageNo) (defs : List TableDef) (place : ℕ) → slice_get (roots_of defs) place ≡ slice_get (numbers_of roots) place → slice_get roots place ≡ Some root → (def : TableDef) × (slice_get defs place ≡ Some def) × (def.root.0 ≡ root.0)
    by [] defs place both is = none_root root is
    by (r ∷ roots) [] zero both is = none_number r.0 both
    by (r ∷ roots) [] (suc place) both is = by roots [] place both is
    by (r ∷ roots) (def ∷ defs) zero both is = (def, refl, same_number def.root.0 r.0 both ∙ ap (λ (p : PageNo). p.0) (same_root r root is))
    by (r ∷ roots) (def ∷ defs) (suc place) both is = by roots defs place both is

pub are_within : (pages : ℕ) (roots : List PageNo) (defs : List TableDef) → numbers_of roots ≡ roots_of defs → AreInside pages defs → AreWithin pages roots
are_within pages roots defs same inside = λ place root is.
    let d = numbers_there roots defs place root same is in
    subst (λ (n : ℕ). n < pages) d.2 (inside_at pages defs place d.0 inside d.1)

roots_there : (tables : List FileTable) (place : ℕ) (t : FileTable) → slice_get tables place ≡ Some t → slice_get (roots_of (map def_of tables)) place ≡ Some t.def.root.0
roots_there [] place t is = ap (option_map (λ (u : FileTable). u.def.root.0)) is
roots_there (u ∷ tables) zero t is = ap (option_map (λ (u : FileTable). u.def.root.0)) is
roots_there (u ∷ tables) (suc place) t is = roots_there tables place t is

pub are_roots : (d : Database) (defs : List TableDef) (roots : List PageNo) → defs_in d ≡ defs → numbers_of roots ≡ roots_of defs → AreRoots (numbers_of roots) d
are_roots d defs roots are same = λ place t is.
    ap (λ (l : List ℕ). slice_get l place) (same ∙ sym (ap roots_of are)) ∙ roots_there d.tables place t is
