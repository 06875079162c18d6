-- The root of a table, among roots.
use Rattle.std.proofs.Common.{◌≡◌, ℕ, zero, suc, pred, ◌-◌, ◌<◌, ◌≤◌, true, false, List, length, get_or, Some, None, refl, sym, ◌∙◌, ap, arith}
use Rattle.std.specs.Prelude.{nat_lt, slice_get}
use Rattle.std.specs.Option.{option_map}
use Rattle.std.proofs.lemmas.Bool.Decides.{nat_tests}
use Rattle.std.proofs.lemmas.Option.{slice_get_past, slice_get_read}
use Rattle.isp_base.specs.declared.page_no.PageNo.{PageNo}
use Rattle.isp_image.proofs.ListLaws.{get_map}
use Rattle.isp_trx.specs.Roots.{numbers_of}

abbrev number : PageNo → ℕ
number page = page.0

before : (n : ℕ) → pred n ≡ n - 1
before zero = refl
before (suc n) = omega arith

pub root_read : (roots : List PageNo) (n : ℕ) (root : PageNo) → true ≡ nat_lt (n - 1) (length roots) → root ≡ get_or roots (n - 1) root → slice_get (numbers_of roots) (pred n) ≡ Some root.0
root_read roots n root within is =
    let less : n - 1 < length roots = under (n - 1) (length roots) (sym within) in
    ap (slice_get (numbers_of roots)) (before n) ∙ get_map number roots (n - 1) ∙ ap (option_map number) (slice_get_read roots (length roots) (n - 1) root refl less is)
  where
    under : (a b : ℕ) → nat_lt a b ≡ true → a < b
    under a b h = grind (arith, nat_tests, h)

pub root_none : (roots : List PageNo) (n : ℕ) (root : ℕ) → false ≡ nat_lt (n - 1) (length roots) → slice_get (numbers_of roots) (pred n) ≡ Some root → ⊥
root_none roots n root beyond is =
    let far : length roots ≤ n - 1 = over (n - 1) (length roots) (sym beyond) in
    let none : slice_get (numbers_of roots) (pred n) ≡ None = ap (slice_get (numbers_of roots)) (before n) ∙ get_map number roots (n - 1) ∙ ap (option_map number) (slice_get_past roots (n - 1) far) in
    bad root (sym none ∙ is)
  where
    over : (a b : ℕ) → nat_lt a b ≡ false → b ≤ a
    over a b h = grind (arith, nat_tests, h)

    bad : (r : ℕ) → None ≡ Some r → ⊥
    bad r same = cc
