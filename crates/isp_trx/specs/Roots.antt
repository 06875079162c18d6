-- The roots of the tables' trees, in the order of their numbers.
use Rattle.std.specs.Prelude.{◌≡◌, ℕ, ◌<◌, List, map, slice_get, Some}
use Rattle.isp_base.specs.declared.page_no.PageNo.{PageNo}

abbrev pub numbers_of : List PageNo → List ℕ
numbers_of roots = map (λ (page : PageNo). page.0) roots

-- they are pages of a file of so many
abbrev pub AreWithin : ℕ → List PageNo → Type 0
AreWithin pages roots = (place : ℕ) (root : PageNo) → slice_get roots place ≡ Some root → root.0 < pages
