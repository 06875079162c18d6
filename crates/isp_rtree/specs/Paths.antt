-- Paths down a tree, as the pages that a call is given.
use Rattle.std.specs.Prelude.{◌≡◌, ℕ, ◌<◌, Some, List, [], ◌∷◌, map, ⊤}
use Rattle.isp_base.specs.Lists.{Has}
use Rattle.isp_base.specs.declared.page_no.PageNo.{PageNo}
use Rattle.isp_forest.specs.declared.entry.Entry.{Entry}
use Rattle.isp_forest.specs.Place.{EndsOnLeaf, IsPath}
use Rattle.isp_forest.specs.Tree.{Node, Tree, child_of}

abbrev pub number_of : PageNo → ℕ
number_of p = p.0

-- the numbers of the pages
abbrev pub numbers_of : List PageNo → List ℕ
numbers_of path = map number_of path

-- the path begins at that page, if it has one
abbrev pub BeginsAt : ℕ → List ℕ → Type 0
BeginsAt root [] = ⊤
BeginsAt root (p ∷ rest) = p ≡ root

-- it begins at a page of a file of so many pages
abbrev pub BeginsInside : ℕ → List ℕ → Type 0
BeginsInside pages [] = ⊤
BeginsInside pages (p ∷ rest) = p < pages

-- each page has an entry for the next, and the last is a leaf
abbrev pub Leads : Tree → List ℕ → Type 0
Leads tree path = IsPath tree path × EndsOnLeaf tree path

-- the page has an entry for page q
abbrev pub LeadsTo : Node → ℕ → Type 0
LeadsTo page q = (e : Entry) × Has page.entries e × (child_of e ≡ Some q)
