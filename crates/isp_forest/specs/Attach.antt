-- How a search is attached to pages where an insert changes the tree below it: it percolates down the path of the insert
-- where a box grows into what it looks for, and is copied to the new page of a split or of a raised root. Predicate locks
-- on the pages of an index after Kornacker, Mohan and Hellerstein (1997).
use Rattle.std.specs.Prelude.{ℕ, ℤ, ◌==◌, Bool, false, not, ◌&&◌, ◌||◌, cond, Option, Some, None, List, [], ◌∷◌, ◌++◌, reverse}
use Rattle.std.specs.List.{list_any}
use Rattle.isp_mbr.specs.Corners.{Corners}
use Rattle.isp_mbr.specs.Boxes.{union}
use Rattle.isp_mbr.specs.Predicates.{may_hold}
use Rattle.isp_mbr.specs.declared.predicate.Predicate.{Predicate}
use Rattle.isp_forest.specs.declared.entry.Entry.{Entry}
use Rattle.isp_forest.specs.Tree.{Node, Tree, page_at, child_of, least}
use Rattle.isp_forest.specs.Steps.{is_among, is_last, names, add, split}
use Rattle.isp_forest.specs.Place.{Division}
use Rattle.isp_forest.specs.Search.{Search}

-- the box can't hold what the predicate asks for, and can when it has grown round b
abbrev pub lets_in : Predicate → Corners → Corners → Bool
lets_in predicate b box = not (may_hold predicate box) && may_hold predicate (union box b)

-- so does the box of the entry for page q
abbrev pub lets_in_to : Predicate → Corners → ℕ → List Entry → Bool
lets_in_to predicate b q [] = false
lets_in_to predicate b q (e ∷ es) = cond (names (λ c. c == q) (child_of e)) (lets_in predicate b e.b) (lets_in_to predicate b q es)

abbrev pub lets_in_from : Predicate → Corners → ℕ → Option Node → Bool
lets_in_from predicate b q None = false
lets_in_from predicate b q (Some page) = lets_in_to predicate b q page.entries

-- the pages of the rest of the path that a search percolates to, where `here` says whether it is on the first page or
-- percolated to it; all boxes are those before the entry is added
abbrev pub percolated : Tree → Search → Corners → Bool → List ℕ → List ℕ
percolated tree x b here [] = []
percolated tree x b here (p ∷ []) = []
percolated tree x b here (p ∷ q ∷ rest) =
    let enters = here && lets_in_from x.predicate b q (page_at tree p) in
    cond enters (q ∷ []) [] ++ percolated tree x b (is_among x.on q || enters) (q ∷ rest)

abbrev pub percolates : Tree → Search → Corners → List ℕ → List ℕ
percolates tree x b [] = []
percolates tree x b (root ∷ rest) = percolated tree x b (is_among x.on root) (root ∷ rest)

-- the search after an entry was added
abbrev pub let_in : Tree → List ℕ → Corners → Search → Search
let_in tree path b x = record x { on = x.on ++ percolates tree x b path }

-- the search is attached to page q too, where it is on page p and the box may hold its predicate
abbrev pub copied : ℕ → ℕ → Corners → Search → Search
copied p q box x = record x { on = cond (is_among x.on p && may_hold x.predicate box) (x.on ++ q ∷ []) x.on }

abbrev pub box_of : Option Node → Corners
box_of None = least []
box_of (Some page) = least page.entries

-- the search after the root was raised to page q, and after a split that moved the right part from page o to page n
abbrev pub copied_at_raise : Tree → ℕ → Search → Search
copied_at_raise tree q x = copied tree.root q (box_of (page_at tree tree.root)) x

abbrev pub copied_at_split : ℕ → List Entry → ℕ → Search → Search
copied_at_split o right n x = copied o n (least right) x

-- the search after the splits from the page at hand up, as the tree is divided
abbrev pub copied_up : Tree → ℕ → List ℕ → List Division → Search → Search
copied_up tree q up [] x = x
copied_up tree q [] (d ∷ ds) x = x
copied_up tree q (o ∷ []) (d ∷ ds) x = copied_at_split q d.right d.page (copied_at_raise tree q x)
copied_up tree q (o ∷ above ∷ up) (d ∷ ds) x =
    copied_up (split tree o above d.left d.right d.page) q (above ∷ up) ds (copied_at_split o d.right d.page x)

-- the same in the order of an engine that changes the whole tree first: to the page of the raised root, if there is one, and
-- then to the new pages of the splits from the leaf up
abbrev pub copied_to_raised : Tree → ℕ → List ℕ → List Division → Search → Search
copied_to_raised tree q up [] x = x
copied_to_raised tree q [] (d ∷ ds) x = x
copied_to_raised tree q (o ∷ []) (d ∷ ds) x = copied_at_raise tree q x
copied_to_raised tree q (o ∷ above ∷ up) (d ∷ ds) x = copied_to_raised (split tree o above d.left d.right d.page) q (above ∷ up) ds x

abbrev pub copied_to_parts : ℕ → List ℕ → List Division → Search → Search
copied_to_parts q up [] x = x
copied_to_parts q [] (d ∷ ds) x = x
copied_to_parts q (o ∷ []) (d ∷ ds) x = copied_at_split q d.right d.page x
copied_to_parts q (o ∷ above ∷ up) (d ∷ ds) x = copied_to_parts q (above ∷ up) ds (copied_at_split o d.right d.page x)

-- the search after an entry was placed
abbrev pub attached : Tree → List ℕ → Corners → ℤ → ℕ → ℕ → List Division → Search → Search
attached tree path b key number q ds x = copied_up (add tree path b key number) q (reverse path) ds (let_in tree path b x)

-- the entry that is to be placed on the last page of the path is tested against the search: it is on that page, or
-- percolates to it
abbrev pub is_tested : Tree → List ℕ → Corners → Search → Bool
is_tested tree path b x = list_any (is_last path) (let_in tree path b x).on
