-- The searches of a table in the words of the page machine, and the laws that join its calls to the machine's steps.
use Rattle.std.specs.Prelude.{◌≡◌, ℕ, ℤ, false, List, [], filter, filter_map, length, map}
use Rattle.std.specs.List.{AllZip}
use Rattle.isp_base.specs.Lists.{Has}
use Rattle.isp_mbr.specs.Corners.{Corners}
use Rattle.isp_mbr.specs.Predicates.{satisfies}
use Rattle.isp_forest.specs.Attach.{copied, let_in}
use Rattle.isp_forest.specs.Forest.{Forest}
use Rattle.isp_forest.specs.Place.{IsPath}
use Rattle.isp_forest.specs.Search.{Search}
use Rattle.isp_forest.specs.Tree.{Tree}
use Rattle.isp_searches.specs.SearchLaws.{IsLike}
use Rattle.isp_events.specs.Lines as line
use Rattle.isp_events.specs.Next.{Descent}
use Rattle.isp_events.specs.Placing.{first_of_session, is_of_tree, last_page, percolating, searches_of, tests}
use Rattle.isp_events.specs.State.{TreeSearch, session_numbers}
use Rattle.isp_predlock.specs.declared.entries.Growing.{Growing}
use Rattle.isp_predlock.specs.declared.entries.On.{On}
use Rattle.isp_predlock.specs.declared.entries.Percolation.{Percolation}
use Rattle.isp_predlock.specs.declared.entries.Placing.{Placing}
use Rattle.isp_predlock.specs.Entering.{AreGrowing, percolating_on}
use Rattle.isp_predlock.specs.Tables.{AreNamed, HeldSearch, copied_on, with_pages}
use Rattle.isp_predlock.specs.Testing.{in_the_way, tested}

-- ---- a search

-- the search with these pages to visit and these keys found, which the table doesn't have
abbrev pub search_of : HeldSearch → List (ℕ × ℕ) → List ℤ → Search
search_of x stack found = record {
  session = x.sought.session;
  statement = x.sought.statement;
  predicate = x.sought.predicate;
  on = x.on;
  stack = stack;
  found = found;
}

-- the search as far as a placing looks at it
abbrev pub tree_search : HeldSearch → TreeSearch
tree_search x = record { table = x.sought.table; column = x.sought.column; search = search_of x [] [] }

abbrev pub tree_searches : List HeldSearch → List TreeSearch
tree_searches searches = map tree_search searches

-- ---- what is told

abbrev pub told_pair : Percolation → ℕ × ℕ
told_pair found = (found.session, found.page.0)

abbrev pub told_pairs : List Percolation → List (ℕ × ℕ)
told_pairs list = map told_pair list

abbrev pub as_told : On → line.On
as_told on = record { session = on.session; predicate = on.predicate }

-- ---- the machine's tests, of one tree and its searches

abbrev pub tested_of : Tree → Descent → ℕ → List TreeSearch → List TreeSearch
tested_of tree d s searches = filter (tests tree d s) searches

abbrev pub satisfied_of : Tree → Descent → ℕ → List TreeSearch → List TreeSearch
satisfied_of tree d s searches = filter (λ (x : TreeSearch). satisfies x.search.predicate d.box) (tested_of tree d s searches)

abbrev pub in_the_way_of : Tree → Descent → ℕ → List TreeSearch → List line.On
in_the_way_of tree d s searches = filter_map (first_of_session (satisfied_of tree d s searches)) session_numbers

-- a placing on that path says the same of both lists
pub record PlaceAlike (tree : Tree) (d : Descent) (xs ys : List TreeSearch) : Type 0 where
  pub percolating_is : percolating tree d xs ≡ percolating tree d ys
  pub tested_is : (s : ℕ) → length (tested_of tree d s xs) ≡ length (tested_of tree d s ys)
  pub in_the_way_is : (s : ℕ) → in_the_way_of tree d s xs ≡ in_the_way_of tree d s ys

-- ---- the laws

-- the path, and what grows on it where the entry is added, as far as the searches of a table that are named one by one see it
pub record GrowsOnPath (tree : Tree) (b : Corners) (path : List ℕ) (grown : List Growing) (searches : List HeldSearch) : Type 0 where
  pub forest : Forest tree
  pub steps : IsPath tree path
  pub grows : AreGrowing tree b path grown
  pub named : AreNamed searches

-- the searches that percolate are told as the machine tells them
abbrev pub PercolatesOnPath : Type 0
PercolatesOnPath =
    (tree : Tree) (d : Descent) (grown : List Growing) (searches : List HeldSearch) → GrowsOnPath tree d.box d.path grown searches
    → told_pairs (percolating_on searches grown) ≡ percolating tree d (tree_searches searches)

-- where they are attached, each search is one that was let in
abbrev pub PercolatingIsLetIn : Type 0
PercolatingIsLetIn =
    (tree : Tree) (b : Corners) (path : List ℕ) (grown : List Growing) (searches : List HeldSearch) → GrowsOnPath tree b path grown searches
    → (x : HeldSearch) (stack : List (ℕ × ℕ)) (found : List ℤ) → Has searches x
    → IsLike (search_of (with_pages (percolating_on searches grown) x) stack found) (let_in tree path b (search_of x stack found))

-- the entry is tested against those that the machine says, and the same stand in its way
pub record TestsAs (tree : Tree) (d : Descent) (searches : List HeldSearch) (placing : Placing) (more : List Percolation) : Type 0 where
  pub tested_is : length (filter_map (tested placing more) searches) ≡ length (tested_of tree d placing.session (tree_searches searches))
  pub in_the_way_is : map as_told (in_the_way placing more searches) ≡ in_the_way_of tree d placing.session (tree_searches searches)

abbrev pub TestedOnPath : Type 0
TestedOnPath =
    (tree : Tree) (d : Descent) (grown : List Growing) (searches : List HeldSearch) (placing : Placing) → GrowsOnPath tree d.box d.path grown searches
    → Has d.path placing.leaf.0 → last_page d.path ≡ placing.leaf.0 → d.box ≡ placing.b
    → TestsAs tree d searches placing (percolating_on searches grown)

-- a search that is copied is one that the machine copies
abbrev pub CopiesAreAlike : Type 0
CopiesAreAlike =
    (p q : ℕ) (box : Corners) (x : HeldSearch) (y : Search) (stack : List (ℕ × ℕ)) (found : List ℤ) → IsLike (search_of x stack found) y
    → IsLike (search_of (copied_on p q box x) stack found) (copied p q box y)

-- the same search of the same tree, on the same pages, in whatever order and however often
pub record IsSameSearch (x y : TreeSearch) : Type 0 where
  pub table : x.table ≡ y.table
  pub column : x.column ≡ y.column
  pub session : x.search.session ≡ y.search.session
  pub predicate : x.search.predicate ≡ y.search.predicate
  pub on : (q : ℕ) → Has x.search.on q → Has y.search.on q
  pub on_back : (q : ℕ) → Has y.search.on q → Has x.search.on q

-- the order of the pages that searches are on says nothing
abbrev pub OrderLeavesPercolation : Type 0
OrderLeavesPercolation = (tree : Tree) (d : Descent) (xs ys : List TreeSearch) → AllZip IsSameSearch xs ys → PlaceAlike tree d xs ys

-- searches of other trees, which are on no page of the path, say nothing
abbrev pub OtherTreesStayOut : Type 0
OtherTreesStayOut =
    (tree : Tree) (d : Descent) (searches : List TreeSearch)
    → ((x : TreeSearch) (q : ℕ) → Has searches x → is_of_tree d.table d.column x ≡ false → Has d.path q → Has x.search.on q → ⊥)
    → PlaceAlike tree d searches (searches_of searches d)
