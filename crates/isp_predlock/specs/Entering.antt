-- The searches that percolate where the boxes on a path grow, by these boxes alone.
use Rattle.std.specs.Prelude.{◌≡◌, ℕ, ◌==◌, ◌&&◌, ◌||◌, Bool, not, cond, List, [], ◌∷◌, ◌++◌, filter_map, Option, Some, None}
use Rattle.std.specs.List.{list_any}
use Rattle.isp_mbr.specs.Boxes.{union}
use Rattle.isp_mbr.specs.Corners.{Corners}
use Rattle.isp_mbr.specs.Predicates.{may_hold}
use Rattle.isp_mbr.specs.declared.predicate.Predicate.{Predicate}
use Rattle.isp_forest.specs.declared.entry.Entry.{Entry}
use Rattle.isp_forest.specs.Place.{Names}
use Rattle.isp_forest.specs.Steps.{is_among}
use Rattle.isp_forest.specs.Tree.{Tree}
use Rattle.isp_predlock.specs.declared.entries.Growing.{Growing}
use Rattle.isp_predlock.specs.declared.entries.Percolation.{Percolation}
use Rattle.isp_predlock.specs.Tables.{HeldSearch, id_told}

-- ---- what grows

-- the entry of page p for page q, by its boxes before and after the box b is added below it
pub record IsGrowing (tree : Tree) (b : Corners) (p q : ℕ) (g : Growing) : Type 0 where
  pub parent_is : g.parent.0 ≡ p
  pub child_is : g.child.0 ≡ q
  pub entry : Entry
  pub names : Names tree p q entry
  pub old_is : g.old ≡ entry.b
  pub new_is : g.new ≡ union entry.b b

-- one for each page of the path but the first
abbrev pub AreGrowing : Tree → Corners → List ℕ → List Growing → Type 0
AreGrowing tree b [] grown = grown ≡ []
AreGrowing tree b (p ∷ []) grown = grown ≡ []
AreGrowing tree b (p ∷ q ∷ rest) [] = ⊥
AreGrowing tree b (p ∷ q ∷ rest) (g ∷ grown) = IsGrowing tree b p q g × AreGrowing tree b (q ∷ rest) grown

-- ---- who percolates

-- the child's box can't hold what the predicate asks for, and can when it has grown
abbrev pub lets_through : Predicate → Growing → Bool
lets_through predicate g = not (may_hold predicate g.old) && may_hold predicate g.new

-- the list has the search of that number with page q
abbrev pub listed : List Percolation → ℕ → ℕ → Bool
listed list id q = list_any (λ (found : Percolation). (found.search.0 == id) && (found.page.0 == q)) list

-- the search goes on from the parent, which it is on or has percolated to, to the child
abbrev pub goes_on : List Percolation → Growing → HeldSearch → Bool
goes_on list g x = (is_among x.on g.parent.0 || listed list x.id g.parent.0) && lets_through x.sought.predicate g

-- and is told with the child
abbrev pub entered : List Percolation → Growing → HeldSearch → Option Percolation
entered list g x = cond (goes_on list g x) (Some (record { search = id_told x; session = x.sought.session; page = g.child })) None

-- the list with all that percolate where these boxes grow, one after another
abbrev pub percolating_after : List HeldSearch → List Growing → List Percolation → List Percolation
percolating_after searches [] list = list
percolating_after searches (g ∷ grown) list = percolating_after searches grown (list ++ filter_map (entered list g) searches)

abbrev pub percolating_on : List HeldSearch → List Growing → List Percolation
percolating_on searches grown = percolating_after searches grown []
