-- The divisions of a plan once the numbers of its new pages are known, and what holds of them: there is one plan, and exactly the
-- pages with more entries than the fan-out are divided.
use Rattle.std.specs.Prelude.{◌≡◌, ℕ, ℤ, ◌+◌, ◌≤◌, Option, Some, None, List, [], ◌∷◌, ◌++◌, length, map, reverse}
use Rattle.std.specs.Option.{option_map}
use Rattle.isp_base.specs.Lists.{Has, times}
use Rattle.isp_base.specs.declared.page_no.PageNo.{PageNo}
use Rattle.isp_format.specs.Control.{IsFanout}
use Rattle.isp_mbr.specs.Boxes.{IsBox}
use Rattle.isp_mbr.specs.Corners.{Corners}
use Rattle.isp_forest.specs.declared.entry.Entry.{Entry}
use Rattle.isp_forest.specs.declared.entry.To.{To}
use Rattle.isp_forest.specs.declared.entry.To.TheVariants.{Child, Row}
use Rattle.isp_forest.specs.Forest.{Forest}
use Rattle.isp_forest.specs.Place.{CanRelieve, Division, IsFree, Stands}
use Rattle.isp_forest.specs.Steps.{add}
use Rattle.isp_forest.specs.Tree.{Node, Tree, page_at}
use Rattle.isp_rplan.specs.Plans.{DividesAll, IsPlan, known, moves_of}
use Rattle.isp_rplan.specs.declared.steps.Carry.{Carry}
use Rattle.isp_rplan.specs.declared.steps.Carry.TheVariants.{Added}
use Rattle.isp_rplan.specs.declared.steps.Moves.{Moves}
use Rattle.isp_rplan.specs.declared.steps.NodeHead.{NodeHead}
use Rattle.isp_rplan.specs.declared.steps.PathPage.{PathPage}
use Rattle.isp_rplan.specs.declared.steps.Planned.{Planned}

-- ---- one plan

-- what is made of a page, as lists
pub record Made : Type 0 where
  pub page : PageNo
  pub head : NodeHead
  pub stays : List Entry
  pub moves : Option (List Entry)
  pub round : Option Corners

abbrev pub round_of : Option Moves → Option Corners
round_of moves = option_map (λ (m : Moves). m.round) moves

abbrev pub made_of : Planned → Made
made_of s = record { page = s.page; head = s.head; stays = s.stays.items; moves = moves_of s; round = round_of s.moves }

-- two plans for the same pages make the same of them
abbrev pub OnePlan : Type 0
OnePlan =
    (fanout : ℕ) (b : Corners) (pages : List PathPage) (carry : Carry) (steps other : List Planned)
    → IsPlan fanout b pages carry steps → IsPlan fanout b pages carry other → map made_of steps ≡ map made_of other

-- ---- the divisions of a plan, whose steps are given from the leaf up, as are the new pages: the page of a raised root's content
-- stands before its right one

-- the entries that stay on a page, where its new one leads there
abbrev pub stays_of : To → Planned → List Entry
stays_of to s = map (known to) s.stays.items

-- where a new entry leads, and the new pages that are left, behind a page
abbrev pub known_after : To → Option (List Entry) → List PageNo → To
known_after to None news = to
known_after to (Some moves) [] = to
known_after to (Some moves) (n ∷ news) = Child n

abbrev pub news_after : Option (List Entry) → List PageNo → List PageNo
news_after None news = news
news_after (Some moves) [] = []
news_after (Some moves) (n ∷ news) = news

-- how many pages a plan needs: one for each division, and one more where the root is raised
abbrev pub needs : Option (List Entry) → ℕ
needs None = 0
needs (Some moves) = 1

abbrev pub pages_needed : List Planned → ℕ
pages_needed [] = 0
pages_needed (s ∷ []) = needs (moves_of s) + needs (moves_of s)
pages_needed (s ∷ next ∷ steps) = needs (moves_of s) + pages_needed (next ∷ steps)

abbrev pub division : To → Planned → List Entry → PageNo → Division
division to s moves n = record { page = n.0; left = stays_of to s; right = map (known to) moves }

abbrev pub division_page : To → Planned → Option (List Entry) → List PageNo → List Division
division_page to s None news = []
division_page to s (Some moves) (n ∷ news) = division to s moves n ∷ []
division_page to s (Some moves) [] = []

abbrev pub division_root : To → Planned → Option (List Entry) → List PageNo → List Division
division_root to s None news = []
division_root to s (Some moves) (q ∷ n ∷ news) = division to s moves n ∷ []
division_root to s (Some moves) (q ∷ []) = []
division_root to s (Some moves) [] = []

abbrev pub divisions : To → List Planned → List PageNo → List Division
divisions to [] news = []
divisions to (s ∷ []) news = division_root to s (moves_of s) news
divisions to (s ∷ next ∷ steps) news =
    division_page to s (moves_of s) news ++ divisions (known_after to (moves_of s) news) (next ∷ steps) (news_after (moves_of s) news)

-- the page that the content of a raised root moves to
abbrev pub raised_to : List Planned → List PageNo → ℕ
raised_to [] news = 0
raised_to (s ∷ []) [] = 0
raised_to (s ∷ []) (q ∷ news) = q.0
raised_to (s ∷ next ∷ steps) news = raised_to (next ∷ steps) (news_after (moves_of s) news)

-- ---- what holds of them

-- the numbers of the pages
abbrev pub page_numbers : List PathPage → List ℕ
page_numbers [] = []
page_numbers (p ∷ pages) = p.page.0 ∷ page_numbers pages

-- the page of the tree has these entries
pub record HasEntries (tree : Tree) (q : ℕ) (entries : List Entry) : Type 0 where
  pub node : Node
  pub there : page_at tree q ≡ Some node
  pub entries_are : node.entries ≡ entries

abbrev pub number_of : PageNo → ℕ
number_of n = n.0

-- pages that no tree has, each another
pub record AreNew (tree : Tree) (news : List PageNo) : Type 0 where
  pub free : (n : PageNo) → Has news n → IsFree tree n.0
  pub once : (q : ℕ) → times q (0 ∷ map number_of news) ≤ 1

-- the pages of a path that stands in a whole tree, from the root down, none with more entries than the fan-out; a plan for an entry
-- with the box b, from the leaf up; and pages that no tree has, as many as the plan needs
pub record CanDivide (fanout : ℕ) (tree : Tree) (pages : List PathPage) (b : Corners) (steps : List Planned) (news : List PageNo) : Type 0 where
  pub fan : IsFanout fanout
  pub forest : Forest tree
  pub none : page_at tree 0 ≡ None
  pub stands : Stands tree (page_numbers pages)
  pub has : (p : PathPage) → Has pages p → HasEntries tree p.page.0 p.entries.items
  pub few : (p : PathPage) → Has pages p → length p.entries.items ≤ fanout
  pub box : IsBox b
  pub plan : IsPlan fanout b (reverse pages) (Added b) steps
  pub new : AreNew tree news
  pub enough : pages_needed steps ≤ length news

-- the divisions of these steps are those that may be made from the page at hand up, and exactly the pages that overflow are divided
pub record AreDue (fanout : ℕ) (tree : Tree) (up : List ℕ) (to : To) (steps : List Planned) (news : List PageNo) : Type 0 where
  pub can : CanRelieve tree (raised_to steps news) up (divisions to steps news)
  pub all : DividesAll fanout tree (raised_to steps news) up (divisions to steps news)

abbrev pub PlanDivides : Type 0
PlanDivides =
    (fanout : ℕ) (tree : Tree) (pages : List PathPage) (b : Corners) (key : ℤ) (number : ℕ) (steps : List Planned) (news : List PageNo)
    → CanDivide fanout tree pages b steps news
    → AreDue fanout (add tree (page_numbers pages) b key number) (reverse (page_numbers pages)) (Row key number) steps news
