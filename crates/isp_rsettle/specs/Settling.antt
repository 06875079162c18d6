-- The pages of a plan once the numbers of its new entry and its new pages are known: what stands on each page afterwards, from the
-- leaf up. A split draws the next sequence number for the page that stays, and the new page takes its old one and its right link
-- (Kornacker, Mohan and Hellerstein 1997).
use Rattle.std.specs.Prelude.{◌≡◌, ℕ, suc, ◌+◌, ◌*◌, ◌<◌, ◌≤◌, ◌^◌, List, [], ◌∷◌, ◌++◌, Option, Some, None, length, map, vec_capacity}
use Rattle.isp_base.specs.Lists.{Has}
use Rattle.isp_base.specs.declared.page_no.PageNo.{PageNo}
use Rattle.isp_forest.specs.declared.entry.Entry.{Entry}
use Rattle.isp_forest.specs.declared.entry.To.{To}
use Rattle.isp_forest.specs.Steps.{entry_for}
use Rattle.isp_forest.specs.Tree.{Node, least}
use Rattle.isp_rnode.specs.Nodes.{link_of}
use Rattle.isp_rplan.specs.Divisions.{known_after, needs, news_after, stays_of}
use Rattle.isp_rplan.specs.Plans.{known, moves_of}
use Rattle.isp_rplan.specs.declared.steps.Moves.{Moves}
use Rattle.isp_rplan.specs.declared.steps.NodeHead.{NodeHead}
use Rattle.isp_rplan.specs.declared.steps.Planned.{Planned}
use Rattle.isp_rsettle.specs.declared.outcome.Parted.{Parted}
use Rattle.isp_rsettle.specs.declared.outcome.Raised.{Raised}
use Rattle.isp_rsettle.specs.declared.outcome.Room.{Room}
use Rattle.isp_rsettle.specs.declared.outcome.Settled.{Settled}

-- the greatest sequence number
abbrev pub number_limit : ℕ
number_limit = 2 ^ 64

-- a header and entries as a node
abbrev pub node_with : NodeHead → List Entry → Node
node_with h entries = record { level = h.level; ssn = h.ssn; next = link_of h.next.0; entries = entries }

-- a page as it is to be written, as a node with its number
abbrev pub written : Settled → ℕ × Node
written w = (w.page.0, node_with w.head w.entries.items)

abbrev pub nodes_of : List Settled → List (ℕ × Node)
nodes_of list = map written list

-- ---- one page

-- a page that stays whole; the two pages of one that is divided, with the counter before it and the new page
abbrev pub whole_page : To → Planned → Node
whole_page to s = node_with s.head (stays_of to s)

abbrev pub left_page : ℕ → To → Planned → PageNo → Node
left_page counter to s n = record { level = s.head.level; ssn = suc counter; next = link_of n.0; entries = stays_of to s }

abbrev pub right_page : To → Planned → List Entry → Node
right_page to s moves = node_with s.head (map (known to) moves)

-- the root with two pages below it, once it was raised
abbrev pub raised_page : ℕ → Planned → List Entry → PageNo → PageNo → Node
raised_page counter s moves q n = record {
  level = suc s.head.level;
  ssn = suc counter;
  next = None;
  entries = entry_for (least s.stays.items) q.0 ∷ entry_for (least moves) n.0 ∷ [];
}

-- the pages that come of a page below the root, and of the root, where these pages are taken
abbrev pub settled_page : ℕ → To → Planned → Option (List Entry) → List PageNo → List (ℕ × Node)
settled_page counter to s None news = (s.page.0, whole_page to s) ∷ []
settled_page counter to s (Some moves) (n ∷ news) = (s.page.0, left_page counter to s n) ∷ (n.0, right_page to s moves) ∷ []
settled_page counter to s (Some moves) [] = []

abbrev pub settled_root : ℕ → To → Planned → Option (List Entry) → List PageNo → List (ℕ × Node)
settled_root counter to s None news = (s.page.0, record (whole_page to s) { ssn = counter }) ∷ []
settled_root counter to s (Some moves) (q ∷ n ∷ news) =
    (q.0, left_page counter to s n) ∷ (n.0, record (right_page to s moves) { ssn = counter }) ∷ (s.page.0, raised_page counter s moves q n) ∷ []
settled_root counter to s (Some moves) (q ∷ []) = []
settled_root counter to s (Some moves) [] = []

-- ---- all pages, from the leaf up to the root

-- the counter behind a page
abbrev pub counter_after : ℕ → Option (List Entry) → ℕ
counter_after counter None = counter
counter_after counter (Some moves) = suc counter

abbrev pub settled : ℕ → To → List Planned → List PageNo → List (ℕ × Node)
settled counter to [] news = []
settled counter to (s ∷ []) news = settled_root counter to s (moves_of s) news
settled counter to (s ∷ next ∷ steps) news =
    settled_page counter to s (moves_of s) news
    ++ settled (counter_after counter (moves_of s)) (known_after to (moves_of s) news) (next ∷ steps) (news_after (moves_of s) news)

-- how many pages the root needs in addition, where the steps are given from the root down
abbrev pub root_needs : List Planned → ℕ
root_needs [] = 0
root_needs (root ∷ steps) = needs (moves_of root)

-- ---- what was divided, as a call tells it

abbrev pub part : PageNo → Planned → List Entry → PageNo → Parted
part old s moves n = record { old = old; new = n; old_box = least s.stays.items; new_box = least moves }

abbrev pub part_page : Planned → Option (List Entry) → List PageNo → List Parted
part_page s None news = []
part_page s (Some moves) (n ∷ news) = part s.page s moves n ∷ []
part_page s (Some moves) [] = []

abbrev pub part_root : Planned → Option (List Entry) → List PageNo → List Parted
part_root s None news = []
part_root s (Some moves) (q ∷ n ∷ news) = part q s moves n ∷ []
part_root s (Some moves) (q ∷ []) = []
part_root s (Some moves) [] = []

abbrev pub parts : List Planned → List PageNo → List Parted
parts [] news = []
parts (s ∷ []) news = part_root s (moves_of s) news
parts (s ∷ next ∷ steps) news = part_page s (moves_of s) news ++ parts (next ∷ steps) (news_after (moves_of s) news)

abbrev pub raised_root : Option Moves → List PageNo → Option Raised
raised_root None news = None
raised_root (Some m) [] = None
raised_root (Some m) (q ∷ news) = Some (record { page = q; round = m.round })

abbrev pub raised : List Planned → List PageNo → Option Raised
raised [] news = None
raised (s ∷ []) news = raised_root s.moves news
raised (s ∷ next ∷ steps) news = raised (next ∷ steps) (news_after (moves_of s) news)

-- ---- what a plan has to be so that it can be settled

-- the level above that of each page is one that a header has
abbrev pub most_header_level : ℕ
most_header_level = 255

abbrev pub AreLow : List Planned → Type 0
AreLow steps = (s : Planned) → Has steps s → s.head.level < most_header_level

-- no part is empty
abbrev pub AreSome : List Entry → Option (List Entry) → Type 0
AreSome stays None = Unit {0}
AreSome stays (Some moves) = (0 < length stays) × (0 < length moves)

abbrev pub HaveSome : List Planned → Type 0
HaveSome steps = (s : Planned) → Has steps s → AreSome s.stays.items (moves_of s)

-- nothing is there yet, and there is room for what comes of so many pages
pub record HasRoomFor (pages : ℕ) (room : Room) : Type 0 where
  pub no_writes : room.writes.items ≡ []
  pub no_parts : room.parted.items ≡ []
  pub no_root : room.root.items ≡ []
  pub writes : 2 * pages + 1 ≤ vec_capacity room.writes
  pub parts : pages ≤ vec_capacity room.parted
  pub root : 2 ≤ vec_capacity room.root
