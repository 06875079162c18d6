-- What a visit brings a search nearer to.
use Rattle.std.specs.Prelude.{◌≡◌, ◌⊎◌, ◌<◌, [], length, None}
use Rattle.std.specs.List.{last_or}
use Rattle.isp_forest.specs.Tree.{Tree}
use Rattle.isp_forest.specs.Forest.{Forest}
use Rattle.isp_forest.specs.Search.{Covered, Search}
use Rattle.isp_searches.specs.SearchLaws.{away}
use Rattle.isp_events.specs.Reading.{visited}
use Rattle.isp_measure.specs.Measure.{seen_from}

-- it comes to a page that is new to the search; or the search remembers fewer pages; or as many, and has one page less to come to again before
-- it comes to a new one, on the walk from the page that it remembers last
abbrev pub ComesOn : Tree → Search → Search → Type 0
ComesOn tree x y =
    (away tree y < away tree x)
    ⊎ (away tree y ≡ away tree x) × ((length y.stack < length x.stack)
    ⊎ (length y.stack ≡ length x.stack) × (seen_from tree y.on (last_or None y.stack) < seen_from tree x.on (last_or None x.stack)))

-- so does each visit of a search that remembers a page, where the tree is a linked forest and the search is covered
abbrev pub VisitComesOn : Type 0
VisitComesOn = (tree : Tree) (x : Search) → Forest tree → Covered tree x → (x.stack ≡ [] → ⊥) → ComesOn tree x (visited tree x)
