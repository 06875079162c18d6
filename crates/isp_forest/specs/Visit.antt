-- One visit of a search: the page that it remembers last is taken off its stack. Where the page was split since, its right
-- link is remembered with the same number. Where the search is new to the page, it is attached to it, and then
-- remembers the children that may hold its predicate, or finds the keys that satisfy it (Kornacker, Mohan and Hellerstein 1997).
use Rattle.std.specs.Prelude.{ℕ, ℤ, ◌==◌, cond, Option, Some, None, List, [], ◌∷◌, ◌++◌}
use Rattle.isp_mbr.specs.Predicates.{satisfies, may_hold}
use Rattle.isp_mbr.specs.declared.predicate.Predicate.{Predicate}
use Rattle.isp_forest.specs.declared.entry.Entry.{Entry}
use Rattle.isp_forest.specs.declared.entry.To.{To}
use Rattle.isp_forest.specs.declared.entry.To.TheVariants.{Child, Row}
use Rattle.isp_forest.specs.Tree.{Node, Tree, page_at, counter, child_of}
use Rattle.isp_forest.specs.Walk.{split_since}
use Rattle.isp_forest.specs.Steps.{is_among}
use Rattle.isp_forest.specs.Search.{Search}

abbrev pub remembered : ℕ → Option ℕ → List (ℕ × ℕ)
remembered s None = []
remembered s (Some q) = (q, s) ∷ []

-- the children that may hold the predicate, in the order of their entries, each with the tree's counter
abbrev pub to_visit : Predicate → ℕ → List Entry → List (ℕ × ℕ)
to_visit predicate now [] = []
to_visit predicate now (e ∷ es) = cond (may_hold predicate e.b) (remembered now (child_of e)) [] ++ to_visit predicate now es

abbrev pub key_in : To → List ℤ
key_in (Child p) = []
key_in (Row key number) = key ∷ []

-- the keys of the entries that satisfy the predicate, in their order
abbrev pub to_find : Predicate → List Entry → List ℤ
to_find predicate [] = []
to_find predicate (e ∷ es) = cond (satisfies predicate e.b) (key_in e.to) [] ++ to_find predicate es

-- the search before its first visit
abbrev pub begun : Tree → ℕ → ℕ → Predicate → Search
begun tree session statement predicate = record {
  session = session;
  statement = statement;
  predicate = predicate;
  on = [];
  stack = (tree.root, counter tree) ∷ [];
  found = [];
}

-- what a first look at page p adds
abbrev pub looked_at : ℕ → Node → ℕ → Search → Search
looked_at now page p x = record x {
  on = x.on ++ p ∷ [];
  stack = x.stack ++ cond (page.level == 0) [] (to_visit x.predicate now page.entries);
  found = x.found ++ cond (page.level == 0) (to_find x.predicate page.entries) [];
}

abbrev pub visited_at : Tree → ℕ → ℕ → Option Node → Search → Search
visited_at tree p s None x = x
visited_at tree p s (Some page) x =
    let behind = record x { stack = x.stack ++ remembered s (split_since s (Some page)) } in
    cond (is_among x.on p) behind (looked_at (counter tree) page p behind)

-- the search after it took (p, s) off its stack, which left `rest`
abbrev pub visit : Tree → List (ℕ × ℕ) → ℕ → ℕ → Search → Search
visit tree rest p s x = visited_at tree p s (page_at tree p) (record x { stack = rest })
