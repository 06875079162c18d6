-- The small steps that an insert or a purge is made of, as functions on a tree: an entry is added and the boxes on the way
-- grow (Guttman 1984), an overflowing root is raised, an overflowing page is split with the exchange of sequence numbers
-- and right links by which a search finds the new page (Kornacker, Mohan and Hellerstein 1997), an entry is removed.
-- Which pages an insert divides, and how, is free: the code's choices are no part of this.
use Rattle.std.specs.Prelude.{ℕ, suc, ℤ, ◌==◌, Bool, false, not, cond, Option, Some, None, List, [], ◌∷◌, ◌++◌, map, filter}
use Rattle.std.specs.List.{list_any}
use Rattle.isp_mbr.specs.Corners.{Corners}
use Rattle.isp_mbr.specs.Boxes.{union}
use Rattle.isp_forest.specs.declared.entry.Entry.{Entry}
use Rattle.isp_forest.specs.declared.entry.To.{To}
use Rattle.isp_forest.specs.declared.entry.To.TheVariants.{Child, Row}
use Rattle.isp_forest.specs.Tree.{Node, Tree, page_at, counter, child_of, least}

-- the pages with this one under its number: in the place of the page there, or added last
abbrev pub put : ℕ → Node → List (ℕ × Node) → List (ℕ × Node)
put q page [] = (q, page) ∷ []
put q page (p ∷ rest) = cond (p.0 == q) ((q, page) ∷ rest) (p ∷ put q page rest)

-- each page changed, by its number
abbrev pub each : (ℕ → Node → Node) → List (ℕ × Node) → List (ℕ × Node)
each f [] = []
each f (p ∷ rest) = (p.0, f p.0 p.1) ∷ each f rest

abbrev pub is_among : List ℕ → ℕ → Bool
is_among ps q = list_any (λ p. p == q) ps

-- the entry names a page that passes the test
abbrev pub names : (ℕ → Bool) → Option ℕ → Bool
names test None = false
names test (Some q) = test q

abbrev pub entry_for : Corners → ℕ → Entry
entry_for b q = record { b = b; to = Child (record { 0 = q }) }

-- ---- add: the pages on a path, from the root down to a leaf, and the box, key and number of an entry for that leaf

abbrev pub is_last : List ℕ → ℕ → Bool
is_last [] q = false
is_last (p ∷ []) q = p == q
is_last (p ∷ r ∷ rest) q = is_last (r ∷ rest) q

-- an entry that names a page of the path grows round the box
abbrev pub widened : List ℕ → Corners → Entry → Entry
widened path b e = record { b = cond (names (is_among path) (child_of e)) (union e.b b) e.b; to = e.to }

abbrev pub added_to : List ℕ → Corners → ℤ → ℕ → ℕ → Node → Node
added_to path b key number q page =
    record page { entries = map (widened path b) page.entries ++ cond (is_last path q) (record { b = b; to = Row key number } ∷ []) [] }

abbrev pub add : Tree → List ℕ → Corners → ℤ → ℕ → Tree
add tree path b key number = record tree { pages = each (added_to path b key number) tree.pages }

-- ---- raise: the root's content moves to page q, which no tree has, and the root gets an entry for it

abbrev pub raised : Tree → ℕ → Option Node → Tree
raised tree q None = tree
raised tree q (Some top) = record tree {
  pages = put tree.root (record { level = suc top.level; ssn = top.ssn; next = None; entries = entry_for (least top.entries) q ∷ [] }) (put q (record top { next = None }) tree.pages);
}

abbrev pub raise : Tree → ℕ → Tree
raise tree q = raised tree q (page_at tree tree.root)

-- ---- split: page o, which the page above names, keeps the left part and gets the next number of the counter; page n,
-- which no tree has, gets the right part with o's former number and right link, and o's right link leads to it

abbrev pub reboxed : ℕ → Corners → Entry → Entry
reboxed o b e = record { b = cond (names (λ q. q == o) (child_of e)) b e.b; to = e.to }

abbrev pub split_round : Tree → ℕ → ℕ → List Entry → List Entry → ℕ → ℕ → Node → Node
split_round tree o above left right n q page = record page {
  ssn = cond (q == tree.root) (suc (counter tree)) page.ssn;
  entries = map (reboxed o (least left)) page.entries ++ cond (q == above) (entry_for (least right) n ∷ []) [];
}

abbrev pub split_of : Tree → ℕ → ℕ → List Entry → List Entry → ℕ → Option Node → Tree
split_of tree o above left right n None = tree
split_of tree o above left right n (Some page) = record tree {
  pages = put n (record page { entries = right }) (put o (record { level = page.level; ssn = suc (counter tree); next = Some n; entries = left }) (each (split_round tree o above left right n) tree.pages));
}

abbrev pub split : Tree → ℕ → ℕ → List Entry → List Entry → ℕ → Tree
split tree o above left right n = split_of tree o above left right n (page_at tree o)

-- a list of pages with page n put after page o
abbrev pub put_after : ℕ → ℕ → List ℕ → List ℕ
put_after o n [] = []
put_after o n (p ∷ rest) = cond (p == o) (p ∷ n ∷ put_after o n rest) (p ∷ put_after o n rest)

-- ---- remove: the entry with that number leaves its leaf; no box shrinks

abbrev pub is_row : ℕ → To → Bool
is_row number (Child p) = false
is_row number (Row key m) = m == number

abbrev pub without : ℕ → ℕ → Node → Node
without number q page = record page { entries = filter (λ e. not (is_row number e.to)) page.entries }

abbrev pub remove : Tree → ℕ → Tree
remove tree number = record tree { pages = each (without number) tree.pages }
