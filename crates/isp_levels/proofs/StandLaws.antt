-- A tree as levels in the bytes of pages: it stands on its own pages, and is one at most.
use Rattle.std.proofs.Common.{◌≡◌, ℕ, suc, ℤ, List, [], ◌∷◌, ◌++◌, length, refl, sym, ◌∙◌, ap, subst, arith}
use Rattle.isp_format.specs.Header.{header_of}
use Rattle.isp_format.specs.Inner.{IsInnerPage, Name}
use Rattle.isp_format.specs.Ranges.{Contents, page_of}
use Rattle.isp_format.proofs.PageOnce.{inner_once, leaf_once}
use Rattle.isp_levels.specs.Levels.{BeginsAt, InnerNode, IsTreeOf, Lead, LeavesStand, LevelStands, LevelsBegin, LevelsStand, entries_of, first_page, leaf_names, leaf_pages, level_pages, names_of, node_pages, TreeLeaf, least_key}
use Rattle.isp_cells.specs.LeafPages.{IsLeaf}

-- the same bytes on these pages
abbrev pub Same : List ℕ → Contents → Contents → Type 0
Same [] old new = Unit {0}
Same (page ∷ pages) old new = (page_of new page ≡ page_of old page) × Same pages old new

pub same_first : (xs ys : List ℕ) (old new : Contents) → Same (xs ++ ys) old new → Same xs old new
same_first [] ys old new same = tt
same_first (x ∷ xs) ys old new same = (same.0, same_first xs ys old new same.1)

pub same_second : (xs ys : List ℕ) (old new : Contents) → Same (xs ++ ys) old new → Same ys old new
same_second [] ys old new same = same
same_second (x ∷ xs) ys old new same = same_second xs ys old new same.1

pub level_same : (old new : Contents) (table height : ℕ) (level : List InnerNode) → Same (node_pages level) old new → LevelStands old table height level → LevelStands new table height level
level_same old new table height [] same stands = tt
level_same old new table height (node ∷ level) same stands =
    (subst (λ (bytes : List ℕ). IsInnerPage bytes table node.page height node.names) (sym same.0) stands.0, level_same old new table height level same.1 stands.1)

pub levels_same : (old new : Contents) (table : ℕ) (levels : List (List InnerNode)) → Same (level_pages levels) old new → LevelsStand old table levels → LevelsStand new table levels
levels_same old new table [] same stands = tt
levels_same old new table (level ∷ levels) same stands =
    (level_same old new table (suc (length levels)) level (same_first (node_pages level) (level_pages levels) old new same) stands.0, levels_same old new table levels (same_second (node_pages level) (level_pages levels) old new same) stands.1)

pub leaves_same : (old new : Contents) (table : ℕ) (leaves : List TreeLeaf) → Same (leaf_pages leaves) old new → LeavesStand old table leaves → LeavesStand new table leaves
leaves_same old new table [] same stands = tt
leaves_same old new table (leaf ∷ leaves) same stands =
    (subst (λ (bytes : List ℕ). IsLeaf bytes table leaf.page (first_page leaves) leaf.rows) (sym same.0) stands.0, leaves_same old new table leaves same.1 stands.1)

-- contents with the same bytes on a tree's pages have the same tree
pub levelled_local : (pages : ℕ) (old new : Contents) (table root : ℕ) (levels : List (List InnerNode)) (leaves : List TreeLeaf) → Same (level_pages levels) old new → Same (leaf_pages leaves) old new → IsTreeOf pages old table root levels leaves → IsTreeOf pages new table root levels leaves
levelled_local pages old new table root levels leaves inner outer is = record {
  levelled = is.levelled;
  inner = levels_same old new table levels inner is.inner;
  stand = leaves_same old new table leaves outer is.stand;
  inside = is.inside;
  once = is.once;
  most = is.most;
}

-- ---- a tree is one at most

first_same : (a b : Name) (xs ys : List Name) → a ∷ xs ≡ b ∷ ys → a ≡ b
first_same a b xs ys same = cc

rest_same : (a b : Name) (xs ys : List Name) → a ∷ xs ≡ b ∷ ys → xs ≡ ys
rest_same a b xs ys same = cc

none_some : (a : Name) (xs : List Name) → [] ≡ a ∷ xs → ⊥
none_some a xs same = cc

some_none : (a : Name) (xs : List Name) → a ∷ xs ≡ [] → ⊥
some_none a xs same = cc

abbrev low_of : Name → ℤ
low_of name = name.0

abbrev page_at : Name → ℕ
page_at name = name.1

nodes_once : (contents : Contents) (table other_table height other_height : ℕ) (xs ys : List InnerNode) → names_of xs ≡ names_of ys → LevelStands contents table height xs → LevelStands contents other_table other_height ys → xs ≡ ys
nodes_once contents table other_table height other_height [] [] same one other = refl
nodes_once contents table other_table height other_height [] (y ∷ ys) same one other = absurd (none_some (y.low, y.page) (names_of ys) same)
nodes_once contents table other_table height other_height (x ∷ xs) [] same one other = absurd (some_none (x.low, x.page) (names_of xs) same)
nodes_once contents table other_table height other_height (x ∷ xs) (y ∷ ys) same one other =
    let name : (x.low, x.page) ≡ (y.low, y.page) = first_same (x.low, x.page) (y.low, y.page) (names_of xs) (names_of ys) same in
    let low : x.low ≡ y.low = ap low_of name in
    let page : x.page ≡ y.page = ap page_at name in
    let there : IsInnerPage (page_of contents y.page) table y.page height x.names = subst (λ (p : ℕ). IsInnerPage (page_of contents p) table p height x.names) page one.0 in
    let names : x.names ≡ y.names = inner_once (page_of contents y.page) table y.page height other_table y.page other_height x.names y.names there other.0 in
    let rest = nodes_once contents table other_table height other_height xs ys (rest_same (x.low, x.page) (y.low, y.page) (names_of xs) (names_of ys) same) one.1 other.1 in
    (λ i. record { low = low i; page = page i; names = names i } ∷ rest i)

leaves_once : (contents : Contents) (table other_table : ℕ) (xs ys : List TreeLeaf) → leaf_names xs ≡ leaf_names ys → LeavesStand contents table xs → LeavesStand contents other_table ys → xs ≡ ys
leaves_once contents table other_table [] [] same one other = refl
leaves_once contents table other_table [] (y ∷ ys) same one other = absurd (none_some (y.low, y.page) (leaf_names ys) same)
leaves_once contents table other_table (x ∷ xs) [] same one other = absurd (some_none (x.low, x.page) (leaf_names xs) same)
leaves_once contents table other_table (x ∷ xs) (y ∷ ys) same one other =
    let name : (x.low, x.page) ≡ (y.low, y.page) = first_same (x.low, x.page) (y.low, y.page) (leaf_names xs) (leaf_names ys) same in
    let low : x.low ≡ y.low = ap low_of name in
    let page : x.page ≡ y.page = ap page_at name in
    let there : IsLeaf (page_of contents y.page) table y.page (first_page xs) x.rows = subst (λ (p : ℕ). IsLeaf (page_of contents p) table p (first_page xs) x.rows) page one.0 in
    let rows = (leaf_once (page_of contents y.page) table y.page (first_page xs) other_table y.page (first_page ys) x.rows y.rows there.page other.0.page).rows_are in
    let rest = leaves_once contents table other_table xs ys (rest_same (x.low, x.page) (y.low, y.page) (leaf_names xs) (leaf_names ys) same) one.1 other.1 in
    (λ i. record { low = low i; page = page i; rows = rows i } ∷ rest i)

-- a page isn't a leaf and an inner page
leaf_not_inner : (contents : Contents) (table other_table height : ℕ) (names : List Name) (x : InnerNode) (level : List InnerNode) (leaves : List TreeLeaf) → names_of (x ∷ level) ≡ leaf_names leaves → LevelStands contents table height (x ∷ level) → LeavesStand contents other_table leaves → ⊥
leaf_not_inner contents table other_table height names x level [] same one other = some_none (x.low, x.page) (names_of level) same
leaf_not_inner contents table other_table height names x level (leaf ∷ leaves) same one other =
    let page : x.page ≡ leaf.page = ap page_at (first_same (x.low, x.page) (leaf.low, leaf.page) (names_of level) (leaf_names leaves) same) in
    let inner : (header_of (page_of contents leaf.page)).kind ≡ 5 = ap (λ (p : ℕ). (header_of (page_of contents p)).kind) (sym page) ∙ one.0.head.kind_is in
    let outer : (header_of (page_of contents leaf.page)).kind ≡ 4 = other.0.page.head.kind_is in
    omega (arith, inner, outer)

pub record SameTree (levels others : List (List InnerNode)) (leaves other_leaves : List TreeLeaf) : Type 0 where
  pub levels_are : levels ≡ others
  pub leaves_are : leaves ≡ other_leaves

-- from the same keys and pages, of which there is one at least, lead the same levels down
down_once : (contents : Contents) (table other_table : ℕ) (name : Name) (names : List Name) (levels others : List (List InnerNode)) (leaves other_leaves : List TreeLeaf)
    → Lead (name ∷ names) levels (leaf_names leaves) → Lead (name ∷ names) others (leaf_names other_leaves) → LevelsBegin levels → LevelsStand contents table levels → LevelsStand contents other_table others → LeavesStand contents table leaves → LeavesStand contents other_table other_leaves
    → SameTree levels others leaves other_leaves
down_once contents table other_table name names [] [] leaves other_leaves one other begin inner other_inner stand other_stand = record {
  levels_are = refl;
  leaves_are = leaves_once contents table other_table leaves other_leaves (sym one ∙ other) stand other_stand;
}
down_once contents table other_table name names [] ([] ∷ others) leaves other_leaves one other begin inner other_inner stand other_stand = absurd (none_some name names other.0)
down_once contents table other_table name names [] ((y ∷ level) ∷ others) leaves other_leaves one other begin inner other_inner stand other_stand =
    absurd (leaf_not_inner contents other_table table (suc (length others)) names y level leaves (other.0 ∙ one) other_inner.0 stand)
down_once contents table other_table name names ([] ∷ levels) others leaves other_leaves one other begin inner other_inner stand other_stand = absurd (none_some name names one.0)
down_once contents table other_table name names ((x ∷ level) ∷ levels) [] leaves other_leaves one other begin inner other_inner stand other_stand =
    absurd (leaf_not_inner contents table other_table (suc (length levels)) names x level other_leaves (one.0 ∙ other) inner.0 other_stand)
down_once contents table other_table name names ((x ∷ level) ∷ levels) (other_level ∷ others) leaves other_leaves one other begin inner other_inner stand other_stand =
    let same : x ∷ level ≡ other_level = nodes_once contents table other_table (suc (length levels)) (suc (length others)) (x ∷ level) other_level (one.0 ∙ sym other.0) inner.0 other_inner.0 in
    let below : Lead (entries_of (x ∷ level)) others (leaf_names other_leaves) = subst (λ (l : List InnerNode). Lead (entries_of l) others (leaf_names other_leaves)) (sym same) other.1 in
    deeper x.names begin.0.0 refl one.1 below same (λ first rest down other_down. down_once contents table other_table first rest levels others leaves other_leaves down other_down begin.1 inner.1 other_inner.1 stand other_stand)
  where
    deeper : (first : List Name) → BeginsAt x.low first → x.names ≡ first → Lead (entries_of (x ∷ level)) levels (leaf_names leaves) → Lead (entries_of (x ∷ level)) others (leaf_names other_leaves) → x ∷ level ≡ other_level
        → ((name : Name) (names : List Name) → Lead (name ∷ names) levels (leaf_names leaves) → Lead (name ∷ names) others (leaf_names other_leaves) → SameTree levels others leaves other_leaves)
        → SameTree ((x ∷ level) ∷ levels) (other_level ∷ others) leaves other_leaves
    deeper [] begins is down other_down same below_too = absurd begins
    deeper (first ∷ rest) begins is down other_down same below_too =
        let entries : entries_of (x ∷ level) ≡ first ∷ (rest ++ entries_of level) = ap (λ (l : List Name). l ++ entries_of level) is in
        let t = below_too first (rest ++ entries_of level) (subst (λ (l : List Name). Lead l levels (leaf_names leaves)) entries down) (subst (λ (l : List Name). Lead l others (leaf_names other_leaves)) entries other_down) in
        record {
          levels_are = λ i. same i ∷ t.levels_are i;
          leaves_are = t.leaves_are;
        }

-- two trees of one page are equal
pub levelled_once : (pages other_pages : ℕ) (contents : Contents) (table other_table root : ℕ) (levels others : List (List InnerNode)) (leaves other_leaves : List TreeLeaf) → IsTreeOf pages contents table root levels leaves → IsTreeOf other_pages contents other_table root others other_leaves → SameTree levels others leaves other_leaves
levelled_once pages other_pages contents table other_table root levels others leaves other_leaves one other =
    down_once contents table other_table (least_key, root) [] levels others leaves other_leaves one.levelled.leads other.levelled.leads one.levelled.begin one.inner other.inner one.stand other.stand
