-- The way down a tree, page by page.
use Rattle.std.proofs.Common.{◌≡◌, ℕ, suc, ◌<◌, ◌≤◌, ℤ, Bool, true, false, List, [], ◌∷◌, ◌++◌, length, Option, Some, None, refl, sym, ◌∙◌, ap, subst, arith, if◌then◌else◌}
use Rattle.std.specs.Prelude.{All, FitsSigned, int_le, int_lt}
use Rattle.std.specs.Int.{w64}
use Rattle.std.specs.Option.{option_map}
use Rattle.std.proofs.lemmas.Int.{ints}
use Rattle.isp_format.specs.Header.{header_of}
use Rattle.isp_format.specs.Inner.{IsInnerPage, Name}
use Rattle.isp_format.specs.Leaf.{IsLeafPage, IsStored, Stored}
use Rattle.isp_format.specs.Ranges.{Contents, page_of}
use Rattle.isp_levels.specs.Inners.{OnWay, SaysRoot, page_in_leaf, page_in_name}
use Rattle.isp_levels.specs.Levels.{AllBegin, ArePages, BeginsAt, InnerNode, IsLevelled, IsTreeOf, Lead, LeavesStand, LevelStands, LevelsBegin, LevelsInside, LevelsStand, LieFrom, LiesBefore, NamesInside, all_rows, entries_of, find_in, first_page, leaf_names, leaf_pages, level_pages, names_of, node_pages, or_else, pick, pick_in, pick_leaf, pick_node, TreeLeaf, least_key}
use Rattle.isp_cells.specs.Rows.{find}
use Rattle.isp_cells.specs.LeafPages.{IsLeaf}
use Rattle.isp_levels.proofs.LevelLaws.{descends, found_on, lead_rises, leaf_picked, leaves_rise, node_picked}

pub least_le : (key : ℤ) → FitsSigned w64 key → int_le least_key key ≡ true
unfolding least_key
least_le key fits = grind (arith, ints, fits)

some_page : (a b : ℕ) → Some a ≡ Some b → a ≡ b
some_page a b same = cc

first_page_is : (a b : Name) (xs ys : List Name) → a ∷ xs ≡ b ∷ ys → a.1 ≡ b.1
first_page_is a b xs ys same = let is : a ≡ b = cc in ap (λ (n : Name). n.1) is

first_key_is : (a b : Name) (xs ys : List Name) → a ∷ xs ≡ b ∷ ys → a.0 ≡ b.0
first_key_is a b xs ys same = let is : a ≡ b = cc in ap (λ (n : Name). n.0) is

-- ---- what the entries name is a page of the file

pub pages_first : (pages : ℕ) (xs ys : List ℕ) → ArePages pages (xs ++ ys) → ArePages pages xs
pages_first pages [] ys all = tt
pages_first pages (x ∷ xs) ys all = (all.0, all.1, pages_first pages xs ys all.2)

pub pages_second : (pages : ℕ) (xs ys : List ℕ) → ArePages pages (xs ++ ys) → ArePages pages ys
pages_second pages [] ys all = all
pages_second pages (x ∷ xs) ys all = pages_second pages xs ys all.2

nodes_inside : (pages : ℕ) (level : List InnerNode) → ArePages pages (node_pages level) → NamesInside pages (names_of level)
nodes_inside pages [] all = tt
nodes_inside pages (node ∷ level) all = (all.1, nodes_inside pages level all.2)

leaves_inside : (pages : ℕ) (leaves : List TreeLeaf) → ArePages pages (leaf_pages leaves) → NamesInside pages (leaf_names leaves)
leaves_inside pages [] all = tt
leaves_inside pages (leaf ∷ leaves) all = (all.1, leaves_inside pages leaves all.2)

pub names_inside : (pages : ℕ) (names : List Name) (levels : List (List InnerNode)) (leaves : List TreeLeaf) → Lead names levels (leaf_names leaves) → ArePages pages (level_pages levels) → ArePages pages (leaf_pages leaves) → NamesInside pages names
names_inside pages names [] leaves leads inner outer = subst (NamesInside pages) (sym leads) (leaves_inside pages leaves outer)
names_inside pages names (level ∷ levels) leaves leads inner outer = subst (NamesInside pages) leads.0 (nodes_inside pages level (pages_first pages (node_pages level) (level_pages levels) inner))

pub levels_inside : (pages : ℕ) (names : List Name) (levels : List (List InnerNode)) (leaves : List TreeLeaf) → Lead names levels (leaf_names leaves) → ArePages pages (level_pages levels) → ArePages pages (leaf_pages leaves) → LevelsInside pages levels
levels_inside pages names [] leaves leads inner outer = tt
levels_inside pages names (level ∷ levels) leaves leads inner outer =
    let below = pages_second pages (node_pages level) (level_pages levels) inner in
    (names_inside pages (entries_of level) levels leaves leads.1 below outer, levels_inside pages (entries_of level) levels leaves leads.1 below outer)

-- ---- the root

pub root_says : (pages : ℕ) (contents : Contents) (table root : ℕ) (levels : List (List InnerNode)) (leaves : List TreeLeaf) → IsTreeOf pages contents table root levels leaves → SaysRoot root (length levels) (header_of (page_of contents root))
root_says pages contents table root levels leaves is = by levels leaves is.levelled.leads is.inner is.stand is.most
  where
    by : (levels : List (List InnerNode)) (leaves : List TreeLeaf) → Lead ((least_key, root) ∷ []) levels (leaf_names leaves) → LevelsStand contents table levels → LeavesStand contents table leaves → length levels ≤ 15 → SaysRoot root (length levels) (header_of (page_of contents root))
    by [] [] leads inner stand most = absurd (let no : (least_key, root) ∷ [] ≡ [] = leads in cc)
    by [] (leaf ∷ leaves) leads inner stand most =
        let page : root ≡ leaf.page = first_page_is (least_key, root) (leaf.low, leaf.page) [] (leaf_names leaves) leads in
        let head = stand.0.page.head in
        let kind = head.kind_is in
        let says : SaysRoot leaf.page 0 (header_of (page_of contents leaf.page)) = record { from = omega (arith, kind); to = omega (arith, kind); own = head.own_is; level = head.level_is; most = omega arith } in
        subst (λ (p : ℕ). SaysRoot p 0 (header_of (page_of contents p))) (sym page) says
    by ([] ∷ levels) leaves leads inner stand most = absurd (let no : [] ≡ (least_key, root) ∷ [] = leads.0 in cc)
    by ((node ∷ level) ∷ levels) leaves leads inner stand most =
        let page : node.page ≡ root = first_page_is (node.low, node.page) (least_key, root) (names_of level) [] leads.0 in
        let head = inner.0.0.head in
        let kind = head.kind_is in
        let says : SaysRoot node.page (suc (length levels)) (header_of (page_of contents node.page)) = record { from = omega (arith, kind); to = omega (arith, kind); own = head.own_is; level = head.level_is; most = most } in
        subst (λ (p : ℕ). SaysRoot p (suc (length levels)) (header_of (page_of contents p))) page says

pub way_begins : (pages : ℕ) (contents : Contents) (table root : ℕ) (levels : List (List InnerNode)) (leaves : List TreeLeaf) (key : ℤ) (height : ℕ) → FitsSigned w64 key → IsTreeOf pages contents table root levels leaves → height ≡ (header_of (page_of contents root)).level → OnWay pages contents table leaves key root height
way_begins pages contents table root levels leaves key height fits is high = record {
  names = (least_key, root) ∷ [];
  levels = levels;
  leads = is.levelled.leads;
  begin = is.levelled.begin;
  stand = is.inner;
  inside = levels_inside pages ((least_key, root) ∷ []) levels leaves is.levelled.leads (pages_second pages (leaf_pages leaves) (level_pages levels) is.inside) (pages_first pages (leaf_pages leaves) (level_pages levels) is.inside);
  ranged = is.levelled.ranged;
  high = sym (high ∙ (root_says pages contents table root levels leaves is).level);
  picked = ap (λ (b : Bool). page_in_name (if b then Some (least_key, root) else None)) (least_le key fits);
}

-- ---- one level down

node_near : (key : ℤ) (level : List InnerNode) (m : InnerNode) → pick_node key level ≡ Some m → int_le m.low key ≡ true
node_near key [] m is = absurd (let no : None ≡ Some m = is in cc)
node_near key (node ∷ level) m is = by (pick_node key level) (int_le node.low key) refl refl is (node_near key level m)
  where
    by : (o : Option InnerNode) (b : Bool) → pick_node key level ≡ o → int_le node.low key ≡ b → or_else o (if b then Some node else None) ≡ Some m → (pick_node key level ≡ Some m → int_le m.low key ≡ true) → int_le m.low key ≡ true
    by (Some n) b below near same deeper = deeper (below ∙ same)
    by None true below near same deeper = let is : node ≡ m = cc in subst (λ (n : InnerNode). int_le n.low key ≡ true) is near
    by None false below near same deeper = absurd (let no : None ≡ Some m = same in cc)

node_begins : (key : ℤ) (level : List InnerNode) (m : InnerNode) → AllBegin level → pick_node key level ≡ Some m → BeginsAt m.low m.names
node_begins key [] m all is = absurd (let no : None ≡ Some m = is in cc)
node_begins key (node ∷ level) m all is = by (pick_node key level) (int_le node.low key) refl is (node_begins key level m all.1)
  where
    by : (o : Option InnerNode) (b : Bool) → pick_node key level ≡ o → or_else o (if b then Some node else None) ≡ Some m → (pick_node key level ≡ Some m → BeginsAt m.low m.names) → BeginsAt m.low m.names
    by (Some n) b below same deeper = deeper (below ∙ same)
    by None true below same deeper = let is : node ≡ m = cc in subst (λ (n : InnerNode). BeginsAt n.low n.names) is all.0
    by None false below same deeper = absurd (let no : None ≡ Some m = same in cc)

node_stands : (contents : Contents) (table height : ℕ) (key : ℤ) (level : List InnerNode) (m : InnerNode) → LevelStands contents table height level → pick_node key level ≡ Some m → IsInnerPage (page_of contents m.page) table m.page height m.names
node_stands contents table height key [] m stand is = absurd (let no : None ≡ Some m = is in cc)
node_stands contents table height key (node ∷ level) m stand is = by (pick_node key level) (int_le node.low key) refl is (node_stands contents table height key level m stand.1)
  where
    by : (o : Option InnerNode) (b : Bool) → pick_node key level ≡ o → or_else o (if b then Some node else None) ≡ Some m → (pick_node key level ≡ Some m → IsInnerPage (page_of contents m.page) table m.page height m.names) → IsInnerPage (page_of contents m.page) table m.page height m.names
    by (Some n) b below same deeper = deeper (below ∙ same)
    by None true below same deeper = let is : node ≡ m = cc in subst (λ (n : InnerNode). IsInnerPage (page_of contents n.page) table n.page height n.names) is stand.0
    by None false below same deeper = absurd (let no : None ≡ Some m = same in cc)

-- a page that begins at the key or before it has an entry to go on by
some_picked : (key low : ℤ) (names : List Name) → BeginsAt low names → int_le low key ≡ true → (n : Name) × (pick key names ≡ Some n)
some_picked key low [] begins near = absurd begins
some_picked key low (first ∷ rest) begins near = by (pick key rest) (int_le first.0 key) (ap (λ (k : ℤ). int_le k key) begins ∙ near)
  where
    by : (o : Option Name) (b : Bool) → b ≡ true → (n : Name) × (or_else o (if b then Some first else None) ≡ Some n)
    by (Some n) b is = (n, refl)
    by None true is = (first, refl)
    by None false is = absurd (let no : false ≡ true = is in cc)

picked_inside : (pages : ℕ) (key : ℤ) (names : List Name) (n : Name) → NamesInside pages names → pick key names ≡ Some n → n.1 < pages
picked_inside pages key [] n inside is = absurd (let no : None ≡ Some n = is in cc)
picked_inside pages key (name ∷ names) n inside is = by (pick key names) (int_le name.0 key) refl is (picked_inside pages key names n inside.1)
  where
    by : (o : Option Name) (b : Bool) → pick key names ≡ o → or_else o (if b then Some name else None) ≡ Some n → (pick key names ≡ Some n → n.1 < pages) → n.1 < pages
    by (Some m) b below same deeper = deeper (below ∙ same)
    by None true below same deeper = let is : name ≡ n = cc in subst (λ (m : Name). m.1 < pages) is inside.0
    by None false below same deeper = absurd (let no : None ≡ Some n = same in cc)

-- the page on the way is one so high, with an entry to go on by, and what that leads to is on the way
pub record StepDown (pages : ℕ) (contents : Contents) (table : ℕ) (leaves : List TreeLeaf) (key : ℤ) (page height : ℕ) : Type 0 where
  pub names : List Name
  pub stands : IsInnerPage (page_of contents page) table page (suc height) names
  pub child : ℕ
  pub picked : page_in_name (pick key names) ≡ Some child
  pub inside : child < pages
  pub next : OnWay pages contents table leaves key child height

abbrev name_of : InnerNode → Name
name_of node = (node.low, node.page)

length_suc : (a b : ℕ) → suc a ≡ suc b → a ≡ b
length_suc a b same = omega (arith, same)

pub way_on : (pages : ℕ) (contents : Contents) (table : ℕ) (leaves : List TreeLeaf) (key : ℤ) (page height : ℕ) → OnWay pages contents table leaves key page (suc height) → StepDown pages contents table leaves key page height
way_on pages contents table leaves key page height w = by w.levels w.leads w.begin w.stand w.inside w.high
  where
    node_page : (m : InnerNode) → page_in_name (option_map name_of (Some m)) ≡ Some page → m.page ≡ page
    node_page m same = some_page m.page page same

    there : (level : List InnerNode) (levels : List (List InnerNode)) → Lead (entries_of level) levels (leaf_names leaves) → AllBegin level → LevelStands contents table (suc (length levels)) level → NamesInside pages (entries_of level) → length levels ≡ height
        → ((child : ℕ) → page_in_name (pick key (entries_of level)) ≡ Some child → OnWay pages contents table leaves key child height) → pick key (entries_of level) ≡ pick_in key (pick_node key level)
        → (o : Option InnerNode) → pick_node key level ≡ o → page_in_name (option_map name_of o) ≡ Some page → StepDown pages contents table leaves key page height
    there level levels leads begin stand inside high next down None is picked = absurd (let no : None ≡ Some page = picked in cc)
    there level levels leads begin stand inside high next down (Some m) is picked =
        let same = node_page m picked in
        let stands : IsInnerPage (page_of contents m.page) table m.page (suc (length levels)) m.names = node_stands contents table (suc (length levels)) key level m stand is in
        let some = some_picked key m.low m.names (node_begins key level m begin is) (node_near key level m is) in
        let all : pick key (entries_of level) ≡ Some some.0 = down ∙ ap (pick_in key) is ∙ some.1 in
        record {
          names = m.names;
          stands = subst (λ (n : ℕ). IsInnerPage (page_of contents page) table page (suc n) m.names) high (subst (λ (p : ℕ). IsInnerPage (page_of contents p) table p (suc (length levels)) m.names) same stands);
          child = some.0.1;
          picked = ap page_in_name some.1;
          inside = picked_inside pages key (entries_of level) some.0 inside all;
          next = next some.0.1 (ap page_in_name all);
        }

    by : (levels : List (List InnerNode)) → Lead w.names levels (leaf_names leaves) → LevelsBegin levels → LevelsStand contents table levels → LevelsInside pages levels → length levels ≡ suc height → StepDown pages contents table leaves key page height
    by [] leads begin stand inside high = absurd (let no : 0 ≡ suc height = high in omega (arith, no))
    by (level ∷ levels) leads begin stand inside high =
        let fewer : length levels ≡ height = length_suc (length levels) height high in
        let rises = lead_rises (entries_of level) levels (leaf_names leaves) leads.1 begin.1 (leaves_rise leaves w.ranged) in
        let picked : page_in_name (option_map name_of (pick_node key level)) ≡ Some page = ap page_in_name (sym (node_picked key level)) ∙ ap (λ (n : List Name). page_in_name (pick key n)) leads.0 ∙ w.picked in
        there level levels leads.1 begin.0 stand.0 inside.0 fewer
        (λ child at. record { names = entries_of level; levels = levels; leads = leads.1; begin = begin.1; stand = stand.1; inside = inside.1; ranged = w.ranged; high = fewer; picked = at })
        (descends key level begin.0 rises) (pick_node key level) refl picked

-- ---- the leaf

pub way_ends : (pages : ℕ) (contents : Contents) (table : ℕ) (leaves : List TreeLeaf) (key : ℤ) (page height : ℕ) → height ≡ 0 → OnWay pages contents table leaves key page height → page_in_leaf (pick_leaf key leaves) ≡ Some page
way_ends pages contents table leaves key page height none w = by w.levels w.leads w.high
  where
    pages_same : (o : Option TreeLeaf) → page_in_name (option_map (λ (leaf : TreeLeaf). let n : Name = (leaf.low, leaf.page) in n) o) ≡ page_in_leaf o
    pages_same None = refl
    pages_same (Some leaf) = refl

    by : (levels : List (List InnerNode)) → Lead w.names levels (leaf_names leaves) → length levels ≡ height → page_in_leaf (pick_leaf key leaves) ≡ Some page
    by [] leads high = sym (pages_same (pick_leaf key leaves)) ∙ ap page_in_name (sym (leaf_picked key leaves)) ∙ ap (λ (n : List Name). page_in_name (pick key n)) (sym leads) ∙ w.picked
    by (level ∷ levels) leads high = let some : suc (length levels) ≡ height = high in absurd (omega (arith, some, none))

-- the leaf that the way leads to, and the row of the key on it
pub record LeafFor (contents : Contents) (table : ℕ) (leaves : List TreeLeaf) (key : ℤ) (page : ℕ) : Type 0 where
  pub rows : List Stored
  pub next : ℕ
  pub stands : IsLeafPage (page_of contents page) table page next rows
  pub found : find key (all_rows leaves) ≡ find key rows

leaf_stands_for : (contents : Contents) (table : ℕ) (key : ℤ) (leaves : List TreeLeaf) (m : TreeLeaf) → LeavesStand contents table leaves → pick_leaf key leaves ≡ Some m → (next : ℕ) × IsLeaf (page_of contents m.page) table m.page next m.rows
leaf_stands_for contents table key [] m stand is = absurd (let no : None ≡ Some m = is in cc)
leaf_stands_for contents table key (leaf ∷ leaves) m stand is = by (pick_leaf key leaves) (int_le leaf.low key) refl is (leaf_stands_for contents table key leaves m stand.1)
  where
    by : (o : Option TreeLeaf) (b : Bool) → pick_leaf key leaves ≡ o → or_else o (if b then Some leaf else None) ≡ Some m → (pick_leaf key leaves ≡ Some m → (next : ℕ) × IsLeaf (page_of contents m.page) table m.page next m.rows) → (next : ℕ) × IsLeaf (page_of contents m.page) table m.page next m.rows
    by (Some n) b below same deeper = deeper (below ∙ same)
    by None true below same deeper = let is : leaf ≡ m = cc in subst (λ (n : TreeLeaf). (next : ℕ) × IsLeaf (page_of contents n.page) table n.page next n.rows) is (first_page leaves, stand.0)
    by None false below same deeper = absurd (let no : None ≡ Some m = same in cc)

pub leaf_found : (pages : ℕ) (contents : Contents) (table root : ℕ) (levels : List (List InnerNode)) (leaves : List TreeLeaf) (key : ℤ) (page : ℕ) → IsTreeOf pages contents table root levels leaves → page_in_leaf (pick_leaf key leaves) ≡ Some page → LeafFor contents table leaves key page
leaf_found pages contents table root levels leaves key page is picked = by (pick_leaf key leaves) refl picked
  where
    by : (o : Option TreeLeaf) → pick_leaf key leaves ≡ o → page_in_leaf o ≡ Some page → LeafFor contents table leaves key page
    by None at same = absurd (let no : None ≡ Some page = same in cc)
    by (Some m) at same =
        let there = leaf_stands_for contents table key leaves m is.stand at in
        let page_is : m.page ≡ page = some_page m.page page same in
        record {
          rows = m.rows;
          next = there.0;
          stands = subst (λ (p : ℕ). IsLeafPage (page_of contents p) table p there.0 m.rows) page_is there.1.page;
          found = found_on key leaves is.levelled.ranged ∙ ap (find_in key) at;
        }

-- ---- the least key goes to the first leaf

first_name : (low : ℤ) (names : List Name) → BeginsAt low names → low ≡ least_key → (page : ℕ) × (rest : List Name) × (names ≡ (least_key, page) ∷ rest)
first_name low [] begins is = absurd begins
first_name low (name ∷ names) begins is = let key : name.0 ≡ least_key = begins ∙ is in (name.1, names, λ i. (key i, name.1) ∷ names)

-- what a tree's levels lead to begins with the least key
led_least : (page : ℕ) (rest : List Name) (levels : List (List InnerNode)) (below : List Name) → Lead ((least_key, page) ∷ rest) levels below → LevelsBegin levels → (first : ℕ) × (more : List Name) × (below ≡ (least_key, first) ∷ more)
led_least page rest [] below leads begin = (page, rest, sym leads)
led_least page rest ([] ∷ levels) below leads begin = absurd (let no : [] ≡ (least_key, page) ∷ rest = leads.0 in cc)
led_least page rest ((node ∷ level) ∷ levels) below leads begin =
    let same : (node.low, node.page) ∷ names_of level ≡ (least_key, page) ∷ rest = leads.0 in
    let low : node.low ≡ least_key = first_key_is (node.low, node.page) (least_key, page) (names_of level) rest same in
    let f = first_name node.low node.names begin.0.0 low in
    let entries : entries_of (node ∷ level) ≡ (least_key, f.0) ∷ (f.1 ++ entries_of level) = ap (λ (names : List Name). names ++ entries_of level) f.2 in
    led_least f.0 (f.1 ++ entries_of level) levels below (subst (λ (l : List Name). Lead l levels below) entries leads.1) begin.1

above_least : (key low : ℤ) → int_lt key low ≡ true → int_le low key ≡ false
above_least key low less = grind (arith, ints)

none_picks : (leaf : TreeLeaf) (leaves : List TreeLeaf) → LiesBefore leaf leaves → pick_leaf leaf.low leaves ≡ None
none_picks leaf [] lies = refl
none_picks leaf (x ∷ leaves) lies = λ i. or_else (none_picks leaf leaves lies.2 i) (if above_least leaf.low x.low lies.0 i then Some x else None)

itself_near : (low : ℤ) → int_le low low ≡ true
itself_near low = grind (arith, ints)

pub least_picks : (root : ℕ) (levels : List (List InnerNode)) (leaf : TreeLeaf) (rest : List TreeLeaf) → IsLevelled root levels (leaf ∷ rest) → pick_leaf least_key (leaf ∷ rest) ≡ Some leaf
least_picks root levels leaf rest is =
    let led = led_least root [] levels (leaf_names (leaf ∷ rest)) is.leads is.begin in
    let low : leaf.low ≡ least_key = first_key_is (leaf.low, leaf.page) (least_key, led.0) (leaf_names rest) led.1 led.2 in
    ap (λ (k : ℤ). pick_leaf k (leaf ∷ rest)) (sym low)
    ∙ (λ i. or_else (none_picks leaf rest is.ranged.2 i) (if itself_near leaf.low i then Some leaf else None))
